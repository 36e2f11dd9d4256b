-- Readings that go forward spend the bytes of an input, each byte once.
use Rattle.std.proofs.Common.{◌≡◌, ℕ, ◌+◌, ◌-◌, ◌≤◌, List, length, Option, None, Some, Result, Ok, Err, ap, arith}
use Rattle.imagesize_source.specs.declared.halt.Halt.{Halt}
use Rattle.imagesize_source.specs.declared.span.Span.{Span}
use Rattle.imagesize_source.specs.Chain.{Said, Decided, Next, Chain, Along, start, next_record, verdict, chain_from, chain_at, Advances}
use Rattle.imagesize_source.specs.Input.{span_of}
use Rattle.imagesize_source.specs.Layout.{Layout, done, refuse, field, reading, begin_record, layout_reads}
use Rattle.imagesize_source.specs.Reading.{Reads, Reading, AllOf, PartOf, TextOf, go_on, and_then, read_of}
use Rattle.imagesize_source.specs.State.{total}
use Rattle.imagesize_source.proofs.ChainLaws.{chain_induction}
use Rattle.imagesize_source.proofs.Chains.{chain_next, chain_stop}
use Rattle.imagesize_source.proofs.Counts.{text_length, total-span_at, total_there}
use Rattle.imagesize_source.proofs.Runs.{part_is, total-append}
use Rattle.imagesize_source.proofs.Parts.{part_length}

-- how many of n bytes are left from an offset on, or none where nothing goes on
abbrev pub left_of : ℕ → Option ℕ → ℕ
left_of n None = 0
left_of n (Some offset) = n - offset

-- how many are left behind an answer, from the offset where it goes on
abbrev pub left : {X : Type 0} → ℕ → (X → Option ℕ) → Result X Halt → ℕ
left n to (Ok x) = left_of n (to x)
left n to (Err e) = 0

-- of the bytes from q on, the readings saw some, and their answer leaves the others
abbrev pub Spends : {X : Type 0} → ℕ → ℕ → (X → Option ℕ) → Reads X → Type 0
Spends n q to r = total r.marks + left n to r.answer ≤ n - q

-- nothing goes on, or it does at q or behind it
abbrev pub NotBefore : ℕ → Option ℕ → Type 0
NotBefore q None = Unit {0}
NotBefore q (Some offset) = q ≤ offset

-- how many offsets behind its own a reading leads
abbrev pub passed : Reading → List ℕ → ℕ
passed (AllOf k) bs = k
passed (PartOf k) bs = k
passed (TextOf t k) bs = length bs

-- From q on each reading begins behind the ones before it, and the answer goes on behind them all.
abbrev pub Onto : {X : Type 0} → (X → Option ℕ) → ℕ → Layout X → Type 0
Onto to q (done x) = NotBefore q (to x)
Onto to q (refuse e) = Unit {0}
Onto to q (field order offset k f) = (q ≤ offset) × ((v : ℕ) → Onto to (offset + k) (f v))
Onto to q (reading r offset f) = (q ≤ offset) × ((bs : List ℕ) → Onto to (offset + passed r bs) (f bs))
Onto to q (begin_record t) = Onto to q t

-- a reading leaves the bytes behind those that it leads over
reading_spends : (d : List ℕ) (r : Reading) (offset : ℕ) (bs : List ℕ) → (read_of d r offset).answer ≡ Ok bs
    → total (read_of d r offset).marks + (length d - (offset + passed r bs)) ≤ length d - offset
reading_spends d r offset bs is = grind (arith, total_there, part_is, total-span_at, text_length, part_length)

-- and has no more of them than there are
reading_left : (d : List ℕ) (r : Reading) (offset : ℕ) → total (read_of d r offset).marks ≤ length d - offset
reading_left d r offset = grind (arith, total_there, part_is, total-span_at, text_length, part_length)

onward_spends : {X Y : Type 0} (n q : ℕ) (to : Y → Option ℕ) (spans : List Span) (r : Result X Halt) (f : X → Reads Y)
    (next : X → ℕ) → total spans ≤ n - q → ((x : X) → r ≡ Ok x → total spans + (n - next x) ≤ n - q)
    → ((x : X) → r ≡ Ok x → Spends n (next x) to (f x)) → Spends n q to (go_on spans r f)
onward_spends n q to spans r f next few here rest = grind (arith, total-append)

-- a layout that goes forward spends the bytes of the input
pub spends : {X : Type 0} (d : List ℕ) (to : X → Option ℕ) (q : ℕ) (t : Layout X) → Onto to q t
    → Spends (length d) q to (layout_reads d t)
spends d to q (field order offset k f) h =
    onward_spends (length d) q to (span_of d offset k) _ _ (λ _. offset + k)
    (omega (arith, h.0, total_there d offset k)) (λ v _. omega (arith, h.0, total_there d offset k))
    (λ v _. spends d to (offset + k) (f v) (h.1 v))
spends d to q (reading r offset f) h =
    onward_spends (length d) q to (read_of d r offset).marks _ _ (λ bs. offset + passed r bs)
    (omega (arith, h.0, reading_left d r offset)) (λ bs is. omega (arith, h.0, reading_spends d r offset bs is))
    (λ bs _. spends d to (offset + passed r bs) (f bs) (h.1 bs))
spends d to q (begin_record t) h = spends d to q t h
spends d to q _ h = grind arith

-- readings, and others that go on from the offset where they lead
pub spends_then : {X Y : Type 0} (n q : ℕ) (next : X → ℕ) (to : Y → Option ℕ) (r : Reads X) (f : X → Reads Y)
    → Spends n q (λ x. Some (next x)) r → ((x : X) → r.answer ≡ Ok x → Spends n (next x) to (f x))
    → Spends n q to (and_then r f)
spends_then {X} {Y} n q next to r f first rest = grind (arith, total-append)

-- where a chain goes on behind a record: at the offset of the next, or where its answer does
abbrev pub said_to : {C X : Type 0} → (X → Option ℕ) → Said C X → Option ℕ
said_to to (Decided x) = to x
said_to to (Next v offset) = Some offset

verdict_left : {C X : Type 0} (n : ℕ) (to : X → Option ℕ) (said : Result (Said C X) Halt) (r : Result X Halt)
    → verdict said ≡ Some r → left n to r ≡ left n (said_to to) said
verdict_left n to said r is = grind arith

-- a chain of records that each go forward spends the bytes from its first offset on
pub chain_onto : {C X : Type 0} (c : Chain C X) (d : List ℕ) (to : X → Option ℕ) → Advances c d
    → ((held : List C) (offset : ℕ) → Onto (said_to to) offset (c.said held offset))
    → Spends (length d) c.first to (chain_at c d)
chain_onto {C} {X} c d to adv onto = chain_induction c d (λ t. Spends (length d) t.offset to (chain_from c d t)) adv
    (λ t v offset is later. rw (chain_next c d t v offset adv is)
    (omega (arith, each t, later, ap (left (length d) (said_to to)) is, total-append)))
    (λ t r is. rw (chain_stop c d t r is) (omega (arith, each t, verdict_left (length d) to (next_record c d t).answer r is)))
    (start c)
  where
    each : (t : Along C) → Spends (length d) t.offset (said_to to) (next_record c d t)
    each t = spends d (said_to to) t.offset (c.said t.held t.offset) (onto t.held t.offset)
