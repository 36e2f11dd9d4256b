-- A layout that reads between two offsets has its marks there.
use Rattle.std.proofs.Common.{◌≡◌, ℕ, zero, suc, ◌+◌, ◌-◌, ◌<◌, ◌≤◌, min, Bool, true, false, cond, inl, inr, List, ◌++◌, length, Result, Ok, Err, refl, sym, ap, ◌∙◌, arith}
use Rattle.std.proofs.lemmas.Bool.{or_cases}
use Rattle.std.proofs.lemmas.Bool.Decides.{nat_tests}
use Rattle.std.proofs.lemmas.List.Folds.{list_any-append}
use Rattle.imagesize_source.specs.declared.halt.Halt.{Halt}
use Rattle.imagesize_source.specs.declared.span.Span.{Span}
use Rattle.imagesize_source.specs.Agreement.{is_covered, has_offset}
use Rattle.imagesize_source.specs.Input.{span_at, span_of}
use Rattle.imagesize_source.specs.Layout.{Layout, done, refuse, field, reading, begin_record, layout_reads, bind, accept}
use Rattle.imagesize_source.specs.Reading.{Reads, Reading, AllOf, PartOf, TextOf, go_on, read_of, most, number_at, text_part}
use Rattle.imagesize_source.proofs.Among.{covered-any}
use Rattle.imagesize_source.proofs.Answered.{bytes_is}
use Rattle.imagesize_source.proofs.Counts.{text_length}
use Rattle.imagesize_source.proofs.Parts.{part_length}
use Rattle.imagesize_source.proofs.Runs.{part_is}
use Rattle.imagesize_pieces.specs.Stream.{Reach}

-- each offset of the spans lies between these
abbrev Between : ℕ → ℕ → List Span → Type 0
Between low high spans = (offset : ℕ) → is_covered spans offset ≡ true → (low ≤ offset) × (offset < high)

between_span : (start n : ℕ) → Between start (start + n) (span_at start n)
unfolding span_at
between_span start zero offset is = absurd cc
between_span start (suc n) offset is = (grind (arith, nat_tests), grind (arith, nat_tests))

between_part : (d : List ℕ) (start k : ℕ) → Between start (start + k) (span_of d start k)
unfolding span_of
between_part d start k offset is = let h = between_span start (min k (length d - start)) offset is in
    (h.0, omega (arith, h.1))

between_reading : (d : List ℕ) (r : Reading) (start : ℕ) → Between start (start + most r) (read_of d r start).marks
between_reading d (AllOf k) start offset is = between_part d start k offset is
between_reading d (PartOf k) start offset is = between_part d start k offset is
between_reading d (TextOf t k) start offset is =
    let h = between_span start (length (text_part d t start k)) offset is in
    (h.0, omega (arith, h.1, text_length d t start k, part_length d start k))

-- spans, and those of what goes on from them
between_onward : {X Y : Type 0} (low high from to : ℕ) (spans : List Span) (r : Result X Halt) (f : X → Reads Y)
    → Between from to spans → low ≤ from → to ≤ high → ((x : X) → r ≡ Ok x → Between low high (f x).marks)
    → Between low high (go_on spans r f).marks
between_onward low high from to spans (Ok x) f first early late rest offset is =
    let parts = covered-any (spans ++ (f x).marks) offset ∙ list_any-append (λ s. has_offset s offset) spans (f x).marks in
    elim (or_cases _ _ (sym parts ∙ is)) [
      | inl here ↦ (let h = first offset (covered-any spans offset ∙ here) in (omega (arith, h.0, early), omega (arith, h.1, late)))
      | inr later ↦ rest x refl offset (covered-any (f x).marks offset ∙ later)
    ]
between_onward low high from to spans (Err e) f first early late rest offset is =
    let h = first offset is in (omega (arith, h.0, early), omega (arith, h.1, late))

-- a reading gives no more bytes than it asks for
read_most : (d : List ℕ) (r : Reading) (start : ℕ) (bs : List ℕ) → (read_of d r start).answer ≡ Ok bs
    → length bs ≤ most r
read_most d (AllOf k) start bs is = omega (arith, ap length (bytes_is d bs start k is), part_length d start k)
read_most d (PartOf k) start bs is = omega (arith, ap length (part_is is), part_length d start k)
read_most d (TextOf t k) start bs is = omega (arith, ap length (part_is is), text_length d t start k, part_length d start k)

pub reach_covered : {X : Type 0} (d : List ℕ) (low high : ℕ) (t : Layout X) → Reach low high t → (offset : ℕ)
    → is_covered (layout_reads d t).marks offset ≡ true → (low ≤ offset) × (offset < high)
reach_covered d low high (done x) reach offset is = absurd cc
reach_covered d low high (refuse e) reach offset is = absurd cc
reach_covered d low high (field order start n f) reach offset is =
    between_onward low high start (start + n) (span_of d start n) (number_at d order start n) (λ v. layout_reads d (f v))
    (between_part d start n) reach.0 reach.1 (λ v _. reach_covered d low high (f v) (reach.2 v)) offset is
reach_covered d low high (reading r start f) reach offset is =
    between_onward low high start (start + most r) (read_of d r start).marks (read_of d r start).answer (λ bs. layout_reads d (f bs))
    (between_reading d r start) reach.0 reach.1
    (λ bs got. reach_covered d low high (f bs) (reach.2 bs (read_most d r start bs got))) offset is
reach_covered d low high (begin_record t) reach offset is = reach_covered d low high t reach offset is

-- what reads so far reads no farther
pub reach_more : {X : Type 0} (low high more : ℕ) (t : Layout X) → high ≤ more → Reach low high t → Reach low more t
reach_more low high more (done x) far reach = tt
reach_more low high more (refuse e) far reach = tt
reach_more low high more (field order start n f) far reach =
    (reach.0, omega (arith, far, reach.1), λ v. reach_more low high more (f v) far (reach.2 v))
reach_more low high more (reading r start f) far reach =
    (reach.0, omega (arith, far, reach.1), λ bs few. reach_more low high more (f bs) far (reach.2 bs few))
reach_more low high more (begin_record t) far reach = reach_more low high more t far reach

-- both sides of a test
pub reach_if : {X : Type 0} (b : Bool) (low high : ℕ) (t u : Layout X) → Reach low high t → Reach low high u
    → Reach low high (cond b t u)
reach_if true low high t u first second = first
reach_if false low high t u first second = second

-- what is accepted, and what goes on from it
pub reach_accept : {X Y : Type 0} (low high : ℕ) (r : Result X Halt) (f : X → Layout Y)
    → ((x : X) → r ≡ Ok x → Reach low high (f x))
    → Reach low high (accept r f)
reach_accept low high (Ok x) f rest = rest x refl
reach_accept low high (Err e) f rest = tt

-- a layout, and what goes on from its answer
pub reach_bind : {X Y : Type 0} (low high : ℕ) (t : Layout X) (g : X → Layout Y) → Reach low high t
    → ((x : X) → Reach low high (g x))
    → Reach low high (bind t g)
reach_bind low high (done x) g reach rest = rest x
reach_bind low high (refuse e) g reach rest = tt
reach_bind low high (field order offset n f) g reach rest =
    (reach.0, reach.1, λ v. reach_bind low high (f v) g (reach.2 v) rest)
reach_bind low high (reading r offset f) g reach rest =
    (reach.0, reach.1, λ bs few. reach_bind low high (f bs) g (reach.2 bs few) rest)
reach_bind low high (begin_record t) g reach rest = reach_bind low high t g reach rest
