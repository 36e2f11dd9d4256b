-- What an input has that shares the bytes that were read: the same answer, however much longer the other is.
use Rattle.std.proofs.Common.{◌≡◌, ℕ, zero, suc, ◌+◌, ◌-◌, ◌<◌, ◌≤◌, min, leb, List, [], ◌∷◌, ◌++◌, length, Result, Ok, Err, Some, refl, sym, ap, ◌∙◌, arith}
use Rattle.std.proofs.lemmas.Bool.Decides.{nat_tests}
use Rattle.std.proofs.lemmas.List.{ext_get_or}
use Rattle.imagesize_source.specs.declared.halt.Halt.{Halt}
use Rattle.imagesize_source.specs.declared.endian.Endian.{Endian}
use Rattle.imagesize_source.specs.declared.span.Span.{Span}
use Rattle.imagesize_source.specs.declared.text.Text.{Text}
use Rattle.imagesize_source.specs.Chain.{Said, Decided, Next, Chain, Along, next_record, verdict, chain_from, Advances}
use Rattle.imagesize_source.specs.Input.{part, span_at, span_of}
use Rattle.imagesize_source.specs.Layout.{Layout, field, reading, begin_record, layout_reads}
use Rattle.imagesize_source.specs.Reading.{Reads, Reading, after_records, and_then, uncounted, go_on, put_behind, bytes_at, number_at, number_read, text_part, read_of}
use Rattle.imagesize_source.specs.Sharing.{Shares}
use Rattle.imagesize_source.specs.Walk.{Step, run, states}
use Rattle.imagesize_source.proofs.Agreement.{covered-left, covered-right, covered-one}
use Rattle.imagesize_source.proofs.ChainLaws.{chain_induction}
use Rattle.imagesize_source.proofs.Chains.{chain_unfolds, follows}
use Rattle.imagesize_source.proofs.Marks.{behind-behind}
use Rattle.imagesize_source.proofs.States.{run_next}
use Rattle.imagesize_source.proofs.Parts.{part_length, part_at, part_front, part_whole}
use Rattle.imagesize_source.proofs.Texts.{front_same, front_length, front_take}

pub shares-left : {d e : List ℕ} (s t : List Span) → Shares d e (s ++ t) → Shares d e s
shares-left s t a = record { no_longer = a.no_longer; there = λ offset h. a.there offset (covered-left s t offset h) }

pub shares-right : {d e : List ℕ} (s t : List Span) → Shares d e (s ++ t) → Shares d e t
shares-right s t a = record { no_longer = a.no_longer; there = λ offset h. a.there offset (covered-right s t offset h) }

-- the input contains all of a span
span_there : (d e : List ℕ) (offset n : ℕ) → Shares d e (span_at offset n) → n ≤ length d - offset
span_there d e offset zero a = omega arith
span_there d e offset (suc n) a = omega (arith, (a.there (offset + n) (covered-one offset (suc n) n (omega arith))).0)

-- as many bytes of a reading are there
shared_count : (d e : List ℕ) (offset k : ℕ) → Shares d e (span_of e offset k)
    → min k (length d - offset) ≡ min k (length e - offset)
unfolding span_of
shared_count d e offset k a = omega (arith, span_there d e offset (min k (length e - offset)) a, a.no_longer)

shared_span : (d e : List ℕ) (offset k : ℕ) → Shares d e (span_of e offset k) → span_of d offset k ≡ span_of e offset k
unfolding span_of
shared_span d e offset k a = ap (span_at offset) (shared_count d e offset k a)

-- both inputs have the same bytes in a span
shared_there : (d e : List ℕ) (offset n : ℕ) → n ≤ length e - offset → Shares d e (span_at offset n)
    → part d offset n ≡ part e offset n
shared_there d e offset n few a =
    let long = part_length d offset n in
    ext_get_or 0 (part d offset n) (part e offset n) (omega (arith, part_length e offset n, span_there d e offset n a))
    (λ i h.
    let below : i < n = omega arith in
    part_at d offset n i below ∙ (a.there (offset + i) (covered-one offset n i below)).1 ∙ sym (part_at e offset n i below))

shared_part : (d e : List ℕ) (offset k : ℕ) → Shares d e (span_of e offset k) → part d offset k ≡ part e offset k
unfolding span_of
shared_part d e offset k a = grind (arith, part_whole, shared_count, shared_there)

shared_bytes : (d e : List ℕ) (offset k : ℕ) → Shares d e (span_of e offset k) → bytes_at d offset k ≡ bytes_at e offset k
unfolding bytes_at
shared_bytes d e offset k a =
    let same = shared_count d e offset k a in
    let test : leb k (length d - offset) ≡ leb k (length e - offset) = grind (arith, nat_tests) in
    rw (test, shared_part d e offset k a) refl

-- a text whose bytes are there
shared_text : (d e : List ℕ) (t : Text) (offset k : ℕ) → Shares d e (span_at offset (length (text_part e t offset k)))
    → text_part d t offset k ≡ text_part e t offset k
unfolding text_part
shared_text d e t offset k a = grind (arith, front_length, part_length, front_same, part_front, shared_there, front_take)

shared_reading : (d e : List ℕ) (r : Reading) (offset : ℕ) → Shares d e (read_of e r offset).marks
    → read_of d r offset ≡ read_of e r offset
shared_reading d e r offset a = grind (arith, shared_span, shared_bytes, shared_part, shared_text)

shared_number : (d e : List ℕ) (order : Endian) (offset k : ℕ) → Shares d e (span_of e offset k)
    → number_read d order offset k ≡ number_read e order offset k
unfolding number_at
shared_number d e order offset k a = rw (shared_span d e offset k a, shared_bytes d e offset k a) refl

-- what follows a read is the same, if it is the same after each result
shared_then : {d e : List ℕ} {X Y : Type 0} (p q : Reads X) (f g : X → Reads Y) → Shares d e (and_then p f).marks
    → (Shares d e p.marks → q ≡ p) → ((x : X) → p.answer ≡ Ok x → Shares d e (f x).marks → g x ≡ f x)
    → and_then q g ≡ and_then p f
shared_then {d} {e} {X} p q f g a here rest = by_answer p.answer refl a where
  by_answer : (r : Result X Halt) → p.answer ≡ r → Shares d e (go_on p.marks r f).marks → and_then q g ≡ and_then p f
  by_answer (Ok x) is a =
      rw (here (shares-left p.marks (f x).marks a), is, rest x is (shares-right p.marks (f x).marks a)) refl
  by_answer (Err halt) is a = rw (here a, is) refl

-- An input that shares the marks of a layout has the same answer and the same marks.
pub shared : {X : Type 0} (d e : List ℕ) (t : Layout X) → Shares d e (layout_reads e t).marks
    → layout_reads d t ≡ layout_reads e t
shared d e (field order offset k f) a =
    shared_then _ _ _ _ a (shared_number d e order offset k) (λ v is. shared d e (f v))
shared d e (reading r offset f) a =
    shared_then _ _ _ _ a (shared_reading d e r offset) (λ bs is. shared d e (f bs))
shared d e (begin_record t) a = ap (after_records 1) (shared d e t a)
shared d e _ a = refl

-- and so it is of a chain from some records on
module _ {C X : Type 0} (c : Chain C X) (d e : List ℕ) (adv_d : Advances c d) (adv : Advances c e) where
  by_record : (t : Along C) → ((x : Said C X) → (next_record c e t).answer ≡ Ok x → Shares d e (follows c e t.held x).marks
      → follows c d t.held x ≡ follows c e t.held x)
      → Shares d e (chain_from c e t).marks → chain_from c d t ≡ chain_from c e t
  by_record t rest a = grind (arith, chain_unfolds, shared_then, shared)

  chain_shared : (t : Along C) → Shares d e (chain_from c e t).marks → chain_from c d t ≡ chain_from c e t
  chain_shared = chain_induction c e
      (λ t. Shares d e (chain_from c e t).marks → chain_from c d t ≡ chain_from c e t) adv
      (λ t v offset is later. by_record t (λ x also. let same : x ≡ Next v offset = cc in rw same later))
      (λ t r is. by_record t (λ x also _. decided t.held x r (ap verdict (sym also) ∙ is)))
    where
      decided : (held : List C) (x : Said C X) (r : Result X Halt) → verdict (Ok x) ≡ Some r
          → follows c d held x ≡ follows c e held x
      decided held (Decided x) r is = refl
      decided held (Next v offset) r is = absurd cc

-- and of records over a state
module _ {S X : Type 0} (step : Step S X) (d e : List ℕ) (adv_d : Advances (states step) d) where
  pub run_shared : Advances (states step) e → (s : S) (offset : ℕ) → Shares d e (run step s offset e).marks
      → run step s offset d ≡ run step s offset e
  unfolding run
  run_shared adv s offset a = chain_shared (states step) d e adv_d adv (record { held = s ∷ []; offset = offset }) a

  -- an input that shares the marks of the readings up to a record comes to it, and goes on from there
  pub leads_on : (s t v : S) (first offset q : ℕ) (made : List Span)
      → (Shares d e made → uncounted (run step s first d) ≡ put_behind made (uncounted (run step t offset d)))
      → (layout_reads e (step t offset)).answer ≡ Ok (Next v q) → Shares d e (made ++ (layout_reads e (step t offset)).marks)
      → uncounted (run step s first d) ≡ put_behind (made ++ (layout_reads e (step t offset)).marks) (uncounted (run step v q d))
  leads_on s t v first offset q made so_far is a =
      let here = shared d e (step t offset) (shares-right made (layout_reads e (step t offset)).marks a) in
      so_far (shares-left made (layout_reads e (step t offset)).marks a)
      ∙ ap (λ w. put_behind made (uncounted w)) (run_next step d adv_d t v offset q (ap (λ w. w.answer) here ∙ is))
      ∙ ap (λ w. put_behind made (put_behind w.marks (uncounted (run step v q d)))) here
      ∙ behind-behind made (layout_reads e (step t offset)).marks (uncounted (run step v q d))
