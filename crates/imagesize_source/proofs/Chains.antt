-- A chain from some records on is its next record, and the chain from there on.
use Rattle.std.proofs.Common.{◌≡◌, ℕ, zero, suc, ◌+◌, ◌-◌, ◌<◌, ◌≤◌, Bool, List, [], ◌∷◌, ◌++◌, length, Some, Result, Ok, Err, inl, inr, is_some, refl, ap, ◌∙◌, subst, arith}
use Rattle.std.proofs.lemmas.Bool.{cases_Bool}
use Rattle.std.proofs.lemmas.List.{append-nil}
use Rattle.std.proofs.Math.Numerals.{add-one}
use Rattle.std.proofs.Math.Nat.{add-zero}
use Rattle.std.specs.Prelude.{option_and_then, flat_map}
use Rattle.std.specs.List.{position_or_len, range_with_len, sum_by}
use Rattle.std.proofs.lemmas.List.Sums.{sum_by-cons}
use Rattle.imagesize_source.specs.declared.halt.Halt.{Halt}
use Rattle.imagesize_source.specs.Chain.{Said, Decided, Next, Chain, Along, next_record, leads, verdict, trail, verdict_of, marks_of, begun_of, deciding_record, records_from, chain_from, Advances}
use Rattle.imagesize_source.specs.Reading.{Reads, after_records, and_then, gives, go_on, put_behind, with_answer}
use Rattle.imagesize_source.proofs.Marks.{plus-is, plus-zero}

-- a list of numbers one higher
flat_map_shift : {A : Type 0} (f g : ℕ → List A) (a k : ℕ) → ((i : ℕ) → f (i + 1) ≡ g i)
    → flat_map f (range_with_len (a + 1) k) ≡ flat_map g (range_with_len a k)
flat_map_shift f g a zero same = refl
flat_map_shift f g a (suc k) same = rw (same a) (ap (λ xs. g a ++ xs) (flat_map_shift f g (a + 1) k same))

sum_shift : (f g : ℕ → ℕ) (a k : ℕ) → ((i : ℕ) → f (i + 1) ≡ g i)
    → sum_by f (range_with_len (a + 1) k) ≡ sum_by g (range_with_len a k)
sum_shift f g a zero same = refl
sum_shift f g a (suc k) same = rw (sum_by-cons f, sum_by-cons g, same a, sum_shift f g (a + 1) k same) refl

position_shift : (p q : ℕ → Bool) (a k : ℕ) → ((i : ℕ) → p (i + 1) ≡ q i)
    → position_or_len p (range_with_len (a + 1) k) ≡ position_or_len q (range_with_len a k)
position_shift p q a zero same = refl
position_shift p q a (suc k) same = rw (same a, position_shift p q (a + 1) k same) refl

-- one more number behind the first that passes
position_longer : (p : ℕ → Bool) (a k : ℕ) → position_or_len p (range_with_len a k) < k
    → position_or_len p (range_with_len a (suc k)) ≡ position_or_len p (range_with_len a k)
position_longer p a zero found = absurd (omega arith)
position_longer p a (suc k) found = elim (cases_Bool (p a)) [
  | inl here ↦ rw here refl
  | inr later ↦ rw later (ap (λ n. 1 + n) (position_longer p (a + 1) k (let few = rw later at found in omega arith)))
]

module _ {C X : Type 0} (c : Chain C X) (d : List ℕ) where
  -- What holds of each record with what follows it, where it tells the offset of the next, and of each with
  -- a verdict, holds of the chain from any records on.
  pub chain_induction : (P : Along C → Type 0) → Advances c d
      → ((t : Along C) (v : C) (offset : ℕ) → (next_record c d t).answer ≡ Ok (Next v offset)
      → P (record { held = t.held ++ v ∷ []; offset = offset }) → P t)
      → ((t : Along C) (r : Result X Halt) → verdict (next_record c d t).answer ≡ Some r → P t)
      → (t : Along C) → P t
  chain_induction P adv on last t = by_fuel (length d) t (omega arith) where
    by_record : (t : Along C) (r : Result (Said C X) Halt) → (next_record c d t).answer ≡ r
        → ((u : Along C) → t.offset < u.offset → t.offset < length d → P u) → P t
    by_record t (Ok (Decided x)) is later = last t (Ok x) (ap verdict is)
    by_record t (Ok (Next v offset)) is later =
        on t v offset is (later (record { held = t.held ++ v ∷ []; offset = offset })
        (adv t v offset is).0 (adv t v offset is).1)
    by_record t (Err e) is later = last t (Err e) (ap verdict is)

    by_fuel : (k : ℕ) (t : Along C) → length d ≤ t.offset + k → P t
    by_fuel zero t h = by_record t (next_record c d t).answer refl (λ u up below. absurd (omega arith))
    by_fuel (suc k) t h = by_record t (next_record c d t).answer refl (λ u up below. by_fuel k u (omega arith))

  -- the trail from the next record on
  trail_next : (t u : Along C) (i : ℕ) → leads t.held (next_record c d t).answer ≡ Some u
      → trail c d t (suc i) ≡ trail c d u i
  trail_next t u zero h = h
  trail_next t u (suc i) h = ap (option_and_then (λ w. leads w.held (next_record c d w).answer)) (trail_next t u i h)

  -- the first of k records with a verdict
  abbrev first : Along C → ℕ → ℕ
  first t k = position_or_len (λ i. is_some (verdict_of c d t i)) (range_with_len 0 k)

  first_here : (t : Along C) (r : Result X Halt) (k : ℕ) → verdict (next_record c d t).answer ≡ Some r → first t (suc k) ≡ 0
  first_here t r k is = rw is refl

  first_there : (t : Along C) (v : C) (offset k : ℕ) → (next_record c d t).answer ≡ Ok (Next v offset)
      → first t (suc k) ≡ 1 + first (record { held = t.held ++ v ∷ []; offset = offset }) k
  first_there t v offset k is = grind (arith, position_shift, trail_next)

  -- a chain that advances has a deciding record before the end and one
  found : Advances c d → (t : Along C) (k : ℕ) → length d ≤ t.offset + k → first t (suc k) < suc k
  found adv = chain_induction (λ t. (k : ℕ) → length d ≤ t.offset + k → first t (suc k) < suc k) adv
      (λ t v offset is later k fits.
      let up = adv t v offset is in
      let u : Along C = record { held = t.held ++ v ∷ []; offset = offset } in
      let one : suc (k - 1) ≡ k = omega (arith, up.1, fits) in
      let on : first u k < k = subst (λ n. first u n < n) one (later (k - 1) (omega (arith, up.0, up.1, fits))) in
      omega (arith, first_there t v offset k is, on))
      (λ t r is k fits. omega (arith, first_here t r k is))

  deciding-is : (t : Along C) → deciding_record c d t ≡ first t (suc (length d))
  unfolding deciding_record
  deciding-is t = ap (first t) (add-one (length d))

  deciding_next : (t : Along C) (v : C) (offset : ℕ) → Advances c d → (next_record c d t).answer ≡ Ok (Next v offset)
      → deciding_record c d t ≡ deciding_record c d (record { held = t.held ++ v ∷ []; offset = offset }) + 1
  deciding_next t v offset adv is =
      let up = adv t v offset is in
      let u : Along C = record { held = t.held ++ v ∷ []; offset = offset } in
      let one : suc (length d - 1) ≡ length d = omega (arith, up.1) in
      let within : first u (length d) < length d = subst (λ n. first u n < n) one (found adv u (length d - 1) (omega (arith, up.0))) in
      let longer = position_longer (λ i. is_some (verdict_of c d u i)) 0 (length d) within in
      omega (arith, deciding-is t, first_there t v offset (length d) is, deciding-is u, longer)

  -- a record that tells the offset of the next: its marks, and the chain from there on
  pub chain_next : (t : Along C) (v : C) (offset : ℕ) → Advances c d → (next_record c d t).answer ≡ Ok (Next v offset)
      → chain_from c d t ≡ after_records (next_record c d t).begun (put_behind (next_record c d t).marks
      (chain_from c d (record { held = t.held ++ v ∷ []; offset = offset })))
  unfolding chain_from
  chain_next t v offset adv is =
      let u : Along C = record { held = t.held ++ v ∷ []; offset = offset } in
      let k : ℕ = deciding_record c d u in
      let on = λ (i : ℕ). trail_next t u i (ap (leads t.held) is) in
      let marks = flat_map_shift (marks_of c d t) (marks_of c d u) 0 (records_from c d u) (λ i. rw (add-one, on i) refl) in
      let begun = sum_shift (begun_of c d t) (begun_of c d u) 0 (records_from c d u) (λ i. rw (add-one, on i) refl) in
      rw (deciding_next t v offset adv is, add-one (k + 1), plus-is, sum_by-cons (begun_of c d t), marks, begun, add-one k, on k) refl

  -- a record with a verdict: that verdict, by its reads
  pub chain_stop : (t : Along C) (r : Result X Halt) → verdict (next_record c d t).answer ≡ Some r
      → chain_from c d t ≡ with_answer r (next_record c d t)
  unfolding chain_from
  chain_stop t r is = grind (arith, deciding-is, first_here, append-nil, add-zero)

  -- what follows a record
  abbrev pub follows : List C → Said C X → Reads X
  follows held (Decided x) = gives x
  follows held (Next v offset) = chain_from c d (record { held = held ++ v ∷ []; offset = offset })

  unfolds_by : (t : Along C) (r : Result (Said C X) Halt) → Advances c d → (next_record c d t).answer ≡ r
      → chain_from c d t ≡ after_records (next_record c d t).begun (go_on (next_record c d t).marks r (follows t.held))
  unfolds_by t (Ok (Decided x)) adv is = chain_stop t (Ok x) (ap verdict is) ∙ rw (append-nil, plus-zero) refl
  unfolds_by t (Ok (Next v offset)) adv is = chain_next t v offset adv is
  unfolds_by t (Err e) adv is = chain_stop t (Err e) (ap verdict is) ∙ rw plus-zero refl

  -- a chain is its next record, and what follows it
  pub chain_unfolds : (t : Along C) → Advances c d → chain_from c d t ≡ and_then (next_record c d t) (follows t.held)
  chain_unfolds t adv = unfolds_by t (next_record c d t).answer adv refl
