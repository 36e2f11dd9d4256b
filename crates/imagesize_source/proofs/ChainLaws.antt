-- What holds of every chain: locality, counts and extension.
use Rattle.std.proofs.Common.{Bool, ◌≡◌, ℕ, ◌+◌, ◌*◌, ◌≤◌, List, [], ◌∷◌, ◌++◌, Some, Result, Ok, inl, refl, sym, ap, ◌∙◌, arith}
use Rattle.imagesize_source.specs.declared.halt.Halt.{Halt}
use Rattle.imagesize_source.specs.Agreement.{AllRead, Alike, IsLocal}
use Rattle.imagesize_source.specs.Chain.{Said, Decided, Next, Chain, Along, start, next_record, verdict, chain_from, chain_at, Advances}
use Rattle.imagesize_source.specs.Counts.{Each}
use Rattle.imagesize_source.specs.Extension.{Plain, Lasts}
use Rattle.imagesize_source.specs.State.{total}
use Rattle.imagesize_source.proofs.Chains.{chain_unfolds, follows, chain_next, chain_stop}
pub use Rattle.imagesize_source.proofs.Chains.{chain_induction}
use Rattle.imagesize_source.proofs.Agreement.{alike_layout, alike_then}
use Rattle.imagesize_source.proofs.Counts.{Bounded, bounded_each, each_plus}
use Rattle.imagesize_source.proofs.Extension.{more}
use Rattle.imagesize_source.proofs.Runs.{total-append}

-- a chain that advances is local
pub local_chain : {texts : Bool} {C X : Type 0} (c : Chain C X) → ((d : List ℕ) → Advances c d)
    → ((held : List C) (offset : ℕ) → AllRead texts (c.said held offset)) → IsLocal texts (λ d. chain_at c d)
local_chain {texts} {C} {X} c adv read d e long = chain_induction c d P (adv d) on last (start c) where
  P : Along C → Type 0
  P t = Alike texts d e (chain_from c d t) (chain_from c e t)

  -- a record, and what follows it
  by_record : (t : Along C)
      → ((x : Said C X) → (next_record c d t).answer ≡ Ok x
      → Alike texts d e (follows c d t.held x) (follows c e t.held x)) → P t
  by_record t rest = rw (chain_unfolds c d t (adv d), chain_unfolds c e t (adv e))
      (alike_then d e (next_record c d t) (next_record c e t) (follows c d t.held) (follows c e t.held)
      (alike_layout d e (c.said t.held t.offset) (read t.held t.offset) long) (λ x is also. rest x is))

  on : (t : Along C) (v : C) (offset : ℕ) → (next_record c d t).answer ≡ Ok (Next v offset)
      → P (record { held = t.held ++ v ∷ []; offset = offset }) → P t
  on t v offset is later = by_record t (λ x also.
      let both = sym also ∙ is in let same : x ≡ Next v offset = cc in rw same later)

  last : (t : Along C) (r : Result X Halt) → verdict (next_record c d t).answer ≡ Some r → P t
  last t r is = by_record t (λ x also. decided x r (ap verdict (sym also) ∙ is)) where
    decided : (x : Said C X) (r : Result X Halt) → verdict (Ok x) ≡ Some r
        → Alike texts d e (follows c d t.held x) (follows c e t.held x)
    decided (Decided x) r is = inl refl
    decided (Next v offset) r is = absurd cc

-- Counts: a chain is bounded where its records are, and where they use up an allowance besides.
module _ {C X : Type 0} (c : Chain C X) (d : List ℕ) (adv : Advances c d) where
  pub chain_bounded : (each : ℕ) (allowed : Along C → ℕ)
      → ((t : Along C) (v : C) (offset : ℕ) → (next_record c d t).answer ≡ Ok (Next v offset)
      → total (next_record c d t).marks + allowed (record { held = t.held ++ v ∷ []; offset = offset })
      ≤ allowed t + each * (next_record c d t).begun)
      → ((t : Along C) → Bounded (allowed t) each (next_record c d t))
      → (t : Along C) → Bounded (allowed t) each (chain_from c d t)
  chain_bounded each allowed used few = chain_induction c d (λ t. Bounded (allowed t) each (chain_from c d t)) adv
      (λ t v offset is later. rw (chain_next c d t v offset adv is)
      (omega (arith, used t v offset is, later, total-append, each_plus)))
      (λ t r is. rw (chain_stop c d t r is) (few t))

  -- by the layouts of its records
  pub chain_cost : (each : ℕ) → ((held : List C) (offset : ℕ) → Each each (c.said held offset))
      → Bounded 0 each (chain_at c d)
  chain_cost each few = chain_bounded each (λ _. 0) (λ t v offset is. omega (arith, bounded t)) bounded (start c) where
    bounded : (t : Along C) → Bounded 0 each (next_record c d t)
    bounded t = bounded_each each d (c.said t.held t.offset) (few t.held t.offset)

  -- Where the records use up an allowance, a chain reads at most the allowance.
  pub chain_within : (allowed : Along C → ℕ)
      → ((t : Along C) (v : C) (offset : ℕ) → (next_record c d t).answer ≡ Ok (Next v offset)
      → total (next_record c d t).marks + allowed
      (record { held = t.held ++ v ∷ []; offset = offset }) ≤ allowed t)
      → ((t : Along C) → total (next_record c d t).marks ≤ allowed t)
      → (t : Along C) → total (chain_from c d t).marks ≤ allowed t
  chain_within allowed used few t = omega (
    arith,
    chain_bounded 0 allowed (λ t v offset is. omega (arith, used t v offset is)) (λ t. omega (arith, few t)) t,
  )

verdict_ok : {C X : Type 0} (r : Result (Said C X) Halt) (y : X) → verdict r ≡ Some (Ok y) → r ≡ Ok (Decided y)
verdict_ok r y is = grind arith

-- Extension: bytes behind an input change no answer of a chain of plain records.
pub lasts_chain : {C X : Type 0} (c : Chain C X) → ((d : List ℕ) → Advances c d)
    → ((held : List C) (offset : ℕ) → Plain (c.said held offset)) → Lasts (λ d. chain_at c d)
lasts_chain {C} {X} c adv plain d x = chain_induction c d
    (λ t. (v : X) → (chain_from c d t).answer ≡ Ok v → chain_from c (d ++ x) t ≡ chain_from c d t) (adv d)
    (λ t v offset is later y ok.
    let here = each t (Next v offset) is in
    let next = chain_next c d t v offset (adv d) is in
    let next_more = chain_next c (d ++ x) t v offset (adv (d ++ x)) (ap (λ w. w.answer) here ∙ is) in
    rw (next_more, here, later y (sym (ap (λ w. w.answer) next) ∙ ok), next) refl)
    (λ t r is y ok.
    let last = chain_stop c d t r is in
    let decided = is ∙ ap Some (sym (ap (λ w. w.answer) last) ∙ ok) in
    let here = each t (Decided y) (verdict_ok (next_record c d t).answer y decided) in
    rw (chain_stop c (d ++ x) t r (ap (λ w. verdict w.answer) here ∙ is), here, last) refl)
    (start c)
  where
    each : (t : Along C) (y : Said C X) → (next_record c d t).answer ≡ Ok y → next_record c (d ++ x) t ≡ next_record c d t
    each t y = more d x (c.said t.held t.offset) y (plain t.held t.offset)
