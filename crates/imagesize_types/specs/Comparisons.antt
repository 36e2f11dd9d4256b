-- Laws of the comparisons and the hash of a type.
use Rattle.std.specs.Prelude.{ℕ, List, Bool, Option, Some, IsTrue, ◌≡◌, ◌↔◌}
use Rattle.std.specs.declared.cmp.Ordering.{Ordering}
use Rattle.std.specs.declared.cmp.Ordering.TheVariants.{Equal}
use Rattle.std.specs.Cmp.{IsTotalOrder}
use Rattle.std.specs.Ordering.{nat_cmp}

-- two values compare as equal exactly if they are the same value, and equal values hash equally
pub record IsLawfulHash {T : Type 0} (eq : T → T → Bool) (hash_input : T → List (List ℕ)) : Type 0 where
  pub same : (x y : T) → IsTrue (eq x y) ↔ (x ≡ y)
  pub alike : (x y : T) → IsTrue (eq x y) → hash_input x ≡ hash_input y

-- a total order, which ties two values exactly if they are the same value
pub record IsLawfulOrder {T : Type 0} (cmp : T → T → Ordering) (partial_cmp : T → T → Option Ordering) : Type 0 where
  pub total : IsTotalOrder cmp
  pub tied : (x y : T) → (cmp x y ≡ Equal) ↔ (x ≡ y)
  pub partial : (x y : T) → partial_cmp x y ≡ Some (cmp x y)

-- values are ordered as their ranks are
abbrev pub RankedBy : {T : Type 0} → (T → ℕ) → (T → T → Ordering) → Type 0
RankedBy {T} rank cmp = (x y : T) → cmp x y ≡ nat_cmp (rank x) (rank y)
