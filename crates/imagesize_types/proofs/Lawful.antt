-- How the laws of a type follow from what its comparisons state.
use Rattle.std.proofs.Common.{ℕ, List, Bool, Option, Some, ◌≡◌, ◌∙◌, sym, ap}
use Rattle.std.specs.Prelude.{IsTrue, ◌↔◌}
use Rattle.std.specs.declared.cmp.Ordering.{Ordering}
use Rattle.std.specs.Cmp.{IsTotalOrder, Equal-is}
use Rattle.std.specs.Ordering.{eq_by_cmp}
use Rattle.imagesize_types.specs.Comparisons.{IsLawfulHash, IsLawfulOrder}

-- where equal values are one value, they hash alike
pub lawful_hash :
    {T : Type 0} (eq : T → T → Bool) (hash_input : T → List (List ℕ)) →
    ((x y : T) → IsTrue (eq x y) ↔ (x ≡ y)) → IsLawfulHash eq hash_input
lawful_hash eq hash_input same = record { same = same; alike = λ x y e. ap hash_input ((same x y).0 e) }

-- where the order ties what is equal, it ties nothing but one value
pub lawful_order :
    {T : Type 0} (eq : T → T → Bool) (cmp : T → T → Ordering) (partial_cmp : T → T → Option Ordering) →
    ((x y : T) → IsTrue (eq x y) ↔ (x ≡ y)) → IsTotalOrder cmp → ((x y : T) → eq x y ≡ eq_by_cmp cmp x y) →
    ((x y : T) → partial_cmp x y ≡ Some (cmp x y)) → IsLawfulOrder cmp partial_cmp
lawful_order eq cmp partial_cmp same total ties partial = record {
  total = total;
  tied = λ x y. (
    λ e. (same x y).0 (ties x y ∙ (Equal-is (cmp x y)).1 e),
    λ e. (Equal-is (cmp x y)).0 (sym (ties x y) ∙ (same x y).1 e),
  );
  partial = partial;
}
