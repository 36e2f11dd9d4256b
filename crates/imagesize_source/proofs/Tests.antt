-- Both sides of a test.
use Rattle.std.proofs.Common.{arith, ◌≡◌, Bool, true, false, cond}

-- what holds on both sides of a test holds of what it chooses
pub on_test : {A : Type 0} (P : A → Type 0) (b : Bool) (t u : A) → (b ≡ true → P t) → (b ≡ false → P u) → P (cond b t u)
on_test P b t u first other = grind arith
