-- The error of a halt: that of a refusal is the same for every source, and only a stop becomes one.
use Rattle.std.proofs.Common.{arith, ◌≡◌, ℕ, true, false, Result, Ok, None, IfSome}
use Rattle.imagesize_source.specs.declared.error.ImageError.{ImageError}
use Rattle.imagesize_source.specs.declared.halt.Halt.{Halt}
use Rattle.imagesize_source.specs.Errors.{is_stopped as is_stopped_error, is_memory, budget_spent, is_fault}
use Rattle.imagesize_source.specs.Halts.{error_by, with_error}
use Rattle.imagesize_source.specs.Outcome.{stated}
use Rattle.imagesize_source.specs.Reading.{is_failure, is_spent, is_stopped}

-- where nothing stopped a result, its error is that of the refusal, which is no stop
pub stated_same : {X : Type 0} (failure : ImageError) (budget : ℕ) (r : Result X Halt) → is_stopped r ≡ false
    → with_error failure budget r ≡ stated r
stated_same failure budget r is = grind arith

pub stated_goes_on : {X : Type 0} (r : Result X Halt) → is_stopped r ≡ false → is_stopped_error (stated r) ≡ false
stated_goes_on r is = grind arith

-- a value that is stated was read
pub stated_ok : {X : Type 0} (r : Result X Halt) (x : X) → stated r ≡ Ok x → r ≡ Ok x
stated_ok r x is = grind arith

-- an error is a fault or refused memory only of a failed call, and a spent budget only of a halt that says so
pub error_memory : (failure : ImageError) (budget : ℕ) (h : Halt) → is_memory failure ≡ false
    → is_memory (error_by failure budget h) ≡ false
error_memory failure budget h plain = grind arith

pub error_spent : (P : ℕ → Type 0) (failure : ImageError) (budget : ℕ) (h : Halt) → budget_spent failure ≡ None
    → (is_spent h ≡ true → P budget) → IfSome (budget_spent (error_by failure budget h)) P
error_spent P failure budget h none is = grind arith

pub error_fault : (failure : ImageError) (budget : ℕ) (h : Halt) → is_fault (error_by failure budget h) ≡ true
    → (is_failure h ≡ true) × (error_by failure budget h ≡ failure)
error_fault failure budget h is = grind arith
