-- The errors of a call, and those that end a call whatever the layout says.
use Rattle.std.specs.Prelude.{ℕ, Bool, true, false, ◌||◌, Result, Ok, Err, Option, None, Some}
use Rattle.imagesize_source.specs.declared.error.ImageError.{ImageError}
use Rattle.imagesize_source.specs.declared.error.ImageError.TheVariants.{NotSupported, CorruptedImage, IoError}
use Rattle.imagesize_source.specs.declared.error.Reason.TheVariants.{EndOfInput, Fault, BudgetSpent, Memory}

-- the error if the input ends before bytes that the format needs
abbrev pub end_of_input : ImageError
end_of_input = IoError EndOfInput

-- the errors that end a call: a failed call of the reader, a spent budget, a failed allocation
abbrev pub is_fault : ImageError → Bool
is_fault NotSupported = false
is_fault CorruptedImage = false
is_fault (IoError (Fault _)) = true
is_fault (IoError _) = false

abbrev pub is_spent : ImageError → Bool
is_spent NotSupported = false
is_spent CorruptedImage = false
is_spent (IoError (BudgetSpent _)) = true
is_spent (IoError _) = false

abbrev pub is_memory : ImageError → Bool
is_memory NotSupported = false
is_memory CorruptedImage = false
is_memory (IoError Memory) = true
is_memory (IoError _) = false

-- the budget in bytes, if it was spent
abbrev pub budget_spent : ImageError → Option ℕ
budget_spent NotSupported = None
budget_spent CorruptedImage = None
budget_spent (IoError (BudgetSpent n)) = Some n
budget_spent (IoError _) = None

abbrev pub is_stop : ImageError → Bool
is_stop e = is_fault e || is_spent e || is_memory e

-- whether a result ends the call at once, and whether a failed call of the reader caused it
abbrev pub is_stopped : {X : Type 0} → Result X ImageError → Bool
is_stopped (Ok _) = false
is_stopped (Err e) = is_stop e

abbrev pub is_faulted : {X : Type 0} → Result X ImageError → Bool
is_faulted (Ok _) = false
is_faulted (Err e) = is_fault e
