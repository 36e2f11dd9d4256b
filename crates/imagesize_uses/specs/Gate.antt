-- What a gate for uploads admits.
use Rattle.std.specs.Prelude.{◌≡◌, ℕ, ◌+◌, ◌-◌, ◌*◌, ◌^◌, ◌<◌, ◌≤◌, min, nat_le, true, false, length, if◌then◌else◌, Option, None, Some, Result, Ok, Err, IfOk}
use Rattle.std.specs.declared.io.Error.{Error}
use Rattle.imagesize.specs.Meaning.{meaning}
use Rattle.imagesize_io.specs.Answers.{IsLast, over_reader}
use Rattle.imagesize_source.specs.Limits.{allowance}
use Rattle.imagesize_source.specs.Errors.{is_fault}
use Rattle.imagesize_io.specs.Telling.{Telling, IsHonest}
use Rattle.imagesize_source.specs.declared.error.ImageError.{ImageError}
use Rattle.imagesize_source.specs.State.{total}
use Rattle.imagesize_types.specs.Order.{area_of}
use Rattle.imagesize_types.specs.declared.size.ImageSize.{ImageSize}
use Rattle.imagesize_uses.specs.declared.gate.Admission.{Admission}
use Rattle.imagesize_uses.specs.declared.gate.Rejection.{Rejection}
use Rattle.imagesize_uses.specs.declared.gate.Rejection.TheVariants.{TooLarge, NoSize}

-- an image of at most `most` pixels is admitted, and no other
abbrev pub gate_verdict : ℕ → Result ImageSize ImageError → Result ImageSize Rejection
gate_verdict most (Ok size) = if nat_le (area_of size) most then Ok size else Err (TooLarge size)
gate_verdict most (Err e) = Err (NoSize e)

-- what holds for a size that is too large
abbrev pub IfTooLarge : Result ImageSize Rejection → (ImageSize → Type 0) → Type 0
IfTooLarge (Ok _) P = Unit {0}
IfTooLarge (Err (TooLarge size)) P = P size
IfTooLarge (Err (NoSize _)) P = Unit {0}

-- what holds for an error
abbrev pub IfNoSize : Result ImageSize Rejection → (ImageError → Type 0) → Type 0
IfNoSize (Ok _) P = Unit {0}
IfNoSize (Err (TooLarge _)) P = Unit {0}
IfNoSize (Err (NoSize e)) P = P e

-- Over an honest reader, an image that is admitted or too large has the returned size. An image that is rejected with
-- an error has no size for this reason, or a call failed. If no call can fail, the verdict is that on the image. The
-- bytes read are at most the total length of the layouts' spans, and at most the input's length plus the allowance.
pub record AdmitsOf (t : Telling) (most : ℕ) (admission : Admission) : Type 0 where
  pub image : IfOk admission.verdict (λ size. (over_reader t meaning).answer ≡ Ok size)
  pub too_large : IfTooLarge admission.verdict (λ size. (over_reader t meaning).answer ≡ Ok size)
  pub refused : IfNoSize admission.verdict (λ e. is_fault e ≡ false → (over_reader t meaning).answer ≡ Err e)
  pub whole : t.can_fail ≡ false → admission.verdict ≡ gate_verdict most (over_reader t meaning).answer
  pub takes : admission.taken ≤ total (over_reader t meaning).marks
  pub within : admission.taken ≤ length t.bytes + allowance

abbrev pub Admits : Option Telling → ℕ → Admission → Type 0
Admits None most admission = Unit {0}
Admits (Some t) most admission = IsHonest t → AdmitsOf t most admission

-- a rejection by a fault carries the error of the last call that failed, if the reader's model has it
abbrev pub IsFaultOf : Option (Option Error) → Result ImageSize Rejection → Type 0
IsFaultOf failure verdict = IfNoSize verdict (λ e. is_fault e ≡ true → IsLast failure e)

-- how many bytes may be read from an upload of this stated length
abbrev pub limit_of : ℕ → ℕ
limit_of length = min (length + allowance) (2 ^ 64 - 1)

-- two numbers, encoded as one
abbrev pub pair : ℕ → ℕ → ℕ
pair a b = (a + b) * (a + b) + b

-- What never changes while a limited reader is read: which reader is inside, and its count plus the bytes left, if it
-- counts.
abbrev pub kept_sum : ℕ → Option ℕ → ℕ → ℕ
kept_sum reader None left = pair reader 0
kept_sum reader (Some count) left = pair reader (count + left + 1)

-- The count of a limited reader. It encodes two numbers: what never changes is added in multiples above all that a
-- call can read.
abbrev pub limited_count : ℕ → Option ℕ → ℕ → Option ℕ
limited_count reader count left = Some (2 ^ 64 - left + 2 ^ 66 * kept_sum reader count left)

-- the last failure in a reader's model, or the one at the limit, which came later
abbrev pub limited_failure : Option Error → Option (Option Error) → Option (Option Error)
limited_failure spent None = None
limited_failure None (Some last) = Some last
limited_failure (Some error) (Some last) = Some (Some error)

-- If no call of an honest reader has failed, and fewer bytes than the limit were read, the verdict is right.
abbrev pub Decides : Option Telling → Option (Option Error) → ℕ → ℕ → Admission → Type 0
Decides None failure limit most admission = Unit {0}
Decides (Some t) failure limit most admission = IsHonest t → failure ≡ Some None → admission.taken < limit
    → admission.verdict ≡ gate_verdict most (over_reader t meaning).answer
