-- What a status of a refusal is not.
use Rattle.std.proofs.Common.{◌≡◌, false, Result, Ok, Err, refl, ◌∙◌}
use Rattle.imagesize_c.specs.Status.{is_stop_status, is_wanted, refusal_status, status_of}
use Rattle.imagesize_source.specs.Errors.{is_stop, is_stopped}
use Rattle.imagesize_source.specs.declared.error.ImageError.{ImageError}
use Rattle.imagesize_source.specs.declared.error.ImageError.TheVariants.{IoError}
use Rattle.imagesize_source.specs.declared.error.Reason.TheVariants.{Memory}

-- a refusal's status says whether it is a stop, and is not that of a part that is wanted
refused : (e : ImageError) → (is_stop_status (refusal_status e) ≡ is_stop e) × (is_wanted (refusal_status e) ≡ false)
refused (IoError Memory) = (refl, refl)
refused _ = (refl, refl)

-- an answer that nothing stopped has none of them
pub unstopped : {X : Type 0} (r : Result X ImageError) → is_stopped r ≡ false → is_stop_status (status_of r) ≡ false
unstopped (Ok x) on = refl
unstopped (Err e) on = (refused e).0 ∙ on

-- no answer and no refusal is the status of a part that is wanted
pub never_wanted : {X : Type 0} (r : Result X ImageError) → is_wanted (status_of r) ≡ false
never_wanted (Ok x) = refl
never_wanted (Err e) = (refused e).1
