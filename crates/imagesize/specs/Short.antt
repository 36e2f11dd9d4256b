-- Inputs that are too short: a type is read from twelve bytes.
use Rattle.std.specs.Prelude.{◌≡◌, ◌+◌, ◌<◌, false, length, Option, None, Some, Result, Err}
use Rattle.imagesize_io.specs.Telling.{Telling, IsHonest}
use Rattle.imagesize_source.specs.Errors.{end_of_input, is_stopped}
use Rattle.imagesize_source.specs.declared.error.ImageError.{ImageError}

-- If fewer than twelve bytes are left at a reader's offset, the result is an end of input, or a failure.
abbrev pub EndsAs : {X : Type 0} → Telling → Result X ImageError → Type 0
EndsAs t r = length t.bytes < t.offset + 12 → is_stopped r ≡ false → r ≡ Err end_of_input

-- the same result over an honest reader
abbrev pub Ends : {X : Type 0} → Option Telling → Result X ImageError → Type 0
Ends None r = Unit {0}
Ends (Some t) r = IsHonest t → EndsAs t r
