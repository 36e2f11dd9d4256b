-- How the error of a reader stops a read, and the error that the call then returns.
use Rattle.std.specs.Prelude.{ℕ, nat_lt, if◌then◌else◌, Option, None, Some, option_map}
use Rattle.std.specs.declared.io.Error.{Error}
use Rattle.std.specs.declared.io.ErrorKind.{ErrorKind}
use Rattle.std.specs.declared.io.ErrorKind.TheVariants.{Interrupted as InterruptedKind}
use Rattle.std.specs.IoError.{error_kind}
use Rattle.imagesize_source.specs.declared.error.ImageError.{ImageError}
use Rattle.imagesize_source.specs.declared.error.ImageError.TheVariants.{IoError}
use Rattle.imagesize_source.specs.declared.error.Reason.TheVariants.{Fault as FaultReason}
use Rattle.imagesize_source.specs.Limits.{most_retries}
use Rattle.imagesize_source.specs.Errors.{end_of_input}
use Rattle.imagesize_io.specs.declared.told.Stop.{Stop}
use Rattle.imagesize_io.specs.declared.told.Stop.TheVariants.{Interrupted, Fault}

-- an error with `ErrorKind::Interrupted` is an interruption, and any other error is a fault
abbrev pub stop_at : ErrorKind → Error → Stop
stop_at InterruptedKind e = Interrupted e
stop_at _ e = Fault e

abbrev pub stop_of : Error → Stop
stop_of e = stop_at (error_kind e) e

-- an error of the reader is returned unchanged
abbrev pub fault_of : Error → ImageError
fault_of e = IoError (FaultReason e)

-- the error that a failed call returns, if this one is kept
abbrev pub kept_error : Option Error → ImageError
kept_error None = end_of_input
kept_error (Some e) = fault_of e

-- What ends a call after this many tries: a fault, or an interruption after the last try. An earlier interruption may
-- be retried.
abbrev pub ending_of : Stop → ℕ → Option Error
ending_of (Fault e) tries = Some e
ending_of (Interrupted e) tries = if nat_lt tries most_retries then None else Some e

-- The last failure, if an error is kept: the one in the reader's model, or else the kept one.
abbrev pub last_failed : Option Error → Option (Option Error) → Option ImageError
last_failed None failure = None
last_failed (Some e) None = Some (fault_of e)
last_failed (Some e) (Some last) = option_map fault_of last
