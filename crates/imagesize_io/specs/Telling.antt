-- The model of a reader, and what its calls must do by it.
use Rattle.std.specs.Prelude.{◌≡◌, ℕ, pos, zero, ◌+◌, ◌-◌, ◌^◌, ◌<◌, ◌≤◌, Bool, true, false, List, length, take, nat_le, if◌then◌else◌, Option, None, Some, Result, Ok, Err, IsSomeAnd, option_map}
use Rattle.std.specs.declared.io.Error.{Error}
use Rattle.std.specs.declared.io.traits.SeekFrom.{SeekFrom}
use Rattle.std.specs.declared.io.traits.SeekFrom.TheVariants.{Start, End, Current}
use Rattle.imagesize_io.specs.declared.told.Stop.{Stop}
use Rattle.imagesize_io.specs.declared.told.Stop.TheVariants.{Interrupted, Fault}
use Rattle.imagesize_source.specs.Input.{part}
use Rattle.imagesize_source.specs.Limits.{most_retries}

-- The bytes of a reader, its offset, whether a call may fail, and how many reads may still be interrupted. If calls
-- may fail, any number of reads may be interrupted.
pub record Telling : Type 0 where
  pub bytes : List ℕ
  pub offset : ℕ
  pub can_fail : Bool
  pub interruptions : ℕ

-- the model of a reader whose calls may also fail
abbrev pub may_fail : Option Telling → Option Telling
may_fail told = option_map {T = Telling} (λ t. record t { can_fail = true }) told

-- at another offset
abbrev pub at_offset : Telling → ℕ → Telling
at_offset t offset = record t { offset = offset }

-- after a failed call, which only a reader that can fail makes, its offset is not known
abbrev pub Fails : Telling → Option Telling → Type 0
Fails t new = (t.can_fail ≡ true) × IsSomeAnd new (λ u. (u.bytes ≡ t.bytes) × (u.can_fail ≡ true))

-- What a read into a buffer did; `buffer` is the buffer afterwards. It returned n bytes from the offset on, at least
-- one if there is one and the buffer is not empty. Or it returned none; an interruption keeps the offset.
abbrev pub ReadGives : Telling → Option Telling → List ℕ → Result ℕ Stop → Type 0
ReadGives t new buffer (Ok n) =
    (new ≡ Some (at_offset t (t.offset + n))) × (take n buffer ≡ part t.bytes t.offset n) × (n ≤ length t.bytes - t.offset)
    × (0 < length buffer → t.offset < length t.bytes → 0 < n)
ReadGives t new buffer (Err (Interrupted e)) =
    (new ≡ Some (record t { interruptions = t.interruptions - 1 })) × (t.can_fail ≡ false → 0 < t.interruptions)
ReadGives t new buffer (Err (Fault e)) = Fails t new

-- what a read did, if the reader has a model
abbrev pub ReadTells : Option Telling → Option Telling → List ℕ → Result ℕ Stop → Type 0
ReadTells None new buffer r = new ≡ None
ReadTells (Some t) new buffer r = ReadGives t new buffer r

-- the offset that a seek is known to go to: one within the bytes or at their end, the end itself, or the present one
abbrev pub seek_target : Telling → SeekFrom → Option ℕ
seek_target t (Start offset) = if nat_le offset (length t.bytes) then Some offset else None
seek_target t (End (pos zero)) = Some (length t.bytes)
seek_target t (Current (pos zero)) = Some t.offset
seek_target t _ = None

-- What a seek did that is known to go to an offset. Any other seek changes only the offset of the reader.
abbrev pub SeekGives : {E : Type 0} → Telling → Option Telling → Option ℕ → Result ℕ E → Type 0
SeekGives t new None r = IsSomeAnd new (λ u. (u.bytes ≡ t.bytes) × (u.can_fail ≡ t.can_fail))
SeekGives t new (Some offset) (Ok answer) = (answer ≡ offset) × (new ≡ Some (at_offset t offset))
SeekGives t new (Some offset) (Err e) = Fails t new

-- what a seek did, if the reader has a model
abbrev pub SeekTells : {E : Type 0} → Option Telling → Option Telling → SeekFrom → Result ℕ E → Type 0
SeekTells None new to r = new ≡ None
SeekTells (Some t) new to r = SeekGives t new (seek_target t to) r

-- how many bytes a read returned
abbrev pub bytes_given : {E : Type 0} → Result ℕ E → ℕ
bytes_given (Ok n) = n
bytes_given (Err _) = 0

-- the reader's count increases by the bytes that a read returned
abbrev pub count_after : {E : Type 0} → Option ℕ → Result ℕ E → Option ℕ
count_after count r = option_map (λ c. c + bytes_given r) count

-- The last failure after a call such as a seek: its error if it failed, else the one before. A model that states no
-- failures still states none.
abbrev pub failure_after : {X : Type 0} → Option (Option Error) → Result X Error → Option (Option Error)
failure_after None r = None
failure_after (Some last) (Ok x) = Some last
failure_after (Some last) (Err e) = Some (Some e)

-- the last failure after a read; an interruption is a failure too
abbrev pub failure_after_read : Option (Option Error) → Result ℕ Stop → Option (Option Error)
failure_after_read None r = None
failure_after_read (Some last) (Ok n) = Some last
failure_after_read (Some last) (Err (Interrupted e)) = Some (Some e)
failure_after_read (Some last) (Err (Fault e)) = Some (Some e)

-- An honest reader. It has fewer than 2^63 bytes. If none of its calls fails, at most as many reads are interrupted
-- as a call retries.
pub record IsHonest (t : Telling) : Type 0 where
  pub short : length t.bytes < 2 ^ 63
  pub patient : t.can_fail ≡ false → t.interruptions ≤ most_retries

-- the model of a reader, its count, and its last failure
pub record Account : Type 0 where
  pub telling : Option Telling
  pub count : Option ℕ
  pub failure : Option (Option Error)

abbrev pub account : {R : Type 0} → (R → Option Telling) → (R → Option ℕ) → (R → Option (Option Error)) → R → Account
account telling count failure reader = record { telling = telling reader; count = count reader; failure = failure reader }
