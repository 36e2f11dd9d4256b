-- The model of a reader around another one, and what the reader does.
use Rattle.std.specs.Prelude.{◌≡◌, ℕ, zero, suc, ◌+◌, ◌≤◌, List, length, false, Option, None, Some, Result, Ok, Err, option_map}
use Rattle.imagesize_io.specs.Telling.{Telling, at_offset}

-- the model of a reader with this many more interruptions
abbrev pub interrupted_more : ℕ → Option Telling → Option Telling
interrupted_more more told = option_map {T = Telling} (λ t. record t { interruptions = t.interruptions + more }) told

-- the model of a cursor at an offset, with this many interruptions
abbrev pub halting_telling : List ℕ → ℕ → ℕ → Option Telling
halting_telling bytes offset left = Some (record { bytes = bytes; offset = offset; can_fail = false; interruptions = left })

-- a reader with a model is at this offset, if that is within its bytes or at their end
abbrev pub StandsAt : Option Telling → Option Telling → ℕ → Type 0
StandsAt None new offset = Unit {0}
StandsAt (Some t) new offset = offset ≤ length t.bytes → new ≡ Some (at_offset t offset)

-- a reader with a model is at the end of its bytes
abbrev pub StandsAtEnd : Option Telling → Option Telling → Type 0
StandsAtEnd None new = Unit {0}
StandsAtEnd (Some t) new = new ≡ Some (at_offset t (length t.bytes))

-- whether this call fails; the number is how many calls before it do not
abbrev pub failure_at : {E : Type 0} → Option ℕ → E → Result (Unit {0}) E
failure_at None error = Ok tt
failure_at (Some zero) error = Err error
failure_at (Some (suc _)) error = Ok tt

-- how many calls before the failing one are left
abbrev pub left_after : Option ℕ → Option ℕ
left_after None = None
left_after (Some zero) = None
left_after (Some (suc left)) = Some left
