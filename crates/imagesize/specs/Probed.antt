-- What `reader_probe` returns.
use Rattle.std.specs.Prelude.{◌≡◌, ℕ, ◌+◌, ◌≤◌, true, false, length, Option, None, Some, Result, Ok, IfSome, option_map}
use Rattle.std.specs.Result.{result_ok}
use Rattle.imagesize.specs.Counts.{most_bytes, stated_bytes}
use Rattle.imagesize.specs.Meaning.{kind_of, kind_reads, meaning}
use Rattle.imagesize.specs.Short.{EndsAs}
use Rattle.imagesize_types.specs.declared.size.ImageSize.{ImageSize}
use Rattle.imagesize.specs.declared.types.ImageType.{ImageType}
use Rattle.imagesize.specs.declared.calls.Probed.{Probed}
use Rattle.imagesize.specs.declared.memory.Counted.{Counted}
use Rattle.imagesize_source.specs.Limits.{allowance}
use Rattle.imagesize_source.specs.declared.error.ImageError.{ImageError}
use Rattle.imagesize_source.specs.declared.halt.Halt.{Halt}
use Rattle.imagesize_io.specs.Answers.{AnswersAs, TakesAs, over_reader}
use Rattle.imagesize_source.specs.Errors.{end_of_input, is_stopped}
use Rattle.imagesize_source.specs.Halts.{with_error}
use Rattle.imagesize_source.specs.Reading.{is_stopped as has_stopped}
use Rattle.imagesize_source.specs.State.{State}
use Rattle.imagesize_io.specs.Telling.{Telling, IsHonest}

-- A named type is that of the input. If nothing stopped the call, a type is named if the input has one.
pub record FindsKind (a : State) (offset : ℕ) (found : Option ImageType) (r : Result ImageSize Halt) : Type 0 where
  pub right : a.held.honest ≡ true → IfSome found (λ type. (kind_reads a.held.input offset).answer ≡ Ok type)
  pub whole : a.held.honest ≡ true → has_stopped r ≡ false → found ≡ result_ok (kind_reads a.held.input offset).answer

-- Over an honest reader, the result is that of the layouts or a failure, and the named type is right. The bytes read
-- are those of the layouts' reads, within three bounds: the one over all types, the one for the format, and the
-- input's length plus the allowance. An input that is too short for a type is an end of input.
pub record ProbesOf (t : Telling) (probed : Probed) : Type 0 where
  pub answer : AnswersAs t (over_reader t meaning) probed.answer
  pub takes : TakesAs t (over_reader t meaning) probed.answer probed.taken
  pub right : IfSome probed.kind (λ type. (over_reader t kind_of).answer ≡ Ok type)
  pub whole : is_stopped probed.answer ≡ false → probed.kind ≡ result_ok (over_reader t kind_of).answer
  pub stated : probed.taken ≤ stated_bytes t.bytes t.offset
  pub most : probed.taken ≤ most_bytes t.bytes t.offset
  pub within : probed.taken ≤ length t.bytes + allowance
  pub short : EndsAs t probed.answer

abbrev pub Probes : Option Telling → Probed → Type 0
Probes None probed = Unit {0}
Probes (Some t) probed = IsHonest t → ProbesOf t probed

-- what a call returns for what was found in bytes in memory, of this length
abbrev pub counted_answer : ℕ → Result ImageSize Halt → Result ImageSize ImageError
counted_answer told found = with_error end_of_input (told + allowance) found

abbrev pub counted_probe : ℕ → Counted → Probed
counted_probe told c = record { kind = c.kind; answer = counted_answer told c.found; taken = c.taken }

-- a budget of at least the allowance was spent, and the reader's count increased by all of it
abbrev pub SpentAll : Option ℕ → Option ℕ → ℕ → Type 0
SpentAll before after budget = (allowance ≤ budget) × (after ≡ option_map (λ count. count + budget) before)
