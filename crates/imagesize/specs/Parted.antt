-- What the calls over the parts of an input return.
use Rattle.std.specs.Prelude.{◌≡◌, ℕ, ◌+◌, ◌^◌, ◌<◌, ◌≤◌, Bool, true, false, if◌then◌else◌, List, length, slice_index, Option, None, Some, is_some, Result, Ok, Err}
use Rattle.std.specs.Result.{result_ok}
use Rattle.imagesize.specs.Meaning.{kind_of, meaning}
use Rattle.imagesize.specs.declared.parts.PartsAnswer.{PartsAnswer}
use Rattle.imagesize.specs.declared.parts.PartsAnswer.TheVariants.{Found, Wanted}
use Rattle.imagesize.specs.declared.types.ImageType.{ImageType}
use Rattle.imagesize.specs.declared.types.ImageType.TheVariants.{Exr, Hdr, Pnm}
use Rattle.imagesize_source.specs.Agreement.{EndsBetween, is_covered, has_whole}
use Rattle.imagesize_source.specs.Known.{byte_in_parts, filled_input}
use Rattle.imagesize_source.specs.Errors.{is_stopped}
use Rattle.imagesize_source.specs.Outcome.{Outcome}
use Rattle.imagesize_source.specs.declared.error.ImageError.{ImageError}
use Rattle.imagesize_source.specs.declared.source.known.Missing.{Missing}
use Rattle.imagesize_source.specs.declared.span.Span.{Span}
use Rattle.imagesize_types.specs.declared.size.ImageSize.{ImageSize}

-- whether the type is a text format; all others store a size in bytes and numbers
abbrev pub has_texts : ImageType → Bool
has_texts Exr = true
has_texts Hdr = true
has_texts Pnm = true
has_texts _ = false

abbrev pub texts_as : {E : Type 0} → Result ImageType E → Bool
texts_as (Ok type) = has_texts type
texts_as (Err _) = false

-- whether an input has a text format
abbrev pub texts_of : List ℕ → Bool
texts_of d = texts_as (kind_of d 0).answer

-- An input of n bytes that has each known byte. If several parts share an offset, the first one counts. Such an input
-- exists for all parts.
pub record HasKnown (d : List ℕ) (n : ℕ) (spans : List Span) (content : List ℕ) : Type 0 where
  pub as_long : length d ≡ n
  pub known : (offset byte : ℕ) → byte_in_parts n spans content offset ≡ Some byte → slice_index d offset ≡ byte

-- The first byte of a requested span lies in one of the spans that the result depends on, and is not known. If no
-- text is read, one of these contains the whole requested span.
abbrev pub Wants : Bool → List Span → ℕ → List Span → List ℕ → Span → Type 0
Wants texts marks n spans content w = (is_covered marks w.start ≡ true) × (is_some (byte_in_parts n spans content w.start) ≡ false)
    × (texts ≡ false → has_whole marks w ≡ true)

-- What was found is right, or these reads need the requested span. `texts` says whether they read texts.
abbrev pub Says : {T : Type 0} → Bool → (T → Type 0) → List Span → ℕ → List Span → List ℕ → PartsAnswer T → Type 0
Says texts IsSo marks n spans content (Found found) = IsSo found
Says texts IsSo marks n spans content (Wanted w) = Wants texts marks n spans content w

-- what was found is the result of the reads
abbrev pub SaysOf : {X : Type 0} → Bool → Outcome X → ℕ → List Span → List ℕ → PartsAnswer (Result X ImageError) → Type 0
SaysOf texts reads n spans content told = Says texts (λ answer. answer ≡ reads.answer) reads.marks n spans content told

-- what holds for a result, if one was found
abbrev pub IfFound : {T : Type 0} → PartsAnswer T → (T → Type 0) → Type 0
IfFound (Found found) IsSo = IsSo found
IfFound (Wanted w) IsSo = Unit {0}

-- the type and the result are those of the layouts
abbrev pub IsProbed : List ℕ → Option ImageType × Result ImageSize ImageError → Type 0
IsProbed d found = (found.0 ≡ result_ok (kind_of d 0).answer) × (found.1 ≡ (meaning d 0).answer)

-- what holds for a requested span
abbrev pub IfWanted : {T : Type 0} → PartsAnswer T → (Span → Type 0) → Type 0
IfWanted (Found found) Holds = Unit {0}
IfWanted (Wanted w) Holds = Holds w

-- a span has at least one byte, and lies within an input of n bytes
abbrev pub IsWithin : ℕ → Span → Type 0
IsWithin n w = (0 < w.len) × (w.start + w.len ≤ n)

abbrev pub Fits : {T : Type 0} → ℕ → PartsAnswer T → Type 0
Fits n (Found found) = Unit {0}
Fits n (Wanted w) = IsWithin n w

-- the call found a result
abbrev pub Tells : {T : Type 0} → PartsAnswer T → Type 0
Tells (Found found) = Unit {0}
Tells (Wanted w) = ⊥

-- What reads of an input return over its parts: for each input that has the known bytes, their result, or a span to
-- request. Once the reads are of a text, the span reaches to the end of a read. No result is a failure.
pub record TellsOf {X : Type 0} (texts : Bool) (reads : List ℕ → Outcome X) (n : ℕ) (spans : List Span) (content : List ℕ)
    (told : PartsAnswer (Result X ImageError)) : Type 0 where
  pub says : (d : List ℕ) → HasKnown d n spans content → n < 2 ^ 63 → SaysOf texts (reads d) n spans content told
  pub fits : Fits n told
  pub reaches : n < 2 ^ 63 → texts ≡ true
      → IfWanted told (λ w. EndsBetween w.start (w.start + w.len) (reads (filled_input n spans content)).marks)
  pub unstopped : n < 2 ^ 63 → IfFound told (λ answer. is_stopped answer ≡ false)

-- what was found, if nothing is missing
abbrev pub found_or_wanted : {T : Type 0} → T → Option Span → PartsAnswer T
found_or_wanted found None = Found found
found_or_wanted found (Some w) = Wanted w

-- The span that a call requests for the missing bytes. For a text it is all that the read requests, else only what is
-- certain to be read.
abbrev pub wanted_of : Bool → Missing → Span
wanted_of texts m = record { start = m.start; len = if texts then m.most else m.sure }

-- a result with its type
abbrev pub with_type : ImageType → PartsAnswer (Result ImageSize ImageError) → PartsAnswer (Option ImageType × Result ImageSize ImageError)
with_type image (Found answer) = Found (Some image, answer)
with_type image (Wanted w) = Wanted w
