-- The line that is printed for an image.
use Rattle.std.specs.Prelude.{◌≡◌, ℕ, ◌<◌, Bool, true, false, ◌==◌, if◌then◌else◌, List, [], ◌∷◌, ◌++◌, length, map, ◌⊎◌, Option, None, Some, Result, Ok, Err, IsOk, IsErr, IsSomeAnd, codes, decimal, is_ok, option_map}
use Rattle.std.specs.List.{list_any}
use Rattle.std.specs.Result.{result_ok}
use Rattle.std.specs.Io.KnownBytes.{Appends}
use Rattle.imagesize.specs.Meaning.{kind_of, meaning}
use Rattle.imagesize_types.specs.declared.size.ImageSize.{ImageSize}
use Rattle.imagesize.specs.declared.types.ImageType.{ImageType}
use Rattle.imagesize.specs.Names.{type_text}
use Rattle.imagesize_io.specs.Answers.{over_reader}
use Rattle.imagesize_source.specs.Reason.{error_text}
use Rattle.imagesize_io.specs.Telling.{Telling, IsHonest}
use Rattle.imagesize_source.specs.declared.error.ImageError.{ImageError}
use Rattle.imagesize_source.specs.declared.span.Span.{Span}

-- a size as text
abbrev pub size_text : ImageSize → List ℕ
size_text size = decimal size.width ++ (codes "x" ++ decimal size.height)

-- the line for an image with a size
abbrev pub sized_line : List ℕ → ImageType → ImageSize → List ℕ
sized_line name image size = name ++ (codes ": " ++ (type_text image ++ (codes " " ++ (size_text size ++ codes "\n"))))

-- whether a byte is a line feed
abbrev pub is_line_feed : ℕ → Bool
is_line_feed byte = byte == 10

-- a text with a space for each line feed
abbrev pub one_line : List ℕ → List ℕ
one_line text = map (λ byte. if is_line_feed byte then 32 else byte) text

-- a text without a line feed
abbrev pub IsOneLine : List ℕ → Type 0
IsOneLine text = list_any is_line_feed text ≡ false

-- the line for an image with an error
abbrev pub refused_line : List ℕ → List ℕ → List ℕ
refused_line name text = name ++ (codes ": error: " ++ (text ++ codes "\n"))

-- The line for a name, a type and a result. There is none for an error without a stated text, and none for a size
-- without a type.
abbrev pub answer_line : List ℕ → Option ImageType → Result ImageSize ImageError → Option (List ℕ)
answer_line name found (Ok size) = option_map (λ image. sized_line name image size) found
answer_line name found (Err e) = option_map (refused_line name) (error_text e)

-- The writer got one line for a name; `old` and `new` are its bytes before and after. The line shows a size if the
-- name has one, else a reason without a line feed.
abbrev pub AppendsLine : List ℕ → Option (List ℕ) → Option (List ℕ) → Bool → Type 0
AppendsLine name old new true = (image : ImageType) × (size : ImageSize) × Appends old new (sized_line name image size)
AppendsLine name old new false = (text : List ℕ) × IsOneLine text × Appends old new (refused_line name text)

-- the line for a span: its offset and its length
abbrev pub span_line : Span → List ℕ
span_line span = codes "  " ++ (decimal span.start ++ (codes "+" ++ (decimal span.len ++ codes "\n")))

-- the lines for spans, in their order
abbrev pub span_lines : List Span → List ℕ
span_lines [] = []
span_lines (span ∷ spans) = span_line span ++ span_lines spans

-- such a line, then the lines for some spans
abbrev pub AppendsLines : List ℕ → Option (List ℕ) → Option (List ℕ) → Bool → Type 0
AppendsLines name old new sized = (mid : Option (List ℕ)) × (spans : List Span) ×
    AppendsLine name old mid sized × Appends mid new (span_lines spans)

-- the line for a name and its bytes
abbrev pub line_in : List ℕ → List ℕ → Option (List ℕ)
line_in name d = answer_line name (result_ok (kind_of d 0).answer) (meaning d 0).answer

-- the line for a name and its bytes, then one for each span that the result depends on
abbrev pub lines : List ℕ → List ℕ → Option (List ℕ)
lines name d = option_map (λ text. text ++ span_lines (meaning d 0).marks) (line_in name d)

-- the line for a name and the bytes of a reader, at its offset
abbrev pub line_of : List ℕ → Telling → Option (List ℕ)
line_of name t = answer_line name (result_ok (over_reader t kind_of).answer) (over_reader t meaning).answer

-- What the writer got, if the call returned whether there is a size. It is the line of the layouts, unless a reader
-- that can fail gave no size.
pub record ReportsOf (t : Telling) (name : List ℕ) (old new : Option (List ℕ)) (sized : Bool) : Type 0 where
  pub text : (t.can_fail ≡ false) ⊎ (sized ≡ true) → IsSomeAnd (line_of name t) (Appends old new)
  pub size : sized ≡ true → IsOk (over_reader t meaning).answer
  pub refusal : t.can_fail ≡ false → sized ≡ false → IsErr (over_reader t meaning).answer

-- the same over an honest reader, or one without a model
abbrev pub Reports : Option Telling → List ℕ → Option (List ℕ) → Option (List ℕ) → Bool → Type 0
Reports None name old new sized = Unit {0}
Reports (Some t) name old new sized = IsHonest t → ReportsOf t name old new sized

-- the writer got the line for a lack of memory, and there is no size
pub record LacksMemory (name : List ℕ) (old new : Option (List ℕ)) (sized : Bool) : Type 0 where
  pub text : Appends old new (refused_line name (codes "Out of memory"))
  pub refused : sized ≡ false

-- the writer got the lines for these bytes, and the call returned whether they have a size
pub record TracesTo (d name : List ℕ) (old new : Option (List ℕ)) (sized : Bool) : Type 0 where
  pub text : IsSomeAnd (lines name d) (Appends old new)
  pub size : sized ≡ is_ok (meaning d 0).answer

-- one of the two; always the first if there is no byte
abbrev pub ReportsSpans : List ℕ → List ℕ → Option (List ℕ) → Option (List ℕ) → Bool → Type 0
ReportsSpans d name old new sized = TracesTo d name old new sized ⊎ ((0 < length d) × LacksMemory name old new sized)
