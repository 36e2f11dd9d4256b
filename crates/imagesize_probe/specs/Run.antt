-- What the program writes for the names that it is given.
use Rattle.std.specs.Prelude.{◌≡◌, ℕ, ◌<◌, ◌≤◌, Bool, true, false, if◌then◌else◌, ◌||◌, not, List, [], ◌∷◌, ◌++◌, length, take, ◌⊎◌, Option, None, Some, Result, Ok, Err, IsOkAnd, IsSomeAnd, IfSome, codes, is_ok, option_map}
use Rattle.std.specs.Str.{bytes_eq}
use Rattle.std.specs.Result.{result_ok}
use Rattle.std.specs.Io.KnownBytes.{Appends, Keeps}
use Rattle.std.specs.declared.io.Error.{Error}
use Rattle.imagesize.specs.Meaning.{kind_of, meaning}
use Rattle.imagesize_probe.specs.Line.{answer_line, refused_line, AppendsLine, AppendsLines, LacksMemory, ReportsSpans}
use Rattle.imagesize_probe.specs.Status.{exit_status}
use Rattle.imagesize_source.specs.Reason.{error_text}
use Rattle.imagesize_io.specs.Telling.{Telling, IsHonest}
use Rattle.imagesize_source.specs.declared.error.ImageError.{ImageError}
use Rattle.imagesize_source.specs.declared.error.ImageError.TheVariants.{IoError}
use Rattle.imagesize_source.specs.declared.error.Reason.TheVariants.{Memory}

-- the bytes of the file with each name, or why there are none
abbrev pub Files : Type 0
Files = List ℕ → Result (List ℕ) ImageError

-- a reader with a model that has these bytes from the first one on, and cannot fail
pub record TellsAll (d : List ℕ) (t : Telling) : Type 0 where
  pub honest : IsHonest t
  pub bytes : t.bytes ≡ d
  pub offset : t.offset ≡ 0
  pub faultless : t.can_fail ≡ false

-- what opening a file returns
abbrev pub OpensAs : {R : Type 0} → (R → Option Telling) → Result (List ℕ) ImageError → Result R ImageError → Type 0
OpensAs telling (Ok bytes) (Ok reader) = IsSomeAnd (telling reader) (TellsAll bytes)
OpensAs telling (Ok bytes) (Err e) = ⊥
OpensAs telling (Err e) answer = answer ≡ Err e

-- what opening a name returns, if its file is known
abbrev pub OpensTo : {R : Type 0} → (R → Option Telling) → Option Files → List ℕ → Result R ImageError → Type 0
OpensTo telling None name answer = Unit {0}
OpensTo telling (Some files) name answer = OpensAs telling (files name) answer

-- the line for a name, by its file
abbrev pub line_behind : List ℕ → Result (List ℕ) ImageError → Option (List ℕ)
line_behind name (Ok bytes) = answer_line name (result_ok (kind_of bytes 0).answer) (meaning bytes 0).answer
line_behind name (Err e) = option_map (refused_line name) (error_text e)

-- whether a file has a size
abbrev pub is_sized : Result (List ℕ) ImageError → Bool
is_sized (Ok bytes) = is_ok (meaning bytes 0).answer
is_sized (Err e) = false

-- a line, then another one, if both are stated
abbrev pub join_lines : Option (List ℕ) → Option (List ℕ) → Option (List ℕ)
join_lines None after = None
join_lines (Some text) after = option_map (λ more. text ++ more) after

-- the lines for names, in their order
abbrev pub lines_of : Files → List (List ℕ) → Option (List ℕ)
lines_of files [] = Some []
lines_of files (name ∷ names) = join_lines (line_behind name (files name)) (lines_of files names)

-- whether one of the names has an error
abbrev pub is_any_refused : Files → List (List ℕ) → Bool
is_any_refused files [] = false
is_any_refused files (name ∷ names) = not (is_sized (files name)) || is_any_refused files names

-- The writer got one line for a name, and the call returned whether it has a size. If the file is known, the line and
-- the result are those of the file.
pub record WritesLine (known : Option Files) (name : List ℕ) (old new : Option (List ℕ)) (sized : Bool) : Type 0 where
  pub line : AppendsLine name old new sized
  pub told : IfSome known (λ files. IfSome (line_behind name (files name)) (Appends old new) × (sized ≡ is_sized (files name)))

-- The writer got the lines for the names, and the call returned whether one has an error. All lines are stated if
-- each one is.
abbrev pub WritesLines : Files → List (List ℕ) → Option (List ℕ) → Option (List ℕ) → Bool → Type 0
WritesLines files names old new refused = IfSome (lines_of files names) (Appends old new) × (refused ≡ is_any_refused files names)

-- how many bytes a file may have if its spans are shown
abbrev pub whole_length : ℕ
whole_length = 16777216

-- the first bytes read from a file: all that it may have, and one more that shows that it is longer
abbrev pub Loads : Option Files → List ℕ → List ℕ → Type 0
Loads None name bytes = Unit {0}
Loads (Some files) name bytes = IsOkAnd (files name) (λ d. bytes ≡ take 16777217 d)

-- why no bytes were read: there are none, or an allocation failed
abbrev pub LoadsNone : Option Files → List ℕ → ImageError → Type 0
LoadsNone None name e = Unit {0}
LoadsNone (Some files) name e = (files name ≡ Err e) ⊎ (e ≡ IoError Memory)

-- the writer got the line for a file that is too long, and there is no size
pub record IsTooLong (name : List ℕ) (old new : Option (List ℕ)) (sized : Bool) : Type 0 where
  pub text : Appends old new (refused_line name (codes "file is longer than 16777216 bytes"))
  pub refused : sized ≡ false

-- the lines for a name and its bytes, if the file is not too long
pub record ReportsWhole (d name : List ℕ) (old new : Option (List ℕ)) (sized : Bool) : Type 0 where
  pub long : whole_length < length d → IsTooLong name old new sized
  pub whole : length d ≤ whole_length → ReportsSpans d name old new sized

-- the writer got one line with the error of a name: the stated text, if there is one
pub record AppendsRefusal (e : ImageError) (name : List ℕ) (old new : Option (List ℕ)) (sized : Bool) : Type 0 where
  pub text : IfSome (error_text e) (λ text. Appends old new (refused_line name text))
  pub line : AppendsLine name old new false
  pub refused : sized ≡ false

-- the lines for a name by its file, or the line for a lack of memory
abbrev pub SpansBehind : List ℕ → Result (List ℕ) ImageError → Option (List ℕ) → Option (List ℕ) → Bool → Type 0
SpansBehind name (Ok d) old new sized = ReportsWhole d name old new sized ⊎ LacksMemory name old new sized
SpansBehind name (Err e) old new sized = AppendsRefusal e name old new sized ⊎ LacksMemory name old new sized

-- One line for a name, then lines for spans. If the file is known, they are those of the file.
pub record WritesSpans (known : Option Files) (name : List ℕ) (old new : Option (List ℕ)) (sized : Bool) : Type 0 where
  pub lines : AppendsLines name old new sized
  pub told : IfSome known (λ files. SpansBehind name (files name) old new sized)

-- the lines for a name; with the option also those of its spans
abbrev pub WritesOne : Bool → Option Files → List ℕ → Option (List ℕ) → Option (List ℕ) → Bool → Type 0
WritesOne false known = WritesLine known
WritesOne true known = WritesSpans known

-- What is written for each name is sent on before the next name, in their order. The call returns whether one has an
-- error. `writes` relates a name, the writer's bytes before and after, and whether the name has a size.
abbrev pub WritesEach : (List ℕ → Option (List ℕ) → Option (List ℕ) → Bool → Type 0) → List (List ℕ) → Option (List ℕ) →
    Option (List ℕ) → Bool → Type 0
WritesEach writes [] old new refused = (new ≡ old) × (refused ≡ false)
WritesEach writes (name ∷ names) old new refused = (mid sent : Option (List ℕ)) × (sized others : Bool) ×
    writes name old mid sized × Keeps mid sent × WritesEach writes names sent new others × (refused ≡ (not sized || others))

-- whether the first argument is the option
abbrev pub wants_spans : List (List ℕ) → Bool
wants_spans [] = false
wants_spans (first ∷ _) = bytes_eq first (codes "--spans")

-- the names after the option, if it is there
abbrev pub names_in : List (List ℕ) → List (List ℕ)
names_in [] = []
names_in (first ∷ names) = if bytes_eq first (codes "--spans") then names else first ∷ names

-- what the program does with its arguments: the lines for the names, and the exit status
pub record RunsWith (known : Option Files) (arguments : List (List ℕ)) (old new : Option (List ℕ)) (status : ℕ) : Type 0 where
  pub refused : Bool
  pub lines : WritesEach (WritesOne (wants_spans arguments) known) (names_in arguments) old new refused
  pub ends : status ≡ exit_status (length (names_in arguments)) refused

-- the exit status, by the result of writing the lines
abbrev pub exit_code : Result ℕ Error → ℕ
exit_code (Ok status) = status
exit_code (Err e) = 1
