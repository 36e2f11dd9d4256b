-- What the first bytes say about every image that begins with them.
use Rattle.std.specs.Prelude.{◌≡◌, ◌⊎◌, ℕ, ◌-◌, ◌<◌, ◌≤◌, min, false, List, length, if◌then◌else◌, Option, None, Some, Result, Ok, Err, IfSome}
use Rattle.std.specs.Result.{result_ok}
use Rattle.imagesize.specs.Meaning.{kind_reads, meaning_reads}
use Rattle.imagesize.specs.Parted.{has_texts, texts_of}
use Rattle.imagesize.specs.declared.types.ImageType.{ImageType}
use Rattle.imagesize_pieces.specs.Stream.{AllBelow, Begins, Needs, Says}
use Rattle.imagesize.specs.declared.types.ImageType.TheVariants.{Tga}
use Rattle.imagesize_fixed.specs.Tga.{is_tga_footer}
use Rattle.imagesize_source.specs.Input.{part}
use Rattle.imagesize_source.specs.Layout.{layout_reads}
use Rattle.imagesize_source.specs.Reading.{is_stopped}
use Rattle.imagesize_source.specs.declared.halt.Halt.{Halt}
use Rattle.imagesize_source.specs.declared.halt.Halt.TheVariants.{NotSupported}
use Rattle.imagesize_types.specs.declared.size.ImageSize.{ImageSize}
use Rattle.imagesize_records.specs.Steps.{IsSteady, is_text}
use Rattle.imagesize_records.specs.Streamed.{opening}
use Rattle.imagesize_records.specs.declared.opening.Opening.TheVariants as opened
use Rattle.imagesize_stream.specs.declared.stage.Stage.{Stage}
use Rattle.imagesize_stream.specs.declared.stage.Stage.TheVariants.{Done, First, Footer, Records}

-- every input that begins so has this type, or none
abbrev pub TypeIs : List ℕ → ℕ → Option ImageType → Type 0
TypeIs front told image = (d : List ℕ) → Begins front told d → result_ok (kind_reads d 0).answer ≡ image

-- every input that begins so has this size or this error
abbrev pub SizeIs : List ℕ → ℕ → Result ImageSize Halt → Type 0
SizeIs front told size = (d : List ℕ) → Begins front told d → (meaning_reads d 0).answer ≡ size

-- no input of the reported length that begins so depends on these bytes alone
abbrev pub RestsOnMore : List ℕ → ℕ → Type 0
RestsOnMore front told = (d : List ℕ) → Begins front told d → length d ≡ told → AllBelow (length front) (meaning_reads d 0).marks → ⊥

-- no input of the reported length that begins so has its type by these bytes alone
abbrev pub TypeRests : List ℕ → ℕ → Type 0
TypeRests front told = (d : List ℕ) → Begins front told d → length d ≡ told → AllBelow (length front) (kind_reads d 0).marks → ⊥

-- the same, if no type is known
abbrev pub TypeMissing : Option ImageType → List ℕ → ℕ → Type 0
TypeMissing None front told = TypeRests front told
TypeMissing (Some type) front told = Unit {0}

-- each of them depends on a byte from `low` on, below `high`; if it has no texts, a read ends at `high`
abbrev pub RestsBetween : ℕ → ℕ → List ℕ → ℕ → Type 0
RestsBetween low high front told = (d : List ℕ) → Begins front told d → length d ≡ told
    → Needs (texts_of d) low high (meaning_reads d 0).marks

-- The bytes from this offset on are not the rest of a header of 18 bytes after its first 12.
abbrev pub OutOfHeader : ℕ → Type 0
OutOfHeader offset = (offset < 12) ⊎ (18 ≤ offset)

-- the input is a TGA of this size if its footer says so, and type and result depend on its last byte, where a read ends
pub record IsByFooter (size : ImageSize) (d : List ℕ) : Type 0 where
  pub type : (kind_reads d 0).answer ≡ (if is_tga_footer (part d (length d - 18) 18) then Ok Tga else Err NotSupported)
  pub size_is : (meaning_reads d 0).answer ≡ (if is_tga_footer (part d (length d - 18) 18) then Ok size else Err NotSupported)
  pub rests : Needs false (length d - 1) (length d) (meaning_reads d 0).marks
  pub typed : Needs false (length d - 1) (length d) (kind_reads d 0).marks

-- The first bytes do not suffice. The size depends on a byte that the failed read requests. If no text is read, a read ends where
-- that one does. Of the header of what may be a TGA, the size may depend on no byte. An unknown type depends on a later byte too.
pub record Misses (front : List ℕ) (told : ℕ) (image : Option ImageType) (end : ℕ) : Type 0 where
  pub few : length front < 132
  pub ends : (length front < end) × (end ≤ told)
  pub rests : RestsOnMore front told
  pub known : IfSome image (λ type. Says front told (λ d. kind_reads d 0) (Ok type))
  pub typed : TypeMissing image front told
  pub between : OutOfHeader (length front) ⊎ (18 < end) → RestsBetween (length front) (min end 132) front told

-- What the first bytes say is true of every input that begins so.
abbrev pub Hears : List ℕ → ℕ → Option ImageType → Stage → ℕ → Type 0
Hears front told kind First offset = Misses front told kind offset
Hears front told kind (Records next) offset =
    (type : ImageType) × (kind ≡ Some type) × IsSteady next offset × Says front told (λ d. kind_reads d 0) (Ok type)
    × Says front told (λ d. layout_reads d (opening type)) (Ok (opened.Records next offset)) × (12 ≤ length front)
    × (is_text next ≡ has_texts type)
Hears front told kind (Footer size) offset =
    (kind ≡ None) × (18 ≤ length front) × ((d : List ℕ) → Begins front told d → IsByFooter size d)
Hears front told kind (Done size) offset = TypeIs front told kind × SizeIs front told size × (is_stopped size ≡ false)
