-- A probe whose bytes arrive in chunks: which bytes arrived, and what they say.
use Rattle.std.specs.Prelude.{◌≡◌, ℕ, ◌+◌, ◌-◌, ◌<◌, ◌≤◌, max, min, Bool, false, List, ◌++◌, length, drop, take, Option, None, Some, IfSome, Result}
use Rattle.std.specs.Coded.{Unit-prop, coded_bool, le_prop, →_prop, ×_prop}
use denote.Struct.Props.{≡_prop}
use Rattle.imagesize.specs.Meaning.{meaning_reads}
use Rattle.imagesize.specs.Parted.{has_texts, texts_of}
use Rattle.imagesize.specs.declared.types.ImageType.{ImageType}
use Rattle.imagesize_pieces.specs.Stream.{Begins, EndsAt, Needs, NeedsAmong, Streams}
use Rattle.imagesize_pieces.specs.declared.stand.Stand.{Stand}
use Rattle.imagesize_source.specs.Reading.{is_stopped}
use Rattle.imagesize_source.specs.Text.{is_ended}
use Rattle.imagesize_source.specs.declared.halt.Halt.{Halt}
use Rattle.imagesize_source.specs.declared.span.Span.{Span}
use Rattle.imagesize_stream.specs.Heard.{IsByFooter, OutOfHeader, RestsOnMore, SizeIs, TypeIs, TypeMissing, TypeRests}
use Rattle.imagesize_records.specs.Steps.{IsSteady, first_text, is_text, reach_at, reach_of, steady_prop, step}
use Rattle.imagesize_records.specs.declared.awaited.Awaited.{Awaited}
use Rattle.imagesize_stream.specs.declared.stage.Stage.{Stage}
use Rattle.imagesize_stream.specs.declared.stage.Stage.TheVariants.{Done, First, Footer, Records}
use Rattle.imagesize_types.specs.declared.size.ImageSize.{ImageSize}

-- whether the type is a text format
abbrev pub texts_by : Option ImageType → Bool
texts_by None = false
texts_by (Some type) = has_texts type

-- While no type is known, the type of each input of the reported length that begins so depends on a later byte.
abbrev pub TypedBy : Stage → Option ImageType → List ℕ → ℕ → Type 0
TypedBy First kind front told = TypeMissing kind front told
TypedBy (Footer size) kind front told = TypeRests front told
TypedBy _ kind front told = Unit {0}

-- These bytes arrived. By the stage, the buffer holds all, those from the walk's position on, or the last 18; or the result is known.
abbrev pub CameBy : Stage → Option ImageType → ℕ → ℕ → ℕ → ℕ → List ℕ → List ℕ → Type 0
CameBy First kind start offset passed told buffer front = (take passed buffer ≡ front) × IfSome kind (λ type. TypeIs front told (Some type))
CameBy (Records next) kind start offset passed told buffer front =
    TypeIs front told kind
    × Streams step next start offset told passed (take (passed - start) buffer) (λ d. meaning_reads d 0) front
    × (is_text next ≡ texts_by kind)
CameBy (Footer size) kind start offset passed told buffer front =
    (passed ≡ length front) × (take 18 buffer ≡ drop (length front - 18) front)
    × IfSome kind (λ type. TypeIs front told (Some type))
    × ((d : List ℕ) → Begins front told d → IsByFooter size d)
CameBy (Done size) kind start offset passed told buffer front = TypeIs front told kind × SizeIs front told size × (length front ≤ told)

abbrev pub CameTo : Stage → Option ImageType → Stand → List ℕ → List ℕ → Type 0
CameTo stage kind stand buffer front = CameBy stage kind stand.start stand.offset stand.passed stand.told buffer front

-- what always holds at a stage
abbrev pub HoldsBy : Stage → ℕ → ℕ → ℕ → Type 0
HoldsBy First start offset passed = (start ≤ 0) × (passed < 132)
HoldsBy (Records next) start offset passed = IsSteady next offset × ((passed - start ≤ 1023) × (12 ≤ passed))
HoldsBy (Footer size) start offset passed = 18 ≤ passed
HoldsBy (Done size) start offset passed = is_stopped size ≡ false

pub holds_prop : (stage : Stage) (start offset passed : ℕ) → IsProp (HoldsBy stage start offset passed)
holds_prop First start offset passed = ×_prop le_prop le_prop
holds_prop (Records next) start offset passed = ×_prop (steady_prop next offset) (×_prop le_prop le_prop)
holds_prop (Footer size) start offset passed = le_prop
holds_prop (Done size) start offset passed = ≡_prop coded_bool (is_stopped size) false

abbrev pub HoldsAt : Stage → Stand → Type 0
HoldsAt stage stand = HoldsBy stage stand.start stand.offset stand.passed

-- So many of the kept bytes were searched for the end of the text that is next, and do not have it.
abbrev pub SearchedBy : Stage → ℕ → ℕ → List ℕ → Type 0
SearchedBy (Records next) searched kept buffer = (searched ≤ kept) × (is_ended (first_text next) (take searched buffer) ≡ false)
SearchedBy _ searched kept buffer = Unit {0}

pub searched_prop : (stage : Stage) (searched kept : ℕ) (buffer : List ℕ) → IsProp (SearchedBy stage searched kept buffer)
searched_prop (Records next) searched kept buffer =
    ×_prop le_prop (≡_prop coded_bool (is_ended (first_text next) (take searched buffer)) false)
searched_prop _ searched kept buffer = Unit-prop

-- P, if there is no result yet
abbrev pub IfAwaiting : Stage → Type 0 → Type 0
IfAwaiting (Done size) P = Unit {0}
IfAwaiting _ P = P

-- While there is no answer, bytes are missing up to this end, after those that came and after the start. A footer has 18
-- bytes, a text 1,024 at most, another record 132. Not all bytes came that the record reads. Of the first bytes 18 or more are
-- requested at once, and 132 at most. As long as fewer than 12 came, only these 18 are requested.
abbrev pub AheadBy : Stage → ℕ → ℕ → ℕ → ℕ → Type 0
AheadBy First start passed end told =
    (passed < end) × ((start < end) × ((end ≤ told) × ((end ≤ start + 132) × ((min 18 told ≤ end) × (passed < 12 → end ≤ 18)))))
AheadBy (Records next) start passed end told =
    (passed < end) × ((start < end) × ((end ≤ told) × ((end ≤ start + reach_of (is_text next)) × (passed < start + reach_at next))))
AheadBy (Footer size) start passed end told = (passed < end) × ((start + 18 ≤ end) × ((end ≤ told) × (end ≤ start + 18)))
AheadBy (Done size) start passed end told = Unit {0}

abbrev pub IsAhead : Stage → Stand → Type 0
IsAhead stage stand = AheadBy stage stand.start stand.passed stand.end stand.told

-- Of a record, no byte is requested after those that it reads. Any other stage requests all up to the end.
abbrev pub IsCut : Stage → ℕ → ℕ → ℕ → Type 0
IsCut (Records next) start end cut = cut ≡ min end (start + reach_at next)
IsCut _ start end cut = cut ≡ end

-- While there is no answer, the requested span is from the byte after those that came up to this end. A record is requested no
-- further than it is read.
abbrev pub NextBy : Stage → ℕ → ℕ → ℕ → ℕ → Type 0
NextBy First start passed end told =
    (passed < end) × ((end ≤ told) × ((end ≤ start + 132) × ((min 18 told ≤ end) × (passed < 12 → end ≤ 18))))
NextBy (Records next) start passed end told = (passed < end) × ((end ≤ told) × ((start ≤ passed) × (end ≤ start + reach_at next)))
NextBy (Footer size) start passed end told = (passed < end) × ((end ≤ told) × (end ≤ passed + 18))
NextBy (Done size) start passed end told = Unit {0}

pub next_prop : (stage : Stage) (start passed end told : ℕ) → IsProp (NextBy stage start passed end told)
next_prop First start passed end told = ×_prop le_prop (×_prop le_prop (×_prop le_prop (×_prop le_prop (→_prop le_prop))))
next_prop (Records next) start passed end told = ×_prop le_prop (×_prop le_prop (×_prop le_prop le_prop))
next_prop (Footer size) start passed end told = ×_prop le_prop (×_prop le_prop le_prop)
next_prop (Done size) start passed end told = Unit-prop

abbrev pub IsNext : Stage → Stand → Type 0
IsNext stage stand = NextBy stage stand.start stand.passed stand.end stand.told

-- Where a requested span ends at the latest: with the first 132 bytes, with what the next record reads, or with the input.
abbrev pub latest_by : Stage → ℕ → ℕ → ℕ
latest_by First start told = 132
latest_by (Records next) start told = start + reach_at next
latest_by _ start told = told

-- The result depends on a byte before this end, after those that came, and in the next record or footer, where that is read. If no
-- text is read, a read that it depends on ends at this end. At least the first 18 bytes are requested, so there a read ends among
-- them. Of the bytes 12 to 17 this is not known, if they may be the header of a TGA.
abbrev pub MarkedBy : Bool → Stage → ℕ → ℕ → ℕ → List Span → Type 0
MarkedBy texts First start passed end marks =
    (OutOfHeader passed → NeedsAmong texts passed end marks) × (18 < end → texts ≡ false → EndsAt end marks)
MarkedBy texts (Records next) start passed end marks = Needs texts (max passed start) (min end (start + reach_at next)) marks
MarkedBy texts (Footer size) start passed end marks = Needs texts (max passed start) end marks
MarkedBy texts (Done size) start passed end marks = Unit {0}

-- each input of the reported length that begins so depends on such a byte
abbrev pub RestsOnNext : Stage → Stand → List ℕ → ℕ → Type 0
RestsOnNext stage stand front told = (d : List ℕ) → Begins front told d → length d ≡ told
    → MarkedBy (texts_of d) stage stand.start stand.passed stand.end (meaning_reads d 0).marks

-- the stage after a walk: the size or the error, or the next record
abbrev pub stage_after : Awaited → Option (Result ImageSize Halt) → Stage
stage_after next None = Records next
stage_after next (Some size) = Done size

-- The position of a probe after a chunk that leads to this stage. While there is no result, the whole chunk is counted, and the
-- input has more bytes.
pub record Counts (stage : Stage) (old new : Stand) (chunk : List ℕ) : Type 0 where
  pub told : new.told ≡ old.told
  pub holds : HoldsAt stage new
  pub ahead : IsAhead stage new
  pub passed : IfAwaiting stage (new.passed ≡ old.passed + length chunk)
  pub whole : IfAwaiting stage (old.told ≤ old.passed + length chunk → ⊥)

-- A chunk leads from one stage to another. This is what is known after it, for each list of bytes that may have arrived before.
pub record Continues (from to : Stage) (kind type : Option ImageType) (old new : Stand) (buffer after chunk : List ℕ) : Type 0 where
  pub goes_on : (front : List ℕ) → CameTo from kind old buffer front → CameTo to type new after (front ++ chunk)
  pub complete : IfAwaiting to ((front : List ℕ) → CameTo from kind old buffer front → RestsOnMore (front ++ chunk) old.told)
  pub marked : (front : List ℕ) → CameTo from kind old buffer front → RestsOnNext to new (front ++ chunk) old.told
  pub typed : (front : List ℕ) → CameTo from kind old buffer front → TypedBy to type (front ++ chunk) old.told
