-- An input that arrives in chunks: what the bytes so far say about every input that begins with them.
use Rattle.std.specs.Prelude.{◌≡◌, ℕ, ◌+◌, ◌-◌, ◌≤◌, ◌<◌, nat_lt, if◌then◌else◌, Bool, true, false, List, [], ◌∷◌, ◌++◌, length, take, drop, Option, Result}
use Rattle.imagesize_pieces.specs.declared.stand.Stand.{Stand}
use Rattle.imagesize_source.specs.Agreement.{EndsBetween, is_covered}
use Rattle.imagesize_source.specs.Known.{KnownBytes, byte_in_parts, input_of, known_state}
use Rattle.imagesize_source.specs.Layout.{Layout, done, refuse, field, reading, begin_record}
use Rattle.imagesize_source.specs.Reading.{Reads, just, most, put_behind, uncounted}
use Rattle.imagesize_source.specs.State.{State}
use Rattle.imagesize_source.specs.Walk.{Step, run}
use Rattle.imagesize_source.specs.declared.halt.Halt.{Halt}
use Rattle.imagesize_source.specs.declared.source.known.Missing.{Missing}
use Rattle.imagesize_source.specs.declared.span.Span.{Span}

-- an input of at most `told` bytes begins with these
pub record Begins (front : List ℕ) (told : ℕ) (d : List ℕ) : Type 0 where
  pub first : take (length front) d ≡ front
  pub fits : length d ≤ told

-- the layout reads no byte before the offset `low`, and none from `high` on
abbrev pub Reach : {X : Type 0} → ℕ → ℕ → Layout X → Type 0
Reach low high (done x) = Unit {0}
Reach low high (refuse e) = Unit {0}
Reach low high (field order offset n f) = (low ≤ offset) × (offset + n ≤ high) × ((v : ℕ) → Reach low high (f v))
Reach low high (reading r offset f) =
    (low ≤ offset) × (offset + most r ≤ high) × ((bs : List ℕ) → length bs ≤ most r → Reach low high (f bs))
Reach low high (begin_record t) = Reach low high t

-- each offset of the spans is below n
abbrev pub AllBelow : ℕ → List Span → Type 0
AllBelow n spans = (offset : ℕ) → is_covered spans offset ≡ true → offset < n

-- an offset of the spans is at least `low` and below `high`
abbrev pub SomeBetween : ℕ → ℕ → List Span → Type 0
SomeBetween low high spans = (offset : ℕ) × (low ≤ offset) × (offset < high) × (is_covered spans offset ≡ true)

-- a read of these spans ends at this offset
abbrev pub EndsAt : ℕ → List Span → Type 0
EndsAt end spans = EndsBetween (end - 1) end spans

-- What a result still needs lies between these offsets: some byte, and if no text is read, a read ends at the second one.
abbrev pub Needs : Bool → ℕ → ℕ → List Span → Type 0
Needs texts low high spans = SomeBetween low high spans × (texts ≡ false → EndsAt high spans)

-- The same, with the end of a read anywhere between these offsets.
abbrev pub NeedsAmong : Bool → ℕ → ℕ → List Span → Type 0
NeedsAmong texts low high spans = SomeBetween low high spans × (texts ≡ false → EndsBetween low high spans)

-- Every input that begins with these bytes has this result, with the same spans.
pub record Says {X : Type 0} (front : List ℕ) (told : ℕ) (reads : List ℕ → Reads X) (answer : Result X Halt) : Type 0 where
  pub marks : List Span
  pub is : (d : List ℕ) → Begins front told d → uncounted (reads d) ≡ just answer marks

-- the span of the bytes from an offset on: those that were kept, and those of the next chunk after them
abbrev pub came : ℕ → List ℕ → List ℕ → List Span
came start kept chunk = record { start = start; len = length kept + length chunk } ∷ []

-- the byte at an offset, or `None` if it is not one of them
abbrev pub byte_at : ℕ → ℕ → List ℕ → List ℕ → ℕ → Option ℕ
byte_at told start kept chunk offset = byte_in_parts told (came start kept chunk) (kept ++ chunk) offset

-- the bytes that came from an offset on, up to the end of the kept ones or of the chunk
abbrev pub run_at : ℕ → List ℕ → List ℕ → ℕ → List ℕ
run_at start kept chunk offset =
    if nat_lt offset start then [] else
    if nat_lt (offset - start) (length kept) then drop (offset - start) kept else drop (offset - start - length kept) chunk

-- what is known of the input by them
abbrev pub known_of : ℕ → ℕ → List ℕ → List ℕ → KnownBytes
known_of told start kept chunk = record { told = told; spans = came start kept chunk; bytes = kept ++ chunk }

-- an input that has them, and 1 at every other offset
abbrev pub stream_input : ℕ → ℕ → List ℕ → List ℕ → List ℕ
stream_input told start kept chunk = input_of (known_of told start kept chunk)

-- these bytes as a source
abbrev pub stream_state : ℕ → ℕ → List ℕ → List ℕ → List Span → Option Missing → State
stream_state told start kept chunk seen missed = known_state (known_of told start kept chunk) seen missed

-- The first `passed` bytes of an input of at most `told` bytes arrived. Those from `start` on are kept. The walk's next record, after the
-- state s, is at `offset`. For every input that begins so, the reads are some spans, then those from that record on.
pub record Streams {S X : Type 0} (step : Step S X) (s : S) (start offset told passed : ℕ) (kept : List ℕ) (whole : List ℕ → Reads X)
    (front : List ℕ) : Type 0 where
  pub as_many : passed ≡ length front
  pub rest : kept ≡ drop start front
  pub before : List Span
  pub resumes : (d : List ℕ) → Begins front told d → uncounted (whole d) ≡ put_behind before (uncounted (run step s offset d))

-- these bytes arrived, the next record is after the state s, and the buffer holds the bytes from `stand.start` on
abbrev pub Stands : {S X : Type 0} → Step S X → S → Stand → List ℕ → (List ℕ → Reads X) → List ℕ → Type 0
Stands step s stand buffer whole front =
    Streams step s stand.start stand.offset stand.told stand.passed (take (stand.passed - stand.start) buffer) whole front
