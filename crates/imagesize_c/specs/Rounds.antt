-- What the spans that were passed to a probe say, and what the calls over it write.
use Rattle.std.specs.Prelude.{◌≡◌, ℕ, ◌+◌, ◌-◌, ◌<◌, ◌≤◌, ◌^◌, false, List, length, min, Option, Result}
use Rattle.imagesize.specs.Meaning.{meaning}
use Rattle.imagesize.specs.Parted.{IfFound, IfWanted, texts_of}
use Rattle.imagesize.specs.declared.parts.PartsAnswer.{PartsAnswer}
use Rattle.imagesize.specs.declared.parts.PartsAnswer.TheVariants.{Found, Wanted}
use Rattle.imagesize.specs.declared.types.ImageType.{ImageType}
use Rattle.imagesize_c.specs.Status.{status_of}
use Rattle.imagesize_c.specs.Told.{TellsSize, TellsType}
use Rattle.imagesize_pieces.specs.Stream.{EndsAt}
use Rattle.imagesize_source.specs.declared.error.ImageError.{ImageError}
use Rattle.imagesize_source.specs.declared.span.Span.{Span}
use Rattle.imagesize_stream.specs.Given.{HasPart}
use Rattle.imagesize_stream.specs.Parts.{MayBe, latest_of, next_of, total_of}
use Rattle.imagesize_stream.specs.declared.parts.PartsProbe.{PartsProbe}
use Rattle.imagesize_types.specs.declared.size.ImageSize.{ImageSize}

-- The input may be each one of this length. A length of 2^63 or more is taken for the greatest one. The first span has 18
-- bytes at least, or the whole input.
abbrev pub Opens : PartsProbe → ℕ → Type 0
Opens probe total = (total_of probe ≡ min total (2 ^ 63 - 1)) × ((d : List ℕ) → length d ≡ total_of probe → MayBe probe d)
    × IfWanted (next_of probe) (λ w. (w.start ≡ 0) × (min 18 (total_of probe) ≤ w.len))

-- The bytes from an offset on were passed. The length stays, and so does a result. The input may be each one that it might be
-- before and that has these bytes. After a gap nothing changes. With the first requested byte, a later span is requested. With
-- the whole requested span, one after it is.
pub record TakesPart (old new : PartsProbe) (offset : ℕ) (bytes : List ℕ) : Type 0 where
  pub total : total_of new ≡ total_of old
  pub keeps : IfFound (next_of old) (λ found. next_of new ≡ Found found)
  pub goes_on : (d : List ℕ) → MayBe old d → HasPart d offset bytes → MayBe new d
  pub gap : IfWanted (next_of old) (λ w. w.start < offset → new ≡ old)
  pub further : IfWanted (next_of old) (λ w. offset ≤ w.start → w.start < offset + length bytes
      → IfWanted (next_of new) (λ next. w.start < next.start))
  pub beyond : IfWanted (next_of old) (λ w. offset ≤ w.start → w.start + w.len ≤ offset + length bytes
      → IfWanted (next_of new) (λ next. w.start + w.len ≤ next.start))

-- As long as fewer than 12 bytes are there, a requested span ends at the latest with the first 18. For a type without texts, a span
-- that ends after these ends where a read ends that the result depends on. In a record, a span ends at the latest with the last byte
-- that the record may read. Before the first record, it ends at the latest with the first 132 bytes.
pub record EndsEarly (probe : PartsProbe) (w : Span) : Type 0 where
  pub early : w.start < 12 → w.start + w.len ≤ 18
  pub exact : (d : List ℕ) → MayBe probe d → texts_of d ≡ false → 18 < w.start + w.len → EndsAt (w.start + w.len) (meaning d 0).marks
  pub latest : w.start + w.len ≤ latest_of probe

-- The status of a result, with its type and its size. Without a result, the span that is requested.
abbrev pub TellsNext : PartsAnswer (Option ImageType × Result ImageSize ImageError)
    → ℕ → ℕ → ℕ → ℕ → ℕ → ℕ → ℕ → ℕ → ℕ → Span → Span → Type 0
TellsNext (Wanted span) status a number c compression w width h height before wanted =
    (status ≡ 30) × (number ≡ a) × (compression ≡ c) × (width ≡ w) × (height ≡ h) × (wanted ≡ span)
TellsNext (Found (kind, size)) status a number c compression w width h height before wanted =
    (status ≡ status_of size) × TellsType kind a number c compression × TellsSize size w width h height × (wanted ≡ before)
