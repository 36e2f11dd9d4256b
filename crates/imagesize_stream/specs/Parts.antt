-- What a probe that is given parts of an input returns.
use Rattle.std.specs.Prelude.{◌≡◌, ℕ, ◌+◌, ◌-◌, ◌<◌, ◌≤◌, true, List, Option, None, Some, Result}
use Rattle.imagesize.specs.Meaning.{meaning}
use Rattle.imagesize.specs.declared.parts.PartsAnswer.{PartsAnswer}
use Rattle.imagesize.specs.declared.parts.PartsAnswer.TheVariants.{Found, Wanted}
use Rattle.imagesize.specs.declared.types.ImageType.{ImageType}
use Rattle.imagesize_pieces.specs.declared.stand.Stand.{Stand}
use Rattle.imagesize_source.specs.Agreement.{is_covered}
use Rattle.imagesize_source.specs.declared.error.ImageError.{ImageError}
use Rattle.imagesize_source.specs.declared.span.Span.{Span}
use Rattle.imagesize_stream.specs.Given.{MayBeAt}
use Rattle.imagesize_stream.specs.Probe.{latest_by}
use Rattle.imagesize_stream.specs.Pushed.{answer_of, told_of}
use Rattle.imagesize_stream.specs.declared.parts.PartsProbe.{PartsProbe}
use Rattle.imagesize_types.specs.declared.size.ImageSize.{ImageSize}

-- the input may be this one, by the parts that were given
abbrev pub MayBe : PartsProbe → List ℕ → Type 0
MayBe parts d = MayBeAt parts.probe.stage parts.probe.kind parts.probe.stand parts.probe.buffer d

-- how many bytes the input has
abbrev pub total_of : PartsProbe → ℕ
total_of parts = told_of parts.probe

abbrev pub found_or_next : Option (Option ImageType × Result ImageSize ImageError) → Stand
    → PartsAnswer (Option ImageType × Result ImageSize ImageError)
found_or_next (Some found) stand = Found found
found_or_next None stand = Wanted (record { start = stand.passed; len = stand.end - stand.passed })

-- type and size, or the span that is requested next
abbrev pub next_of : PartsProbe → PartsAnswer (Option ImageType × Result ImageSize ImageError)
next_of parts = found_or_next (answer_of parts.probe) parts.probe.stand

-- the offset at which the requested span ends at the latest
abbrev pub latest_of : PartsProbe → ℕ
latest_of parts = latest_by parts.probe.stage parts.probe.stand.start parts.probe.stand.told

-- the result of this input depends on a byte of the span
abbrev pub HasMarked : Span → List ℕ → Type 0
HasMarked w d = (offset : ℕ) × (w.start ≤ offset) × (offset < w.start + w.len) × (is_covered (meaning d 0).marks offset ≡ true)
