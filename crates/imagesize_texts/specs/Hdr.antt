-- Radiance RGBE, by "Picture File Format" of the Radiance reference manual.
use Rattle.std.specs.Prelude.{ℕ, ◌+◌, Bool, List, codes, [], ◌∷◌, ◌++◌, ◌||◌, ◌==◌, length, slice_index_or, if◌then◌else◌, Option, None, Some, Result, Err, ok_or}
use Rattle.imagesize_types.specs.Head.{begins}
use Rattle.imagesize_types.specs.Sides.{size_if_known}
use Rattle.imagesize_types.specs.declared.size.ImageSize.{ImageSize}
use Rattle.imagesize_source.specs.declared.halt.Halt.{Halt}
use Rattle.imagesize_source.specs.declared.halt.Halt.TheVariants.{HdrDimensionsNotFound, InvalidHdrDimensionsLine, InvalidHdrIdentifier}
use Rattle.imagesize_source.specs.Chain.{Said, Decided, Next, Chain, chain_at}
use Rattle.imagesize_source.specs.Layout.{Layout, layout_reads, accept, bind}
use Rattle.imagesize_source.specs.Layout.Layout.{refuse, «done»}
use Rattle.imagesize_source.specs.Reading.{Reads, and_then}
use Rattle.imagesize_source.specs.Walk.{Step}
use Rattle.imagesize_source.specs.declared.walk.Start.{Start}
use Rattle.imagesize_texts.specs.Contents.{number_text, words}
use Rattle.imagesize_texts.specs.Texts.{line_at}

-- whether the input begins with the first line
unfoldable pub is_hdr : List ℕ → Bool
is_hdr head = begins (codes "#?RADIANCE" ++ 0x0A ∷ []) head || begins (codes "#?RGBE" ++ 0x0A ∷ []) head

-- whether the first line begins with the format's identifier
unfoldable pub is_identifier : List ℕ → Bool
is_identifier text = begins (codes "#?RADIANCE") text || begins (codes "#?RGBE") text

abbrev pub check_identifier : List ℕ → Layout ℕ
check_identifier text = if is_identifier text then done (length text + 1) else refuse InvalidHdrIdentifier

-- the length of the first line in bytes, at most 11
abbrev pub hdr_identifier : Layout ℕ
hdr_identifier = line_at 0x0A 0 11 check_identifier

-- whether a line gives the resolution: it begins with an axis and its direction
unfoldable pub is_resolution : List ℕ → Bool
is_resolution text = (begins (codes "-Y") text || begins (codes "+Y") text) || (begins (codes "-X") text || begins (codes "+X") text)

-- the second and the fourth of four words: the lengths of the two axes
unfoldable pub second_and_fourth : List (List ℕ) → Option (List ℕ × List ℕ)
second_and_fourth ws = if length ws == 4 then Some (slice_index_or ws 1 [], slice_index_or ws 3 []) else None

abbrev pub hdr_lengths : Option (List ℕ × List ℕ) → Result ImageSize Halt
hdr_lengths None = Err InvalidHdrDimensionsLine
hdr_lengths (Some lengths) = ok_or (size_if_known (number_text lengths.1) (number_text lengths.0)) HdrDimensionsNotFound

-- the size from such a line; the first length is the height, whatever the axes are
abbrev pub resolution : List ℕ → Result ImageSize Halt
resolution text = hdr_lengths (second_and_fourth (words text))

abbrev pub hdr_line : ℕ → List ℕ → Layout (Said (Unit {0}) ImageSize)
hdr_line offset text =
    if is_resolution text then accept (resolution text) (λ size. done (Decided size))
    else done (Next tt (offset + (length text + 1)))

-- the lines after the first, of at most 256 bytes each
abbrev pub hdr_lines : ℕ → Chain (Unit {0}) ImageSize
hdr_lines first = record { first = first; said = λ passed offset. line_at 0x0A offset 256 (hdr_line offset) }

-- the first line that gives the resolution
abbrev pub hdr : List ℕ → Reads ImageSize
hdr d = and_then (layout_reads d hdr_identifier) (λ first. chain_at (hdr_lines first) d)

-- the next line; the lines before it leave nothing
abbrev pub hdr_step : Step (Unit {0}) ImageSize
hdr_step s offset = line_at 0x0A offset 256 (hdr_line offset)

-- the first line; the other lines begin after it
abbrev pub hdr_open : Layout (Start (Unit {0}))
hdr_open = bind hdr_identifier (λ first. done (record { records = tt; offset = first }))
