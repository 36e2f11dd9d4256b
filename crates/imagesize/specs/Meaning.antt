-- The size of an input.
use Rattle.std.specs.Prelude.{ℕ, List, length}
use Rattle.imagesize.specs.Kind.{kind}
use Rattle.imagesize.specs.Types.{way_of}
use Rattle.imagesize_types.specs.declared.size.ImageSize.{ImageSize}
use Rattle.imagesize.specs.declared.types.ImageType.{ImageType}
use Rattle.imagesize_source.specs.Layout.{layout_reads}
use Rattle.imagesize_source.specs.Outcome.{Outcome, outcome_of}
use Rattle.imagesize_source.specs.Reading.{Reads, and_then}
use Rattle.imagesize_source.specs.Way.{by_way}

-- the reads of the type at an offset
abbrev pub kind_reads : List ℕ → ℕ → Reads ImageType
kind_reads d offset = layout_reads d (kind (length d) offset)

-- the reads of an input's size, read as this type
abbrev pub size_reads : ImageType → List ℕ → Reads ImageSize
size_reads type d = by_way (way_of type) d

-- the reads of the type at an offset, then the reads of the size by that type
unfoldable pub meaning_reads : List ℕ → ℕ → Reads ImageSize
meaning_reads d offset = and_then (kind_reads d offset) (λ found. size_reads found d)

-- the type at an offset
abbrev pub kind_of : List ℕ → ℕ → Outcome ImageType
kind_of d offset = outcome_of (kind_reads d offset)

-- the size of an input, read as this type
abbrev pub size_of : ImageType → List ℕ → Outcome ImageSize
size_of type d = outcome_of (size_reads type d)

-- the type at an offset, then the size by that type
abbrev pub meaning : List ℕ → ℕ → Outcome ImageSize
meaning d offset = outcome_of (meaning_reads d offset)
