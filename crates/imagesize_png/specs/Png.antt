-- PNG. Portable Network Graphics Specification, sections 5.2 (PNG signature) and 11.2.2 (IHDR Image header).
use Rattle.std.specs.Prelude.{ℕ, Bool, if◌then◌else◌, List, [], ◌∷◌}
use Rattle.imagesize_types.specs.Head.{begins}
use Rattle.imagesize_types.specs.declared.size.ImageSize.{ImageSize}
use Rattle.imagesize_source.specs.declared.endian.Endian.TheVariants.{Big}
use Rattle.imagesize_source.specs.declared.halt.Halt.TheVariants.{NotSupported}
use Rattle.imagesize_source.specs.Layout.Layout.{field, refuse, «done»}
use Rattle.imagesize_source.specs.Layout.{Layout, bytes, layout_reads}
use Rattle.imagesize_source.specs.Outcome.{Outcome, outcome_of}
use Rattle.imagesize_source.specs.Reading.{Reads}

-- the signature: 89 50 4E 47 0D 0A 1A 0A
abbrev pub signature : List ℕ
signature = 137 ∷ 80 ∷ 78 ∷ 71 ∷ 13 ∷ 10 ∷ 26 ∷ 10 ∷ []

-- whether the bytes begin with the signature
unfoldable pub is_png : List ℕ → Bool
is_png head = begins signature head

-- the width, then the height, of the image header; the data of the first chunk begin at offset 16
abbrev pub png_sides : Layout ImageSize
png_sides = field Big 16 4 (λ width. field Big 20 4 (λ height. done (record { width = width; height = height })))

abbrev pub png_by : Bool → Layout ImageSize
png_by is = if is then png_sides else refuse NotSupported

-- The size of an input with its signature at an offset. The offsets of the width and the height count from the first
-- byte of the input.
abbrev pub png : ℕ → Layout ImageSize
png offset = bytes offset 8 (λ head. png_by (is_png head))

abbrev pub png_reads : List ℕ → ℕ → Reads ImageSize
png_reads d offset = layout_reads d (png offset)

abbrev pub png_of : List ℕ → ℕ → Outcome ImageSize
png_of d offset = outcome_of (png_reads d offset)
