-- DirectDraw surfaces.
use Rattle.std.specs.Prelude.{ℕ, Bool, List, [], ◌∷◌, codes, if◌then◌else◌, Option, None, Some}
use Rattle.std.specs.Str.{bytes_eq}
use Rattle.imagesize_types.specs.Head.{begins}
use Rattle.imagesize_types.specs.Table.{look_up, look_up_text}
use Rattle.imagesize_types.specs.declared.size.ImageSize.{ImageSize}
use Rattle.imagesize_types.specs.declared.compression.DdsCompression.{DdsCompression}
use Rattle.imagesize_types.specs.declared.compression.DdsCompression.TheVariants.{Bc1, Bc2, Bc3, Bc4, Bc5, Bc6h, Bc7, Rgba32, Rgb24, Unknown}
use Rattle.imagesize_fixed.specs.Sides.{height_first}
use Rattle.imagesize_source.specs.declared.endian.Endian.TheVariants.{Little}
use Rattle.imagesize_source.specs.Numbers.{number}
use Rattle.imagesize_source.specs.Layout.{Layout, if_there}
use Rattle.imagesize_source.specs.Layout.Layout.{«done»}

-- whether the input begins with the magic number
unfoldable pub is_dds : List ℕ → Bool
is_dds head = begins (codes "DDS ") head

-- the four-character codes, and the compression of each
abbrev pub dds_codes : List (List ℕ × DdsCompression)
dds_codes =
    (codes "DXT1", Bc1) ∷ (codes "DXT3", Bc2) ∷ (codes "DXT5", Bc3)
    ∷ (codes "ATI1", Bc4) ∷ (codes "BC4U", Bc4) ∷ (codes "BC4S", Bc4)
    ∷ (codes "ATI2", Bc5) ∷ (codes "BC5U", Bc5) ∷ (codes "BC5S", Bc5)
    ∷ (codes "BC6H", Bc6h) ∷ (codes "BC7U", Bc7) ∷ (codes "BC7L", Bc7) ∷ []

-- the formats of the extended header, and the compression of each
abbrev pub dxgi_formats : List (ℕ × DdsCompression)
dxgi_formats = (95, Bc6h) ∷ (96, Bc6h) ∷ (98, Bc7) ∷ (99, Bc7) ∷ []

-- the bits per pixel of uncompressed images
abbrev pub dds_bit_counts : List (ℕ × DdsCompression)
dds_bit_counts = (32, Rgba32) ∷ (24, Rgb24) ∷ []

abbrev pub dds_number_of : List (ℕ × DdsCompression) → Option (List ℕ) → DdsCompression
dds_number_of table None = Unknown
dds_number_of table (Some bs) = look_up table Unknown (number Little bs)

-- The compression by the code. After `DX10`, the format in the extended header decides. If the code is four zeros,
-- the bits per pixel decide.
abbrev pub dds_compression_by : Option (List ℕ) → Layout DdsCompression
dds_compression_by None = done Unknown
dds_compression_by (Some code) =
    if bytes_eq code (codes "DX10") then if_there 128 4 (λ bs. done (dds_number_of dxgi_formats bs))
    else if bytes_eq code (0 ∷ 0 ∷ 0 ∷ 0 ∷ []) then if_there 88 4 (λ bs. done (dds_number_of dds_bit_counts bs))
    else done (look_up_text dds_codes Unknown code)

unfoldable pub dds_compression : Layout DdsCompression
dds_compression = if_there 84 4 dds_compression_by

-- the height, then the width
abbrev pub dds : Layout ImageSize
dds = height_first Little 4 12 16
