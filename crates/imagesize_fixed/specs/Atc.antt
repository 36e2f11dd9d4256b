-- ATC textures, in PKM and DDS files.
use Rattle.std.specs.Prelude.{ℕ, Bool, List, [], ◌∷◌, ◌&&◌, ◌||◌, drop, if◌then◌else◌, Option, None, Some}
use Rattle.imagesize_types.specs.Head.{stands_at}
use Rattle.imagesize_fixed.specs.Dds.{dds, is_dds}
use Rattle.imagesize_fixed.specs.Pkm.{is_pkm, pkm}
use Rattle.imagesize_fixed.specs.Pvrtc.{pvr2}
use Rattle.imagesize_types.specs.Table.{look_up}
use Rattle.imagesize_types.specs.declared.size.ImageSize.{ImageSize}
use Rattle.imagesize_types.specs.declared.compression.AtcCompression.{AtcCompression}
use Rattle.imagesize_types.specs.declared.compression.AtcCompression.TheVariants.{Rgb, RgbaExplicit, RgbaInterpolated, Unknown}
use Rattle.imagesize_source.specs.declared.endian.Endian.TheVariants.{Big}
use Rattle.imagesize_source.specs.Numbers.{number}
use Rattle.imagesize_source.specs.Layout.{Layout, if_there, bytes}
use Rattle.imagesize_source.specs.Layout.Layout.{«done»}

-- whether the input is a PKM file with a data type of ATC
unfoldable pub is_atc : List ℕ → Bool
is_atc head = is_pkm head && (stands_at 6 (0x8C ∷ 0x92 ∷ []) head || stands_at 6 (0x8C ∷ 0x93 ∷ []) head || stands_at 6
    (0x87 ∷ 0xEE ∷ []) head)

-- the data types, and the compression of each
abbrev pub atc_data_types : List (ℕ × AtcCompression)
atc_data_types = (0x8C92, Rgb) ∷ (0x8C93, RgbaExplicit) ∷ (0x87EE, RgbaInterpolated) ∷ []

abbrev pub atc_compression_of : Option (List ℕ) → AtcCompression
atc_compression_of None = Unknown
atc_compression_of (Some bs) = if is_pkm bs then look_up atc_data_types Unknown (number Big (drop 6 bs)) else Unknown

-- the compression by the data type, if the file has one and is a PKM file
unfoldable pub atc_compression : Layout AtcCompression
atc_compression = if_there 0 8 (λ bs. done (atc_compression_of bs))

-- the size from the header of a DDS or of a PKM file, or else from the old header of PowerVR textures
abbrev pub atc : Layout ImageSize
atc = bytes 0 4 (λ tag.
    if is_dds tag then dds
    else bytes 0 8 (λ head. if is_atc head then pkm else pvr2))
