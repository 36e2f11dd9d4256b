-- PowerVR textures.
use Rattle.std.specs.Prelude.{ℕ, Bool, List, [], ◌∷◌, ◌++◌, ◌||◌, codes, if◌then◌else◌, Option, None, Some}
use Rattle.imagesize_types.specs.Head.{begins}
use Rattle.imagesize_types.specs.Table.{look_up}
use Rattle.imagesize_types.specs.declared.size.ImageSize.{ImageSize}
use Rattle.imagesize_types.specs.declared.compression.PvrtcCompression.{PvrtcCompression}
use Rattle.imagesize_types.specs.declared.compression.PvrtcCompression.TheVariants.{Pvrtc2BppRgb, Pvrtc2BppRgba, Pvrtc4BppRgb, Pvrtc4BppRgba, Etc2Rgb, Etc2Rgba, Etc2RgbA1, EacR11, EacRg11, Unknown}
use Rattle.imagesize_fixed.specs.Sides.{height_first}
use Rattle.imagesize_source.specs.declared.endian.Endian.TheVariants.{Little}
use Rattle.imagesize_source.specs.Numbers.{number}
use Rattle.imagesize_source.specs.Layout.{Layout, if_there, bytes}
use Rattle.imagesize_source.specs.Layout.Layout.{«done»}

-- whether the input begins with the version of the new header, version 3
unfoldable pub is_pvr3 : List ℕ → Bool
is_pvr3 head = begins (codes "PVR" ++ 3 ∷ []) head

-- whether the input begins with the length of the old header, 52, or with the version of the new one
unfoldable pub is_pvrtc : List ℕ → Bool
is_pvrtc head = begins (52 ∷ 0 ∷ 0 ∷ 0 ∷ []) head || is_pvr3 head

-- the pixel formats, and the compression of each
abbrev pub pvrtc_formats : List (ℕ × PvrtcCompression)
pvrtc_formats =
    (0, Pvrtc2BppRgb) ∷ (1, Pvrtc2BppRgba) ∷ (2, Pvrtc4BppRgb) ∷ (3, Pvrtc4BppRgba)
    ∷ (22, Etc2Rgb) ∷ (23, Etc2Rgba) ∷ (24, Etc2RgbA1) ∷ (25, EacR11) ∷ (26, EacRg11) ∷ []

abbrev pub pvrtc_format_of : Option (List ℕ) → PvrtcCompression
pvrtc_format_of None = Unknown
pvrtc_format_of (Some bs) = look_up pvrtc_formats Unknown (number Little bs)

-- the compression by the pixel format, which only the new header has
abbrev pub pvrtc_compression_by : Option (List ℕ) → Layout PvrtcCompression
pvrtc_compression_by None = done Unknown
pvrtc_compression_by (Some tag) = if is_pvr3 tag then if_there 8 8 (λ bs. done (pvrtc_format_of bs)) else done Unknown

unfoldable pub pvrtc_compression : Layout PvrtcCompression
pvrtc_compression = if_there 0 4 pvrtc_compression_by

-- the height, then the width, in the new header and in the old one
abbrev pub pvr3 : Layout ImageSize
pvr3 = height_first Little 4 24 28

abbrev pub pvr2 : Layout ImageSize
pvr2 = height_first Little 4 4 8

abbrev pub pvrtc : Layout ImageSize
pvrtc = bytes 0 4 (λ tag. if is_pvr3 tag then pvr3 else pvr2)
