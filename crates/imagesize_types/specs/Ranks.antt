-- The order of compressions: the position of each in its list.
use Rattle.std.specs.Prelude.{ℕ}
use Rattle.imagesize_types.specs.declared.compression.AtcCompression.{AtcCompression}
use Rattle.imagesize_types.specs.declared.compression.AtcCompression.TheVariants as atc
use Rattle.imagesize_types.specs.declared.compression.Compression.{Compression}
use Rattle.imagesize_types.specs.declared.compression.Compression.TheVariants as heif
use Rattle.imagesize_types.specs.declared.compression.DdsCompression.{DdsCompression}
use Rattle.imagesize_types.specs.declared.compression.DdsCompression.TheVariants as dds
use Rattle.imagesize_types.specs.declared.compression.PkmCompression.{PkmCompression}
use Rattle.imagesize_types.specs.declared.compression.PkmCompression.TheVariants as pkm
use Rattle.imagesize_types.specs.declared.compression.PvrtcCompression.{PvrtcCompression}
use Rattle.imagesize_types.specs.declared.compression.PvrtcCompression.TheVariants as pvrtc

-- compressions of an ATC texture
abbrev pub atc_rank : AtcCompression → ℕ
atc_rank atc.Rgb = 0
atc_rank atc.RgbaExplicit = 1
atc_rank atc.RgbaInterpolated = 2
atc_rank atc.Unknown = 3

-- compressions of a HEIF
abbrev pub heif_rank : Compression → ℕ
heif_rank heif.Av1 = 0
heif_rank heif.Hevc = 1
heif_rank heif.Jpeg = 2
heif_rank heif.Unknown = 3

-- compressions of a DDS
abbrev pub dds_rank : DdsCompression → ℕ
dds_rank dds.Bc1 = 0
dds_rank dds.Bc2 = 1
dds_rank dds.Bc3 = 2
dds_rank dds.Bc4 = 3
dds_rank dds.Bc5 = 4
dds_rank dds.Bc6h = 5
dds_rank dds.Bc7 = 6
dds_rank dds.Rgba32 = 7
dds_rank dds.Rgb24 = 8
dds_rank dds.Unknown = 9

-- compressions of a PKM file
abbrev pub pkm_rank : PkmCompression → ℕ
pkm_rank pkm.Etc1 = 0
pkm_rank pkm.Etc2 = 1
pkm_rank pkm.Etc2A1 = 2
pkm_rank pkm.Etc2A8 = 3
pkm_rank pkm.EacR = 4
pkm_rank pkm.EacRg = 5
pkm_rank pkm.EacRSigned = 6
pkm_rank pkm.EacRgSigned = 7
pkm_rank pkm.Unknown = 8

-- compressions of a PowerVR texture
abbrev pub pvrtc_rank : PvrtcCompression → ℕ
pvrtc_rank pvrtc.Pvrtc2BppRgb = 0
pvrtc_rank pvrtc.Pvrtc2BppRgba = 1
pvrtc_rank pvrtc.Pvrtc4BppRgb = 2
pvrtc_rank pvrtc.Pvrtc4BppRgba = 3
pvrtc_rank pvrtc.Etc2Rgb = 4
pvrtc_rank pvrtc.Etc2Rgba = 5
pvrtc_rank pvrtc.Etc2RgbA1 = 6
pvrtc_rank pvrtc.EacR11 = 7
pvrtc_rank pvrtc.EacRg11 = 8
pvrtc_rank pvrtc.Unknown = 9
