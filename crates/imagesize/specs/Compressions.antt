-- The compressions of textures and of HEIF: their names and their lists.
use Rattle.std.specs.Prelude.{ℕ, List, [], ◌∷◌, codes}
use Rattle.imagesize_types.specs.declared.compression.AtcCompression.{AtcCompression}
use Rattle.imagesize_types.specs.declared.compression.AtcCompression.TheVariants as atc
use Rattle.imagesize_types.specs.declared.compression.DdsCompression.{DdsCompression}
use Rattle.imagesize_types.specs.declared.compression.DdsCompression.TheVariants as dds
use Rattle.imagesize_types.specs.declared.compression.Compression.{Compression}
use Rattle.imagesize_types.specs.declared.compression.Compression.TheVariants as heif
use Rattle.imagesize_types.specs.declared.compression.PkmCompression.{PkmCompression}
use Rattle.imagesize_types.specs.declared.compression.PkmCompression.TheVariants as pkm
use Rattle.imagesize_types.specs.declared.compression.PvrtcCompression.{PvrtcCompression}
use Rattle.imagesize_types.specs.declared.compression.PvrtcCompression.TheVariants as pvrtc

-- the name of an ATC texture's compression
abbrev pub atc_name_of : AtcCompression → List ℕ
atc_name_of atc.Rgb = codes "Rgb"
atc_name_of atc.RgbaExplicit = codes "RgbaExplicit"
atc_name_of atc.RgbaInterpolated = codes "RgbaInterpolated"
atc_name_of atc.Unknown = codes "Unknown"

-- the name of a DDS's compression
abbrev pub dds_name_of : DdsCompression → List ℕ
dds_name_of dds.Bc1 = codes "Bc1"
dds_name_of dds.Bc2 = codes "Bc2"
dds_name_of dds.Bc3 = codes "Bc3"
dds_name_of dds.Bc4 = codes "Bc4"
dds_name_of dds.Bc5 = codes "Bc5"
dds_name_of dds.Bc6h = codes "Bc6h"
dds_name_of dds.Bc7 = codes "Bc7"
dds_name_of dds.Rgba32 = codes "Rgba32"
dds_name_of dds.Rgb24 = codes "Rgb24"
dds_name_of dds.Unknown = codes "Unknown"

-- the name of a HEIF's compression
abbrev pub heif_name_of : Compression → List ℕ
heif_name_of heif.Av1 = codes "Av1"
heif_name_of heif.Hevc = codes "Hevc"
heif_name_of heif.Jpeg = codes "Jpeg"
heif_name_of heif.Unknown = codes "Unknown"

-- the name of a PKM file's compression
abbrev pub pkm_name_of : PkmCompression → List ℕ
pkm_name_of pkm.Etc1 = codes "Etc1"
pkm_name_of pkm.Etc2 = codes "Etc2"
pkm_name_of pkm.Etc2A1 = codes "Etc2A1"
pkm_name_of pkm.Etc2A8 = codes "Etc2A8"
pkm_name_of pkm.EacR = codes "EacR"
pkm_name_of pkm.EacRg = codes "EacRg"
pkm_name_of pkm.EacRSigned = codes "EacRSigned"
pkm_name_of pkm.EacRgSigned = codes "EacRgSigned"
pkm_name_of pkm.Unknown = codes "Unknown"

-- the name of a PowerVR texture's compression
abbrev pub pvrtc_name_of : PvrtcCompression → List ℕ
pvrtc_name_of pvrtc.Pvrtc2BppRgb = codes "Pvrtc2BppRgb"
pvrtc_name_of pvrtc.Pvrtc2BppRgba = codes "Pvrtc2BppRgba"
pvrtc_name_of pvrtc.Pvrtc4BppRgb = codes "Pvrtc4BppRgb"
pvrtc_name_of pvrtc.Pvrtc4BppRgba = codes "Pvrtc4BppRgba"
pvrtc_name_of pvrtc.Etc2Rgb = codes "Etc2Rgb"
pvrtc_name_of pvrtc.Etc2Rgba = codes "Etc2Rgba"
pvrtc_name_of pvrtc.Etc2RgbA1 = codes "Etc2RgbA1"
pvrtc_name_of pvrtc.EacR11 = codes "EacR11"
pvrtc_name_of pvrtc.EacRg11 = codes "EacRg11"
pvrtc_name_of pvrtc.Unknown = codes "Unknown"

-- the compressions of an ATC texture, a DDS, a HEIF, a PKM file and a PowerVR texture, each list in its order
abbrev pub atc_ways : List AtcCompression
atc_ways = atc.Rgb ∷ atc.RgbaExplicit ∷ atc.RgbaInterpolated ∷ atc.Unknown ∷ []

abbrev pub dds_ways : List DdsCompression
dds_ways = dds.Bc1 ∷ dds.Bc2 ∷ dds.Bc3 ∷ dds.Bc4 ∷ dds.Bc5 ∷ dds.Bc6h ∷ dds.Bc7 ∷ dds.Rgba32 ∷ dds.Rgb24 ∷ dds.Unknown ∷ []

abbrev pub heif_ways : List Compression
heif_ways = heif.Av1 ∷ heif.Hevc ∷ heif.Jpeg ∷ heif.Unknown ∷ []

abbrev pub pkm_ways : List PkmCompression
pkm_ways = pkm.Etc1 ∷ pkm.Etc2 ∷ pkm.Etc2A1 ∷ pkm.Etc2A8 ∷ pkm.EacR ∷ pkm.EacRg ∷ pkm.EacRSigned ∷ pkm.EacRgSigned ∷ pkm.Unknown ∷ []

abbrev pub pvrtc_ways : List PvrtcCompression
pvrtc_ways = pvrtc.Pvrtc2BppRgb ∷ pvrtc.Pvrtc2BppRgba ∷ pvrtc.Pvrtc4BppRgb ∷ pvrtc.Pvrtc4BppRgba ∷ pvrtc.Etc2Rgb ∷ pvrtc.Etc2Rgba
    ∷ pvrtc.Etc2RgbA1 ∷ pvrtc.EacR11 ∷ pvrtc.EacRg11 ∷ pvrtc.Unknown ∷ []
