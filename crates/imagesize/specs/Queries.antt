-- What the queries return for each image type.
use Rattle.std.specs.Prelude.{ℕ, List, Bool, true, false, Option, None, Some, codes}
use Rattle.imagesize.specs.declared.types.CompressionFamily.{CompressionFamily}
use Rattle.imagesize.specs.declared.types.CompressionFamily.TheVariants as family
use Rattle.imagesize_types.specs.declared.compression.DdsCompression.{DdsCompression}
use Rattle.imagesize_types.specs.declared.compression.DdsCompression.TheVariants as dds
use Rattle.imagesize_types.specs.declared.compression.PkmCompression.{PkmCompression}
use Rattle.imagesize_types.specs.declared.compression.PkmCompression.TheVariants as pkm
use Rattle.imagesize_types.specs.declared.compression.PvrtcCompression.{PvrtcCompression}
use Rattle.imagesize_types.specs.declared.compression.PvrtcCompression.TheVariants as pvrtc
use Rattle.imagesize.specs.declared.types.ImageType.{ImageType}
use Rattle.imagesize.specs.declared.types.ImageType.TheVariants.{Astc, Atc, Dds, Eac, Etc2, Heif, Ktx2, Pvrtc}

-- the family of a DDS's compression
abbrev pub dds_family_of : DdsCompression → Option CompressionFamily
dds_family_of dds.Bc1 = Some family.BlockCompression
dds_family_of dds.Bc2 = Some family.BlockCompression
dds_family_of dds.Bc3 = Some family.BlockCompression
dds_family_of dds.Bc4 = Some family.BlockCompression
dds_family_of dds.Bc5 = Some family.BlockCompression
dds_family_of dds.Bc6h = Some family.BlockCompression
dds_family_of dds.Bc7 = Some family.BlockCompression
dds_family_of dds.Rgba32 = Some family.Uncompressed
dds_family_of dds.Rgb24 = Some family.Uncompressed
dds_family_of dds.Unknown = None

-- the family of a PKM file's compression
abbrev pub pkm_family_of : PkmCompression → Option CompressionFamily
pkm_family_of pkm.Etc1 = Some family.Etc
pkm_family_of pkm.Etc2 = Some family.Etc
pkm_family_of pkm.Etc2A1 = Some family.Etc
pkm_family_of pkm.Etc2A8 = Some family.Etc
pkm_family_of pkm.EacR = Some family.Eac
pkm_family_of pkm.EacRg = Some family.Eac
pkm_family_of pkm.EacRSigned = Some family.Eac
pkm_family_of pkm.EacRgSigned = Some family.Eac
pkm_family_of pkm.Unknown = None

-- the family of a PowerVR texture's compression
abbrev pub pvrtc_family_of : PvrtcCompression → Option CompressionFamily
pvrtc_family_of pvrtc.Pvrtc2BppRgb = Some family.Pvrtc
pvrtc_family_of pvrtc.Pvrtc2BppRgba = Some family.Pvrtc
pvrtc_family_of pvrtc.Pvrtc4BppRgb = Some family.Pvrtc
pvrtc_family_of pvrtc.Pvrtc4BppRgba = Some family.Pvrtc
pvrtc_family_of pvrtc.Etc2Rgb = Some family.Etc
pvrtc_family_of pvrtc.Etc2Rgba = Some family.Etc
pvrtc_family_of pvrtc.Etc2RgbA1 = Some family.Etc
pvrtc_family_of pvrtc.EacR11 = Some family.Eac
pvrtc_family_of pvrtc.EacRg11 = Some family.Eac
pvrtc_family_of pvrtc.Unknown = None

-- the family of a type's compression
abbrev pub family_of : ImageType → Option CompressionFamily
family_of Astc = Some family.Astc
family_of (Atc _) = Some family.Atc
family_of (Dds compression) = dds_family_of compression
family_of (Eac compression) = pkm_family_of compression
family_of (Etc2 compression) = pkm_family_of compression
family_of (Pvrtc compression) = pvrtc_family_of compression
family_of _ = None

-- the name of a type's container
abbrev pub container_of : ImageType → Option (List ℕ)
container_of Astc = Some (codes "ASTC")
container_of (Atc _) = Some (codes "PKM")
container_of (Dds _) = Some (codes "DDS")
container_of (Eac _) = Some (codes "PKM")
container_of (Etc2 _) = Some (codes "PKM")
container_of (Heif _) = Some (codes "HEIF")
container_of Ktx2 = Some (codes "KTX2")
container_of (Pvrtc _) = Some (codes "PowerVR")
container_of _ = None

-- whether the type's container can hold several families
abbrev pub is_multi_container : ImageType → Bool
is_multi_container (Dds _) = true
is_multi_container Ktx2 = true
is_multi_container (Pvrtc _) = true
is_multi_container _ = false
