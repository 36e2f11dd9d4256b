-- Each type's numbers lead back to it.
use Rattle.std.proofs.Common.{◌≡◌, Some, refl}
use Rattle.imagesize.specs.declared.types.ImageType.{ImageType}
use Rattle.imagesize.specs.declared.types.ImageType.TheVariants.{Atc, Dds, Eac, Etc2, Heif, Pvrtc}
use Rattle.imagesize_c.specs.Numbers.{compression_number, type_number, type_numbered}
use Rattle.imagesize_types.specs.declared.compression.AtcCompression.TheVariants as atc
use Rattle.imagesize_types.specs.declared.compression.Compression.TheVariants as heif
use Rattle.imagesize_types.specs.declared.compression.DdsCompression.TheVariants as dds
use Rattle.imagesize_types.specs.declared.compression.PkmCompression.TheVariants as pkm
use Rattle.imagesize_types.specs.declared.compression.PvrtcCompression.TheVariants as pvrtc

pub type_back : (image : ImageType) → type_numbered (type_number image) (compression_number image) ≡ Some image
unfolding type_numbered
type_back (Atc atc.Rgb) = refl
type_back (Dds dds.Bc1) = refl
type_back (Eac pkm.Etc1) = refl
type_back (Etc2 pkm.Etc1) = refl
type_back (Heif heif.Av1) = refl
type_back (Pvrtc pvrtc.Pvrtc2BppRgb) = refl
type_back _ = refl
