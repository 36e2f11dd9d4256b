-- What holds of the size of each type.
use Rattle.std.proofs.Common.{arith}
use Rattle.imagesize_boxes.proofs.Heif.{heif_laws}
use Rattle.imagesize_boxes.proofs.Jxl.{jxl_laws}
use Rattle.imagesize_fixed.proofs.Atc.{atc_laws}
use Rattle.imagesize_fixed.proofs.Pkm.{pkm_laws}
use Rattle.imagesize_fixed.proofs.Pvrtc.{pvrtc_laws}
use Rattle.imagesize_fixed.proofs.Sides.{height_first_laws, sides_laws}
use Rattle.imagesize_fixed.proofs.Webp.{webp_laws}
use Rattle.imagesize_texts.proofs.Exr.{exr_laws}
use Rattle.imagesize_texts.proofs.Hdr.{hdr_laws}
use Rattle.imagesize_texts.proofs.Pnm.{pnm_laws}
use Rattle.imagesize_walked.proofs.Ico.{ico_laws}
use Rattle.imagesize_walked.proofs.Ilbm.{ilbm_laws}
use Rattle.imagesize_walked.proofs.Jpeg.{jpeg_laws}
use Rattle.imagesize_walked.proofs.Tiff.{tiff_laws}
use Rattle.imagesize.proofs.Detection.{kind_cost}
use Rattle.imagesize.specs.Parted.{has_texts}
use Rattle.imagesize.specs.declared.types.ImageType.{ImageType}
use Rattle.imagesize.specs.Types.{lasts, way_of}
use Rattle.imagesize_source.proofs.Way.{Laws}

ruleset fixed_laws = (sides_laws, height_first_laws, atc_laws, pkm_laws, pvrtc_laws, webp_laws)

ruleset other_laws = (exr_laws, hdr_laws, heif_laws, ico_laws, ilbm_laws, jpeg_laws, jxl_laws, pnm_laws, tiff_laws)

pub laws_of : (type : ImageType) → Laws (kind_cost type) (lasts type) (has_texts type) (way_of type)
laws_of type = grind (arith, fixed_laws, other_laws)
