-- How far the readings of a type, and of a size at fixed offsets, go.
use Rattle.std.proofs.Common.{List, ℕ, Option, None, Some, arith}
use Rattle.imagesize.specs.Kind.{first_row, with_compression}
use Rattle.imagesize.specs.Types.{rows}
use Rattle.imagesize.specs.declared.types.ImageType.{ImageType}
use Rattle.imagesize.specs.declared.types.ImageType.TheVariants.{Heif, Jxl, Tiff}
use Rattle.imagesize_boxes.specs.Heif.{heif_compression}
use Rattle.imagesize_fixed.specs.Atc.{atc_compression}
use Rattle.imagesize_fixed.specs.Dds.{dds_compression, dds_compression_by}
use Rattle.imagesize_fixed.specs.Pkm.{pkm_compression}
use Rattle.imagesize_fixed.specs.Pvrtc.{pvrtc_compression, pvrtc_compression_by}
use Rattle.imagesize_pieces.proofs.Reaching.{reach_accept, reach_bind, reach_if}
use Rattle.imagesize_pieces.specs.Stream.{Reach}
use Rattle.imagesize_source.specs.declared.endian.Endian.{Endian}
use Rattle.imagesize_records.specs.Streamed.{first_by, first_layout, jxl_opened, opening}
use Rattle.imagesize_walked.specs.Tiff.{stated_offset, tiff_header}
use Rattle.imagesize_walked.specs.declared.formats.tiff.Version.{Version}
use Rattle.imagesize_walked.specs.declared.formats.tiff.Version.TheVariants.{BigTiff, Tiff as Tiff_version}

ruleset reaching = (arith, reach_if, reach_accept, reach_bind)

offset_reaches : (order : Endian) (version : Version) → Reach 0 132 (stated_offset order version)
unfolding stated_offset
offset_reaches order Tiff_version = search reaching
offset_reaches order BigTiff = search reaching

jxl_reaches : (found : Option (List ℕ)) → Reach 0 132 (jxl_opened found)
jxl_reaches None = search reaching
jxl_reaches (Some front) = search reaching

pub opening_reaches : (type : ImageType) → Reach 0 132 (opening type)
unfolding tiff_header
opening_reaches Jxl = search (reaching, jxl_reaches)
opening_reaches Tiff = search (reaching, offset_reaches) depth 12
opening_reaches type = search reaching

pvrtc_by : (tag : Option (List ℕ)) → Reach 0 132 (pvrtc_compression_by tag)
pvrtc_by None = search reaching
pvrtc_by (Some tag) = search reaching

dds_by : (code : Option (List ℕ)) → Reach 0 132 (dds_compression_by code)
dds_by None = search reaching
dds_by (Some code) = search reaching

ruleset compressions = (reaching, pvrtc_by, dds_by)

compression_reaches : (head : List ℕ) (found : ImageType) → Reach 0 132 (with_compression 0 head found)
unfolding with_compression heif_compression atc_compression pvrtc_compression pkm_compression dds_compression
compression_reaches head (Heif _) = search compressions
compression_reaches head found = search compressions

by_row : (head : List ℕ) (row : Option ImageType) → Reach 0 132 (first_by head row)
by_row head (Some found) = search (reaching, compression_reaches)
by_row head None = search reaching

-- the type
pub first_reaches : Reach 0 132 first_layout
first_reaches = (search reaching, search reaching, λ head few. by_row head (first_row rows head))
