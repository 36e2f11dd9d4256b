-- The table of the types: everything about each one except its compressions.
use Rattle.std.specs.Prelude.{ℕ, Bool, true, false, List, [], ◌∷◌, ◌++◌, map, codes}
use Rattle.imagesize_fixed.specs.Aseprite.{is_aseprite, aseprite}
use Rattle.imagesize_fixed.specs.Astc.{is_astc, astc}
use Rattle.imagesize_fixed.specs.Atc.{is_atc, atc}
use Rattle.imagesize_fixed.specs.Bmp.{is_bmp, bmp}
use Rattle.imagesize_fixed.specs.Dds.{is_dds, dds}
use Rattle.imagesize_texts.specs.Exr.{is_exr, exr}
use Rattle.imagesize_fixed.specs.Farbfeld.{is_farbfeld, farbfeld}
use Rattle.imagesize_fixed.specs.Gif.{is_gif, gif}
use Rattle.imagesize_texts.specs.Hdr.{is_hdr, hdr}
use Rattle.imagesize_boxes.specs.Heif.{is_heif, heif}
use Rattle.imagesize_walked.specs.Ico.{is_ico, ico}
use Rattle.imagesize_walked.specs.Ilbm.{is_ilbm, ilbm}
use Rattle.imagesize_walked.specs.Jpeg.{is_jpeg, jpeg}
use Rattle.imagesize_boxes.specs.Jxl.{is_jxl, jxl}
use Rattle.imagesize_fixed.specs.Ktx2.{is_ktx2, ktx2}
use Rattle.imagesize_fixed.specs.Pkm.{is_eac, is_pkm, pkm}
use Rattle.imagesize_texts.specs.Pnm.{is_pnm, pnm}
use Rattle.imagesize_fixed.specs.Psd.{is_psd, psd}
use Rattle.imagesize_fixed.specs.Pvrtc.{is_pvrtc, pvrtc}
use Rattle.imagesize_fixed.specs.Qoi.{is_qoi, qoi}
use Rattle.imagesize_fixed.specs.Tga.{tga}
use Rattle.imagesize_walked.specs.Tiff.{is_tiff, tiff}
use Rattle.imagesize_fixed.specs.Vtf.{is_vtf, vtf}
use Rattle.imagesize_fixed.specs.Webp.{is_webp, webp}
use Rattle.imagesize.specs.Compressions.{atc_ways, dds_ways, heif_ways, pkm_ways, pvrtc_ways}
use Rattle.imagesize.specs.declared.types.ImageType.{ImageType}
use Rattle.imagesize.specs.declared.types.ImageType.TheVariants.{Aseprite, Astc, Atc, Bmp, Dds, Eac, Etc2, Exr, Farbfeld, Gif, Hdr, Heif, Ico, Ilbm, Jpeg, Jxl, Ktx2, Pnm, Pvrtc, Psd, Qoi, Tga, Tiff, Vtf, Webp}
use Rattle.imagesize_source.specs.Way.{Way, Fixed, Recorded, Texts}
use Rattle.imagesize_types.specs.declared.compression.AtcCompression.TheVariants.{Unknown as atc_unknown}
use Rattle.imagesize_types.specs.declared.compression.Compression.TheVariants.{Unknown as heif_unknown}
use Rattle.imagesize_types.specs.declared.compression.DdsCompression.TheVariants.{Unknown as dds_unknown}
use Rattle.imagesize_types.specs.declared.compression.PkmCompression.TheVariants.{Unknown as pkm_unknown}
use Rattle.imagesize_types.specs.declared.compression.PvrtcCompression.TheVariants.{Unknown as pvrtc_unknown}
use Rattle.imagesize_types.specs.declared.size.ImageSize.{ImageSize}

-- A type: its position in the list (from 0), its name, and how its size is stored. If it `lasts`, appended bytes cannot
-- change its size.
pub record TypeFacts : Type 0 where
  pub rank : ℕ
  pub name : List ℕ
  pub way : Way ImageSize
  pub lasts : Bool

-- a row of the table, with its fields in this order
abbrev pub facts : ℕ → List ℕ → Way ImageSize → Bool → TypeFacts
facts rank name way lasts = record { rank = rank; name = name; way = way; lasts = lasts }

-- The table. Appended bytes can change a size only if they may belong to the image's list or footer.
abbrev pub facts_of : ImageType → TypeFacts
facts_of Aseprite = facts 0 (codes "Aseprite") (Fixed 41 aseprite) true
facts_of Astc = facts 1 (codes "Astc") (Fixed 41 astc) true
facts_of (Atc _) = facts 2 (codes "Atc") (Fixed 40 atc) true
facts_of Bmp = facts 3 (codes "Bmp") (Fixed 41 bmp) true
facts_of (Dds _) = facts 4 (codes "Dds") (Fixed 28 dds) true
facts_of (Eac _) = facts 5 (codes "Eac") (Fixed 41 pkm) true
facts_of (Etc2 _) = facts 6 (codes "Etc2") (Fixed 41 pkm) true
facts_of Exr = facts 7 (codes "Exr") (Recorded 16 530 540 exr) true
facts_of Farbfeld = facts 8 (codes "Farbfeld") (Fixed 41 farbfeld) true
facts_of Gif = facts 9 (codes "Gif") (Fixed 41 gif) true
facts_of Hdr = facts 10 (codes "Hdr") (Texts hdr) true
facts_of (Heif _) = facts 11 (codes "Heif") (Recorded 32 20 20 heif) false
facts_of Ico = facts 12 (codes "Ico") (Recorded 18 20 20 ico) false
facts_of Ilbm = facts 13 (codes "Ilbm") (Recorded 18 20 20 ilbm) true
facts_of Jpeg = facts 14 (codes "Jpeg") (Recorded 18 20 20 jpeg) true
facts_of Jxl = facts 15 (codes "Jxl") (Recorded 45 20 20 jxl) true
facts_of Ktx2 = facts 16 (codes "Ktx2") (Fixed 41 ktx2) true
facts_of Pnm = facts 17 (codes "Pnm") (Texts pnm) true
facts_of (Pvrtc _) = facts 18 (codes "Pvrtc") (Fixed 36 pvrtc) true
facts_of Psd = facts 19 (codes "Psd") (Fixed 41 psd) true
facts_of Qoi = facts 20 (codes "Qoi") (Fixed 41 qoi) true
facts_of Tga = facts 21 (codes "Tga") (Fixed 41 tga) false
facts_of Tiff = facts 22 (codes "Tiff") (Recorded 36 20 20 tiff) true
facts_of Vtf = facts 23 (codes "Vtf") (Fixed 41 vtf) true
facts_of Webp = facts 24 (codes "Webp") (Fixed 41 webp) true

-- the types in their order, each with each of its compressions
abbrev pub types : List ImageType
types =
    Aseprite ∷ Astc ∷ (map Atc atc_ways ++ (Bmp ∷ (map Dds dds_ways ++ (map Eac pkm_ways ++ (map Etc2 pkm_ways
    ++ (Exr ∷ Farbfeld ∷ Gif ∷ Hdr ∷ (map Heif heif_ways ++ (Ico ∷ Ilbm ∷ Jpeg ∷ Jxl ∷ Ktx2 ∷ Pnm ∷ (map Pvrtc pvrtc_ways
    ++ (Psd ∷ Qoi ∷ Tga ∷ Tiff ∷ Vtf ∷ Webp ∷ []))))))))))

-- A test of the first twelve bytes, and the type if it holds, with its compression still unknown.
pub record Row : Type 0 where
  pub holds : List ℕ → Bool
  pub found : ImageType

-- the detection rules, in the order in which they are tried
abbrev pub rows : List Row
rows =
    record { holds = is_jpeg; found = Jpeg }
    ∷ record { holds = is_gif; found = Gif }
    ∷ record { holds = is_tiff; found = Tiff }
    ∷ record { holds = is_webp; found = Webp }
    ∷ record { holds = is_heif; found = Heif heif_unknown }
    ∷ record { holds = is_jxl; found = Jxl }
    ∷ record { holds = is_bmp; found = Bmp }
    ∷ record { holds = is_psd; found = Psd }
    ∷ record { holds = is_ico; found = Ico }
    ∷ record { holds = is_aseprite; found = Aseprite }
    ∷ record { holds = is_astc; found = Astc }
    ∷ record { holds = is_atc; found = Atc atc_unknown }
    ∷ record { holds = is_pvrtc; found = Pvrtc pvrtc_unknown }
    ∷ record { holds = is_eac; found = Eac pkm_unknown }
    ∷ record { holds = is_pkm; found = Etc2 pkm_unknown }
    ∷ record { holds = is_exr; found = Exr }
    ∷ record { holds = is_hdr; found = Hdr }
    ∷ record { holds = is_dds; found = Dds dds_unknown }
    ∷ record { holds = is_ktx2; found = Ktx2 }
    ∷ record { holds = is_qoi; found = Qoi }
    ∷ record { holds = is_farbfeld; found = Farbfeld }
    ∷ record { holds = is_pnm; found = Pnm }
    ∷ record { holds = is_vtf; found = Vtf }
    ∷ record { holds = is_ilbm; found = Ilbm }
    ∷ []

-- the position of a type in its list
abbrev pub type_rank : ImageType → ℕ
type_rank type = (facts_of type).rank

-- the name of a type
abbrev pub type_name_of : ImageType → List ℕ
type_name_of type = (facts_of type).name

-- how the size of each type is stored
abbrev pub way_of : ImageType → Way ImageSize
way_of type = (facts_of type).way

-- whether appended bytes cannot change a size of this type
abbrev pub lasts : ImageType → Bool
lasts type = (facts_of type).lasts
