-- The size of an image by its first bytes, and by the records after them.
use Rattle.std.proofs.Common.{◌≡◌, ℕ, List, [], Option, None, Some, Result, Ok, Err, refl, sym, ap, ◌∙◌}
use Rattle.imagesize.specs.Meaning.{size_reads}
use Rattle.imagesize.specs.Types.{way_of}
use Rattle.imagesize.specs.declared.types.ImageType.{ImageType}
use Rattle.imagesize.specs.declared.types.ImageType.TheVariants as type
use Rattle.imagesize_source.specs.Layout.{Layout, accept, bind, layout_reads}
use Rattle.imagesize_source.specs.Layout.Layout.{«done»}
use Rattle.imagesize_source.specs.Reading.{Reads, and_then, gives, just}
use Rattle.imagesize_source.specs.Walk.{CanFollow, Step, after, decides, run}
use Rattle.imagesize_source.specs.Way.{Way, Fixed, Recorded, Texts, by_way}
use Rattle.imagesize_source.specs.declared.halt.Halt.{Halt}
use Rattle.imagesize_source.specs.declared.walk.Start.{Start}
use Rattle.imagesize_source.proofs.Layouts.{over-bind, then_then}
use Rattle.imagesize_source.proofs.States.{run_within}
use Rattle.imagesize_records.specs.Steps.{step}
use Rattle.imagesize_records.specs.Streamed.{jxl_opened, opening, opening_by, opening_records, opens_at, IfRecorded}
use Rattle.imagesize_records.specs.declared.awaited.Awaited.{Awaited}
use Rattle.imagesize_records.specs.declared.awaited.Awaited.TheVariants.{Exr, Hdr, Heif, Ico, Ilbm, Jpeg, Jxl, Pnm, Tiff}
use Rattle.imagesize_records.specs.declared.opening.Opening.{Opening}
use Rattle.imagesize_records.specs.declared.opening.Opening.TheVariants as opened
use Rattle.imagesize_records.proofs.Firsts.{seen_from}
use Rattle.imagesize_records.proofs.Steps.{step_follows}
use Rattle.imagesize_boxes.proofs.Heif.{heif_follows, heif_is}
use Rattle.imagesize_boxes.proofs.JxlBoxes.{jxl_behind, jxl_follows, jxl_is}
use Rattle.imagesize_boxes.specs.Jxl.{jxl, jxl_size, jxl_start}
use Rattle.imagesize_boxes.specs.Walks.{heif_open, heif_step, jxl_step, no_boxes}
use Rattle.imagesize_texts.proofs.Exr.{exr_follows, exr_is}
use Rattle.imagesize_texts.proofs.Hdr.{hdr_follows, hdr_is}
use Rattle.imagesize_texts.proofs.Walks.{pnm_follows, pnm_is}
use Rattle.imagesize_texts.specs.Exr.{exr_open, exr_step}
use Rattle.imagesize_texts.specs.Hdr.{hdr_open, hdr_step}
use Rattle.imagesize_texts.specs.Walks.{pnm_step}
use Rattle.imagesize_texts.specs.declared.formats.pnm.Part.TheVariants.{Word}
use Rattle.imagesize_types.specs.declared.size.ImageSize.{ImageSize}
use Rattle.imagesize_walked.proofs.Ico.{ico_follows, ico_is}
use Rattle.imagesize_walked.proofs.Ilbm.{ilbm_follows, ilbm_is}
use Rattle.imagesize_walked.proofs.Jpeg.{jpeg_follows, jpeg_is}
use Rattle.imagesize_walked.proofs.Tiff.{tiff_follows, tiff_is}
use Rattle.imagesize_walked.specs.Walks.{ico_open, ico_step, ilbm_step, jpeg_first, jpeg_step, tiff_open, tiff_step}

-- what goes on from the first bytes
abbrev pub opened_rest : List ℕ → Opening → Reads ImageSize
opened_rest d (opened.Size size) = gives size
opened_rest d (opened.Records next offset) = run step next offset d

-- One format's records among those of all.
module _ {Q : Type 0} (into : Q → Awaited) (inner : Step Q ImageSize) (follows : CanFollow inner)
    (same : (q : Q) (offset : ℕ) → step (into q) offset ≡ bind (inner q offset) (after into decides)) (d : List ℕ) where
  -- the readings from a record on are those of the format
  run_as_one : (q : Q) (offset : ℕ) → run inner q offset d ≡ run step (into q) offset d
  run_as_one q offset = sym (run_within step inner into d (step_follows d) (follows d)
      (λ q offset. ap (layout_reads d) (same q offset)) q offset)

  -- and those from where the first bytes say that they begin
  opens_as : (t : Layout (Start Q)) → and_then (layout_reads d t) (λ s. run inner s.records s.offset d)
      ≡ and_then (layout_reads d (bind t (opens_at into))) (opened_rest d)
  opens_as t = then_then (layout_reads d t) (λ s. layout_reads d (opens_at into s)) (opened_rest d)
      (λ s. run inner s.records s.offset d) (λ s. run_as_one s.records s.offset)
      ∙ ap (λ r. and_then r (opened_rest d)) (sym (over-bind d t (opens_at into)))

-- a JPEG XL codestream without boxes, or the boxes
jxl_as : (d : List ℕ) → jxl d ≡ and_then (layout_reads d (bind jxl_start jxl_opened)) (opened_rest d)
jxl_as d = jxl_is d
    ∙ then_then (layout_reads d jxl_start) (λ found. layout_reads d (jxl_opened found)) (opened_rest d) (jxl_behind d) each
    ∙ ap (λ r. and_then r (opened_rest d)) (sym (over-bind d jxl_start jxl_opened))
  where
    sized_as : (r : Result ImageSize Halt)
        → just r [] ≡ and_then (layout_reads d (accept r (λ size. done (opened.Size size)))) (opened_rest d)
    sized_as (Ok size) = refl
    sized_as (Err e) = refl

    each : (found : Option (List ℕ)) → jxl_behind d found ≡ and_then (layout_reads d (jxl_opened found)) (opened_rest d)
    each (Some front) = sized_as (jxl_size front)
    each None = run_as_one Jxl jxl_step jxl_follows (λ _ _. refl) d no_boxes 12

-- the size in records is that of the walk from the first record
records_as : (type : ImageType) (d : List ℕ) → IfRecorded (way_of type)
    (λ reads. reads d ≡ and_then (layout_reads d (opening_records type)) (opened_rest d))
records_as type.Exr d = exr_is d ∙ opens_as Exr exr_step exr_follows (λ _ _. refl) d exr_open
records_as type.Hdr d = hdr_is d ∙ opens_as (λ _. Hdr) hdr_step hdr_follows (λ _ _. refl) d hdr_open
records_as (type.Heif _) d = heif_is d ∙ opens_as Heif heif_step heif_follows (λ _ _. refl) d heif_open
records_as type.Ico d = ico_is d ∙ opens_as Ico ico_step ico_follows (λ _ _. refl) d ico_open
records_as type.Ilbm d = ilbm_is (record {}) d ∙ run_as_one Ilbm ilbm_step ilbm_follows (λ _ _. refl) d (record {}) 12
records_as type.Jpeg d = jpeg_is d ∙ run_as_one Jpeg jpeg_step jpeg_follows (λ _ _. refl) d jpeg_first 2
records_as type.Jxl d = jxl_as d
records_as type.Pnm d = pnm_is d ∙ run_as_one Pnm pnm_step pnm_follows (λ _ _. refl) d Word 2
records_as type.Tiff d = tiff_is d ∙ opens_as Tiff tiff_step tiff_follows (λ _ _. refl) d tiff_open
records_as type d = tt

opened_by : (w : Way ImageSize) (first : Layout Opening) (d : List ℕ)
    → IfRecorded w (λ reads. reads d ≡ and_then (layout_reads d first) (opened_rest d))
    → by_way w d ≡ and_then (layout_reads d (opening_by w first)) (opened_rest d)
opened_by (Fixed most layout) first d records =
    seen_from (layout_reads d layout) (λ size. opened.Size size) (opened_rest d) (λ size. refl)
    ∙ ap (λ r. and_then r (opened_rest d)) (sym (over-bind d layout (λ size. done (opened.Size size))))
opened_by (Recorded outside each stated reads) first d records = records
opened_by (Texts reads) first d records = records

pub opened_as : (type : ImageType) (d : List ℕ)
    → size_reads type d ≡ and_then (layout_reads d (opening type)) (opened_rest d)
opened_as type d = opened_by (way_of type) (opening_records type) d (records_as type d)
