-- The records that are awaited can be followed, and end with the input.
use Rattle.std.proofs.Common.{◌≡◌, ℕ, ◌<◌, true, Err}
use Rattle.imagesize_source.specs.Chain.{Said}
use Rattle.imagesize_source.specs.Layout.{Layout, bind}
use Rattle.imagesize_source.specs.Walk.{CanFollow, EndsBy, after, decides}
use Rattle.imagesize_source.proofs.Advances.{Begins, Tells, begins_bind, states_follow, tells_bind}
use Rattle.imagesize_source.proofs.States.{ends_after}
use Rattle.imagesize_source.specs.declared.halt.Halt.TheVariants.{Ended}
use Rattle.imagesize_records.specs.Steps.{is_text, step}
use Rattle.imagesize_records.specs.declared.awaited.Awaited.{Awaited}
use Rattle.imagesize_records.specs.declared.awaited.Awaited.TheVariants.{Exr, Hdr, Heif, Ico, Ilbm, Jpeg, Jxl, Pnm, Tiff}
use Rattle.imagesize_boxes.proofs.Heif.{heif_begins, heif_tells}
use Rattle.imagesize_boxes.proofs.JxlBoxes.{jxl_begins, jxl_tells}
use Rattle.imagesize_boxes.specs.Walks.{heif_step, jxl_step}
use Rattle.imagesize_texts.proofs.Exr.{exr_begins, exr_ends, exr_tells}
use Rattle.imagesize_texts.proofs.Hdr.{hdr_begins, hdr_ends, hdr_tells}
use Rattle.imagesize_texts.proofs.Walks.{pnm_begins, pnm_ends, pnm_tells}
use Rattle.imagesize_texts.specs.Exr.{exr_step}
use Rattle.imagesize_texts.specs.Hdr.{hdr_step}
use Rattle.imagesize_texts.specs.Walks.{pnm_step}
use Rattle.imagesize_types.specs.declared.size.ImageSize.{ImageSize}
use Rattle.imagesize_walked.proofs.Ico.{ico_begins, ico_tells}
use Rattle.imagesize_walked.proofs.Ilbm.{ilbm_begins, ilbm_tells}
use Rattle.imagesize_walked.proofs.Jpeg.{jpeg_begins, jpeg_tells}
use Rattle.imagesize_walked.proofs.Tiff.{tiff_begins, tiff_tells}
use Rattle.imagesize_walked.specs.Walks.{ico_step, ilbm_step, jpeg_step, tiff_step}

-- ---- the record of one format, as one of all

module _ {Q : Type 0} (into : Q → Awaited) where
  tells_into : (P : ℕ → Type 0) (t : Layout (Said Q ImageSize)) → Tells P t → Tells P (bind t (after into decides))
  tells_into P t tells = tells_bind P t (after into decides) tells (λ _. tt) (λ _ _ more. more)

  begins_into : (offset : ℕ) (t : Layout (Said Q ImageSize)) → Begins offset t → Begins offset (bind t (after into decides))
  begins_into offset t begins = begins_bind offset t (after into decides) begins (λ _. tt) (λ _. tt)

-- ---- the records of all formats

step_tells : (next : Awaited) (offset : ℕ) → Tells (λ p. offset < p) (step next offset)
step_tells (Jpeg s) offset = tells_into Jpeg _ (jpeg_step s offset) (jpeg_tells s offset)
step_tells (Ilbm s) offset = tells_into Ilbm _ (ilbm_step s offset) (ilbm_tells s offset)
step_tells (Ico s) offset = tells_into Ico _ (ico_step s offset) (ico_tells s offset)
step_tells (Tiff s) offset = tells_into Tiff _ (tiff_step s offset) (tiff_tells s offset)
step_tells (Heif s) offset = tells_into Heif _ (heif_step s offset) (heif_tells s offset)
step_tells (Jxl s) offset = tells_into Jxl _ (jxl_step s offset) (jxl_tells s offset)
step_tells (Exr long) offset = tells_into Exr _ (exr_step long offset) (exr_tells long offset)
step_tells Hdr offset = tells_into (λ _. Hdr) _ (hdr_step tt offset) (hdr_tells tt offset)
step_tells (Pnm s) offset = tells_into Pnm _ (pnm_step s offset) (pnm_tells s offset)

step_begins : (next : Awaited) (offset : ℕ) → Begins offset (step next offset)
step_begins (Jpeg s) offset = begins_into Jpeg offset (jpeg_step s offset) (jpeg_begins s offset)
step_begins (Ilbm s) offset = begins_into Ilbm offset (ilbm_step s offset) (ilbm_begins s offset)
step_begins (Ico s) offset = begins_into Ico offset (ico_step s offset) (ico_begins s offset)
step_begins (Tiff s) offset = begins_into Tiff offset (tiff_step s offset) (tiff_begins s offset)
step_begins (Heif s) offset = begins_into Heif offset (heif_step s offset) (heif_begins s offset)
step_begins (Jxl s) offset = begins_into Jxl offset (jxl_step s offset) (jxl_begins s offset)
step_begins (Exr long) offset = begins_into Exr offset (exr_step long offset) (exr_begins long offset)
step_begins Hdr offset = begins_into (λ _. Hdr) offset (hdr_step tt offset) (hdr_begins tt offset)
step_begins (Pnm s) offset = begins_into Pnm offset (pnm_step s offset) (pnm_begins s offset)

pub step_follows : CanFollow step
step_follows = states_follow step step_tells step_begins

-- no text has a result at the end of the input
pub text_ends : (next : Awaited) → is_text next ≡ true → EndsBy step next (Err Ended)
text_ends (Exr long) text = λ d offset far. ends_after d (exr_step long offset) Exr (Err Ended) (exr_ends long d offset far)
text_ends Hdr text = λ d offset far. ends_after d (hdr_step tt offset) (λ _. Hdr) (Err Ended) (hdr_ends tt d offset far)
text_ends (Pnm s) text = λ d offset far. ends_after d (pnm_step s offset) Pnm (Err Ended) (pnm_ends s d offset far)
text_ends (Jpeg s) text = absurd cc
text_ends (Ilbm s) text = absurd cc
text_ends (Ico s) text = absurd cc
text_ends (Tiff s) text = absurd cc
text_ends (Heif s) text = absurd cc
text_ends (Jxl s) text = absurd cc
