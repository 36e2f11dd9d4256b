use Rattle.imagesize_source.proofs.States.{ends_after}
use Rattle.imagesize_boxes.specs.Walks.{heif_step, jxl_step}
use Rattle.imagesize_walked.specs.Walks.{ico_step, ilbm_step, jpeg_step, tiff_step}
use Rattle.imagesize_records.specs.declared.awaited.Awaited.TheVariants.{Heif, Ico, Ilbm, Jpeg, Jxl, Tiff}
use Rattle.imagesize_records.proofs.records.AwaitedRecords.at_end.Goals as goal

pub returns-in-Jpeg-clause-ends : goal.returns-in-Jpeg-clause-ends
returns-in-Jpeg-clause-ends c = λ offset holds d q far.
    let end = c.at_end in
    rw c.in-Jpeg.is (ends_after d (jpeg_step c.in-Jpeg.segments q) Jpeg end.result
    (end.ensures.ends offset (rw c.in-Jpeg.is at holds.0) d q far))

pub returns-in-Ilbm-clause-ends : goal.returns-in-Ilbm-clause-ends
returns-in-Ilbm-clause-ends c = λ offset holds d q far.
    let end = c.at_end-in-Ilbm in
    rw c.in-Ilbm.is (ends_after d (ilbm_step c.in-Ilbm.chunks q) Ilbm end.result
    (end.ensures.ends offset tt d q far))

pub returns-in-Ico-clause-ends : goal.returns-in-Ico-clause-ends
returns-in-Ico-clause-ends c = λ offset holds d q far.
    let end = c.at_end-in-Ico in
    rw c.in-Ico.is (ends_after d (ico_step c.in-Ico.entries q) Ico end.result
    (end.ensures.ends offset (rw c.in-Ico.is at holds.0) d q far))

pub returns-in-Tiff-clause-ends : goal.returns-in-Tiff-clause-ends
returns-in-Tiff-clause-ends c = λ offset holds d q far.
    let end = c.at_end-in-Tiff in
    rw c.in-Tiff.is (ends_after d (tiff_step c.in-Tiff.directory q) Tiff end.result
    (end.ensures.ends offset (rw c.in-Tiff.is at holds.0) d q far))

pub returns-in-Heif-clause-ends : goal.returns-in-Heif-clause-ends
returns-in-Heif-clause-ends c = λ offset holds d q far.
    let end = c.at_end-in-Heif in
    rw c.in-Heif.is (ends_after d (heif_step c.in-Heif.sought q) Heif end.result
    (end.ensures.ends offset tt d q far))

pub returns-in-Jxl-clause-ends : goal.returns-in-Jxl-clause-ends
returns-in-Jxl-clause-ends c = λ offset holds d q far.
    let end = c.at_end-in-Jxl in
    rw c.in-Jxl.is (ends_after d (jxl_step c.in-Jxl.boxes q) Jxl end.result
    (end.ensures.ends offset (rw c.in-Jxl.is at holds.0) d q far))
