use Rattle.imagesize_source.proofs.Within.{runs_within}
use Rattle.imagesize_boxes.specs.Walks.{heif_step, jxl_step}
use Rattle.imagesize_walked.specs.Walks.{ico_step, ilbm_step, jpeg_step, tiff_step}
use Rattle.imagesize_records.specs.declared.awaited.Awaited.TheVariants.{Heif, Ico, Ilbm, Jpeg, Jxl, Tiff}
use Rattle.imagesize_records.proofs.records.AwaitedRecords.read_record.Goals as goal

pub returns-in-Jpeg-clause-runs : goal.returns-in-Jpeg-clause-runs
returns-in-Jpeg-clause-runs g c =
    let read = c.read_next in
    rw c.in-Jpeg.is
    (runs_within (jpeg_step c.in-Jpeg.segments c.args.offset) Jpeg read.new.records c.args.offset read.result read.ensures.runs)

pub returns-in-Ilbm-clause-runs : goal.returns-in-Ilbm-clause-runs
returns-in-Ilbm-clause-runs g c =
    let read = c.read_record in
    rw c.in-Ilbm.is
    (runs_within (ilbm_step c.in-Ilbm.chunks c.args.offset) Ilbm read.new.self c.args.offset read.result read.ensures.runs)

pub returns-in-Ico-clause-runs : goal.returns-in-Ico-clause-runs
returns-in-Ico-clause-runs g c =
    let read = c.read_next-in-Ico in
    rw c.in-Ico.is
    (runs_within (ico_step c.in-Ico.entries c.args.offset) Ico read.new.records c.args.offset read.result read.ensures.runs)

pub returns-in-Tiff-clause-runs : goal.returns-in-Tiff-clause-runs
returns-in-Tiff-clause-runs g c =
    let read = c.read_record-in-Tiff in
    rw c.in-Tiff.is
    (runs_within (tiff_step c.in-Tiff.directory c.args.offset) Tiff read.new.self c.args.offset read.result read.ensures.runs)

pub returns-in-Heif-clause-runs : goal.returns-in-Heif-clause-runs
returns-in-Heif-clause-runs g c =
    let read = c.read_record-in-Heif in
    rw c.in-Heif.is
    (runs_within (heif_step c.in-Heif.sought c.args.offset) Heif read.new.self c.args.offset read.result read.ensures.runs)

pub returns-in-Jxl-clause-runs : goal.returns-in-Jxl-clause-runs
returns-in-Jxl-clause-runs g c =
    let read = c.read_next-in-Jxl in
    rw c.in-Jxl.is
    (runs_within (jxl_step c.in-Jxl.boxes c.args.offset) Jxl read.new.records c.args.offset read.result read.ensures.runs)
