use Rattle.imagesize_source.proofs.Within.{runs_within}
use Rattle.imagesize_texts.specs.Exr.{exr_step}
use Rattle.imagesize_texts.specs.Hdr.{hdr_step}
use Rattle.imagesize_texts.specs.Walks.{pnm_step}
use Rattle.imagesize_records.specs.declared.awaited.Awaited.TheVariants.{Exr, Hdr, Pnm}
use Rattle.imagesize_records.proofs.records.TextsRecords.read_record.Goals as goal

pub returns-in-Exr-clause-runs : goal.returns-in-Exr-clause-runs
returns-in-Exr-clause-runs g c = rw c.in-Exr.is (runs_within (exr_step c.in-Exr.long c.args.offset) Exr c.in-Exr.long c.args.offset
    c.read_attribute.result c.read_attribute.ensures.runs)

pub returns-in-Hdr-clause-runs : goal.returns-in-Hdr-clause-runs
returns-in-Hdr-clause-runs g c = rw c.in-Hdr.is (runs_within (hdr_step tt c.args.offset) (λ _. Hdr) tt c.args.offset
    c.read_line.result c.read_line.ensures.runs)

pub returns-in-Pnm-clause-runs : goal.returns-in-Pnm-clause-runs
returns-in-Pnm-clause-runs g c = rw c.in-Pnm.is (runs_within (pnm_step c.in-Pnm.part c.args.offset) Pnm c.read.new.self c.args.offset
    c.read.result c.read.ensures.runs)
