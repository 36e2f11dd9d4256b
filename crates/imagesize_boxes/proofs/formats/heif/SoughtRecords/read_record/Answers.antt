use Rattle.imagesize_boxes.specs.Walks.{list_step}
use Rattle.imagesize_boxes.specs.declared.formats.heif.Sought.TheVariants as sought
use Rattle.imagesize_source.proofs.Within.{runs_within}
use Rattle.imagesize_boxes.proofs.formats.heif.SoughtRecords.read_record.Goals as goal

pub returns-in-Property-clause-runs : goal.returns-in-Property-clause-runs
returns-in-Property-clause-runs g c =
    rw c.in-Property.is (runs_within (list_step c.in-Property.gathered c.args.offset) sought.Property c.read_listed.new.gathered
    c.args.offset c.read_listed.result c.read_listed.ensures.runs)
