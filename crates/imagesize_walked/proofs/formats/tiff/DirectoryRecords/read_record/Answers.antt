use Rattle.imagesize_source.proofs.Within.{runs_within}
use Rattle.imagesize_walked.specs.Walks.{listed_step}
use Rattle.imagesize_walked.specs.declared.formats.tiff.Directory.TheVariants as directory
use Rattle.imagesize_walked.proofs.formats.tiff.DirectoryRecords.read_record.Goals as goal

pub returns-in-Entry-clause-runs : goal.returns-in-Entry-clause-runs
returns-in-Entry-clause-runs g c = rw c.in-Entry.is
    (runs_within (listed_step c.in-Entry.listed c.args.offset) directory.Entry c.read_listed.new.listed c.args.offset
    c.read_listed.result c.read_listed.ensures.runs)
