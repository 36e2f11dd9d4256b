use Rattle.imagesize_walked.proofs.Ilbm.{ilbm_ends}
use Rattle.imagesize_walked.proofs.formats.ilbm.ChunksRecords.at_end.Goals as goal

pub returns-clause-ends : goal.returns-clause-ends
returns-clause-ends c = λ offset holds. ilbm_ends c.args.self.now
