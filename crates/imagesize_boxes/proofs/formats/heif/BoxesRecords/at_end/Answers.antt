use Rattle.imagesize_boxes.proofs.Heif.{search_ends}
use Rattle.imagesize_boxes.proofs.formats.heif.BoxesRecords.at_end.Goals as goal

pub returns-clause-ends : goal.returns-clause-ends
returns-clause-ends c = λ offset holds. search_ends c.args.self.now
