use Rattle.imagesize_records.proofs.Steps.{text_ends}
use Rattle.imagesize_records.proofs.records.TextsRecords.at_end.Goals as goal

pub returns-clause-ends : goal.returns-clause-ends
returns-clause-ends c = λ offset holds. text_ends c.args.self.now.next holds.1
