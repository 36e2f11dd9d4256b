use Rattle.imagesize_walked.proofs.Ico.{ico_ends}
use Rattle.imagesize_walked.proofs.formats.ico.EntriesRecords.at_end.Goals as goal

pub returns-clause-ends : goal.returns-clause-ends
returns-clause-ends c = λ offset holds. rw c.answer.ensures (ico_ends c.args.self.now)
