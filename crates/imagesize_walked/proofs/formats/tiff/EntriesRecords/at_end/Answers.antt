use Rattle.imagesize_walked.proofs.Tiff.{listed_ends}
use Rattle.imagesize_walked.proofs.formats.tiff.EntriesRecords.at_end.Goals as goal

pub returns-clause-ends : goal.returns-clause-ends
returns-clause-ends g c = λ offset holds. rw c.none_left.ensures (listed_ends c.args.self.now.listed)
