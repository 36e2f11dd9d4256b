use Rattle.imagesize_walked.proofs.Jpeg.{jpeg_ends}
use Rattle.imagesize_walked.proofs.formats.jpeg.SegmentsRecords.at_end.Goals as goal

pub returns-clause-ends : goal.returns-clause-ends
returns-clause-ends c = λ offset holds. rw c.ended.ensures (jpeg_ends c.args.self.now)
