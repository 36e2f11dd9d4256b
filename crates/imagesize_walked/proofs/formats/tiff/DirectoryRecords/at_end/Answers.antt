use Rattle.imagesize_walked.proofs.Tiff.{tiff_ends}
use Rattle.imagesize_walked.specs.declared.formats.tiff.Directory.TheVariants as directory
use Rattle.imagesize_walked.proofs.formats.tiff.DirectoryRecords.at_end.Goals as goal

pub returns-in-Count-clause-ends : goal.returns-in-Count-clause-ends
returns-in-Count-clause-ends c = λ offset holds. rw c.in-Count.is (tiff_ends (directory.Count c.in-Count.header))

pub returns-in-Entry-clause-ends : goal.returns-in-Entry-clause-ends
returns-in-Entry-clause-ends c = λ offset holds.
    rw (c.in-Entry.is, c.none_left.ensures) (tiff_ends (directory.Entry c.in-Entry.listed))
