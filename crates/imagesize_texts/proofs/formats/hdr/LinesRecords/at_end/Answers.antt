use Rattle.imagesize_texts.proofs.Hdr.{hdr_ends}
use Rattle.imagesize_texts.proofs.formats.hdr.LinesRecords.at_end.Goals as goal

pub returns-clause-ends : goal.returns-clause-ends
returns-clause-ends c = λ offset holds. hdr_ends tt
