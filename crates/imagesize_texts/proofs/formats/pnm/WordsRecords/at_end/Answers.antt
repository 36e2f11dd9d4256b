use Rattle.imagesize_texts.proofs.Pnm.{words_end}
use Rattle.imagesize_texts.proofs.formats.pnm.WordsRecords.at_end.Goals as goal

pub returns-clause-ends : goal.returns-clause-ends
returns-clause-ends c = λ offset holds. rw c.ended.ensures (words_end tt)
