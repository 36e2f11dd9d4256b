use Rattle.imagesize_texts.proofs.Pnm.{words_are, words_follow}
use Rattle.imagesize_texts.proofs.formats.pnm.size.Goals as goal

pub walk-requires-clause-follows : goal.walk-requires-clause-follows
walk-requires-clause-follows g c = words_follow

pub returns : goal.returns
returns g c = rw (words_are (g.S.Source.state c.args.source.now).held.input) c.walk.ensures
