use Rattle.std.proofs.Common.{rules}
use Rattle.imagesize_source.proofs.Runs.{steps}
use Rattle.imagesize_texts.proofs.Exr.{exr_follows, exr_is}
use Rattle.imagesize_texts.proofs.formats.exr.size.Goals as goal

pub walk-requires-clause-follows : goal.walk-requires-clause-follows
walk-requires-clause-follows g c = exr_follows

pub returns : goal.returns
returns g c = rw (exr_is (g.S.Source.state c.args.source.now).held.input) (search (rules, steps))
