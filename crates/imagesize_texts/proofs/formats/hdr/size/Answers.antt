use Rattle.std.proofs.Common.{rules}
use Rattle.imagesize_source.proofs.Runs.{steps}
use Rattle.imagesize_texts.proofs.Hdr.{hdr_follows, hdr_is}
use Rattle.imagesize_texts.proofs.formats.hdr.size.Goals as goal

pub walk-requires-clause-follows : goal.walk-requires-clause-follows
walk-requires-clause-follows g c = hdr_follows

pub returns-in_err-start : goal.returns-in_err-start
returns-in_err-start g c = rw (hdr_is (g.S.Source.state c.args.source.now).held.input) (search (rules, steps))

pub returns : goal.returns
returns g c = rw (hdr_is (g.S.Source.state c.args.source.now).held.input) (search (rules, steps))
