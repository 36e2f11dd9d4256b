use Rattle.std.proofs.Common.{arith}
use Rattle.imagesize_source.proofs.source.known.KnownSource.miss_text.Goals as goal

pub returns : goal.returns
returns g c = λ most wanted.
    let s = c.args.self.now in
    c.missed_text-missing.ensures.misses most (omega (arith, wanted, c.requires.few)) s.log.spans s.missed _ (cc)
