use Rattle.std.proofs.Common.{◌-◌, arith}
use Rattle.imagesize_source.proofs.Shown.{shown_behind}
use Rattle.imagesize_source.proofs.source.held.HeldSource.from.Goals as goal

pub returns-clause-shown : goal.returns-clause-shown
returns-clause-shown g c =
    let s = c.args.self.now in
    shown_behind (g.S.Claims.claim s.of.now) s.start s.bytes.now s.told c.args.offset (c.args.offset - s.start) s.shown
    (omega (arith, c.if-offset-self.false)) (omega (arith, c.if-ahead-self.false))
