use Rattle.std.proofs.Common.{◌≡◌, ◌+◌, ◌-◌, ◌%◌, arith}
use Rattle.imagesize_source.proofs.Shown.{shown_behind}
use Rattle.imagesize_source.proofs.source.held.HeldSource.whole.Goals as goal

pub returns-clause-shown : goal.returns-clause-shown
returns-clause-shown g c =
    let s = c.args.self.now in
    let ahead : (c.args.offset + (18446744073709551616 - s.start)) % 18446744073709551616 ≡ c.args.offset - s.start =
    omega (arith, c.type_inv.self, c.if-ahead-last.false, c.if-count-self.false) in
    rw ahead (shown_behind (g.S.Claims.claim s.of.now) s.start s.bytes.now s.told c.args.offset (c.args.offset - s.start) s.shown
    (omega (arith, c.if-ahead-last.false)) (omega (arith, c.if-ahead-last.false)))
