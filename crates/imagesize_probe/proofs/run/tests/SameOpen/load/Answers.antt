use Rattle.std.proofs.Common.{◌≤◌, length, sym, ◌∙◌, arith}
use Rattle.std.proofs.lemmas.List.{take_all}
use Rattle.imagesize_probe.proofs.run.tests.SameOpen.load.Goals as goal

pub returns-then-self-le-WHOLE-clause-loads : goal.returns-then-self-le-WHOLE-clause-loads
returns-then-self-le-WHOLE-clause-loads c =
    let fits : length c.args.self.now.bytes.now ≤ 16777217 = omega (arith, c.if-self-le-WHOLE.true) in
    c.in_ok-all.ensures.same ∙ sym (take_all 16777217 c.args.self.now.bytes.now fits)
