use Rattle.std.proofs.Common.{arith, refl}
use Rattle.imagesize_io.proofs.HeldReads.{holds_from}
use Rattle.imagesize_io.proofs.reader.held.held_from.Goals as goal

pub returns-clause-there : goal.returns-clause-there
returns-clause-there g c =
    holds_from _ c.held-held.result.now _ c.args.offset _ c.min.result c.held-held.ensures.told refl
    (omega (arith, c.if-ahead-held.false)) (omega (arith, c.min.ensures))
