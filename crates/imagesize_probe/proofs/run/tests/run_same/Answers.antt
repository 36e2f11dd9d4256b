use Rattle.std.proofs.Common.{Ok}
use Rattle.imagesize_probe.proofs.Writing.{plain_run}
use Rattle.imagesize_probe.proofs.run.tests.run_same.Goals as goal

pub returns : goal.returns
returns c = plain_run (λ _. Ok c.args.bytes.now) _ _ _ c.run.result c.run.ensures.runs
