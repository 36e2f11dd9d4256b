use Rattle.imagesize.proofs.Meanings.{found_then, none_found}
use Rattle.imagesize.proofs.calls.probe.Goals as goal

pub returns-in-Ok-clause-runs : goal.returns-in-Ok-clause-runs
returns-in-Ok-clause-runs g c = found_then _ _ _ c.in-Ok.ensures c.size.ensures

pub returns-in-Err-clause-runs : goal.returns-in-Err-clause-runs
returns-in-Err-clause-runs g c = none_found _ _ c.in-Err.ensures
