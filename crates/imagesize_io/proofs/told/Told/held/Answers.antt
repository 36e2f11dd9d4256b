use Rattle.imagesize_io.proofs.HeldReads.{holds_none}
use Rattle.imagesize_io.proofs.told.Told.held.Goals as goal

pub returns-clause-told : goal.returns-clause-told
returns-clause-told g c = holds_none _
