use Rattle.imagesize_io.proofs.Counted.{left_at}
use Rattle.imagesize_io.proofs.counting.leave.Goals as goal

pub returns-clause-told : goal.returns-clause-told
returns-clause-told g c = λ d memory within. left_at _ _ d c.args.position _ c.seek_told.ensures.told memory within
