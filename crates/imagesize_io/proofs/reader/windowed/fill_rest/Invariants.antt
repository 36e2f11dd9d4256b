use Rattle.std.proofs.Common.{◌-◌, length}
use Rattle.imagesize_io.specs.Standing.{stand}
use Rattle.imagesize_io.specs.Telling.{account}
use Rattle.imagesize_io.proofs.Filling.{Filling}
use Rattle.imagesize_io.proofs.reader.windowed.fill_rest.Given as goal

abbrev pub invariant-loop-filled : goal.invariant-loop-filled
invariant-loop-filled g l = Filling
    (stand (g.R.Told.telling l.initial.reader) l.initial.progress) (stand (g.R.Told.telling l.reader) l.progress)
    (account g.R.Told.telling g.R.Told.count g.R.Told.failure l.initial.reader)
    (account g.R.Told.telling g.R.Told.count g.R.Told.failure l.reader) l.initial.progress l.progress l.filled l.buffer

abbrev pub decreases-loop-filled : goal.decreases-loop-filled
decreases-loop-filled g l = length l.buffer - l.filled
