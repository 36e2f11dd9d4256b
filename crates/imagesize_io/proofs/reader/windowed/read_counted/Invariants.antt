use Rattle.std.proofs.Common.{◌-◌}
use Rattle.imagesize_io.proofs.Standings.{Retried}
use Rattle.imagesize_io.proofs.reader.windowed.read_counted.Given as goal

abbrev pub invariant-loop-count : goal.invariant-loop-count
invariant-loop-count g l = Retried
    (g.R.Told.telling l.initial.reader) (g.R.Told.telling l.reader)
    (g.R.Told.count l.initial.reader) (g.R.Told.count l.reader) l.initial.progress l.progress

abbrev pub decreases-loop-count : goal.decreases-loop-count
decreases-loop-count g l = 64 - l.progress.retries
