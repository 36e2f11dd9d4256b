use Rattle.std.proofs.Common.{◌-◌, length, take}
use Rattle.imagesize_io.specs.declared.reader.held.HeldText.TheVariants.{Part}
use Rattle.imagesize_io.specs.Rest.{ReadsMore}
use Rattle.imagesize_io.specs.Telling.{account}
use Rattle.imagesize_io.proofs.reader.windowed.read_rest.Given as goal

abbrev pub invariant-loop-count : goal.invariant-loop-count
invariant-loop-count g l = ReadsMore l.fn.ledger l.ledger
    (account g.R.Told.telling g.R.Told.count g.R.Told.failure l.fn.reader)
    (account g.R.Told.telling g.R.Told.count g.R.Told.failure l.reader) l.text l.offset (take l.fn.count l.fn.buffer) l.buffer
    (Part l.count)

abbrev pub decreases-loop-count : goal.decreases-loop-count
decreases-loop-count g l = length l.buffer - l.count
