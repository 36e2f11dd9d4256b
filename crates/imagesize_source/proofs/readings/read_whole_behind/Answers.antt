use Rattle.std.proofs.Common.{◌+◌, length, arith}
use Rattle.imagesize_source.proofs.PastTheEnd.{whole_saturated}
use Rattle.imagesize_source.proofs.readings.read_whole_behind.Goals as goal

pub returns : goal.returns
returns g c = whole_saturated (c.args.offset + c.args.distance) _
    (length c.read_whole_at.new.buffer) c.read_whole_at.ensures.runs (omega arith)
