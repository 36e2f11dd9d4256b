use Rattle.std.proofs.Common.{◌+◌, arith}
use Rattle.imagesize_source.proofs.PastTheEnd.{bytes_saturated}
use Rattle.imagesize_source.proofs.readings.read_bytes_behind.Goals as goal

pub returns : goal.returns
returns g c = bytes_saturated (c.args.offset + c.args.distance) _ g.row.N c.requires c.read_bytes.ensures.runs
    (omega arith)
