use Rattle.std.proofs.Common.{◌+◌, arith}
use Rattle.imagesize_source.proofs.PastTheEnd.{number_saturated}
use Rattle.imagesize_source.proofs.readings.read_u16_behind.Goals as goal

pub returns : goal.returns
returns g c = number_saturated c.args.endian (c.args.offset + c.args.distance) _ 2 (omega arith) c.read_u16.ensures
    (omega arith)
