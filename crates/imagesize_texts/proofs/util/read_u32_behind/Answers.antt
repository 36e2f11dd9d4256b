use Rattle.std.proofs.Common.{◌+◌, arith}
use Rattle.imagesize_source.proofs.PastTheEnd.{number_saturated}
use Rattle.imagesize_texts.proofs.util.read_u32_behind.Goals as goal

pub returns : goal.returns
returns g c = number_saturated c.args.endian (c.args.offset + c.args.distance) _ 4 (omega arith) c.read_u32.ensures
    (omega arith)
