use Rattle.std.proofs.Common.{◌+◌, arith}
use Rattle.imagesize_source.specs.declared.endian.Endian.TheVariants.{Big}
use Rattle.imagesize_source.proofs.PastTheEnd.{number_saturated}
use Rattle.imagesize_boxes.proofs.formats.jxl.boxes.read_long_size.Goals as goal

pub returns : goal.returns
returns g c = number_saturated Big (c.args.offset + 8) _ 8 (omega arith) c.read_u64.ensures (omega arith)
