use Rattle.std.proofs.Common.{◌+◌, arith}
use Rattle.imagesize_boxes.proofs.Heif.{list_saturated}
use Rattle.imagesize_boxes.proofs.formats.heif.largest.Goals as goal

pub returns : goal.returns
returns g c = list_saturated c.args.ipco.size (c.args.ipco.offset + 8) _ c.largest_from.ensures (omega arith)
