use Rattle.std.proofs.Common.{◌+◌, arith}
use Rattle.imagesize_boxes.proofs.Heif.{search_saturated}
use Rattle.imagesize_boxes.proofs.formats.heif.search.Goals as goal

pub returns : goal.returns
returns g c = search_saturated c.args.name.now (c.args.offset + c.args.distance) _ c.search_from.ensures (omega arith)
