use Rattle.std.proofs.Common.{◌+◌, length, arith}
use Rattle.imagesize_source.proofs.PastTheEnd.{part_saturated}
use Rattle.imagesize_boxes.proofs.formats.jxl.boxes.read_there.Goals as goal

pub returns-clause-runs : goal.returns-clause-runs
returns-clause-runs g c =
    part_saturated (c.args.offset + c.args.distance) _ (length c.read_at.new.buffer) c.read_at.ensures.runs (omega arith)
