use Rattle.std.proofs.Common.{subst}
use Rattle.imagesize_source.specs.State.{Runs}
use Rattle.imagesize_boxes.proofs.JxlBoxes.{boxes_is, jxl_follows}
use Rattle.imagesize_boxes.proofs.formats.jxl.boxes.size_in_boxes.Goals as goal

pub walk-requires-clause-follows : goal.walk-requires-clause-follows
walk-requires-clause-follows g c = jxl_follows

pub returns : goal.returns
returns g c = subst (Runs (g.S.Source.state c.args.source.now) (g.S.Source.state c.walk.new.source) c.walk.result)
    (boxes_is (g.S.Source.state c.args.source.now).held.input) (rw c.new.ensures at c.walk.ensures)
