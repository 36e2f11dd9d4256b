use Rattle.std.proofs.Common.{subst}
use Rattle.imagesize_source.specs.State.{Runs}
use Rattle.imagesize_boxes.proofs.Heif.{list_follows, list_is}
use Rattle.imagesize_boxes.proofs.formats.heif.largest_from.Goals as goal

pub walk-requires-clause-follows : goal.walk-requires-clause-follows
walk-requires-clause-follows g c = list_follows

pub returns : goal.returns
returns g c = subst (Runs (g.S.Source.state c.args.source.now) (g.S.Source.state c.walk.new.source) c.walk.result)
    (list_is c.args.all c.args.from (g.S.Source.state c.args.source.now).held.input) (rw c.gathered_first.ensures at c.walk.ensures)
