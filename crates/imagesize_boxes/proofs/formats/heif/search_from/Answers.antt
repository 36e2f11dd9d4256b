use Rattle.std.proofs.Common.{subst}
use Rattle.imagesize_source.specs.State.{Runs}
use Rattle.imagesize_boxes.proofs.Heif.{search_follows, search_is}
use Rattle.imagesize_boxes.proofs.formats.heif.search_from.Goals as goal

pub walk-requires-clause-follows : goal.walk-requires-clause-follows
walk-requires-clause-follows g c = search_follows

pub returns : goal.returns
returns g c = subst (Runs (g.S.Source.state c.args.source.now) (g.S.Source.state c.walk.new.source) c.walk.result)
    (search_is c.args.name.now c.args.from (g.S.Source.state c.args.source.now).held.input) c.walk.ensures
