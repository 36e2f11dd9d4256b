use Rattle.std.proofs.Common.{sym, subst}
use Rattle.std.specs.Option.{ForSome}
use Rattle.imagesize_source.specs.Known.{AllKnown, KnownBytes, Lacks}
use Rattle.imagesize_source.proofs.source.known.KnownSource.fill_known.Goals as goal

pub invariant_of-self-clause-seen : goal.invariant_of-self-clause-seen
invariant_of-self-clause-seen g c =
    let s = c.args.self.now in
    subst (λ (k : KnownBytes). AllKnown k.told k.spans k.bytes s.log.spans) (sym c.gather-found.ensures.same) s.seen

pub invariant_of-self-clause-lacks : goal.invariant_of-self-clause-lacks
invariant_of-self-clause-lacks g c =
    let s = c.args.self.now in subst (λ (k : KnownBytes). ForSome s.missed (Lacks k)) (sym c.gather-found.ensures.same) s.lacks
