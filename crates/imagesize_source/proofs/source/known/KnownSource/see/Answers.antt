use Rattle.imagesize_source.specs.Known.{KnownBytes}
use Rattle.imagesize_source.proofs.Known.{seen_known}
use Rattle.imagesize_source.proofs.source.known.KnownSource.see.Goals as goal

pub invariant_of-self-clause-seen : goal.invariant_of-self-clause-seen
invariant_of-self-clause-seen g c =
    let s = c.args.self.now in
    let k : KnownBytes = g.K.Known.content s.known in
    seen_known k.told k.spans k.bytes s.log.spans _ c.args.start c.args.count s.seen c.requires c.see.ensures
