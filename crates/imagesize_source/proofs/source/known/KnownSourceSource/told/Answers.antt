use Rattle.imagesize_source.specs.Known.{KnownBytes}
use Rattle.imagesize_source.proofs.KnownReadings.{parts_sound}
use Rattle.imagesize_source.proofs.source.known.KnownSourceSource.told.Goals as goal

pub returns-clause-sound : goal.returns-clause-sound
returns-clause-sound g c =
    let s = c.args.self.now in
    let k : KnownBytes = g.K.Known.content s.known in
    parts_sound k.told k.spans k.bytes s.log.spans s.missed
