use Rattle.std.proofs.Common.{◌-◌, ◌+◌, arith, refl}
use Rattle.imagesize_source.specs.Known.{KnownBytes}
use Rattle.imagesize_source.proofs.KnownReadings.{parts_read, parts_missing}
use Rattle.imagesize_source.proofs.source.known.KnownSource.gather_at.Goals as goal

pub overflow_add-offset : goal.overflow_add-offset
overflow_add-offset g c =
    let f = c.fill_known-found in
    omega (arith, f.ensures.short, f.ensures.wanted, f.ensures.within, c.if-found-wanted.true)

pub returns-then-found-wanted-clause-runs : goal.returns-then-found-wanted-clause-runs
returns-then-found-wanted-clause-runs g c =
    let s = c.args.self.now in
    let k : KnownBytes = g.K.Known.content s.known in
    let f = c.fill_known-found in
    parts_missing k.told k.spans k.bytes s.log.spans s.missed _ _ c.args.offset f.result.1 f.result.0
    (record { start = c.args.offset + f.result.0; sure = f.result.1 - f.result.0; most = f.result.1 - f.result.0 })
    f.ensures.wanted c.if-found-wanted.true refl refl refl (cc)

pub returns-clause-runs : goal.returns-clause-runs
returns-clause-runs g c =
    let s = c.args.self.now in
    let k : KnownBytes = g.K.Known.content s.known in
    let f = c.fill_known-found in
    parts_read k.told k.spans k.bytes s.log.spans s.missed _ f.new.buffer c.args.offset
    f.result.1 f.result.0 f.ensures.wanted f.ensures.within c.if-found-wanted.false f.ensures.copied (cc)
