use Rattle.std.proofs.Common.{arith, refl, ◌+◌}
use Rattle.imagesize_source.proofs.KnownReadings.{parts_text_missing}
use Rattle.imagesize_source.proofs.source.parts.PartsKnown.missed_text.Goals as goal

pub returns-clause-misses : goal.returns-clause-misses
returns-clause-misses c = λ most wanted seen missed b after.
    let s = c.args.self.now in
    parts_text_missing s.told s.spans.now s.bytes.now seen missed b c.args._text c.args.offset most (c.args.found + c.args.left)
    c.args.found (record { start = c.args.offset + c.args.found; sure = 1; most = c.args.left }) wanted
    (omega (arith, c.requires.some)) c.requires.«open» refl refl (omega arith) after
