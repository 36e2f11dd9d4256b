use Rattle.std.proofs.Common.{ℕ, ◌+◌, ◌<◌, ◌++◌, refl, sym, arith}
use Rattle.std.proofs.lemmas.Bool.Decides.{nat_tests}
use Rattle.imagesize_pieces.specs.Stream.{came}
use Rattle.imagesize_pieces.proofs.Endless.{goes_once, goes_whole, missing_by}
use Rattle.imagesize_pieces.proofs.Streaming.{known_within}
use Rattle.imagesize_source.proofs.KnownReadings.{parts_text_missing}
use Rattle.imagesize_pieces.proofs.arrived.ArrivedKnown.missed_text.Goals as goal

pub returns-then-ends_with_filler-clause-misses : goal.returns-then-ends_with_filler-clause-misses
returns-then-ends_with_filler-clause-misses c = λ most wanted seen missed b after.
    let s = c.args.self.now in
    let found : ℕ = c.args.found in
    let once = goes_once s.told s.start s.kept.now s.chunk.now s.within c.args.offset most (found + c.args.left) found
    wanted (omega (arith, c.requires.some)) c.requires.unknown c.args.text c.requires.«open» (sym c.if-ends_with_filler.ensures) in
    missing_by s.told s.start s.kept.now s.chunk.now s.within b seen missed c.args.text c.args.offset most found (found + 1)
    (record { start = c.args.offset + found; sure = 1; most = 1 }) once (omega arith) refl (omega arith) (omega arith) after

pub returns-then-offset-self-clause-certain : goal.returns-then-offset-self-clause-certain
returns-then-offset-self-clause-certain c = λ above.
    let s = c.args.self.now in
    let early = c.if-offset-self.true in
    let some : 0 < c.args.found = grind (arith, nat_tests) in
    let within = known_within s.told s.start s.kept.now s.chunk.now (c.args.offset + 0) (c.requires.known 0 some) in
    absurd (omega (arith, within.0, early))

pub returns-then-offset-self-clause-misses : goal.returns-then-offset-self-clause-misses
returns-then-offset-self-clause-misses c = λ most wanted seen missed b after.
    let s = c.args.self.now in
    let found : ℕ = c.args.found in
    parts_text_missing s.told (came s.start s.kept.now s.chunk.now) (s.kept.now ++ s.chunk.now) seen missed b
    c.args.text c.args.offset most (found + c.args.left) found
    (record { start = c.args.offset + found; sure = 1; most = c.args.left })
    wanted (omega (arith, c.requires.some)) c.requires.«open» refl refl (omega arith) after

pub returns-clause-misses : goal.returns-clause-misses
returns-clause-misses c = λ most wanted seen missed b after.
    let s = c.args.self.now in
    let found : ℕ = c.args.found in
    let whole = goes_whole s.told s.start s.kept.now s.chunk.now s.within c.args.offset most (found + c.args.left) found
    wanted (omega (arith, c.requires.some)) c.requires.unknown c.args.text c.requires.«open» (sym c.if-ends_with_filler.ensures)
    (omega (arith, c.if-offset-self.false)) in
    missing_by s.told s.start s.kept.now s.chunk.now s.within b seen missed c.args.text c.args.offset most found (found + c.args.left)
    (record { start = c.args.offset + found; sure = c.args.left; most = c.args.left })
    whole (omega (arith, c.requires.some)) refl (omega arith) (omega arith) after
