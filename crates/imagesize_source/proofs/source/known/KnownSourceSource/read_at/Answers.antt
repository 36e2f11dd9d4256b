use Rattle.std.proofs.Common.{ℕ, List, arith, sym, ap, ◌∙◌, length, take}
use Rattle.imagesize_source.specs.Input.{part}
use Rattle.imagesize_source.specs.Known.{KnownBytes, input_of}
use Rattle.imagesize_source.proofs.Gathering.{run_there}
use Rattle.imagesize_source.proofs.KnownReadings.{parts_read}
use Rattle.imagesize_source.proofs.source.known.KnownSourceSource.read_at.Goals as goal

pub returns-clause-pays : goal.returns-clause-pays
returns-clause-pays g c = λ some behind.
    let k : KnownBytes = g.K.Known.content c.args.self.now.known in
    let found = c.in-Some.found.now in
    let there = run_there k.told k.spans k.bytes found c.args.offset (length found) c.in-Some.ensures.known (omega arith) in
    absurd (omega (arith, some, behind, there.0, c.in-Some.ensures.long))

pub returns-clause-runs : goal.returns-clause-runs
returns-clause-runs g c =
    let s = c.args.self.now in
    let k : KnownBytes = g.K.Known.content s.known in
    let found = c.in-Some.found.now in
    let there = run_there k.told k.spans k.bytes found c.args.offset (length found) c.in-Some.ensures.known (omega arith) in
    let same = c.copy_from_slice.ensures.after in
    let n : ℕ = length c.copy_from_slice.new.self in
    parts_read k.told k.spans k.bytes s.log.spans s.missed _ c.copy_from_slice.new.self c.args.offset n n
    (omega (arith, there.0, ap length same)) (omega arith) (omega arith)
    (ap (λ (xs : List ℕ). take (length xs) xs) same ∙ there.1 ∙ ap (λ (xs : List ℕ). part (input_of k) c.args.offset (length xs)) (sym same))
    (cc)
