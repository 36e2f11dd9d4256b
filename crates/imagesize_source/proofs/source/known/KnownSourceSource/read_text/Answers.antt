use Rattle.std.proofs.Common.{ℕ, arith, sym, ap, ◌∙◌}
use Rattle.imagesize_source.specs.Known.{KnownBytes}
use Rattle.imagesize_source.specs.Text.{is_ended, text_front}
use Rattle.imagesize_source.proofs.Gathering.{run_there}
use Rattle.imagesize_source.proofs.KnownReadings.{parts_ended}
use Rattle.imagesize_source.proofs.source.known.KnownSourceSource.read_text.Goals as goal

pub returns-clause-pays : goal.returns-clause-pays
returns-clause-pays g c = λ some behind.
    let k : KnownBytes = g.K.Known.content c.args.self.now.known in
    let there = run_there k.told k.spans k.bytes c.near.result.now c.args.offset c.in-Some.count c.near.ensures.known c.in-Some.ensures.there in
    absurd (omega (arith, some, behind, there.0))

pub returns-clause-runs : goal.returns-clause-runs
returns-clause-runs g c =
    let s = c.args.self.now in
    let k : KnownBytes = g.K.Known.content s.known in
    let has = c.in-Some.ensures in
    let n : ℕ = c.in-Some.count in
    let there = run_there k.told k.spans k.bytes c.near.result.now c.args.offset n c.near.ensures.known has.there in
    parts_ended k.told k.spans k.bytes s.log.spans s.missed _ c.args.text c.copy_ended.new.buffer c.args.offset n
    has.bound there.0 (has.copied ∙ there.1)
    (ap (is_ended c.args.text) has.copied ∙ has.ended)
    (ap (text_front c.args.text) has.copied ∙ has.whole ∙ sym has.copied) (cc)
