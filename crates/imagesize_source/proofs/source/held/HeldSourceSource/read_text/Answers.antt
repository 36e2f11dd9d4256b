use Rattle.std.proofs.Common.{◌≡◌, ℕ, ◌+◌, ◌-◌, length, take, arith}
use Rattle.imagesize_source.specs.Reading.{text_read}
use Rattle.imagesize_source.proofs.Shown.{shown_text, shown_reads}
use Rattle.imagesize_source.proofs.source.held.HeldSourceSource.read_text.Goals as goal

pub returns-clause-runs : goal.returns-clause-runs
returns-clause-runs g c =
    let s = c.args.self.now in
    let claim = g.S.Claims.claim s.of.now in
    let kept = g.S.Claims.kept s.of.now in
    let known = c.in-Some.ensures in
    let text = c.in-Some-copy_ended.ensures in
    let paid = c.pays.ensures in
    let bytes = c.in-Some.bytes.now in
    let n : ℕ = c.in-Some-copy_ended.count in
    let buffer = c.copy_ended.new.buffer in
    let counted = paid.paid (c.if-not-pays.false) in
    let taken : s.budget - c.pays.new.self.left ≡ (s.budget - s.left) + n = omega (arith, counted.0, s.paid) in
    rw (paid.told, paid.budget, paid.of, taken, counted.1)
    (shown_reads s.told s.budget kept claim (s.budget - s.left) s.position c.args.offset n
    (take n buffer) (text_read claim.input c.args.text c.args.offset (length buffer))
    (λ honest. let is = s.shown honest in (is.1, is.2)) s.within.0 (omega (arith, s.within.1, known.ahead))
    (omega (arith, c.if-count-eq0.false))
    (shown_text claim c.args.offset n c.args.text bytes buffer s.told known.shown text.there text.bound text.copied
    text.ended text.whole))
