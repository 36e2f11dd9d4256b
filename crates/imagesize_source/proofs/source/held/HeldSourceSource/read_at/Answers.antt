use Rattle.std.proofs.Common.{◌≡◌, ℕ, ◌+◌, ◌-◌, length, take, arith, sym, ap, ◌∙◌}
use Rattle.imagesize_source.specs.Reading.{part_read}
use Rattle.imagesize_source.proofs.Shown.{shown_part, shown_reads}
use Rattle.imagesize_source.proofs.source.held.HeldSourceSource.read_at.Goals as goal

pub returns-clause-runs : goal.returns-clause-runs
returns-clause-runs g c =
    let s = c.args.self.now in
    let claim = g.S.Claims.claim s.of.now in
    let kept = g.S.Claims.kept s.of.now in
    let known = c.in-Some.ensures in
    let paid = c.pays.ensures in
    let bytes = c.in-Some.bytes.now in
    let n : ℕ = length c.args.buffer.now in
    let buffer = c.copy_from_slice.new.self in
    let long : length buffer ≡ n = c.copy_from_slice.ensures.len in
    let counted = paid.paid (c.if-not-pays.false) in
    let taken : s.budget - c.pays.new.self.left ≡ (s.budget - s.left) + n = omega (arith, counted.0, s.paid) in
    rw (paid.told, paid.budget, paid.of, taken, counted.1, ← long)
    (shown_reads s.told s.budget kept claim (s.budget - s.left) s.position c.args.offset (length buffer)
    (take (length buffer) buffer) (part_read claim.input c.args.offset (length buffer))
    (λ honest. let is = s.shown honest in (is.1, is.2)) s.within.0 (omega (arith, s.within.1, known.ahead))
    (omega (arith, long, c.if-count-eq0.false))
    (shown_part claim c.args.offset bytes buffer s.told known.shown known.there (omega (arith, long, known.whole))
    (c.copy_from_slice.ensures.after ∙ ap (λ k. take k bytes) (sym long))))
