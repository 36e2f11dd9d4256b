use Rattle.std.proofs.Common.{◌≡◌, ◌+◌, ◌-◌, ◌<◌, ◌^◌, ◌∙◌, refl, ap, sym, subst, arith}
use Rattle.imagesize_source.specs.Paying.{ahead_of}
use Rattle.imagesize_source.specs.State.{State, IsSound, rejoined}
use Rattle.imagesize_source.proofs.Shown.{record_back, shown_again}
use Rattle.imagesize_source.proofs.Strides.{strides_on, strides_end, strides_past}
use Rattle.imagesize_source.proofs.walk.walk_held.Goals as goal

pub loop-answer-init : goal.loop-answer-init
loop-answer-init g c =
    let a : State = g.S.Source.state c.args.source.now in
    let held = c.in_ok-held.held in
    let told = c.in_ok-held.ensures.told in
    let taken : (held.budget - held.left) ≡ a.taken = ap (λ s. s.taken) told in
    let place : held.position ≡ a.place = ap (λ s. s.place) told in
    record {
      holds = c.requires.holds;
      shows = c.in_ok-held.ensures.shows;
      counts = c.in_ok-held.ensures.counts.0;
      plain = c.in_ok-held.ensures.counts.1;
      shown = shown_again held.told held.budget (g.S.Claims.kept held.of.now) (g.S.Claims.claim held.of.now)
          (held.budget - held.left) held.position a (ap (λ s. s.frame) told);
      more = omega (arith, taken);
      nearer = omega (arith, taken);
      strides = λ o s first on. rw (taken, place) on;
    }

pub returns-in-Ok-Answer-clause-runs : goal.returns-in-Ok-Answer-clause-runs
returns-in-Ok-Answer-clause-runs g c = λ o s first on.
    let known = c.loop-answer.invariant in
    let run = rw c.in-Ok-Answer.field-0-is at c.in-Ok-Answer.ensures.runs in
    let counts = c.counts-counts.ensures in
    let passed = c.pass.ensures known.shows (omega (arith, counts.taken, run.taken, known.more))
    (omega (arith, counts.paid, ap (λ f. f.budget) (run.frame ∙ ap (λ s. s.frame) known.shown))) in
    rw (passed, counts.taken, counts.position, c.in-Ok-Answer.answer-is)
    (strides_end _ c.requires.follows (known.strides o s first on) _
    (record_back _ (g.R.Records.step (g.R.Records.state c.loop-answer.records) c.loop-answer.here) known.counts known.plain
    known.shown refl run))

pub returns-in-None-clause-runs : goal.returns-in-None-clause-runs
returns-in-None-clause-runs g c = λ o s first on.
    let known = c.loop-answer.invariant in
    let run = rw c.in-Ok-Other.field-0-is at c.in-Ok-Other.ensures.runs in
    let next = strides_on _ c.requires.follows (known.strides o s first on) _ _
    (record_back _ (g.R.Records.step (g.R.Records.state c.loop-answer.records) c.loop-answer.here) known.counts known.plain
    known.shown refl run) in
    let far = rw c.in-Ok-Other.length-is at c.in-None.ensures in
    let counts = c.counts-counts-in-None.ensures in
    let passed = c.pass-in-None.ensures known.shows (omega (arith, counts.taken, run.taken, known.more))
    (omega (arith, counts.paid, ap (λ f. f.budget) (run.frame ∙ ap (λ s. s.frame) known.shown))) in
    rw (passed, counts.taken, counts.position)
    (strides_past _ c.requires.follows next c.at_end.result (omega (arith, far))
    (subst IsSound known.shown run.sound) c.at_end.ensures.goes_on
    (c.at_end.ensures.ends _ (rw c.in-Ok-Other.field-0-is at c.in-Ok-Other.ensures.holds)))

pub returns-in-Err-clause-strides : goal.returns-in-Err-clause-strides
returns-in-Err-clause-strides g c = λ none o s first on.
    let known = c.loop-answer.invariant in
    let counts = c.counts-before.ensures in
    let passed = c.pass-in-Err.ensures known.shows (omega (arith, counts.taken, known.more))
    (omega (arith, counts.paid, ap (λ s. s.frame.budget) known.shown)) in
    rw (passed, counts.taken, counts.position, c.in-Err.ensures.stays.0) (known.strides o s first on)

pub returns-in-Err-2-clause-runs : goal.returns-in-Err-2-clause-runs
returns-in-Err-2-clause-runs g c = λ o s first on.
    let known = c.loop-answer.invariant in
    let run = c.in-Err.ensures.runs in
    let counts = c.counts-counts-in-Err-2.ensures in
    let passed = c.pass-in-Err-2.ensures known.shows (omega (arith, counts.taken, run.taken, known.more))
    (omega (arith, counts.paid, ap (λ f. f.budget) (run.frame ∙ ap (λ s. s.frame) known.shown))) in
    rw (passed, counts.taken, counts.position)
    (strides_end _ c.requires.follows (known.strides o s first on) _
    (record_back _ (g.R.Records.step (g.R.Records.state c.loop-answer.records) c.loop-answer.here) known.counts known.plain
    known.shown (sym c.is_failure.ensures ∙ c.if-is_failure.false) run))

pub loop-answer-preserved : goal.loop-answer-preserved
loop-answer-preserved g c =
    let known = c.loop-answer.invariant in
    let before = c.loop-answer.held in
    let b : State = rejoined (g.S.Source.state c.args.source.now) (before.budget - before.left) before.position in
    let after = c.read_record.new.source in
    let run = rw c.in-Ok-Other.field-0-is at c.in-Ok-Other.ensures.runs in
    let near = rw c.in-Ok-Other.field-0-is at c.in-Ok-Other.ensures.nears in
    let again = shown_again after.told after.budget (g.S.Claims.kept after.of.now) (g.S.Claims.claim after.of.now)
    (after.budget - after.left) after.position b
    (run.frame ∙ ap (λ s. s.frame) known.shown) in
    let next : (c.loop-answer.here + c.in-Ok-Other.length < 2 ^ 64) ×
    (c.in-Some.next ≡ c.loop-answer.here + c.in-Ok-Other.length) = rw c.in-Ok-Other.length-is at c.in-Some.ensures in
    record {
      holds = rw next.1 (rw c.in-Ok-Other.field-0-is at c.in-Ok-Other.ensures.holds);
      shows = known.shows;
      counts = known.counts;
      plain = known.plain;
      shown = again;
      more = omega (arith, run.taken, known.more);
      nearer = rw next.1 (let there = ap (λ s. ahead_of s (c.loop-answer.here + c.in-Ok-Other.length)) again in
          omega (arith, near.1, ap (λ s. ahead_of s c.loop-answer.here) known.shown, known.nearer));
      strides = λ o s first on.
          rw next.1 (strides_on _ c.requires.follows (known.strides o s first on) _ _
          (record_back _ (g.R.Records.step (g.R.Records.state c.loop-answer.records) c.loop-answer.here) known.counts known.plain
          known.shown refl run));
    }
