use Rattle.std.proofs.Common.{◌≡◌, ℕ, ◌+◌, ◌-◌, ◌<◌, ◌≤◌, min, List, drop, length, take, None, sym, ap, ◌∙◌, subst, arith}
use Rattle.std.proofs.lemmas.List.{length-drop, length-take}
use Rattle.imagesize_stream.proofs.Ending.{awaiting_none}
use Rattle.imagesize_stream.proofs.Given.{given_later, next_none}
use Rattle.imagesize_stream.proofs.Requests.{idle_both, keeps_found, wants}
use Rattle.imagesize_stream.specs.Given.{HasPart}
use Rattle.imagesize_stream.specs.Probe.{HoldsAt, IfAwaiting, IsNext}
use Rattle.imagesize_stream.specs.Pushed.{answer_of}
use Rattle.imagesize_stream.specs.declared.probe.StreamProbe.{StreamProbe}
use Rattle.imagesize_stream.proofs.parts.PartsProbe.supply.Goals as goal

pub returns-clause-goes_on : goal.returns-clause-goes_on
returns-clause-goes_on c = λ d may has.
    let stand = c.args.self.now.probe.stand in
    let fits = stand.fits in
    c.skip.ensures.parts d (c.take_in.ensures.parts d may.given
    (subst (λ xs. HasPart d stand.passed xs) (sym c.bytes_behind.ensures)
    (given_later d c.args.bytes.now c.args.offset stand.passed c.if-offset-start.false
    (omega (arith, fits, may.given.as_long)) has)))

pub returns-clause-keeps : goal.returns-clause-keeps
returns-clause-keeps c =
    let s = c.args.self.now.probe in let t = c.take_in.new.self in let u = c.skip.new.self in
    keeps_found (answer_of s) (answer_of t) (answer_of u) s.stand u.stand c.take_in.ensures.keeps c.skip.ensures.keeps

pub returns-clause-gap : goal.returns-clause-gap
returns-clause-gap c = let s = c.args.self.now.probe in
    wants (answer_of s) s.stand _ (λ none late. absurd (omega (arith, late, c.if-offset-start.false)))

-- some byte was requested, and those of them that were given came
came_to : (s t : StreamProbe) (offset : ℕ) (bytes behind : List ℕ) → answer_of s ≡ None → answer_of t ≡ None
    → HoldsAt s.stage s.stand → IsNext s.stage s.stand → offset ≤ s.stand.passed → behind ≡ drop (s.stand.passed - offset) bytes
    → IfAwaiting t.stage (t.stand.passed ≡ s.stand.passed + length (take (s.stand.told - s.stand.passed) behind))
    → (s.stand.passed < s.stand.end) × (min s.stand.end (offset + length bytes) ≤ t.stand.passed)
came_to s t offset bytes behind none later holds next before is many =
    let ahead = next_none s.kind s.stage s.stand none holds next in
    let comes = awaiting_none t.kind t.stage later many in (
      ahead.0,
      omega (
        arith,
        ahead.1,
        before,
        comes,
        length-take (s.stand.told - s.stand.passed) behind,
        ap length is,
        length-drop (s.stand.passed - offset) bytes,
      ),
    )

pub returns-clause-further : goal.returns-clause-further
returns-clause-further c =
    let s = c.args.self.now.probe in let t = c.take_in.new.self in let u = c.skip.new.self in
    wants (answer_of s) s.stand _ (λ none _ some. wants (answer_of u) u.stand _ (λ later.
    let came = came_to s t c.args.offset c.args.bytes.now c.bytes_behind.result.now none (sym c.skip.ensures.keeps ∙ later) s.holds
    c.args.self.now.next c.if-offset-start.false c.bytes_behind.ensures c.take_in.ensures.passed in
    let behind = c.skip.ensures.later in omega (arith, came.0, came.1, behind, some)))

pub returns-clause-beyond : goal.returns-clause-beyond
returns-clause-beyond c =
    let s = c.args.self.now.probe in let t = c.take_in.new.self in let u = c.skip.new.self in
    wants (answer_of s) s.stand _ (λ none _ all. wants (answer_of u) u.stand _ (λ later.
    let came = came_to s t c.args.offset c.args.bytes.now c.bytes_behind.result.now none (sym c.skip.ensures.keeps ∙ later) s.holds
    c.args.self.now.next c.if-offset-start.false c.bytes_behind.ensures c.take_in.ensures.passed in
    let behind = c.skip.ensures.later in omega (arith, came.0, came.1, behind, all)))

pub returns-clause-idle : goal.returns-clause-idle
returns-clause-idle c =
    let s = c.args.self.now.probe in let t = c.take_in.new.self in
    idle_both (answer_of s) (answer_of t) s.stand (λ first then. (then.0 ∙ first.0, then.1 ∙ first.1)) c.take_in.ensures.keeps
    c.take_in.ensures.idle c.skip.ensures.idle
