use Rattle.std.proofs.Common.{◌≡◌, ℕ, ◌-◌, ◌≤◌, List, [], length, None, sym, ◌∙◌, arith}
use Rattle.std.proofs.lemmas.List.{length-take}
use Rattle.imagesize_stream.proofs.Ending.{as_many, awaiting_none, came_last, finished}
use Rattle.imagesize_stream.specs.Probe.{CameBy, HoldsAt}
use Rattle.imagesize_stream.specs.Pushed.{Came, answer_of}
use Rattle.imagesize_stream.specs.declared.probe.StreamProbe.{StreamProbe}
use Rattle.imagesize_stream.proofs.probe.StreamProbe.finish.Goals as goal

-- the bytes that came are all, if the input ends after them
last_came : (s : StreamProbe) (front : List ℕ) → answer_of s ≡ None → 132 ≤ length s.buffer → HoldsAt s.stage s.stand
    → Came s front
    → (s.stand.passed ≡ length front)
    × CameBy s.stage s.kind s.stand.start s.stand.offset s.stand.passed s.stand.passed s.buffer front
last_came s front none enough holds came = (
  as_many s.kind s.stage s.stand s.buffer front none enough holds came,
  came_last s.kind s.stage s.stand s.buffer front none came,
)

pub returns-in-Some-answer-clause-kind : goal.returns-in-Some-answer-clause-kind
returns-in-Some-answer-clause-kind c = λ front came.
    let s = c.args.self in let new = c.take_in.new.self in
    let last = last_came s front (sym c.answer.ensures.is ∙ c.in_default.is) (omega arith) s.holds came in
    let told : new.stand.told ≡ s.stand.passed = c.take_in.ensures.told in
    (finished new.kind new.stage new.stand new.buffer front _
    c.in-Some-answer.answer (sym c.in-Some-answer.is ∙ c.answer-2.ensures.is) (c.take_in.ensures.goes_on front last.1)
    (length-take (s.stand.passed - length front) [] ∙ omega arith) (omega (arith, told, last.0))).0

pub returns-in-None-clause-kind : goal.returns-in-None-clause-kind
returns-in-None-clause-kind c = λ front came.
    let s = c.args.self in let new = c.take_in.new.self in
    let last = last_came s front (sym c.answer.ensures.is ∙ c.in_default.is) (omega arith) s.holds came in
    absurd (awaiting_none new.kind new.stage (sym c.answer-2.ensures.is ∙ c.in-None.is) c.take_in.ensures.whole front last.1
    (omega (arith, last.0)))

pub returns-in-Some-answer-clause-size : goal.returns-in-Some-answer-clause-size
returns-in-Some-answer-clause-size c = λ front came.
    let s = c.args.self in let new = c.take_in.new.self in
    let last = last_came s front (sym c.answer.ensures.is ∙ c.in_default.is) (omega arith) s.holds came in
    let told : new.stand.told ≡ s.stand.passed = c.take_in.ensures.told in
    (finished new.kind new.stage new.stand new.buffer front _
    c.in-Some-answer.answer (sym c.in-Some-answer.is ∙ c.answer-2.ensures.is) (c.take_in.ensures.goes_on front last.1)
    (length-take (s.stand.passed - length front) [] ∙ omega arith) (omega (arith, told, last.0))).1

pub returns-in-None-clause-size : goal.returns-in-None-clause-size
returns-in-None-clause-size c = λ front came.
    let s = c.args.self in let new = c.take_in.new.self in
    let last = last_came s front (sym c.answer.ensures.is ∙ c.in_default.is) (omega arith) s.holds came in
    absurd (awaiting_none new.kind new.stage (sym c.answer-2.ensures.is ∙ c.in-None.is) c.take_in.ensures.whole front last.1
    (omega (arith, last.0)))
