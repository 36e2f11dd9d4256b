use Rattle.std.proofs.Common.{◌≡◌, ℕ, ◌+◌, ◌-◌, ◌≤◌, max, [], length, take, None, Some, IfSome, sym, ◌∙◌, arith}
use Rattle.std.proofs.lemmas.List.{length-take}
use Rattle.imagesize_stream.proofs.Ending.{as_many, awaiting_none}
use Rattle.imagesize_stream.proofs.Given.{early_none, first_next, none_given, none_has, none_passed}
use Rattle.imagesize_stream.proofs.Requests.{none_before, wants}
use Rattle.imagesize_stream.specs.Probe.{HoldsAt, IfAwaiting}
use Rattle.imagesize_stream.specs.Pushed.{Came, answer_of}
use Rattle.imagesize_stream.specs.declared.probe.StreamProbe.{StreamProbe}
use Rattle.imagesize_stream.proofs.parts.PartsProbe.new.Goals as goal

pub returns-clause-begins : goal.returns-clause-begins
returns-clause-begins c = λ d as_long.
    let p = c.new-probe.result in
    c.skip.ensures.parts d (c.take_in.ensures.parts d
    (none_given p.stage p.kind p.stand p.buffer d (as_long ∙ c.skip.ensures.told ∙ c.take_in.ensures.told)
    (omega arith) p.holds c.new-probe.ensures.begins)
    (none_has d p.stand.passed))

-- no byte came yet
at_first : (p s u : StreamProbe) → 132 ≤ length p.buffer → IfSome (answer_of p) (λ answer. answer_of s ≡ Some answer) → answer_of u ≡ answer_of s
    → HoldsAt p.stage p.stand → HoldsAt s.stage s.stand → Came p []
    → IfAwaiting s.stage (s.stand.passed ≡ p.stand.passed + length (take {A = ℕ} (p.stand.told - p.stand.passed) []))
    → IfAwaiting u.stage (u.stand.passed ≡ max s.stand.passed s.stand.start) → answer_of u ≡ None → u.stand.passed ≡ 0
at_first p s u enough kept keeps p_holds s_holds came many moves none =
    let after = sym keeps ∙ none in
    let before = none_before (answer_of p) (answer_of s) kept after in
    let begins : p.stand.passed ≡ 0 = as_many p.kind p.stage p.stand p.buffer [] before enough p_holds came in
    let all = awaiting_none s.kind s.stage after many in
    let none_came : s.stand.passed ≡ 0 =
    omega (arith, all, begins, length-take {A = ℕ} (p.stand.told - p.stand.passed) []) in
    let start = none_passed s.kind s.stage s.stand after s_holds none_came in
    let moved = awaiting_none u.kind u.stage none moves in omega (arith, moved, none_came, start)

pub returns-clause-first : goal.returns-clause-first
returns-clause-first c =
    let p = c.new-probe.result in let s = c.take_in.new.self in let u = c.skip.new.self in
    wants (answer_of u) u.stand _ (λ none.
    let at = at_first p s u (omega arith) c.take_in.ensures.keeps c.skip.ensures.keeps p.holds s.holds
    c.new-probe.ensures.begins c.take_in.ensures.passed c.skip.ensures.passed none in
    let ends = first_next u.kind u.stage u.stand none u.holds c.skip.ensures.next at in
    (at, omega (arith, at, ends)))

pub returns-clause-few : goal.returns-clause-few
returns-clause-few c =
    let p = c.new-probe.result in let s = c.take_in.new.self in let u = c.skip.new.self in
    wants (answer_of u) u.stand _ (λ none.
    let at = at_first p s u (omega arith) c.take_in.ensures.keeps c.skip.ensures.keeps p.holds s.holds
    c.new-probe.ensures.begins c.take_in.ensures.passed c.skip.ensures.passed none in
    let few = early_none u.kind u.stage u.stand none u.holds c.skip.ensures.next (omega (arith, at)) in
    omega (arith, few))
