use Rattle.std.proofs.Common.{◌≡◌, ◌+◌, ◌-◌, sym, ◌∙◌, subst, arith}
use Rattle.imagesize.specs.Meaning.{meaning_reads}
use Rattle.imagesize.specs.Parted.{texts_of}
use Rattle.imagesize_pieces.proofs.Needing.{ends_wider}
use Rattle.imagesize_pieces.specs.Stream.{EndsAt}
use Rattle.imagesize_stream.proofs.Given.{early_none, exact_none, few_none, latest_none, marked_none, next_none}
use Rattle.imagesize_stream.proofs.parts.PartsProbe.answer.Goals as goal

pub returns-in-None-clause-within : goal.returns-in-None-clause-within
returns-in-None-clause-within c = λ d may out.
    let s = c.args.self.now.probe in
    let none = sym c.answer.ensures.is ∙ c.in-None.is in
    let next = next_none s.kind s.stage s.stand none s.holds c.args.self.now.next in
    let marked = marked_none s.kind (texts_of d) s.stage s.stand (meaning_reads d 0).marks none may.marked out in
    (marked.0.0, marked.0.1, omega (arith, marked.0.2, next.0), marked.0.3)

pub returns-in-None-clause-reaches : goal.returns-in-None-clause-reaches
returns-in-None-clause-reaches c = λ d may without out.
    let s = c.args.self.now.probe in
    let none = sym c.answer.ensures.is ∙ c.in-None.is in
    let next = next_none s.kind s.stage s.stand none s.holds c.args.self.now.next in
    let marked = marked_none s.kind (texts_of d) s.stage s.stand (meaning_reads d 0).marks none may.marked out in
    ends_wider s.stand.passed s.stand.end _ _ (meaning_reads d 0).marks (omega arith) (omega (arith, next.0))
    (marked.1 without)

pub returns-in-None-clause-exact : goal.returns-in-None-clause-exact
returns-in-None-clause-exact c = λ d may without late.
    let s = c.args.self.now.probe in
    let none = sym c.answer.ensures.is ∙ c.in-None.is in
    let next = next_none s.kind s.stage s.stand none s.holds c.args.self.now.next in
    let ends : s.stand.end ≡ s.stand.passed + (s.stand.end - s.stand.passed) = omega (arith, next.0) in
    subst (λ e. EndsAt e (meaning_reads d 0).marks) ends
    (exact_none s.kind (texts_of d) s.stage s.stand (meaning_reads d 0).marks none c.args.self.now.next may.marked
    without (omega (arith, ends, late)))

pub returns-in-None-clause-short : goal.returns-in-None-clause-short
returns-in-None-clause-short c =
    let s = c.args.self.now.probe in
    let next = next_none s.kind s.stage s.stand (sym c.answer.ensures.is ∙ c.in-None.is) s.holds c.args.self.now.next in
    omega (arith, next.2)

pub returns-in-None-clause-shorter : goal.returns-in-None-clause-shorter
returns-in-None-clause-shorter c = λ d may without.
    let s = c.args.self.now.probe in
    let few = few_none s.kind s.stage s.stand s.buffer d (sym c.answer.ensures.is ∙ c.in-None.is) may.given.as_long s.holds
    c.args.self.now.next may.given.known without in
    omega (arith, few)

pub returns-in-None-clause-early : goal.returns-in-None-clause-early
returns-in-None-clause-early c = λ few.
    let s = c.args.self.now.probe in
    let none = sym c.answer.ensures.is ∙ c.in-None.is in
    let next = next_none s.kind s.stage s.stand none s.holds c.args.self.now.next in
    let early = early_none s.kind s.stage s.stand none s.holds c.args.self.now.next few in
    omega (arith, early, next.0)

pub returns-in-None-clause-latest : goal.returns-in-None-clause-latest
returns-in-None-clause-latest c =
    let s = c.args.self.now.probe in
    let none = sym c.answer.ensures.is ∙ c.in-None.is in
    let next = next_none s.kind s.stage s.stand none s.holds c.args.self.now.next in
    let latest = latest_none s.kind s.stage s.stand none s.holds c.args.self.now.next in
    omega (arith, latest, next.0)
