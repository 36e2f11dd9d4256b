use Rattle.std.proofs.Common.{◌≡◌, ◌<◌, ◌^◌, length, min, [], true, refl, sym, ◌∙◌, subst, arith}
use Rattle.std.proofs.lemmas.Bool.{false_from_ne_true}
use Rattle.std.proofs.lemmas.List.{append-nil}
use Rattle.imagesize_source.specs.Layout.{Layout, layout_reads}
use Rattle.imagesize_source.specs.Reading.{is_faulted}
use Rattle.imagesize_source.specs.State.{State, Runs, state_after}
use Rattle.imagesize_source.proofs.Agreement.{with_texts}
use Rattle.imagesize_source.proofs.Sharing.{shared}
use Rattle.imagesize_pieces.specs.Stream.{Begins, Says}
use Rattle.imagesize_pieces.proofs.Asking.{Left, depends, ends_left, few_left, needs_left}
use Rattle.imagesize_pieces.proofs.Beginning.{ArrivedSource, Holds, arrived_input}
use Rattle.imagesize_pieces.proofs.Called.{Called, called, fresh, goes_on, arrived_source, holds_after, is_honest, says_begun, state_of}
use Rattle.imagesize_pieces.proofs.Needing.{needs_wider}
use Rattle.imagesize_pieces.proofs.first.read_first.Given.{Over}
use Rattle.imagesize_pieces.proofs.first.read_first.Goals.{After-read-found}
use Rattle.imagesize_pieces.proofs.first.read_first.Goals as goal

-- the value over the first bytes, of which all are kept
module _ (g : Over) (c : After-read-found g) where
  abbrev layout : Layout g.row.F-Answer.Denot
  layout = g.F.Fixed.layout c.args.fixed.now

  abbrev source : ArrivedSource
  source = arrived_source c.read-found.new.source

  -- the source before the read
  abbrev made : State
  made = state_of (arrived_source c.new-source.result)

  call : Called made source c.args.told 0 c.args.bytes.now []
  call =
      let new = c.new-source.ensures in
      called made source c.args.told 0 c.args.bytes.now [] (rw (new.known, new.seen, new.missed) refl)
      c.read-found.ensures.frame

  short : source.told < 2 ^ 63
  short = omega (arith, call.told, c.requires.short)

  runs : Runs (fresh source) (state_of source) c.read-found.result (layout_reads (arrived_input source) layout)
  runs = subst (λ x. Runs x (state_of source) c.read-found.result (layout_reads x.held.input layout)) call.new c.read-found.ensures

  run : Holds c.args.bytes.now source
  run = holds_after c.args.bytes.now c.args.bytes.now [] call (record { is = append-nil c.args.bytes.now; ends = omega arith })

  left : is_faulted c.read-found.result ≡ true → Left layout 0 source
  unfolding state_after
  left faults = record {
    from = omega (arith, call.start);
    above = λ d p covered. omega arith;
    before = [];
    lacks = runs.misses (is_honest source short) faults;
  }

pub returns-clause-says : goal.returns-clause-says
returns-clause-says g c = λ faultless.
    let h = (goal.at.returns-clause-says g c).After-read-found in
    subst (λ n. Says c.args.bytes.now n (λ d. layout_reads d (layout g h)) c.read-found.result) (sym (call g h).told)
    (says_begun (source g h) (short g h) (λ e. layout_reads e (layout g h)) (runs g h) faultless c.args.bytes.now
    (λ d e. shared d e (layout g h)) (run g h))

pub returns-clause-unstopped : goal.returns-clause-unstopped
returns-clause-unstopped g c = λ faultless. goes_on refl c.read-found.ensures faultless

pub returns-clause-few : goal.returns-clause-few
returns-clause-few g c = λ faults high reach.
    let h = (goal.at.returns-clause-few g c).After-read-found in
    omega (arith, few_left (left g h faults) high reach, (run g h).ends)

pub returns-clause-complete : goal.returns-clause-complete
returns-clause-complete g c = λ faults d begins as_long below.
    let h = (goal.at.returns-clause-complete g c).After-read-found in
    let needs = depends (left g h faults) (run g h) d (subst (λ n. Begins c.args.bytes.now n d) (call g h).told begins)
    (as_long ∙ (call g h).told) true (with_texts (layout g h)) in
    omega (arith, needs.1, below needs.0 needs.2)

pub returns-clause-marked : goal.returns-clause-marked
returns-clause-marked g c = λ faults d begins as_long texts high read reach.
    let h = (goal.at.returns-clause-marked g c).After-read-found in
    needs_wider texts _ _ (length c.args.bytes.now) (min c.end.result high) (layout_reads d (layout g h)).marks
    (omega arith) (omega (arith, c.end.ensures))
    (needs_left (left g h faults) (run g h) d (subst (λ n. Begins c.args.bytes.now n d) (call g h).told begins) (as_long ∙ (call g h).told)
    texts read high reach)

pub returns-clause-whole : goal.returns-clause-whole
returns-clause-whole g c = λ all.
    false_from_ne_true (is_faulted c.read-found.result) (λ faults.
    let h = (goal.at.returns-clause-whole g c).After-read-found in
    let ends = ends_left (left g h faults) in
    omega (arith, all, ends.0, ends.2, (run g h).ends, (call g h).told))

pub returns-clause-ends : goal.returns-clause-ends
returns-clause-ends g c = λ faults.
    let h = (goal.at.returns-clause-ends g c).After-read-found in
    let ends = ends_left (left g h faults) in
    omega (arith, ends.0, ends.2, (run g h).ends, (call g h).told, c.end.ensures)
