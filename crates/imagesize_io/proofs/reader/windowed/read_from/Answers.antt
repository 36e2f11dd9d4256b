use Rattle.std.proofs.Common.{◌≡◌, ℕ, Result, Err, arith, refl, rules}
use Rattle.imagesize_source.specs.declared.halt.Halt.{Halt}
use Rattle.imagesize_io.specs.Telling.{account}
use Rattle.imagesize_io.proofs.Standings.{fills_there, not_reached, stops_there}
use Rattle.imagesize_io.proofs.reader.windowed.read_from.Goals as goal

pub returns-then-not-branch-clause-reads : goal.returns-then-not-branch-clause-reads
returns-then-not-branch-clause-reads g c =
    let goes = c.in_ok-go_to.ensures in
    let none = not_reached _ _ _ _ _ _ _ c.args.buffer.now goes.stand c.if-not-branch.true goes.taken in
    grind (arith, none, goes)

pub returns-then-count-gt0-clause-reads : goal.returns-then-count-gt0-clause-reads
returns-then-count-gt0-clause-reads g c =
    let goes = c.in_ok-go_to.ensures in
    assumption (fills_there {a = account g.R.Told.telling g.R.Told.count g.R.Told.failure c.args.reader.now} goes.stand
    c.if-not-branch.false (goes.asked c.if-not-branch.false) goes.taken goes.position goes.keeps
    c.fill.new.progress.offset c.in_ok-count.ensures (λ some. refl) (λ none. absurd (omega (arith, none, c.if-count-gt0.true))))

pub returns-else-count-gt0-clause-reads : goal.returns-else-count-gt0-clause-reads
returns-else-count-gt0-clause-reads g c =
    let goes = c.in_ok-go_to.ensures in
    fills_there goes.stand c.if-not-branch.false (goes.asked c.if-not-branch.false) goes.taken
    goes.position goes.keeps _ c.in_ok-count.ensures (λ some. absurd (omega (arith, some, c.if-count-gt0.false))) (λ none. refl)

pub returns-in_err-count-clause-reads : goal.returns-in_err-count-clause-reads
returns-in_err-count-clause-reads g c =
    let is : ◌≡◌ {A = Result ℕ Halt} c.from_residual-in_err-count.result (Err c.in_err-count.field-0.0) =
    search rules in
    let goes = c.in_ok-go_to.ensures in
    rw is (stops_there goes.stand c.if-not-branch.false (goes.asked c.if-not-branch.false) goes.taken
    goes.position goes.keeps c.in_err-count.ensures)
