use Rattle.std.proofs.Common.{◌≡◌, ℕ, Result, Err, arith, rules}
use Rattle.imagesize_source.specs.declared.halt.Halt.{Halt}
use Rattle.imagesize_io.proofs.Filling.{filled_none, filling_done, filling_halts, filling_more}
use Rattle.imagesize_io.proofs.reader.windowed.fill_rest.Goals as goal

pub loop-filled-init : goal.loop-filled-init
loop-filled-init g c = filled_none _ _ _ _ c.requires

pub loop-filled-preserved : goal.loop-filled-preserved
loop-filled-preserved g c = filling_more c.loop-filled.invariant (search rules) c.in_ok-count.ensures

pub returns-then-count-eq0 : goal.returns-then-count-eq0
returns-then-count-eq0 g c =
    filling_done c.loop-filled.invariant (search rules) c.in_ok-count.ensures c.if-count-eq0.true (search (rules, arith))

pub returns-in_err-count : goal.returns-in_err-count
returns-in_err-count g c =
    let is : ◌≡◌ {A = Result ℕ Halt} c.from_residual.result (Err c.in_err-count.field-0.0) = search rules in
    rw is (filling_halts c.loop-filled.invariant (search rules) c.in_err-count.ensures)
