use Rattle.std.proofs.Common.{sym, ◌∙◌, arith}
use Rattle.imagesize_boxes.proofs.JxlBoxes.{plain_size}
use Rattle.imagesize_source.proofs.Layouts.{binding}
use Rattle.imagesize_source.proofs.Runs.{missed_before, steps}
use Rattle.imagesize_records.proofs.opening.open_jxl.Goals as goal

pub returns-in_err-size-in-Some : goal.returns-in_err-size-in-Some
returns-in_err-size-in-Some g c =
    let run = rw c.in-Some.is at c.in_ok-front.ensures in
    let is = sym c.in_err-size-in-Some.was ∙ c.size.ensures in
    let plain = rw (← is) at (plain_size c.in-Some.front) in
    grind (arith, steps, missed_before, binding, plain.1 (g.S.Source.state c.read_start.new.source))
