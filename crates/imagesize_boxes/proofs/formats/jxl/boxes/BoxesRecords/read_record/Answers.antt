use Rattle.std.proofs.Common.{sym, ◌∙◌, arith}
use Rattle.imagesize_source.proofs.Layouts.{binding}
use Rattle.imagesize_source.proofs.Runs.{missed_before, steps}
use Rattle.imagesize_boxes.proofs.JxlBoxes.{plain_size}
use Rattle.imagesize_boxes.proofs.formats.jxl.boxes.BoxesRecords.read_record.Goals as goal

pub returns-in_err-size-in-Codestream-clause-runs : goal.returns-in_err-size-in-Codestream-clause-runs
returns-in_err-size-in-Codestream-clause-runs g c =
    let run = rw c.in-Codestream.is at c.in_ok-front.ensures.runs in
    let is = sym c.in_err-size-in-Codestream.was ∙ c.size.ensures in
    let plain = rw (← is) at (plain_size c.in-Codestream.front) in
    grind (arith, steps, missed_before, binding, plain.1 (g.S.Source.state c.read_box.new.source))
