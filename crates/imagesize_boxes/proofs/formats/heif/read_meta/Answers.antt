use Rattle.std.proofs.Common.{arith}
use Rattle.imagesize_source.proofs.Layouts.{binding}
use Rattle.imagesize_source.proofs.Runs.{missed_before, steps}
use Rattle.imagesize_boxes.proofs.formats.heif.read_meta.Goals as goal

pub returns-in_err-read_content-in-Answer-clause-runs : goal.returns-in_err-read_content-in-Answer-clause-runs
returns-in_err-read_content-in-Answer-clause-runs g c =
    let first = rw c.in-Answer.is at c.in_ok-read_box.ensures.runs in
    let second = c.in_err-read_content-in-Answer.ensures in grind (arith, steps, missed_before, binding)
