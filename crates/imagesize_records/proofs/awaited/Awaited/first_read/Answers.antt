use Rattle.std.proofs.Common.{refl}
use Rattle.imagesize_boxes.specs.Jxl.{box_head}
use Rattle.imagesize_records.proofs.awaited.Awaited.first_read.Goals as goal

pub returns-in-Jxl-clause-first : goal.returns-in-Jxl-clause-first
unfolding box_head
returns-in-Jxl-clause-first c = λ some offset. rw c.in-Jxl.is (refl, refl)
