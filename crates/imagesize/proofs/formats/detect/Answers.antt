use Rattle.std.proofs.Common.{rules}
use Rattle.imagesize.proofs.Detection.{head_then}
use Rattle.imagesize.proofs.formats.detect.Goals as goal

pub returns : goal.returns
returns g c = head_then _ _ _ (search rules) c.in_ok-read_exact_at.ensures.runs c.by_head.ensures
