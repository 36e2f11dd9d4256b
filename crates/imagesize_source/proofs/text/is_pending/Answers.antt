use Rattle.std.proofs.Common.{arith}
use Rattle.std.proofs.lemmas.List.{length-drop, take-append-drop, take_all}
use Rattle.imagesize_source.proofs.Texts.{ended_more}
use Rattle.imagesize_source.proofs.text.is_pending.Goals as goal

pub returns-then-not-stays_pending : goal.returns-then-not-stays_pending
returns-then-not-stays_pending c = grind (arith, length-drop, take-append-drop, take_all, ended_more)
