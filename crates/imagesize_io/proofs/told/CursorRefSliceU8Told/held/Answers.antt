use Rattle.std.proofs.Common.{ap}
use Rattle.imagesize_io.proofs.HeldReads.{holds_rest}
use Rattle.imagesize_io.proofs.told.CursorRefSliceU8Told.held.Goals as goal

pub returns-clause-told : goal.returns-clause-told
returns-clause-told c = holds_rest _ _ _ _ _ (ap (λ b. b.now) c.get_ref-bytes.ensures) c.position.ensures c.min.ensures
