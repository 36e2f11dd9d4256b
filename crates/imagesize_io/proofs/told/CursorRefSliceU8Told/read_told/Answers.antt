use Rattle.std.proofs.Common.{ap, arith}
use Rattle.imagesize_io.proofs.Cursors.{read_cursor}
use Rattle.imagesize_io.proofs.told.CursorRefSliceU8Told.read_told.Goals as goal

pub returns-clause-told : goal.returns-clause-told
returns-clause-told c =
    let copy = c.copy_part-count in
    read_cursor _ _ _ _ _ _ _ _ _ (ap (λ b. b.now) c.get_ref-bytes.ensures) (omega (arith, c.position-offset.ensures))
    (ap (λ b. b.now) c.set_position.ensures.inner)
    (omega (arith, c.set_position.ensures.position)) copy.ensures.count copy.ensures.copied
    copy.auto.buffer
