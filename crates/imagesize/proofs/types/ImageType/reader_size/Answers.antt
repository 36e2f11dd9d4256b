use Rattle.imagesize.proofs.Memories.{left_at}
use Rattle.imagesize.proofs.types.ImageType.reader_size.Goals as goal

pub returns-in-Ok-clause-offset : goal.returns-in-Ok-clause-offset
returns-in-Ok-clause-offset g c = left_at _ _ _ c.in_ok-opened.opened c.in-Some.bytes.now _ _
    c.in_ok-opened.ensures.told c.in-Some.ensures.told (c.memory_size_as-found.ensures.offset _)
    (c.leave.ensures.told c.in-Some.bytes.now c.in-Some.ensures.told c.memory_size_as-found.ensures.there)

pub returns-in-Err-clause-offset : goal.returns-in-Err-clause-offset
returns-in-Err-clause-offset g c = left_at _ _ _ c.in_ok-opened.opened c.in-Some.bytes.now _ _
    c.in_ok-opened.ensures.told c.in-Some.ensures.told (c.memory_size_as-found.ensures.offset _)
    (c.leave.ensures.told c.in-Some.bytes.now c.in-Some.ensures.told c.memory_size_as-found.ensures.there)
