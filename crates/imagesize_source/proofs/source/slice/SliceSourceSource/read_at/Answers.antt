use Rattle.std.proofs.Common.{arith}
use Rattle.imagesize_source.proofs.Slices.{slice_reads}
use Rattle.imagesize_source.proofs.source.slice.SliceSourceSource.read_at.Goals as goal

pub returns-clause-runs : goal.returns-clause-runs
returns-clause-runs c =
    slice_reads _ _ _ _ _ _ (omega arith) c.copy_part.ensures.count c.copy_part.ensures.copied c.copy_part.auto.buffer
    (omega arith)
