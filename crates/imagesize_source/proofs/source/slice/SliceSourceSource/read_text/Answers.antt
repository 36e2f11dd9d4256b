use Rattle.std.proofs.Common.{arith}
use Rattle.imagesize_source.proofs.Slices.{slice_reads_text}
use Rattle.imagesize_source.proofs.source.slice.SliceSourceSource.read_text.Goals as goal

pub returns-clause-runs : goal.returns-clause-runs
returns-clause-runs c =
    slice_reads_text c.args.self.now.bytes.now c.copy_text_at.new.buffer c.args.text c.args.offset c.copy_text_at.result
    (omega arith) c.copy_text_at.ensures.text
