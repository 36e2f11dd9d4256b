use Rattle.std.proofs.Common.{arith}
use Rattle.imagesize_walked.proofs.Tiff.{entries_saturated, listed_follows}
use Rattle.imagesize_walked.proofs.formats.tiff.find_size_of.Goals as goal

pub walk-requires-clause-follows : goal.walk-requires-clause-follows
walk-requires-clause-follows g c = listed_follows

pub returns : goal.returns
returns g c = entries_saturated c.args.header.now c.args.count _ (rw c.listed_first-listed.ensures at c.walk.ensures)
    (omega (arith, c.saturating_add-first.ensures, c.count_bytes.ensures))
