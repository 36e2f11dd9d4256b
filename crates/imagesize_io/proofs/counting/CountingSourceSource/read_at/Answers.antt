use Rattle.std.proofs.Common.{Ok, sym, ap, arith}
use Rattle.imagesize_io.proofs.Counted.{counted}
use Rattle.imagesize_io.proofs.Windows.{part_marks}
use Rattle.imagesize_source.proofs.Slices.{front_is}
use Rattle.imagesize_io.proofs.counting.CountingSourceSource.read_at.Goals as goal

pub returns-clause-runs : goal.returns-clause-runs
returns-clause-runs c =
    let copy = c.copy_part-count in
    rw c.pay.ensures.bytes (counted _ _ _ _ _ _ _ _ _ _ _ _ (omega arith) (omega arith)
    (ap Ok (sym (front_is _ _ _ _ _ copy.ensures.count copy.ensures.copied copy.auto.buffer)))
    (part_marks _ _ _ _ (omega (arith, copy.ensures.count, copy.auto.buffer))) c.pay.ensures.paid c.pay.ensures.spent)
