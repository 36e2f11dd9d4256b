use Rattle.std.proofs.Common.{Ok, sym, ap, arith}
use Rattle.imagesize_io.proofs.Counted.{counted, text_marks}
use Rattle.imagesize_io.proofs.counting.CountingSourceSource.read_text.Goals as goal

pub returns-clause-runs : goal.returns-clause-runs
returns-clause-runs c =
    let copy = c.copy_text_at-count in
    rw c.pay.ensures.bytes (counted _ _ _ _ _ _ _ _ _ _ _ _ (omega arith) (omega arith) (ap Ok (sym copy.ensures.text))
    (text_marks _ _ _ _ _ copy.ensures.text copy.ensures.fits) c.pay.ensures.paid c.pay.ensures.spent)
