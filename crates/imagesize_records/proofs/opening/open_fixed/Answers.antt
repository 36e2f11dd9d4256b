use Rattle.std.proofs.Common.{Ok, Err, rules}
use Rattle.imagesize.specs.Types.{way_of}
use Rattle.imagesize_records.proofs.Sized.{fixed_as}
use Rattle.imagesize_records.proofs.opening.open_fixed.Goals as goal

pub returns-in_err-size : goal.returns-in_err-size
returns-in_err-size g c =
    let h = fixed_as _ _ (way_of c.args.image) (Err _) c.in_err-size.ensures in search (rules, h)

pub returns : goal.returns
returns g c = let h = fixed_as _ _ (way_of c.args.image) (Ok _) c.in_ok-size.ensures in search (rules, h)
