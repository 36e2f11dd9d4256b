use Rattle.std.proofs.Common.{arith}
use Rattle.imagesize_source.proofs.source.known.KnownSource.end.Goals as goal

pub overflow_add-result : goal.overflow_add-result
overflow_add-result g c = let fits = c.args.self.now.fits c.in-Some.missing c.in-Some.is in omega (arith, fits)
