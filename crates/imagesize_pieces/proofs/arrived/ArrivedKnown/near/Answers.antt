use Rattle.std.proofs.Common.{ℕ, arith}
use Rattle.std.proofs.lemmas.Bool.Decides.{nat_tests}
use Rattle.std.proofs.lemmas.List.{take_rest}
use Rattle.imagesize_pieces.proofs.arrived.ArrivedKnown.near.Goals as goal

pub returns-then-index-kept-clause-near : goal.returns-then-index-kept-clause-near
returns-then-index-kept-clause-near c = grind (arith, nat_tests, take_rest {X = ℕ})
