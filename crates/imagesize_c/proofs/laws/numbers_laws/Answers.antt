use Rattle.imagesize_c.proofs.TypeNumbers.{type_back}
use Rattle.imagesize_c.proofs.laws.numbers_laws.Goals as goal

pub returns : goal.returns
returns c = type_back
