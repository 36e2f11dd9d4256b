use Rattle.imagesize.proofs.Wanted.{filled_known, known_where_covered, parts_known}
use Rattle.imagesize.proofs.laws.parts_laws.Goals as goal

pub returns-clause-some : goal.returns-clause-some
returns-clause-some c = filled_known

pub returns-clause-parts : goal.returns-clause-parts
returns-clause-parts c = parts_known

pub returns-clause-covered : goal.returns-clause-covered
returns-clause-covered c = known_where_covered
