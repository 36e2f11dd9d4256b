use Rattle.std.proofs.Common.{arith}
use Rattle.std.proofs.lemmas.Bool.Decides.{nat_tests}
use Rattle.imagesize_io.proofs.file.FileReader.fetch.Goals as goal

pub returns-clause-reads : goal.returns-clause-reads
returns-clause-reads g c = (
  c.go.new.file,
  rw c.take-position.ensures.value at c.in_ok-go.ensures.goes,
  c.in_ok-count.ensures.reads,
  λ none. c.in_ok-count.ensures.end none (c.most_of-most.ensures.some (grind (arith, nat_tests, c.if-capacity-eq0.false))),
)
