use Rattle.imagesize_probe.proofs.run.write_named.Goals as goal

pub returns-then-spans-clause-line : goal.returns-then-spans-clause-line
returns-then-spans-clause-line g c = rw c.if-spans.true c.write_with_spans.ensures.line

pub returns-else-spans-clause-line : goal.returns-else-spans-clause-line
returns-else-spans-clause-line g c = rw c.if-spans.false c.write_line.ensures.line
