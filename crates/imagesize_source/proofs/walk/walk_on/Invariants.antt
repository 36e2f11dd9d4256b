use Rattle.imagesize_source.specs.Paying.{ahead_of}
use Rattle.imagesize_source.specs.Strides.{Strides}
use Rattle.imagesize_source.proofs.walk.walk_on.Given as goal

abbrev pub invariant-loop-result : goal.invariant-loop-result
invariant-loop-result g l = record {
  holds : g.R.Records.holds l.records l.at;
  strides : Strides g.R.Records.step (g.S.Source.state l.fn.source) (g.S.Source.state l.source) (g.R.Records.state l.fn.records)
      l.fn.offset (g.R.Records.state l.records) l.at;
}

abbrev pub decreases-loop-result : goal.decreases-loop-result
decreases-loop-result g l = ahead_of (g.S.Source.state l.source) l.at
