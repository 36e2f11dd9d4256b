use Rattle.std.proofs.Common.{◌≡◌, ℕ, ◌-◌, ◌≤◌, true, None}
use Rattle.imagesize_source.specs.Paying.{ahead_of}
use Rattle.imagesize_source.specs.State.{State, rejoined, shown_by, shown_state}
use Rattle.imagesize_source.specs.Strides.{Strides}
use Rattle.imagesize_source.proofs.walk.walk_held.Given as goal

abbrev pub invariant-loop-answer : goal.invariant-loop-answer
invariant-loop-answer g l =
    let a : State = g.S.Source.state l.fn.source in
    let b : State = rejoined a (l.held.budget - l.held.left) l.held.position in
    record {
      holds : g.R.Records.holds l.records l.here;
      shows : g.S.Source.shows l.fn.source;
      counts : a.frame.counts ≡ true;
      plain : a.recorded ≡ None;
      shown : shown_state l.held.told l.held.budget (g.S.Claims.kept l.held.of.now) (g.S.Claims.claim l.held.of.now)
          (l.held.budget - l.held.left) l.held.position ≡ shown_by b;
      more : a.taken ≤ (l.held.budget - l.held.left);
      nearer : ahead_of b l.here ≤ ahead_of a l.fn.offset;
      strides : (o : State) (s : g.row.R-State.Denot) (first : ℕ)
          → Strides g.R.Records.step o a s first (g.R.Records.state l.fn.records) l.fn.offset
          → Strides g.R.Records.step o b s first (g.R.Records.state l.records) l.here;
    }

abbrev pub decreases-loop-answer : goal.decreases-loop-answer
decreases-loop-answer g l = ahead_of (rejoined (g.S.Source.state l.fn.source) (l.held.budget - l.held.left) l.held.position) l.here
