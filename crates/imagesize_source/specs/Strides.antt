-- How far reads and walks have come.
use Rattle.std.specs.Prelude.{◌≡◌, ℕ, ◌+◌, ◌≤◌, true, List}
use Rattle.imagesize_source.specs.declared.span.Span.{Span}
use Rattle.imagesize_source.specs.Reading.{Reads, put_behind, uncounted}
use Rattle.imagesize_source.specs.Sharing.{Shares}
use Rattle.imagesize_source.specs.State.{State, IsSound, state_after, total}
use Rattle.imagesize_source.specs.Walk.{Step, run}

-- From a on a run was to make the readings `whole`, and has made some of them; what is left from b on is `rest`.
pub record Reached {X : Type 0} (a b : State) (whole rest : Reads X) : Type 0 where
  pub sound : IsSound b → IsSound a
  pub frame : b.frame ≡ a.frame
  pub taken : a.taken ≤ b.taken
  pub made : List Span
  pub within : a.held.honest ≡ true → b.taken ≤ a.taken + total made
  pub state : a.held.honest ≡ true → b ≡ state_after a made
  pub left : a.held.honest ≡ true → uncounted whole ≡ put_behind made (uncounted rest)

-- Since a, a walk has come from the state s at the offset `first` to the state t at another. The source is in the state b.
pub record Strides {S X : Type 0} (step : Step S X) (a b : State) (s : S) (first : ℕ) (t : S) (offset : ℕ) : Type 0 where
  pub reached : Reached a b (run step s first a.held.input) (run step t offset a.held.input)
  pub ahead : a.held.honest ≡ true → first ≤ offset
  pub leads : a.held.honest ≡ true → (d : List ℕ) → Shares d a.held.input reached.made
      → uncounted (run step s first d) ≡ put_behind reached.made (uncounted (run step t offset d))
