-- An input that shares bytes with a longer one, and how far a walk gets in both.
use Rattle.std.specs.Prelude.{◌≡◌, ℕ, ◌≤◌, ◌<◌, true, List, length, slice_index}
use Rattle.imagesize_source.specs.declared.span.Span.{Span}
use Rattle.imagesize_source.specs.Agreement.{is_covered}
use Rattle.imagesize_source.specs.Layout.{layout_reads}
use Rattle.imagesize_source.specs.Reading.{put_behind, uncounted}
use Rattle.imagesize_source.specs.State.{State, Missed, state_after}
use Rattle.imagesize_source.specs.Walk.{Step, run}

-- d is no longer than e, contains each offset of the spans, and has the byte of e there
pub record Shares (d e : List ℕ) (spans : List Span) : Type 0 where
  pub no_longer : length d ≤ length e
  pub there : (offset : ℕ) → is_covered spans offset ≡ true → (offset < length d) × (slice_index d offset ≡ slice_index e offset)

-- A walk began in the state s at the offset `first`. A read failed in the record at `offset`, which comes after the state t. `made`
-- are the spans of the reads before that record. A walk over another input that shares them gets to the same record.
pub record Stood {S X : Type 0} (step : Step S X) (a b : State) (s : S) (first : ℕ) (t : S) (offset : ℕ) : Type 0 where
  pub made : List Span
  pub ahead : a.held.honest ≡ true → first ≤ offset
  pub leads : a.held.honest ≡ true → (d : List ℕ) → Shares d a.held.input made
      → uncounted (run step s first d) ≡ put_behind made (uncounted (run step t offset d))
  pub missed : a.held.honest ≡ true → Missed (state_after a made) b (layout_reads a.held.input (step t offset)).marks
