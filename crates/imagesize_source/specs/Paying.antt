-- Why a walk over any reader ends.
use Rattle.std.specs.Prelude.{ℕ, ◌+◌, ◌-◌, ◌<◌, ◌≤◌, max}
use Rattle.imagesize_source.specs.Chain.{Said, Decided, Next}
use Rattle.imagesize_source.specs.Limits.{most_held}
use Rattle.imagesize_source.specs.State.{State}

-- A read past the reported length and past the held bytes counts against the budget, and stays within it.
abbrev pub Paid : State → State → ℕ → Type 0
Paid a b offset = max a.frame.told most_held < offset → (a.taken < b.taken) × (b.taken ≤ a.frame.budget)

-- How far a walk can still go: the offsets up to the reported length or the end of the held bytes, and the rest of
-- the budget.
abbrev pub ahead_of : State → ℕ → ℕ
ahead_of a offset = (max a.frame.told most_held + 1 - offset) + (a.frame.budget - a.taken)

-- a record that gives the offset of the next one leads on, and brings the walk nearer to its end
abbrev pub Nears : {C X : Type 0} → State → State → ℕ → Said C X → Type 0
Nears a b offset (Decided x) = Unit {0}
Nears a b offset (Next v next) = (offset < next) × (ahead_of b next < ahead_of a offset)
