-- What is written to the caller's buffer.
use Rattle.std.specs.Prelude.{◌≡◌, ℕ, ◌<◌, ◌≤◌, List, ◌++◌, length, drop, Option, None, Some}

-- Items were written to a buffer, and their number was returned. If they fit, they are at its front, and nothing
-- after them has changed. Else the buffer is unchanged.
pub record Lends {X : Type 0} (items old new : List X) (told status : ℕ) : Type 0 where
  pub count : told ≡ length items
  pub answered : length items ≤ length old → status ≡ 0
  pub put : length items ≤ length old → new ≡ items ++ drop (length items) old
  pub small : length old < length items → status ≡ 27
  pub left : length old < length items → new ≡ old

-- The same, if there are items. If there are none, the call returns this other status, and nothing has changed.
abbrev pub LendsIf : {X : Type 0} → Option (List X) → ℕ → List X → List X → ℕ → ℕ → ℕ → Type 0
LendsIf None other old new before told status = (status ≡ other) × (new ≡ old) × (told ≡ before)
LendsIf (Some items) other old new before told status = Lends items old new told status
