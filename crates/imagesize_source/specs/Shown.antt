-- What bytes that a source holds are: those of its input from an offset on.
use Rattle.std.specs.Prelude.{◌≡◌, ℕ, ◌+◌, ◌^◌, ◌<◌, ◌≤◌, true, List, length}
use Rattle.imagesize_source.specs.Input.{part}
use Rattle.imagesize_source.specs.Limits.{most_held}
use Rattle.imagesize_source.specs.State.{Held}

-- If the source is honest, the bytes are those of its input from an offset on, and it reports its true length.
abbrev pub AreShown : Held → ℕ → List ℕ → ℕ → Type 0
AreShown held start bytes told = held.honest ≡ true
    → (bytes ≡ part held.input start (length bytes)) × (told ≡ length held.input) × (length held.input < 2 ^ 63)

-- The bytes lie after the first bytes that the source keeps, and before the reported length.
abbrev pub AreWithin : ℕ → ℕ → ℕ → ℕ → Type 0
AreWithin front start count told = (front ≤ most_held) × (most_held ≤ start) × (start + count ≤ told)
