-- What a block of a file gives.
use Rattle.std.specs.Prelude.{ℕ, ◌+◌, ◌-◌, ◌&&◌, List, length, drop, nat_le, nat_lt, if◌then◌else◌}

-- the bytes of a block from an offset on, or else those of the first bytes
abbrev pub held_from : List ℕ → ℕ → List ℕ → ℕ → List ℕ
held_from block start front offset =
    if nat_le start offset && nat_lt offset (start + length block) then drop (offset - start) block else drop offset front
