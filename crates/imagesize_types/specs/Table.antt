-- Tables of numbers and texts.
use Rattle.std.specs.Prelude.{ℕ, List, [], ◌∷◌, ◌==◌, if◌then◌else◌}
use Rattle.std.specs.Str.{bytes_eq}

-- the entry for the number in a table, or else another value
abbrev pub look_up : {X : Type 0} → List (ℕ × X) → X → ℕ → X
look_up [] other n = other
look_up ((number, x) ∷ rows) other n = if n == number then x else look_up rows other n

-- the entry for the text in a table, or else another value
abbrev pub look_up_text : {X : Type 0} → List (List ℕ × X) → X → List ℕ → X
look_up_text [] other bytes = other
look_up_text ((text, x) ∷ rows) other bytes = if bytes_eq bytes text then x else look_up_text rows other bytes
