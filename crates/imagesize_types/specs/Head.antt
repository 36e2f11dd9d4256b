-- Tests on the first bytes of an input.
use Rattle.std.specs.Prelude.{ℕ, suc, Bool, true, List, [], ◌∷◌, ◌==◌, ◌&&◌, slice_index, take, drop}

-- whether the bytes contain this text at the offset
abbrev pub stands_at : ℕ → List ℕ → List ℕ → Bool
stands_at offset [] bytes = true
stands_at offset (c ∷ text) bytes = slice_index bytes offset == c && stands_at (suc offset) text bytes

-- whether the bytes begin with this text
abbrev pub begins : List ℕ → List ℕ → Bool
begins text bytes = stands_at 0 text bytes

-- the four bytes from an offset on
abbrev pub four_at : ℕ → List ℕ → List ℕ
four_at offset bytes = take 4 (drop offset bytes)
