-- Texts: bytes up to a byte that ends them.
use Rattle.std.specs.Prelude.{ℕ, ◌+◌, Bool, not, List, ◌++◌, take, drop, ◌==◌}
use Rattle.std.specs.Char.{is_ascii_whitespace}
use Rattle.std.specs.List.{list_any, position_or_len}
use Rattle.imagesize_source.specs.declared.text.Text.{Text}
use Rattle.imagesize_source.specs.declared.text.Text.TheVariants.{Line, Word}

-- how many bytes of white space come before the text: those before the first other byte of a word, 0 for a line
abbrev pub space_before : Text → List ℕ → ℕ
space_before (Line delimiter) bs = 0
space_before Word bs = position_or_len (λ b. not (is_ascii_whitespace b)) bs

-- whether the byte ends the text
abbrev pub delimits : Text → ℕ → Bool
delimits (Line delimiter) b = b == delimiter
delimits Word b = is_ascii_whitespace b

-- the bytes up to and with the first that passes, or all bytes if none does
abbrev pub front_through : (ℕ → Bool) → List ℕ → List ℕ
front_through p bs = take (position_or_len p bs + 1) bs

-- the text at the front of the bytes: the white space before it, its own bytes, and the byte that ends it
unfoldable pub text_front : Text → List ℕ → List ℕ
text_front t bs = take (space_before t bs) bs ++ front_through (delimits t) (drop (space_before t bs) bs)

-- whether one of the bytes ends the text
unfoldable pub is_ended : Text → List ℕ → Bool
is_ended t bs = list_any (delimits t) (drop (space_before t bs) bs)

-- whether one of the bytes is no white space
abbrev pub has_begun : List ℕ → Bool
has_begun bs = list_any (λ b. not (is_ascii_whitespace b)) bs
