-- The bytes that a reader holds, and texts in them.
use Rattle.std.specs.Prelude.{◌≡◌, ℕ, ◌+◌, ◌-◌, List, ◌++◌, length, Option, None, Some, ⊤}
use Rattle.imagesize_source.specs.declared.text.Text.{Text}
use Rattle.imagesize_source.specs.Input.{part}
use Rattle.imagesize_source.specs.Text.{text_front}
use Rattle.imagesize_io.specs.Telling.{Telling}

-- the bytes are those of the reader from its offset on, as far as they go
abbrev pub Holds : Option Telling → List ℕ → Type 0
Holds None bytes = ⊤
Holds (Some t) bytes = bytes ≡ part t.bytes t.offset (length bytes)

-- the bytes are those of the reader from an offset on, if the reader is where it is thought to be
abbrev pub HoldsFrom : Option Telling → ℕ → ℕ → List ℕ → Type 0
HoldsFrom None present offset bytes = ⊤
HoldsFrom (Some t) present offset bytes = bytes ≡ part t.bytes (t.offset + (offset - present)) (length bytes)

-- The bytes are one text, with the byte that ends it. Whatever follows them, this text is at the front.
abbrev pub IsWhole : Text → List ℕ → Type 0
IsWhole text bs = (more : List ℕ) → text_front text (bs ++ more) ≡ bs
