-- A reader that was opened, and one whose bytes lie in memory.
use Rattle.std.specs.Prelude.{ℕ, List, false, Option, Some, Ok, option_map}
use Rattle.imagesize_io.specs.ReaderState.{Opens}
use Rattle.imagesize_io.specs.Telling.{Telling, at_offset}
use Rattle.imagesize_io.specs.declared.reader.Opened.{Opened}

-- The model of a reader before it was opened, from its model since then: the reader was at the offset that it reported.
abbrev pub before : Option Telling → Opened → Option Telling
before told opened = option_map {T = Telling} (λ t. at_offset t opened.offset) told

-- the reader was opened, and has not been called since
abbrev pub IsOpened : Option Telling → Opened → Type 0
IsOpened told opened = Opens (before told opened) told (Ok opened)

-- the model of a reader in memory with these bytes, at an offset
abbrev pub in_memory : List ℕ → ℕ → Option Telling
in_memory bytes offset = Some (record { bytes = bytes; offset = offset; can_fail = false; interruptions = 0 })
