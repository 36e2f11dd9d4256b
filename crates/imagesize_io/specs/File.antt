-- What a reader of a file holds, and where it goes.
use Rattle.std.specs.Prelude.{◌≡◌, ◌≢◌, ◌⊎◌, ℕ, ◌+◌, ◌^◌, ◌≤◌, List, [], take, Option, Some, Ok}
use Rattle.std.specs.Io.KnownBytes.{Keeps}
use Rattle.std.specs.Io.Seek.{SeekMoves}
use Rattle.std.specs.declared.io.Error.{Error}
use Rattle.std.specs.declared.io.traits.SeekFrom.TheVariants.{Start}
use Rattle.imagesize_io.specs.Block.{held_from}
use Rattle.imagesize_io.specs.declared.file.FileReader.{FileReader}

-- the bytes that a reader of a file holds from its offset on
abbrev pub held_of : {R : Type 0} → FileReader R → List ℕ
held_of r = held_from (take r.block.filled r.block.memory.now) r.block.start r.block.front.items r.offset

-- a file stays if it is at an offset, and is sought there if not
abbrev pub IsSoughtTo : {R : Type 0} → (R → Option ℕ) → (R → Option (List ℕ)) → R → R → Option ℕ → ℕ → Type 0
IsSoughtTo position bytes old new at offset =
    (at ≡ Some offset → new ≡ old)
    × (at ≢ Some offset → Keeps (bytes old) (bytes new)
    × ((there : ℕ) × SeekMoves {E = Error} (position old) (position new) (bytes old) (Start offset) (Ok there)))

-- a reader that can read no block: it has no memory, or a block of 8,192 bytes at its offset would end past 2^64 - 1
abbrev pub CanReadNoBlock : {R : Type 0} → FileReader R → Type 0
CanReadNoBlock r = (r.block.memory.now ≡ []) ⊎ (2 ^ 64 ≤ r.offset + 8192)
