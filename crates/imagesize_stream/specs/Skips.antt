-- Chunks that end before the next record begins.
use Rattle.std.specs.Prelude.{◌≡◌, ℕ, ◌+◌, ◌<◌, ◌≤◌, min}
use Rattle.imagesize_pieces.specs.declared.stand.Stand.{Stand}
use Rattle.imagesize_records.specs.FirstReads.{ReadsFirst}
use Rattle.imagesize_records.specs.Steps.{step}
use Rattle.imagesize_records.specs.declared.awaited.Awaited.{Awaited}

-- So many more bytes came, all before the next record, which begins within the input. Its first read is the one that misses
-- bytes. The requested span ends where that read does, or with the input.
pub record PassesOver (next : Awaited) (old new : Stand) (count : ℕ) : Type 0 where
  pub passed : new.passed ≡ old.passed + count
  pub start : new.start ≡ old.start
  pub offset : new.offset ≡ old.offset
  pub told : new.told ≡ old.told
  pub here : old.start ≡ old.offset
  pub before : old.passed + count ≤ old.start
  pub within : old.start < old.told
  pub most : ℕ
  pub some : 0 < most
  pub few : most ≤ 132
  pub first : ReadsFirst old.offset most (step next old.offset)
  pub end : new.end ≡ min (old.start + most) old.told
