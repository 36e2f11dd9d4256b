-- Texts whose end has not arrived.
use Rattle.std.specs.Prelude.{◌≡◌, ℕ, ◌+◌, ◌-◌, ◌<◌, ◌++◌, max, min, false, List, length, take, drop}
use Rattle.imagesize_pieces.specs.declared.stand.Stand.{Stand}
use Rattle.imagesize_source.specs.Text.{is_ended}
use Rattle.imagesize_source.specs.declared.text.Text.{Text}

-- These bytes arrived too. Those from the next record's offset on are kept. They belong to the text there, which has fewer than
-- `most` bytes so far. Neither they nor the bytes kept before end it. The input has more bytes.
pub record KeepsPending (text : Text) (most : ℕ) (old new : Stand) (buffer after chunk : List ℕ) : Type 0 where
  pub passed : new.passed ≡ old.passed + length chunk
  pub start : new.start ≡ old.start
  pub offset : new.offset ≡ old.offset
  pub told : new.told ≡ old.told
  pub end : new.end ≡ min (old.start + most) old.told
  pub here : old.start ≡ old.offset
  pub more : max new.passed new.start < old.told
  pub few : new.passed - new.start < most
  pub kept : take (new.passed - new.start) after ≡ take (old.passed - old.start) buffer ++ drop (old.start - old.passed) chunk
  pub unended : is_ended text (take (new.passed - new.start) after) ≡ false
