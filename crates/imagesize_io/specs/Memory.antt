-- A reader whose bytes lie in memory, and such a reader as a source.
use Rattle.std.specs.Prelude.{◌≡◌, ℕ, ◌+◌, ◌-◌, ◌<◌, false, true, List, length, Option, None, Some, IsSomeAnd}
use Rattle.imagesize_source.specs.Errors.{end_of_input}
use Rattle.imagesize_source.specs.Limits.{allowance}
use Rattle.imagesize_source.specs.State.{State, Reader, front_after, new_bytes, place_after}
use Rattle.imagesize_io.specs.Telling.{Telling}

-- the reader has these bytes, its calls cannot fail, and none of its reads is interrupted
abbrev pub IsMemory : Option Telling → List ℕ → Type 0
IsMemory telling bytes = IsSomeAnd telling (λ t. (t.bytes ≡ bytes) × (t.can_fail ≡ false) × (t.interruptions ≡ 0))

-- The bytes of a reader in memory as a source that counts. It holds the first `front` bytes, and may read `left` more.
-- `place` is where its reader is left.
abbrev pub counting_state : List ℕ → ℕ → ℕ → ℕ → State
counting_state bytes front left place = record {
  frame = record {
    told = length bytes;
    budget = length bytes + allowance;
    counts = true;
    backing = Reader 0 None (Some (record { bytes = bytes; can_fail = false; interruptions = Some 0 }));
  };
  held = record { honest = true; input = bytes; can_fail = false };
  front = front;
  taken = (length bytes + allowance) - left;
  place = place;
  recorded = None;
  missed = None;
  failure = end_of_input;
  failed = Some None;
}

-- n bytes from an offset on were counted
pub record IsPaid (front left place front' left' place' offset n : ℕ) : Type 0 where
  pub held : front' ≡ front_after front offset n
  pub paid : left' + new_bytes front offset n ≡ left
  pub moved : place' ≡ place_after front place offset n

-- the budget does not have n bytes from an offset on, and all of it is spent
abbrev pub IsSpent : ℕ → ℕ → ℕ → ℕ → ℕ → Type 0
IsSpent front left left' offset n = (left' ≡ 0) × (left < new_bytes front offset n)
