-- What came of an input from an offset on, as one part.
use Rattle.std.proofs.Common.{◌≡◌, ℕ, ◌+◌, ◌-◌, ◌<◌, ◌≤◌, true, false, List, ◌++◌, length, drop, get_or, Some, is_some, ap, arith}
use Rattle.std.proofs.lemmas.Bool.Decides.{nat_tests}
use Rattle.std.proofs.lemmas.List.{length-append, length-drop, get_or-append_right, get_or_append_left, get_or-drop}
use Rattle.imagesize_pieces.specs.Stream.{byte_at, run_at}

module _ (n start : ℕ) (kept chunk : List ℕ) where
  -- an offset is known where its byte came
  pub came_at : (offset : ℕ) → start + (length kept + length chunk) ≤ n → start ≤ offset
      → offset < start + (length kept + length chunk)
      → byte_at n start kept chunk offset ≡ Some (get_or (kept ++ chunk) (offset - start) 0)
  came_at offset fits above below = grind (arith, nat_tests, length-append {A = ℕ})

  -- and nowhere else
  pub not_behind : (offset : ℕ) → start + (length kept + length chunk) ≤ offset
      → is_some (byte_at n start kept chunk offset) ≡ false
  not_behind offset above = grind (arith, nat_tests)

  pub known_within : (offset : ℕ) → is_some (byte_at n start kept chunk offset) ≡ true
      → (start ≤ offset) × (offset < start + (length kept + length chunk))
  known_within offset is = (grind (arith, nat_tests), grind (arith, nat_tests))

  pub unknown_behind : (offset : ℕ) → start + (length kept + length chunk) ≤ n
      → is_some (byte_at n start kept chunk offset) ≡ false → start ≤ offset
      → start + (length kept + length chunk) ≤ offset
  unknown_behind offset fits none above = grind (arith, nat_tests, length-append {A = ℕ})

  -- the bytes that were kept, from an offset on
  pub kept_known : (run : List ℕ) (offset i : ℕ) → start + length kept + length chunk ≤ n → start ≤ offset
      → offset - start < length kept
      → run ≡ drop (offset - start) kept → i < length run
      → byte_at n start kept chunk (offset + i) ≡ Some (get_or run i 0)
  kept_known run offset i fits above below is within =
      let long = ap length is in
      grind (arith, nat_tests, length-append {A = ℕ}, length-drop {A = ℕ}, get_or_append_left {A = ℕ}, get_or-drop {A = ℕ})

  -- and those after them
  pub chunk_known : (run : List ℕ) (offset i : ℕ) → start + length kept + length chunk ≤ n → start ≤ offset
      → length kept ≤ offset - start
      → run ≡ drop (offset - start - length kept) chunk → i < length run
      → byte_at n start kept chunk (offset + i) ≡ Some (get_or run i 0)
  chunk_known run offset i fits above behind is within =
      let long = ap length is in
      grind (arith, nat_tests, length-append {A = ℕ}, length-drop {A = ℕ}, get_or-append_right {X = ℕ}, get_or-drop {A = ℕ})

  -- behind the last bytes of the chunk none is known
  pub last_none : (run : List ℕ) (offset : ℕ) → start ≤ offset → length kept ≤ offset - start → run ≡ run_at start kept chunk offset
      → is_some (byte_at n start kept chunk (offset + length run)) ≡ false
  last_none run offset above behind is =
      let long = ap length is in
      not_behind (offset + length run) (grind (arith, nat_tests, length-drop {A = ℕ}))

  -- known bytes reach at least as far as the kept ones
  pub run_ends : (run : List ℕ) (offset : ℕ) → run ≡ run_at start kept chunk offset → 0 < length run
      → (start ≤ offset) × (start + length kept ≤ offset + length run)
  run_ends run offset is some =
      let long = ap length is in
      (grind (arith, nat_tests, length-drop {A = ℕ}), grind (arith, nat_tests, length-drop {A = ℕ}))
