-- What a cursor over bytes does is what a reader that tells its bytes owes.
use Rattle.std.proofs.Common.{◌≡◌, ℕ, ◌+◌, ◌-◌, min, false, length, drop, ◌++◌, Some, Ok, List, ap, ◌∙◌, arith}
use Rattle.imagesize_source.specs.Input.{part}
use Rattle.imagesize_io.specs.Telling.{Telling, ReadGives}
use Rattle.imagesize_source.proofs.Slices.{front_is}
use Rattle.imagesize_source.proofs.Parts.{part_whole}

-- the cursor over bytes at an offset, as a reader that tells them
abbrev pub cursor_at : List ℕ → ℕ → Telling
cursor_at d p = record { bytes = d; offset = p; can_fail = false; interruptions = 0 }

-- a read that copied what is there of a buffer's bytes
pub read_cursor : (d bytes after buffer old : List ℕ) (p offset q n : ℕ) → bytes ≡ d → offset ≡ p → after ≡ d
    → q ≡ offset + n
    → n ≡ min (length old) (length bytes - offset) → buffer ≡ part bytes offset (length old) ++ drop n old
    → length buffer ≡ length old
    → ReadGives (cursor_at d p) (Some (cursor_at after q)) buffer (Ok n)
read_cursor d bytes after buffer old p offset q n is at same e count copied kept =
    let long : length bytes ≡ length d = ap length is in (
      cc,
      front_is bytes buffer old offset n count copied kept ∙ ap (part bytes offset) kept
          ∙ part_whole bytes offset (length old) n count
          ∙ ap (λ b. part b offset n) is ∙ ap (λ k. part d k n) at,
      omega arith,
      λ has_buffer before. omega arith,
    )
