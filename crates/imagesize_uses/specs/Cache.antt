-- What a cache keeps of an input.
use Rattle.std.specs.Prelude.{◌≡◌, ℕ, List, length}
use Rattle.imagesize.specs.Meaning.{meaning}
use Rattle.imagesize.specs.Traced.{IsSame, Traces}
use Rattle.imagesize_source.specs.Agreement.{Agrees}
use Rattle.imagesize_source.specs.Known.{bytes_of}
use Rattle.imagesize_uses.specs.declared.cache.Kept.{Kept}

-- The input's length, type, size and spans are kept, and the bytes in the spans. Each other input that agrees on the
-- spans is the same.
pub record IsKept {A : Type 0} (d : List ℕ) (kept : Kept A) : Type 0 where
  pub as_long : kept.length ≡ length d
  pub traces : Traces d kept.trace
  pub bytes : kept.bytes.items ≡ bytes_of d kept.trace.spans.items
  pub local : (e : List ℕ) → Agrees d e (meaning d 0).marks → IsSame d e
