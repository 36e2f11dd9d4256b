-- What came into a push parser, and what the calls over it write.
use Rattle.std.specs.Prelude.{◌≡◌, ℕ, ◌-◌, ◌^◌, ◌++◌, List, [], length, take, min, Option, None, Some, IfSome, Result}
use Rattle.imagesize.specs.declared.types.ImageType.{ImageType}
use Rattle.imagesize_c.specs.Status.{status_of}
use Rattle.imagesize_c.specs.Told.{TellsSize, TellsType}
use Rattle.imagesize_pieces.specs.Stream.{Begins}
use Rattle.imagesize_source.specs.declared.error.ImageError.{ImageError}
use Rattle.imagesize_stream.specs.Pushed.{Came, answer_of, told_of}
use Rattle.imagesize_stream.specs.declared.probe.StreamProbe.{StreamProbe}
use Rattle.imagesize_types.specs.declared.size.ImageSize.{ImageSize}

-- No byte came, of an input of this length. A length of 2^63 or more is taken for the greatest one.
abbrev pub Begun : StreamProbe → ℕ → Type 0
Begun probe total = (told_of probe ≡ min total (2 ^ 63 - 1)) × Came probe []

-- the bytes that came and those of a chunk, without what lies past the length of the input
abbrev pub with_chunk : StreamProbe → List ℕ → List ℕ → List ℕ
with_chunk probe front chunk = front ++ take (told_of probe - length front) chunk

-- for the bytes that came, those of the chunk among them, and for each input that begins with them
abbrev pub OfEach : StreamProbe → List ℕ → (List ℕ → List ℕ → Type 0) → Type 0
OfEach probe chunk P = (front : List ℕ) → Came probe front → (d : List ℕ)
    → Begins (with_chunk probe front chunk) (told_of probe) d → P (with_chunk probe front chunk) d

-- The chunk came after the bytes that came before. The length stays, and so does a result.
pub record GoesOn (old new : StreamProbe) (chunk : List ℕ) : Type 0 where
  pub told : told_of new ≡ told_of old
  pub came : (front : List ℕ) → Came old front → Came new (with_chunk old front chunk)
  pub keeps : IfSome (answer_of old) (λ answer. answer_of new ≡ Some answer)

-- The status of a result, with its type and its size. Without a result more bytes are needed, and nothing is written.
abbrev pub TellsProbed : Option (Option ImageType × Result ImageSize ImageError) → ℕ → ℕ → ℕ → ℕ → ℕ → ℕ → ℕ → ℕ → ℕ → Type 0
TellsProbed None status a number c compression w width h height =
    (status ≡ 30) × (number ≡ a) × (compression ≡ c) × (width ≡ w) × (height ≡ h)
TellsProbed (Some (kind, size)) status a number c compression w width h height =
    (status ≡ status_of size) × TellsType kind a number c compression × TellsSize size w width h height
