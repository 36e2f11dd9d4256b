-- What is known about an input that is fetched.
use Rattle.std.specs.Prelude.{◌≡◌, ℕ, ◌<◌, min, Option, Result, Ok, Err, IsSomeAnd, IsOkAnd, List, length, if◌then◌else◌}
use Rattle.std.specs.Result.{result_ok}
use Rattle.std.specs.declared.io.Error.{Error}
use Rattle.imagesize.specs.Meaning.{kind_of, meaning}
use Rattle.imagesize.specs.Parted.{texts_of}
use Rattle.imagesize_uses.specs.declared.remote.Interrupted.{Interrupted}
use Rattle.imagesize_uses.specs.declared.remote.Interrupted.TheVariants.{Failed, Short}
use Rattle.imagesize_uses.specs.declared.remote.Probed.{Probed}

-- a fetch of this many bytes, and how many came, or why none did
pub record Fetch : Type 0 where
  pub wanted : ℕ
  pub gave : Result ℕ Error

-- the type and the size are those of the input
pub record IsOf (d : List ℕ) (probed : Probed) : Type 0 where
  pub kind : probed.kind ≡ result_ok (kind_of d 0).answer
  pub answer : probed.answer ≡ (meaning d 0).answer

-- what ended it is the last fetch, which failed or returned too few bytes
abbrev pub Stops : {X : Type 0} → Option Fetch → Result X Interrupted → Type 0
Stops last (Ok _) = Unit {0}
Stops last (Err (Failed error)) = IsSomeAnd last (λ fetch. fetch.gave ≡ Err error)
Stops last (Err Short) = IsSomeAnd last (λ fetch. IsOkAnd fetch.gave (λ count. count < fetch.wanted))

-- the most that one fetch requests: 1,024 bytes in a text format, 132 in any other, or the whole input
abbrev pub most_at_once : List ℕ → ℕ
most_at_once d = min (if texts_of d then 1024 else 132) (length d)
