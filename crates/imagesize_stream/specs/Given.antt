-- An input whose parts are given in rounds: what is known of it.
use Rattle.std.specs.Prelude.{◌≡◌, ℕ, ◌-◌, List, length, drop, take, Option}
use Rattle.std.specs.Result.{result_ok}
use Rattle.imagesize.specs.Meaning.{kind_reads, meaning_reads}
use Rattle.imagesize.specs.Parted.{texts_of}
use Rattle.imagesize.specs.declared.types.ImageType.{ImageType}
use Rattle.imagesize_pieces.specs.Stream.{AllBelow}
use Rattle.imagesize_pieces.specs.declared.stand.Stand.{Stand}
use Rattle.imagesize_source.specs.Input.{part}
use Rattle.imagesize_stream.specs.Heard.{IsByFooter}
use Rattle.imagesize_stream.specs.Probe.{CameBy, IfAwaiting, MarkedBy}
use Rattle.imagesize_stream.specs.declared.stage.Stage.{Stage}
use Rattle.imagesize_stream.specs.declared.stage.Stage.TheVariants.{Done, Footer}

-- the input has these bytes from an offset on; bytes past its end do not count
abbrev pub HasPart : List ℕ → ℕ → List ℕ → Type 0
HasPart d offset bytes = take (length d - offset) bytes ≡ part d offset (length bytes)

-- What is known of the input, by the stage. The first bytes that are needed came. For a footer, the buffer has those of the last 18.
abbrev pub KnownBy : Stage → Option ImageType → ℕ → ℕ → ℕ → ℕ → List ℕ → List ℕ → Type 0
KnownBy (Footer size) kind start offset passed told buffer d =
    IsByFooter size d × (drop (told - passed) (take 18 buffer) ≡ drop (told - 18) (take passed d))
KnownBy (Done size) kind start offset passed told buffer d =
    (result_ok (kind_reads d 0).answer ≡ kind) × ((meaning_reads d 0).answer ≡ size)
KnownBy stage kind start offset passed told buffer d = CameBy stage kind start offset passed told buffer (take passed d)

-- the input may be this one, by its length and the parts that were given
pub record IsGiven (stage : Stage) (kind : Option ImageType) (stand : Stand) (buffer d : List ℕ) : Type 0 where
  pub as_long : length d ≡ stand.told
  pub known : KnownBy stage kind stand.start stand.offset stand.passed stand.told buffer d

-- and depends on more, while there is no answer
pub record MayBeAt (stage : Stage) (kind : Option ImageType) (stand : Stand) (buffer d : List ℕ) : Type 0 where
  pub given : IsGiven stage kind stand buffer d
  pub depends : IfAwaiting stage (AllBelow stand.passed (meaning_reads d 0).marks → ⊥)
  pub marked : MarkedBy (texts_of d) stage stand.start stand.passed stand.end (meaning_reads d 0).marks
