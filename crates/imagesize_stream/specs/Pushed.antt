-- Which bytes of an image arrived, and the result, as a probe keeps them.
use Rattle.std.specs.Prelude.{◌≡◌, ℕ, ◌+◌, ◌-◌, ◌≤◌, List, ◌++◌, length, take, Option, None, Some, IfSome, Result}
use Rattle.imagesize.specs.declared.types.ImageType.{ImageType}
use Rattle.imagesize_source.specs.Outcome.{stated}
use Rattle.imagesize_source.specs.declared.error.ImageError.{ImageError}
use Rattle.imagesize_stream.specs.Given.{HasPart, IsGiven, MayBeAt}
use Rattle.imagesize_stream.specs.Heard.{RestsOnMore}
use Rattle.imagesize_stream.specs.Probe.{CameTo, IfAwaiting, IsAhead, TypedBy}
use Rattle.imagesize_stream.specs.declared.probe.StreamProbe.{StreamProbe}
use Rattle.imagesize_stream.specs.declared.stage.Stage.{Stage}
use Rattle.imagesize_stream.specs.declared.stage.Stage.TheVariants.{Done}
use Rattle.imagesize_types.specs.declared.size.ImageSize.{ImageSize}

-- these bytes arrived
abbrev pub Came : StreamProbe → List ℕ → Type 0
Came probe front = CameTo probe.stage probe.kind probe.stand probe.buffer front

-- how many bytes the input has at most
abbrev pub told_of : StreamProbe → ℕ
told_of probe = probe.stand.told

abbrev pub stage_answer : Option ImageType → Stage → Option (Option ImageType × Result ImageSize ImageError)
stage_answer kind (Done size) = Some (kind, stated size)
stage_answer kind _ = None

-- the type and the size, once they are known
abbrev pub answer_of : StreamProbe → Option (Option ImageType × Result ImageSize ImageError)
answer_of probe = stage_answer probe.kind probe.stage

-- a probe after a call that kept and counted no bytes
abbrev pub KeepsNothing : StreamProbe → StreamProbe → Type 0
KeepsNothing old new = (new.stand ≡ old.stand) × (new.buffer ≡ old.buffer)

-- A probe after a chunk. Bytes past the reported length do not count. A result stays, and after it nothing is kept or counted.
-- Each clause over `front` holds for each list of bytes that may have arrived before. The last one holds for each input that has
-- the parts so far and this chunk.
pub record TakesIn (old new : StreamProbe) (chunk : List ℕ) : Type 0 where
  pub told : told_of new ≡ told_of old
  pub ahead : IsAhead new.stage new.stand
  pub passed : IfAwaiting new.stage (new.stand.passed ≡ old.stand.passed + length (take (old.stand.told - old.stand.passed) chunk))
  pub keeps : IfSome (answer_of old) (λ answer. answer_of new ≡ Some answer)
  pub idle : IfSome (answer_of old) (λ _. KeepsNothing old new)
  pub goes_on : (front : List ℕ) → Came old front → Came new (front ++ take (told_of old - length front) chunk)
  pub complete : IfAwaiting new.stage ((front : List ℕ) → Came old front
      → RestsOnMore (front ++ take (told_of old - length front) chunk) (told_of old))
  pub whole : IfAwaiting new.stage ((front : List ℕ) → Came old front → told_of old ≤ length front + length chunk → ⊥)
  pub typed : (front : List ℕ) → Came old front
      → TypedBy new.stage new.kind (front ++ take (told_of old - length front) chunk) (told_of old)
  pub parts : (d : List ℕ) → IsGiven old.stage old.kind old.stand old.buffer d → HasPart d old.stand.passed chunk
      → MayBeAt new.stage new.kind new.stand new.buffer d
