-- What an upload gate was fed, and its verdict.
use Rattle.std.specs.Prelude.{◌≡◌, ℕ, ◌-◌, ◌^◌, false, List, min, Option, Some, Result, option_map, unwrap_or, flat_map}
use Rattle.std.specs.Borrow.{Bor}
use Rattle.imagesize.specs.Meaning.{meaning}
use Rattle.imagesize.specs.declared.types.ImageType.{ImageType}
use Rattle.imagesize_io.specs.Telling.{IsHonest, Telling}
use Rattle.imagesize_source.specs.declared.error.ImageError.{ImageError}
use Rattle.imagesize_stream.specs.Pushed.{Came, answer_of, told_of}
use Rattle.imagesize_types.specs.declared.size.ImageSize.{ImageSize}
use Rattle.imagesize_uses.specs.Gate.{Admits, gate_verdict}
use Rattle.imagesize_uses.specs.declared.gate.Admission.{Admission}
use Rattle.imagesize_uses.specs.declared.gate.Rejection.{Rejection}
use Rattle.imagesize_uses.specs.declared.upload.UploadGate.{UploadGate}

-- these bytes were fed
abbrev pub Fed : UploadGate → List ℕ → Type 0
Fed gate front = Came gate.probe front

-- how many bytes of the upload count at most
abbrev pub byte_limit : UploadGate → ℕ
byte_limit gate = told_of gate.probe

-- the same by the limit that the caller has, if it has one
abbrev pub limit_by : Option ℕ → ℕ
limit_by most_bytes = min (unwrap_or most_bytes (2 ^ 63 - 1)) (2 ^ 63 - 1)

-- the verdict on the image in these bytes
abbrev pub verdict_on : ℕ → List ℕ → Result ImageSize Rejection
verdict_on most d = gate_verdict most (meaning d 0).answer

-- the verdict, once it is known
abbrev pub verdict_of : UploadGate → Option (Result ImageSize Rejection)
verdict_of gate =
    option_map (λ (answer : Option ImageType × Result ImageSize ImageError). gate_verdict gate.most_pixels answer.1) (answer_of gate.probe)

-- the bytes of the chunks, one chunk after another
abbrev pub joined : List (Bor (List ℕ)) → List ℕ
joined chunks = flat_map (λ chunk. chunk.now) chunks

-- `admit` returns this verdict over each honest reader that has these bytes from its start on, if no call can fail
abbrev pub IsOfAdmit : ℕ → List ℕ → Result ImageSize Rejection → Type 0
IsOfAdmit most d verdict = (t : Telling) (admission : Admission) → IsHonest t → t.can_fail ≡ false
    → t.bytes ≡ d → t.offset ≡ 0 → Admits (Some t) most admission → admission.verdict ≡ verdict
