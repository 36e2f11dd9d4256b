-- How a probe ends: what it tells where all bytes came.
use Rattle.std.proofs.Common.{◌≡◌, ℕ, zero, suc, ◌+◌, ◌-◌, ◌≤◌, List, [], ◌∷◌, ◌++◌, length, take, Option, None, Some, Result, IfSome, refl, ap, arith}
use Rattle.std.proofs.lemmas.List.{append-nil, length-append, length-take}
use Rattle.std.specs.Result.{result_ok}
use Rattle.imagesize.specs.Meaning.{kind_reads, meaning_reads}
use Rattle.imagesize.specs.declared.types.ImageType.{ImageType}
use Rattle.imagesize_pieces.proofs.Beginning.{begins_all}
use Rattle.imagesize_pieces.specs.Stream.{AllBelow, Begins}
use Rattle.imagesize_pieces.specs.declared.stand.Stand.{Stand}
use Rattle.imagesize_source.specs.Outcome.{stated}
use Rattle.imagesize_source.specs.declared.error.ImageError.{ImageError}
use Rattle.imagesize_source.specs.declared.halt.Halt.{Halt}
use Rattle.imagesize_stream.specs.Heard.{RestsOnMore}
use Rattle.imagesize_stream.specs.Probe.{CameBy, CameTo, HoldsAt, IfAwaiting, TypedBy}
use Rattle.imagesize_stream.specs.Pushed.{stage_answer}
use Rattle.imagesize_stream.specs.declared.stage.Stage.{Stage}
use Rattle.imagesize_stream.specs.declared.stage.Stage.TheVariants.{Done, Records}
use Rattle.imagesize_types.specs.declared.size.ImageSize.{ImageSize}

-- where there is no answer
pub awaiting_none : {P : Type 0} (kind : Option ImageType) (stage : Stage) → stage_answer kind stage ≡ None
    → IfAwaiting stage P → P
awaiting_none kind stage none p = grind arith

-- as many bytes came as are counted
pub as_many : (kind : Option ImageType) (stage : Stage) (stand : Stand) (buffer front : List ℕ) → stage_answer kind stage ≡ None
    → 132 ≤ length buffer → HoldsAt stage stand → CameTo stage kind stand buffer front → stand.passed ≡ length front
as_many kind stage stand buffer front none enough holds came = grind (arith, length-take {A = ℕ})

begins_last : (front d : List ℕ) (passed told : ℕ) → passed ≤ told → Begins front passed d → Begins front told d
begins_last front d passed told within begins =
    record { first = begins.first; fits = let few = begins.fits in omega (arith, few, within) }

-- the same where the input is told to end with them
pub came_last : (kind : Option ImageType) (stage : Stage) (stand : Stand) (buffer front : List ℕ) → stage_answer kind stage ≡ None
    → CameTo stage kind stand buffer front → CameBy stage kind stand.start stand.offset stand.passed stand.passed buffer front
came_last kind (Records next) stand buffer front none came = (
  (λ d begins. came.0 d (begins_last front d stand.passed stand.told stand.fits begins)),
  record {
    as_many = came.1.as_many;
    rest = came.1.rest;
    before = came.1.before;
    resumes = λ d begins. came.1.resumes d (begins_last front d stand.passed stand.told stand.fits begins);
  },
  came.2,
)
came_last kind stage stand buffer front none came = let within = stand.fits in grind (arith, begins_last)

ok_stated : (r : Result ImageType Halt) → result_ok r ≡ result_ok (stated r)
ok_stated r = grind arith

-- the bytes so far, where no more come
begins_whole : (front none : List ℕ) (told : ℕ) → length none ≡ 0 → length front ≤ told
    → Begins (front ++ none) told front
begins_whole front [] told empty fits = rw (append-nil front) (begins_all front told fits)
begins_whole front (x ∷ none) told empty fits = absurd (omega (arith, empty))

-- nothing is missed of what was cut at the told length
pub rests_cut : (front chunk cut : List ℕ) (passed told : ℕ) → passed ≡ length front → cut ≡ take (told - passed) chunk
    → RestsOnMore (front ++ cut) told → RestsOnMore (front ++ take (told - length front) chunk) told
rests_cut front chunk cut passed told many is rests = rw (is, many) at rests

pub rests_below : (front chunk : List ℕ) (told : ℕ) → RestsOnMore (front ++ chunk) told → (d : List ℕ)
    → Begins (front ++ chunk) told d → length d ≡ told
    → AllBelow (length front + length chunk) (meaning_reads d 0).marks → ⊥
rests_below front chunk told rests d begins as_long below =
    rests d begins as_long (λ p here. omega (arith, below p here, length-append front chunk))

-- an answer is that of the input that begins so
pub tells_all : (kind : Option ImageType) (stage : Stage) (stand : Stand) (was : ℕ) (buffer front : List ℕ)
    (answer : Option (Option ImageType × Result ImageSize ImageError)) → answer ≡ stage_answer kind stage → stand.told ≡ was
    → CameTo stage kind stand buffer front
    → IfSome answer (λ a. (d : List ℕ) → Begins front was d
    → (a.0 ≡ result_ok (stated (kind_reads d 0).answer)) × (a.1 ≡ stated (meaning_reads d 0).answer))
tells_all kind stage stand was buffer front answer is same came = let here = rw same at came in
    grind (arith, ok_stated)

-- the answer where no more bytes come
pub finished : (kind : Option ImageType) (stage : Stage) (stand : Stand) (buffer front none : List ℕ)
    (answer : Option ImageType × Result ImageSize ImageError) → Some answer ≡ stage_answer kind stage
    → CameTo stage kind stand buffer (front ++ none) → length none ≡ 0 → length front ≤ stand.told
    → (answer.0 ≡ result_ok (stated (kind_reads front 0).answer)) × (answer.1 ≡ stated (meaning_reads front 0).answer)
finished kind stage stand buffer front none answer is came empty fits =
    let begins = begins_whole front none stand.told empty fits in grind (arith, ok_stated)

take_both : (n : ℕ) (xs ys : List ℕ) → take n (xs ++ ys) ≡ take n xs ++ take (n - length xs) ys
take_both zero xs ys = let e : 0 - length xs ≡ 0 = omega arith in rw e refl
take_both (suc n) [] ys = let e : suc n - 0 ≡ suc n = omega arith in rw e refl
take_both (suc n) (x ∷ xs) ys = let e : suc n - suc (length xs) ≡ n - length xs = omega arith in
    rw e (ap (λ zs. x ∷ zs) (take_both n xs ys))

-- the first bytes of two pieces, of which so many are told
pub both_pieces : (told was then : ℕ) (first second : List ℕ) → was ≡ told → then ≡ told
    → ([] ++ take (was - length {A = ℕ} []) first) ++ take
    (then - length ([] ++ take (was - length {A = ℕ} []) first)) second ≡ take told (first ++ second)
both_pieces told was then first second is also =
    let all : was - length {A = ℕ} [] ≡ told = omega (arith, is) in
    let rest : then - length (take told first) ≡ told - length first = omega (arith, also, length-take told first) in
    rw (all, rest, take_both told first second) refl

-- an input whose type is not known by these bytes, though it depends on them alone, has none
pub type_complete : (kind : Option ImageType) (stage : Stage) (stand : Stand) (was : ℕ) (buffer front d : List ℕ)
    → kind ≡ None → stand.told ≡ was → CameTo stage kind stand buffer front → TypedBy stage kind front was
    → Begins front was d → length d ≡ was → AllBelow (length front) (kind_reads d 0).marks
    → result_ok (stated (kind_reads d 0).answer) ≡ None
type_complete kind stage stand was buffer front d none same came typed begins as_long below =
    let here = rw same at came in grind (arith, ok_stated)

-- where there is no answer, nothing is said of one
pub never_done : (P : Type 0) (kind : Option ImageType) (stage : Stage)
    → ((size : Result ImageSize Halt) → stage ≡ Done size → ⊥) → IfSome (stage_answer kind stage) (λ _. P)
never_done P kind stage never = grind arith
