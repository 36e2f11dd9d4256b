-- What more bytes leave of what the bytes so far tell.
use Rattle.std.proofs.Common.{◌≡◌, ℕ, ◌+◌, ◌-◌, ◌≤◌, Bool, List, ◌++◌, length, take, Option, Some, None, Result, Ok, refl, sym, ap, ◌∙◌, arith}
use Rattle.std.proofs.lemmas.List.{length-append, length-take}
use Rattle.std.specs.Prelude.{IfSome}
use Rattle.std.specs.Result.{result_ok}
use Rattle.imagesize.specs.Meaning.{kind_reads, meaning_reads}
use Rattle.imagesize.specs.Parted.{has_texts, texts_as, texts_of}
use Rattle.imagesize.specs.declared.types.ImageType.{ImageType}
use Rattle.imagesize_pieces.proofs.Beginning.{begins_left}
use Rattle.imagesize_pieces.specs.Stream.{Begins, Says}
use Rattle.imagesize_pieces.specs.declared.stand.Stand.{Stand}
use Rattle.imagesize_source.specs.Layout.{layout_reads}
use Rattle.imagesize_source.specs.Outcome.{stated}
use Rattle.imagesize_source.proofs.Marks.{behind-behind}
use Rattle.imagesize_stream.proofs.Hearing.{opened_behind, type_is}
use Rattle.imagesize_records.proofs.Opened.{opened_rest}
use Rattle.imagesize_records.specs.Steps.{is_text}
use Rattle.imagesize_records.specs.Streamed.{opening}
use Rattle.imagesize_records.specs.declared.awaited.Awaited.{Awaited}
use Rattle.imagesize_records.specs.declared.opening.Opening.TheVariants as opened
use Rattle.imagesize_stream.specs.declared.stage.Stage.{Stage}
use Rattle.imagesize_stream.specs.declared.stage.Stage.TheVariants.{Records}
use Rattle.imagesize_source.specs.Reading.{Reads, uncounted}
use Rattle.imagesize_source.specs.declared.halt.Halt.{Halt}
use Rattle.imagesize_stream.specs.Heard.{SizeIs, TypeIs, TypeMissing}
use Rattle.imagesize_stream.specs.Probe.{CameBy, CameTo, IfAwaiting, texts_by}
use Rattle.imagesize_types.specs.declared.size.ImageSize.{ImageSize}

pub type_on : (front chunk : List ℕ) (told now : ℕ) (kind : Option ImageType) → now ≡ told → TypeIs front told kind
    → TypeIs (front ++ chunk) now kind
type_on front chunk told now kind same is d begins = is d (begins_left front chunk told d (rw same at begins))

pub says_on : (front chunk : List ℕ) (told : ℕ) (kind : Option ImageType) → IfSome kind (λ type. TypeIs front told (Some type))
    → IfSome kind (λ type. TypeIs (front ++ chunk) told (Some type))
says_on front chunk told None says = tt
says_on front chunk told (Some type) says = type_on front chunk told told (Some type) refl says

-- a walk that begins where the first bytes say
pub opened_came : (buffer : List ℕ) (passed start told offset : ℕ) (next : Awaited) (type : ImageType) → start ≡ 0
    → passed ≤ length buffer
    → Says (take passed buffer) told (λ d. kind_reads d 0) (Ok type)
    → Says (take passed buffer) told (λ d. layout_reads d (opening type)) (Ok (opened.Records next offset))
    → is_text next ≡ has_texts type
    → CameBy (Records next) (Some type) start offset passed told buffer (take passed buffer)
opened_came buffer passed start told offset next type first within says size texts = (
  type_is (take passed buffer) told (Ok type) says,
  record {
    as_many = omega (arith, length-take passed buffer, within);
    rest = let all : passed - 0 ≡ passed = omega arith in rw (first, all) refl;
    before = says.marks ++ size.marks;
    resumes = λ d begins.
        opened_behind (take passed buffer) told type says (Ok (opened.Records next offset)) size d begins
        ∙ behind-behind says.marks size.marks (uncounted (opened_rest d (opened.Records next offset)));
  },
  texts,
)

pub awaiting_all : {P : Type 0} (stage : Stage) → P → IfAwaiting stage P
awaiting_all stage p = grind arith

pub awaiting_map : {P Q : Type 0} (stage : Stage) → (P → Q) → IfAwaiting stage P → IfAwaiting stage Q
awaiting_map stage f p = grind arith

pub texts_stated : (r : Result ImageType Halt) → texts_as (stated r) ≡ texts_by (result_ok r)
texts_stated r = grind arith

-- whether an input has texts is known by its type
pub texts_known : (kind : Option ImageType) (front d : List ℕ) (told : ℕ) → TypeIs front told kind → Begins front told d
    → texts_by kind ≡ texts_of d
texts_known kind front d told type begins = ap texts_by (sym (type d begins)) ∙ sym (texts_stated (kind_reads d 0).answer)

-- the records of a walk are texts, or none is, by the type
module _ (kind : Option ImageType) (texts : Bool) (next : Awaited) (old : Stand) (buffer front chunk : List ℕ)
    (is : is_text next ≡ texts) (came : CameTo (Records next) kind old buffer front) where
  pub texts_same : texts_by kind ≡ texts
  texts_same = sym came.2 ∙ is

  -- where the walk ends
  pub walked : (now : ℕ) (size : Result ImageSize Halt) → now ≡ old.told → old.passed + length chunk ≤ old.told
      → Says (front ++ chunk) old.told (λ d. meaning_reads d 0) size
      → TypeIs (front ++ chunk) now kind × SizeIs (front ++ chunk) now size × (length (front ++ chunk) ≤ now)
  walked now size same fits says = (
    type_on front chunk old.told now kind same came.0,
    λ d begins. ap (λ (r : Reads ImageSize). r.answer) (says.is d (rw same at begins)),
    omega (arith, came.1.as_many, length-append front chunk, fits, same),
  )

  pub texts_are : (d : List ℕ) → Begins (front ++ chunk) old.told d → texts ≡ texts_of d
  texts_are d begins = sym texts_same ∙ texts_known kind front d old.told came.0 (begins_left front chunk old.told d begins)

-- where no more bytes come, a type that was missing still is
pub missing_on : (image : Option ImageType) (front none : List ℕ) (told : ℕ) → length none ≡ 0
    → TypeMissing image front told → TypeMissing image (front ++ none) told
missing_on None front none told empty rests = λ d begins as_long below.
    rests d (begins_left front none told d begins) as_long
    (λ p here. let early = below p here in omega (arith, early, length-append front none, empty))
missing_on (Some type) front none told empty rests = tt
