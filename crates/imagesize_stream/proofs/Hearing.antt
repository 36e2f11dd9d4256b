-- What the first bytes say of every image that begins with them.
use Rattle.std.proofs.Common.{◌≡◌, ℕ, Bool, ◌-◌, ◌<◌, ◌≤◌, leb, List, [], ◌++◌, length, true, false, None, Result, Ok, Err, refl, sym, ap, ◌∙◌, subst, arith}
use Rattle.std.proofs.lemmas.Bool.Decides.{nat_tests}
use Rattle.std.specs.List.{list_any}
use Rattle.std.specs.Result.{result_ok}
use Rattle.imagesize.specs.Meaning.{kind_reads, meaning_reads, size_reads}
use Rattle.imagesize.specs.Parted.{has_texts, texts_as, texts_of}
use Rattle.imagesize.specs.declared.types.ImageType.{ImageType}
use Rattle.imagesize_pieces.specs.Stream.{Begins, Needs, Says}
use Rattle.imagesize_pieces.proofs.Beginning.{begins_all}
use Rattle.imagesize_pieces.proofs.Needing.{needs_any, needs_texts, onward_any}
use Rattle.imagesize_source.specs.Layout.{layout_reads}
use Rattle.imagesize_source.specs.Reading.{Reads, and_then, bytes_at, go_on, put_behind, uncounted}
use Rattle.imagesize_source.specs.declared.halt.Halt.{Halt}
use Rattle.imagesize_source.specs.declared.halt.Halt.TheVariants.{Ended}
use Rattle.imagesize_source.specs.declared.span.Span.{Span}
use Rattle.imagesize_source.proofs.Among.{any_right}
use Rattle.imagesize_source.specs.Outcome.{stated}
use Rattle.imagesize_records.proofs.Firsts.{type_by_first}
use Rattle.imagesize_records.proofs.Opened.{opened_as, opened_rest}
use Rattle.imagesize_records.proofs.Saying.{OpensSteady, opening_steady}
use Rattle.imagesize_source.proofs.Saying.{saying}
use Rattle.imagesize_stream.specs.Heard.{RestsBetween, RestsOnMore, SizeIs, TypeIs, TypeRests}
use Rattle.imagesize_records.specs.Steps.{IsSteady, is_text}
use Rattle.imagesize_records.specs.Streamed.{first_layout, opening, type_behind}
use Rattle.imagesize_records.specs.declared.awaited.Awaited.{Awaited}
use Rattle.imagesize_records.specs.declared.opening.First.{First}
use Rattle.imagesize_records.specs.declared.opening.First.TheVariants as first
use Rattle.imagesize_records.specs.declared.opening.Opening.{Opening}
use Rattle.imagesize_records.specs.declared.opening.Opening.TheVariants as opened
use Rattle.imagesize_types.specs.declared.size.ImageSize.{ImageSize}

first_short : (d : List ℕ) → length d < 12 → (layout_reads d first_layout).answer ≡ Err Ended
unfolding bytes_at
first_short d few = let no : leb 12 (length d - 0) ≡ false = grind (arith, nat_tests) in rw no refl

-- what holds of a mark of the first bytes holds of one of the type, and of one of all
kind_any : (d : List ℕ) (P : Span → Bool) → list_any P (layout_reads d first_layout).marks ≡ true
    → list_any P (kind_reads d 0).marks ≡ true
kind_any d P here = rw (type_by_first d)
    (onward_any (layout_reads d first_layout).marks (layout_reads d first_layout).answer (type_behind d) P here)

pub meaning_any : (d : List ℕ) (P : Span → Bool) → list_any P (kind_reads d 0).marks ≡ true
    → list_any P (meaning_reads d 0).marks ≡ true
unfolding meaning_reads
meaning_any d P here = onward_any (kind_reads d 0).marks (kind_reads d 0).answer (λ found. size_reads found d) P here

module _ (front : List ℕ) (told : ℕ) where
  -- the type
  pub kind_behind : (r : Result First Halt) (says : Says front told (λ d. layout_reads d first_layout) r) (d : List ℕ)
      → Begins front told d → uncounted (kind_reads d 0) ≡ uncounted (go_on says.marks r (type_behind d))
  kind_behind r says d begins =
      ap uncounted (type_by_first d) ∙ ap (λ w. uncounted (and_then w (type_behind d))) (says.is d begins)

  pub type_said : (type : ImageType) → Says front told (λ d. layout_reads d first_layout) (Ok (first.Type type))
      → Says front told (λ d. kind_reads d 0) (Ok type)
  type_said type says = record { marks = says.marks ++ []; is = kind_behind (Ok (first.Type type)) says }

  pub type_is : (r : Result ImageType Halt) → Says front told (λ d. kind_reads d 0) r → TypeIs front told (result_ok r)
  type_is r says = λ d begins. ap (λ (w : Reads ImageType). result_ok w.answer) (says.is d begins)

  -- no type is found
  pub kind_refused : (e : Halt) → Says front told (λ d. kind_reads d 0) (Err e)
      → TypeIs front told None × SizeIs front told (Err e)
  unfolding meaning_reads
  kind_refused e says = (
    type_is (Err e) says,
    λ d begins. ap (λ r. (and_then r (λ found. size_reads found d)).answer) (says.is d begins),
  )

  pub type_refused : (e : Halt) → Says front told (λ d. layout_reads d first_layout) (Err e)
      → TypeIs front told None × SizeIs front told (Err e)
  type_refused e says = kind_refused e (record { marks = says.marks; is = kind_behind (Err e) says })

  -- where a byte after these is needed, they do not suffice
  pub rests_more : (high : ℕ) → RestsBetween (length front) high front told → RestsOnMore front told
  rests_more high asked d begins as_long below =
      let needs = asked d begins as_long in omega (arith, below needs.0.0 needs.0.3, needs.0.1)

  pub type_asked : (high : ℕ) → ((d : List ℕ) → Begins front told d → length d ≡ told
      → Needs false (length front) high (layout_reads d first_layout).marks) → TypeRests front told
  type_asked high some d begins as_long below =
      let needs = needs_any false (length front) high _ (kind_reads d 0).marks (kind_any d) (some d begins as_long) in
      omega (arith, below needs.0.0 needs.0.3, needs.0.1)

  pub first_asked : (high : ℕ) → ((d : List ℕ) → Begins front told d → length d ≡ told
      → Needs false (length front) high (layout_reads d first_layout).marks) → RestsBetween (length front) high front told
  first_asked high some d begins as_long =
      needs_texts (texts_of d) (length front) high (meaning_reads d 0).marks
      (needs_any false (length front) high (layout_reads d first_layout).marks (meaning_reads d 0).marks
      (λ P here. meaning_any d P (kind_any d P here)) (some d begins as_long))

  -- no fewer than twelve bytes say a type
  pub first_typed : length front ≤ told → (x : First) → Says front told (λ d. layout_reads d first_layout) (Ok x)
      → 12 ≤ length front
  first_typed fits x says =
      let said = ap (λ (r : Reads First). r.answer) (says.is front (begins_all front told fits)) in
      grind (arith, first_short front)

  module _ (type : ImageType) (says : Says front told (λ d. kind_reads d 0) (Ok type)) where
    pub kind_typed : length front ≤ told → 12 ≤ length front
    kind_typed fits =
        let said = rw (type_by_first front) at (ap (λ (r : Reads ImageType). r.answer) (says.is front (begins_all front told fits))) in
        grind (arith, first_short front)

    -- the size by the type
    size_behind : (d : List ℕ) → Begins front told d
        → uncounted (meaning_reads d 0) ≡ put_behind says.marks (uncounted (and_then (layout_reads d (opening type)) (opened_rest d)))
    unfolding meaning_reads
    size_behind d begins = ap (λ r. uncounted (and_then r (λ found. size_reads found d))) (says.is d begins)
        ∙ ap (λ r. put_behind says.marks (uncounted r)) (opened_as type d)

    -- by what the first bytes say of it
    pub opened_behind : (r : Result Opening Halt) (size : Says front told (λ d. layout_reads d (opening type)) r) (d : List ℕ)
        → Begins front told d
        → uncounted (meaning_reads d 0) ≡ put_behind says.marks (uncounted (go_on size.marks r (opened_rest d)))
    opened_behind r size d begins = size_behind d begins
        ∙ ap (λ w. put_behind says.marks (uncounted (and_then w (opened_rest d)))) (size.is d begins)

    pub size_said : (r : Result Opening Halt) (size : Says front told (λ d. layout_reads d (opening type)) r) (d : List ℕ)
        → Begins front told d → (meaning_reads d 0).answer ≡ (go_on size.marks r (opened_rest d)).answer
    size_said r size d begins = ap (λ (w : Reads ImageSize). w.answer) (opened_behind r size d begins)

    pub steady_said : length front ≤ told → (next : Awaited) (offset : ℕ)
        → Says front told (λ d. layout_reads d (opening type)) (Ok (opened.Records next offset))
        → IsSteady next offset × (is_text next ≡ has_texts type)
    steady_said fits next offset is =
        saying (OpensSteady (has_texts type)) front (opening type) (opened.Records next offset) (opening_steady type)
        (ap (λ (r : Reads Opening). r.answer) (is.is front (begins_all front told fits)))

    -- the size needs what its first bytes do
    size_any : (d : List ℕ) → Begins front told d → (P : Span → Bool)
        → list_any P (layout_reads d (opening type)).marks ≡ true → list_any P (meaning_reads d 0).marks ≡ true
    size_any d begins P here = rw (ap (λ (r : Reads ImageSize). r.marks) (size_behind d begins))
        (any_right P says.marks _
        (onward_any (layout_reads d (opening type)).marks (layout_reads d (opening type)).answer (opened_rest d) P here))

    pub size_asked : (high : ℕ) → ((d : List ℕ) → Begins front told d → length d ≡ told
        → Needs (has_texts type) (length front) high (layout_reads d (opening type)).marks)
        → RestsBetween (length front) high front told
    size_asked high some d begins as_long =
        subst (λ texts. Needs texts (length front) high (meaning_reads d 0).marks)
        (ap (λ (r : Reads ImageType). texts_as (stated r.answer)) (sym (says.is d begins)))
        (needs_any (has_texts type) (length front) high (layout_reads d (opening type)).marks (meaning_reads d 0).marks
        (size_any d begins) (some d begins as_long))
