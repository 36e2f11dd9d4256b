-- What may be a TGA: its header and its footer.
use Rattle.std.proofs.Common.{◌≡◌, ℕ, ◌+◌, ◌-◌, ◌<◌, ◌≤◌, Bool, true, false, ◌&&◌, not, cond, leb, List, [], ◌++◌, length, take, drop, Option, Some, None, Result, Ok, Err, refl, sym, ap, ◌∙◌, arith}
use Rattle.std.proofs.lemmas.Bool.Decides.{nat_tests}
use Rattle.std.proofs.lemmas.List.{append-nil, drop-append-le, drop-drop, length-append, length-drop, length-take, take_all}
use Rattle.std.specs.Result.{result_ok}
use Rattle.imagesize.specs.Kind.{first_row, tga_or_none}
use Rattle.imagesize.specs.Meaning.{kind_reads, meaning_reads}
use Rattle.imagesize.specs.Types.{rows}
use Rattle.imagesize.specs.declared.types.ImageType.{ImageType}
use Rattle.imagesize.specs.declared.types.ImageType.TheVariants.{Tga}
use Rattle.imagesize_fixed.specs.Tga.{is_tga, is_tga_footer, lacks_its_map, may_be_tga, tga, tga_by_header}
use Rattle.imagesize_pieces.proofs.Beginning.{begins_all, begins_at, begins_left}
use Rattle.imagesize_pieces.proofs.Needing.{needs_any, needs_behind}
use Rattle.imagesize_pieces.specs.Stream.{Begins, Needs, Reach, Says}
use Rattle.imagesize_pieces.specs.declared.stand.Stand.{Stand}
use Rattle.imagesize_source.specs.Input.{part, span_of}
use Rattle.imagesize_source.specs.Layout.{Layout, bind, layout_reads}
use Rattle.imagesize_source.specs.Layout.Layout.{«done»}
use Rattle.imagesize_source.specs.Reading.{Reads, and_then, bytes_at, is_faulted, number_at, put_behind, refuses, uncounted}
use Rattle.imagesize_source.specs.declared.halt.Halt.{Halt}
use Rattle.imagesize_source.specs.declared.halt.Halt.TheVariants.{NotSupported}
use Rattle.imagesize_source.proofs.Among.{any_left}
use Rattle.imagesize_source.proofs.Layouts.{over-bind}
use Rattle.imagesize_stream.proofs.Given.{footer_known}
use Rattle.imagesize_stream.proofs.Heads.{whole_needed}
use Rattle.imagesize_stream.proofs.Hearing.{kind_behind, kind_refused, meaning_any}
use Rattle.imagesize_source.proofs.Saying.{Saying, saying, saying_bind}
use Rattle.imagesize_stream.specs.Heard.{IsByFooter, RestsOnMore, SizeIs, TypeIs, TypeRests}
use Rattle.imagesize_stream.specs.Probe.{CameTo}
use Rattle.imagesize_stream.specs.declared.stage.Stage.TheVariants.{Footer}
use Rattle.imagesize_records.specs.Streamed.{first_by, first_layout}
use Rattle.imagesize_records.specs.declared.opening.First.{First}
use Rattle.imagesize_records.specs.declared.opening.First.TheVariants as first
use Rattle.imagesize_types.specs.declared.size.ImageSize.{ImageSize}

bytes_sure : (d : List ℕ) (offset k : ℕ) → offset + k ≤ length d → bytes_at d offset k ≡ Ok (part d offset k)
unfolding bytes_at
bytes_sure d offset k fits = let all : leb k (length d - offset) ≡ true = grind (arith, nat_tests) in rw all refl

-- a header of 18 bytes is read whole, and never refused
pub header_sure : (d head : List ℕ) (e : Halt) → 18 ≤ length d
    → Reach 0 18 (tga_by_header head) × ((layout_reads d (tga_by_header head)).answer ≡ Err e → ⊥)
unfolding bytes_at number_at
header_sure d head e long = grind (arith, nat_tests)

pub size_sure : (d : List ℕ) (e : Halt) → 18 ≤ length d → Reach 0 18 tga × ((layout_reads d tga).answer ≡ Err e → ⊥)
unfolding bytes_at number_at
size_sure d e long = grind (arith, nat_tests)

pub never_refused : {X : Type 0} (front : List ℕ) (told : ℕ) (t : Layout X) (e : Halt)
    → (is_faulted {X = X} (Err e) ≡ false → Says front told (λ d. layout_reads d t) (Err e))
    → (is_faulted {X = X} (Err e) ≡ true → (high : ℕ) → Reach 0 high t → length front < high)
    → length front ≤ told → 18 ≤ length front → Reach 0 18 t × ((layout_reads front t).answer ≡ Err e → ⊥) → ⊥
never_refused {X} front told t e says few fits enough h = by_test (is_faulted {X = X} (Err e)) refl where
  by_test : (b : Bool) → is_faulted {X = X} (Err e) ≡ b → ⊥
  by_test true is = omega (arith, few is 18 h.0, enough)
  by_test false is = h.1 (ap (λ (r : Reads X). r.answer) ((says is).is front (begins_all front told fits)))

-- these first bytes may be of a TGA
abbrev MayBe : First → Type 0
MayBe (first.Type type) = Unit {0}
MayBe (first.MaybeTga head) = may_be_tga head ≡ true

may_by : (head : List ℕ) (row : Option ImageType) → Saying MayBe (first_by head row)
may_by head row = grind (arith, saying_bind {X = ImageType} MayBe)

-- the input is a TGA by its footer or by its header
abbrev weighed : {X : Type 0} → Bool → Bool → X → Result X Halt
weighed footer header x = cond footer (Ok x) (cond header (Ok x) (Err NotSupported))

module _ (front : List ℕ) (told : ℕ) (head : List ℕ)
    (says : Says front told (λ d. layout_reads d first_layout) (Ok (first.MaybeTga head)))
    (fits : length front ≤ told) where
  may : may_be_tga head ≡ true
  may = saying MayBe front first_layout (first.MaybeTga head) (λ bs. may_by bs (first_row rows bs))
      (ap (λ (r : Reads First). r.answer) (says.is front (begins_all front told fits)))

  -- it has no footer where it is too short
  none_short : (d : List ℕ) → length d < 18
      → layout_reads d (bind (is_tga (length d) head) tga_or_none) ≡ refuses NotSupported
  unfolding is_tga
  none_short d short = let no : leb 18 (length d) ≡ false = grind (arith, nat_tests) in rw (may, no) refl

  pub short_refused : told < 18 → TypeIs front told None × SizeIs front told (Err NotSupported)
  short_refused short = kind_refused front told NotSupported (record {
    marks = says.marks ++ [];
    is = λ d begins. kind_behind front told (Ok (first.MaybeTga head)) says d begins
        ∙ ap (λ w. put_behind says.marks (uncounted w))
        (none_short d (let few = begins.fits in omega (arith, few, short)));
  })

  abbrev footer_of : List ℕ → List ℕ
  footer_of d = part d (length d - 18) 18

  abbrev by_footer : List ℕ → Layout Bool
  by_footer footer = cond (is_tga_footer footer) (done true)
      (cond (lacks_its_map head) (done false) (tga_by_header head))

  footer_reads : (d : List ℕ) → Begins front told d → 18 ≤ length d → uncounted (kind_reads d 0)
      ≡ put_behind says.marks (put_behind (span_of d (length d - 18) 18)
      (uncounted (layout_reads d (bind (by_footer (footer_of d)) tga_or_none))))
  unfolding is_tga
  footer_reads d begins long =
      let yes : leb 18 (length d) ≡ true = grind (arith, nat_tests) in
      let there = bytes_sure d (length d - 18) 18 (omega (arith, long)) in
      kind_behind front told (Ok (first.MaybeTga head)) says d begins ∙ rw (may, yes, there) refl

  -- the footer ends with the last byte
  kind_needed : (d : List ℕ) → Begins front told d → 18 ≤ length d
      → Needs false (length d - 1) (length d) (kind_reads d 0).marks
  kind_needed d begins long = needs_behind false (length d - 1) (length d) says.marks _ (kind_reads d 0).marks
      (ap (λ (r : Reads ImageType). r.marks) (footer_reads d begins long))
      (needs_any false (length d - 1) (length d) (span_of d (length d - 18) 18) _
      (λ P here. any_left P (span_of d (length d - 18) 18) _ here)
      (whole_needed d (length d - 18) 18 (length d - 1) (length d) (omega (arith, long)) (omega (arith, long))
      (omega (arith, long)) (omega arith)))

  rests_on_last : (d : List ℕ) → Begins front told d → 18 ≤ length d
      → Needs false (length d - 1) (length d) (meaning_reads d 0).marks
  rests_on_last d begins long =
      needs_any false (length d - 1) (length d) (kind_reads d 0).marks _ (meaning_any d) (kind_needed d begins long)

  pub type_on_more : 18 ≤ told → length front < 18 → TypeRests front told
  type_on_more long few d begins as_long below =
      let needs = kind_needed d begins (omega (arith, long, as_long)) in
      omega (arith, below needs.0.0 needs.0.3, needs.0.1, as_long, long, few)

  pub rests_on_more : 18 ≤ told → length front < 18 → RestsOnMore front told
  rests_on_more long few d begins as_long below =
      let needs = rests_on_last d begins (omega (arith, long, as_long)) in
      omega (arith, below needs.0.0 needs.0.3, needs.0.1, as_long, long, few)

  module _ (sound : Bool) (size : ImageSize)
      (header : Says front told (λ d. layout_reads d (tga_by_header head)) (Ok sound))
      (sized : Says front told (λ d. layout_reads d tga) (Ok size)) (enough : 18 ≤ length front) where
    abbrev by_header : Bool
    by_header = sound && not (lacks_its_map head)

    long : (d : List ℕ) → Begins front told d → 18 ≤ length d
    long d begins = (begins_at front d told 17 begins (omega (arith, enough))).0

    type_weighed : (d : List ℕ) → Begins front told d
        → (kind_reads d 0).answer ≡ weighed (is_tga_footer (footer_of d)) by_header Tga
    type_weighed d begins =
        let parts : (layout_reads d (bind (tga_by_header head) tga_or_none)).answer ≡ (layout_reads d (tga_or_none sound)).answer =
        ap (λ (r : Reads ImageType). r.answer) (ap uncounted (over-bind d (tga_by_header head) tga_or_none)
        ∙ ap (λ r. uncounted (and_then r (λ is. layout_reads d (tga_or_none is)))) (header.is d begins)) in
        let kind = ap (λ (r : Reads ImageType). r.answer) (footer_reads d begins (long d begins)) in
        grind arith

    size_weighed : (d : List ℕ) → Begins front told d
        → (meaning_reads d 0).answer ≡ weighed (is_tga_footer (footer_of d)) by_header size
    unfolding meaning_reads
    size_weighed d begins =
        let tells = ap (λ (r : Reads ImageSize). r.answer) (sized.is d begins) in
        let kind = type_weighed d begins in grind arith

    -- by its header
    pub header_tells : by_header ≡ true → TypeIs front told (Some Tga) × SizeIs front told (Ok size)
    header_tells is = (
      (λ d begins. let type = rw is at (type_weighed d begins) in grind (arith, type)),
      λ d begins. let tells = rw is at (size_weighed d begins) in grind (arith, tells),
    )

    -- by its footer
    pub footer_decides : by_header ≡ false → (d : List ℕ) → Begins front told d → IsByFooter size d
    footer_decides is d begins = record {
      type = rw is at (type_weighed d begins);
      size_is = rw is at (size_weighed d begins);
      rests = rests_on_last d begins (long d begins);
      typed = kind_needed d begins (long d begins);
    }

-- the last bytes, with more of them
pub last_on : (front chunk buffer new : List ℕ) → 18 ≤ length front → take 18 buffer ≡ drop (length front - 18) front
    → take (18 + length chunk - length chunk) new ≡ drop (length chunk) (take 18 buffer ++ chunk)
    → take 18 new ≡ drop (length (front ++ chunk) - 18) (front ++ chunk)
last_on front chunk buffer new long is kept =
    let all : 18 + length chunk - length chunk ≡ 18 = omega arith in
    let at : (length front - 18) + length chunk ≡ length (front ++ chunk) - 18 =
    omega (arith, long, length-append front chunk) in
    rw (all, is, ← drop-append-le (length front - 18) front chunk (omega arith), drop-drop, at) at kept

-- where all came, these tell it
pub footer_tells : (kind : Option ImageType) (size : ImageSize) (b : Bool) (old : Stand) (buffer after front chunk : List ℕ)
    → 18 ≤ old.passed → old.passed + length chunk ≤ old.told → old.told ≤ old.passed + length chunk
    → take (18 + length chunk - length chunk) after ≡ drop (length chunk) (take 18 buffer ++ chunk)
    → is_tga_footer (take 18 after) ≡ b → CameTo (Footer size) kind old buffer front
    → TypeIs (front ++ chunk) old.told (cond b (Some Tga) None)
    × SizeIs (front ++ chunk) old.told (cond b (Ok size) (Err NotSupported)) × (length (front ++ chunk) ≤ old.told)
unfolding part
footer_tells kind size b old buffer after front chunk some fits all kept decides came =
    ((λ d begins. (known d begins).0), (λ d begins. (known d begins).1), omega (arith, came.0, fits, length-append front chunk)) where
      known : (d : List ℕ) → Begins (front ++ chunk) old.told d
          → (result_ok (kind_reads d 0).answer ≡ cond b (Some Tga) None)
          × ((meaning_reads d 0).answer ≡ cond b (Ok size) (Err NotSupported))
      known d begins =
          let whole : d ≡ front ++ chunk = sym (take_all (length (front ++ chunk)) d (let few = begins.fits in
          omega (arith, few, all, came.0, length-append front chunk))) ∙ begins.first in
          let few : length (drop (length d - 18) d) ≤ 18 = omega (arith, length-drop (length d - 18) d) in
          footer_known d (take 18 after) size b (came.3 d (begins_left front chunk old.told d begins))
          (rw (take_all 18 (drop (length d - 18) d) few, whole)
          (last_on front chunk buffer after (omega (arith, came.0, some)) came.1 kept)) decides

-- the last of the first bytes
pub last_kept : (buffer new : List ℕ) (passed : ℕ) → passed ≤ length buffer → 18 ≤ length (take passed buffer)
    → take (passed + length {A = ℕ} [] - (passed - 18)) new ≡ drop (passed - 18) (take passed buffer ++ [])
    → (passed ≡ length (take passed buffer)) × (take 18 new ≡ drop (length (take passed buffer) - 18) (take passed buffer))
last_kept buffer new passed within some kept =
    let many : length (take passed buffer) ≡ passed = length-take passed buffer ∙ omega (arith, within) in
    let all : passed + length {A = ℕ} [] - (passed - 18) ≡ 18 = omega (arith, some, many) in
    (sym many, rw many (rw (all, append-nil (take passed buffer)) at kept))
