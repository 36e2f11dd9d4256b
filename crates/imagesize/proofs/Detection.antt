-- The type at an offset: what it is read from, and what bytes that follow leave of it.
use Rattle.std.proofs.Common.{◌≡◌, ℕ, ◌+◌, ◌-◌, ◌<◌, ◌≤◌, Bool, true, false, cond, leb, List, ◌++◌, length, Option, Some, None, Result, Ok, Err, IfOk, IsTrue, ◌⊎◌, inl, inr, refl, sym, ap, ◌∙◌, subst, arith}
use Rattle.std.specs.Prelude.{IsOkAnd}
use Rattle.std.proofs.lemmas.Bool.{cases_lt}
use Rattle.std.proofs.lemmas.Bool.Decides.{nat_tests}
use Rattle.std.proofs.lemmas.List.{length-drop, drop-append-le, take-append-le}
use Rattle.imagesize.specs.Counts.{Stays, keeps, without_compression}
use Rattle.imagesize_boxes.proofs.Heif.{heif_compression_laws}
use Rattle.imagesize_boxes.specs.Heif.{heif_compression}
use Rattle.imagesize_fixed.proofs.Atc.{atc_compression_laws}
use Rattle.imagesize_fixed.proofs.Dds.{dds_compression_laws}
use Rattle.imagesize_fixed.proofs.Pkm.{pkm_compression_laws}
use Rattle.imagesize_fixed.proofs.Pvrtc.{pvrtc_compression_laws}
use Rattle.imagesize_fixed.proofs.Tga.{is_tga_few}
use Rattle.imagesize_fixed.specs.Atc.{atc_compression, atc_compression_of}
use Rattle.imagesize_fixed.specs.Dds.{dds_compression}
use Rattle.imagesize_fixed.specs.Pkm.{pkm_compression, pkm_compression_of}
use Rattle.imagesize_fixed.specs.Pvrtc.{pvrtc_compression}
use Rattle.imagesize_fixed.specs.Tga.{is_tga}
use Rattle.imagesize.specs.Kind.{kind, kind_by, with_compression, tga_or_none, first_row}
use Rattle.imagesize.specs.Meaning.{kind_of, kind_reads}
use Rattle.imagesize.specs.Types.{lasts, rows, way_of}
use Rattle.imagesize.specs.declared.types.ImageType.{ImageType}
use Rattle.imagesize.specs.declared.types.ImageType.TheVariants.{Atc, Dds, Eac, Etc2, Heif, Pvrtc, Tga}
use Rattle.imagesize_source.proofs.Runs.{steps, runs_then}
use Rattle.imagesize_source.proofs.Layouts.{binding, over-bind}
use Rattle.imagesize_source.proofs.Always.{Always, CompressionLaws, always, always_bind}
use Rattle.imagesize_source.proofs.Costs.{bound_of, costs, costs_bind}
use Rattle.imagesize_source.proofs.Extension.{bytes_ok, bytes_more}
use Rattle.imagesize_source.specs.Counts.{CostsBy}
use Rattle.imagesize_source.specs.Input.{part, span_of}
use Rattle.imagesize_source.specs.Layout.{Layout, bind, if_there, layout_reads}
use Rattle.imagesize_source.specs.Layout.Layout.{«done», refuse, field, reading, begin_record}
use Rattle.imagesize_source.proofs.Parts.{part_length}
use Rattle.imagesize_source.proofs.Tests.{on_test}
use Rattle.imagesize_types.specs.declared.compression.AtcCompression.TheVariants.{Unknown as atc_unknown}
use Rattle.imagesize_types.specs.declared.compression.Compression.TheVariants.{Unknown as heif_unknown}
use Rattle.imagesize_types.specs.declared.compression.DdsCompression.TheVariants.{Unknown as dds_unknown}
use Rattle.imagesize_types.specs.declared.compression.PkmCompression.TheVariants.{Unknown as pkm_unknown}
use Rattle.imagesize_types.specs.declared.compression.PvrtcCompression.TheVariants.{Unknown as pvrtc_unknown}
use Rattle.imagesize_source.specs.Reading.{AllOf, PartOf, Reads, TextOf, go_on, bytes_at, bytes_read}
use Rattle.imagesize_source.specs.State.{State, Runs, total}
use Rattle.imagesize_source.specs.declared.error.ImageError.{ImageError}
use Rattle.imagesize_source.specs.declared.halt.Halt.{Halt}
use Rattle.imagesize_source.specs.Outcome.{stated}
use Rattle.imagesize_source.proofs.Halts.{stated_ok}
use Rattle.imagesize_source.specs.declared.span.Span.{Span}

-- how many bytes a type is read from: the first twelve, then those of the compression within it, or of TGA's own test
abbrev pub kind_cost : ImageType → ℕ
kind_cost (Heif _) = 24
kind_cost (Atc _) = 20
kind_cost (Pvrtc _) = 24
kind_cost (Eac _) = 14
kind_cost (Etc2 _) = 14
kind_cost (Dds _) = 20
kind_cost Tga = 37
kind_cost _ = 12

-- a type whose size is told in the same way, whatever its compression
abbrev pub SameWay : ImageType → ImageType → Type 0
SameWay found type = way_of type ≡ way_of found

-- Where a reading is cut the layout answers u, so that bytes that follow leave any other answer.
abbrev Fades : {X : Type 0} → X → Layout X → Type 0
Fades u (done x) = Unit {0}
Fades u (refuse e) = ⊥
Fades u (field order offset n f) = ⊥
Fades u (reading (AllOf n) offset f) = ⊥
Fades u (reading (PartOf n) offset f) = (bs : List ℕ) → (length bs < n → f bs ≡ done u) × Fades u (f bs)
Fades u (reading (TextOf t n) offset f) = ⊥
Fades u (begin_record t) = Fades u t

-- a part that is there is not changed by bytes that follow
part_kept : (d x : List ℕ) (offset n : ℕ) → n ≤ length d - offset → part (d ++ x) offset n ≡ part d offset n
unfolding part
part_kept d x offset n h = grind (arith, length-drop, drop-append-le, take-append-le)

fades : {X : Type 0} (u : X) (d x : List ℕ) (t : Layout X) (v w : X) → Fades u t → (layout_reads d t).answer ≡ Ok v
    → (layout_reads (d ++ x) t).answer ≡ Ok w → (w ≡ v) ⊎ (v ≡ u)
fades u d x (done y) v w h is more = inl cc
fades u d x (refuse e) v w h is more = absurd h
fades u d x (field order offset n f) v w h is more = absurd h
fades u d x (reading (AllOf n) offset f) v w h is more = absurd h
fades {X} u d x (reading (PartOf n) offset f) v w h is more = elim (cases_lt (length d - offset) n) [
  | inl cut ↦
      let none : f (part d offset n) ≡ done u = (h (part d offset n)).0 (omega (arith, cut, part_length d offset n)) in
      let untold : ◌≡◌ {A = Result X Halt} (Ok u) (Ok v) = sym (ap (λ t. (layout_reads d t).answer) none) ∙ is in
      inr cc
  | inr all ↦ fades u d x (f (part d offset n)) v w (h (part d offset n)).1 is
      (ap (λ bs. (layout_reads (d ++ x) (f bs)).answer) (sym (part_kept d x offset n all)) ∙ more)
]
fades u d x (reading (TextOf t n) offset f) v w h is more = absurd h
fades u d x (begin_record t) v w h is more = fades u d x t v w h is more

-- all or nothing of a reading
if_there_fades : {X : Type 0} (u : X) (offset n : ℕ) (f : Option (List ℕ) → Layout X) → f None ≡ done u
    → ((bs : List ℕ) → Fades u (f (Some bs))) → Fades u (if_there offset n f)
if_there_fades u offset n f none some bs = (
  λ cut. let short : leb n (length bs) ≡ false = grind (arith, nat_tests) in
      ap (λ (test : Bool). f (cond test (Some bs) None)) short ∙ none,
  by_test (leb n (length bs)),
) where
  by_test : (test : Bool) → Fades u (f (cond test (Some bs) None))
  by_test true = some bs
  by_test false = subst (Fades u) (sym none) tt

-- of each compression
heif_fades : (offset : ℕ) (head : List ℕ) → Fades heif_unknown (heif_compression offset head)
unfolding heif_compression
heif_fades offset head = grind (arith, on_test, if_there_fades)

atc_fades : Fades atc_unknown atc_compression
unfolding atc_compression
atc_fades = if_there_fades atc_unknown 0 8 (λ bs. done (atc_compression_of bs)) refl (λ bs. tt)

pkm_fades : Fades pkm_unknown pkm_compression
unfolding pkm_compression
pkm_fades = if_there_fades pkm_unknown 6 2 (λ bs. done (pkm_compression_of bs)) refl (λ bs. tt)

pvrtc_fades : Fades pvrtc_unknown pvrtc_compression
unfolding pvrtc_compression
pvrtc_fades = grind (arith, if_there_fades, on_test)

dds_fades : Fades dds_unknown dds_compression
unfolding dds_compression
dds_fades = grind (arith, if_there_fades, on_test)

-- what holds of each compression, and of a type without one
by_compression : (P : Layout ImageType → Type 0) (offset : ℕ) (head : List ℕ) (found : ImageType)
    → ((C : Type 0) (of : C → ImageType) (u : C) (k : ℕ) (t : Layout C) → Fades u t → CompressionLaws k t → 12 + k ≤ 37
    → ((c : C) → (12 + k ≡ kind_cost (of c)) × SameWay found (of c) × (without_compression (of c) ≡ of u))
    → P (bind t (λ c. done (of c))))
    → (12 ≤ kind_cost found → P (done found)) → P (with_compression offset head found)
unfolding with_compression
by_compression P offset head (Heif _) each other = each _ Heif heif_unknown 12 (heif_compression offset head)
    (heif_fades offset head) (heif_compression_laws offset head) (omega arith) (λ c. (refl, refl, refl))
by_compression P offset head (Atc _) each other = each _ Atc atc_unknown 8 atc_compression atc_fades atc_compression_laws
    (omega arith) (λ c. (refl, refl, refl))
by_compression P offset head (Pvrtc _) each other = each _ Pvrtc pvrtc_unknown 12 pvrtc_compression pvrtc_fades
    pvrtc_compression_laws (omega arith) (λ c. (refl, refl, refl))
by_compression P offset head (Eac _) each other = each _ Eac pkm_unknown 2 pkm_compression pkm_fades pkm_compression_laws
    (omega arith) (λ c. (refl, refl, refl))
by_compression P offset head (Etc2 _) each other = each _ Etc2 pkm_unknown 2 pkm_compression pkm_fades pkm_compression_laws
    (omega arith) (λ c. (refl, refl, refl))
by_compression P offset head (Dds _) each other = each _ Dds dds_unknown 8 dds_compression dds_fades dds_compression_laws
    (omega arith) (λ c. (refl, refl, refl))
by_compression P offset head _ each other = other (omega arith)

pub with_costs : (offset : ℕ) (head : List ℕ) (found : ImageType)
    → CostsBy kind_cost 37 12 (with_compression offset head found)
with_costs offset head found = by_compression (CostsBy kind_cost 37 12) offset head found
    (λ C of u k t _ laws fits same. costs_bind kind_cost 37 12 k t (λ c. done (of c)) laws.few fits
    (λ c. omega (arith, (same c).0)))
    (λ fits. fits)

none_costs : (is : Bool) → CostsBy kind_cost 37 37 (tga_or_none is)
none_costs is = grind arith

by_costs : (n offset : ℕ) (head : List ℕ) (found : Option ImageType)
    → CostsBy kind_cost 37 12 (kind_by n offset head found)
by_costs n offset head (Some found) = with_costs offset head found
by_costs n offset head None = costs_bind kind_cost 37 12 25 (is_tga n head) tga_or_none (is_tga_few n head) (omega arith)
    (λ is. none_costs is)

pub kind_costs : (n offset : ℕ) → CostsBy kind_cost 37 0 (kind n offset)
kind_costs n offset = (omega arith, λ head. by_costs n offset head (first_row rows head))

-- what a type is read from, by the type that is found
pub kind_at_most : (d : List ℕ) (offset : ℕ)
    → total (kind_reads d offset).marks ≤ bound_of kind_cost 37 (kind_reads d offset).answer
kind_at_most d offset = omega (arith, costs kind_cost 37 0 d (kind (length d) offset) (kind_costs (length d) offset))

few_of : (r : Result ImageType Halt) → bound_of kind_cost 37 r ≤ 37
few_of r = grind arith

-- and at most, whatever is found
pub kind_within : (d : List ℕ) (offset : ℕ) → total (kind_reads d offset).marks ≤ 37
kind_within d offset = omega (arith, kind_at_most d offset, few_of (kind_reads d offset).answer)

with_alike : (offset : ℕ) (head : List ℕ) (found : ImageType)
    → Always (SameWay found) (with_compression offset head found)
with_alike offset head found = by_compression (Always (SameWay found)) offset head found
    (λ C of u k t _ laws _ same. always_bind (SameWay found) t (λ c. done (of c)) laws.answers (λ c. (same c).1))
    (λ _. refl)

-- an answer behind readings is that behind what they answered
onward_ok : {X Y : Type 0} (spans : List Span) (r : Result X Halt) (f : X → Reads Y) (y : Y)
    → (go_on spans r f).answer ≡ Ok y
    → (x : X) × (r ≡ Ok x) × ((f x).answer ≡ Ok y)
onward_ok spans r f y is = grind arith

tga_is : (is : Bool) (d : List ℕ) (type : ImageType) → (layout_reads d (tga_or_none is)).answer ≡ Ok type → type ≡ Tga
tga_is is' d type is = grind arith

ok_is : {X : Type 0} {x y : X} → ◌≡◌ {A = Result X Halt} (Ok x) (Ok y) → x ≡ y
ok_is e = cc

-- so a type stays, with its compression where one was told
type_stays : {C : Type 0} (of : C → ImageType) (u : C) (t : Layout C) (d x : List ℕ) (type after : ImageType)
    → Fades u t
    → ((c : C) → without_compression (of c) ≡ of u) → (layout_reads d (bind t (λ c. done (of c)))).answer ≡ Ok type
    → (layout_reads (d ++ x) (bind t (λ c. done (of c)))).answer ≡ Ok after → Stays type after
type_stays {C} of u t d x type after h unknown is more =
    let first = onward_ok (layout_reads d t).marks (layout_reads d t).answer (λ c. layout_reads d (done (of c))) type
    (ap (λ r. r.answer) (sym (over-bind d t (λ c. done (of c)))) ∙ is) in
    let second = onward_ok (layout_reads (d ++ x) t).marks (layout_reads (d ++ x) t).answer
    (λ c. layout_reads (d ++ x) (done (of c))) after
    (ap (λ r. r.answer) (sym (over-bind (d ++ x) t (λ c. done (of c)))) ∙ more) in
    let found : of first.0 ≡ type = ok_is first.2 in
    let left : of second.0 ≡ after = ok_is second.2 in
    elim (fades u d x t first.0 second.0 h first.1 second.1) [
      | inl same ↦ inl (sym left ∙ ap of same ∙ found)
      | inr none ↦ inr (sym found ∙ ap of none ∙ sym (unknown second.0) ∙ ap without_compression left)
    ]

compression_stays : (d x : List ℕ) (offset : ℕ) (head : List ℕ) (found type after : ImageType)
    → (layout_reads d (with_compression offset head found)).answer ≡ Ok type
    → (layout_reads (d ++ x) (with_compression offset head found)).answer ≡ Ok after → Stays type after
compression_stays d x offset head found type after =
    by_compression (λ t. (layout_reads d t).answer ≡ Ok type → (layout_reads (d ++ x) t).answer ≡ Ok after → Stays type after)
    offset head found (λ C of u k t faded laws _ same. type_stays of u t d x type after faded (λ c. (same c).2))
    (λ _ is more. inl (sym (ok_is more) ∙ ok_is is))

none_keeps : (d : List ℕ) (n offset : ℕ) (head : List ℕ) (type : ImageType)
    → (layout_reads d (bind (is_tga n head) tga_or_none)).answer ≡ Ok type
    → keeps type ≡ true → ⊥
none_keeps d n offset head type is stays = grind (arith, over-bind, onward_ok, tga_is)

by_more : (d x : List ℕ) (offset : ℕ) (head : List ℕ) (row : Option ImageType) (type : ImageType)
    → (layout_reads d (kind_by (length d) offset head row)).answer ≡ Ok type → keeps type ≡ true → (after : ImageType)
    × ((layout_reads (d ++ x) (kind_by (length (d ++ x)) offset head row)).answer ≡ Ok after) × SameWay type after
    × Stays type after
by_more d x offset head None type is stays = absurd (none_keeps d (length d) offset head type is stays)
by_more d x offset head (Some found) type is stays =
    let before = always (SameWay found) d (with_compression offset head found) (with_alike offset head found) in
    let after = always (SameWay found) (d ++ x) (with_compression offset head found) (with_alike offset head found) in
    let same : before.0 ≡ type = cc in
    let alike : SameWay found type = subst (SameWay found) same before.2 in
    (after.0, after.1, after.2 ∙ sym alike, compression_stays d x offset head found type after.0 is after.1)

-- behind a type that is kept, bytes that follow leave it, and a compression that is told
pub kind_more : (d x : List ℕ) (offset : ℕ) (type : ImageType) → (kind_reads d offset).answer ≡ Ok type
    → keeps type ≡ true
    → (after : ImageType) × ((kind_reads (d ++ x) offset).answer ≡ Ok after) × SameWay type after × Stays type after
kind_more d x offset type is stays =
    let head = onward_ok (span_of d offset 12) (bytes_at d offset 12)
    (λ bs. layout_reads d (kind_by (length d) offset bs (first_row rows bs))) type
    is in
    let there : bytes_at (d ++ x) offset 12 ≡ Ok head.0 = bytes_more d x offset 12 (bytes_ok d head.0 offset 12 head.1)
    ∙ head.1 in
    let after = by_more d x offset head.0 (first_row rows head.0) type head.2 stays in (
      after.0,
      ap (λ r. (go_on (span_of (d ++ x) offset 12) r
          (λ bs. layout_reads (d ++ x) (kind_by (length (d ++ x)) offset bs (first_row rows bs)))).answer) there
          ∙ after.1,
      after.2,
      after.3,
    )

-- a type whose size lasts is kept
lasting : (type : ImageType) → lasts type ≡ true → keeps type ≡ true
lasting type stays = grind arith

pub way_more : (d x : List ℕ) (offset : ℕ) (type : ImageType) → (kind_reads d offset).answer ≡ Ok type → lasts type ≡ true
    → (after : ImageType) × ((kind_reads (d ++ x) offset).answer ≡ Ok after) × SameWay type after
way_more d x offset type is stays = let after = kind_more d x offset type is (lasting type stays) in
    (after.0, after.1, after.2)

pub kind_lasts : (d : List ℕ) (offset : ℕ) (r : Result ImageType ImageError) → r ≡ (kind_of d offset).answer
    → IfOk r (λ type. IsTrue (keeps type) → (x : List ℕ) → IsOkAnd (kind_of (d ++ x) offset).answer (Stays type))
kind_lasts d offset (Ok type) is = λ stays x.
    let after = kind_more d x offset type (stated_ok (kind_reads d offset).answer type (sym is)) stays in
    subst (λ (r : Result ImageType ImageError). IsOkAnd r (Stays type)) (sym (ap stated after.1)) after.3
kind_lasts d offset (Err e) is = tt

-- a head that was read, and the type by it
pub head_then : {a m b : State} (r : Result ImageType Halt) (offset : ℕ) (head : List ℕ) → length head ≡ 12
    → Runs a m (Ok head) (bytes_read a.held.input offset (length head))
    → Runs m b r (layout_reads m.held.input (kind_by (length m.held.input) offset head (first_row rows head)))
    → Runs a b r (layout_reads a.held.input (kind (length a.held.input) offset))
head_then {a} {m} {b} r offset head long first second = runs_then (bytes_read a.held.input offset 12)
    (λ bs held. layout_reads held.input (kind_by (length held.input) offset bs (first_row rows bs)))
    (subst (λ k. Runs a m (Ok head) (bytes_read a.held.input offset k)) long first) second

-- what proves a function whose readings go on from others
pub ruleset steps_bound = (steps, binding)
