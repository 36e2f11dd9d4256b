-- HEIF: how its searches and the walk along its properties go, how many bytes they are read from, and what they see
-- of an input.
use Rattle.std.proofs.Common.{◌≡◌, ℕ, ◌+◌, ◌-◌, ◌^◌, ◌<◌, ◌≤◌, min, max, Bool, true, false, cond, eqb, List, [], ◌∷◌, ◌++◌, length, drop, map, Option, Some, None, Result, Ok, Err, is_some, refl, sym, ap, ◌∙◌, subst, arith, slice_index, slice_index_or}
use Rattle.std.proofs.lemmas.Bool.Decides.{nat_tests}
use Rattle.std.proofs.Math.Nat.{add-zero}
use Rattle.std.proofs.lemmas.Grind.{flat_map-append}
use Rattle.std.proofs.lemmas.List.{append-nil, get_or-drop, length-drop}
use Rattle.std.proofs.lemmas.List.Folds.{find-append}
use Rattle.std.proofs.lemmas.List.Sums.{sum_by_push}
use Rattle.std.specs.Int.{w32, from_be_bytes}
use Rattle.std.specs.List.{find, last_or, sum_by}
use Rattle.std.specs.Option.{option_or}
use Rattle.std.specs.Prelude.{codes, flat_map, fold, nat_lt, nat_le, unwrap_or, ok_or, option_map, slice_get, filter}
use Rattle.imagesize_boxes.specs.Heif.{heif_compression, is_general, is_named, box_size, box_searched, search_for, searched_box, extents_size, property_found, property_at, extents_of, rotations_of, skipped_bytes, no_pixels, largest_or_none, largest_extents, turn_by, heif_answer, property_or_answer, properties, heif, heif_in_meta, heif_in_iprp}
use Rattle.imagesize_boxes.specs.Walks.{earlier_largest, gathered_answer, gathered_first, gathered_with, heif_ending, heif_open, heif_step, ipco_leads, iprp_leads, list_step, meta_leads, property_or_result, search_step}
use Rattle.imagesize_boxes.specs.declared.formats.heif.Boxes as heif
use Rattle.imagesize_boxes.specs.declared.formats.heif.Sought.{Sought}
use Rattle.imagesize_boxes.specs.declared.formats.heif.Sought.TheVariants as sought
use Rattle.imagesize_boxes.specs.declared.formats.heif.FoundBox.{FoundBox}
use Rattle.imagesize_boxes.specs.declared.formats.heif.Gathered.{Gathered}
use Rattle.imagesize_boxes.specs.declared.formats.heif.Property.{Property}
use Rattle.imagesize_boxes.specs.declared.formats.heif.Property.TheVariants.{Extents, Rotation, Skipped}
use Rattle.imagesize_types.specs.Head.{four_at}
use Rattle.imagesize_types.specs.Largest.{greatest_area, area_if_some}
use Rattle.imagesize_types.specs.Order.{area_of}
use Rattle.imagesize_types.specs.declared.size.ImageSize.{ImageSize}
use Rattle.imagesize_source.specs.declared.halt.Halt.{Halt}
use Rattle.imagesize_source.specs.declared.halt.Halt.TheVariants.{Corrupted, Ended, InvalidHeifBoxSize, NotEnoughData}
use Rattle.imagesize_source.specs.declared.endian.Endian.TheVariants.{Big}
use Rattle.imagesize_source.specs.Agreement.{IsLocal}
use Rattle.imagesize_source.specs.Chain.{Said, Decided, Next, Advances, Chain, next_record, start, verdict, chain_at}
use Rattle.imagesize_source.specs.Counts.{AtMost}
use Rattle.imagesize_source.specs.Input.{span_of}
use Rattle.imagesize_source.specs.Layout.{Layout, accept, begin_record, bytes, refuse, done, layout_reads, bind, whole}
use Rattle.imagesize_source.specs.Walk.{CanFollow, EndsBy, after, decides, run}
use Rattle.imagesize_source.specs.Numbers.{number}
use Rattle.imagesize_source.specs.Reading.{Reads, and_then, bytes_at, bytes_read, gives, number_read, refuses, uncounted, with_answer}
use Rattle.imagesize_source.specs.State.{State, Runs, total}
use Rattle.imagesize_source.proofs.Always.{CompressionLaws}
use Rattle.imagesize_source.proofs.Advances.{Begins, Tells, accepted_tells, advances, begins_bind, states_follow, tells_bind}
use Rattle.imagesize_source.proofs.States.{accepted_reads, ends_after, ends_bind, goes, run_as, run_is, run_within}
use Rattle.imagesize_source.proofs.Spends.{Spends, Onto, chain_onto, left, said_to, spends_then}
use Rattle.imagesize_source.proofs.PastTheEnd.{bytes_beyond, saturated_by}
use Rattle.imagesize_source.proofs.ChainLaws.{local_chain, chain_cost}
use Rattle.imagesize_source.proofs.Chains.{chain_stop}
use Rattle.imagesize_source.proofs.Counts.{Bounded, bounded_then, then_within, total-span_of, total_behind}
use Rattle.imagesize_source.proofs.Bytes.{first_four}
use Rattle.imagesize_source.proofs.Layouts.{bind_bind, no_part, no_span, then_then}
use Rattle.imagesize_source.proofs.Agreement.{local_bytes, local_then, local_number, without_texts}
use Rattle.imagesize_source.proofs.Tests.{on_test}
use Rattle.imagesize_source.proofs.Way.{RecordedLaws}
use Rattle.imagesize_source.proofs.Lists.{last_push}
use Rattle.imagesize_types.proofs.Largest.{greatest_push}

-- the number of four bytes within others
pub big_four : (bs : List ℕ) (i : ℕ) → i + 4 ≤ length bs
    → from_be_bytes w32 (slice_index_or bs i 0 ∷ slice_index_or bs (i + 1) 0
    ∷ slice_index_or bs (i + 2) 0 ∷ slice_index_or bs (i + 3) 0 ∷ []) ≡ number Big (four_at i bs)
big_four bs i h =
    let none : slice_index_or bs i 0 ≡ slice_index_or (drop i bs) 0 0 =
    ap (λ n. slice_index_or bs n 0) (sym (add-zero i))
    ∙ sym (get_or-drop i bs 0 0) in
    rw (← get_or-drop i bs 1 0, ← get_or-drop i bs 2 0, ← get_or-drop i bs 3 0, none)
    (first_four (drop i bs) (omega (arith, length-drop i bs)))

-- what holds of each box of a search
pub by_searched : (P : Layout (Said (Unit {0}) FoundBox) → Type 0) (tag : List ℕ) (offset : ℕ) (head : List ℕ)
    → P (done (Decided (record { offset = offset; size = box_size head })))
    → P (refuse (InvalidHeifBoxSize (box_size head)))
    → (8 ≤ box_size head → P (done (Next tt (offset + box_size head)))) → P (box_searched tag offset head)
by_searched P tag offset head found small next =
    on_test P (is_named tag head) (done (Decided (record { offset = offset; size = box_size head }))) _ (λ _. found)
    (λ _. on_test P (nat_lt (box_size head) 8) (refuse (InvalidHeifBoxSize (box_size head)))
    (done (Next tt (offset + box_size head))) (λ _. small) (λ no. next (grind (arith, nat_tests))))

pub search_advances : (tag : List ℕ) (first : ℕ) (d : List ℕ) → Advances (search_for tag first) d
search_advances tag first = advances (search_for tag first)
    (λ passed offset head. by_searched (Tells (λ p. offset < p)) tag offset head tt tt (λ big. omega arith))
    (λ passed offset. (omega arith, omega arith))

-- from the end of the input on there is no box
none_searched : (tag : List ℕ) (d : List ℕ) (offset : ℕ) → length d ≤ offset
    → uncounted (layout_reads d (searched_box tag offset)) ≡ refuses Ended
none_searched tag d offset far =
    ap uncounted (bytes_beyond d offset 8 (λ head. box_searched tag offset head) far (omega arith))

-- The boxes of a search over its name: each is after the one before.
searched_tells : (tag : List ℕ) (offset : ℕ) → Tells (λ p. offset < p) (searched_box tag offset)
searched_tells tag offset = λ head. by_searched (Tells (λ p. offset < p)) tag offset head tt tt (λ big. omega arith)

pub search_tells : (boxes : heif.Boxes) (offset : ℕ) → Tells (λ p. offset < p) (search_step boxes offset)
search_tells boxes offset = tells_bind (λ p. offset < p) (searched_box boxes.name offset) (after (λ _. boxes) decides)
    (searched_tells boxes.name offset) (λ found. tt) (λ v q later. later)

pub search_follows : CanFollow search_step
search_follows = states_follow search_step search_tells (λ boxes offset. (omega arith, omega arith))

pub search_ends : (boxes : heif.Boxes) → EndsBy search_step boxes (Err Ended)
search_ends boxes d offset far =
    ends_after d (searched_box boxes.name offset) (λ _. boxes) (Err Ended) (none_searched boxes.name d offset far)

-- the boxes over the name are the chain
pub search_is : (tag : List ℕ) (first : ℕ) (d : List ℕ)
    → run search_step (record { name = tag }) first d ≡ chain_at (search_for tag first) d
search_is tag first d =
    run_is {T = Unit {0}} search_step d (search_follows d) (search_for tag first) (λ _. record { name = tag }) (λ _ _. tt)
    (λ _ _. Unit {0}) (search_advances tag first d) (λ held x offset known. refl) (λ held x offset v q known got. tt) tt tt

-- a chain returns the error of its first record
refused_chain : {C X : Type 0} (c : Chain C X) (d : List ℕ) (e : Halt)
    → uncounted (next_record c d (start c)) ≡ refuses e → uncounted (chain_at c d) ≡ refuses e
refused_chain c d e none = ap uncounted (chain_stop c d (start c) (Err e) (ap (λ r. verdict r.answer) none))
    ∙ ap (with_answer (Err e)) none

pub search_saturated : {a b : State} {r : Result FoundBox Halt} (tag : List ℕ) (offset at : ℕ)
    → Runs a b r (chain_at (search_for tag at) a.held.input) → at ≡ min offset (2 ^ 64 - 1)
    → Runs a b r (chain_at (search_for tag offset) a.held.input)
search_saturated tag offset at = saturated_by (λ p d. chain_at (search_for tag p) d) (refuses Ended) offset at
    (λ d p far. refused_chain (search_for tag p) d Ended (none_searched tag d p far))

-- what holds of each property, by its name
pub by_found : (P : Layout (Option Property) → Type 0) (left offset : ℕ) (found : Option (List ℕ)) → P (done None)
    → P (refuse Corrupted)
    → P (bytes (offset + 8) 12 (λ content. done (Some (Extents (extents_size content)))))
    → P (bytes (offset + 8) 1 (λ content. done (Some (Rotation (slice_index content 0)))))
    → ((size : ℕ) → 8 ≤ size → P (done (Some (Skipped size)))) → P (property_found left offset found)
by_found P left offset None end bad extents rotation skipped = end
by_found P left offset (Some head) end bad extents rotation skipped = on_test P (nat_lt (box_size head) 8) _ _
    (λ _. on_test P (is_named (codes "mdat") head) _ _ (λ _. end) (λ _. bad))
    (λ big. on_test P (is_named (codes "ispe") head) _ _ (λ _. extents)
    (λ _. on_test P (is_named (codes "irot") head) _ _ (λ _. rotation)
    (λ _. on_test P (nat_le left (box_size head)) _ _ (λ _. end)
    (λ _. skipped (box_size head) (grind (arith, nat_tests))))))

-- and of each way that the list ends
by_answer : (P : Layout (Said Property ImageSize) → Type 0) (best : Option ImageSize) (turn : Option ℕ)
    → P (refuse NotEnoughData) → ((size : ImageSize) → P (done (Decided size))) → P (heif_answer best turn)
by_answer P None turn none some = none
by_answer P (Some size) turn none some = some (turn_by turn size)

-- and of what stands in the list, behind these properties
by_listed : (P : Layout (Said Property ImageSize) → Type 0) (held : List Property) (left offset : ℕ)
    (found : Option (List ℕ))
    → ((e : Halt) → P (refuse e)) → ((size : ImageSize) → P (done (Decided size)))
    → P (bytes (offset + 8) 12 (λ content. done (Next (Extents (extents_size content)) (offset + 20))))
    → P (bytes (offset + 8) 1 (λ content. done (Next (Rotation (slice_index content 0)) (offset + 9))))
    → ((size : ℕ) → 8 ≤ size → P (done (Next (Skipped size) (offset + size))))
    → P (bind (property_found left offset found) (property_or_answer held offset))
by_listed P held left offset found refused decided extents rotation skipped =
    by_found (λ t. P (bind t (property_or_answer held offset))) left offset found
    (by_answer P (largest_extents (flat_map extents_of held)) (last_or None (flat_map rotations_of held))
    (refused NotEnoughData) decided)
    (refused Corrupted) extents rotation skipped

pub properties_advance : (all first : ℕ) (d : List ℕ) → Advances (properties all first) d
properties_advance all first = advances (properties all first)
    (λ held offset bs. by_listed (Tells (λ p. offset < p)) held (all - sum_by skipped_bytes held) offset (whole 8 bs)
    (λ e. tt) (λ size. tt)
    (λ content. omega arith) (λ content. omega arith) (λ size big. omega arith))
    (λ held offset. (
      omega arith,
      by_answer (Tells (λ _. ⊥)) (largest_extents (flat_map extents_of held))
          (last_or None (flat_map rotations_of held)) tt (λ size. tt),
    ))

-- `best` is the first size of greatest area
record Largest (best : Option ImageSize) (sizes : List ImageSize) : Type 0 where
  is : largest_extents sizes ≡ best
  first : largest_or_none sizes ≡ unwrap_or best no_pixels
  area : greatest_area sizes ≡ area_if_some best
  found : 0 < greatest_area sizes → is_some (find (λ s. eqb (area_of s) (greatest_area sizes)) sizes) ≡ true

-- the properties so far add up to this
record Amounts (all : ℕ) (g : Gathered) (held : List Property) : Type 0 where
  left : all - sum_by skipped_bytes held ≡ g.left
  best : Largest g.best (flat_map extents_of held)
  turn : last_or None (flat_map rotations_of held) ≡ g.turn

largest_some : (sizes : List ImageSize) (size : ImageSize) → largest_extents (sizes ++ size ∷ [])
    ≡ Some (largest_or_none (sizes ++ size ∷ []))
largest_some [] size = refl
largest_some (s ∷ sizes) size = refl

at_least : (m : ℕ) (sizes : List ImageSize) → m ≤ fold max m (map area_of sizes)
at_least m [] = omega arith
at_least m (s ∷ sizes) = let rest = at_least (max m (area_of s)) sizes in omega arith

-- none of them has a greater area
none_above : (m n : ℕ) (sizes : List ImageSize) → fold max m (map area_of sizes) < n
    → find (λ s. eqb (area_of s) n) sizes ≡ None
none_above m n [] below = refl
none_above m n (s ∷ sizes) below =
    let more = at_least (max m (area_of s)) sizes in
    let not_here : eqb (area_of s) n ≡ false = grind (arith, nat_tests) in
    rw not_here (none_above (max m (area_of s)) n sizes below)

or_first : {X : Type 0} (o p : Option X) → is_some o ≡ true → option_or o p ≡ o
or_first None p h = absurd cc
or_first (Some x) p h = refl

-- a size behind the others, and of these the first of so many pixels
abbrev first_of : ℕ → List ImageSize → ImageSize
first_of n sizes = cond (eqb n 0) no_pixels (unwrap_or (find (λ s. eqb (area_of s) n) sizes) no_pixels)

first_filtered : (p : ImageSize → Bool) (sizes : List ImageSize) → slice_get (filter p sizes) 0 ≡ find p sizes
first_filtered p [] = refl
first_filtered p (s ∷ sizes) =
    let Goal : Bool → Type 0 = λ b. slice_get (cond b (s ∷ filter p sizes) (filter p sizes)) 0
    ≡ cond b (Some s) (find p sizes) in
    elim (p s) as Goal [ true ↦ refl | false ↦ first_filtered p sizes ]

first_is : (sizes : List ImageSize) → largest_or_none sizes ≡ first_of (greatest_area sizes) sizes
first_is sizes = ap (λ o. cond (eqb (greatest_area sizes) 0) no_pixels (unwrap_or o no_pixels))
    (first_filtered (λ s. eqb (area_of s) (greatest_area sizes)) sizes)

same_unless : (b : Bool) (x y z : ImageSize) → (b ≡ false → y ≡ z) → cond b x y ≡ cond b x z
same_unless true x y z h = refl
same_unless false x y z h = h refl

area_or : (best : Option ImageSize) → area_of (unwrap_or best no_pixels) ≡ area_if_some best
area_or None = refl
area_or (Some size) = refl

largest_by : (best : Option ImageSize) (sizes : List ImageSize) (size : ImageSize) (b : Bool)
    → nat_lt (area_if_some best) (area_of size)
    ≡ b → Largest best sizes → Largest (Some (cond b size (unwrap_or best no_pixels))) (sizes ++ size ∷ [])
largest_by best sizes size true test h =
    let was = h.area in
    let push = greatest_push sizes size in
    let more : greatest_area sizes < area_of size = grind (arith, nat_tests) in
    let now : greatest_area (sizes ++ size ∷ []) ≡ area_of size = omega arith in
    let here : eqb (area_of size) (area_of size) ≡ true = grind (arith, nat_tests) in
    let some : eqb (area_of size) 0 ≡ false = grind (arith, nat_tests) in
    let found : find (λ s. eqb (area_of s) (area_of size)) (sizes ++ size ∷ []) ≡ Some size =
    find-append (λ s. eqb (area_of s) (area_of size)) sizes (size ∷ [])
    ∙ rw (none_above 0 (area_of size) sizes more, here) refl in
    let all : first_of (greatest_area (sizes ++ size ∷ [])) (sizes ++ size ∷ []) ≡ size = rw (now, some, found) refl in
    let first : largest_or_none (sizes ++ size ∷ []) ≡ size = first_is (sizes ++ size ∷ []) ∙ all in
    record { is = largest_some sizes size ∙ ap Some first; first = first; area = now; found = λ _. rw (now, found) refl }
largest_by best sizes size false test h =
    let was = h.area in
    let push = greatest_push sizes size in
    let no_more : area_of size ≤ greatest_area sizes = grind (arith, nat_tests) in
    let now : greatest_area (sizes ++ size ∷ []) ≡ greatest_area sizes = omega arith in
    let p : ImageSize → Bool = λ s. eqb (area_of s) (greatest_area sizes) in
    let found : 0 < greatest_area sizes → find p (sizes ++ size ∷ []) ≡ find p sizes =
    λ some. find-append p sizes (size ∷ []) ∙ or_first (find p sizes) (find p (size ∷ [])) (h.found some) in
    let all : first_of (greatest_area sizes) (sizes ++ size ∷ []) ≡ first_of (greatest_area sizes) sizes =
    same_unless (eqb (greatest_area sizes) 0) no_pixels (unwrap_or (find p (sizes ++ size ∷ [])) no_pixels)
    (unwrap_or (find p sizes) no_pixels) (λ some. ap (λ o. unwrap_or o no_pixels) (found (grind (arith, nat_tests)))) in
    let first : largest_or_none (sizes ++ size ∷ []) ≡ unwrap_or best no_pixels = first_is (sizes ++ size ∷ [])
    ∙ ap (λ n. first_of n (sizes ++ size ∷ [])) now ∙ all ∙ sym (first_is sizes) ∙ h.first in
    record {
      is = largest_some sizes size ∙ ap Some first;
      first = first;
      area = now ∙ h.area ∙ sym (area_or best);
      found = λ some. rw (now, found (omega arith)) (h.found (omega arith));
    }

none_more : {X : Type 0} (f : Property → List X) (held : List Property) (property : Property) → f property ≡ []
    → flat_map f (held ++ property ∷ []) ≡ flat_map f held
none_more f held property none =
    flat_map-append f held (property ∷ []) ∙ rw (none, append-nil (flat_map f held)) refl

amounts_on : (all : ℕ) (g : Gathered) (held : List Property) (property : Property) → Amounts all g held
    → Amounts all (gathered_with g property) (held ++ property ∷ [])
amounts_on all g held (Extents size) h = record {
  left = omega (arith, h.left, sum_by_push skipped_bytes held (Extents size));
  best = subst (Largest (Some (earlier_largest g.best size)))
      (sym (flat_map-append extents_of held (Extents size ∷ [])))
      (largest_by g.best (flat_map extents_of held) size (nat_lt (area_if_some g.best) (area_of size)) refl h.best);
  turn = ap (last_or None) (none_more rotations_of held (Extents size) refl) ∙ h.turn;
}
amounts_on all g held (Rotation turn) h = record {
  left = omega (arith, h.left, sum_by_push skipped_bytes held (Rotation turn));
  best = subst (Largest g.best) (sym (none_more extents_of held (Rotation turn) refl)) h.best;
  turn = ap (last_or None) (flat_map-append rotations_of held (Rotation turn ∷ []))
      ∙ last_push None (flat_map rotations_of held) turn;
}
amounts_on all g held (Skipped size) h = record {
  left = omega (arith, h.left, sum_by_push skipped_bytes held (Skipped size));
  best = subst (Largest g.best) (sym (none_more extents_of held (Skipped size) refl)) h.best;
  turn = ap (last_or None) (none_more rotations_of held (Skipped size) refl) ∙ h.turn;
}

-- at an offset beyond the input it ends too
none_listed : (d : List ℕ) (held : List Property) (left offset : ℕ) → length d ≤ offset
    → uncounted (layout_reads d (bind (property_at left offset) (property_or_answer held offset)))
    ≡ uncounted (layout_reads d (property_or_answer held offset None))
none_listed d held left offset far = rw (no_part d offset 8 far, no_span d offset 8 far) refl

-- The properties over what those before add up to: each is after the one before.
pub list_tells : (g : Gathered) (offset : ℕ) → Tells (λ p. offset < p) (list_step g offset)
list_tells g offset = λ bs. by_found (λ t. Tells (λ p. offset < p) (bind t (property_or_result g offset))) g.left offset
    (whole 8 bs) (accepted_tells Gathered (λ p. offset < p) (gathered_answer g)) tt (λ content. omega arith)
    (λ content. omega arith) (λ size big. omega arith)

list_begins : (g : Gathered) (offset : ℕ) → Begins offset (list_step g offset)
list_begins g offset = (omega arith, accepted_tells Gathered (λ _. ⊥) (gathered_answer g))

pub list_follows : CanFollow list_step
list_follows = states_follow list_step list_tells list_begins

pub list_ends : (g : Gathered) → EndsBy list_step g (gathered_answer g)
list_ends g d offset far =
    rw (no_part d offset 8 far, no_span d offset 8 far) (ap uncounted (accepted_reads d (gathered_answer g)))

-- the properties over what those before add up to are the chain
pub list_is : (all first : ℕ) (d : List ℕ) → run list_step (gathered_first all) first d ≡ chain_at (properties all first) d
list_is all first d =
    run_is list_step d (list_follows d) (properties all first) (λ (g : Gathered). g) gathered_with (λ held g. Amounts all g held)
    (properties_advance all first d)
    (λ held g offset known.
    (λ i. layout_reads d (bind (property_at (sym known.left i) offset) (λ found. listed held g offset known found i)))
    ∙ ap (layout_reads d) (bind_bind (property_at (all - sum_by skipped_bytes held) offset) (property_or_answer held offset)
    (after (gathered_with g) decides)))
    (λ held g offset v q known got. amounts_on all g held v known) (gathered_first all) (record {
      left = omega arith;
      best = record { is = refl; first = refl; area = refl; found = λ some. absurd (omega arith) };
      turn = refl;
    })
  where
    answered : (g : Gathered) (best : Option ImageSize) (turn : Option ℕ)
        → accept (ok_or (option_map (turn_by turn) best) NotEnoughData) decides
        ≡ bind (heif_answer best turn) (after (gathered_with g) decides)
    answered g None turn = refl
    answered g (Some size) turn = refl

    listed : (held : List Property) (g : Gathered) (offset : ℕ) → Amounts all g held → (found : Option Property)
        → property_or_result g offset found ≡ bind (property_or_answer held offset found) (after (gathered_with g) decides)
    listed held g offset known (Some property) = refl
    listed held g offset known None = answered g g.best g.turn
        ∙ (λ i. bind (heif_answer (sym known.best.is i) (sym known.turn i)) (after (gathered_with g) decides))

pub list_saturated : {a b : State} {r : Result ImageSize Halt} (all offset at : ℕ)
    → Runs a b r (chain_at (properties all at) a.held.input) → at ≡ min offset (2 ^ 64 - 1)
    → Runs a b r (chain_at (properties all offset) a.held.input)
list_saturated all offset at = saturated_by (λ p d. chain_at (properties all p) d)
    (refuses NotEnoughData) offset at
    (λ d p far. refused_chain (properties all p) d NotEnoughData (none_listed d [] (all - sum_by skipped_bytes []) p far))

-- The whole way in one walk: each record is after the one before.
pub heif_tells : (s : Sought) (offset : ℕ) → Tells (λ p. offset < p) (heif_step s offset)
heif_tells sought.Meta offset =
    tells_bind (λ p. offset < p) (searched_box (codes "meta") offset) (after (λ _. sought.Meta) (meta_leads offset))
    (searched_tells (codes "meta") offset) (λ meta version. omega arith) (λ v q later. later)
heif_tells sought.Iprp offset =
    tells_bind (λ p. offset < p) (searched_box (codes "iprp") offset) (after (λ _. sought.Iprp) (iprp_leads offset))
    (searched_tells (codes "iprp") offset) (λ iprp. omega arith) (λ v q later. later)
heif_tells sought.Ipco offset =
    tells_bind (λ p. offset < p) (searched_box (codes "ipco") offset) (after (λ _. sought.Ipco) (ipco_leads offset))
    (searched_tells (codes "ipco") offset) (λ ipco. omega arith) (λ v q later. later)
heif_tells (sought.Property g) offset =
    tells_bind (λ p. offset < p) (list_step g offset) (after sought.Property decides) (list_tells g offset) (λ size. tt)
    (λ g q later. later)

pub heif_begins : (s : Sought) (offset : ℕ) → Begins offset (heif_step s offset)
heif_begins sought.Meta offset = (omega arith, omega arith)
heif_begins sought.Iprp offset = (omega arith, omega arith)
heif_begins sought.Ipco offset = (omega arith, omega arith)
heif_begins (sought.Property g) offset =
    begins_bind offset (list_step g offset) (after sought.Property decides) (list_begins g offset) (λ size. tt) (λ size. tt)

pub heif_follows : CanFollow heif_step
heif_follows = states_follow heif_step heif_tells heif_begins

pub heif_ends : (s : Sought) → EndsBy heif_step s (heif_ending s)
heif_ends sought.Meta d offset far =
    ends_bind d (searched_box (codes "meta") offset) (after (λ _. sought.Meta) (meta_leads offset)) (Err Ended)
    (none_searched (codes "meta") d offset far)
heif_ends sought.Iprp d offset far =
    ends_bind d (searched_box (codes "iprp") offset) (after (λ _. sought.Iprp) (iprp_leads offset)) (Err Ended)
    (none_searched (codes "iprp") d offset far)
heif_ends sought.Ipco d offset far =
    ends_bind d (searched_box (codes "ipco") offset) (after (λ _. sought.Ipco) (ipco_leads offset)) (Err Ended)
    (none_searched (codes "ipco") d offset far)
heif_ends (sought.Property g) d offset far =
    ends_after d (list_step g offset) sought.Property (gathered_answer g) (list_ends g d offset far)

-- The walk over the whole way is the three searches, and the list.
module _ (d : List ℕ) where
  -- what is read after a record
  abbrev onward : Said Sought ImageSize → Reads ImageSize
  onward = goes heif_step d (heif_follows d)

  -- a search, and what is read after its box
  sought_as : (s : Sought) (tag : List ℕ) (leads : ℕ → FoundBox → Layout (Said Sought ImageSize))
      → ((offset : ℕ) → heif_step s offset ≡ bind (searched_box tag offset) (after (λ _. s) (leads offset)))
      → (first : ℕ)
      → run heif_step s first d
      ≡ and_then (chain_at (search_for tag first) d) (λ found. and_then (layout_reads d (leads found.offset found)) onward)
  sought_as s tag leads is first =
      run_as heif_step d (heif_follows d) (search_for tag first) (λ (_ : Unit {0}). s) (λ _ _. tt)
      (λ found. leads found.offset found) (λ _ _. Unit {0}) (search_advances tag first d)
      (λ held x offset known. ap (layout_reads d) (is offset ∙ placed offset)) (λ held x offset v q known got. tt) tt tt
    where
      placed : (offset : ℕ) → bind (searched_box tag offset) (after (λ _. s) (leads offset))
          ≡ bind (searched_box tag offset) (after (λ _. s) (λ found. leads found.offset found))
      placed offset = λ i. begin_record (bytes offset 8 (λ head. by_searched
          (λ t. bind t (after (λ _. s) (leads offset)) ≡ bind t (after (λ _. s) (λ found. leads found.offset found)))
          tag offset head refl refl (λ _. refl) i))

  properties_as : (all first : ℕ)
      → run heif_step (sought.Property (gathered_first all)) first d ≡ chain_at (properties all first) d
  properties_as all first =
      run_within heif_step list_step sought.Property d (heif_follows d) (list_follows d) (λ g offset. refl) (gathered_first all) first
      ∙ list_is all first d

  ipco_as : (first : ℕ) → run heif_step sought.Ipco first d ≡ and_then (chain_at (search_for (codes "ipco") first) d)
      (λ ipco. chain_at (properties ipco.size (ipco.offset + 8)) d)
  ipco_as first =
      sought_as sought.Ipco (codes "ipco") ipco_leads (λ offset. refl) first
      ∙ (λ i. and_then (chain_at (search_for (codes "ipco") first) d) (λ ipco. properties_as ipco.size (ipco.offset + 8) i))

  iprp_as : (first : ℕ) → run heif_step sought.Iprp first d
      ≡ and_then (chain_at (search_for (codes "iprp") first) d) (λ iprp. heif_in_iprp iprp d)
  iprp_as first =
      sought_as sought.Iprp (codes "iprp") iprp_leads (λ offset. refl) first
      ∙ (λ i. and_then (chain_at (search_for (codes "iprp") first) d) (λ iprp. ipco_as (iprp.offset + 8) i))

  meta_as : (first : ℕ) → run heif_step sought.Meta first d
      ≡ and_then (chain_at (search_for (codes "meta") first) d) (λ meta. heif_in_meta meta d)
  meta_as first =
      sought_as sought.Meta (codes "meta") meta_leads (λ offset. refl) first
      ∙ (λ i. and_then (chain_at (search_for (codes "meta") first) d) (λ meta. in_meta_as meta i))
    where
      in_meta_as : (meta : FoundBox)
          → and_then (layout_reads d (meta_leads meta.offset meta)) onward ≡ heif_in_meta meta d
      in_meta_as meta = sym (then_then (bytes_read d (meta.offset + 8) 4) (λ _. gives (Next sought.Iprp (meta.offset + 12)))
          onward _ (λ version. sym (iprp_as (meta.offset + 12))))

pub heif_is : (d : List ℕ) → heif d ≡ and_then (layout_reads d heif_open) (λ s. run heif_step s.records s.offset d)
heif_is d =
    then_then (number_read d Big 0 4) (λ first. gives (record { records = sought.Meta; offset = first }))
    (λ s. run heif_step s.records s.offset d)
    (λ first. and_then (chain_at (search_for (codes "meta") first) d) (λ meta. heif_in_meta meta d)) (λ first. sym (meta_as d first))

-- the compression is read from at most 12 bytes, and is always told
pub heif_compression_laws : (offset : ℕ) (head : List ℕ) → CompressionLaws 12 (heif_compression offset head)
unfolding heif_compression
heif_compression_laws offset head =
    on_test (CompressionLaws 12) (is_general (four_at 8 head)) _ _
    (λ _. record { few = (omega arith, λ _. tt); answers = λ _. tt })
    (λ _. record { few = tt; answers = tt })

-- a box that is passed, or a property, is read from at most 20 bytes
search_at_most : (tag : List ℕ) (offset : ℕ) (passed : List (Unit {0})) (q : ℕ)
    → AtMost 20 ((search_for tag offset).said passed q)
search_at_most tag offset passed q = (omega arith, λ head. by_searched (AtMost 12) tag q head tt tt (λ big. tt))

property_at_most : (all offset : ℕ) (held : List Property) (q : ℕ) → AtMost 20 ((properties all offset).said held q)
property_at_most all offset held q = (
  omega arith,
  λ bs. by_listed (AtMost 12) held (all - sum_by skipped_bytes held) q (whole 8 bs) (λ e. tt) (λ size. tt)
      (omega arith, λ content. tt) (omega arith, λ content. tt) (λ size big. tt),
)

-- what follows is read behind the head of a box that was found
abbrev behind_head : FoundBox → Option ℕ
behind_head found = Some (found.offset + 8)

-- what goes on nowhere
abbrev ends : ImageSize → Option ℕ
ends size = None

-- Reads from an offset on that lead to another offset: what they depend on, and how many bytes they read.
record Forward {X : Type 0} (from : ℕ) (to : X → Option ℕ) (outside : ℕ) (reads : List ℕ → Reads X) : Type 0 where
  local : IsLocal false reads
  cost : (d : List ℕ) → Bounded outside 20 (reads d)
  spends : (d : List ℕ) → Spends (length d) from to (reads d)

forward_then : {X Y : Type 0} (from j k : ℕ) (next : X → ℕ) (to : Y → Option ℕ) (r : List ℕ → Reads X)
    (f : X → List ℕ → Reads Y) → Forward from (λ x. Some (next x)) j r → ((x : X) → Forward (next x) to k (f x))
    → Forward from to (j + k) (λ d. and_then (r d) (λ x. f x d))
forward_then from j k next to r f first rest = record {
  local = local_then r f first.local (λ x. (rest x).local);
  cost = λ d. bounded_then 20 j k (r d) (λ x. f x d) (first.cost d) (λ x _. (rest x).cost d);
  spends = λ d. spends_then (length d) from next to (r d) (λ x. f x d) (first.spends d) (λ x _. (rest x).spends d);
}

searched : (tag : List ℕ) (first : ℕ) → Forward first behind_head 0 (λ d. chain_at (search_for tag first) d)
searched tag first = record {
  local = local_chain (search_for tag first) (search_advances tag first)
      (λ passed q. without_texts false 20 ((search_for tag first).said passed q) (search_at_most tag first passed q));
  cost = λ d. chain_cost (search_for tag first) d (search_advances tag first d) 20 (search_at_most tag first);
  spends = λ d. chain_onto (search_for tag first) d behind_head (search_advances tag first d) (λ held q. (
    omega arith,
    λ head. by_searched (Onto (said_to behind_head) (q + 8)) tag q head (omega arith) tt (λ big. omega arith),
  ));
}

listed : (all first : ℕ) → Forward first ends 0 (λ d. chain_at (properties all first) d)
listed all first = record {
  local = local_chain (properties all first) (properties_advance all first)
      (λ held q. without_texts false 20 ((properties all first).said held q) (property_at_most all first held q));
  cost = λ d. chain_cost (properties all first) d (properties_advance all first d) 20 (property_at_most all first);
  spends = λ d. chain_onto (properties all first) d ends (properties_advance all first d) (λ held q. (
    omega arith,
    λ bs. by_listed (Onto (said_to ends) (q + 8)) held (all - sum_by skipped_bytes held) q (whole 8 bs)
        (λ e. tt) (λ size. tt) (omega arith, λ content. omega arith) (omega arith, λ content. omega arith)
        (λ size big. omega arith),
  ));
}

-- four bytes of version and flags
version : (from next : ℕ) → next ≡ from + 4 → Forward from (λ _. Some next) 4 (λ d. bytes_read d from 4)
version from next is = record {
  local = local_bytes from 4;
  cost = λ d. omega (arith, total-span_of d from 4);
  spends = λ d. by_read d (bytes_at d from 4);
} where
  by_read : (d : List ℕ) (r : Result (List ℕ) Halt)
      → total (span_of d from 4) + left (length d) (λ _. Some next) r ≤ length d - from
  by_read d (Ok version) = omega (arith, is, total_behind d from 4, total-span_of d from 4)
  by_read d (Err e) = omega (arith, total_behind d from 4)

in_iprp : (iprp : FoundBox) → Forward (iprp.offset + 8) ends 0 (heif_in_iprp iprp)
in_iprp iprp = forward_then (iprp.offset + 8) 0 0 (λ ipco. ipco.offset + 8) ends
    (λ d. chain_at (search_for (codes "ipco") (iprp.offset + 8)) d)
    (λ ipco d. chain_at (properties ipco.size (ipco.offset + 8)) d)
    (searched (codes "ipco") (iprp.offset + 8)) (λ ipco. listed ipco.size (ipco.offset + 8))

in_meta : (meta : FoundBox) → Forward (meta.offset + 8) ends 4 (heif_in_meta meta)
in_meta meta =
    let from : ℕ = meta.offset + 12 in
    forward_then (meta.offset + 8) 4 0 (λ _. from) ends (λ d. bytes_read d (meta.offset + 8) 4)
    (λ _ d. and_then (chain_at (search_for (codes "iprp") from) d) (λ iprp. heif_in_iprp iprp d))
    (version (meta.offset + 8) from (omega arith))
    (λ _. forward_then from 0 0 (λ iprp. iprp.offset + 8) ends (λ d. chain_at (search_for (codes "iprp") from) d)
    heif_in_iprp (searched (codes "iprp") from) in_iprp)

behind_first : (first : ℕ)
    → Forward first ends 4 (λ d. and_then (chain_at (search_for (codes "meta") first) d) (λ meta. heif_in_meta meta d))
behind_first first = forward_then first 0 4 (λ meta. meta.offset + 8) ends
    (λ d. chain_at (search_for (codes "meta") first) d) heif_in_meta (searched (codes "meta") first) in_meta

-- With its type it is read from at most 28 bytes more than the input has: its first four may be read twice again. A box is
-- read from at most 20 bytes. The properties may go on in bytes that follow.
pub heif_laws : RecordedLaws 24 32 20 false false heif
heif_laws = record {
  local = local_then (λ d. number_read d Big 0 4)
      (λ first d. and_then (chain_at (search_for (codes "meta") first) d) (λ meta. heif_in_meta meta d))
      (local_number Big 0 4) (λ first. (behind_first first).local);
  cost = λ d. omega (
    arith,
    bounded_then 20 4 4 (number_read d Big 0 4)
        (λ first. and_then (chain_at (search_for (codes "meta") first) d) (λ meta. heif_in_meta meta d))
        (omega (arith, total-span_of d 0 4)) (λ first _. (behind_first first).cost d),
  );
  within = λ d. omega (
    arith,
    then_within (number_read d Big 0 4)
        (λ first. and_then (chain_at (search_for (codes "meta") first) d) (λ meta. heif_in_meta meta d)) 4 (length d)
        (total-span_of d 0 4) (λ first _. omega (arith, (behind_first first).spends d)),
  );
  lasts = λ keeps. absurd cc;
}
