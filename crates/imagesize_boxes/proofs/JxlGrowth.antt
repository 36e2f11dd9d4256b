-- JPEG XL: what bytes behind an input make of the codestream. It may go on, where it was cut.
use Rattle.std.proofs.Common.{inl, inr, ◌≡◌, ℕ, ◌+◌, ◌-◌, ◌<◌, ◌≤◌, min, Bool, true, false, cond, eqb, leb, ltb, ◌||◌, List, [], ◌∷◌, ◌++◌, length, slice_index, Option, None, Some, Result, Ok, Err, append_assoc, refl, sym, ap, ◌∙◌, subst, arith}
use Rattle.std.proofs.lemmas.Bool.{cases_lt}
use Rattle.std.proofs.lemmas.Bool.Decides.{nat_tests}
use Rattle.std.proofs.lemmas.List.{append-nil, length-append}
use Rattle.std.proofs.lemmas.List.Concat.{flat_map-append}
use Rattle.std.specs.List.{concat}
use Rattle.imagesize_types.specs.declared.size.ImageSize.{ImageSize}
use Rattle.imagesize_source.specs.declared.halt.Halt.{Halt}
use Rattle.imagesize_source.specs.declared.halt.Halt.TheVariants.{Corrupted, Ended, InvalidJxlSignature}
use Rattle.imagesize_source.specs.declared.span.Span.{Span}
use Rattle.imagesize_source.specs.declared.endian.Endian.{Endian}
use Rattle.imagesize_source.specs.declared.endian.Endian.TheVariants.{Big}
use Rattle.imagesize_source.specs.Chain.{Said, Decided, Next, Along, next_record, verdict, chain_from, start}
use Rattle.imagesize_source.specs.Input.{part, span_of}
use Rattle.imagesize_source.specs.Layout.{Layout, layout_reads, bind, bytes, bytes_there}
use Rattle.imagesize_source.specs.Layout.Layout.{field, done}
use Rattle.imagesize_source.specs.Reading.{Reads, go_on, gives, just, bytes_at, number_at, refuses, uncounted, with_answer}
use Rattle.imagesize_source.proofs.ChainLaws.{chain_induction}
use Rattle.imagesize_source.proofs.Chains.{chain_next, chain_stop}
use Rattle.imagesize_source.proofs.Extension.{bytes_ok, number_ok, bytes_more, number_more, part_grows}
use Rattle.imagesize_source.proofs.Tests.{on_test}
use Rattle.imagesize_boxes.specs.declared.formats.jxl.boxes.BoxHead.{BoxHead}
use Rattle.imagesize_boxes.specs.Fields.{bits_of, low_bits, field_at, found_by}
use Rattle.imagesize_boxes.specs.Jxl.{has_signature, jxl_header, jxl_size, piece_at, box_head, box_room, said_behind, partial_said, box_content, jxl_box, jxl_chain, jxl_start, codestream, jxl_codestream, jxl}
use Rattle.imagesize_boxes.proofs.Fields.{found_more}
use Rattle.imagesize_boxes.proofs.JxlBoxes.{BoxSays, by_box, by_piece, by_content, boxes_end, head_behind, jxl_advances, long_behind}
use Rattle.imagesize_source.proofs.Parts.{part_length}

-- behind an answer that bytes behind the input leave, as R says, or that goes on
abbrev Grows : {X : Type 0} → (X → X → Type 0) → Reads X → Reads X → Type 0
Grows {X} R r more = (s : X) → r.answer ≡ Ok s → (t : X) × (more.answer ≡ Ok t) × R s t

grows_given : {X : Type 0} (R : X → X → Type 0) (s t : X) → R s t → Grows R (gives s) (gives t)
grows_given R s t h u is = let same : s ≡ u = cc in (t, refl, subst (λ v. R v t) same h)

grows_onward : {X Y : Type 0} (R : X → X → Type 0) (spans more : List Span) (r r' : Result Y Halt) (f g : Y → Reads X)
    → ((y : Y) → r ≡ Ok y → r' ≡ Ok y) → ((y : Y) → Grows R (f y) (g y)) → Grows R (go_on spans r f) (go_on more r' g)
grows_onward R spans more (Ok y) r' f g same each s is =
    let rest = each y s is in
    (rest.0, ap (λ q. (go_on more q g).answer) (same y refl) ∙ rest.1, rest.2)
grows_onward R spans more (Err e) r' f g same each s is = absurd cc

grows_bytes : {X : Type 0} (R : X → X → Type 0) (d x : List ℕ) (offset k : ℕ) (f : List ℕ → Layout X)
    → ((bs : List ℕ) → Grows R (layout_reads d (f bs)) (layout_reads (d ++ x) (f bs)))
    → Grows R (layout_reads d (bytes offset k f))
    (layout_reads (d ++ x) (bytes offset k f))
grows_bytes R d x offset k f each =
    grows_onward R (span_of d offset k) (span_of (d ++ x) offset k) (bytes_at d offset k) (bytes_at (d ++ x) offset k)
    (λ bs. layout_reads d (f bs))
    (λ bs. layout_reads (d ++ x) (f bs))
    (λ bs got. bytes_more d x offset k (bytes_ok d bs offset k got) ∙ got) each

grows_field : {X : Type 0} (R : X → X → Type 0) (d x : List ℕ) (order : Endian) (offset k : ℕ) (f : ℕ → Layout X)
    → ((v : ℕ) → Grows R (layout_reads d (f v)) (layout_reads (d ++ x) (f v)))
    → Grows R (layout_reads d (field order offset k f))
    (layout_reads (d ++ x) (field order offset k f))
grows_field R d x order offset k f each =
    grows_onward R (span_of d offset k) (span_of (d ++ x) offset k) (number_at d order offset k)
    (number_at (d ++ x) order offset k)
    (λ v. layout_reads d (f v)) (λ v. layout_reads (d ++ x) (f v))
    (λ v got. number_more d x order offset k (number_ok d order offset k v got) ∙ got) each

-- The codestream of a box may go on; a next box within the input stays.
abbrev GoesOn : ℕ → Said (List ℕ) (List ℕ) → Said (List ℕ) (List ℕ) → Type 0
GoesOn n (Decided front) t = (more : List ℕ) × (t ≡ Decided (front ++ more))
GoesOn n (Next piece offset) t = offset ≤ n → t ≡ Next piece offset

same_said : (n : ℕ) (s : Said (List ℕ) (List ℕ)) → GoesOn n s s
same_said n (Decided front) = ([], ap Decided (sym (append-nil front)))
same_said n (Next piece offset) = λ _. refl

-- what a piece that goes on says
by_tests : (n offset : ℕ) (held piece more : List ℕ) (ends ends_more opened : Bool) → (ends ≡ true → ends_more ≡ true)
    → (more ≡ [] → ends_more ≡ ends) → (opened ≡ false → offset ≤ n → more ≡ [])
    → GoesOn n (cond ends (Decided (held ++ piece)) (cond opened (Decided (held ++ piece)) (Next piece offset)))
    (cond ends_more (Decided (held ++ (piece ++ more)))
    (cond opened (Decided (held ++ (piece ++ more))) (Next (piece ++ more) offset)))
by_tests n offset held piece more true ends_more opened stays same whole =
    rw (stays refl) (more, ap Decided (sym (append_assoc held piece more)))
by_tests n offset held piece more false true true stays same whole =
    (more, ap Decided (sym (append_assoc held piece more)))
by_tests n offset held piece more false false true stays same whole =
    (more, ap Decided (sym (append_assoc held piece more)))
by_tests n offset held piece more false ends_more false stays same whole = λ within.
    let none = whole refl within in rw (same none, none, append-nil piece) refl

partial_grows : (n offset : ℕ) (held : List ℕ) (head : BoxHead) (index piece more : List ℕ)
    → length held + length (piece ++ more) ≤ 16
    → (0 < head.size → offset + head.size ≤ n → more ≡ []) → GoesOn n (partial_said held offset head index piece)
    (partial_said held offset head index (piece ++ more))
partial_grows n offset held head index piece more fits whole =
    let long = length-append piece more in
    let stops : List ℕ → Bool = λ p. eqb (length held + length p) 16 || leb 0x80 (slice_index index 0) in
    by_tests n (offset + head.size) held piece more (stops piece) (stops (piece ++ more)) (eqb head.size 0)
    (λ is. grind (arith, nat_tests)) (λ none. ap (λ m. stops (piece ++ m)) none ∙ ap stops (append-nil piece))
    (λ is within. whole (grind (arith, nat_tests)) within)

-- bytes that are all there do not go on
none_more : (d x : List ℕ) (offset k : ℕ) (more : List ℕ) → part (d ++ x) offset k ≡ part d offset k ++ more
    → k ≤ length d - offset
    → more ≡ []
none_more d x offset k [] is all = refl
none_more d x offset k (b ∷ more) is all = absurd (omega (
  arith,
  ap length is,
  part_length (d ++ x) offset k,
  part_length d offset k,
  length-append (part d offset k) (b ∷ more),
))

pub box_sized : (head : BoxHead) → 0 < head.size → box_room head ≡ head.size - head.length
box_sized head closed = let test : eqb head.size 0 ≡ false = grind (arith, nat_tests) in rw test refl

module _ (d x : List ℕ) where
  Both : BoxSays → Type 0
  Both t = Grows (GoesOn (length d)) (layout_reads d t) (layout_reads (d ++ x) t)

  grows_said : (s t : Said (List ℕ) (List ℕ)) → GoesOn (length d) s t → Grows (GoesOn (length d)) (gives s) (gives t)
  grows_said = grows_given (GoesOn (length d))

  same_both : (s : Said (List ℕ) (List ℕ)) → Both (done s)
  unfolding Both
  same_both s = grows_said s s (same_said (length d) s)

  content_grows : (held : List ℕ) (offset : ℕ) (head : BoxHead) → (0 < head.size → head.length ≤ head.size)
      → Both (box_content held offset head)
  unfolding Both
  content_grows held offset head sized =
      by_content Both held offset head
      (by_piece Both (offset + head.length) (min 16 (box_room head)) (λ front. done (Decided front))
      (λ _. same_both (Decided []))
      (λ _. let grown = part_grows d x (offset + head.length) (min 16 (box_room head)) in
      grows_said (Decided (part d (offset + head.length) (min 16 (box_room head))))
      (Decided (part (d ++ x) (offset + head.length) (min 16 (box_room head)))) (grown.0, ap Decided grown.1)))
      (λ s is. absurd cc)
      (λ enough. grows_bytes (GoesOn (length d)) d x (offset + head.length) 4
      (λ index. bind (piece_at (offset + (head.length + 4)) (min (box_room head - 4) (16 - length held)))
      (λ piece. done (partial_said held offset head index piece)))
      (λ index. by_piece Both (offset + (head.length + 4)) (min (box_room head - 4) (16 - length held))
      (λ piece. done (partial_said held offset head index piece))
      (λ _. same_both (partial_said held offset head index []))
      (λ some. let q : ℕ = offset + (head.length + 4) in let k : ℕ = min (box_room head - 4) (16 - length held) in
      let grown = part_grows d x q k in
      let long = part_length (d ++ x) q k in
      let same : length (part (d ++ x) q k) ≡ length (part d q k ++ grown.0) = ap length grown.1 in
      grows_said (partial_said held offset head index (part d q k))
      (partial_said held offset head index (part (d ++ x) q k))
      (rw grown.1 (partial_grows (length d) offset held head index (part d q k) grown.0 (omega arith)
      (λ closed within. none_more d x q k grown.0 grown.1
      (omega (arith, box_sized head closed, sized closed))))))))
      (same_both (said_behind held offset head []))

  -- what a box says of more bytes
  box_grows : (held : List ℕ) (offset : ℕ) → Both (jxl_box held offset)
  unfolding Both box_head
  box_grows held offset =
      grows_bytes (GoesOn (length d)) d x offset 8 (λ front. head_behind offset front (box_content held offset))
      (λ front. by_box Both Both offset front (box_content held offset) (λ e s is. absurd cc) (λ e s is. absurd cc)
      (grows_field (GoesOn (length d)) d x Big (offset + 8) 8 (long_behind offset front (box_content held offset)))
      (λ head _. content_grows held offset head) (λ head _. content_grows held offset head))

-- A next box that stands behind the end is not there.
box_gone : (d : List ℕ) (t : Along (List ℕ)) → length d ≤ t.offset
    → uncounted (chain_from jxl_chain d t) ≡ refuses Ended
box_gone d t gone =
    let out : uncounted (next_record jxl_chain d t) ≡ refuses Ended = boxes_end (concat t.held) d t.offset gone in
    ap uncounted (chain_stop jxl_chain d t (Err Ended) (ap (λ r. verdict r.answer) out)) ∙ ap (with_answer (Err Ended)) out

box_there : (d : List ℕ) (t : Along (List ℕ)) (front : List ℕ) → (chain_from jxl_chain d t).answer ≡ Ok front
    → t.offset ≤ length d
box_there d t front is = elim (cases_lt (length d) t.offset) [
  | inl gone ↦ absurd (let no : ◌≡◌ {A = Result (List ℕ) Halt} (Err Ended) (Ok front) =
      sym (ap (λ w. w.answer) (box_gone d t (omega (arith, gone)))) ∙ is in cc)
  | inr within ↦ within
]

decided : (r : Result (Said (List ℕ) (List ℕ)) Halt) (front : List ℕ) → verdict r ≡ Some (Ok front)
    → r ≡ Ok (Decided front)
decided (Ok (Decided x)) front is = cc
decided (Ok (Next v offset)) front is = absurd cc
decided (Err e) front is = absurd cc

-- the codestream of the boxes may go on
boxes_grow : (d x : List ℕ) (t : Along (List ℕ)) (front : List ℕ) → (chain_from jxl_chain d t).answer ≡ Ok front
    → (more : List ℕ) × ((chain_from jxl_chain (d ++ x) t).answer ≡ Ok (front ++ more))
unfolding Both
boxes_grow d x = chain_induction jxl_chain d (λ t. (front : List ℕ) → (chain_from jxl_chain d t).answer ≡ Ok front
    → (more : List ℕ) × ((chain_from jxl_chain (d ++ x) t).answer ≡ Ok (front ++ more))) (jxl_advances d)
    (λ t v offset is later front ok.
    let u : Along (List ℕ) = record { held = t.held ++ v ∷ []; offset = offset } in
    let next : (chain_from jxl_chain d u).answer ≡ Ok front =
    sym (ap (λ w. w.answer) (chain_next jxl_chain d t v offset (jxl_advances d) is)) ∙ ok in
    let within = box_there d u front next in
    let here = box_grows d x (concat t.held) t.offset (Next v offset) is in
    let same : (next_record jxl_chain (d ++ x) t).answer ≡ Ok (Next v offset) = here.1 ∙ ap Ok (here.2 within) in
    let rest = later front next in
    (rest.0, ap (λ w. w.answer) (chain_next jxl_chain (d ++ x) t v offset (jxl_advances (d ++ x)) same) ∙ rest.1))
    (λ t r is front ok.
    let ends : r ≡ Ok front = sym (ap (λ w. w.answer) (chain_stop jxl_chain d t r is)) ∙ ok in
    let here = box_grows d x (concat t.held) t.offset (Decided front) (decided (next_record jxl_chain d t).answer front
    (is ∙ ap Some ends)) in
    let more = here.2 in
    let same : verdict (next_record jxl_chain (d ++ x) t).answer ≡ Some (Ok (front ++ more.0)) =
    ap verdict (here.1 ∙ ap Ok more.1) in
    (more.0, ap (λ w. w.answer) (chain_stop jxl_chain (d ++ x) t (Ok (front ++ more.0)) same)))

-- and so does one that stands alone
abbrev StartsAs : Option (List ℕ) → Option (List ℕ) → Type 0
StartsAs None t = t ≡ None
StartsAs (Some front) t = (more : List ℕ) × (t ≡ Some (front ++ more))

start_grows : (d x : List ℕ) → Grows StartsAs (layout_reads d jxl_start) (layout_reads (d ++ x) jxl_start)
start_grows d x =
    grows_bytes StartsAs d x 0 2
    (λ start. cond (has_signature start) (bytes_there 2 14 (λ more. done (Some (start ++ more)))) (done None))
    (λ start. on_test (λ t. Grows StartsAs (layout_reads d t) (layout_reads (d ++ x) t)) (has_signature start)
    (bytes_there 2 14 (λ more. done (Some (start ++ more)))) (done None)
    (λ _. let grown = part_grows d x 2 14 in
    grows_given StartsAs (Some (start ++ part d 2 14)) (Some (start ++ part (d ++ x) 2 14))
    (grown.0, ap Some (ap (λ more. start ++ more) grown.1 ∙ sym (append_assoc start (part d 2 14) grown.0))))
    (λ _. grows_given StartsAs None None refl))

either_grows : (d x : List ℕ) (s t : Option (List ℕ)) → StartsAs s t → (front : List ℕ)
    → (codestream d s).answer ≡ Ok front
    → (more : List ℕ) × ((codestream (d ++ x) t).answer ≡ Ok (front ++ more))
either_grows d x None t h front is =
    let rest = boxes_grow d x (start jxl_chain) front is in
    (rest.0, ap (λ o. (codestream (d ++ x) o).answer) h ∙ rest.1)
either_grows d x (Some found) t h front is =
    let same : found ≡ front = cc in
    (h.0, ap (λ o. (codestream (d ++ x) o).answer) h.1 ∙ ap (λ f. Ok (f ++ h.0)) same)

-- an answer behind an answer
then_ok : {X Y : Type 0} (r : Result X Halt) (spans : List Span) (f : X → Reads Y) (y : Y)
    → (go_on spans r f).answer ≡ Ok y
    → (x : X) × (r ≡ Ok x) × ((f x).answer ≡ Ok y)
then_ok (Ok x) spans f y is = (x, refl, is)
then_ok (Err e) spans f y is = absurd cc

codestream_grows : (d x front : List ℕ) → (jxl_codestream d).answer ≡ Ok front
    → (more : List ℕ) × ((jxl_codestream (d ++ x)).answer ≡ Ok (front ++ more))
codestream_grows d x front is =
    let found = then_ok (layout_reads d jxl_start).answer (layout_reads d jxl_start).marks (codestream d) front is in
    let grown = start_grows d x found.0 found.1 in
    let rest = either_grows d x found.0 grown.0 grown.2 front found.2 in (
      rest.0,
      ap (λ r. (go_on (layout_reads (d ++ x) jxl_start).marks r (codestream (d ++ x))).answer) grown.1 ∙ rest.1,
    )

-- more bytes leave a size that was found
size_grows : (front more : List ℕ) (v : ImageSize) → jxl_size front ≡ Ok v → jxl_size (front ++ more) ≡ Ok v
unfolding jxl_size bits_of
size_grows (a ∷ b ∷ front) more v is =
    let few : ltb (length (a ∷ b ∷ front)) 2 ≡ false = grind (arith, nat_tests) in
    let longer : ltb (length (a ∷ b ∷ (front ++ more))) 2 ≡ false = grind (arith, nat_tests) in
    let joined : bits_of (a ∷ b ∷ (front ++ more)) ≡ bits_of (a ∷ b ∷ front) ++ bits_of more =
    flat_map-append (λ byte. low_bits 8 byte) (a ∷ b ∷ front) more in
    rw longer (by_signature (has_signature (a ∷ b ∷ front)) (rw few at is) joined) where
      by_signature : (signed : Bool) → cond signed (found_by (field_at (bits_of (a ∷ b ∷ front))) jxl_header)
          (Err InvalidJxlSignature) ≡ Ok v → bits_of (a ∷ b ∷ (front ++ more)) ≡ bits_of (a ∷ b ∷ front) ++ bits_of more
          → cond signed (found_by (field_at (bits_of (a ∷ b ∷ (front ++ more)))) jxl_header) (Err InvalidJxlSignature)
          ≡ Ok v
      by_signature true was joined = ap (λ bits. found_by (field_at bits) jxl_header) joined
          ∙ found_more (bits_of (a ∷ b ∷ front)) (bits_of more) jxl_header v was
      by_signature false was joined = absurd cc
size_grows short more v is = absurd (let none : ◌≡◌ {A = Result ImageSize Halt} (Err Corrupted) (Ok v) = is in cc)

-- Bytes behind an input change no size that was found.
pub jxl_lasts : (d x : List ℕ) (v : ImageSize) → (jxl d).answer ≡ Ok v → (jxl (d ++ x)).answer ≡ Ok v
jxl_lasts d x v is =
    let found = then_ok (jxl_codestream d).answer (jxl_codestream d).marks
    (λ front. just (jxl_size front) []) v is
    in
    let grown = codestream_grows d x found.0 found.1 in
    ap (λ r. (go_on (jxl_codestream (d ++ x)).marks r (λ front. just (jxl_size front) [])).answer) grown.1
    ∙ size_grows found.0 grown.0 v found.2
