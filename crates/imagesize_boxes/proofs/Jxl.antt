-- JPEG XL: how many bytes its size is read from, and what it sees of an input.
use Rattle.std.proofs.Common.{false, ◌≡◌, ℕ, ◌+◌, ◌-◌, ◌<◌, ◌≤◌, min, true, List, [], ◌∷◌, ◌++◌, length, Option, None, Some, Result, Ok, Err, inl, refl, ap, ◌∙◌, arith}
use Rattle.std.proofs.lemmas.List.{length-append}
use Rattle.std.specs.List.{concat}
use Rattle.imagesize_source.specs.declared.halt.Halt.{Halt}
use Rattle.imagesize_source.specs.declared.span.Span.{Span}
use Rattle.imagesize_source.specs.declared.endian.Endian.TheVariants.{Big}
use Rattle.imagesize_source.specs.Agreement.{IsLocal}
use Rattle.imagesize_source.specs.Chain.{Said, Decided, Next, Along, start, next_record, chain_at}
use Rattle.imagesize_source.specs.Counts.{AtMost, CostsBy}
use Rattle.imagesize_source.specs.Input.{part, span_of}
use Rattle.imagesize_source.specs.Layout.{layout_reads, bytes_there}
use Rattle.imagesize_source.specs.Layout.Layout.{«done»}
use Rattle.imagesize_source.specs.Reading.{Reads, after_records, go_on, gives, just, put_behind, bytes_at, number_at}
use Rattle.imagesize_source.specs.State.{total}
use Rattle.imagesize_source.proofs.Ahead.{Ahead, chain_ahead}
use Rattle.imagesize_source.proofs.ChainLaws.{chain_bounded, local_chain}
use Rattle.imagesize_source.proofs.Costs.{bound_of, costs}
use Rattle.imagesize_source.proofs.Counts.{Bounded, at_most, at_most_more, bounded_then, each_plus, then_within, total-span_of, total_behind}
use Rattle.imagesize_source.proofs.Agreement.{local_layout, local_then, without_texts}
use Rattle.imagesize_source.proofs.Runs.{total-append}
use Rattle.imagesize_source.proofs.Tests.{on_test}
use Rattle.imagesize_source.proofs.Way.{RecordedLaws}
use Rattle.imagesize_boxes.specs.declared.formats.jxl.boxes.BoxHead.{BoxHead}
use Rattle.imagesize_boxes.specs.Jxl.{has_signature, jxl_size, box_head, box_room, said_behind, partial_said, box_content, jxl_box, jxl_chain, jxl_start, codestream, jxl_codestream, jxl}
use Rattle.imagesize_boxes.proofs.JxlBoxes.{BoxSays, by_box, by_piece, by_end, by_partial, by_content, joined, jxl_advances}
use Rattle.imagesize_boxes.proofs.JxlGrowth.{jxl_lasts, box_sized}
use Rattle.imagesize_source.proofs.Parts.{part_length}

-- a box goes forward: its content stands behind its head, and the next box behind both
content_ahead : (q : ℕ) (held : List ℕ) (offset : ℕ) (head : BoxHead) → q ≤ offset + head.length
    → (0 < head.size → head.length ≤ head.size) → Ahead q (box_content held offset head)
content_ahead q held offset head before sized =
    let End : ℕ → Said (List ℕ) (List ℕ) → Type 0 = λ p s. Ahead p (done s) in
    by_content (Ahead q) held offset head
    (by_piece (Ahead q) _ _ _ (λ _. tt) (λ _. (before, λ front. tt)))
    tt
    (λ enough. (
      before,
      λ index. by_piece (Ahead (offset + head.length + 4)) _ _ _
          (λ _. by_partial (End (offset + head.length + 4)) held offset head index [] tt
          (λ closed. omega (arith, box_sized head closed, sized closed)))
          (λ some. (
            omega arith,
            λ piece. by_partial (End (offset + (head.length + 4) + min (box_room head - 4) (16 - length held))) held
                offset head index piece tt (λ closed. omega (arith, box_sized head closed, sized closed)),
          )),
    ))
    (by_end (End q) held offset head [] tt (λ closed. omega (arith, sized closed)))

box_ahead : (held : List ℕ) (offset : ℕ) → Ahead offset (jxl_box held offset)
unfolding box_head
box_ahead held offset = (
  omega arith,
  λ front. by_box (Ahead (offset + 8)) (Ahead (offset + 8 + 8)) offset front (box_content held offset) (λ e. tt) (λ e. tt)
      (λ each. (omega arith, each)) (λ head is sized. content_ahead (offset + 8) held offset head (omega arith) sized)
      (λ head is sized. content_ahead (offset + 8 + 8) held offset head (omega arith) sized),
)

start_few : AtMost 16 jxl_start
start_few = (
  omega arith,
  λ front. on_test (AtMost 14) (has_signature front) (bytes_there 2 14 (λ more. done (Some (front ++ more))))
      (done None) (λ _. (omega arith, λ more. tt)) (λ _. tt),
)

-- a codestream that stands alone is read from at most 16 bytes, and 2 tell that boxes stand
abbrev start_bound : Option (List ℕ) → ℕ
start_bound (Some front) = 16
start_bound None = 2

start_costs : CostsBy start_bound 16 0 jxl_start
start_costs = (
  omega arith,
  λ front. on_test (CostsBy start_bound 16 2) (has_signature front)
      (bytes_there 2 14 (λ more. done (Some (front ++ more))))
      (done None) (λ _ more. omega arith) (λ _. omega arith),
)

-- a codestream in boxes is read from at most the bytes behind the first box's offset
codestream_within : (d : List ℕ) (o : Option (List ℕ)) → total (codestream d o).marks ≤ length d
codestream_within d None = omega (
  arith,
  chain_ahead jxl_chain d (jxl_advances d) (λ pieces offset. box_ahead (concat pieces) offset),
)
codestream_within d (Some front) = omega arith

-- a box reads at most 32 bytes, and those that its piece may still have
content_few : (held : List ℕ) (offset : ℕ) (head : BoxHead)
    → AtMost (16 + (16 - length held)) (box_content held offset head)
content_few held offset head =
    let k : ℕ = 16 + (16 - length held) in
    by_content (AtMost k) held offset head (by_piece (AtMost k) _ _ _ (λ _. tt) (λ _. (omega arith, λ front. tt))) tt
    (λ _. (omega arith, λ index. by_piece (AtMost (k - 4)) _ _ _ (λ _. tt) (λ _. (omega arith, λ piece. tt)))) tt

box_few : (held : List ℕ) (offset : ℕ) → AtMost (32 + (16 - length held)) (jxl_box held offset)
unfolding box_head
box_few held offset =
    let k : ℕ = 16 + (16 - length held) in
    let long : ℕ = 32 + (16 - length held) in
    let content : (j : ℕ) (head : BoxHead) → k ≤ j → AtMost j (box_content held offset head) =
    λ j head fits. at_most_more k j (box_content held offset head) fits (content_few held offset head) in (
      omega arith,
      λ front. by_box (AtMost (long - 8)) (AtMost (long - 8 - 8)) offset front (box_content held offset) (λ e. tt)
          (λ e. tt) (λ each. (omega arith, each)) (λ head _ _. content (long - 8) head (omega arith))
          (λ head _ _. content (long - 8 - 8) head (omega arith)),
    )

-- what is seen of an input
local_behind : (found : Option (List ℕ)) → IsLocal false (λ d. codestream d found)
local_behind None = local_chain jxl_chain jxl_advances
    (λ pieces offset. without_texts false (32 + (16 - length (concat pieces))) (jxl_box (concat pieces) offset)
    (box_few (concat pieces) offset))
local_behind (Some front) = λ d e long. inl refl

-- Behind u bytes: where it leads to a next box, it has read at most 20 bytes and its piece, which fits.
Lean : ℕ → List ℕ → Reads (Said (List ℕ) (List ℕ)) → Type 0
Lean u held r = (piece : List ℕ) (offset : ℕ) → r.answer ≡ Ok (Next piece offset)
    → (u + total r.marks ≤ 20 + length piece)
    × (length piece ≤ 16 - length held)

lean_onward : {Y : Type 0} (u n : ℕ) (held : List ℕ) (spans : List Span) (r : Result Y Halt)
    (f : Y → Reads (Said (List ℕ) (List ℕ))) → total spans ≤ n → ((y : Y) → Lean (u + n) held (f y))
    → Lean u held (go_on spans r f)
unfolding Lean
lean_onward u n held spans (Ok y) f few each piece offset is = let rest = each y piece offset is in
    (omega (arith, rest.0, total-append spans (f y).marks), rest.1)
lean_onward u n held spans (Err e) f few each piece offset is = absurd cc

-- what a box says at once, behind its piece
lean_said : (u : ℕ) (held : List ℕ) (spans : List Span) (s : Said (List ℕ) (List ℕ)) (piece : List ℕ)
    → ((found : List ℕ) (offset : ℕ) → s ≡ Next found offset → found ≡ piece) → u ≤ 20 → total spans ≤ length piece
    → length piece ≤ 16 - length held → Lean u held (put_behind spans (gives s))
unfolding Lean
lean_said u held spans s piece same few seen fits found offset is =
    let at : s ≡ Next found offset = cc in
    let long : length found ≡ length piece = ap length (same found offset at) in
    let all = total-append spans [] in
    (omega arith, omega arith)

module _ (d : List ℕ) where
  content_lean : (u : ℕ) (held : List ℕ) (offset : ℕ) (head : BoxHead) → u ≤ 16
      → Lean u held (layout_reads d (box_content held offset head))
  unfolding Lean
  content_lean u held offset head few =
      let P : BoxSays → Type 0 = λ t. Lean u held (layout_reads d t) in
      by_content P held offset head
      (by_piece P (offset + head.length) (min 16 (box_room head)) (λ front. done (Decided front))
      (λ _ piece next is. absurd cc)
      (λ _ piece next is. absurd cc))
      (λ piece next is. absurd cc)
      (λ _. lean_onward u 4 held (span_of d (offset + head.length) 4) (bytes_at d (offset + head.length) 4) _
      (total-span_of d (offset + head.length) 4)
      (λ index. by_piece (λ t. Lean (u + 4) held (layout_reads d t)) (offset + (head.length + 4))
      (min (box_room head - 4) (16 - length held))
      (λ piece. done (partial_said held offset head index piece))
      (λ _. partial_lean index [] [] (omega arith) (omega arith))
      (λ _. let q : ℕ = offset + (head.length + 4) in let k : ℕ = min (box_room head - 4) (16 - length held) in
      let few_of = total-span_of d q k in let seen = total_behind d q k in let long = part_length d q k in
      partial_lean index (span_of d q k) (part d q k) (omega arith) (omega arith))))
      (lean_said u held [] (said_behind held offset head []) []
      (λ found next. by_end (λ s. s ≡ Next found next → found ≡ []) held offset head [] (λ is. absurd cc) (λ _ is. cc))
      (omega arith) (omega arith) (omega arith)) where
        partial_lean : (index : List ℕ) (spans : List Span) (piece : List ℕ) → total spans ≤ length piece
            → length piece ≤ 16 - length held
            → Lean (u + 4) held (put_behind spans (gives (partial_said held offset head index piece)))
        partial_lean index spans piece = lean_said (u + 4) held spans (partial_said held offset head index piece) piece
            (λ found next. by_partial (λ s. s ≡ Next found next → found ≡ piece) held offset head index piece
            (λ is. absurd cc) (λ _ is. cc)) (omega arith)

  box_lean : (held : List ℕ) (offset : ℕ) → Lean 0 held (layout_reads d (jxl_box held offset))
  unfolding box_head Lean
  box_lean held offset =
      lean_onward 0 8 held (span_of d offset 8) (bytes_at d offset 8) _ (total-span_of d offset 8)
      (λ front. by_box (λ t. Lean 8 held (layout_reads d t)) (λ t. Lean 16 held (layout_reads d t)) offset front
      (box_content held offset) (λ e piece next is. absurd cc) (λ e piece next is. absurd cc)
      (λ each. lean_onward 8 8 held (span_of d (offset + 8) 8) (number_at d Big (offset + 8) 8) _
      (total-span_of d (offset + 8) 8) each)
      (λ head _ _. content_lean 8 held offset head (omega arith))
      (λ head _ _. content_lean 16 held offset head (omega arith)))

  -- the pieces together have at most 16 bytes, and the last box reads at most 12 more
  boxes_cost : Bounded 28 20 (chain_at jxl_chain d)
  unfolding Lean
  boxes_cost = chain_bounded jxl_chain d (jxl_advances d) 20 (λ t. 12 + (16 - length (concat t.held)))
      (λ t v offset is.
      let here = box_lean (concat t.held) t.offset v offset is in
      let few = here.0 in let fits = here.1 in
      let together = length_more t.held v in
      omega (arith, begins_one t))
      (λ t. omega (
        arith,
        begins_one t,
        at_most d (32 + (16 - length (concat t.held))) (jxl_box (concat t.held) t.offset)
            (box_few (concat t.held) t.offset),
      ))
      (start jxl_chain) where
        begins_one : (t : Along (List ℕ)) → 1 ≤ (next_record jxl_chain d t).begun
        begins_one t = omega arith

        length_more : (pieces : List (List ℕ)) (piece : List ℕ)
            → length (concat (pieces ++ piece ∷ [])) ≡ length (concat pieces) + length piece
        length_more pieces piece = ap length (joined pieces (concat pieces) piece refl)
            ∙ length-append (concat pieces) piece

  begun_within : (begun : ℕ) (found : Result (Option (List ℕ)) Halt) (spans : List Span)
      → total spans ≤ bound_of start_bound 16 found
      → Bounded 30 20 (after_records begun (go_on spans found (codestream d)))
  begun_within begun (Ok None) spans few = omega (
    arith,
    boxes_cost,
    total-append spans (chain_at jxl_chain d).marks,
    each_plus 20 begun (chain_at jxl_chain d).begun,
  )
  begun_within begun (Ok (Some front)) spans few = omega (arith, total-append spans [])
  begun_within begun (Err e) spans few = omega arith

-- With its type it is read from at most 28 bytes more than the input has: the codestream from at most 16 more.
pub jxl_laws : RecordedLaws 12 45 20 true false jxl
jxl_laws = record {
  local = local_then jxl_codestream (λ front d. just (jxl_size front) [])
      (local_then (λ d. layout_reads d jxl_start) (λ found d. codestream d found)
      (local_layout jxl_start (without_texts false 16 jxl_start start_few))
      local_behind)
      (λ front d e long. inl refl);
  -- a box is read from at most 20 bytes and its piece
  cost = λ d. omega (
    arith,
    bounded_then 20 30 0 (jxl_codestream d) (λ front. just (jxl_size front) [])
        (begun_within d (layout_reads d jxl_start).begun (layout_reads d jxl_start).answer
        (layout_reads d jxl_start).marks (omega (arith, costs start_bound 16 0 d jxl_start start_costs)))
        (λ front _. omega arith),
  );
  within = λ d. omega (
    arith,
    then_within (jxl_codestream d) (λ front. just (jxl_size front) []) (16 + length d) 0
        (then_within (layout_reads d jxl_start) (codestream d) 16 (length d) (at_most d 16 jxl_start start_few)
        (λ o _. codestream_within d o))
        (λ front _. omega arith),
  );
  lasts = λ _. jxl_lasts;
}
