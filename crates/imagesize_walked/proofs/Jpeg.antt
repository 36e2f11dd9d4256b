-- JPEG: how a walk along its segments goes, how many bytes they are read from, and what it sees of an input.
use Rattle.std.proofs.Common.{false, zero-add, ◌≡◌, ℕ, ◌+◌, ◌-◌, ◌*◌, ◌^◌, ◌<◌, ◌≤◌, Bool, true, cond, eqb, leb, List, [], ◌∷◌, ◌++◌, length, take, drop, Ok, Err, refl, sym, ap, ◌∙◌, subst, arith, slice_index}
use Rattle.std.proofs.lemmas.Bool.Decides.{nat_tests}
use Rattle.std.proofs.lemmas.List.Sums.{sum_by-append}
use Rattle.std.specs.Prelude.{count_by}
use Rattle.imagesize_walked.specs.Jpeg.{jpeg, jpeg_segments, jpeg_segment, jpeg_marked, jpeg_frame, jpeg_other, is_own_frame, is_own_end, count_starts, count_ends, depth}
use Rattle.imagesize_walked.specs.Walks.{depth_behind, is_plain, jpeg_first, jpeg_step}
use Rattle.imagesize_walked.specs.declared.formats.jpeg.Segments.{Segments}
use Rattle.imagesize_types.specs.declared.size.ImageSize.{ImageSize}
use Rattle.imagesize_source.specs.declared.halt.Halt.TheVariants.{Corrupted, Ended}
use Rattle.imagesize_source.specs.Chain.{Said, Decided, Next, Advances, start}
use Rattle.imagesize_source.specs.Counts.{AtMost}
use Rattle.imagesize_source.specs.Extension.{Plain}
use Rattle.imagesize_source.specs.Input.{part, span_of}
use Rattle.imagesize_source.specs.Numbers.{number}
use Rattle.imagesize_source.specs.Strides.{Strides}
use Rattle.imagesize_source.specs.declared.endian.Endian.TheVariants.{Big}
use Rattle.imagesize_source.specs.Layout.{Layout, bind, layout_reads, refuse, done}
use Rattle.imagesize_source.specs.Reading.{Reads, go_on, map_answer, put_behind, bytes_at, number_at, refuses, uncounted}
use Rattle.imagesize_source.specs.State.{State, IsSlice, total}
use Rattle.imagesize_source.specs.Walk.{CanFollow, EndsBy, after, decides, run}
use Rattle.imagesize_source.proofs.Advances.{Begins, Tells, advances, begins_bind, states_follow, tells, tells_bind}
use Rattle.imagesize_source.proofs.PastTheEnd.{bytes_beyond}
use Rattle.imagesize_source.proofs.Agreement.{without_texts}
use Rattle.imagesize_source.proofs.ChainLaws.{local_chain, lasts_chain, chain_cost, chain_within}
use Rattle.imagesize_source.proofs.Counts.{at_most, total-span_of}
use Rattle.imagesize_source.proofs.Answered.{bytes_is, part_first, big_pair, on_answer}
use Rattle.imagesize_source.proofs.Extension.{bytes_ok, number_ok}
use Rattle.imagesize_source.proofs.Layouts.{over-bind}
use Rattle.imagesize_source.proofs.Parts.{part_behind, part_front, part_length}
use Rattle.imagesize_source.proofs.Runs.{total-append}
use Rattle.imagesize_source.proofs.Saying.{Saying, saying}
use Rattle.imagesize_source.proofs.Slices.{slice_gives}
use Rattle.imagesize_source.proofs.States.{ends_after, run_is}
use Rattle.imagesize_source.proofs.Strides.{strides_on}
use Rattle.imagesize_source.proofs.Tests.{on_test}
use Rattle.imagesize_source.proofs.Way.{RecordedLaws, answers_last}

-- what holds of each way that a segment can go
by_head : (P : Layout (Said ℕ ImageSize) → Type 0) (k offset : ℕ) (head : List ℕ) → P (refuse Corrupted)
    → P (jpeg_frame offset)
    → ((marker : ℕ) → P (jpeg_other offset marker))
    → P (cond (eqb (slice_index head 0) 0xFF) (jpeg_marked k offset (slice_index head 1))
    (refuse Corrupted))
by_head P k offset head none frame other =
    on_test P (eqb (slice_index head 0) 0xFF) (jpeg_marked k offset (slice_index head 1)) (refuse Corrupted)
    (λ _. on_test P (is_own_frame k (slice_index head 1)) (jpeg_frame offset) _ (λ _. frame)
    (λ _. on_test P (is_own_end k (slice_index head 1)) (refuse Corrupted) (jpeg_other offset (slice_index head 1))
    (λ _. none)
    (λ _. other (slice_index head 1))))
    (λ _. none)

-- a segment tells an offset behind its own
segment_tells : (k offset : ℕ) → Tells (λ p. offset < p) (jpeg_segment k offset)
segment_tells k offset head =
    by_head (Tells (λ p. offset < p)) k offset head tt (λ height width. tt) (λ marker length. omega arith)

segment_begins : (k offset : ℕ) → Begins offset (jpeg_segment k offset)
segment_begins k offset = (omega arith, omega arith)

pub jpeg_advances : (d : List ℕ) → Advances jpeg_segments d
jpeg_advances = advances jpeg_segments (λ markers offset. segment_tells (depth markers) offset)
    (λ markers offset. segment_begins (depth markers) offset)

-- a segment is read from at most 6 bytes
segment_at_most : (k offset : ℕ) → AtMost 6 (jpeg_segment k offset)
segment_at_most k offset = (
  omega arith,
  λ head. by_head (AtMost 4) k offset head tt (omega arith, λ height. (omega arith, λ width. tt))
      (λ marker. (omega arith, λ length. tt)),
)

counts_on : (p : ℕ → Bool) (markers : List ℕ) (marker : ℕ)
    → count_by p (markers ++ marker ∷ []) ≡ count_by p markers + cond (p marker) 1 0
counts_on p markers marker = sum_by-append (λ m. cond (p m) 1 0) markers (marker ∷ [])
    ∙ ap (λ n. count_by p markers + n)
    (zero-add (cond (p marker) 1 0))

-- After these markers, k images are started and not ended. No image was ended that was not started.
record Nested (k : ℕ) (markers : List ℕ) : Type 0 where
  is : depth markers ≡ k
  balanced : count_ends markers ≤ count_starts markers

nested_on : (k marker : ℕ) (markers : List ℕ) → (marker ≡ 0xD9 → 0 < k) → Nested k markers
    → Nested (depth_behind k marker) (markers ++ marker ∷ [])
nested_on k marker markers inner h =
    let starts = counts_on (λ m. eqb m 0xD8) markers marker in
    let ends = counts_on (λ m. eqb m 0xD9) markers marker in
    let was = h.is in let before = h.balanced in
    record { is = grind (arith, nat_tests); balanced = grind (arith, nat_tests) }

-- from the end of the input on there is no segment
segment_ends : (d : List ℕ) (k offset : ℕ) → length d ≤ offset
    → uncounted (layout_reads d (jpeg_segment k offset)) ≡ refuses Ended
segment_ends d k offset h = ap uncounted (bytes_beyond d offset 2 (λ head. cond (eqb (slice_index head 0) 0xFF)
    (jpeg_marked k offset (slice_index head 1)) (refuse Corrupted)) h (omega arith))

-- ---- the segments over a depth

pub jpeg_tells : (s : Segments) (offset : ℕ) → Tells (λ p. offset < p) (jpeg_step s offset)
jpeg_tells s offset = tells_bind {D = Segments} {Z = ImageSize} (λ p. offset < p) (jpeg_segment s.depth offset)
    (after (λ marker. record { depth = depth_behind s.depth marker }) decides) (segment_tells s.depth offset) (λ y. tt) (λ v q up. up)

pub jpeg_begins : (s : Segments) (offset : ℕ) → Begins offset (jpeg_step s offset)
jpeg_begins s offset = begins_bind {D = Segments} {Z = ImageSize} offset (jpeg_segment s.depth offset)
    (after (λ marker. record { depth = depth_behind s.depth marker }) decides) (segment_begins s.depth offset) (λ y. tt) (λ y. tt)

pub jpeg_follows : CanFollow jpeg_step
jpeg_follows = states_follow jpeg_step jpeg_tells jpeg_begins

pub jpeg_ends : (s : Segments) → EndsBy jpeg_step s (Err Ended)
jpeg_ends s d offset far = ends_after d (jpeg_segment s.depth offset) _ (Err Ended) (segment_ends d s.depth offset far)

-- a segment that ends an image within the image is in one
abbrev Inner : ℕ → Said ℕ ImageSize → Type 0
Inner k (Decided size) = Unit {0}
Inner k (Next marker offset) = marker ≡ 0xD9 → 0 < k

segment_inner : (k offset : ℕ) → Saying (Inner k) (jpeg_segment k offset)
segment_inner k offset head = grind (arith, nat_tests)

-- the size of a JPEG is what its segments give, from the first one on
pub jpeg_is : (d : List ℕ) → jpeg d ≡ run jpeg_step jpeg_first 2 d
jpeg_is d = sym (run_is jpeg_step d (jpeg_follows d) jpeg_segments (λ k. record { depth = k }) depth_behind
    (λ markers k. Nested k markers) (jpeg_advances d)
    (λ markers k offset known i. layout_reads d (bind (jpeg_segment (sym known.is i) offset)
    (after (λ marker. record { depth = depth_behind k marker }) decides)))
    (λ markers k offset v q known got. nested_on k v markers
    (saying (Inner k) d (jpeg_segment k offset) (Next v q) (segment_inner k offset)
    (subst (λ n. (layout_reads d (jpeg_segment n offset)).answer ≡ Ok (Next v q)) known.is got)) known)
    0 (record { is = refl; balanced = omega arith }))

-- What may be read from an offset on: the bytes there, and 6 more where a segment can begin. A length below 2
-- leads to one of its own bytes, which is not FF.
abbrev allowed : List ℕ → ℕ → ℕ
allowed d offset = (length d - offset) + cond (eqb (slice_index d offset) 0xFF) 6 2

leaves : (n offset length first second next : ℕ) → offset + 4 ≤ n → length ≡ 256 * first + second
    → (length ≡ 0 → next ≡ first)
    → (length ≡ 1 → next ≡ second) → 4 + ((n - (offset + (2 + length))) + cond (eqb next 0xFF) 6 2) ≤ (n - offset) + 6
leaves n offset length first second next fits is none one = grind (arith, nat_tests)

module _ (d : List ℕ) (k offset : ℕ) where
  -- the first byte of a segment
  first_byte : (head : List ℕ) → bytes_at d offset 2 ≡ Ok head → slice_index d offset ≡ slice_index head 0
  first_byte head got =
      sym (part_first d offset 2 (omega arith)) ∙ ap (λ bs. slice_index bs 0) (bytes_is d head offset 2 got)

  Used : Reads (Said ℕ ImageSize) → Type 0
  Used reads = (marker next : ℕ) → reads.answer ≡ Ok (Next marker next)
      → total reads.marks + allowed d next ≤ allowed d offset

  other_used : (marker : ℕ) → 2 ≤ length d - offset → slice_index d offset ≡ 0xFF
      → Used (put_behind (span_of d offset 2) (layout_reads d (jpeg_other offset marker)))
  unfolding Used
  other_used marker begun ff =
      on_answer (λ w. Used (put_behind (span_of d offset 2) w)) (span_of d (offset + 2) 2) (number_at d Big (offset + 2) 2)
      (λ l. layout_reads d (done (Next marker (offset + (2 + l)))))
      (λ l got m next is.
      let at : offset + (2 + l) ≡ next = cc in
      let fits = number_ok d Big (offset + 2) 2 l got in
      let here : allowed d offset ≡ (length d - offset) + 6 = rw ff refl in
      omega (
        arith,
        total-span_of d offset 2,
        total-span_of d (offset + 2) 2,
        total-append (span_of d offset 2) (span_of d (offset + 2) 2 ++ []),
        total-append (span_of d (offset + 2) 2) [],
        leaves (length d) offset l (slice_index d (offset + 2)) (slice_index d (offset + 2 + 1)) (slice_index d next)
            (omega arith) (big_pair d (offset + 2) l got) (λ none. ap (slice_index d) (omega arith))
            (λ one. ap (slice_index d) (omega arith)),
      ))
      (λ e got m next is. absurd cc)

  segment_used : Used (layout_reads d (jpeg_segment k offset))
  unfolding Used
  segment_used = on_answer Used (span_of d offset 2) (bytes_at d offset 2) _
      (λ head got. let P : Layout (Said ℕ ImageSize) → Type 0 = λ t. Used (put_behind (span_of d offset 2) (layout_reads d t)) in
      on_test P (eqb (slice_index head 0) 0xFF) (jpeg_marked k offset (slice_index head 1)) (refuse Corrupted)
      (λ is. let ff : slice_index head 0 ≡ 0xFF = grind (arith, nat_tests) in
      on_test P (is_own_frame k (slice_index head 1)) (jpeg_frame offset) _
      (λ _ m next says. absurd (tells (λ _. ⊥) d (jpeg_frame offset) m next (λ height width. tt) says))
      (λ _. on_test P (is_own_end k (slice_index head 1)) (refuse Corrupted) (jpeg_other offset (slice_index head 1))
      (λ _ m next says. absurd cc)
      (λ _. other_used (slice_index head 1) (bytes_ok d head offset 2 got) (first_byte head got ∙ ff))))
      (λ _ m next says. absurd cc))
      (λ e got m next is. absurd cc)

  segment_allowed : total (layout_reads d (jpeg_segment k offset)).marks ≤ allowed d offset
  segment_allowed = by_first (eqb (slice_index d offset) 0xFF) refl where
    by_first : (is_ff : Bool) → eqb (slice_index d offset) 0xFF ≡ is_ff
        → total (layout_reads d (jpeg_segment k offset)).marks ≤ (length d - offset) + cond is_ff 6 2
    by_first true is = omega (arith, at_most d 6 (jpeg_segment k offset) (segment_at_most k offset))
    by_first false is = on_answer (λ w. total w.marks ≤ (length d - offset) + 2) (span_of d offset 2) (bytes_at d offset 2) _
        (λ head got. let no : eqb (slice_index head 0) 0xFF ≡ false = ap (λ b. eqb b 0xFF) (sym (first_byte head got)) ∙ is in
        rw no (omega (arith, total-span_of d offset 2, total-append (span_of d offset 2) [])))
        (λ e got. omega (arith, total-span_of d offset 2))

-- With its type it is read from at most 28 bytes more than the input has: the segments from at most 6 more.
pub jpeg_laws : RecordedLaws 12 18 20 true false jpeg
unfolding Used
jpeg_laws = record {
  local = local_chain jpeg_segments jpeg_advances
      (λ markers offset. without_texts false 6 (jpeg_segment (depth markers) offset)
      (segment_at_most (depth markers) offset));
  cost = λ d. omega (
    arith,
    chain_cost jpeg_segments d (jpeg_advances d) 6 (λ markers offset. segment_at_most (depth markers) offset),
  );
  within = λ d.
      let few : allowed d 2 ≤ length d + 6 = grind (arith, nat_tests) in
      omega (
        arith,
        chain_within jpeg_segments d (jpeg_advances d) (λ t. allowed d t.offset)
            (λ t marker next is. segment_used d (depth t.held) t.offset marker next is)
            (λ t. segment_allowed d (depth t.held) t.offset) (start jpeg_segments),
      );
  lasts = λ _. answers_last jpeg (lasts_chain jpeg_segments jpeg_advances
      (λ markers offset head. by_head Plain (depth markers) offset head tt (λ height width. tt) (λ marker length. tt)));
}

-- ---- segments that say nothing of the size, by their first four bytes

bytes_all : (d : List ℕ) (offset k : ℕ) → k ≤ length d - offset → bytes_at d offset k ≡ Ok (part d offset k)
unfolding bytes_at
bytes_all d offset k all = let test : leb k (length d - offset) ≡ true = grind (arith, nat_tests) in rw test refl

number_all : (d : List ℕ) (offset k : ℕ) → k ≤ length d - offset
    → number_at d Big offset k ≡ Ok (number Big (part d offset k))
unfolding number_at
number_all d offset k all = ap (map_answer (number Big)) (bytes_all d offset k all)

plain_says : (d head : List ℕ) (offset : ℕ) → length head ≡ 4 → head ≡ part d offset 4 → is_plain head ≡ true
    → (layout_reads d (jpeg_segment 0 offset)).answer
    ≡ Ok (Next (slice_index head 1) (offset + (2 + number Big (slice_index head 2 ∷ slice_index head 3 ∷ []))))
plain_says d (a ∷ b ∷ high ∷ low ∷ []) offset long is plain =
    let there : 4 ≤ length d - offset = omega (arith, ap length is, part_length d offset 4) in
    let front : part d offset 2 ≡ a ∷ b ∷ [] = sym (part_front d offset 2 4 (omega arith)) ∙ ap (take 2) (sym is) in
    let back : part d (offset + 2) 2 ≡ high ∷ low ∷ [] = sym (part_behind d offset 2 2) ∙ ap (drop 2) (sym is) in
    let head : bytes_at d offset 2 ≡ Ok (a ∷ b ∷ []) = bytes_all d offset 2 (omega arith) ∙ ap Ok front in
    let size : number_at d Big (offset + 2) 2 ≡ Ok (number Big (high ∷ low ∷ [])) =
    number_all d (offset + 2) 2 (omega arith) ∙ ap (λ bs. Ok (number Big bs)) back in
    let ff : eqb a 0xFF ≡ true = grind (arith, nat_tests) in
    let no_frame : is_own_frame 0 b ≡ false = grind (arith, nat_tests) in
    let no_end : is_own_end 0 b ≡ false = grind (arith, nat_tests) in
    rw (head, ff, no_frame, no_end, size) refl
plain_says d other offset long is plain = absurd (omega (arith, long))

-- and leaves the next segment in the image itself
plain_steps : (d head : List ℕ) (offset : ℕ) → length head ≡ 4 → head ≡ part d offset 4 → is_plain head ≡ true
    → (layout_reads d (jpeg_step jpeg_first offset)).answer
    ≡ Ok (Next jpeg_first (offset + (2 + number Big (slice_index head 2 ∷ slice_index head 3 ∷ []))))
plain_steps d head offset long is plain =
    let marker : ℕ = slice_index head 1 in
    let level : depth_behind 0 marker ≡ 0 = grind (arith, nat_tests) in
    let on : Said ℕ ImageSize → Layout (Said Segments ImageSize) =
    after (λ marker. record { depth = depth_behind 0 marker }) decides in
    ap (λ r. r.answer) (over-bind d (jpeg_segment 0 offset) on)
    ∙ ap (λ r. (go_on (layout_reads d (jpeg_segment 0 offset)).marks r (λ said. layout_reads d (on said))).answer)
    (plain_says d head offset long is plain)
    ∙ ap (λ k. Ok (Next (record { depth = k }) (offset + (2 + number Big (slice_index head 2 ∷ slice_index head 3 ∷ []))))) level

-- a walk has come over such a segment
pub plain_strides : {a b : State} {s : Segments} {first : ℕ} (head : List ℕ) (offset next : ℕ) → IsSlice b
    → length b.held.input < 2 ^ 63
    → offset + 4 ≤ length b.held.input → head ≡ part b.held.input offset 4 → is_plain head ≡ true
    → next ≡ offset + (2 + number Big (slice_index head 2 ∷ slice_index head 3 ∷ []))
    → Strides jpeg_step a b s first jpeg_first offset → Strides jpeg_step a b s first jpeg_first next
plain_strides {a} {b} head offset next slice short fits is plain to w =
    let long : length head ≡ 4 = omega (arith, ap length is, part_length b.held.input offset 4, fits) in
    let says = plain_steps b.held.input head offset long is plain ∙ ap (λ n. Ok (Next jpeg_first n)) (sym to) in
    strides_on jpeg_step jpeg_follows w jpeg_first next (slice_gives b (Next jpeg_first next) slice short says)
