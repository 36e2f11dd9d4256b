-- JPEG XL: the ways that a box can go, how a walk along the boxes goes, and the size by what it found.
use Rattle.std.proofs.Common.{◌≡◌, ℕ, ◌+◌, ◌-◌, ◌*◌, ◌^◌, ◌<◌, ◌≤◌, true, false, cond, eqb, leb, ltb, not, ◌&&◌, ◌||◌, codes, take, drop, min, slice_index, List, [], ◌∷◌, ◌++◌, length, get_or, Option, None, Some, Result, Ok, Err, refl, sym, ap, ◌∙◌, subst, arith}
use Rattle.std.proofs.lemmas.Bool.Decides.{nat_tests}
use Rattle.std.proofs.lemmas.List.{append-nil, length-append, length-take, length-take-le, get_or-take, take-append-le, take_all}
use Rattle.std.proofs.lemmas.List.Folds.{concat-append}
use Rattle.std.specs.List.{concat}
use Rattle.imagesize_boxes.specs.declared.formats.jxl.boxes.BoxHead.{BoxHead}
use Rattle.imagesize_boxes.specs.Fields.{Fields, found, bits, binary, bits_of, field_at, with_found, found_by}
use Rattle.imagesize_boxes.specs.Walks.{boxes_with, field_in, found_in, front_of, jxl_step, jxl_verdict, no_boxes}
use Rattle.imagesize_boxes.specs.declared.formats.jxl.boxes.Boxes.{Boxes}
use Rattle.imagesize_source.specs.Walk.{CanFollow, EndsBy, after, decides, run}
use Rattle.imagesize_source.proofs.Layouts.{then_then}
use Rattle.imagesize_source.proofs.States.{ends_bind, goes, run_as}
use Rattle.imagesize_boxes.specs.Jxl.{has_signature, jxl_header, jxl_size, piece_at, box_checked, box_head, box_room, said_behind, codestream_box, partial_said, partial_box, box_content, jxl_box, jxl_chain, jxl_start, codestream, jxl_codestream, jxl}
use Rattle.imagesize_boxes.proofs.Fields.{field_front, found_alike}
use Rattle.imagesize_types.specs.Head.{begins}
use Rattle.imagesize_types.specs.declared.size.ImageSize.{ImageSize}
use Rattle.imagesize_source.specs.declared.halt.Halt.{Halt}
use Rattle.imagesize_source.specs.declared.halt.Halt.TheVariants.{Corrupted, Ended, InvalidJxlBoxSize, InvalidJxlSignature}
use Rattle.imagesize_source.specs.Chain.{Said, Decided, Next, Advances, chain_at}
use Rattle.imagesize_source.specs.Layout.{Layout, layout_reads, bind, bytes, bytes_there, accept}
use Rattle.imagesize_source.specs.Layout.Layout.{field, refuse, done}
use Rattle.imagesize_source.specs.Reading.{Reads, and_then, is_failure, is_spent, just, refuses, uncounted}
use Rattle.imagesize_source.specs.State.{State, Runs, EndedBy, IsSound}
use Rattle.imagesize_source.proofs.Advances.{Begins, Tells, accepted_begins, accepted_tells, advances, begins_bind, states_follow, tells_bind}
use Rattle.imagesize_source.proofs.Reached.{reads_nothing}
use Rattle.imagesize_source.proofs.PastTheEnd.{bytes_beyond}
use Rattle.imagesize_source.proofs.Runs.{runs_refused, runs_then}
use Rattle.imagesize_source.proofs.Tests.{on_test}
use Rattle.imagesize_source.specs.declared.endian.Endian.TheVariants.{Little, Big}
use Rattle.imagesize_source.specs.Numbers.{number, little}

-- the size by too few bytes, by others than the signature, and by its bits as a number
pub size_short : (all : List ℕ) (len : ℕ) → len < 2 → jxl_size (take len all) ≡ Err Corrupted
unfolding jxl_size
size_short all len short = let long = length-take len all in let test : ltb (length (take len all)) 2 ≡ true =
    grind (arith, nat_tests) in rw test refl

taken_signature : (all : List ℕ) (len : ℕ) → 2 ≤ len → has_signature (take len all) ≡ has_signature all
taken_signature all len enough = rw (get_or-take len all 0 0 (omega arith), get_or-take len all 1 0 (omega arith)) refl

pub size_unsigned : (all : List ℕ) (len : ℕ) → 2 ≤ len → len ≤ length all → has_signature all ≡ false
    → jxl_size (take len all)
    ≡ Err InvalidJxlSignature
unfolding jxl_size
size_unsigned all len enough within other =
    let long = length-take-le len all within in
    let test : ltb (length (take len all)) 2 ≡ false = grind (arith, nat_tests) in
    let sign : has_signature (take len all) ≡ false = taken_signature all len enough ∙ other in
    rw (test, sign) refl

pub size_signed : (all : List ℕ) (len n count : ℕ) → 2 ≤ len → len ≤ length all → has_signature all ≡ true
    → ((i : ℕ) → get_or all i 0 < 256) → n ≡ number Little all → count ≡ 8 * len
    → jxl_size (take len all) ≡ found_in n count jxl_header
unfolding jxl_size number
size_signed all len n count enough within is small sums counts =
    let long = length-take-le len all within in
    let test : ltb (length (take len all)) 2 ≡ false = grind (arith, nat_tests) in
    let sign : has_signature (take len all) ≡ true = taken_signature all len enough ∙ is in
    let here : jxl_size (take len all) ≡ found_by (field_at (bits_of (take len all))) jxl_header =
    rw (test, sign) refl in
    here
    ∙ found_alike (field_at (bits_of (take len all))) (field_in (little all) (8 * len)) jxl_header
    (field_front all len small within)
    ∙ ap (λ m. found_in m (8 * len) jxl_header) (sym sums)
    ∙ ap (λ k. found_in n k jxl_header) (sym counts)

-- what holds of each way that a box can go

abbrev pub BoxSays : Type 0
BoxSays = Layout (Said (List ℕ) (List ℕ))

pub by_checked : (P : BoxSays → Type 0) (offset : ℕ) (head : BoxHead) (f : BoxHead → BoxSays)
    → ((e : Halt) → P (refuse e))
    → (offset + head.size < 2 ^ 64 → (0 < head.size → head.length ≤ head.size) → P (f head))
    → P (bind (accept (box_checked offset head) done) f)
by_checked P offset head f out on =
    on_test (λ r. P (bind (accept r done) f)) (ltb (2 ^ 64 - 1) (offset + head.size)) (Err Corrupted) _
    (λ _. out Corrupted)
    (λ within. on_test (λ r. P (bind (accept r done) f)) (not (eqb head.size 0) && ltb head.size head.length)
    (Err (InvalidJxlBoxSize head.size (number Big head.tag))) (Ok head)
    (λ _. out (InvalidJxlBoxSize head.size (number Big head.tag)))
    (λ whole. on (grind (arith, nat_tests)) (λ some. grind (arith, nat_tests))))

-- The head of a box: it takes eight bytes, and eight more if these hold the size.
abbrev pub short_head : List ℕ → BoxHead
short_head front = record { tag = drop 4 front; size = number Big (take 4 front); length = 8 }

abbrev pub long_head : List ℕ → ℕ → BoxHead
long_head front size = record { tag = drop 4 front; size = size; length = 16 }

-- what follows those bytes
abbrev pub long_behind : ℕ → List ℕ → (BoxHead → BoxSays) → ℕ → BoxSays
long_behind offset front f size = bind (accept (box_checked offset (long_head front size)) done) f

abbrev pub head_behind : ℕ → List ℕ → (BoxHead → BoxSays) → BoxSays
head_behind offset front f = bind (cond (eqb (number Big (take 4 front)) 1)
    (field Big (offset + 8) 8 (λ size. accept (box_checked offset (long_head front size)) done))
    (accept (box_checked offset (short_head front)) done)) f

pub by_head : (P : BoxSays → Type 0) (offset : ℕ) (front : List ℕ) (f : BoxHead → BoxSays)
    → P (field Big (offset + 8) 8 (long_behind offset front f))
    → P (bind (accept (box_checked offset (short_head front)) done) f) → P (head_behind offset front f)
by_head P offset front f long short = on_test (λ t. P (bind t f)) (eqb (number Big (take 4 front)) 1)
    (field Big (offset + 8) 8 (λ size. accept (box_checked offset (long_head front size)) done))
    (accept (box_checked offset (short_head front)) done) (λ _. long) (λ _. short)

-- what holds of a box: P after its first eight bytes, and Q after eight more
pub by_box : (P Q : BoxSays → Type 0) (offset : ℕ) (front : List ℕ) (f : BoxHead → BoxSays)
    → ((e : Halt) → P (refuse e)) → ((e : Halt) → Q (refuse e))
    → (((size : ℕ) → Q (long_behind offset front f size)) → P (field Big (offset + 8) 8 (long_behind offset front f)))
    → ((head : BoxHead) → head.length ≡ 8 → (0 < head.size → head.length ≤ head.size) → P (f head))
    → ((head : BoxHead) → head.length ≡ 16 → (0 < head.size → head.length ≤ head.size) → Q (f head))
    → P (head_behind offset front f)
by_box P Q offset front f out_short out_long more short long = by_head P offset front f
    (more (λ size. by_checked Q offset (long_head front size) f out_long (λ _. long (long_head front size) refl)))
    (by_checked P offset (short_head front) f out_short (λ _. short (short_head front) refl))

pub by_piece : (P : BoxSays → Type 0) (offset k : ℕ) (f : List ℕ → BoxSays) → (k ≡ 0 → P (f []))
    → (0 < k → P (bytes_there offset k f))
    → P (bind (piece_at offset k) f)
unfolding piece_at
by_piece P offset k f none some =
    on_test (λ t. P (bind t f)) (eqb k 0) (done []) (bytes_there offset k (λ piece. done piece))
    (λ is. none (grind (arith, nat_tests)))
    (λ is. some (grind (arith, nat_tests)))

pub by_end : (P : Said (List ℕ) (List ℕ) → Type 0) (held : List ℕ) (offset : ℕ) (head : BoxHead) (piece : List ℕ)
    → P (Decided (held ++ piece)) → (0 < head.size → P (Next piece (offset + head.size)))
    → P (said_behind held offset head piece)
by_end P held offset head piece last next =
    on_test P (eqb head.size 0) (Decided (held ++ piece)) (Next piece (offset + head.size))
    (λ _. last) (λ is. next (grind (arith, nat_tests)))

pub by_partial : (P : Said (List ℕ) (List ℕ) → Type 0) (held : List ℕ) (offset : ℕ) (head : BoxHead)
    (index piece : List ℕ)
    → P (Decided (held ++ piece)) → (0 < head.size → P (Next piece (offset + head.size)))
    → P (partial_said held offset head index piece)
by_partial P held offset head index piece last next =
    on_test P (eqb (length held + length piece) 16 || leb 0x80 (slice_index index 0)) (Decided (held ++ piece))
    (said_behind held offset head piece) (λ _. last)
    (λ _. by_end P held offset head piece last next)

pub by_content : (P : BoxSays → Type 0) (held : List ℕ) (offset : ℕ) (head : BoxHead) → P (codestream_box offset head)
    → P (refuse Ended)
    → (4 ≤ box_room head → P (bytes (offset + head.length) 4
    (λ index. bind (piece_at (offset + (head.length + 4)) (min (box_room head - 4) (16 - length held)))
    (λ piece. done (partial_said held offset head index piece)))))
    → P (done (said_behind held offset head [])) → P (box_content held offset head)
by_content P held offset head whole none partial other =
    on_test P (begins (codes "jxlc") head.tag) (codestream_box offset head) _ (λ _. whole)
    (λ _. on_test P (begins (codes "jxlp") head.tag) (partial_box held offset head)
    (done (said_behind held offset head []))
    (λ _. on_test P (ltb (box_room head) 4) (refuse Ended) _ (λ _. none) (λ is. partial (grind (arith, nat_tests))))
    (λ _. other))

content_tells : (held : List ℕ) (offset : ℕ) (head : BoxHead) → Tells (λ p. offset < p) (box_content held offset head)
content_tells held offset head =
    let T : BoxSays → Type 0 = Tells (λ p. offset < p) in
    let End : Said (List ℕ) (List ℕ) → Type 0 = λ s. Tells (λ p. offset < p) (done s) in
    by_content T held offset head (by_piece T _ _ _ (λ _. tt) (λ _ front. tt)) tt
    (λ _ index. by_piece T _ _ _ (λ _. by_partial End held offset head index [] tt (λ some. omega arith))
    (λ _ piece. by_partial End held offset head index piece tt (λ some. omega arith)))
    (by_end End held offset head [] tt (λ some. omega arith))

-- a box tells an offset behind its own
pub box_tells : (held : List ℕ) (offset : ℕ) → Tells (λ p. offset < p) (jxl_box held offset)
unfolding box_head
box_tells held offset front = by_box (Tells (λ p. offset < p)) (Tells (λ p. offset < p)) offset front
    (box_content held offset) (λ e. tt) (λ e. tt) (λ each. each) (λ head _ _. content_tells held offset head)
    (λ head _ _. content_tells held offset head)

pub box_begins : (held : List ℕ) (offset : ℕ) → Begins offset (jxl_box held offset)
unfolding box_head
box_begins held offset = (omega arith, omega arith)

pub jxl_advances : (d : List ℕ) → Advances jxl_chain d
jxl_advances = advances jxl_chain (λ pieces offset. box_tells (concat pieces) offset)
    (λ pieces offset. box_begins (concat pieces) offset)

-- from the end of the input on no box begins
pub boxes_end : (front : List ℕ) (d : List ℕ) (offset : ℕ) → length d ≤ offset
    → uncounted (layout_reads d (jxl_box front offset)) ≡ refuses Ended
unfolding box_head
boxes_end front d offset far =
    ap uncounted (bytes_beyond d offset 8 (λ head. head_behind offset head (box_content front offset)) far (omega arith))

-- the bytes of the boxes so far, and of one more
pub joined : (pieces : List (List ℕ)) (front piece : List ℕ) → concat pieces ≡ front
    → concat (pieces ++ piece ∷ []) ≡ front ++ piece
joined pieces front piece is = concat-append pieces (piece ∷ []) ∙ ap (λ rest. concat pieces ++ rest) (append-nil piece)
    ∙ ap (λ held. held ++ piece) is

-- The boxes over the bytes of a codestream so far: each is after the one before.
pub jxl_tells : (boxes : Boxes) (offset : ℕ) → Tells (λ p. offset < p) (jxl_step boxes offset)
jxl_tells boxes offset =
    tells_bind (λ p. offset < p) (jxl_box (front_of boxes) offset) (after (boxes_with boxes) jxl_verdict)
    (box_tells (front_of boxes) offset) (λ front. accepted_tells Boxes (λ p. offset < p) (jxl_size front)) (λ piece q later. later)

pub jxl_begins : (boxes : Boxes) (offset : ℕ) → Begins offset (jxl_step boxes offset)
jxl_begins boxes offset =
    begins_bind offset (jxl_box (front_of boxes) offset) (after (boxes_with boxes) jxl_verdict)
    (box_begins (front_of boxes) offset) (λ front. accepted_begins Boxes offset (jxl_size front))
    (λ front. accepted_tells Boxes (λ _. ⊥) (jxl_size front))

pub jxl_follows : CanFollow jxl_step
jxl_follows = states_follow jxl_step jxl_tells jxl_begins

pub jxl_ends : (boxes : Boxes) → EndsBy jxl_step boxes (Err Ended)
jxl_ends boxes d offset far =
    ends_bind d (jxl_box (front_of boxes) offset) (after (boxes_with boxes) jxl_verdict) (Err Ended)
    (boxes_end (front_of boxes) d offset far)

-- the pieces so far are the first bytes that are kept
record Kept (pieces : List (List ℕ)) (boxes : Boxes) : Type 0 where
  is : concat pieces ≡ front_of boxes
  within : boxes.len ≤ length boxes.bytes

kept_on : (pieces : List (List ℕ)) (boxes : Boxes) (piece : List ℕ) → Kept pieces boxes
    → Kept (pieces ++ piece ∷ []) (boxes_with boxes piece)
kept_on pieces boxes piece known =
    let front : List ℕ = front_of boxes in
    let rest : List ℕ = drop (boxes.len + length piece) boxes.bytes in
    let long : length front ≡ boxes.len = length-take-le boxes.len boxes.bytes known.within in
    let both : length (front ++ piece) ≡ boxes.len + length piece = length-append front piece ∙ ap (λ n. n + length piece) long in
    record {
      is = joined pieces front piece known.is
          ∙ sym (take-append-le (boxes.len + length piece) (front ++ piece) rest (omega arith)
          ∙ take_all (boxes.len + length piece) (front ++ piece) (omega arith));
      within = omega (arith, length-append (front ++ piece) rest);
    }

-- the boxes over the bytes so far are the chain, and then the size
pub boxes_is : (d : List ℕ)
    → run jxl_step no_boxes 12 d ≡ and_then (chain_at jxl_chain d) (λ front. just (jxl_size front) [])
boxes_is d =
    run_as jxl_step d (jxl_follows d) jxl_chain (λ (boxes : Boxes). boxes) boxes_with jxl_verdict Kept (jxl_advances d)
    (λ pieces boxes offset known i.
    layout_reads d (bind (jxl_box (sym known.is i) offset) (after (boxes_with boxes) jxl_verdict)))
    (λ pieces boxes offset v q known got. kept_on pieces boxes v known) no_boxes (record { is = refl; within = omega arith })
    ∙ (λ i. and_then (chain_at jxl_chain d) (λ front. sized_as (jxl_size front) i))
  where
    sized_as : (r : Result ImageSize Halt)
        → and_then (layout_reads d (accept r (λ size. decides {S = Boxes} size))) (goes jxl_step d (jxl_follows d)) ≡ just r []
    sized_as (Ok size) = refl
    sized_as (Err e) = refl

-- the first bytes, and then the size from them or from the boxes
jxl_splits : (d : List ℕ) → jxl d
    ≡ and_then (layout_reads d jxl_start) (λ found. and_then (codestream d found) (λ front. just (jxl_size front) []))
jxl_splits d =
    sym (then_then (layout_reads d jxl_start) (codestream d) (λ front. just (jxl_size front) [])
    (λ found. and_then (codestream d found) (λ front. just (jxl_size front) [])) (λ found. refl))

-- the size from the first bytes of a codestream without boxes, or from the boxes after the signature box
abbrev pub jxl_behind : List ℕ → Option (List ℕ) → Reads ImageSize
jxl_behind d (Some front) = just (jxl_size front) []
jxl_behind d None = run jxl_step no_boxes 12 d

pub jxl_is : (d : List ℕ) → jxl d ≡ and_then (layout_reads d jxl_start) (jxl_behind d)
jxl_is d = jxl_splits d ∙ (λ i. and_then (layout_reads d jxl_start) (λ found. each found i)) where
  each : (found : Option (List ℕ)) → and_then (codestream d found) (λ front. just (jxl_size front) []) ≡ jxl_behind d found
  each (Some front) = refl
  each None = sym (boxes_is d)

-- The size by a codestream.

-- a refusal that ends no call by itself
abbrev pub Plainly : {X : Type 0} → Result X Halt → Type 0
Plainly (Ok x) = Unit {0}
Plainly (Err e) = (is_failure e ≡ false) × ((b : State) → EndedBy b e)

plainly : (e : Halt) → is_failure e ≡ false → is_spent e ≡ false → (is_failure e ≡ false) × ((b : State) → EndedBy b e)
plainly e no_fault none_spent = (no_fault, λ b. record { budget = λ is. absurd cc; fault = λ is. absurd cc })

plain_found : {X : Type 0} (list : List ℕ) (t : Fields X) → Plainly (found_by (field_at list) t)
unfolding field_at
plain_found list (found x) = tt
plain_found list (bits from count f) =
    on_test (λ r. Plainly (with_found r (λ n. found_by (field_at list) (f n)))) (leb (from + count) (length list))
    (Ok (binary (take count (drop from list)))) (Err Corrupted)
    (λ _. plain_found list (f (binary (take count (drop from list))))) (λ _. plainly Corrupted refl refl)

pub plain_size : (front : List ℕ) → Plainly (jxl_size front)
unfolding jxl_size
plain_size front =
    on_test Plainly (ltb (length front) 2) (Err Corrupted) _ (λ _. plainly Corrupted refl refl)
    (λ _. on_test Plainly (has_signature front) (found_by (field_at (bits_of front)) jxl_header)
    (Err InvalidJxlSignature)
    (λ _. plain_found (bits_of front) jxl_header)
    (λ _. plainly InvalidJxlSignature refl refl))

sized_by : {b : State} (r : Result ImageSize Halt) → IsSound b → Plainly r
    → Runs b b r (just r [])
sized_by {b} (Ok size) sound plain = reads_nothing b (Ok size) sound refl tt
sized_by {b} (Err e) sound plain = reads_nothing b (Err e) sound plain.0 (plain.1 b)

-- the size by a codestream that was found
sized : {a b : State} (front : List ℕ) → Runs a b (Ok front) (jxl_codestream a.held.input)
    → Runs a b (jxl_size front)
    (jxl a.held.input)
sized {a} {b} front run =
    runs_then (jxl_codestream a.held.input) (λ found held. just (jxl_size found) []) run
    (sized_by (jxl_size front) run.sound_after (plain_size front))

-- the size by the first bytes of an input that is a codestream
pub sized_whole : {a b : State} (front : List ℕ) → Runs a b (Ok (Some front)) (layout_reads a.held.input jxl_start)
    → Runs a b (jxl_size front)
    (jxl a.held.input)
sized_whole {a} {b} front run = sized front
    (runs_then (layout_reads a.held.input jxl_start) (λ found held. codestream held.input found) run
    (reads_nothing b (Ok front) run.sound_after refl tt))

-- the size by the boxes
pub sized_boxed : {a m b : State} (r : Result ImageSize Halt) → Runs a m (Ok None) (layout_reads a.held.input jxl_start)
    → Runs m b r (and_then (chain_at jxl_chain m.held.input) (λ front. just (jxl_size front) []))
    → Runs a b r (jxl a.held.input)
sized_boxed {a} {m} {b} r run behind = subst (Runs a b r) (sym (jxl_splits a.held.input))
    (runs_then (layout_reads a.held.input jxl_start)
    (λ found held. and_then (codestream held.input found) (λ front. just (jxl_size front) [])) run behind)

-- no size, since the first read failed
pub refused_start : {a b : State} (e : Halt) → Runs a b (Err e) (layout_reads a.held.input jxl_start)
    → Runs a b (Err e) (jxl a.held.input)
refused_start {a} e run =
    runs_refused (jxl_codestream a.held.input) (λ front. just (jxl_size front) [])
    (runs_refused (layout_reads a.held.input jxl_start) (codestream a.held.input) run)
