-- The bytes in spans, and what agrees on these.
use Rattle.std.proofs.Common.{◌≡◌, ℕ, suc, ◌+◌, ◌-◌, ◌<◌, ◌≤◌, min, true, false, List, [], ◌∷◌, ◌++◌, length, take, drop, get_or, slice_index, refl, sym, ap, ◌∙◌, subst, arith}
use Rattle.std.specs.Cmp.Lexicographic.{pointwise, same_text, other_text}
use Rattle.std.specs.Prelude.{nat_eq}
use mathlib.Core.Logic.{⊎_elim}
use Rattle.std.proofs.lemmas.Bool.{or_cases, or_left, or_right}
use Rattle.std.proofs.lemmas.Bool.Decides.{nat_tests}
use Rattle.std.proofs.lemmas.Grind.{flat_map-append}
use Rattle.std.proofs.lemmas.List.{append_assoc, append_cancel_left, append-nil, ext_get_or, length-take, take-append-drop, take-take, take_more}
use Rattle.std.proofs.Math.Seq.{drop-append_seam, drop-cons, take-append_seam}
use Rattle.imagesize_source.specs.Agreement.{Agrees, is_covered, has_offset}
use Rattle.imagesize_source.specs.Input.{part}
use Rattle.imagesize_source.specs.declared.span.Span.{Span}
use Rattle.imagesize_source.specs.Known.{bytes_of}
use Rattle.imagesize_source.proofs.Parts.{part_at, part_length, parts_long}

-- the front of a part is a part
pub copied_front : (d found new : List ℕ) (offset k n m : ℕ) → found ≡ part d offset k → n ≡ min m (length found)
    → take n new ≡ take n found → take n new ≡ part d offset n
unfolding part
copied_front d found new offset k n m is count copied =
    let few : n ≤ k = omega (arith, count, ap length is, length-take k (drop offset d)) in
    copied ∙ ap (take n) is ∙ take-take n k (drop offset d) few

-- lists whose fronts are of one length are the same only where both parts are
fronts : (a b x y : List ℕ) → length a ≡ length b → a ++ x ≡ b ++ y → a ≡ b
fronts a b x y long same = sym (take-append_seam a x) ∙ ap (take (length a)) same ∙ ap (λ n. take n (b ++ y)) long
    ∙ take-append_seam b y

ends : (a b x y : List ℕ) → length a ≡ length b → a ++ x ≡ b ++ y → x ≡ y
ends a b x y long same = sym (drop-append_seam a x) ∙ ap (drop (length a)) same ∙ ap (λ n. drop n (b ++ y)) long
    ∙ drop-append_seam b y

-- an offset of a span, as numbers
within_span : (s : Span) (offset : ℕ) → has_offset s offset ≡ true → (s.start ≤ offset) × (offset < s.start + s.len)
within_span s offset has = (grind (arith, nat_tests), grind (arith, nat_tests))

span_has : (s : Span) (i : ℕ) → i < s.len → has_offset s (s.start + i) ≡ true
span_has s i below = grind (arith, nat_tests)

-- where two inputs have the same part, they have the same byte at each offset of it
same_at : (d e : List ℕ) (s : Span) (offset : ℕ) → part e s.start s.len ≡ part d s.start s.len → has_offset s offset ≡ true
    → slice_index e offset ≡ slice_index d offset
same_at d e s offset same has =
    let i : ℕ = offset - s.start in
    let (low, high) = within_span s offset has in
    let at : s.start + i ≡ offset = omega arith in
    let below : i < s.len = omega arith in
    subst (λ p. slice_index e p ≡ slice_index d p) at
    (sym (part_at e s.start s.len i below) ∙ ap (λ bs. get_or bs i 0) same ∙ part_at d s.start s.len i below)

same_byte : (d e : List ℕ) (spans : List Span) (offset : ℕ) → length e ≡ length d → bytes_of e spans ≡ bytes_of d spans
    → is_covered spans offset ≡ true → slice_index e offset ≡ slice_index d offset
same_byte d e [] offset long same here = absurd cc
same_byte d e (s ∷ spans) offset long same here =
    let lengths = parts_long d e s.start s.len long in
    let front = fronts (part e s.start s.len) (part d s.start s.len) (bytes_of e spans)
    (bytes_of d spans) lengths same in
    let rest = ends (part e s.start s.len) (part d s.start s.len) (bytes_of e spans) (bytes_of d spans) lengths same in
    ⊎_elim (same_at d e s offset front) (same_byte d e spans offset long rest)
    (or_cases (has_offset s offset) (is_covered spans offset) here)

-- an input of the same length with the same bytes in the spans agrees on these
pub agrees_by_bytes : (d e : List ℕ) (spans : List Span) → length e ≡ length d → bytes_of e spans ≡ bytes_of d spans
    → Agrees d e spans
agrees_by_bytes d e spans long same =
    record { as_long = long; same_byte = λ offset here. same_byte d e spans offset long same here }

-- and one that agrees has the same bytes
same_part : (d e : List ℕ) (s : Span) → length e ≡ length d
    → ((offset : ℕ) → has_offset s offset ≡ true → slice_index e offset
    ≡ slice_index d offset) → part e s.start s.len ≡ part d s.start s.len
same_part d e s long agrees =
    ext_get_or 0 (part e s.start s.len) (part d s.start s.len) (parts_long d e s.start s.len long)
    (λ i below.
    let small : i < s.len = omega (arith, below, part_length e s.start s.len) in
    part_at e s.start s.len i small ∙ agrees (s.start + i) (span_has s i small)
    ∙ sym (part_at d s.start s.len i small))

pub bytes_by_agreement : (d e : List ℕ) (spans : List Span) → Agrees d e spans → bytes_of e spans ≡ bytes_of d spans
bytes_by_agreement d e [] agrees = refl
bytes_by_agreement d e (s ∷ spans) agrees =
    let front = same_part d e s agrees.as_long
    (λ offset has. agrees.same_byte offset (or_left (has_offset s offset) (is_covered spans offset) has)) in
    let later : Agrees d e spans = record {
      as_long = agrees.as_long;
      same_byte = λ offset here. agrees.same_byte offset (or_right (has_offset s offset) (is_covered spans offset) here);
    } in
    ap (λ bs. bs ++ bytes_of e spans) front ∙ ap (λ bs. part d s.start s.len ++ bs) (bytes_by_agreement d e spans later)

-- the bytes in a span of these
abbrev pub bytes_at : List ℕ → List Span → ℕ → Span → List ℕ
bytes_at d spans i other = part d (get_or spans i other).start (get_or spans i other).len

-- the bytes in the spans before one, in it and behind it
split_at : (d : List ℕ) (spans : List Span) (i : ℕ) (other : Span) → i < length spans →
    bytes_of d spans ≡ bytes_of d (take i spans) ++ (bytes_at d spans i other ++ bytes_of d (drop (suc i) spans))
split_at d spans i other within =
    ap (bytes_of d) (sym (take-append-drop i spans))
    ∙ flat_map-append (λ s. part d s.start s.len) (take i spans) (drop i spans)
    ∙ ap (λ ss. bytes_of d (take i spans) ++ bytes_of d ss) (drop-cons spans i other within)

-- the bytes that are left do not begin with those in the next span, so the bytes in all spans are others
pub turned_away : (d : List ℕ) (spans : List Span) (i : ℕ) (other : Span) (next rest bytes : List ℕ) → i < length spans
    →
    next ≡ bytes_at d spans i other → bytes_of d (take i spans) ++ rest ≡ bytes
    → pointwise nat_eq (take (length next) rest) next ≡ false →
    bytes_of d spans ≡ bytes → ⊥
turned_away d spans i other next rest bytes within is so_far differs same =
    let behind : rest ≡ bytes_at d spans i other ++ bytes_of d (drop (suc i) spans) =
    append_cancel_left (bytes_of d (take i spans)) rest (bytes_at d spans i other ++ bytes_of d (drop (suc i) spans))
    (so_far ∙ sym same ∙ split_at d spans i other within) in
    let begins : take (length next) rest ≡ next =
    ap (take (length next)) (behind ∙ ap (λ bs. bs ++ bytes_of d (drop (suc i) spans)) (sym is))
    ∙ take-append_seam next (bytes_of d (drop (suc i) spans)) in
    other_text (take (length next) rest) next (sym differs) begins

-- one span more
bytes_more : (d : List ℕ) (spans : List Span) (i : ℕ) (other : Span) → i < length spans →
    bytes_of d (take (i + 1) spans) ≡ bytes_of d (take i spans) ++ bytes_at d spans i other
bytes_more d spans i other within =
    ap (bytes_of d) (take_more spans i other within)
    ∙ flat_map-append (λ s. part d s.start s.len) (take i spans) (get_or spans i other ∷ [])
    ∙ ap (λ bs. bytes_of d (take i spans) ++ bs) (append-nil (bytes_at d spans i other))

-- they begin with those in the next span, and the others are left
pub one_more : (d : List ℕ) (spans : List Span) (i : ℕ) (other : Span) (next rest behind bytes : List ℕ)
    → i < length spans →
    next ≡ bytes_at d spans i other → bytes_of d (take i spans) ++ rest ≡ bytes
    → pointwise nat_eq (take (length next) rest) next ≡ true →
    behind ≡ drop (length next) rest → bytes_of d (take (i + 1) spans) ++ behind ≡ bytes
one_more d spans i other next rest behind bytes within is so_far begins left =
    let split : next ++ behind ≡ rest =
    ap (λ bs. next ++ bs) left
    ∙ ap (λ bs. bs ++ drop (length next) rest) (sym (same_text (take (length next) rest) next (sym begins)))
    ∙ take-append-drop (length next) rest in
    ap (λ bs. bs ++ behind) (bytes_more d spans i other within ∙ ap (λ bs. bytes_of d (take i spans) ++ bs) (sym is))
    ∙ append_assoc (bytes_of d (take i spans)) next behind
    ∙ ap (λ bs. bytes_of d (take i spans) ++ bs) split ∙ so_far
