-- How known bytes are gathered, from one part after another.
use Rattle.std.proofs.Common.{◌≡◌, ℕ, zero, suc, ◌+◌, ◌-◌, ◌<◌, ◌≤◌, min, true, false, ◌&&◌, leb, List, ◌++◌, length, take, drop, get_or, slice_index, Some, is_some, inl, inr, sym, ap, ◌∙◌, subst, arith, add-one}
use Rattle.std.specs.Prelude.{unwrap_or}
use Rattle.std.proofs.lemmas.Bool.{cases_lt, cond-true}
use Rattle.std.proofs.lemmas.Bool.Decides.{nat_tests}
use Rattle.std.proofs.lemmas.List.{length-take, get_or-take, drop-drop, ext_get_or}
use Rattle.std.proofs.Math.Seq.{drop-cons, take-add, take-append_seam}
use Rattle.imagesize_source.specs.declared.span.Span.{Span}
use Rattle.imagesize_source.specs.Input.{part}
use Rattle.imagesize_source.specs.Known.{byte_of, filled_input, byte_in_parts, reaches, length_within}
use Rattle.imagesize_source.proofs.Known.{filled_at, known_below, length-filled_input}
use Rattle.imagesize_source.proofs.Parts.{part_length, part_at, part_none}

-- a part goes on with the next one
part_more : (d : List ℕ) (offset i n : ℕ) → part d offset (i + n) ≡ part d offset i ++ part d (offset + i) n
unfolding part
part_more d offset i n = grind (arith, take-add, drop-drop)

-- the byte at an offset of the filled input, where it is known
known_byte : (n : ℕ) (spans : List Span) (bytes : List ℕ) (offset b : ℕ) → byte_in_parts n spans bytes offset ≡ Some b
    → slice_index (filled_input n spans bytes) offset ≡ b
known_byte n spans bytes offset b is =
    filled_at n spans bytes offset (known_below n spans bytes offset (ap is_some is)) ∙ ap (λ o. unwrap_or o 1) is

-- known bytes are a part of the filled input
pub run_part : (n : ℕ) (spans : List Span) (bytes run : List ℕ) (offset count : ℕ) → count ≤ length run
    → offset + count ≤ n
    → ((i : ℕ) → i < length run → byte_in_parts n spans bytes (offset + i) ≡ Some (get_or run i 0))
    → take count run ≡ part (filled_input n spans bytes) offset count
run_part n spans bytes run offset count few fits is =
    ext_get_or 0 (take count run) (part (filled_input n spans bytes) offset count)
    (length-take count run
    ∙ omega (arith, few, fits, part_length (filled_input n spans bytes) offset count, length-filled_input n spans bytes))
    (λ i below.
    let small : i < count = omega (arith, below, length-take count run) in
    get_or-take count run i 0 small
    ∙ sym (known_byte n spans bytes (offset + i) (get_or run i 0) (is i (omega (arith, small, few))))
    ∙ sym (part_at (filled_input n spans bytes) offset count i small))

-- the front of a buffer behind which a run was put
pub gathered_run : (n : ℕ) (spans : List Span) (bytes run buffer new : List ℕ) (offset index count : ℕ)
    → take index buffer ≡ part (filled_input n spans bytes) offset index → index ≤ length buffer → count ≤ length run
    → offset + index + count ≤ n
    → new ≡ take index buffer ++ take count run ++ drop (index + count) buffer
    → ((i : ℕ) → i < length run → byte_in_parts n spans bytes (offset + index + i) ≡ Some (get_or run i 0))
    → take (index + count) new ≡ part (filled_input n spans bytes) offset (index + count)
gathered_run n spans bytes run buffer new offset index count so_far within few fits is_new is =
    let d : List ℕ = filled_input n spans bytes in
    let long : length (part d offset (index + count)) ≡ index + count =
    omega (arith, part_length d offset (index + count), length-filled_input n spans bytes, fits) in
    rw (is_new, so_far, run_part n spans bytes run (offset + index) count few fits is, ← part_more d offset index count)
    (ap (λ k. take k (part d offset (index + count) ++ drop (index + count) buffer)) (sym long) ∙ take-append_seam _ _)

pub known_run : (n : ℕ) (spans : List Span) (bytes run : List ℕ) (offset index count : ℕ)
    → ((i : ℕ) → i < index → is_some (byte_in_parts n spans bytes (offset + i)) ≡ true) → count ≤ length run
    → ((i : ℕ) → i < length run → byte_in_parts n spans bytes (offset + index + i) ≡ Some (get_or run i 0))
    → (i : ℕ) → i < index + count → is_some (byte_in_parts n spans bytes (offset + i)) ≡ true
known_run n spans bytes run offset index count so_far few is i below = elim (cases_lt i index) [
  | inl less ↦ so_far i less
  | inr more ↦ ap is_some (subst (λ p. byte_in_parts n spans bytes p ≡ Some (get_or run (i - index) 0)) (omega (arith, more))
      (is (i - index) (omega (arith, below, more, few))))
]

-- A run of known bytes lies within the input, and is a part of it.
pub run_there : (n : ℕ) (spans : List Span) (bytes run : List ℕ) (offset count : ℕ)
    → ((i : ℕ) → i < length run → byte_in_parts n spans bytes (offset + i) ≡ Some (get_or run i 0)) → count ≤ length run
    → (count ≤ n - offset) × (take count run ≡ part (filled_input n spans bytes) offset count)
run_there n spans bytes run offset zero is few = (omega arith, sym (part_none (filled_input n spans bytes) offset))
run_there n spans bytes run offset (suc k) is few =
    let last = known_below n spans bytes (offset + k) (ap is_some (is k (omega (arith, few)))) in
    (omega (arith, last), run_part n spans bytes run offset (suc k) few (omega (arith, last)) is)

-- ---- one part after another

module _ (n : ℕ) (spans : List Span) (k : ℕ) (other : Span) (rest : List ℕ) (offset : ℕ) (here : k < length spans) where
  -- a part that has the offset gives its byte
  known_here : reaches n (get_or spans k other) offset ≡ true
      → byte_in_parts n (drop k spans) rest offset ≡ byte_of rest (offset - (get_or spans k other).start)
  known_here has = grind (arith, drop-cons, add-one, cond-true)

-- the bytes of a part of some bytes
front_known : (rest : List ℕ) (offset most i : ℕ) → i < length (part rest offset most)
    → byte_of rest (offset + i) ≡ Some (get_or (part rest offset most) i 0)
front_known rest offset most i below = grind (arith, part_length, part_at)

front_none : (rest : List ℕ) (offset most : ℕ) → 0 < most → length (part rest offset most) ≡ 0
    → is_some (byte_of rest offset) ≡ false
front_none rest offset most some none = grind (arith, part_length)

-- the parts before one have none of so many offsets from one on
abbrev pub NoneBefore : ℕ → List Span → ℕ → List ℕ → List ℕ → ℕ → ℕ → Type 0
NoneBefore n spans k bytes rest offset most =
    (0 < most) × ((i : ℕ) → i < most
    → byte_in_parts n spans bytes (offset + i) ≡ byte_in_parts n (drop k spans) rest (offset + i))

module _ (n : ℕ) (spans : List Span) (k : ℕ) (other : Span) (bytes rest run : List ℕ) (offset most len : ℕ)
    (here : k < length spans)
    (so_far : NoneBefore n spans k bytes rest offset most) (is_len : len ≡ length_within n (get_or spans k other))
    (has : (leb (get_or spans k other).start offset && leb (suc (offset - (get_or spans k other).start)) len) ≡ true)
    (runs : run ≡ part rest (offset - (get_or spans k other).start)
    (min most (len - (offset - (get_or spans k other).start)))) where
  abbrev begun : ℕ
  begun = offset - (get_or spans k other).start

  found_at : (i : ℕ) → i < min most (len - begun) → byte_in_parts n spans bytes (offset + i) ≡ byte_of rest (begun + i)
  found_at i small =
      let yes : reaches n (get_or spans k other) (offset + i) ≡ true = grind (arith, nat_tests) in
      let same : offset + i - (get_or spans k other).start ≡ begun + i = grind (arith, nat_tests) in
      so_far.1 i (omega (arith, small)) ∙ known_here n spans k other rest (offset + i) here yes ∙ ap (byte_of rest) same

  -- the run is what is known from the offset on, and it is empty only if nothing is
  pub found_run : (i : ℕ) → i < length run → byte_in_parts n spans bytes (offset + i) ≡ Some (get_or run i 0)
  found_run i below = grind (arith, found_at, part_length, front_known)

  pub found_none : length run ≡ 0 → is_some (byte_in_parts n spans bytes offset) ≡ false
  found_none none = grind (arith, found_at, front_none)

-- ---- parts that each begin where the one before ends, the first of them at offset 0

abbrev pub Joined : ℕ → List Span → ℕ → ℕ → Type 0
Joined n spans k end = ((bytes : List ℕ) (i : ℕ) → i < end → byte_in_parts n spans bytes i ≡ byte_of bytes i)
    × ((bytes : List ℕ) (i : ℕ) → end ≤ i → byte_in_parts n spans bytes i ≡ byte_in_parts n (drop k spans) (drop end bytes) i)

-- a byte of the first ones
pub joined_at : (bytes : List ℕ) (end i : ℕ) → i < length (part bytes 0 end) → byte_of bytes i ≡ Some (slice_index (part bytes 0 end) i)
joined_at bytes end i below = grind (arith, part_length, part_at)
