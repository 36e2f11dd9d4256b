-- Which bytes parts know.
use Rattle.std.proofs.lemmas.Bool.{cond_both}
use Rattle.std.proofs.Common.{◌≡◌, ℕ, ◌+◌, ◌-◌, ◌<◌, ◌≤◌, true, false, ◌||◌, List, [], ◌∷◌, ◌++◌, length, drop, get_or, slice_index, Option, Some, is_some, refl, sym, ap, ◌∙◌, subst, arith, min, take}
use Rattle.std.specs.Prelude.{Bool, unwrap_or, ◌==◌}
use Rattle.std.proofs.lemmas.Bool.Decides.{nat_tests}
use Rattle.std.proofs.lemmas.List.{append-nil, length-append, take_all, length-drop, drop_min, get_or_append_left}
use Rattle.std.proofs.lemmas.List.FromFn.{length-map-range_with_len, get_or-map-range_with_len}
use Rattle.std.proofs.Math.Bool.{or-false}
use Rattle.std.proofs.Math.Seq.{drop-append_seam}
use Rattle.imagesize_source.specs.declared.span.Span.{Span}
use Rattle.imagesize_source.specs.Agreement.{is_covered, has_offset}
use Rattle.imagesize_source.specs.Input.{part, span_at}
use Rattle.imagesize_source.specs.Known.{AllKnown, HasParts, byte_of, bytes_of, filled_input, byte_in_parts, reaches, length_within}
use Rattle.imagesize_source.proofs.Parts.{part_length, part_at}

pub length-filled_input : (n : ℕ) (spans : List Span) (bytes : List ℕ) → length (filled_input n spans bytes) ≡ n
unfolding filled_input
length-filled_input n spans bytes = grind (arith, length-map-range_with_len)

pub filled_at : (n : ℕ) (spans : List Span) (bytes : List ℕ) (offset : ℕ) → offset < n
    → slice_index (filled_input n spans bytes) offset ≡ unwrap_or (byte_in_parts n spans bytes offset) 1
unfolding filled_input
filled_at n spans bytes offset below = grind (arith, get_or-map-range_with_len)

-- the byte comes from the first part, or from the later ones
in_parts : (P : Option ℕ → Type 0) (n : ℕ) (s : Span) (spans : List Span) (bytes : List ℕ) (offset : ℕ)
    → (reaches n s offset ≡ true → P (byte_of bytes (offset - s.start)))
    → (reaches n s offset ≡ false → P (byte_in_parts n spans (drop (length_within n s) bytes) offset))
    → P (byte_in_parts n (s ∷ spans) bytes offset)
in_parts P n s spans bytes offset = cond_both (reaches n s offset) _ _ P

pub known_below : (n : ℕ) (spans : List Span) (bytes : List ℕ) (offset : ℕ)
    → is_some (byte_in_parts n spans bytes offset) ≡ true → offset < n
known_below n [] bytes offset = λ is. absurd cc
known_below n (s ∷ spans) bytes offset =
    grind (arith, in_parts, (known_below n spans (drop (length_within n s) bytes) offset))

offset_in : (n : ℕ) (s : Span) (offset : ℕ) → reaches n s offset ≡ true
    → (s.start + (offset - s.start) ≡ offset) × (offset - s.start < length_within n s)
offset_in n s offset is = (grind (arith, nat_tests), grind (arith, nat_tests))

-- a list of bytes gives those that are there
byte_some : (bytes : List ℕ) (i b : ℕ) → byte_of bytes i ≡ Some b → get_or bytes i 0 ≡ b
byte_some bytes i b is = grind arith

pub byte_there : (bytes : List ℕ) (i : ℕ) → i < length bytes → byte_of bytes i ≡ Some (get_or bytes i 0)
byte_there bytes i below = grind arith

-- the bytes of the later parts
later_bytes : (d : List ℕ) (s : Span) (spans : List Span) (bytes : List ℕ) → bytes_of d (s ∷ spans) ≡ bytes
    → bytes_of d spans ≡ drop (length_within (length d) s) bytes
later_bytes d s spans bytes parts =
    sym (drop-append_seam (part d s.start s.len) (bytes_of d spans))
    ∙ ap (λ k. drop k (part d s.start s.len ++ bytes_of d spans)) (part_length d s.start s.len)
    ∙ ap (drop (length_within (length d) s)) parts

-- an input that has the parts has each byte that is known
pub has_known : (d : List ℕ) (spans : List Span) (bytes : List ℕ) (offset b : ℕ) → bytes_of d spans ≡ bytes
    → byte_in_parts (length d) spans bytes offset ≡ Some b → slice_index d offset ≡ b
has_known d [] bytes offset b parts = λ is. absurd cc
has_known d (s ∷ spans) bytes offset b parts =
    let rest = has_known d spans (drop (length_within (length d) s) bytes) offset b (later_bytes d s spans bytes parts) in
    grind (arith, in_parts, offset_in, part_at, get_or_append_left, part_length, byte_some, rest)

misses_it : (n : ℕ) (s : Span) (offset : ℕ) → offset < n → reaches n s offset ≡ false → has_offset s offset ≡ false
misses_it n s offset below misses = grind arith

no_byte_free : (d : List ℕ) (spans : List Span) (bytes : List ℕ) (offset : ℕ) → bytes_of d spans ≡ bytes → offset < length d
    → is_some (byte_in_parts (length d) spans bytes offset) ≡ false → is_covered spans offset ≡ false
no_byte_free d [] bytes offset parts below = λ none. refl
no_byte_free d (s ∷ spans) bytes offset parts below =
    in_parts (λ o. is_some o ≡ false → is_covered (s ∷ spans) offset ≡ false) (length d) s spans bytes offset (λ has none.
    let at = offset_in (length d) s offset has in
    let long = ap length (sym parts) ∙ length-append (part d s.start s.len) (bytes_of d spans) in
    let some = byte_there bytes (offset - s.start) (omega (arith, at.1, long, part_length d s.start s.len)) in
    absurd (let no : true ≡ false = sym (ap is_some some) ∙ none in cc))
    (λ misses none. ap (λ b. b || is_covered spans offset) (misses_it (length d) s offset below misses)
    ∙ no_byte_free d spans (drop (length_within (length d) s) bytes) offset (later_bytes d s spans bytes parts) below none)

-- no part has an offset that is not known
pub unknown_free : (d : List ℕ) (n : ℕ) (spans : List Span) (bytes : List ℕ) (offset : ℕ) → HasParts d n spans bytes
    → offset < n
    → is_some (byte_in_parts n spans bytes offset) ≡ false → is_covered spans offset ≡ false
unknown_free d n spans bytes offset has below none = grind (arith, no_byte_free)

pub span_known : (n : ℕ) (spans : List Span) (bytes : List ℕ) (start count : ℕ) (s : Span)
    → ((i : ℕ) → i < count → is_some (byte_in_parts n spans bytes (start + i)) ≡ true) → s.start ≡ start → s.len ≡ count
    → (offset : ℕ) → has_offset s offset ≡ true → is_some (byte_in_parts n spans bytes offset) ≡ true
span_known n spans bytes start count s so at long offset has =
    let above : s.start ≤ offset = grind (arith, nat_tests) in
    let below : offset < s.start + s.len = grind (arith, nat_tests) in
    let same : start + (offset - start) ≡ offset = omega (arith, above, at) in
    subst (λ p. is_some (byte_in_parts n spans bytes p) ≡ true) same
    (so (offset - start) (omega (arith, above, below, at, long)))

covered_after : (log : List Span) (s : Span) (offset : ℕ)
    → is_covered (log ++ s ∷ []) offset ≡ (is_covered log offset || has_offset s offset)
covered_after [] s offset = or-false (has_offset s offset)
covered_after (x ∷ log) s offset = grind (arith, (covered_after log s offset))

pub pushed_known : (n : ℕ) (spans : List Span) (bytes : List ℕ) (log more : List Span) (s : Span)
    → AllKnown n spans bytes log
    → ((offset : ℕ) → has_offset s offset ≡ true → is_some (byte_in_parts n spans bytes offset) ≡ true)
    → more ≡ log ++ s ∷ [] → AllKnown n spans bytes more
pushed_known n spans bytes log more s all also is offset here = grind (arith, covered_after)

-- the offsets of known bytes are known, also after a read of more known bytes
pub seen_known : (n : ℕ) (spans : List Span) (bytes : List ℕ) (log more : List Span) (start count : ℕ)
    → AllKnown n spans bytes log
    → ((i : ℕ) → i < count → is_some (byte_in_parts n spans bytes (start + i)) ≡ true)
    → more ≡ log ++ span_at start count → AllKnown n spans bytes more
unfolding span_at
seen_known n spans bytes log more start count all also is = by_count (count == 0) refl where
  by_count : (none : Bool) → none ≡ (count == 0) → AllKnown n spans bytes more
  by_count true none = subst (AllKnown n spans bytes) (grind (arith, append-nil)) all
  by_count false none =
      let s : Span = record { start = start; len = count } in
      pushed_known n spans bytes log more s all (span_known n spans bytes start count s also refl refl) (grind arith)

-- what stands behind so many bytes, by the slice that the code takes
pub slice_behind : (bs : List ℕ) (k : ℕ)
    → take (length bs - min k (length bs)) (drop (min k (length bs)) bs) ≡ drop k bs
slice_behind bs k = grind (arith, take_all, length-drop, drop_min)
