-- What a block of a file gives after it was read.
use Rattle.std.specs.Prelude.{nat_le, nat_lt, ◌&&◌}
use Rattle.std.proofs.Common.{◌≡◌, ℕ, ◌+◌, ◌-◌, ◌≤◌, min, Bool, true, false, cond, ◌⊎◌, inl, inr, List, [], ◌++◌, length, take, drop, eqb, Option, Some, None, Ok, refl, sym, ap, ◌∙◌, arith}
use Rattle.std.proofs.lemmas.Bool.Decides.{nat_tests}
use Rattle.std.proofs.lemmas.List.{length-append, length-take, length-drop, take-append-drop, append_assoc, drop_all}
use Rattle.std.specs.Io.KnownBytes.{Consumes, IsAtEnd, ReadConsumes, prepend_known}
use Rattle.imagesize_io.specs.Block.{held_from}
use Rattle.imagesize_io.specs.File.{held_of}
use Rattle.imagesize_io.specs.declared.file.FileReader.{FileReader}
use Rattle.imagesize_io.specs.ReaderState.{kept_window}
use Rattle.imagesize_io.specs.declared.told.Stop.{Stop}

-- whether an offset is in a block
abbrev is_inside : ℕ → ℕ → ℕ → Bool
is_inside start count offset = nat_le start offset && nat_lt offset (start + count)

-- a reader that holds no byte is behind its first bytes
pub behind_front : (block front : List ℕ) (start offset : ℕ) → held_from block start front offset ≡ [] → length front ≤ offset
behind_front block front start offset none = by_place (is_inside start (length block) offset) refl none where
  by_place : (b : Bool) → is_inside start (length block) offset ≡ b → cond b (drop (offset - start) block) (drop offset front) ≡ []
      → length front ≤ offset
  by_place true is none = absurd (grind (arith, nat_tests, length-drop (offset - start) block, ap length none))
  by_place false is none = omega (arith, length-drop offset front, ap length none)

-- the first bytes end with the block that was read last, or before it
pub front_ends : (front bytes : List ℕ) (offset : ℕ) → length front ≤ offset → length (kept_window front offset bytes) ≤ offset + length bytes
front_ends front bytes offset behind = by_place (eqb offset (length front)) refl where
  by_place : (b : Bool) → eqb offset (length front) ≡ b
      → length (cond b (front ++ take (32 - length front) bytes) front) ≤ offset + length bytes
  by_place true is = omega (arith, length-append front (take (32 - length front) bytes), length-take (32 - length front) bytes, behind)
  by_place false is = omega (arith, behind)

-- a block that was read, from its own offset on
pub whole : (block front : List ℕ) (offset : ℕ) → length front ≤ offset + length block → held_from block offset front offset ≡ block
whole block front offset ends = by_place (is_inside offset (length block) offset) refl where
  by_place : (b : Bool) → is_inside offset (length block) offset ≡ b → cond b (drop (offset - offset) block) (drop offset front) ≡ block
  by_place true is = grind (arith, nat_tests)
  by_place false is =
      let none : length block ≡ 0 = grind (arith, nat_tests) in
      drop_all offset front (omega (arith, ends, none)) ∙ sym (drop_all 0 block (omega (arith, none)))

-- what is left of a block after some of its bytes
pub rest : (block front : List ℕ) (offset n : ℕ) → length front ≤ offset + length block → n ≤ length block
    → held_from block offset front (offset + n) ≡ drop n block
rest block front offset n ends few = by_place (is_inside offset (length block) (offset + n)) refl where
  by_place : (b : Bool) → is_inside offset (length block) (offset + n) ≡ b
      → cond b (drop (offset + n - offset) block) (drop (offset + n) front) ≡ drop n block
  by_place true is = ap (λ k. drop k block) (omega arith)
  by_place false is =
      let all : n ≡ length block = grind (arith, nat_tests) in
      drop_all (offset + n) front (omega (arith, ends, all)) ∙ sym (drop_all n block (omega (arith, all)))

-- the first bytes of what a block gives, and the rest of it
given : (known more : Option (List ℕ)) (held buffer : List ℕ) (n : ℕ) → Consumes known more held → (length held ≡ 0 → IsAtEnd more)
    → n ≡ min (length buffer) (length held) → take n buffer ≡ take n held
    → ReadConsumes {E = Stop} known (prepend_known (drop n held) more) (Ok n) buffer
given None None held buffer n reads end few gives = (tt, λ _ _. tt)
given None (Some ys) held buffer n reads end few gives = (
  tt,
  λ zero room.
      let none : length held ≡ 0 = omega (arith, few, zero, room) in
      ap (λ xs. xs ++ ys) (drop_all n held (omega (arith, none))) ∙ end none,
)
given (Some xs) None held buffer n reads end few gives = absurd reads
given (Some xs) (Some ys) held buffer n reads end few gives = (
  reads ∙ ap (λ h. h ++ ys) (sym (take-append-drop n held)) ∙ append_assoc (take n held) (drop n held) ys
      ∙ ap (λ h. h ++ (drop n held ++ ys)) (sym gives),
  λ zero room.
      let none : length held ≡ 0 = omega (arith, few, zero, room) in
      ap (λ xs. xs ++ ys) (drop_all n held (omega (arith, none))) ∙ end none,
)

-- a reader that held no byte, read a block, and gave some bytes of it
pub fetched : {R : Type 0} (remaining : R → Option (List ℕ)) (known : Option (List ℕ)) (old read left : FileReader R) (buffer : List ℕ) (count n : ℕ)
    → held_of old ≡ []
    → Consumes known (remaining read.file) (take count read.block.memory.now) → (count ≡ 0 → IsAtEnd (remaining read.file))
    → read.block.filled ≡ count → read.block.start ≡ old.offset
    → read.block.front.items ≡ kept_window old.block.front.items old.offset (take count read.block.memory.now)
    → read.offset ≡ old.offset
    → n ≡ min (length buffer) (length (held_of read)) → take n buffer ≡ take n (held_of read)
    → left.file ≡ read.file → left.block ≡ read.block → left.offset ≡ read.offset + n
    → ReadConsumes {E = Stop} known (prepend_known (held_of left) (remaining left.file)) (Ok n) buffer
    × (old.offset + count ≡ left.offset + length (held_of left))
fetched remaining known old read left buffer count n none reads at_end filled start front at few gives file block moves =
    let bytes = take count read.block.memory.now in
    let behind = behind_front (take old.block.filled old.block.memory.now) old.block.front.items old.block.start old.offset none in
    let ends : length read.block.front.items ≤ old.offset + length bytes =
    rw front (front_ends old.block.front.items bytes old.offset behind) in
    let held : held_of read ≡ bytes = rw (filled, start, at) (whole bytes read.block.front.items old.offset ends) in
    let size : length bytes ≡ count =
    omega (arith, length-take count read.block.memory.now, read.block.within, filled) in
    let least : n ≡ min (length buffer) (length bytes) = few ∙ ap (λ h. min (length buffer) (length h)) held in
    let there : left.offset ≡ old.offset + n = moves ∙ ap (λ k. k + n) at in
    let left_is : held_of left ≡ drop n bytes =
    rw (block, there, filled, start) (rest bytes read.block.front.items old.offset n ends (omega (arith, least))) in
    let end : length bytes ≡ 0 → IsAtEnd (remaining read.file) =
    λ zero. at_end (omega (arith, size, zero)) in (
      rw (left_is, file) (given known (remaining read.file) bytes buffer n reads end least (gives ∙ ap (take n) held)),
      rw left_is (omega (arith, there, size, least, length-drop n bytes)),
    )

-- a reader that held no byte, after a read that failed
pub lost : {R : Type 0} (old new : FileReader R) → length (held_of old) ≡ 0 → new.offset ≡ old.offset → new.block.front ≡ old.block.front
    → (new.block ≡ old.block) ⊎ (new.block.filled ≡ 0) → held_of new ≡ []
lost old new few at front (inl same) = rw (same, at) (drop_all 0 (held_of old) (omega (arith, few)))
lost old new few at front (inr zero) = by_place (is_inside new.block.start (length block) new.offset) refl where
  block : List ℕ
  block = take new.block.filled new.block.memory.now

  by_place : (b : Bool) → is_inside new.block.start (length block) new.offset ≡ b
      → cond b (drop (new.offset - new.block.start) block) (drop new.offset new.block.front.items) ≡ []
  by_place true is = absurd (grind (arith, nat_tests, length-take new.block.filled new.block.memory.now, zero))
  by_place false is =
      let none = drop_all 0 (held_of old) (omega (arith, few)) in
      let before = take old.block.filled old.block.memory.now in
      let behind = behind_front before old.block.front.items old.block.start old.offset none in
      rw (at, front) (drop_all old.offset old.block.front.items behind)
