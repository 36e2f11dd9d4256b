-- Parts of an input.
use Rattle.std.proofs.Common.{arith, ◌≡◌, ℕ, ◌+◌, ◌-◌, ◌<◌, ◌≤◌, min, List, [], length, take, drop, get_or, slice_index, refl, sym, ap, ◌∙◌}
use Rattle.std.proofs.lemmas.List.{length-take, length-drop, drop-drop, drop-take, get_or-take, get_or-drop, take_min, take-take}
use Rattle.imagesize_source.specs.Input.{part}

-- how many of k bytes there are
pub part_length : (d : List ℕ) (offset k : ℕ) → length (part d offset k) ≡ min k (length d - offset)
unfolding part
part_length d offset k = length-take k (drop offset d) ∙ ap (min k) (length-drop offset d)

-- parts of inputs of one length are of one length
pub parts_long : (d e : List ℕ) (offset k : ℕ) → length e ≡ length d → length (part e offset k) ≡ length (part d offset k)
parts_long d e offset k long = part_length e offset k ∙ ap (λ m. min k (m - offset)) long ∙ sym (part_length d offset k)

pub part_none : (d : List ℕ) (offset : ℕ) → part d offset 0 ≡ []
unfolding part
part_none d offset = refl

-- the bytes of a part are those of the input
pub part_at : (d : List ℕ) (offset k i : ℕ) → i < k → get_or (part d offset k) i 0 ≡ slice_index d (offset + i)
unfolding part
part_at d offset k i below = get_or-take k (drop offset d) i 0 below ∙ get_or-drop offset d i 0

-- the first of a part
pub part_front : (d : List ℕ) (offset j k : ℕ) → j ≤ k → take j (part d offset k) ≡ part d offset j
unfolding part
part_front d offset j k few = take-take j k (drop offset d) few

-- the last bytes of a part
pub part_behind : (d : List ℕ) (offset j k : ℕ) → drop j (part d offset (j + k)) ≡ part d (offset + j) k
unfolding part
part_behind d offset j k = drop-take j k (drop offset d) ∙ ap (take k) (drop-drop j offset d)

-- no more of a part is there than its input has
pub part_whole : (d : List ℕ) (offset k m : ℕ) → m ≡ min k (length d - offset) → part d offset k ≡ part d offset m
unfolding part
part_whole d offset k m is = grind (arith, take_min, length-drop)
