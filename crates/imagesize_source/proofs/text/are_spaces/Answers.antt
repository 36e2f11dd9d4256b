use Rattle.std.proofs.Common.{ℕ, ◌<◌, not, List, take, drop, get_or, eqb-true, sym, ap, ◌∙◌, arith, w8}
use Rattle.std.proofs.lemmas.List.{get_or-take, get_or-drop, get_or_past, length-take}
use mir.Val.{Fits}
use Rattle.std.proofs.lemmas.Nat.{le_bytes_8}
use Rattle.std.proofs.lemmas.Simd.{length-chunk}
use Rattle.std.specs.Char.{is_ascii_whitespace}
use Rattle.std.specs.List.{position_or_len}
use Rattle.imagesize_source.proofs.text.are_spaces.Goals as goal

-- a byte of a part, or none
small : (bs : List ℕ) (index k i : ℕ) → ((j : ℕ) → Fits w8 (get_or bs j 0)) → get_or (take k (drop index bs)) i 0 < 256
small bs index k i fits = grind (arith, get_or-take, get_or-drop, get_or_past, length-take)

pub returns : goal.returns
returns c = λ same.
    let eight : List ℕ = take 8 (drop c.args.index c.args.bytes.now) in
    let is = le_bytes_8 eight 2314885530818453536 (length-chunk c.args.index 8 c.args.bytes.now c.requires)
    (λ i. small c.args.bytes.now c.args.index 8 i c.type_inv.bytes) (sym (eqb-true _ _ same) ∙ c.eight_at.ensures) in
    ap (position_or_len (λ b. not (is_ascii_whitespace b))) (sym is)
