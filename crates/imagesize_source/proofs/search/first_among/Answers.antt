use Rattle.std.proofs.Common.{◌≡◌, ℕ, ◌+◌, ◌^◌, ◌<◌, ◌≤◌, Bool, List, length, map, take, drop, eqb, sym, subst, ◌∙◌, arith, w8, w16}
use Rattle.std.proofs.lemmas.List.{length-take, length-drop, length-map}
use Rattle.std.proofs.lemmas.Nat.Bits.{bit_at-trailing_zeros}
use Rattle.std.proofs.lemmas.Simd.{bitmask_splat, mask_l-lt, trailing_mask_l}
use Rattle.std.specs.Int.Count.{count_trailing_zeros}
use Rattle.std.specs.List.{position_or_len}
use Rattle.std.specs.Simd.Lanes.{mask_l}
use Rattle.imagesize_source.proofs.Places.{position_some}
use Rattle.imagesize_source.proofs.search.first_among.Goals as goal

-- sixteen bytes are there
sixteen : (bs : List ℕ) (index : ℕ) → index + 16 ≤ length bs → length (take 16 (drop index bs)) ≡ 16
sixteen bs index there = omega (arith, length-take 16 (drop index bs), length-drop index bs, there)

pub returns-then-marks-eq0 : goal.returns-then-marks-eq0
returns-then-marks-eq0 c = grind arith

pub returns : goal.returns
returns c =
    let bs : List ℕ = take 16 (drop c.args.index c.args.bytes.now) in
    let long : length bs ≡ 16 = sixteen c.args.bytes.now c.args.index c.requires in
    let marks = bitmask_splat w8 eqb bs 16 c.args.wanted long (omega arith) in
    let p : ℕ → Bool = λ b. eqb b c.args.wanted in
    let mask : ℕ = mask_l (map p bs) in
    let some : 0 < mask = omega (arith, sym marks, c.if-marks-eq0.false) in
    let at = trailing_mask_l p 64 bs (omega (arith, long)) some in
    let within : count_trailing_zeros 16 mask < 16 =
    (bit_at-trailing_zeros w16 mask some (omega (arith, subst (λ k. mask < 2 ^ k) (length-map bs p ∙ long) (mask_l-lt (map p bs))))).0 in
    let early : position_or_len p bs < length bs =
    omega (arith, long, within, trailing_mask_l p 16 bs (omega (arith, long)) some) in
    rw marks (sym (position_some p bs _ (sym at) (omega (arith, at, early))))
