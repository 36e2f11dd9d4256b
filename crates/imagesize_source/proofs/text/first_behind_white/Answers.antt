use Rattle.std.proofs.Common.{◌≡◌, ℕ, ◌+◌, ◌≤◌, Bool, not, List, length, drop, refl, sym, ap, arith}
use Rattle.std.proofs.lemmas.List.{length-drop, drop-drop}
use Rattle.std.specs.Char.{is_ascii_whitespace}
use Rattle.std.specs.List.{position_or_len}
use Rattle.imagesize_source.proofs.Places.{goes_on}
use Rattle.imagesize_source.proofs.text.first_behind_white.Goals as goal

pub loop-index-preserved : goal.loop-index-preserved
loop-index-preserved c =
    let p : ℕ → Bool = λ b. not (is_ascii_whitespace b) in
    let bs : List ℕ = c.args.bytes.now in
    let rest : List ℕ = drop c.loop-index.index bs in
    let there : 8 ≤ length rest = omega (arith, length-drop c.loop-index.index bs, c.loop-index-test.true) in
    let on : position_or_len p rest ≡ 8 + position_or_len p (drop 8 rest) =
    goes_on p rest 8 8 there (sym (c.are_spaces.ensures c.if-are_spaces.true)) refl in
    let same : drop 8 rest ≡ drop (c.loop-index.index + 8) bs = drop-drop 8 c.loop-index.index bs in
    (omega (arith, c.loop-index-test.true), omega (arith, c.loop-index.invariant.1, on, ap (position_or_len p) same))
