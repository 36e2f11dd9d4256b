use Rattle.std.proofs.lemmas.Bool.Decides.{nat_tests}
use Rattle.std.proofs.Common.{ℕ, ◌≤◌, ◌==◌, Bool, not, List, length, drop, take, refl, sym, ap, arith}
use Rattle.std.proofs.lemmas.List.{length-drop, length-take, take_all, drop-drop}
use Rattle.std.proofs.lemmas.List.Sums.{prefix_len-le-length}
use Rattle.std.specs.List.{position_or_len}
use Rattle.imagesize_source.proofs.Places.{goes_on}
use Rattle.imagesize_source.proofs.Texts.{found, not_found}
use Rattle.imagesize_source.proofs.search.first_of.Goals as goal

pub returns-in-Some : goal.returns-in-Some
returns-in-Some c = grind (arith, nat_tests)

pub loop-index-preserved : goal.loop-index-preserved
loop-index-preserved c =
    let p : ℕ → Bool = λ b. b == c.args.wanted in
    let bs : List ℕ = c.args.bytes.now in
    let rest : List ℕ = drop c.loop-index.index bs in
    let there : 16 ≤ length rest = omega (arith, length-drop c.loop-index.index bs, c.loop-index-test.true) in
    let none = not_found p (take 16 rest) (sym c.in_default.ensures) in
    let most = prefix_len-le-length (λ b. not (p b)) (take 16 rest) in
    let on = goes_on p rest 16 (position_or_len p (take 16 rest)) there refl (omega (arith, length-take 16 rest, there, none, most)) in
    let same = ap (position_or_len p) (drop-drop 16 c.loop-index.index bs) in
    (omega (arith, c.loop-index-test.true), omega (arith, c.loop-index.invariant.1, on, same))

pub returns-in_err-count : goal.returns-in_err-count
returns-in_err-count c = grind (arith, take_all, length-drop, not_found)

pub returns : goal.returns
returns c = grind (arith, take_all, length-drop, found)
