-- The first place that passes, found part by part.
use Rattle.std.proofs.Common.{◌≡◌, ℕ, ◌+◌, ◌<◌, ◌≤◌, Bool, true, cond, eqb, not, List, length, take, drop, Some, sym, ap, ◌∙◌, arith}
use Rattle.std.proofs.lemmas.Bool.Decides.{nat_tests}
use Rattle.std.proofs.lemmas.List.{length-take, take-append-drop}
use Rattle.std.proofs.lemmas.List.Folds.{prefix_len-append}
use Rattle.std.specs.List.{position, position_or_len}

split : (p : ℕ → Bool) (bs : List ℕ) (n : ℕ)
    → position_or_len p bs ≡ cond (eqb (position_or_len p (take n bs)) (length (take n bs)))
    (length (take n bs) + position_or_len p (drop n bs))
    (position_or_len p (take n bs))
split p bs n = ap (position_or_len p) (sym (take-append-drop n bs)) ∙ prefix_len-append (λ b. not (p b)) (take n bs) (drop n bs)

-- where none of the first n passes
pub goes_on : (p : ℕ → Bool) (bs : List ℕ) (n count : ℕ) → n ≤ length bs → count ≡ position_or_len p (take n bs) → count ≡ n
    → position_or_len p bs ≡ n + position_or_len p (drop n bs)
goes_on p bs n count there counted all =
    let long : length (take n bs) ≡ n = omega (arith, length-take n bs, there) in
    let test : eqb (position_or_len p (take n bs)) (length (take n bs)) ≡ true = grind (arith, nat_tests, long, counted, all) in
    split p bs n ∙ ap (λ is. cond is (length (take n bs) + position_or_len p (drop n bs)) (position_or_len p (take n bs))) test
    ∙ ap (λ k. k + position_or_len p (drop n bs)) long

-- a place before the end
pub position_some : (p : ℕ → Bool) (bs : List ℕ) (i : ℕ) → position_or_len p bs ≡ i → i < length bs → position p bs ≡ Some i
position_some p bs i at there = grind arith
