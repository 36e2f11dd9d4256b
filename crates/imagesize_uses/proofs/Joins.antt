-- The bytes of two slices, the second behind the first.
use Rattle.std.proofs.Common.{◌≡◌, ℕ, ◌+◌, ◌-◌, ◌<◌, ◌≤◌, List, ◌++◌, length, take, drop, sym, ap, ◌∙◌, subst, arith}
use Rattle.std.proofs.lemmas.List.{drop-append-le, length-drop, take-append-le, take_all}
use Rattle.std.proofs.Math.Seq.{drop-append-add}
use Rattle.imagesize_source.specs.Input.{part}

-- from an offset in the first on, by the slice that the code takes
pub in_first : (a b : List ℕ) (offset n : ℕ) → offset < length a → n ≤ length (take (length a - offset) (drop offset a))
    → take n (take (length a - offset) (drop offset a)) ≡ part (a ++ b) offset n
unfolding part
in_first a b offset n here few =
    let all : take (length a - offset) (drop offset a) ≡ drop offset a = take_all (length a - offset) (drop offset a)
    (omega (arith, length-drop offset a)) in
    let fits : n ≤ length (drop offset a) = subst (λ xs. n ≤ length xs) all few in
    let within : offset ≤ length a = omega (arith, here) in
    ap (take n) all ∙ sym (ap (take n) (drop-append-le offset a b within) ∙ take-append-le n (drop offset a) b fits)

-- from an offset in the second on
pub in_second : (a b : List ℕ) (offset n : ℕ) → length a ≤ offset
    → take n (take (length b - (offset - length a)) (drop (offset - length a) b)) ≡ part (a ++ b) offset n
unfolding part
in_second a b offset n behind =
    let at : length a + (offset - length a) ≡ offset = omega (arith, behind) in
    let all : take (length b - (offset - length a)) (drop (offset - length a) b) ≡ drop (offset - length a) b =
    take_all (length b - (offset - length a)) (drop (offset - length a) b)
    (omega (arith, length-drop (offset - length a) b)) in
    ap (take n) all ∙ ap (take n) (sym (drop-append-add a b (offset - length a)) ∙ ap (λ p. drop p (a ++ b)) at)
