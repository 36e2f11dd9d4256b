-- What is kept of bytes and of those after them.
use Rattle.std.proofs.Common.{◌≡◌, ℕ, zero, suc, ◌+◌, ◌-◌, ◌≤◌, ◌<◌, min, List, [], ◌∷◌, ◌++◌, length, take, drop, refl, ap, ◌∙◌, arith}
use Rattle.std.proofs.lemmas.List.{drop-append-le, drop-take, drop_all, length-append, length-drop, length-take, length-take-le, take_all, take_at}

-- what follows the first of some bytes and of those after them
pub drop_split : (k : ℕ) (xs ys : List ℕ) → drop k (xs ++ ys) ≡ drop k xs ++ drop (k - length xs) ys
drop_split zero xs ys = let none : 0 - length xs ≡ 0 = omega arith in rw none refl
drop_split (suc k) [] ys = let all : suc k - 0 ≡ suc k = omega arith in rw all refl
drop_split (suc k) (x ∷ xs) ys =
    let less : suc k - suc (length xs) ≡ k - length xs = omega arith in rw less (drop_split k xs ys)

-- none of those at the front are kept
pub more_kept : (buffer new more rest after : List ℕ) (count skip put : ℕ) → count ≤ length buffer → count ≤ skip
    → rest ≡ drop (skip - count) more
    → count + length more - skip ≤ length buffer → put ≡ min (length rest) (length buffer - 0)
    → new ≡ take 0 buffer ++ take put rest ++ after
    → take (count + length more - skip) new ≡ drop skip (take count buffer ++ more)
more_kept buffer new more rest after count skip put within beyond is_rest fits is_put is_new =
    let front : length (take count buffer) ≡ count = length-take-le count buffer within in
    let long : length rest ≡ length more - (skip - count) = ap length is_rest ∙ length-drop (skip - count) more in
    let all : take put rest ≡ rest = take_all put rest (omega (arith, is_put, long, fits, beyond)) in
    let none = drop_all skip (take count buffer) (omega (arith, front, beyond)) in
    rw (is_new, all, drop_split skip (take count buffer) more, none, front)
    (take_at rest after (count + length more - skip) (omega (arith, long, beyond)) ∙ is_rest)

-- the last of those at the front, moved there, and all of the others
pub moved_kept : (buffer moved new more after later : List ℕ) (count skip put : ℕ) → count ≤ length buffer → skip < count
    → count + length more - skip ≤ length buffer → length moved ≡ length buffer
    → moved ≡ take 0 buffer ++ take (count - skip) (drop skip buffer) ++ later
    → put ≡ min (length more) (length moved - (count - skip))
    → new ≡ take (count - skip) moved ++ take put more ++ after
    → take (count + length more - skip) new ≡ drop skip (take count buffer ++ more)
moved_kept buffer moved new more after later count skip put within below fits as_long is_moved is_put is_new =
    let front : List ℕ = take (count - skip) (drop skip buffer) in
    let back : skip + (count - skip) ≡ count = omega (arith, below) in
    let same : drop skip (take count buffer) ≡ front = rw back at (drop-take skip (count - skip) buffer) in
    let long : length front ≡ count - skip =
    omega (arith, length-take (count - skip) (drop skip buffer), length-drop skip buffer, within, below) in
    let first : take (count - skip) moved ≡ front = rw is_moved (take_at front later (count - skip) long) in
    let all : take put more ≡ more = take_all put more (omega (arith, is_put, as_long, fits, below)) in
    let onward = drop-append-le skip (take count buffer) more (omega (arith, below, length-take-le count buffer within)) in
    rw (is_new, first, all, onward, same)
    (take_at (front ++ more) after (count + length more - skip) (omega (arith, long, below, length-append front more)))
