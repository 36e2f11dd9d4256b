-- The bytes of an upload that came so far.
use Rattle.std.proofs.Common.{◌≡◌, ℕ, zero, suc, ◌+◌, ◌-◌, ◌<◌, List, [], ◌∷◌, ◌++◌, length, take, drop, get_or, refl, sym, ap, ◌∙◌, arith}
use Rattle.std.specs.Borrow.{Bor}
use Rattle.std.proofs.lemmas.Grind.{flat_map-append}
use Rattle.std.proofs.lemmas.List.{append-nil, length-take, take-append-drop, take_more}
use Rattle.std.proofs.Math.Seq.{take-append_seam}
use Rattle.imagesize_pieces.specs.Stream.{Begins}
use Rattle.imagesize_uses.specs.Upload.{joined}

-- the first bytes of two lists
take_both : (n : ℕ) (xs ys : List ℕ) → take n (xs ++ ys) ≡ take n xs ++ take (n - length xs) ys
take_both zero xs ys = let e : 0 - length xs ≡ 0 = omega arith in rw e refl
take_both (suc n) [] ys = let e : suc n - 0 ≡ suc n = omega arith in rw e refl
take_both (suc n) (x ∷ xs) ys = let e : suc n - suc (length xs) ≡ n - length xs = omega arith in
    rw e (ap (λ zs. x ∷ zs) (take_both n xs ys))

-- the bytes of some chunks and one more
joined_more : (chunks : List (Bor (List ℕ))) (i : ℕ) (other : Bor (List ℕ)) → i < length chunks
    → joined (take (i + 1) chunks) ≡ joined (take i chunks) ++ (get_or chunks i other).now
joined_more chunks i other within =
    ap joined (take_more chunks i other within)
    ∙ flat_map-append (λ chunk. chunk.now) (take i chunks) (get_or chunks i other ∷ [])
    ∙ ap (λ bs. joined (take i chunks) ++ bs) (append-nil (get_or chunks i other).now)

-- what a gate was fed of the first chunks
abbrev pub fed : ℕ → ℕ → List (Bor (List ℕ)) → List ℕ
fed told i chunks = take told (joined (take i chunks))

-- one chunk more
pub fed_more : (chunks : List (Bor (List ℕ))) (i told limit : ℕ) (other : Bor (List ℕ)) → limit ≡ told
    → i < length chunks
    → fed told i chunks ++ take (limit - length (fed told i chunks)) (get_or chunks i other).now ≡ fed told (i + 1) chunks
fed_more chunks i told limit other same within =
    let rest : limit - length (fed told i chunks) ≡ told - length (joined (take i chunks)) =
    omega (arith, length-take told (joined (take i chunks))) in
    ap (λ k. fed told i chunks ++ take k (get_or chunks i other).now) rest
    ∙ sym (take_both told (joined (take i chunks)) (get_or chunks i other).now)
    ∙ ap (take told) (sym (joined_more chunks i other within))

-- the whole upload begins with the bytes of the first chunks
begins_first : (chunks : List (Bor (List ℕ))) (i told : ℕ) → Begins (fed told i chunks) told (take told (joined chunks))
begins_first chunks i told = record {
  first =
      let split : joined chunks ≡ joined (take i chunks) ++ joined (drop i chunks) =
      ap joined (sym (take-append-drop i chunks))
      ∙ flat_map-append (λ chunk. chunk.now) (take i chunks) (drop i chunks) in
      ap (λ bs. take (length (fed told i chunks)) bs)
      (ap (take told) split ∙ take_both told (joined (take i chunks)) (joined (drop i chunks)))
      ∙ take-append_seam (fed told i chunks) (take (told - length (joined (take i chunks))) (joined (drop i chunks)));
  fits = omega (arith, length-take told (joined chunks));
}

-- and with those of one chunk more
pub begins_more : (chunks : List (Bor (List ℕ))) (i told limit : ℕ) (other : Bor (List ℕ)) → limit ≡ told
    → i < length chunks
    → Begins (fed told i chunks ++ take (limit - length (fed told i chunks)) (get_or chunks i other).now) limit
    (take told (joined chunks))
begins_more chunks i told limit other same within =
    rw (fed_more chunks i told limit other same within, same) (begins_first chunks (i + 1) told)
