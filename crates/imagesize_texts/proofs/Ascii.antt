-- Bytes that are ASCII, which is tested several at a time.
use Rattle.std.proofs.Common.{◌≡◌, ℕ, zero, suc, ◌+◌, ◌-◌, ◌*◌, ◌^◌, ◌<◌, ◌≤◌, Bool, true, false, List, [], ◌∷◌, length, take, drop, get_or, Result, Ok, Err, inl, inr, refl, sym, ap, ◌∙◌, subst, arith}
use Rattle.std.proofs.lemmas.Bool.{cases_lt}
use Rattle.std.proofs.lemmas.List.{get_or-take, get_or-drop, get_or_past, length-take, length-drop, take_all}
use Rattle.std.proofs.lemmas.Str.{IsUtf8-from_ascii, IsUtf8-from_is_utf8, is_utf8-from_IsUtf8}
use Rattle.std.proofs.lemmas.Nat.{and_block}
use Rattle.std.proofs.lemmas.Nat.Bits.{and_pow}
use Rattle.std.proofs.lemmas.Simd.{chunk-fits, length-chunk}
use Rattle.std.specs.Int.{w8}
use Rattle.std.specs.Prelude.{is_ok, MatchResult}
use Rattle.std.specs.Str.{IsAscii, IsUtf8, is_utf8}
use Rattle.imagesize_source.specs.declared.endian.Endian.TheVariants.{Little}
use Rattle.imagesize_source.specs.Numbers.{number, little}
use lib.Bits.{bit_and}
use lib.Lanes.{Each1}
use mir.Val.{Fits}

-- one byte more at the front
ascii_cons : (b : ℕ) (bs : List ℕ) → b < 128 → IsAscii bs → IsAscii (b ∷ bs)
ascii_cons b bs low rest zero = low
ascii_cons b bs low rest (suc i) = rest i

-- 128 in each of n bytes
abbrev highs : ℕ → ℕ
highs zero = 0
highs (suc n) = 128 + 256 * highs n

-- a byte without its highest bit
low_byte : (b : ℕ) → b < 256 → bit_and b 128 ≡ 0 → b < 128
low_byte b byte none = omega (arith, and_pow b 7, none)

-- no byte is 128 or more where none has its highest bit in the number that they encode
none_high : (bs : List ℕ) → Each1 (Fits w8) bs → bit_and (little bs) (highs (length bs)) ≡ 0 → IsAscii bs
none_high [] fits none i = omega arith
none_high (b ∷ bs) fits none i =
    let left : b + 256 * little bs ≡ little bs * 2 ^ 8 + b = omega arith in
    let right : 128 + 256 * highs (length bs) ≡ highs (length bs) * 2 ^ 8 + 128 = omega arith in
    let parts = (λ j. bit_and (left j) (right j)) ∙ and_block 8 (little bs) (highs (length bs)) b 128 fits.0.fits (omega arith) in
    ascii_cons b bs (low_byte b fits.0.fits (omega (arith, parts, none))) (none_high bs fits.1 (omega (arith, parts, none))) i

-- n bytes from an index on, by the number that they encode
pub part_ascii : (n : ℕ) (from : List ℕ → ℕ) → ((part : List ℕ) → length part ≡ n → from part ≡ number Little part)
    → (index : ℕ) (bs : List ℕ) → ((k : ℕ) → Fits w8 (get_or bs k 0)) → index + n ≤ length bs
    → bit_and (from (take n (drop index bs))) (highs n) ≡ 0 → IsAscii (take n (drop index bs))
unfolding number
part_ascii n from is index bs fits there none =
    let long : length (take n (drop index bs)) ≡ n = length-chunk index n bs there in
    none_high (take n (drop index bs)) (chunk-fits w8 index n bs fits)
    ((λ i. bit_and (sym (is (take n (drop index bs)) long) i) (highs (long i))) ∙ none)

-- bytes in front and bytes that begin among them or right behind them
pub ascii_on : (bs : List ℕ) (k j n : ℕ) → j ≤ k → IsAscii (take k bs) → IsAscii (take n (drop j bs))
    → IsAscii (take (j + n) bs)
ascii_on bs k j n near front back i =
    elim (cases_lt i (j + n)) [
      | inl below ↦ subst (λ b. b < 128) (sym (get_or-take (j + n) bs i 0 below)) (elim (cases_lt i k) [
        | inl in_front ↦ subst (λ b. b < 128) (get_or-take k bs i 0 in_front) (front i)
        | inr behind ↦
            let m : ℕ = i - j in
            let at : j + m ≡ i = omega arith in
            subst (λ b. b < 128)
            (get_or-take n (drop j bs) m 0 (omega arith) ∙ get_or-drop j bs m 0 ∙ ap (λ x. get_or bs x 0) at) (back m)
      ])
      | inr past ↦ subst (λ b. b < 128) (sym (get_or_past (take (j + n) bs) i 0 (omega (arith, length-take (j + n) bs)))) (omega arith)
    ]

-- all of them
pub ascii_whole : (bs : List ℕ) (k j n : ℕ) → j ≤ k → length bs ≤ j + n → IsAscii (take k bs)
    → IsAscii (take n (drop j bs)) → IsAscii bs
ascii_whole bs k j n near whole front back =
    subst IsAscii (take_all (j + n) bs whole) (ascii_on bs k j n near front back)

-- sixteen bytes by eight and eight of those from an index on
pub sixteen_ascii : (index : ℕ) (bs : List ℕ) → IsAscii (take 8 (take (length bs - index) (drop index bs)))
    → IsAscii (take 8 (drop 8 (take (length bs - index) (drop index bs))))
    → IsAscii (take 16 (drop index bs))
sixteen_ascii index bs front back =
    subst (λ l. IsAscii (take 16 l)) (take_all (length bs - index) (drop index bs) (omega (arith, length-drop index bs)))
    (ascii_on (take (length bs - index) (drop index bs)) 8 8 8 (omega arith) front back)

-- such bytes are UTF-8
pub ascii_is_utf8 : (bs : List ℕ) → IsAscii bs → is_utf8 bs ≡ true
ascii_is_utf8 bs is = is_utf8-from_IsUtf8 bs (IsUtf8-from_ascii bs is)

-- what tells whether bytes are UTF-8
pub told_by : {A E : Type 0} {P : A → Type 0} {Q : E → Type 0} (bs : List ℕ) (r : Result A E) → MatchResult r P Q
    → ((a : A) → P a → IsUtf8 bs) → ((e : E) → Q e → ¬ (IsUtf8 bs)) → is_ok r ≡ is_utf8 bs
told_by bs (Ok a) is accepts refuses = sym (is_utf8-from_IsUtf8 bs (accepts a is))
told_by bs (Err e) is accepts refuses = go (is_utf8 bs) refl
  where
    go : (t : Bool) → is_utf8 bs ≡ t → false ≡ t
    go true p = absurd (refuses e is (IsUtf8-from_is_utf8 bs p))
    go false p = refl
