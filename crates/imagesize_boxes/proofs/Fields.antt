-- Fields of bits: what more bits leave, and the bits as a number.
use Rattle.std.proofs.Common.{◌≡◌, ℕ, zero, suc, ◌+◌, ◌-◌, ◌*◌, ◌/◌, ◌%◌, ◌^◌, ◌<◌, ◌≤◌, Bool, true, false, cond, leb, List, [], ◌∷◌, ◌++◌, length, take, drop, get_or, bit_and, Result, Ok, Err, refl, sym, ap, ◌∙◌, subst, add-one, arith}
use Rattle.std.proofs.lemmas.Bool.Decides.{nat_tests}
use Rattle.std.proofs.lemmas.List.{drop-take, length-append, length-drop, length-take, length-take-le, drop-append-le, take-append-drop, take-append-le, take-take}
use Rattle.std.proofs.Math.Seq.{take-nil}
use Rattle.std.proofs.Math.Numerals.{one-add}
use Rattle.std.proofs.Math.Pow.{mod-mod-pow}
use Rattle.std.proofs.lemmas.Nat.{and_mask, one_shl, pow_pos, mod-pow-add, shr-shr}
use Rattle.std.specs.Int.{w128, from_le_bytes}
use Rattle.imagesize_source.specs.declared.halt.Halt.{Halt}
use Rattle.imagesize_source.specs.declared.halt.Halt.TheVariants.{Corrupted}
use Rattle.imagesize_source.specs.declared.endian.Endian.TheVariants.{Little}
use Rattle.imagesize_source.proofs.Numbers.{Eight, are_eight, eight}
use Rattle.imagesize_source.specs.Numbers.{number, little}
use Rattle.imagesize_boxes.specs.Fields.{low_bits, bits_of, binary, field_at, Fields, found, bits, with_found, found_by, bind_fields}
use Rattle.imagesize_boxes.specs.Walks.{field_in}

-- the mask of so many bits leaves these of a number
pub masked : (n count : ℕ) → count ≤ 30 → bit_and (n % 2 ^ 64) (1 * 2 ^ count % 2 ^ 64 - 1) ≡ n % 2 ^ count
masked n count few =
    let all : (64 - count) + count ≡ 64 = omega arith in
    rw (one_shl count 64 (omega arith))
    (and_mask (n % 2 ^ 64) count ∙ ap (λ e. n % 2 ^ e % 2 ^ count) (sym all) ∙ mod-mod-pow n
    (64 - count) count)

pub little_16 : (bs : List ℕ) → length bs ≡ 16 → from_le_bytes w128 bs ≡ number Little bs
unfolding number
little_16 bs is =
    subst (λ bs. from_le_bytes w128 bs ≡ number Little bs) (take-append-drop 8 bs) (on_eights (take 8 bs) (drop 8 bs)
    (are_eight (take 8 bs) (length-take 8 bs ∙ omega (arith, is)))
    (are_eight (drop 8 bs) (length-drop 8 bs ∙ omega (arith, is)))) where
      on_eights : (xs ys : List ℕ) → Eight xs → Eight ys → from_le_bytes w128 (xs ++ ys) ≡ number Little (xs ++ ys)
      on_eights xs ys (eight a b c d e f g h) (eight i j k l m n o p) = omega arith

-- what goes on alike is found alike
alike : {X Y : Type 0} (r : Result X Halt) (f g : X → Result Y Halt) → ((x : X) → f x ≡ g x)
    → with_found r f ≡ with_found r g
alike (Ok x) f g same = same x
alike (Err e) f g same = refl

found_twice : {X Y Z : Type 0} (r : Result X Halt) (f : X → Result Y Halt) (g : Y → Result Z Halt)
    → with_found r (λ x. with_found (f x) g) ≡ with_found (with_found r f) g
found_twice (Ok x) f g = refl
found_twice (Err e) f g = refl

-- what is found by fields that are read alike
pub found_alike : {X : Type 0} (f g : ℕ → ℕ → Result ℕ Halt) (t : Fields X)
    → ((from count : ℕ) → f from count ≡ g from count)
    → found_by f t ≡ found_by g t
found_alike f g (found x) same = refl
found_alike f g (bits from count h) same =
    rw (same from count) (alike (g from count) (λ n. found_by f (h n)) (λ n. found_by g (h n))
    (λ n. found_alike f g (h n) same))

-- what goes on is found behind what it goes on from
pub found-after : {X Y : Type 0} (field : ℕ → ℕ → Result ℕ Halt) (t : Fields X) (g : X → Fields Y)
    → found_by field (bind_fields t g)
    ≡ with_found (found_by field t) (λ x. found_by field (g x))
found-after field (found x) g = refl
found-after field (bits from count f) g =
    alike (field from count) (λ n. found_by field (bind_fields (f n) g))
    (λ n. with_found (found_by field (f n)) (λ x. found_by field (g x)))
    (λ n. found-after field (f n) g)
    ∙ found_twice (field from count) (λ n. found_by field (f n)) (λ x. found_by field (g x))

pub ruleset fields = (found-after)

-- Each number of the list is a bit.
data AreBits : List ℕ → Type 0 where
  no_bits : AreBits []
  one_bit : {b : ℕ} {rest : List ℕ} → b < 2 → AreBits rest → AreBits (b ∷ rest)

are_bits : (bytes : List ℕ) → AreBits (bits_of bytes)
unfolding bits_of low_bits
are_bits [] = no_bits
are_bits (b ∷ bytes) =
    one_bit (omega arith) (one_bit (omega arith) (one_bit (omega arith) (one_bit (omega arith)
    (one_bit (omega arith) (one_bit (omega arith) (one_bit (omega arith) (one_bit (omega arith) (are_bits bytes))))))))

pub length-bits_of : (bytes : List ℕ) → length (bits_of bytes) ≡ 8 * length bytes
unfolding bits_of low_bits
length-bits_of [] = refl
length-bits_of (b ∷ bytes) = let rest = length-bits_of bytes in omega arith

-- the number of the bits of bytes is that of the bytes
binary_of : (bytes : List ℕ) → ((i : ℕ) → get_or bytes i 0 < 256) → binary (bits_of bytes) ≡ little bytes
unfolding bits_of low_bits binary
binary_of [] small = refl
binary_of (b ∷ bytes) small =
    let here : b < 256 = small 0 in
    let rest = binary_of bytes (λ i. small (suc i)) in
    omega arith

-- the lowest bits of a number are its rest by a power of two
binary_take : (k : ℕ) (list : List ℕ) → AreBits list → binary (take k list) ≡ binary list % 2 ^ k
unfolding binary
binary_take zero list h = omega arith
binary_take (suc k) [] h = let some = pow_pos (suc k) in omega arith
binary_take (suc k) (b ∷ list) (one_bit is rest) =
    let lower = binary_take k list rest in
    let n : ℕ = b + 2 * binary list in
    let half : n / 2 ≡ binary list = omega arith in
    let all : n % 2 ^ suc k ≡ (n / 2 % 2 ^ k) * 2 + n % 2 = ap (λ e. n % 2 ^ e) (sym (add-one k)) ∙ mod-pow-add n k 1 in
    let same : n / 2 % 2 ^ k ≡ binary list % 2 ^ k = ap (λ m. m % 2 ^ k) half in
    omega arith

-- and what is behind them is what it holds of it
binary_drop : (k : ℕ) (list : List ℕ) → AreBits list → binary (drop k list) ≡ binary list / 2 ^ k
unfolding binary
binary_drop zero list h = omega arith
binary_drop (suc k) [] h = let some = pow_pos (suc k) in omega arith
binary_drop (suc k) (b ∷ list) (one_bit is rest) =
    let n : ℕ = b + 2 * binary list in
    let half : n / 2 ≡ binary list = omega arith in
    binary_drop k list rest ∙ ap (λ m. m / 2 ^ k) (sym half) ∙ shr-shr n 1 k ∙ ap (λ e. n / 2 ^ e) (one-add k)

drop_bits : (k : ℕ) (list : List ℕ) → AreBits list → AreBits (drop k list)
drop_bits zero list h = h
drop_bits (suc k) [] h = no_bits
drop_bits (suc k) (b ∷ list) (one_bit is rest) = drop_bits k list rest

-- some bits of the bytes are the same bits of their number
bits_value : (bytes : List ℕ) → ((i : ℕ) → get_or bytes i 0 < 256) → (from count : ℕ)
    → binary (take count (drop from (bits_of bytes))) ≡ little bytes / 2 ^ from % 2 ^ count
bits_value bytes small from count =
    binary_take count (drop from (bits_of bytes)) (drop_bits from (bits_of bytes) (are_bits bytes))
    ∙ ap (λ n. n % 2 ^ count)
    (binary_drop from (bits_of bytes) (are_bits bytes) ∙ ap (λ n. n / 2 ^ from) (binary_of bytes small))

is_there : (b : Bool) (m n : ℕ) → ◌≡◌ {A = Result ℕ Halt} (cond b (Ok m) (Err Corrupted)) (Ok n) → b ≡ true
is_there true m n is = refl
is_there false m n is = absurd cc

-- more bits leave a field that is there
field_more : (list more : List ℕ) (from count n : ℕ) → field_at list from count ≡ Ok n
    → field_at (list ++ more) from count ≡ Ok n
unfolding field_at
field_more list more from count n is =
    let long = length-append list more in
    let test = is_there (leb (from + count) (length list)) (binary (take count (drop from list))) n is in
    let here : from + count ≤ length list = grind (arith, nat_tests) in
    let after : leb (from + count) (length (list ++ more)) ≡ true = grind (arith, nat_tests) in
    let rest = length-drop from list in
    let same : take count (drop from (list ++ more)) ≡ take count (drop from list) =
    ap (take count) (drop-append-le from list more (omega arith))
    ∙ take-append-le count (drop from list) more (omega arith) in
    rw (after, same) (ap (λ b. cond b (Ok (binary (take count (drop from list)))) (Err Corrupted)) (sym test) ∙ is)

found_on : {X : Type 0} (r : Result ℕ Halt) (other : Result ℕ Halt) (f g : ℕ → Result X Halt) (v : X)
    → ((n : ℕ) → r ≡ Ok n → other ≡ Ok n) → ((n : ℕ) → f n ≡ Ok v → g n ≡ Ok v) → with_found r f ≡ Ok v
    → with_found other g ≡ Ok v
found_on (Ok n) other f g v same rest is = rw (same n refl) (rest n is)
found_on (Err e) other f g v same rest is = absurd cc

-- and what was found
pub found_more : {X : Type 0} (list more : List ℕ) (t : Fields X) (v : X) → found_by (field_at list) t ≡ Ok v
    → found_by (field_at (list ++ more)) t ≡ Ok v
found_more list more (found x) v is = is
found_more list more (bits from count f) v is =
    found_on (field_at list from count) (field_at (list ++ more) from count) (λ n. found_by (field_at list) (f n))
    (λ n. found_by (field_at (list ++ more)) (f n)) v
    (λ n at. field_more list more from count n at) (λ n at. found_more list more (f n) v at) is

-- the bits of the first bytes are the first bits
bits_take : (k : ℕ) (bytes : List ℕ) → bits_of (take k bytes) ≡ take (8 * k) (bits_of bytes)
unfolding bits_of low_bits
bits_take zero bytes = refl
bits_take (suc k) [] = sym (take-nil (8 * suc k))
bits_take (suc k) (b ∷ bytes) =
    let eight_more : 8 * suc k ≡ suc (suc (suc (suc (suc (suc (suc (suc (8 * k)))))))) = omega arith in
    rw (eight_more, bits_take k bytes) refl

-- a field of the first bytes is that of the number of all
pub field_front : (bytes : List ℕ) (len : ℕ) → ((i : ℕ) → get_or bytes i 0 < 256) → len ≤ length bytes
    → (from count : ℕ)
    → field_at (bits_of (take len bytes)) from count ≡ field_in (little bytes) (8 * len) from count
unfolding field_at
field_front bytes len small within from count =
    let long : length (bits_of (take len bytes)) ≡ 8 * len =
    length-bits_of (take len bytes) ∙ ap (λ n. 8 * n) (length-take-le len bytes within) in
    rw long (by_test (leb (from + count) (8 * len)) refl) where
      by_test : (all : Bool) → leb (from + count) (8 * len) ≡ all
          → ◌≡◌ {A = Result ℕ Halt} (cond all (Ok (binary (take count (drop from (bits_of (take len bytes)))))) (Err Corrupted))
          (cond all (Ok (little bytes / 2 ^ from % 2 ^ count)) (Err Corrupted))
      by_test false is = refl
      by_test true is =
          let fits : from + count ≤ 8 * len = grind (arith, nat_tests) in
          let split : 8 * len ≡ from + (8 * len - from) = omega arith in
          let front : take (8 * len) (bits_of bytes) ≡ take (from + (8 * len - from)) (bits_of bytes) =
          ap (λ n. take n (bits_of bytes)) split in
          ap Ok (ap (λ list. binary (take count (drop from list))) (bits_take len bytes ∙ front)
          ∙ ap (λ list. binary (take count list)) (drop-take from (8 * len - from) (bits_of bytes))
          ∙ ap binary (take-take count (8 * len - from) (drop from (bits_of bytes)) (omega arith))
          ∙ bits_value bytes small from count)

-- the mask of 64 bits
pub low_mask : (n : ℕ) → bit_and n (2 ^ 64 - 1) ≡ n % 2 ^ 64
low_mask n = and_mask n 64
