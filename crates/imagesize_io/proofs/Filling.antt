-- A buffer that is filled by one read after another.
use Rattle.std.proofs.Common.{◌≡◌, ℕ, ◌+◌, ◌-◌, ◌^◌, ◌<◌, ◌≤◌, min, List, ◌++◌, length, take, Option, Some, None, Ok, Err, refl, arith}
use Rattle.std.proofs.lemmas.List.{length-append, length-take, length-drop, length-take-le, take-append-le, take_at, drop_at, drop-drop}
use Rattle.std.proofs.Math.Seq.{take-add}
use Rattle.std.specs.List.{slice_range}
use borrow.Rule.Slice.PartMut.{put_mid}
use Rattle.imagesize_source.specs.declared.halt.Halt.{Halt}
use Rattle.imagesize_io.specs.declared.progress.Progress.{Progress}
use Rattle.imagesize_source.specs.Input.{part}
use Rattle.imagesize_io.specs.Standing.{Standing, behind, stand, ReadsOnce, Fills, KeepsCounts, drift}
use Rattle.imagesize_io.specs.Telling.{Account}

-- so many bytes of the buffer are the next of the bytes that the reader stood at first
abbrev pub Filled : Option Standing → Option Standing → ℕ → List ℕ → Type 0
Filled None now filled buffer = Unit {0}
Filled (Some s) now filled buffer =
    (now ≡ Some (record s { offset = s.offset + filled })) × (take filled buffer ≡ part s.bytes s.offset filled) ×
    (filled ≤ length s.bytes - s.offset)

-- the reads so far
pub record Filling (first now : Option Standing) (a b : Account) (old new : Progress) (filled : ℕ)
    (buffer : List ℕ) : Type 0 where
  pub fits : filled ≤ length buffer
  pub reached : Filled first now filled buffer
  pub taken : new.taken ≡ old.taken + filled
  pub offset : new.offset ≡ min (old.offset + filled) (2 ^ 64 - 1)
  pub counts : drift b.count new.taken ≡ drift a.count old.taken
  pub behind : behind b.telling new ≡ behind a.telling old
  pub calm : new.fault ≡ old.fault
  pub place : new.position ≡ old.position
  pub keeps : KeepsCounts old new

-- before the first read
pub filled_none : (first : Option Standing) (a : Account) (p : Progress) (buffer : List ℕ) → p.offset < 2 ^ 64
    → Filling first first a a p p 0 buffer
unfolding part
filled_none first a p buffer small = grind arith

-- the bytes of one more read stand behind those before
pub take_more : (buffer more : List ℕ) (filled n : ℕ) → filled ≤ length buffer → n ≤ length more
    → take (filled + n) (put_mid filled (length buffer - filled) buffer more) ≡ take filled buffer ++ take n more
take_more buffer more filled n fits enough =
    let long = length-take-le filled buffer fits in rw (take-add, take_at, drop_at, take-append-le) refl

-- and they are that part of the buffer
pub put_there : (buffer more : List ℕ) (filled n : ℕ) → filled ≤ length buffer → n ≤ length more
    → slice_range (put_mid filled (length buffer - filled) buffer more) filled (filled + n) ≡ take n more
put_there buffer more filled n fits enough =
    let long = length-take-le filled buffer fits in
    let count : filled + n - filled ≡ n = omega arith in
    rw (count, drop_at, take-append-le) refl

pub length-put : (buffer more : List ℕ) (filled : ℕ) → filled ≤ length buffer → length more ≡ length buffer - filled
    → length (put_mid filled (length buffer - filled) buffer more) ≡ length buffer
length-put buffer more filled fits long =
    simp (length-append, length-take, length-drop) (omega (arith, fits, long))

-- a part, and what follows it, is a longer part
pub part-add : (d : List ℕ) (offset k n : ℕ) → part d offset k ++ part d (offset + k) n ≡ part d offset (k + n)
unfolding part
part-add d offset k n = rw (take-add, drop-drop) refl

-- one read
pub one_read : {a b : Account} {old new : Progress} {n : ℕ} {buffer : List ℕ} → ReadsOnce old new a b buffer (Ok n)
    → Filling (stand a.telling old) (stand b.telling new) a b old new n buffer
one_read h = grind arith

module _ {first : Option Standing} {a b c : Account} {old new newer : Progress} {filled : ℕ} {buffer more : List ℕ}
    (h : Filling first (stand b.telling new) a b old new filled buffer) (long : length more ≡ length buffer - filled) where
  -- one more read
  pub filling_more : {n : ℕ} → ReadsOnce new newer b c more (Ok n)
      → Filling first (stand c.telling newer) a c old newer (filled + n) (put_mid filled (length buffer - filled) buffer more)
  filling_more {n} k = let got = take_more buffer more filled n h.fits k.bound in grind (arith, part-add, length-put)

  -- a read that gave nothing into a buffer of some bytes: the bytes end there
  pub filling_done : {n : ℕ} → ReadsOnce new newer b c more (Ok n) → n ≡ 0 → 0 < length more
      → Fills old newer first (stand c.telling newer) a c (put_mid filled (length buffer - filled) buffer more) (Ok filled)
  filling_done {n} k none some = let got = take_more buffer more filled n h.fits k.bound in grind (arith, part-add, length-put)

  pub filling_halts : {e : Halt} → ReadsOnce new newer b c more (Err e)
      → Fills old newer first (stand c.telling newer) a c (put_mid filled (length buffer - filled) buffer more) (Err e)
  filling_halts k = grind (arith, length-put)

  -- and all that follow
  pub filling_ends : {last : Option Standing} {n : ℕ} → Fills new newer (stand b.telling new) last b c more (Ok n)
      → Fills old newer first last a c (put_mid filled (length buffer - filled) buffer more) (Ok (filled + n))
  filling_ends {n = n} k = let got = take_more buffer more filled n h.fits k.bound in grind (arith, part-add, length-put)

  pub filling_stops : {last : Option Standing} {e : Halt} → Fills new newer (stand b.telling new) last b c more (Err e)
      → Fills old newer first last a c (put_mid filled (length buffer - filled) buffer more) (Err e)
  filling_stops k = grind (arith, length-put)
