-- How a reader stands after its calls.
use Rattle.std.proofs.Common.{◌≡◌, ℕ, ◌+◌, ◌-◌, ◌^◌, ◌<◌, ◌≤◌, min, Bool, true, false, List, length, Option, Some, None, Result, Ok, Err, IfSome, arith}
use Rattle.std.proofs.lemmas.Bool.Decides.{nat_tests}
use Rattle.std.specs.Prelude.{IsSomeAnd}
use Rattle.imagesize_source.specs.declared.halt.Halt.{Halt}
use Rattle.imagesize_io.specs.declared.progress.Progress.{Progress}
use Rattle.imagesize_source.specs.Input.{part}
use Rattle.imagesize_io.specs.Telling.{Account, Telling}
use Rattle.imagesize_io.specs.Standing.{Standing, behind, steady, stand, Fills, GivesAll, GoesTo, GivesFrom, Keeps, ReadsFrom, Tries}

-- what the numbers say about a reader that stands somewhere
pub record StandsAt (telling : Option Telling) (p : Progress) (s : Standing) : Type 0 where
  pub is : stand telling p ≡ Some s
  pub told : p.told ≡ length s.bytes
  pub short : length s.bytes < 2 ^ 63
  pub offset : p.offset ≡ s.offset
  pub calm : p.fault ≡ None
  pub model : IsSomeAnd telling (λ t. s ≡ record { bytes = t.bytes; offset = t.offset; can_fail = t.can_fail })

pub stands_at : (telling : Option Telling) (p : Progress) (s : Standing) → stand telling p ≡ Some s → StandsAt telling p s
stands_at telling p s e = grind (arith, nat_tests)

-- an offset that was not reached has no bytes
pub not_reached : (first new : Option Standing) (offset now old taken : ℕ) (b : Bool) (buffer : List ℕ)
    → GoesTo first new offset now (Ok b) → b ≡ false → taken ≡ old → GivesFrom first new offset now buffer (Ok 0)
    × IfSome first (λ s. taken ≤ old + min (length buffer) (length s.bytes - offset))
unfolding part
not_reached first new offset now old taken b buffer h off same = grind arith

-- the bytes from an offset that was reached
reached : (first mid last : Option Standing) (offset at now old new : ℕ) (b : Bool) (buffer : List ℕ) (r : Result ℕ Halt)
    → GoesTo first mid offset at (Ok b) → b ≡ true → ((t : Standing) → last ≡ Some t → now ≡ t.offset)
    → GivesAll mid last buffer r → IfSome mid (λ s. new ≤ old + min (length buffer) (length s.bytes - s.offset))
    → GivesFrom first last offset now buffer r × IfSome first (λ s. new ≤ old + min (length buffer) (length s.bytes - offset))
reached first mid last offset at now old new b buffer r goes on here gives within = grind arith

-- A read from an offset on goes there, and reads on until the buffer is full.
module _ {old mid : Progress} {a m b : Account} {offset : ℕ} {there : Bool} {buffer : List ℕ}
    (goes : GoesTo (stand a.telling old) (stand m.telling mid) offset mid.offset (Ok there)) (on : there ≡ true)
    (asked : mid.offset ≡ offset) (taken : mid.taken ≡ old.taken) (place : mid.position ≡ old.position)
    (keeps : Keeps old mid a m (Ok there)) where
  pub fills_there : {new : Progress} {n : ℕ} (q : ℕ)
      → Fills mid new (stand m.telling mid) (stand b.telling new) m b buffer (Ok n)
      → (0 < n → q ≡ new.offset) → (n ≡ 0 → q ≡ new.position)
      → ReadsFrom old (record new { position = q }) (stand a.telling old) (stand b.telling new) a b offset buffer (Ok n)
  fills_there {new} {n} q h some none =
      let all = reached (stand a.telling old) (stand m.telling mid) (stand b.telling new) offset mid.offset new.offset old.taken new.taken
      there buffer (Ok n) goes on (λ t is. (stands_at b.telling new t is).offset) h.stand (rw taken at h.within) in grind (arith, all)

  pub stops_there : {new : Progress} {e : Halt} → Fills mid new (stand m.telling mid) (stand b.telling new) m b buffer (Err e)
      → ReadsFrom old new (stand a.telling old) (stand b.telling new) a b offset buffer (Err e)
  stops_there {new} {e} h =
      let all = reached (stand a.telling old) (stand m.telling mid) (stand b.telling new) offset mid.offset new.offset old.taken new.taken
      there buffer (Err e) goes on (λ t is. (stands_at b.telling new t is).offset) h.stand (rw taken at h.within) in grind (arith, all)

-- the tries of a read so far
pub record Retried (first now : Option Telling) (count count' : Option ℕ) (old new : Progress) : Type 0 where
  pub told : new.told ≡ old.told
  pub budget : new.budget ≡ old.budget
  pub taken : new.taken ≡ old.taken
  pub offset : new.offset ≡ old.offset
  pub position : new.position ≡ old.position
  pub behind : behind now new ≡ behind first old
  pub calm : new.fault ≡ old.fault
  pub steady : steady now new.retries ≡ steady first old.retries
  pub counts : count' ≡ count
  pub tried : old.retries ≤ new.retries
  pub limit : old.retries ≤ 64 → new.retries ≤ 64
  pub tries : Tries first old.retries now new.retries
