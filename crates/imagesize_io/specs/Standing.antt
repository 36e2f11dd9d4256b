-- What a reader's model claims, as far as the numbers kept for the reader agree with it.
use Rattle.std.specs.Prelude.{◌≡◌, ℕ, ◌+◌, ◌-◌, ◌^◌, ◌<◌, ◌≤◌, min, Bool, true, false, ◌||◌, ◌&&◌, not, List, length, take, nat_le, nat_lt, ◌==◌, if◌then◌else◌, Option, None, Some, is_none, Result, Ok, Err, IfSome, IfOk, IfErr, OnOk, IsSomeAnd, option_map, ⊤}
use Rattle.imagesize_source.specs.declared.halt.Halt.{Halt}
use Rattle.imagesize_source.specs.Limits.{most_retries}
use Rattle.imagesize_io.specs.declared.progress.Progress.{Progress}
use Rattle.std.specs.declared.io.Error.{Error}
use Rattle.imagesize_io.specs.StopOf.{kept_error, last_failed}
use Rattle.imagesize_source.specs.Input.{part}
use Rattle.imagesize_source.specs.Reading.{is_failure, is_stop, is_spent}
use Rattle.imagesize_source.specs.State.{Behind}
use Rattle.imagesize_io.specs.Telling.{Account, Telling, bytes_given}

-- the bytes of a reader, its offset, and whether a call may fail
pub record Standing : Type 0 where
  pub bytes : List ℕ
  pub offset : ℕ
  pub can_fail : Bool

-- The model without its interruptions, after this many retries. It exists if the reader can fail, or if no more
-- interruptions come than are retried.
abbrev pub steady : Option Telling → ℕ → Option Standing
steady None retries = None
steady (Some t) retries =
    if t.can_fail || nat_le (t.interruptions + retries) most_retries
    then Some (record { bytes = t.bytes; offset = t.offset; can_fail = t.can_fail }) else None

-- whether the reported length and the kept offset agree with the model, and no error is kept
abbrev pub in_step : ℕ → ℕ → Option Error → Standing → Bool
in_step told offset fault s = nat_lt (length s.bytes) (2 ^ 63) && (told == length s.bytes) && (offset == s.offset) && is_none fault

-- the state of a reader, if these numbers agree with its model and no call failed
abbrev pub stand_of : ℕ → ℕ → Option Error → Option Standing → Option Standing
stand_of told offset fault None = None
stand_of told offset fault (Some s) = if in_step told offset fault s then Some s else None

abbrev pub stand : Option Telling → Progress → Option Standing
stand telling p = stand_of p.told p.offset p.fault (steady telling p.retries)

-- How many interruptions come in all, with those already retried. The number is known for a reader that cannot fail
-- and has the reported length. All interruptions must be retried, and no error kept.
abbrev pub in_all : ℕ → ℕ → Option Error → Telling → Option ℕ
in_all told retries fault t =
    if is_none fault && not t.can_fail && nat_le (t.interruptions + retries) most_retries && (told == length t.bytes)
    then Some (t.interruptions + retries) else None

-- what never changes about a reader, over all calls
abbrev pub behind_of : ℕ → ℕ → Option Error → Option Telling → Option Behind
behind_of told retries fault telling = option_map
    (λ t. record { bytes = t.bytes; can_fail = t.can_fail; interruptions = in_all told retries fault t }) telling

abbrev pub behind : Option Telling → Progress → Option Behind
behind telling p = behind_of p.told p.retries p.fault telling

-- What a read at the reader's offset did. It returned the next bytes, at least one if there is one and the buffer is
-- not empty. Only a reader that can fail has a failure.
abbrev pub GivesSome : Option Standing → Option Standing → List ℕ → Result ℕ Halt → Type 0
GivesSome None new buffer r = ⊤
GivesSome (Some s) new buffer (Ok n) =
    (new ≡ Some (record s { offset = s.offset + n })) × (take n buffer ≡ part s.bytes s.offset n) × (n ≤ length s.bytes - s.offset)
    × (0 < length buffer → s.offset < length s.bytes → 0 < n)
GivesSome (Some s) new buffer (Err halt) = is_failure halt ≡ true → s.can_fail ≡ true

-- what a seek did: the reader is at the offset now, or the offset is past its bytes
abbrev pub GoesTo : Option Standing → Option Standing → ℕ → ℕ → Result Bool Halt → Type 0
GoesTo None new offset now r = ⊤
GoesTo (Some s) new offset now (Ok true) = (new ≡ Some (record s { offset = offset })) × (now ≡ offset)
GoesTo (Some s) new offset now (Ok false) = (new ≡ Some s) × (length s.bytes < offset) × (now ≡ s.offset)
GoesTo (Some s) new offset now (Err halt) = is_failure halt ≡ true → s.can_fail ≡ true

-- what a read from an offset on did, until the buffer is full or the bytes end
abbrev pub GivesFrom : Option Standing → Option Standing → ℕ → ℕ → List ℕ → Result ℕ Halt → Type 0
GivesFrom None new offset now buffer r = ⊤
GivesFrom (Some s) new offset now buffer (Ok n) =
    (new ≡ Some (record s { offset = now })) × (take n buffer ≡ part s.bytes offset n) × (n ≡ min (length buffer) (length s.bytes - offset))
GivesFrom (Some s) new offset now buffer (Err halt) = is_failure halt ≡ true → s.can_fail ≡ true

-- what a read at the reader's offset did that goes on until the buffer is full or the bytes end
abbrev pub GivesAll : Option Standing → Option Standing → List ℕ → Result ℕ Halt → Type 0
GivesAll None new buffer r = ⊤
GivesAll (Some s) new buffer r = GivesFrom (Some s) new s.offset (s.offset + bytes_given r) buffer r

-- a reader with a model still has one, and each of its interruptions was counted as a try
abbrev pub Tries : Option Telling → ℕ → Option Telling → ℕ → Type 0
Tries None tries new tries' = ⊤
Tries (Some t) tries new tries' = IsSomeAnd new (λ u. t.interruptions + tries ≤ u.interruptions + tries')

-- by how much a count is above a number, and by how much it is below
abbrev pub drift : Option ℕ → ℕ → Option (ℕ × ℕ)
drift count taken = option_map (λ c. (c - taken, taken - c)) count

-- Only a failure or a spent budget stops a read. The budget equals the bytes read, and the failure is the last one.
pub record StopsBy (p : Progress) (failure : Option (Option Error)) (halt : Halt) : Type 0 where
  pub stops : is_stop halt ≡ true
  pub budget : is_spent halt ≡ true → p.budget ≡ p.taken
  pub fault : is_failure halt ≡ true → last_failed p.fault failure ≡ Some (kept_error p.fault)

-- What a call keeps of the numbers. Retries are never forgotten, and never exceed `most_retries`.
pub record KeepsCounts (old new : Progress) : Type 0 where
  pub told : new.told ≡ old.told
  pub budget : new.budget ≡ old.budget
  pub taken : old.taken ≤ new.taken
  pub retries : old.retries ≤ new.retries
  pub limit : old.retries ≤ most_retries → new.retries ≤ most_retries

-- What a call keeps: what never changes about a reader, and the numbers. An error is the call's own, and stops it.
pub record Keeps {X : Type 0} (old new : Progress) (a b : Account) (r : Result X Halt) : Type 0 where
  pub since : drift b.count new.taken ≡ drift a.count old.taken
  pub behind : behind b.telling new ≡ behind a.telling old
  pub calm : OnOk r (new.fault ≡ old.fault)
  pub counts : KeepsCounts old new
  pub stops : IfErr r (StopsBy new b.failure)

-- what one read at the reader's offset did
pub record ReadsOnce (old new : Progress) (a b : Account) (buffer : List ℕ) (r : Result ℕ Halt) : Type 0 where
  pub bound : IfOk r (λ n. n ≤ length buffer)
  pub stand : GivesSome (stand a.telling old) (stand b.telling new) buffer r
  pub taken : new.taken ≡ old.taken + bytes_given r
  pub offset : IfOk r (λ n. new.offset ≡ min (old.offset + n) (2 ^ 64 - 1))
  pub place : OnOk r (new.position ≡ old.position)
  pub tries : OnOk r (Tries a.telling old.retries b.telling new.retries)
  pub keeps : Keeps old new a b r

-- what reads at the reader's offset did, one after another until the buffer is full or the bytes end
pub record Fills (old new : Progress) (before after : Option Standing) (a b : Account) (buffer : List ℕ) (r : Result ℕ Halt)
    : Type 0 where
  pub bound : IfOk r (λ n. n ≤ length buffer)
  pub stand : GivesAll before after buffer r
  pub taken : IfOk r (λ n. new.taken ≡ old.taken + n)
  pub offset : IfOk r (λ n. new.offset ≡ min (old.offset + n) (2 ^ 64 - 1))
  pub within : IfSome before (λ s. new.taken ≤ old.taken + min (length buffer) (length s.bytes - s.offset))
  pub place : OnOk r (new.position ≡ old.position)
  pub keeps : Keeps old new a b r

-- what a read from an offset on did, over every reader
pub record ReadsFrom (old new : Progress) (before after : Option Standing) (a b : Account) (offset : ℕ) (buffer : List ℕ)
    (r : Result ℕ Halt) : Type 0 where
  pub bound : IfOk r (λ n. n ≤ length buffer)
  pub stand : GivesFrom before after offset new.offset buffer r
  pub moves : IfOk r (λ n. 0 < n → new.position ≡ min (offset + n) (2 ^ 64 - 1))
  pub stays : IfOk r (λ n. n ≡ 0 → new.position ≡ old.position)
  pub taken : IfOk r (λ n. new.taken ≡ old.taken + n)
  pub within : IfSome before (λ s. new.taken ≤ old.taken + min (length buffer) (length s.bytes - offset))
  pub pays : IfOk r (λ n. old.told < offset → 0 < n → old.taken < new.taken)
  pub keeps : Keeps old new a b r

-- n bytes from an offset on were counted, without a call of the reader
pub record Passed (old new : Progress) (from n : ℕ) : Type 0 where
  pub told : new.told ≡ old.told
  pub budget : new.budget ≡ old.budget
  pub offset : new.offset ≡ old.offset
  pub retries : new.retries ≡ old.retries
  pub fault : new.fault ≡ old.fault
  pub taken : new.taken ≡ old.taken + n
  pub position : new.position ≡ min (from + n) (2 ^ 64 - 1)
