-- A reader as a source: its model, the numbers kept for it, and a window with its first bytes.
use Rattle.std.specs.Prelude.{◌≡◌, ◌≢◌, ℕ, ◌+◌, ◌^◌, ◌-◌, min, ◌==◌, true, false, List, [], ◌++◌, length, take, drop, nat_le, if◌then◌else◌, Option, None, Some, Result, Ok, Err, IfOk, max, ◌<◌, ◌≤◌}
use Rattle.imagesize_source.specs.declared.error.ImageError.{ImageError}
use Rattle.imagesize_source.specs.declared.halt.Halt.{Halt}
use Rattle.imagesize_source.specs.declared.text.Text.{Text}
use Rattle.imagesize_io.specs.declared.reader.Opened.{Opened}
use Rattle.imagesize_io.specs.declared.progress.Progress.{Progress}
use Rattle.imagesize_source.specs.Limits.{allowance, most_held}
use Rattle.imagesize_io.specs.declared.reader.Ledger.{Ledger}
use Rattle.imagesize_source.specs.Reading.{part_read, text_read, map_answer}
use Rattle.imagesize_io.specs.StopOf.{kept_error, last_failed}
use Rattle.std.specs.declared.io.Error.{Error}
use Rattle.imagesize_io.specs.Telling.{Account, Fails, Telling, at_offset}
use Rattle.imagesize_io.specs.Standing.{Standing, KeepsCounts, behind, behind_of, steady, stand_of, stand, drift}
use Rattle.imagesize_source.specs.State.{State, Frame, Held, Runs, Reader}

-- no claim about the reader
abbrev pub no_claim : Held
no_claim = record { honest = false; input = []; can_fail = false }

-- the reader's bytes, with the first ones replaced by the window's
abbrev pub with_window : List ℕ → List ℕ → List ℕ
with_window window d = window ++ drop (length window) d

-- What the source claims: the reader's bytes, with the first ones as the window has them.
abbrev pub held_at : Option Standing → List ℕ → Held
held_at None window = no_claim
held_at (Some s) window =
    if nat_le (length window) (length s.bytes)
    then record { honest = true; input = with_window window s.bytes; can_fail = s.can_fail } else no_claim

-- what never changes about a reader as a source; `home` names the borrow of the reader
abbrev pub reader_frame : Account → ℕ → Progress → Frame
reader_frame a home p = record {
  told = p.told;
  budget = p.budget;
  counts = true;
  backing = Reader home (drift a.count p.taken) (behind a.telling p);
}

-- a reader as a source
abbrev pub state_at : Frame → Option Standing → Option Error → Option (Option Error) → List ℕ → ℕ → ℕ → State
state_at frame standing fault failure window taken place = record {
  frame = frame;
  held = held_at standing window;
  front = length window;
  taken = taken;
  place = place;
  recorded = None;
  missed = None;
  failure = kept_error fault;
  failed = Some (last_failed fault failure);
}

abbrev pub reader_state : Account → ℕ → Progress → List ℕ → State
reader_state a home p window =
    state_at (reader_frame a home p) (stand a.telling p) p.fault a.failure window p.taken p.position

-- the window after a read: the next bytes after the window are added to it, up to its length
abbrev pub kept_window : List ℕ → ℕ → List ℕ → List ℕ
kept_window window offset bytes = if offset == length window then window ++ take (most_held - length window) bytes else window

-- what opening a reader returns: its offset and its length; the reader is then at its end
abbrev pub Opens : Option Telling → Option Telling → Result Opened ImageError → Type 0
Opens None new r = new ≡ None
Opens (Some t) new (Ok opened) =
    (new ≡ Some (at_offset t (length t.bytes))) × (opened.offset ≡ t.offset) × (opened.told ≡ length t.bytes)
Opens (Some t) new (Err e) = Fails t new

-- A reader as a source before the first read, with its reported length. It is at its end, and the budget is the
-- reported length and the allowance.
abbrev pub start_state : Option Telling → Option ℕ → ℕ → ℕ → State
start_state telling count home told = state_at
    (record {
      told = told;
      budget = min (told + allowance) (2 ^ 64 - 1);
      counts = true;
      backing = Reader home (drift count 0) (behind_of told 0 None telling);
    })
    (stand_of told told None (steady telling 0)) None None [] 0 told

-- What a read from an offset on did, over every reader. It saw the bytes that the window has, and those that follow
-- from the reader.
pub record ReadsAt (old new : Ledger) (a b : Account) (offset : ℕ) (buffer : List ℕ) (r : Result ℕ Halt) : Type 0 where
  pub bound : IfOk r (λ n. n ≤ length buffer)
  pub pays : IfOk r (λ n. 0 < n → max old.progress.told most_held < offset → (old.progress.taken < new.progress.taken)
      × (new.progress.taken ≤ old.progress.budget))
  pub keeps : KeepsCounts old.progress new.progress
  pub runs : (home : ℕ) → Runs (reader_state a home old.progress old.window.items)
      (reader_state b home new.progress new.window.items) (map_answer (λ n. take n buffer) r)
      (part_read (held_at (stand a.telling old.progress) old.window.items).input offset (length buffer))

-- What a read of a source did. Past the reported length, it goes on only from the end of the last read. At any other
-- offset there it is at the end of the input, and does not call the reader.
pub record ReadsOn {R : Type 0} (reader reader' : R) (old new : Ledger) (a b : Account) (offset : ℕ) (buffer : List ℕ)
    (r : Result ℕ Halt) : Type 0 where
  pub reads : ReadsAt old new a b offset buffer r
  pub present : offset ≤ old.progress.told → IfOk r (λ n. new.present ≡ min (offset + n) (2 ^ 64 - 1))
  pub goes_on : offset ≡ old.present → IfOk r (λ n. new.present ≡ min (offset + n) (2 ^ 64 - 1))
  pub ends : old.progress.told < offset → offset ≢ old.present → (r ≡ Ok 0) × (reader' ≡ reader) × (new.present ≡ old.present)

-- what a read of a text from an offset on did, over every reader
pub record ReadsText (old new : Ledger) (a b : Account) (text : Text) (offset : ℕ) (buffer : List ℕ) (r : Result ℕ Halt)
    : Type 0 where
  pub bound : IfOk r (λ n. n ≤ length buffer)
  pub pays : IfOk r (λ n. 0 < n → max old.progress.told most_held < offset → old.progress.taken < new.progress.taken)
  pub runs : (home : ℕ) → Runs (reader_state a home old.progress old.window.items)
      (reader_state b home new.progress new.window.items)
      (map_answer (λ n. take n buffer) r)
      (text_read (held_at (stand a.telling old.progress) old.window.items).input text offset (length buffer))
