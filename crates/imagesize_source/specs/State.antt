-- The state of a source of bytes, and how reads change it.
use Rattle.std.specs.Prelude.{◌≡◌, ℕ, ◌+◌, ◌-◌, ◌^◌, ◌<◌, ◌≤◌, min, max, Bool, true, false, List, [], ◌∷◌, ◌++◌, length, nat_le, if◌then◌else◌, Option, None, Some, Result, IfErr, IfSome, IsSomeAnd, option_map}
use Rattle.imagesize_source.specs.Input.{span_at}
use Rattle.imagesize_source.specs.Limits.{most_held}
use Rattle.imagesize_source.specs.declared.error.ImageError.{ImageError}
use Rattle.imagesize_source.specs.declared.halt.Halt.{Halt}
use Rattle.imagesize_source.specs.declared.source.known.Missing.{Missing}
use Rattle.imagesize_source.specs.declared.span.Span.{Span}
use Rattle.imagesize_source.specs.Errors.{end_of_input, is_fault}
use Rattle.imagesize_source.specs.Layout.{Layout, layout_reads}
use Rattle.imagesize_source.specs.Reading.{Reads, is_stopped, is_failure, is_faulted, is_spent}

-- What never changes about a reader: its bytes, whether a call may fail, and how many interruptions it has in all, if
-- that is known.
pub record Behind : Type 0 where
  pub bytes : List ℕ
  pub can_fail : Bool
  pub interruptions : Option ℕ

-- The bytes that the source claims to read, as long as it is honest, and whether a call on it may fail.
pub record Held : Type 0 where
  pub honest : Bool
  pub input : List ℕ
  pub can_fail : Bool

-- What a source reads from; it never changes. `Slice` is a slice, and `Recorded` a slice with the name of the borrow
-- of its span buffer. `Parts` are the known parts of an input and their bytes. `Reader` has the name of a reader's
-- borrow, how its own count differs from `taken`, and its model. The difference is two numbers: how much the count is
-- above `taken`, and how much below. `Shown` are bytes that another source holds: how many first bytes that one keeps, and
-- what it claims.
pub data Backing : Type 0 where
  Slice : Backing
  Recorded : ℕ → Backing
  Parts : List Span → List ℕ → Backing
  Reader : ℕ → Option (ℕ × ℕ) → Option Behind → Backing
  Shown : ℕ → Held → Backing

-- the known parts, if the source has parts
abbrev pub parts_of : Backing → Option (List Span × List ℕ)
parts_of (Parts spans bytes) = Some (spans, bytes)
parts_of _ = None

-- the name of the borrow of its span buffer
abbrev pub home_of : Backing → ℕ
home_of (Recorded home) = home
home_of _ = 0

-- how the count of its reader differs from `taken`
abbrev pub since_of : Backing → Option (ℕ × ℕ)
since_of (Reader home since behind) = since
since_of _ = None

-- the model of its reader
abbrev pub model_of : Backing → Option Behind
model_of (Reader home since behind) = behind
model_of _ = None

-- What never changes about a source: the reported length, the budget, whether the bytes read are counted, and what it
-- reads from.
pub record Frame : Type 0 where
  pub told : ℕ
  pub budget : ℕ
  pub counts : Bool
  pub backing : Backing

-- The state of a source. `front` is how many of its first bytes it holds, `taken` how many bytes it has read, and
-- `place` the offset at which it leaves its reader. `recorded` is the spans that it has recorded, and `failure` the
-- error that a failed call returns. A source that reports it also has what its last failed read missed, and the error
-- of its last failure.
pub record State : Type 0 where
  pub frame : Frame
  pub held : Held
  pub front : ℕ
  pub taken : ℕ
  pub place : ℕ
  pub recorded : Option (List Span)
  pub missed : Option (Option Missing)
  pub failure : ImageError
  pub failed : Option (Option ImageError)

-- how many of n bytes from an offset on lie after the first `front` bytes
abbrev pub new_bytes : ℕ → ℕ → ℕ → ℕ
new_bytes front offset n = (offset + n) - max offset front

-- how many of its first bytes a source holds after such a read: a read that joins on adds to them, up to `most_held`
abbrev pub front_after : ℕ → ℕ → ℕ → ℕ
front_after front offset n = if nat_le offset front then max front (min most_held (offset + n)) else front

-- Where a source leaves its reader after such a read: at its end, if it gave a byte past those that are held. Any other
-- read moves nothing.
abbrev pub place_after : ℕ → ℕ → ℕ → ℕ → ℕ
place_after front place offset n = if nat_le (offset + n) (max offset front) then place else offset + n

-- where a source that held the first `front` bytes, and stood at `place`, leaves its reader after the reads of these
-- spans
abbrev pub place_by : ℕ → ℕ → List Span → ℕ
place_by front place [] = place
place_by front place (s ∷ spans) = place_by (front_after front s.start s.len) (place_after front place s.start s.len) spans

-- the state after the read of a span
abbrev pub step : State → Span → State
step a s = record a {
  front = if a.frame.counts then front_after a.front s.start s.len else a.front;
  taken = if a.frame.counts then a.taken + new_bytes a.front s.start s.len else a.taken;
  place = if a.frame.counts then place_after a.front a.place s.start s.len else a.place;
  recorded = option_map (λ spans. spans ++ s ∷ []) a.recorded;
}

-- the state after the reads of these spans
unfoldable pub state_after : State → List Span → State
state_after a [] = a
state_after a (s ∷ spans) = state_after (step a s) spans

-- the sum of the spans' lengths, with repeats
abbrev pub total : List Span → ℕ
total [] = 0
total (s ∷ spans) = s.len + total spans

-- an honest source reports its true length, which is below 2^63
abbrev pub IsSound : State → Type 0
IsSound a = a.held.honest ≡ true → (a.frame.told ≡ length a.held.input) × (length a.held.input < 2 ^ 63)

-- Only a source that counts has a spent budget, and it has read as many bytes as the budget. If the source reports its
-- failures, a failure is the last one, and a fault.
pub record EndedBy (b : State) (halt : Halt) : Type 0 where
  pub budget : is_spent halt ≡ true → (b.frame.counts ≡ true) × (b.frame.budget ≡ b.taken)
  pub fault : is_failure halt ≡ true → IfSome b.failed (λ failed. (failed ≡ Some b.failure) × (is_fault b.failure ≡ true))

-- A failed call made the first of these reads. It saw the bytes of the next one up to those that it missed. Those that
-- are certain to be read lie within that read's span, and all that it requests reach to the span's end.
pub record Misses (a b : State) (marks : List Span) (missed : Missing) : Type 0 where
  pub made : List Span
  pub mark : Span
  pub rest : List Span
  pub recorded : b.recorded ≡ option_map (λ spans. spans ++ (made ++ span_at mark.start (missed.start - mark.start))) a.recorded
  pub all : marks ≡ made ++ mark ∷ rest
  pub behind : mark.start ≤ missed.start
  pub within : missed.start + missed.sure ≤ mark.start + mark.len
  pub reaches : mark.start + mark.len ≤ missed.start + missed.most

-- what the last failed read missed, if the source reports it
pub record Missed (a b : State) (marks : List Span) : Type 0 where
  pub told : IfSome b.missed (λ m. IsSomeAnd m (Misses a b marks))

-- A call changed the state from a to b and returned this result, as these reads say. An honest source has read no
-- more than the spans of the reads. If nothing stopped it, the result is that of the reads, and the state is the one
-- after their spans. Only a source that can fail has a failure.
pub record Runs {X : Type 0} (a b : State) (r : Result X Halt) (reads : Reads X) : Type 0 where
  pub sound : IsSound a
  pub sound_after : IsSound b
  pub frame : b.frame ≡ a.frame
  pub taken : a.taken ≤ b.taken
  pub within : a.held.honest ≡ true → b.taken ≤ a.taken + total reads.marks
  pub answer : a.held.honest ≡ true → is_stopped r ≡ false → reads.answer ≡ r
  pub state : a.held.honest ≡ true → is_stopped r ≡ false → b ≡ state_after a reads.marks
  pub fault : a.held.honest ≡ true → is_faulted r ≡ true → a.held.can_fail ≡ true
  pub misses : a.held.honest ≡ true → is_faulted r ≡ true → Missed a b reads.marks
  pub ended : IfErr r (EndedBy b)

-- the call runs as the layout says about the input that the source claims
abbrev pub Follows : {X : Type 0} → State → State → Result X Halt → Layout X → Type 0
Follows a b r layout = Runs a b r (layout_reads a.held.input layout)

-- a slice as a source: it counts nothing, records nothing and cannot fail
abbrev pub slice_state : List ℕ → State
slice_state d = record {
  frame = record { told = length d; budget = 0; counts = false; backing = Slice };
  held = record { honest = true; input = d; can_fail = false };
  front = 0;
  taken = 0;
  place = 0;
  recorded = None;
  missed = None;
  failure = end_of_input;
  failed = None;
}

-- a source that is a slice: no read changes it
abbrev pub IsSlice : State → Type 0
IsSlice a = a ≡ slice_state a.held.input

-- A slice whose spans are recorded after these. `home` names the borrow of the buffer.
abbrev pub recording_state : List ℕ → List Span → ℕ → State
recording_state d spans home = record {
  frame = record { told = length d; budget = 0; counts = false; backing = Recorded home };
  held = record { honest = true; input = d; can_fail = false };
  front = 0;
  taken = 0;
  place = 0;
  recorded = Some spans;
  missed = None;
  failure = end_of_input;
  failed = None;
}

-- The bytes that a source holds, as a source. A read of any other byte fails. The source reports this length, has this
-- budget, keeps its first `front` bytes, and claims what `held` says.
abbrev pub shown_state : ℕ → ℕ → ℕ → Held → ℕ → ℕ → State
shown_state told budget front held taken place = record {
  frame = record { told = told; budget = budget; counts = true; backing = Shown front held };
  held = record { honest = held.honest; input = held.input; can_fail = true };
  front = front;
  taken = taken;
  place = place;
  recorded = None;
  missed = None;
  failure = end_of_input;
  failed = None;
}

-- the bytes that a source in this state holds, as a source
abbrev pub shown_by : State → State
shown_by a = shown_state a.frame.told a.frame.budget a.front a.held a.taken a.place

-- the state of a source after such reads
abbrev pub rejoined : State → ℕ → ℕ → State
rejoined a taken place = record a { taken = taken; place = place }
