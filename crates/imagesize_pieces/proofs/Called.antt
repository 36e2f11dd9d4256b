-- What readings of known bytes saw and missed, and what they answered.
use Rattle.std.proofs.Common.{◌≡◌, ℕ, ◌+◌, ◌^◌, ◌<◌, true, false, List, [], ◌∷◌, ◌++◌, length, drop, None, Result, Ok, Err, IfErr, refl, sym, ap, ◌∙◌, subst, arith}
use Rattle.std.specs.Prelude.{unwrap_or}
use Rattle.std.proofs.lemmas.Bool.Decides.{nat_tests}
use Rattle.imagesize_source.specs.declared.halt.Halt.{Halt}
use Rattle.imagesize_source.specs.declared.span.Span.{Span}
use Rattle.imagesize_source.specs.Known.{parts_state}
use Rattle.imagesize_source.specs.Reading.{Reads, is_faulted, is_stopped, uncounted}
use Rattle.imagesize_source.specs.Sharing.{Shares}
use Rattle.imagesize_source.specs.State.{State, Frame, Runs, EndedBy, parts_of}
use Rattle.imagesize_source.proofs.KnownReadings.{past-parts}
use Rattle.imagesize_pieces.specs.Stream.{Says, came, stream_state}
use Rattle.imagesize_pieces.specs.contracts.arrived.ArrivedKnown.TheImpl.{ghosts}
use Rattle.imagesize_pieces.specs.declared.arrived.Arrived.{Arrived}
use Rattle.imagesize_source.specs.declared.source.known.KnownSource.{KnownSource}
use Rattle.imagesize_pieces.proofs.Beginning.{ArrivedSource, Holds, Run, begins_shares, arrived_input}

-- readings that see an input by their marks alone, however long it is
abbrev pub IsShared : {X : Type 0} → (List ℕ → Reads X) → Type 0
IsShared f = (d e : List ℕ) → Shares d e (f e).marks → f d ≡ f e

-- a source of the bytes that arrived
abbrev pub arrived_source : KnownSource Arrived ghosts → ArrivedSource
arrived_source s = record {
  told = s.known.told;
  start = s.known.start;
  kept = s.known.kept.now;
  chunk = s.known.chunk.now;
  spans = s.log.spans;
  missed = s.missed;
  within = s.known.within;
  seen = s.seen;
  lacks = s.lacks;
  sure = s.sure;
}

-- a source as its state
abbrev pub state_of : ArrivedSource → State
state_of s = stream_state s.told s.start s.kept s.chunk s.spans s.missed

-- the source before its first read
abbrev pub fresh : ArrivedSource → State
fresh s = stream_state s.told s.start s.kept s.chunk [] None

-- what is known of an input, with its length
abbrev parts : Frame → ℕ × (List Span × List ℕ)
parts f = (f.told, unwrap_or (parts_of f.backing) ([], []))

-- where the first span starts
abbrev start_of : List Span → ℕ
start_of [] = 0
start_of (s ∷ spans) = s.start

-- where the first span ends
abbrev first_end : List Span → ℕ
first_end [] = 0
first_end (s ∷ spans) = s.start + s.len

-- A source in the state a was made of these bytes. The source b is that one after a call, and reads the same bytes.
pub record Called (a : State) (b : ArrivedSource) (n low : ℕ) (kept unread : List ℕ) : Type 0 where
  pub new : a ≡ fresh b
  pub told : n ≡ b.told
  pub start : low ≡ b.start
  pub ends : low + (length kept + length unread) ≡ b.start + (length b.kept + length b.chunk)
  pub bytes : kept ++ unread ≡ b.kept ++ b.chunk

pub called : (a : State) (b : ArrivedSource) (told start : ℕ) (kept unread : List ℕ)
    → a ≡ stream_state told start kept unread [] None → (state_of b).frame ≡ a.frame
    → Called a b told start kept unread
called a b told start kept unread new frame = record {
  new = new ∙ ap (λ (p : ℕ × (List Span × List ℕ)). parts_state p.0 p.1.0 p.1.1 [] None) same;
  told = ap (λ (p : ℕ × (List Span × List ℕ)). p.0) same;
  start = ap (λ (p : ℕ × (List Span × List ℕ)). start_of p.1.0) same;
  ends = ap (λ (p : ℕ × (List Span × List ℕ)). first_end p.1.0) same;
  bytes = ap (λ (p : ℕ × (List Span × List ℕ)). p.1.1) same;
} where
  same : (told, (came start kept unread, kept ++ unread)) ≡ parts (state_of b).frame
  same = sym (ap parts (frame ∙ ap (λ (s : State). s.frame) new))

pub holds_after : {a : State} {b : ArrivedSource} {told start : ℕ} (front kept unread : List ℕ) → Called a b told start kept unread
    → Run front kept unread start → Holds front b
holds_after front kept unread call run = record {
  is = sym call.bytes ∙ run.is ∙ ap (λ k. drop k front) call.start;
  ends = sym call.ends ∙ run.ends;
}

-- a source that counts nothing is stopped by a failure alone
pub goes_on : {X : Type 0} {a b : State} {r : Result X Halt} {reads : Reads X} → b.frame.counts ≡ false → Runs a b r reads
    → is_faulted r ≡ false → is_stopped r ≡ false
goes_on {X} {a} {b} {r} uncounted runs faultless = by_answer r runs.ended faultless where
  by_answer : (q : Result X Halt) → IfErr q (EndedBy b) → is_faulted q ≡ false → is_stopped q ≡ false
  by_answer (Ok x) ended none = refl
  by_answer (Err halt) ended none = let budget = ended.budget in grind arith

module _ (b : ArrivedSource) (short : b.told < 2 ^ 63) where
  pub is_honest : (fresh b).held.honest ≡ true
  is_honest = grind (arith, nat_tests)

  -- An answer that nothing failed is that of each input that begins with the bytes so far, and rests on the same marks.
  pub says_begun : {X : Type 0} (f : List ℕ → Reads X) {r : Result X Halt} → Runs (fresh b) (state_of b) r (f (arrived_input b))
      → is_faulted r ≡ false → (front : List ℕ) → IsShared f → Holds front b → Says front b.told f r
  says_begun f {r} runs faultless front same run = record {
    marks = b.spans;
    is = λ d begins.
        let going = goes_on refl runs faultless in
        let marked : b.spans ≡ (f (arrived_input b)).marks = ap (λ (s : State). unwrap_or s.recorded [])
        (runs.state is_honest going
        ∙ past-parts b.told (came b.start b.kept b.chunk) (b.kept ++ b.chunk) [] None (f (arrived_input b)).marks) in
        let shares = subst (Shares d (arrived_input b)) marked (begins_shares b run d begins) in
        ap uncounted (same d (arrived_input b) shares) ∙ rw (runs.answer is_honest going, ← marked) refl;
  }
