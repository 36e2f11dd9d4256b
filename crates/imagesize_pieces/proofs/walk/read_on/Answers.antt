use Rattle.std.proofs.Common.{◌≡◌, ℕ, [], None, ◌+◌, ◌-◌, ◌<◌, ◌≤◌, ◌^◌, ◌++◌, Bool, List, length, max, min, take, drop, true, refl, sym, ◌∙◌, ap, subst, arith}
use Rattle.std.specs.List.{list_any}
use Rattle.std.proofs.lemmas.List.{length-append, length-take, length-drop, drop-drop}
use Rattle.imagesize_source.specs.Agreement.{AllRead}
use Rattle.imagesize_source.specs.Layout.{Layout, layout_reads}
use Rattle.imagesize_source.specs.Chain.{Said}
use Rattle.imagesize_source.specs.Known.{end_of}
use Rattle.imagesize_source.specs.Reading.{Reads, is_faulted, put_behind, uncounted}
use Rattle.imagesize_source.specs.Sharing.{Stood}
use Rattle.imagesize_source.specs.State.{State, Runs}
use Rattle.imagesize_source.specs.Walk.{run}
use Rattle.imagesize_source.proofs.Agreement.{with_texts}
use Rattle.imagesize_source.proofs.Marks.{behind-behind}
use Rattle.imagesize_source.proofs.Sharing.{run_shared, shares-left}
use Rattle.imagesize_source.proofs.States.{goes, run_unfolds}
use Rattle.imagesize_pieces.specs.Stream.{Begins, Needs, Reach, Says, Stands, stream_state}
use Rattle.imagesize_pieces.specs.declared.stand.Stand.{Stand}
use Rattle.imagesize_pieces.proofs.Asking.{Left, ends_left, few_left, needs_left, seen_there, shares_left}
use Rattle.imagesize_pieces.proofs.Beginning.{ArrivedSource, Holds, Run, begins_left, run_held}
use Rattle.imagesize_pieces.proofs.Called.{Called, called, fresh, goes_on, arrived_source, holds_after, is_honest, says_begun, state_of}
use Rattle.imagesize_pieces.proofs.Needing.{needs_any, needs_behind, needs_wider, onward_any}
use Rattle.imagesize_pieces.proofs.Reaching.{reach_covered}
use Rattle.imagesize_pieces.proofs.walk.read_on.Given.{Over}
use Rattle.imagesize_pieces.proofs.walk.read_on.Goals.{After-walk_on-found}
use Rattle.imagesize_pieces.proofs.walk.read_on.Goals as goal

-- the walk over the bytes so far: those that were kept, and those of the chunk after them
module _ (g : Over) (c : After-walk_on-found g) where
  abbrev stand : Stand
  stand = c.args.stand.now

  abbrev chunk : List ℕ
  chunk = c.args.chunk.now

  abbrev start : ℕ
  start = min stand.start (stand.passed + length chunk)

  abbrev kept : List ℕ
  kept = take (stand.passed - stand.start) c.args.buffer.now

  abbrev unread : List ℕ
  unread = drop (stand.start - stand.passed) chunk

  -- the source after the walk
  abbrev source : ArrivedSource
  source = arrived_source c.walk_on-found.new.source

  -- the offset of the record that the walk came to, and its layout
  abbrev at : ℕ
  at = c.walk_on-found.new.offset

  abbrev record_at : Layout (Said g.row.R-State.Denot g.row.R-Answer.Denot)
  record_at = g.R.Records.step (g.R.Records.state c.walk_on-found.new.records) at

  -- the readings from the record on that it came from, and from that one on
  abbrev old_run : List ℕ → Reads g.row.R-Answer.Denot
  old_run = run g.R.Records.step (g.R.Records.state c.args.records.now) stand.offset

  abbrev new_run : List ℕ → Reads g.row.R-Answer.Denot
  new_run = run g.R.Records.step (g.R.Records.state c.walk_on-found.new.records) at

  unread_is : c.bytes_behind-unread.result.now ≡ unread
  unread_is = c.bytes_behind-unread.ensures ∙ ap (λ k. drop k chunk) c.saturating_sub.ensures

  -- the source before the walk
  abbrev made : State
  made = state_of (arrived_source c.new-source.result)

  call : Called made source stand.told start kept unread
  call =
      let new = c.new-source.ensures in
      called made source stand.told start kept unread
      ((λ i. stream_state (new.known i).told (new.known i).start (new.known i).kept.now (new.known i).chunk.now (new.seen i) (new.missed i))
      ∙ (λ i. stream_state stand.told (c.min-start.ensures i) (take (c.saturating_sub-count.ensures i) c.args.buffer.now) (unread_is i) [] None))
      c.walk_on-found.ensures.runs.frame

  short : source.told < 2 ^ 63
  short = omega (arith, call.told, stand.short)

  -- all bytes that arrived from the start on are there
  lengths : (start + (c.saturating_sub-count.result + length c.bytes_behind-unread.result.now) ≡ stand.passed + length chunk)
      × (source.start + (length source.kept + length source.chunk) ≡ stand.passed + length chunk)
  lengths = omega (
    arith,
    length-take (stand.passed - stand.start) c.args.buffer.now,
    length-drop (stand.start - stand.passed) chunk,
    ap length unread_is,
    c.requires.buffer,
    c.saturating_sub-count.ensures,
    call.ends,
  )

  -- the bytes that may have arrived before
  abbrev Before : (List ℕ → Reads g.row.R-Answer.Denot) → List ℕ → Type 0
  Before = Stands g.R.Records.step (g.R.Records.state c.args.records.now) stand c.args.buffer.now

  came : {whole : List ℕ → Reads g.row.R-Answer.Denot} {front : List ℕ} → Before whole front
      → Run (front ++ chunk) kept unread start
  came {whole} {front} s = run_held front chunk kept stand.start stand.passed s.as_many s.rest

  there : {whole : List ℕ → Reads g.row.R-Answer.Denot} {front : List ℕ} → Before whole front → Holds (front ++ chunk) source
  there {whole} {front} s = holds_after (front ++ chunk) kept unread call (came s)

  -- a read failed in that record
  module _ (faults : is_faulted c.walk_on-found.result ≡ true) where
    stood : Stood g.R.Records.step (fresh source) (state_of source) (g.R.Records.state c.args.records.now) stand.offset
        (g.R.Records.state c.walk_on-found.new.records) at
    stood = subst
        (λ x. Stood g.R.Records.step x (state_of source) (g.R.Records.state c.args.records.now) stand.offset
        (g.R.Records.state c.walk_on-found.new.records) at)
        call.new (c.walk_on-found.ensures.stands faults)

    reach : Reach at (at + (length c.args.buffer.now + 1)) record_at
    reach = c.requires.reaches (g.R.Records.state c.walk_on-found.new.records) at

    late : start ≤ at
    late = omega (arith, stood.ahead (is_honest source short), stand.ahead)

    missing : Left record_at at source
    missing = record {
      from = omega (arith, late, call.start);
      above = λ d p covered. (reach_covered d at (at + (length c.args.buffer.now + 1)) record_at reach p covered).0;
      before = stood.made;
      lacks = stood.missed (is_honest source short);
    }

    few : (high : ℕ) → Reach at high record_at → stand.passed + length chunk < high
    few high far = omega (arith, few_left missing high far, lengths)

    ends : (stand.passed + length chunk < end_of source.missed) × (at < end_of source.missed) × (end_of source.missed ≤ stand.told)
    ends = omega (arith, ends_left missing, lengths, call.told)

    module _ {whole : List ℕ → Reads g.row.R-Answer.Denot} {front : List ℕ} (s : Before whole front) (d : List ℕ)
        (begins : Begins (front ++ chunk) stand.told d) where
      -- each input that begins with the bytes so far comes to it
      leads : uncounted (whole d) ≡ put_behind (s.before ++ stood.made) (uncounted (new_run d))
      unfolding missing
      leads =
          s.resumes d (begins_left front chunk stand.told d begins)
          ∙ ap (put_behind s.before) (stood.leads (is_honest source short) d (shares-left stood.made (seen_there missing)
          (shares_left missing (there s) d (subst (λ n. Begins (front ++ chunk) n d) call.told begins))))
          ∙ behind-behind s.before stood.made (uncounted (new_run d))

      -- and needs a byte of it
      needs : length d ≡ stand.told → (texts : Bool) (high : ℕ) → AllRead texts record_at → Reach at high record_at
          → Needs texts (max (stand.passed + length chunk) at) (min (end_of source.missed) high) (whole d).marks
      needs as_long texts high read far =
          let here : Reads (Said g.row.R-State.Denot g.row.R-Answer.Denot) = layout_reads d record_at in
          needs_wider texts _ _ _ _ (whole d).marks (omega (arith, s.as_many, length-append front chunk)) refl
          (needs_behind texts _ _ (s.before ++ stood.made) (new_run d).marks (whole d).marks (ap (λ (w : Reads _). w.marks) leads)
          (needs_any texts _ _ here.marks (new_run d).marks
          (λ P among. subst (λ w. list_any P w.marks ≡ true)
          (sym (run_unfolds g.R.Records.step d (c.requires.follows d) (g.R.Records.state c.walk_on-found.new.records) at))
          (onward_any here.marks here.answer (goes g.R.Records.step d (c.requires.follows d)) P among))
          (needs_left missing (there s) d (subst (λ n. Begins (front ++ chunk) n d) call.told begins) (as_long ∙ call.told) texts read high far)))

pub returns-clause-unstopped : goal.returns-clause-unstopped
returns-clause-unstopped g c = goes_on refl c.walk_on-found.ensures.runs (sym c.is_faulted.ensures ∙ c.if-is_faulted.false)

pub returns-clause-says : goal.returns-clause-says
returns-clause-says g c = λ whole front s.
    let h = (goal.at.returns-clause-says g c).After-walk_on-found in
    let runs = subst (λ x. Runs x (state_of (source g h)) c.walk_on-found.result (old_run g h x.held.input)) (call g h).new
    c.walk_on-found.ensures.runs in
    let says = subst (λ n. Says (front ++ c.args.chunk.now) n (old_run g h) c.walk_on-found.result) (sym (call g h).told)
    (says_begun (source g h) (short g h) (old_run g h) runs (sym c.is_faulted.ensures ∙ c.if-is_faulted.false)
    (front ++ c.args.chunk.now)
    (λ d e. run_shared g.R.Records.step d e (c.requires.follows d) (c.requires.follows e) (g.R.Records.state c.args.records.now)
    c.args.stand.now.offset) (there g h s)) in
    record {
      marks = s.before ++ says.marks;
      is = λ d begins.
          s.resumes d (begins_left front c.args.chunk.now c.args.stand.now.told d begins) ∙ ap (put_behind s.before) (says.is d begins);
    }

-- where it goes on
pub keep_behind-requires-clause-fits : goal.keep_behind-requires-clause-fits
keep_behind-requires-clause-fits g c =
    let h = (goal.at.keep_behind-requires-clause-fits g c).After-walk_on-found in
    let faults = sym c.is_faulted.ensures ∙ c.if-is_faulted.true in
    omega (
      arith,
      few g h faults _ (reach g h faults),
      late g h faults,
      lengths g h,
      c.saturating_sub-then-is_faulted.ensures,
      c.min-start.ensures,
    )

pub returns-then-is_faulted-clause-buffer : goal.returns-then-is_faulted-clause-buffer
returns-then-is_faulted-clause-buffer g c = λ none.
    let h = (goal.at.returns-then-is_faulted-clause-buffer g c).After-walk_on-found in
    let faults = sym c.is_faulted.ensures ∙ c.if-is_faulted.true in
    omega (arith, few g h faults _ (reach g h faults), c.keep_behind.auto.buffer)

pub returns-then-is_faulted-clause-few : goal.returns-then-is_faulted-clause-few
returns-then-is_faulted-clause-few g c = λ none.
    few g (goal.at.returns-then-is_faulted-clause-few g c).After-walk_on-found (sym c.is_faulted.ensures ∙ c.if-is_faulted.true)

pub returns-then-is_faulted-clause-goes_on : goal.returns-then-is_faulted-clause-goes_on
returns-then-is_faulted-clause-goes_on g c = λ none whole front s.
    let h = (goal.at.returns-then-is_faulted-clause-goes_on g c).After-walk_on-found in
    let faults = sym c.is_faulted.ensures ∙ c.if-is_faulted.true in
    let at : ℕ = c.walk_on-found.new.offset in
    let start : ℕ = start g h in
    let back : start + (at - start) ≡ at = omega (arith, late g h faults) in
    let onward = drop-drop (at - start) start (front ++ c.args.chunk.now) in
    let skip : c.saturating_sub-then-is_faulted.result ≡ at - start =
    c.saturating_sub-then-is_faulted.ensures ∙ ap (λ k. at - k) c.min-start.ensures in
    let count : c.saturating_sub-count.result + length c.bytes_behind-unread.result.now - c.saturating_sub-then-is_faulted.result
    ≡ c.args.stand.now.passed + length c.args.chunk.now - at = omega (arith, late g h faults, skip, lengths g h) in
    record {
      as_many = omega (arith, s.as_many, length-append front c.args.chunk.now);
      rest = rw (count, skip, c.saturating_sub-count.ensures, unread_is g h, (came g h s).is, onward, back) at c.keep_behind.ensures;
      before = s.before ++ (stood g h faults).made;
      resumes = leads g h faults s;
    }

pub returns-then-is_faulted-clause-complete : goal.returns-then-is_faulted-clause-complete
returns-then-is_faulted-clause-complete g c = λ none whole front s d begins as_long below.
    let h = (goal.at.returns-then-is_faulted-clause-complete g c).After-walk_on-found in
    let faults = sym c.is_faulted.ensures ∙ c.if-is_faulted.true in
    let needs = (needs g h faults s d begins as_long true _ (with_texts (record_at g h)) (reach g h faults)).0 in
    omega (arith, needs.1, s.as_many, below needs.0 needs.3)

pub returns-then-is_faulted-clause-ends : goal.returns-then-is_faulted-clause-ends
returns-then-is_faulted-clause-ends g c = λ none.
    let h = (goal.at.returns-then-is_faulted-clause-ends g c).After-walk_on-found in
    omega (arith, ends g h (sym c.is_faulted.ensures ∙ c.if-is_faulted.true), c.end-stand.ensures)

pub returns-then-is_faulted-clause-marked : goal.returns-then-is_faulted-clause-marked
returns-then-is_faulted-clause-marked g c = λ none texts high read far whole front s d begins as_long.
    let h = (goal.at.returns-then-is_faulted-clause-marked g c).After-walk_on-found in
    needs_wider texts _ _ _ _ (whole d).marks (omega arith) (omega (arith, c.end-stand.ensures))
    (needs g h (sym c.is_faulted.ensures ∙ c.if-is_faulted.true) s d begins as_long texts high read far)

pub returns-then-is_faulted-clause-whole : goal.returns-then-is_faulted-clause-whole
returns-then-is_faulted-clause-whole g c = λ all none.
    let h = (goal.at.returns-then-is_faulted-clause-whole g c).After-walk_on-found in
    let ends = ends g h (sym c.is_faulted.ensures ∙ c.if-is_faulted.true) in
    omega (arith, all, ends.0, ends.2)
