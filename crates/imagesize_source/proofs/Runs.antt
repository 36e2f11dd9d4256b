-- How a call's readings follow from those of the calls that it makes.
use Rattle.std.proofs.Common.{◌≡◌, ℕ, ◌+◌, ◌-◌, ◌<◌, ◌≤◌, min, Bool, true, false, List, [], ◌∷◌, ◌++◌, length, take, leb, Result, Ok, Err, zero-add, add_assoc, append_assoc, refl, sym, ap, ◌∙◌, subst, arith, IfErr}
use Rattle.std.proofs.lemmas.List.{length-append, length-take, take_all, append-nil}
use Rattle.std.proofs.lemmas.Bool.Decides.{nat_tests}
use Rattle.std.proofs.lemmas.Option.{IfSome_then}
use Rattle.imagesize_source.specs.declared.source.known.Missing.{Missing}
use Rattle.imagesize_source.specs.declared.span.Span.{Span}
use Rattle.imagesize_source.specs.declared.endian.Endian.{Endian}
use Rattle.imagesize_source.specs.Input.{span_at, span_of}
use Rattle.imagesize_source.specs.Numbers.{number}
use Rattle.imagesize_source.specs.declared.halt.Halt.{Halt}
use Rattle.imagesize_source.specs.declared.halt.Halt.TheVariants.{Ended}
use Rattle.imagesize_source.specs.Reading.{Reads, go_on, uncounted, and_then, bytes_at, number_at, part_read, bytes_read, number_read, map_answer, is_stopped, is_faulted}
use Rattle.std.specs.Prelude.{Option, None, Some, IsSomeAnd, option_map}
use Rattle.imagesize_source.specs.State.{State, Held, Runs, EndedBy, Misses, Missed, IsSound, total, state_after, step}
use Rattle.imagesize_source.specs.Strides.{Reached}
use Rattle.imagesize_source.proofs.Parts.{part_length}

-- a result that nothing stopped is none of the ends of a call
pub plain_end : {X : Type 0} (b : State) (r : Result X Halt) → is_stopped r ≡ false → IfErr r (EndedBy b)
plain_end b r goes_on = grind arith

pub without_fault : {X : Type 0} (r : Result X Halt) → is_stopped r ≡ false → is_faulted r ≡ false
without_fault r goes_on = grind arith

pub past-past : (a : State) (s t : List Span) → state_after (state_after a s) t ≡ state_after a (s ++ t)
unfolding state_after
past-past a [] t = refl
past-past a (x ∷ s) t = past-past (step a x) s t

pub past-none : (a : State) → state_after a [] ≡ a
unfolding state_after
past-none a = refl

both : (o : Option (List Span)) (s t : List Span)
    → option_map (λ spans. spans ++ t) (option_map (λ spans. spans ++ s) o)
    ≡ option_map (λ spans. spans ++ (s ++ t)) o
both o s t = grind (arith, append_assoc)

pub total-append : (s t : List Span) → total (s ++ t) ≡ total s + total t
total-append [] t = sym (zero-add (total t))
total-append (x ∷ s) t = ap (λ n. x.len + n) (total-append s t) ∙ sym (add_assoc x.len (total s) (total t))

pub past-recorded : (a : State) (s : List Span)
    → (state_after a s).recorded ≡ option_map (λ spans. spans ++ s) a.recorded
unfolding state_after
past-recorded a [] = grind (arith, append-nil)
past-recorded a (x ∷ s) = grind (arith, append_assoc, (past-recorded (step a x) s))

pub past-held : (a : State) (s : List Span) → (state_after a s).held ≡ a.held
unfolding state_after
past-held a [] = refl
past-held a (x ∷ s) = past-held (step a x) s

-- what a failed read missed is missed among more reads, with others before and after
missed_among : (a m b : State) (before marks more : List Span) → m ≡ state_after a before → Missed m b marks
    → Missed a b (before ++ (marks ++ more))
missed_among a m b before marks more past h = record { told = IfSome_then b.missed h.told by_span } where
  among : (s : Missing) → Misses m b marks s → Misses a b (before ++ (marks ++ more)) s
  among s is =
      let part : List Span = span_at is.mark.start (s.start - is.mark.start) in record {
        made = before ++ is.made;
        mark = is.mark;
        rest = is.rest ++ more;
        recorded = is.recorded
            ∙ ap (option_map (λ spans. spans ++ (is.made ++ part))) (ap (λ q. q.recorded) past ∙ past-recorded a before)
            ∙ both a.recorded before (is.made ++ part) ∙ simp append_assoc;
        all = ap (λ ms. before ++ (ms ++ more)) is.all ∙ simp append_assoc;
        behind = is.behind;
        within = is.within;
        reaches = is.reaches;
      }

  by_span : (o : Option Missing) → IsSomeAnd o (Misses m b marks) → IsSomeAnd o (Misses a b (before ++ (marks ++ more)))
  by_span None none = none
  by_span (Some s) is = among s is

pub missed_past : (a m b : State) (before marks : List Span) → m ≡ state_after a before → Missed m b marks
    → Missed a b (before ++ marks)
missed_past a m b before marks past h = rw append-nil at (missed_among a m b before marks [] past h)

pub missed_before : (a b : State) (marks more : List Span) → Missed a b marks → Missed a b (marks ++ more)
missed_before a b marks more h = grind (arith, past-recorded, both, append_assoc, past-none)

pub missed_first : {X Y : Type 0} (a b : State) (spans : List Span) (r : Result X Halt) (f : X → Reads Y)
    → Missed a b spans
    → Missed a b (go_on spans r f).marks
missed_first a b spans r f h = grind (arith, missed_before)

-- the spans of the readings before are the first of the whole
pub marks_onward : {X Y : Type 0} (spans : List Span) (r : Result Y Halt) (f : Y → Reads X)
    → (more : List Span) × ((go_on spans r f).marks ≡ spans ++ more)
marks_onward spans (Ok y) f = ((f y).marks, refl)
marks_onward spans (Err e) f = ([], sym (append-nil spans))

pub ruleset lengths = (length-append, total-append)

pub ruleset steps = (past-past, past-none, total-append, append-nil, past-held, missed_past, missed_first)

-- ---- a run that has made some of its reads

-- no read was made yet
pub reached_start : {X : Type 0} (a : State) (whole : Reads X) → Reached a a whole whole
unfolding state_after
reached_start a whole = grind arith

-- after a result, what follows from it is left
pub reached_by : {X Y : Type 0} {a m : State} {x : X} {r : Reads X} (f : X → Reads Y) → Runs a m (Ok x) r
    → Reached a m (and_then r f) (f x)
reached_by {r} f h = grind arith

module _ {X : Type 0} {a b : State} {whole rest : Reads X} (h : Reached a b whole rest) where
  -- an honest source keeps its input
  pub still : a.held.honest ≡ true → b.held ≡ a.held
  still honest = ap (λ s. s.held) (h.state honest) ∙ past-held a h.made

  pub still_honest : a.held.honest ≡ true → b.held.honest ≡ true
  still_honest honest = ap (λ x. x.honest) (still honest) ∙ honest

  -- A call ends the run. Its spans are the first of those that are left, and all of them if it returned the result of its reads.
  pub ended_by : {end : State} {Y : Type 0} (r : Result X Halt) {s : Result Y Halt} {given : Reads Y} → Runs b end s given
      → is_stopped s ≡ is_stopped r → is_faulted s ≡ is_faulted r → IfErr r (EndedBy end)
      → (a.held.honest ≡ true → (more : List Span) × (rest.marks ≡ given.marks ++ more)
      × (given.answer ≡ s → (rest.answer ≡ r) × (rest.marks ≡ given.marks)))
      → Runs a end r whole
  ended_by {end} r {s} {given} run stops faults ended left = record {
    sound = h.sound run.sound;
    sound_after = run.sound_after;
    frame = run.frame ∙ h.frame;
    taken = omega (arith, h.taken, run.taken);
    within = λ honest.
        let one = h.within honest in let two = run.within (still_honest honest) in
        let all = total-append (h.made ++ given.marks) (left honest).0 in
        omega (arith, ap total (marks honest), total-append h.made given.marks);
    answer = λ honest goes_on. ap (λ w. w.answer) (h.left honest) ∙ (answered honest goes_on).0;
    state = λ honest goes_on.
        run.state (still_honest honest) (stops ∙ goes_on) ∙ ap (λ s. state_after s given.marks) (h.state honest)
        ∙ past-past a h.made given.marks
        ∙ ap (λ m. state_after a (h.made ++ m)) (sym (answered honest goes_on).1)
        ∙ sym (ap (λ w. state_after a w.marks) (h.left honest));
    fault = λ honest faulty. ap (λ x. x.can_fail) (sym (still honest)) ∙ run.fault (still_honest honest) (faults ∙ faulty);
    misses = λ honest faulty. subst (Missed a end) (sym (marks honest))
        (missed_before a end (h.made ++ given.marks) (left honest).0
        (missed_past a b end h.made given.marks (h.state honest) (run.misses (still_honest honest) (faults ∙ faulty))));
    ended = ended;
  } where
    marks : (honest : a.held.honest ≡ true) → whole.marks ≡ (h.made ++ given.marks) ++ (left honest).0
    marks honest = ap (λ w. w.marks) (h.left honest) ∙ ap (λ ms. h.made ++ ms) (left honest).1
        ∙ sym (append_assoc h.made given.marks (left honest).0)

    answered : (honest : a.held.honest ≡ true) → is_stopped r ≡ false → (rest.answer ≡ r) × (rest.marks ≡ given.marks)
    answered honest goes_on = (left honest).2 (run.answer (still_honest honest) (stops ∙ goes_on))

  -- the reads that were left end the run
  pub reached_end : {end : State} (r : Result X Halt) (given : Reads X) → Runs b end r given
      → (a.held.honest ≡ true → uncounted given ≡ uncounted rest) → Runs a end r whole
  reached_end r given run same = grind (arith, ended_by, append-nil)

-- a call that read, and went on from what it found
pub runs_then : {X Y : Type 0} {a m b : State} {x : X} {y : Result Y Halt} (r : Reads X) (f : X → Held → Reads Y)
    → Runs a m (Ok x) r → Runs m b y (f x m.held) → Runs a b y (and_then r (λ v. f v a.held))
runs_then {X} {Y} {a} {m} {b} {x} {y} r f first second =
    let so_far : Reached a m (and_then r (λ v. f v a.held)) (f x a.held) = reached_by (λ v. f v a.held) first in
    reached_end so_far y (f x m.held) second (λ honest. ap (λ h. uncounted (f x h)) (still so_far honest))

-- a call that was refused goes on from nothing
pub runs_refused : {X Y : Type 0} {a b : State} {e : Halt} (r : Reads X) (f : X → Reads Y) → Runs {X = X} a b (Err e) r
    → Runs {X = Y} a b (Err e) (and_then r f)
runs_refused {X} {Y} {a} {b} {e} r f h =
    let more = marks_onward r.marks r.answer f in
    ended_by (reached_start a (and_then r f)) (Err e) h refl refl h.ended (λ _. (more.0, more.1, λ is. rw is (refl, refl)))

-- ---- the same reads with another result

pub answered : {X Y : Type 0} {a b : State} {x : X} {reads : Reads X} (r : Result Y Halt) (other : Reads Y)
    → Runs a b (Ok x) reads
    → other.marks ≡ reads.marks → (reads.answer ≡ Ok x → other.answer ≡ r) → is_stopped r ≡ false → is_faulted r ≡ false
    → IfErr r (EndedBy b)
    → Runs a b r other
answered {X} {Y} {a} {b} {x} {reads} r other h marks answer goes_on no_fault ended = grind arith

pub part_is : {xs ys : List ℕ} → ◌≡◌ {A = Result (List ℕ) Halt} (Ok xs) (Ok ys) → xs ≡ ys
part_is e = cc

-- a reading that gave all of its bytes
pub bytes_there : {a b : State} (d buffer : List ℕ) (offset k n : ℕ)
    → Runs a b (Ok (take n buffer)) (part_read d offset (length buffer))
    → length buffer ≡ k → k ≤ n → Runs a b (Ok buffer) (bytes_read d offset k)
unfolding bytes_at
bytes_there {a} {b} d buffer offset k n h long all = grind (arith, part_is, take_all, part_length)

-- a reading that gave too few
pub bytes_missing : {a b : State} (d buffer : List ℕ) (offset k n : ℕ)
    → Runs a b (Ok (take n buffer)) (part_read d offset (length buffer))
    → length buffer ≡ k → n < k → Runs a b (Err Ended) (bytes_read d offset k)
unfolding bytes_at
bytes_missing {a} {b} d buffer offset k n h long short =
    answered (Err Ended) (bytes_read d offset k) h (ap (span_of d offset) (sym long))
    (λ is.
    let got = ap length (part_is is) in
    let size = part_length d offset (length buffer) in let some = length-take n buffer in
    let too_few : leb k (length d - offset) ≡ false = grind (arith, nat_tests) in
    rw too_few refl)
    refl refl (record { budget = λ e. absurd cc; fault = λ e. absurd cc })

-- a reading that was stopped gave none
pub bytes_stopped : {X : Type 0} {a b : State} (d : List ℕ) (offset k : ℕ) (bytes : X → List ℕ) (r : Result X Halt)
    (why : Halt)
    → r ≡ Err why → Runs {X = List ℕ} a b (Err why) (part_read d offset k)
    → Runs a b (map_answer bytes r) (bytes_read d offset k)
bytes_stopped {a = a} {b = b} d offset k bytes r why is h = grind arith

-- the number of bytes that were read
pub number_there : {a b : State} (d bs : List ℕ) (order : Endian) (offset k v : ℕ)
    → Runs a b (Ok bs) (bytes_read d offset k)
    → v ≡ number order bs → Runs a b (Ok v) (number_read d order offset k)
unfolding number_at
number_there {a} {b} d bs order offset k v h is = grind arith

-- a refused reading has no number
pub number_missing : {a b : State} (d : List ℕ) (order : Endian) (offset k : ℕ) (e : Halt)
    → Runs a b (Err e) (bytes_read d offset k)
    → Runs a b (Err e) (number_read d order offset k)
unfolding number_at
number_missing {a} {b} d order offset k e h = grind arith

-- a call that read no bytes
pub runs_free : {X : Type 0} {a b : State} {reads : Reads X} (r : Result X Halt) → IsSound a → IsSound b → b.frame ≡ a.frame
    → b.taken ≡ a.taken → reads.answer ≡ r → b ≡ state_after a reads.marks → is_faulted r ≡ false → IfErr r (EndedBy b)
    → Runs a b r reads
runs_free r sound sound_after same none is passed no_fault ended = grind arith
