-- A walk that can be left and gone on with: what leads to an offset leads each input there that shares what was read.
use Rattle.std.proofs.Common.{◌≡◌, ℕ, ◌^◌, ◌≤◌, [], ◌∷◌, ◌++◌, true, false, Some, Result, Ok, Err, refl, ap, ◌∙◌, sym, subst, arith, IfErr}
use Rattle.imagesize_source.specs.declared.halt.Halt.{Halt}
use Rattle.imagesize_source.specs.Chain.{Said, Decided, Next, verdict}
use Rattle.imagesize_source.specs.Layout.{layout_reads}
use Rattle.imagesize_source.specs.Reading.{Reads, and_then, is_faulted, is_stopped, just, map_answer, put_behind, uncounted, with_answer}
use Rattle.imagesize_source.specs.State.{State, Runs, EndedBy, IsSound, state_after}
use Rattle.imagesize_source.specs.Sharing.{Shares, Stood}
use Rattle.imagesize_source.specs.Walk.{CanFollow, EndsBy, Step, run}
use Rattle.imagesize_source.proofs.Marks.{behind-behind}
use Rattle.imagesize_source.specs.Strides.{Strides}
use Rattle.imagesize_source.proofs.Reached.{reads_nothing}
use Rattle.imagesize_source.proofs.Runs.{ended_by, marks_onward, past-none, past-past, plain_end, reached_end, still, still_honest, total-append, without_fault}
use Rattle.imagesize_source.proofs.Sharing.{leads_on}
use Rattle.imagesize_source.proofs.States.{goes, run_next, run_stop, run_unfolds}

pub strides_start : {S X : Type 0} (step : Step S X) (a : State) (s : S) (offset : ℕ) → Strides step a a s offset s offset
strides_start step a s offset = record {
  reached = record {
    sound = λ sound. sound;
    frame = refl;
    taken = omega arith;
    made = [];
    within = λ honest. omega arith;
    state = λ honest. sym (past-none a);
    left = λ honest. refl;
  };
  ahead = λ honest. omega arith;
  leads = λ honest d shares. refl;
}

module _ {S X : Type 0} (step : Step S X) (adv : CanFollow step) {a b : State} {s t : S} {first offset : ℕ}
    (w : Strides step a b s first t offset) where
  abbrev there : Reads (Said S X)
  there = layout_reads b.held.input (step t offset)

  -- an honest run reads the next record of the same input
  same : a.held.honest ≡ true → there ≡ layout_reads a.held.input (step t offset)
  same honest = ap (λ x. layout_reads x.input (step t offset)) (still w.reached honest)

  pub strides_on : {end : State} (v : S) (next : ℕ) → Runs b end (Ok (Next v next)) there → Strides step a end s first v next
  strides_on {end} v next run_here = record {
    reached = record {
      sound = λ _. w.reached.sound run_here.sound;
      frame = run_here.frame ∙ w.reached.frame;
      taken = omega (arith, w.reached.taken, run_here.taken);
      made = w.reached.made ++ there.marks;
      within = λ honest.
          let two = run_here.within (still_honest w.reached honest) in
          omega (arith, w.reached.within honest, total-append w.reached.made there.marks);
      state = λ honest. run_here.state (still_honest w.reached honest) refl
          ∙ ap (λ s. state_after s there.marks) (w.reached.state honest) ∙ past-past a w.reached.made there.marks;
      left = λ honest. w.reached.left honest
          ∙ ap (λ r. put_behind w.reached.made (uncounted r)) (run_next step a.held.input (adv a.held.input) t v offset next (says honest))
          ∙ rw (← same honest) (behind-behind w.reached.made there.marks (uncounted (run step v next a.held.input)));
    };
    ahead = λ honest. omega (
      arith,
      w.ahead honest,
      (adv a.held.input (record { held = t ∷ []; offset = offset }) v next (says honest)).0,
    );
    leads = λ honest d shares.
        rw (same honest) (leads_on step d a.held.input (adv d) s t v first offset next w.reached.made (w.leads honest d) (says honest)
        (subst (λ r. Shares d a.held.input (w.reached.made ++ r.marks)) (same honest) shares));
  } where
    says : a.held.honest ≡ true → (layout_reads a.held.input (step t offset)).answer ≡ Ok (Next v next)
    says honest = ap (λ r. r.answer) (sym (same honest)) ∙ run_here.answer (still_honest w.reached honest) refl

  ends : {end : State} (r : Result X Halt) (said : Result (Said S X) Halt) → verdict said ≡ Some r → Runs b end said there
      → is_stopped said ≡ is_stopped r → is_faulted said ≡ is_faulted r → IfErr r (EndedBy end)
      → Runs a end r (run step s first a.held.input)
  ends {end} r said says run_here stops faults ended = ended_by w.reached r run_here stops faults ended (λ honest.
      let goes = goes step a.held.input (adv a.held.input) in
      let more = marks_onward there.marks there.answer goes in (
        more.0,
        ap (λ q. q.marks) (run_unfolds step a.held.input (adv a.held.input) t offset)
            ∙ ap (λ q. (and_then q goes).marks) (sym (same honest)) ∙ more.1,
        λ is.
            let stop = run_stop step a.held.input (adv a.held.input) t offset r (rw (← same honest) (ap verdict is ∙ says)) in
            (ap (λ q. q.answer) stop, ap (λ q. q.marks) (stop ∙ ap (with_answer r) (sym (same honest)))),
      ))

  -- a record with a verdict ends the walk
  pub strides_end : {end : State} (r : Result X Halt) → Runs b end (map_answer Decided r) there
      → Runs a end r (run step s first a.held.input)
  strides_end (Ok x) run_here = ends (Ok x) (Ok (Decided x)) refl run_here refl refl tt
  strides_end (Err e) run_here = ends (Err e) (Err e) refl run_here refl refl run_here.ended

  -- at an offset beyond every input nothing more is read
  pub strides_past : (r : Result X Halt) → 2 ^ 63 ≤ offset → IsSound b → is_stopped r ≡ false → EndsBy step t r
      → Runs a b r (run step s first a.held.input)
  strides_past r far sound goes_on none =
      reached_end w.reached r (just r []) (reads_nothing b r sound (without_fault r goes_on) (plain_end b r goes_on)) (λ honest.
      let short = (w.reached.sound sound honest).1 in
      let out = none a.held.input offset (omega arith) in
      sym (ap uncounted (run_stop step a.held.input (adv a.held.input) t offset r (ap (λ q. verdict q.answer) out ∙ decided r))
      ∙ ap (with_answer r) out)) where
        decided : (r : Result X Halt) → verdict (map_answer {Y = Said S X} Decided r) ≡ Some r
        decided (Ok x) = refl
        decided (Err e) = refl

  -- it stands at the record of which a reading failed
  pub strides_stand : {end : State} {e : Halt} → is_faulted {X = X} (Err e) ≡ true → Runs b end (Err e) there
      → Stood step a end s first t offset
  strides_stand {end} {e} faults run_here = record {
    made = w.reached.made;
    ahead = w.ahead;
    leads = w.leads;
    missed = λ honest. rw (← same honest, ← w.reached.state honest)
        (run_here.misses (still_honest w.reached honest) faults);
  }
