use Rattle.std.proofs.Common.{◌≡◌, ℕ, ◌+◌, ◌-◌, List, ◌++◌, length, take, append_assoc, Option, refl, sym, ap, arith}
use Rattle.std.proofs.lemmas.List.{length-drop, length-take, take-append-drop}
use Rattle.imagesize.specs.declared.types.ImageType.{ImageType}
use Rattle.imagesize_pieces.specs.declared.stand.Stand.{Stand}
use Rattle.imagesize_stream.proofs.Coming.{awaiting_map}
use Rattle.imagesize_stream.specs.Heard.{RestsOnMore}
use Rattle.imagesize_stream.specs.Probe.{CameTo, Continues, IfAwaiting, RestsOnNext, TypedBy}
use Rattle.imagesize_stream.specs.declared.stage.Stage.{Stage}
use Rattle.imagesize_stream.specs.declared.stage.Stage.TheVariants.{First}
use Rattle.imagesize_stream.proofs.stage.begin.Goals as goal

pub returns-clause-counts : goal.returns-clause-counts
returns-clause-counts c =
    let counts = c.begun.ensures.counts in
    let more = ap length c.front_of-more.ensures in let rest = ap length c.bytes_behind-rest.ensures in record {
      told = counts.told;
      holds = counts.holds;
      ahead = counts.ahead;
      passed = awaiting_map c.begun.new.into (λ at. omega (arith, at, more, rest, length-take {A = ℕ}, length-drop {A = ℕ})) counts.passed;
      whole = awaiting_map c.begun.new.into (λ none all.
          none (omega (arith, all, more, rest, length-take {A = ℕ}, length-drop {A = ℕ}))) counts.whole;
    }

-- all bytes so far
begun_on : (to : Stage) (kind type : Option ImageType) (old new : Stand) (buffer after chunk all : List ℕ)
    → take old.passed buffer ++ chunk ≡ all → CameTo to type new after all → IfAwaiting to (RestsOnMore all old.told)
    → RestsOnNext to new all old.told → TypedBy to type all old.told
    → Continues First to kind type old new buffer after chunk
begun_on to kind type old new buffer after chunk all is came rests marked typed = record {
  goes_on = λ front was. rw (← was.0, is) came;
  complete = awaiting_map to (λ more front was. rw (← was.0, is) more) rests;
  marked = λ front was. rw (← was.0, is) marked;
  typed = λ front was. rw (← was.0, is) typed;
}

pub returns-clause-continues : goal.returns-clause-continues
returns-clause-continues c =
    let begun = c.begun.ensures in let rest = c.bytes_behind-rest in
    let split = take-append-drop (132 - c.args.stand.now.passed) c.args.chunk.now in
    let all : List ℕ = take (c.args.stand.now.passed + length c.front_of-more.result.now) c.append.new.buffer ++ rest.result.now in
    begun_on c.begun.new.into c.args.kind.now c.begun.new.kind c.args.stand.now c.begun.new.stand c.args.buffer.now
    c.begun.new.buffer c.args.chunk.now all
    (sym (rw (c.append.ensures, append_assoc, c.front_of-more.ensures, rest.ensures, split) refl))
    begun.goes_on begun.complete begun.marked begun.typed
