use Rattle.std.proofs.Common.{◌+◌, length, false, refl, sym, ap, ◌∙◌, arith}
use Rattle.std.proofs.lemmas.List.{length-append}
use Rattle.imagesize.specs.Meaning.{meaning_reads}
use Rattle.imagesize_pieces.proofs.Needing.{needs_as}
use Rattle.imagesize_stream.proofs.Coming.{texts_are, texts_same, type_on, walked}
use Rattle.imagesize_records.proofs.Far.{reach_few, step_far, step_reach}
use Rattle.imagesize_records.proofs.Plain.{step_read}
use Rattle.imagesize_records.proofs.Steps.{step_follows}
use Rattle.imagesize_records.specs.Steps.{reach_of}
use Rattle.imagesize_stream.proofs.stage.walk.Goals as goal

pub read_on-requires-clause-follows : goal.read_on-requires-clause-follows
read_on-requires-clause-follows c = step_follows

pub read_on-requires-clause-reaches : goal.read_on-requires-clause-reaches
read_on-requires-clause-reaches c = λ next offset. step_far next offset (offset + (length c.args.buffer.now + 1)) (omega arith)

pub returns-in-Some-clause-continues : goal.returns-in-Some-clause-continues
returns-in-Some-clause-continues c = λ kind.
    let next = c.args.next.now in let old = c.args.stand.now in let buffer = c.args.buffer.now in let chunk = c.args.chunk.now in
    let is = sym c.is_text.ensures ∙ c.if-is_text.false in
    record {
      goes_on = λ front came. walked kind false next old buffer front chunk is came c.read_on.new.stand.told c.in-Some.size
          c.read_on.ensures.told c.requires.fits (c.in-Some.ensures.says (λ d. meaning_reads d 0) front came.1);
      complete = tt;
      marked = λ front came d begins as_long. tt;
      typed = λ front came. tt;
    }

pub returns-in-None-clause-counts : goal.returns-in-None-clause-counts
returns-in-None-clause-counts c =
    let none = c.in-None.ensures in let new = c.read_on.new.stand in
    let few = none.few refl _ (step_reach c.read_on.new.records new.offset) in
    let same = ap reach_of (none.holds refl).1 in record {
      told = c.read_on.ensures.told;
      holds = ((none.holds refl).0, omega (arith, none.buffer refl, none.passed refl, c.requires.holds.1.1));
      ahead = omega (arith, none.ends refl, none.starts refl, few, same, reach_few c.read_on.new.records, c.min-stand.ensures);
      passed = none.passed refl;
      whole = λ all. none.whole all refl;
    }

pub returns-in-None-clause-continues : goal.returns-in-None-clause-continues
returns-in-None-clause-continues c = λ kind.
    let next = c.args.next.now in let old = c.args.stand.now in let buffer = c.args.buffer.now in let chunk = c.args.chunk.now in
    let is = sym c.is_text.ensures ∙ c.if-is_text.false in
    let none = c.in-None.ensures in let offset = c.read_on.new.stand.offset in record {
      goes_on = λ front came. (
        type_on front chunk old.told c.read_on.new.stand.told kind c.read_on.ensures.told came.0,
        none.goes_on refl (λ d. meaning_reads d 0) front came.1,
        (none.holds refl).1 ∙ sym (texts_same kind false next old buffer front chunk is came),
      );
      complete = λ front came d begins as_long below. none.complete refl (λ d. meaning_reads d 0) front came.1 d begins as_long
          (λ p here. omega (arith, below p here, length-append front chunk));
      marked = λ front came d begins as_long. needs_as _ _ _ _ (meaning_reads d 0).marks
          (texts_are kind false next old buffer front chunk is came d begins) (omega arith)
          (omega (arith, none.starts refl, ap reach_of (none.holds refl).1, reach_few c.read_on.new.records, c.min-stand.ensures))
          (none.marked refl _ _ (step_read _ c.read_on.new.records offset (none.holds refl).1) (step_reach c.read_on.new.records offset)
          (λ d. meaning_reads d 0) front came.1 d begins as_long);
      typed = λ front came. tt;
    }
