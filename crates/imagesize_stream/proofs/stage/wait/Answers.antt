use Rattle.std.proofs.Common.{◌+◌, ◌-◌, true, false, length, take, sym, ◌∙◌, ap, arith}
use Rattle.std.proofs.lemmas.List.{length-append}
use Rattle.imagesize_fixed.specs.Tga.{is_tga_footer}
use Rattle.imagesize.specs.Meaning.{meaning_reads}
use Rattle.imagesize.specs.Parted.{texts_of}
use Rattle.imagesize_pieces.proofs.Beginning.{begins_left}
use Rattle.imagesize_pieces.proofs.Needing.{needs_texts, needs_wider}
use Rattle.imagesize_stream.proofs.Coming.{says_on}
use Rattle.imagesize_stream.proofs.Footers.{footer_tells, last_on}
use Rattle.imagesize_stream.proofs.Given.{footer_came, footer_known, footer_on}
use Rattle.imagesize_stream.proofs.stage.wait.Goals as goal

pub returns-then-stand-clause-continues : goal.returns-then-stand-clause-continues
returns-then-stand-clause-continues c =
    let told = c.args.stand.now.told in let chunk = c.args.chunk.now in record {
      goes_on = λ front came. (
        omega (arith, came.0, length-append front chunk),
        last_on front chunk c.args.buffer.now c.keep_behind.new.buffer (omega (arith, came.0, c.requires.some)) came.1
            c.keep_behind.ensures,
        says_on front chunk told c.args.kind.now came.2,
        λ d begins. came.3 d (begins_left front chunk told d begins),
      );
      complete = λ front came d begins as_long below.
          let rests = (came.3 d (begins_left front chunk told d begins)).rests in let last = below rests.0.0 rests.0.3 in
          omega (arith, last, rests.0.1, as_long, came.0, c.if-stand.true, length-append front chunk);
      marked = λ front came d begins as_long. needs_wider (texts_of d) (length d - 1) (length d) _ _ (meaning_reads d 0).marks
          (omega (arith, as_long, c.if-stand.true)) (omega (arith, as_long))
          (needs_texts (texts_of d) (length d - 1) (length d) (meaning_reads d 0).marks
          (came.3 d (begins_left front chunk told d begins)).rests);
      typed = λ front came d begins as_long below.
          let typed = (came.3 d (begins_left front chunk told d begins)).typed in let last = below typed.0.0 typed.0.3 in
          omega (arith, last, typed.0.1, as_long, came.0, c.if-stand.true, length-append front chunk);
    }

pub returns-then-is_footer-clause-continues : goal.returns-then-is_footer-clause-continues
returns-then-is_footer-clause-continues c = record {
  goes_on = λ front. footer_tells c.args.kind.now c.args.size true c.args.stand.now c.args.buffer.now c.keep_behind.new.buffer
      front c.args.chunk.now c.requires.some c.requires.fits c.if-stand.false c.keep_behind.ensures
      (ap is_tga_footer (sym c.copy_from_slice.ensures.after) ∙ sym c.is_footer.ensures ∙ c.if-is_footer.true);
  complete = tt;
  marked = λ front came d begins as_long. tt;
  typed = λ front came. tt;
}

pub returns-clause-continues : goal.returns-clause-continues
returns-clause-continues c = record {
  goes_on = λ front. footer_tells c.args.kind.now c.args.size false c.args.stand.now c.args.buffer.now c.keep_behind.new.buffer
      front c.args.chunk.now c.requires.some c.requires.fits c.if-stand.false c.keep_behind.ensures
      (ap is_tga_footer (sym c.copy_from_slice.ensures.after) ∙ sym c.is_footer.ensures ∙ c.if-is_footer.false);
  complete = tt;
  marked = λ front came d begins as_long. tt;
  typed = λ front came. tt;
}

pub returns-then-stand-clause-parts : goal.returns-then-stand-clause-parts
returns-then-stand-clause-parts c = λ d given part.
    let stand = c.args.stand.now in let rests = given.known.0.rests in record {
      given = record {
        as_long = given.as_long;
        known = (
          given.known.0,
          footer_on d c.args.buffer.now c.keep_behind.new.buffer c.args.chunk.now stand.passed stand.told given.as_long
              c.requires.fits (omega arith) given.known.1 part c.keep_behind.ensures,
        );
      };
      depends = λ below. omega (arith, below rests.0.0 rests.0.3, rests.0.1, given.as_long, c.if-stand.true);
      marked = needs_wider (texts_of d) (length d - 1) (length d) _ _ (meaning_reads d 0).marks
          (omega (arith, given.as_long, c.if-stand.true)) (omega (arith, given.as_long))
          (needs_texts (texts_of d) (length d - 1) (length d) (meaning_reads d 0).marks rests);
    }

pub returns-then-is_footer-clause-parts : goal.returns-then-is_footer-clause-parts
returns-then-is_footer-clause-parts c = λ d given part.
    let stand = c.args.stand.now in let chunk = c.args.chunk.now in let new = c.keep_behind.new.buffer in record {
      given = record {
        as_long = given.as_long;
        known = footer_known d (take 18 new) c.args.size true given.known.0
            (footer_came d new (stand.passed + length chunk) stand.told given.as_long
            (omega (arith, c.requires.some, c.requires.fits)) c.if-stand.false
            (footer_on d c.args.buffer.now new chunk stand.passed stand.told given.as_long c.requires.fits (omega arith)
            given.known.1 part c.keep_behind.ensures))
            (ap is_tga_footer (sym c.copy_from_slice.ensures.after) ∙ sym c.is_footer.ensures ∙ c.if-is_footer.true);
      };
      depends = tt;
      marked = tt;
    }

pub returns-clause-parts : goal.returns-clause-parts
returns-clause-parts c = λ d given part.
    let stand = c.args.stand.now in let chunk = c.args.chunk.now in let new = c.keep_behind.new.buffer in record {
      given = record {
        as_long = given.as_long;
        known = footer_known d (take 18 new) c.args.size false given.known.0
            (footer_came d new (stand.passed + length chunk) stand.told given.as_long
            (omega (arith, c.requires.some, c.requires.fits)) c.if-stand.false
            (footer_on d c.args.buffer.now new chunk stand.passed stand.told given.as_long c.requires.fits (omega arith)
            given.known.1 part c.keep_behind.ensures))
            (ap is_tga_footer (sym c.copy_from_slice.ensures.after) ∙ sym c.is_footer.ensures ∙ c.if-is_footer.false);
      };
      depends = tt;
      marked = tt;
    }
