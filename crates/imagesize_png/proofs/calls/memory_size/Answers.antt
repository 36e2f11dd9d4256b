use Rattle.std.proofs.Common.{length, None, refl, sym, ap, subst, arith}
use Rattle.imagesize_io.proofs.Counted.{counting_starts}
use Rattle.imagesize_io.proofs.Leaving.{opened_at}
use Rattle.imagesize_io.specs.Answers.{Answers}
use Rattle.imagesize_png.proofs.Laws.{bounded_png, png_answers}
use Rattle.imagesize_png.specs.Png.{png_of, png_reads}
use Rattle.imagesize_png.proofs.calls.memory_size.Goals as goal

pub returns-clause-answers : goal.returns-clause-answers
returns-clause-answers c = λ telling mid opens memory.
    subst (λ r. Answers telling png_of r) (sym c.with_error.ensures)
    (png_answers telling mid None 0 c.args.opened _ _ _
    (rw (c.new-source.ensures.bytes, c.new-source.ensures.front, c.new-source.ensures.left, c.new-source.ensures.position)
    (counting_starts telling mid c.args.opened c.args.bytes.now (omega arith) opens memory)) refl opens c.size-found.ensures)

pub returns-clause-offset : goal.returns-clause-offset
returns-clause-offset c = λ telling mid opens memory.
    opened_at telling mid None 0 c.args.opened _ _ _ png_reads _ bounded_png
    (rw (c.new-source.ensures.bytes, c.new-source.ensures.front, c.new-source.ensures.left, c.new-source.ensures.position)
    (counting_starts telling mid c.args.opened c.args.bytes.now (omega arith) opens memory)) opens c.size-found.ensures
    c.position.ensures.position

pub returns-clause-there : goal.returns-clause-there
returns-clause-there c =
    omega (arith, c.position.ensures.within, ap (λ f. f.told) c.size-found.ensures.frame, ap length c.new-source.ensures.bytes)
