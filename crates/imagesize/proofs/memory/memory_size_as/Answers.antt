use Rattle.std.proofs.Common.{◌≡◌, length, Err, refl, sym, ap, subst, arith}
use Rattle.imagesize.proofs.Meanings.{bounded_size}
use Rattle.imagesize.proofs.Memories.{memory_placed, memory_reads}
use Rattle.imagesize.specs.Meaning.{size_of, size_reads}
use Rattle.imagesize.specs.Opening.{in_memory}
use Rattle.imagesize.specs.Probed.{counted_answer}
use Rattle.imagesize_io.specs.Answers.{Answers}
use Rattle.imagesize.proofs.memory.memory_size_as.Goals as goal

pub returns-in-Ok-clause-offset : goal.returns-in-Ok-clause-offset
returns-in-Ok-clause-offset c = λ offset.
    memory_placed c.args.bytes.now offset (λ d offset. size_reads c.args.kind d) (bounded_size c.args.kind) (omega arith) _ _ _
    (rw (c.new-source.ensures.bytes, c.new-source.ensures.front, c.new-source.ensures.left, c.new-source.ensures.position) refl)
    c.size.ensures _ c.position.ensures.position

pub returns-in-Err-clause-answers : goal.returns-in-Err-clause-answers
returns-in-Err-clause-answers c = λ offset.
    let same : length c.args.bytes.now ≡ length c.size.new.source.bytes.now =
    omega (arith, ap (λ f. f.told) c.size.ensures.frame, ap length c.new-source.ensures.bytes) in
    subst (λ n. Answers (in_memory c.args.bytes.now offset) (λ d offset. size_of c.args.kind d) (counted_answer n (Err c.in-Err.halt)))
    (sym same)
    (memory_reads c.args.bytes.now offset (λ d offset. size_reads c.args.kind d) (bounded_size c.args.kind) (omega arith) _ _ _
    (rw (c.new-source.ensures.bytes, c.new-source.ensures.front, c.new-source.ensures.left, c.new-source.ensures.position) refl)
    c.in-Err.ensures refl)

pub returns-in-Err-clause-offset : goal.returns-in-Err-clause-offset
returns-in-Err-clause-offset c = λ offset.
    memory_placed c.args.bytes.now offset (λ d offset. size_reads c.args.kind d) (bounded_size c.args.kind) (omega arith) _ _ _
    (rw (c.new-source.ensures.bytes, c.new-source.ensures.front, c.new-source.ensures.left, c.new-source.ensures.position) refl)
    c.size.ensures _ c.position-in-Err.ensures.position
