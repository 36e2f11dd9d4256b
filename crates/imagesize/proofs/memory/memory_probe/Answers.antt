use Rattle.std.proofs.Common.{◌≡◌, ◌+◌, length, None, refl, ap, arith}
use Rattle.imagesize.proofs.Endings.{budget_taken, no_memory}
use Rattle.imagesize.proofs.Meanings.{bounded_meaning, probes_opened}
use Rattle.imagesize.proofs.Memories.{memory_opens, memory_placed, memory_starts, reported}
use Rattle.imagesize.specs.Meaning.{meaning_reads}
use Rattle.imagesize.specs.Opening.{in_memory}
use Rattle.imagesize_source.specs.Errors.{end_of_input}
use Rattle.imagesize_source.specs.Halts.{with_error}
use Rattle.imagesize.proofs.memory.memory_probe.Goals as goal

pub returns-clause-probes : goal.returns-clause-probes
returns-clause-probes c =
    let same : length c.args.bytes.now ≡ length c.probe-kind.new.source.bytes.now =
    omega (arith, ap (λ f. f.told) c.probe-kind.ensures.runs.frame, ap length c.new-source.ensures.bytes) in
    probes_opened (in_memory c.args.bytes.now c.args.offset) (in_memory c.args.bytes.now (length c.args.bytes.now)) None 0
    (reported c.args.bytes.now c.args.offset) _ _ _ _
    (ap (λ n. with_error end_of_input (n + 64) c.probe-kind.result.1) same)
    (rw (c.new-source.ensures.bytes, c.new-source.ensures.front, c.new-source.ensures.left, c.new-source.ensures.position)
    (memory_starts c.args.bytes.now c.args.offset (omega arith))) refl (memory_opens c.args.bytes.now c.args.offset)
    c.probe-kind.ensures.runs c.probe-kind.ensures.kind (omega (arith, c.taken-taken.ensures))

pub returns-clause-spent : goal.returns-clause-spent
returns-clause-spent c = grind (arith, budget_taken)

pub returns-clause-memory : goal.returns-clause-memory
returns-clause-memory c = no_memory None _ _

pub returns-clause-there : goal.returns-clause-there
returns-clause-there c =
    omega (arith, c.position.ensures.within, ap (λ f. f.told) c.probe-kind.ensures.runs.frame, ap length c.new-source.ensures.bytes)

pub returns-clause-offset : goal.returns-clause-offset
returns-clause-offset c = memory_placed c.args.bytes.now c.args.offset meaning_reads bounded_meaning (omega arith) _ _ _
    (rw (c.new-source.ensures.bytes, c.new-source.ensures.front, c.new-source.ensures.left, c.new-source.ensures.position) refl)
    c.probe-kind.ensures.runs _ c.position.ensures.position
