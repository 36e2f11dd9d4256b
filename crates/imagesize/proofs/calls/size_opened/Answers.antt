use Rattle.std.proofs.Common.{arith, refl, ap, rules}
use Rattle.std.proofs.lemmas.Bool.Decides.{nat_tests}
use Rattle.imagesize.proofs.Endings.{budget_counted, counts_opened, fault_last, fault_settled, kept_plain, leaves_reader, no_memory, settled}
use Rattle.imagesize.proofs.Meanings.{bounded_size, read_answers}
use Rattle.imagesize.specs.Meaning.{size_reads}
use Rattle.imagesize.proofs.Within.{size_ends}
use Rattle.imagesize_io.proofs.Leaving.{leaves_at}
use Rattle.imagesize.proofs.calls.size_opened.Goals as goal

pub returns-clause-answers : goal.returns-clause-answers
returns-clause-answers g c =
    rw c.with_error-answer.ensures
    (read_answers (λ d offset. size_reads c.args.kind d) (bounded_size c.args.kind) _ _ _ _ c.args.opened _ _ _
    c.new-source.ensures.state refl c.requires c.size-found.ensures)

pub returns-clause-counts : goal.returns-clause-counts
returns-clause-counts g c =
    counts_opened (λ d offset. size_reads c.args.kind d) _ _ _ _ _ c.args.opened _ _ _
    c.new-source.ensures.state refl c.requires c.size-found.ensures (search rules)

pub returns-clause-spent : goal.returns-clause-spent
returns-clause-spent g c = grind (arith, budget_counted, kept_plain)

pub returns-clause-memory : goal.returns-clause-memory
returns-clause-memory g c = grind (arith, no_memory)

pub returns-clause-fault : goal.returns-clause-fault
returns-clause-fault g c = grind (arith, fault_settled, fault_last)

pub returns-clause-leaves : goal.returns-clause-leaves
returns-clause-leaves g c = grind (arith, nat_tests, settled, leaves_reader)

pub returns-clause-offset : goal.returns-clause-offset
returns-clause-offset g c =
    leaves_at _ _ _ _ _ _ c.args.opened
    c.size-found.new.source.ledger.progress c.size-found.new.source.ledger.window.items c.left-left.result _ _ _
    (λ d offset. size_reads c.args.kind d) (bounded_size c.args.kind) (size_ends c.args.kind)
    c.new-source.ensures.state c.requires c.size-found.ensures (search rules) refl refl
    (λ none. ap (λ r. g.R.Told.telling r) (c.settle.ensures.stays none)) c.settle.ensures.seeks
    c.left-left.ensures.position c.left-left.ensures.there
