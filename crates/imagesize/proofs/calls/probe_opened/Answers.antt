use Rattle.std.proofs.lemmas.Bool.Decides.{nat_tests}
use Rattle.std.proofs.Common.{refl, ap, arith, rules}
use Rattle.imagesize.proofs.Endings.{budget_taken, fault_last, fault_settled, kept_plain, leaves_reader, no_memory, settled}
use Rattle.imagesize.proofs.Meanings.{bounded_meaning, probes_opened}
use Rattle.imagesize.proofs.Within.{meaning_ends}
use Rattle.imagesize.specs.Meaning.{meaning_reads}
use Rattle.imagesize_io.proofs.Leaving.{leaves_at}
use Rattle.imagesize.proofs.calls.probe_opened.Goals as goal

pub returns-clause-probes : goal.returns-clause-probes
returns-clause-probes g c =
    probes_opened _ _ _ _ c.args.opened _ _ _ _ c.with_error-answer.ensures c.new-source.ensures.state refl c.requires
    c.probe-kind.ensures.runs
    c.probe-kind.ensures.kind (omega arith)

pub returns-clause-spent : goal.returns-clause-spent
returns-clause-spent g c = grind (arith, budget_taken, kept_plain)

pub returns-clause-memory : goal.returns-clause-memory
returns-clause-memory g c = grind (arith, no_memory)

pub returns-clause-fault : goal.returns-clause-fault
returns-clause-fault g c = grind (arith, fault_settled, fault_last)

pub returns-clause-leaves : goal.returns-clause-leaves
returns-clause-leaves g c = grind (arith, nat_tests, settled, leaves_reader)

pub returns-clause-offset : goal.returns-clause-offset
returns-clause-offset g c =
    leaves_at _ _ _ _ _ _ c.args.opened
    c.probe-kind.new.source.ledger.progress c.probe-kind.new.source.ledger.window.items c.left-left.result _ _ _
    meaning_reads bounded_meaning meaning_ends c.new-source.ensures.state c.requires c.probe-kind.ensures.runs
    (search rules) refl refl (λ none. ap (λ r. g.R.Told.telling r) (c.settle.ensures.stays none)) c.settle.ensures.seeks
    c.left-left.ensures.position c.left-left.ensures.there
