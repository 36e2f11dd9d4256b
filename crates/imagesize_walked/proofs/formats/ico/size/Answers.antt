use Rattle.std.proofs.Common.{rules}
use Rattle.imagesize_source.specs.Layout.{layout_reads}
use Rattle.imagesize_source.specs.Walk.{run}
use Rattle.imagesize_source.proofs.Runs.{runs_refused, runs_then}
use Rattle.imagesize_walked.specs.Walks.{ico_open, ico_step}
use Rattle.imagesize_walked.proofs.Ico.{ico_is}
use Rattle.imagesize_walked.proofs.formats.ico.size.Goals as goal

pub returns-in_err-start : goal.returns-in_err-start
returns-in_err-start g c =
    let d = (g.S.Source.state c.args.source.now).held.input in
    let h = runs_refused (layout_reads d ico_open) (λ s. run ico_step s.records s.offset d) c.in_err-start.ensures.runs in
    rw (ico_is d) (search (rules, h))

pub returns : goal.returns
returns g c =
    let d = (g.S.Source.state c.args.source.now).held.input in
    rw (ico_is d)
    (runs_then (layout_reads d ico_open) (λ s held. run ico_step s.records s.offset held.input) c.in_ok-start.ensures.runs c.walk.ensures)
