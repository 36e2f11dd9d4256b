use Rattle.std.proofs.Common.{ap, ◌∙◌}
use Rattle.imagesize.proofs.Extension.{size_lasts}
use Rattle.imagesize.proofs.Traces.{same}
use Rattle.imagesize_source.proofs.Halts.{stated_same}
use Rattle.imagesize_source.specs.Outcome.{stated}
use Rattle.imagesize.proofs.trace.blob_trace.Goals as goal

pub returns-in_err-spans-clause-local : goal.returns-in_err-spans-clause-local
returns-in_err-spans-clause-local g c = same c.args.«data».now

pub returns-clause-local : goal.returns-clause-local
returns-clause-local g c = same c.args.«data».now

pub returns-clause-lasts : goal.returns-clause-lasts
returns-clause-lasts g c = size_lasts c.args.«data».now 0 _
    (c.with_error.ensures ∙ stated_same _ _ _ c.record-kind.ensures.goes ∙ ap stated c.record-kind.ensures.found)
