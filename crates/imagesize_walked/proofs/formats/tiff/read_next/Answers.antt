use Rattle.std.proofs.Common.{◌≡◌, ◌+◌, arith, rules, sym, ◌∙◌, None, Some}
use Rattle.imagesize_walked.proofs.Tiff.{next_refused, next_said, none_left}
use Rattle.imagesize_walked.specs.Tiff.{entry_bytes}
use Rattle.imagesize_walked.proofs.formats.tiff.read_next.Goals as goal

pub returns-then-listed-eq0-clause-runs : goal.returns-then-listed-eq0-clause-runs
returns-then-listed-eq0-clause-runs g c =
    none_left c.args.listed.now c.args.offset c.told-told.ensures.sound c.if-listed-eq0.true

pub returns-in_err-entry-clause-runs : goal.returns-in_err-entry-clause-runs
returns-in_err-entry-clause-runs g c =
    let h = next_refused c.args.listed.now c.args.offset c.if-listed-eq0.false _ c.in_err-entry.ensures.runs in
    search (rules, h)

pub returns-in-Some-clause-runs : goal.returns-in-Some-clause-runs
returns-in-Some-clause-runs g c =
    next_said c.args.listed.now c.args.offset c.if-listed-eq0.false c.in_ok-entry.entry c.size_with.new.width c.size_with.new.height
    (Some c.in-Some.size) c.size_with.ensures.width c.size_with.ensures.height
    (sym c.size_with.ensures.size ∙ c.in-Some.is) c.in_ok-entry.ensures.runs

pub returns-in-None-clause-runs : goal.returns-in-None-clause-runs
returns-in-None-clause-runs g c =
    let length : g.row.HEAD + g.row.VALUE ≡ entry_bytes c.args.listed.now.version = omega (arith, c.requires.head, c.requires.value) in
    rw length (next_said c.args.listed.now c.args.offset c.if-listed-eq0.false c.in_ok-entry.entry c.size_with.new.width
    c.size_with.new.height None c.size_with.ensures.width c.size_with.ensures.height
    (sym c.size_with.ensures.size ∙ c.in-None.is) c.in_ok-entry.ensures.runs)
