use Rattle.std.proofs.Common.{false, sym, ◌∙◌, arith}
use Rattle.imagesize_stream.proofs.Hearing.{first_asked, first_typed, rests_more, type_asked, type_refused, type_said}
use Rattle.imagesize_records.proofs.Plain.{first_plain}
use Rattle.imagesize_records.proofs.Reaches.{first_reaches}
use Rattle.imagesize_stream.proofs.hear.hear_type.Goals as goal

pub returns-then-is_faulted-clause-hears : goal.returns-then-is_faulted-clause-hears
returns-then-is_faulted-clause-hears c =
    let faults = sym c.is_faulted.ensures ∙ c.if-is_faulted.true in let found = c.read_first-found.ensures in
    let asked = first_asked c.args.bytes.now c.args.told _
    (λ d begins as_long. found.marked faults d begins as_long false 132 first_plain first_reaches) in rw c.requires.first (record {
      few = found.few faults 132 first_reaches;
      ends = found.ends faults;
      rests = rests_more c.args.bytes.now c.args.told _ asked;
      known = tt;
      typed = type_asked c.args.bytes.now c.args.told _
          (λ d begins as_long. found.marked faults d begins as_long false 132 first_plain first_reaches);
      between = λ _. asked;
    })

pub hear_size-requires-clause-image : goal.hear_size-requires-clause-image
hear_size-requires-clause-image c =
    let says = c.read_first-found.ensures.says (sym c.is_faulted.ensures ∙ c.if-is_faulted.false) in
    let is = rw c.in-Ok-Type.is at c.in-Ok-Type.field-0-is in
    type_said c.args.bytes.now c.args.told c.in-Ok-Type.image (rw (c.in-Ok-Type.is, is) at says)

pub returns-in-Err-clause-hears : goal.returns-in-Err-clause-hears
returns-in-Err-clause-hears c =
    let sure = sym c.is_faulted.ensures ∙ c.if-is_faulted.false in let found = c.read_first-found.ensures in
    let refused = type_refused c.args.bytes.now c.args.told c.in-Err.halt (rw c.in-Err.is at (found.says sure)) in
    (refused.0, refused.1, rw c.in-Err.is at (found.unstopped sure))

pub returns-in-Ok-MaybeTga-clause-head : goal.returns-in-Ok-MaybeTga-clause-head
returns-in-Ok-MaybeTga-clause-head c = λ few.
    let says = c.read_first-found.ensures.says (sym c.is_faulted.ensures ∙ c.if-is_faulted.false) in
    let is = rw c.in-Ok-MaybeTga.is at c.in-Ok-MaybeTga.field-0-is in
    let enough = first_typed c.args.bytes.now c.args.told c.requires.fits _ (rw (c.in-Ok-MaybeTga.is, is) at says) in
    absurd (omega (arith, few, enough))

pub returns-in-Ok-Type-clause-head : goal.returns-in-Ok-Type-clause-head
returns-in-Ok-Type-clause-head c = λ few.
    let says = c.read_first-found.ensures.says (sym c.is_faulted.ensures ∙ c.if-is_faulted.false) in
    let is = rw c.in-Ok-Type.is at c.in-Ok-Type.field-0-is in
    let enough = first_typed c.args.bytes.now c.args.told c.requires.fits _ (rw (c.in-Ok-Type.is, is) at says) in
    absurd (omega (arith, few, enough))
