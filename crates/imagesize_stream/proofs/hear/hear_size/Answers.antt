use Rattle.std.proofs.Common.{Ok, Err, refl, sym, ◌∙◌}
use Rattle.imagesize_stream.proofs.Hearing.{kind_typed, rests_more, size_asked, size_said, steady_said, type_is}
use Rattle.imagesize.specs.Parted.{has_texts}
use Rattle.imagesize_records.proofs.Plain.{opening_read}
use Rattle.imagesize_records.proofs.Reaches.{opening_reaches}
use Rattle.imagesize_records.specs.declared.opening.Opening.TheVariants as opened
use Rattle.imagesize_stream.proofs.hear.hear_size.Goals as goal

pub returns-then-is_faulted : goal.returns-then-is_faulted
returns-then-is_faulted c =
    let faults = sym c.is_faulted.ensures ∙ c.if-is_faulted.true in let found = c.read_first-found.ensures in
    let asked = size_asked c.args.bytes.now c.args.told c.args.image c.requires.image _ (λ d begins as_long.
    found.marked faults d begins as_long (has_texts c.args.image) 132 (opening_read c.args.image)
    (opening_reaches c.args.image)) in rw c.requires.first (record {
      few = found.few faults 132 (opening_reaches c.args.image);
      ends = found.ends faults;
      rests = rests_more c.args.bytes.now c.args.told _ asked;
      known = c.requires.image;
      typed = tt;
      between = λ _. asked;
    })

pub returns-in-Err : goal.returns-in-Err
returns-in-Err c =
    let sure = sym c.is_faulted.ensures ∙ c.if-is_faulted.false in let found = c.read_first-found.ensures in (
      type_is c.args.bytes.now c.args.told _ c.requires.image,
      size_said c.args.bytes.now c.args.told c.args.image c.requires.image (Err c.in-Err.halt)
          (rw c.in-Err.is at (found.says sure)),
      rw c.in-Err.is at (found.unstopped sure),
    )

pub returns-in-Ok-Size : goal.returns-in-Ok-Size
returns-in-Ok-Size c =
    let says = c.read_first-found.ensures.says (sym c.is_faulted.ensures ∙ c.if-is_faulted.false) in (
      type_is c.args.bytes.now c.args.told _ c.requires.image,
      size_said c.args.bytes.now c.args.told c.args.image c.requires.image (Ok (opened.Size c.in-Ok-Size.size))
          (rw (c.in-Ok-Size.is, rw c.in-Ok-Size.is at c.in-Ok-Size.field-0-is) at says),
      refl,
    )

pub returns-in-Ok-Records : goal.returns-in-Ok-Records
returns-in-Ok-Records c =
    let says = c.read_first-found.ensures.says (sym c.is_faulted.ensures ∙ c.if-is_faulted.false) in
    let is = rw (c.in-Ok-Records.is, rw c.in-Ok-Records.is at c.in-Ok-Records.field-0-is) at says in
    let steady = steady_said c.args.bytes.now c.args.told c.args.image c.requires.image c.requires.fits c.in-Ok-Records.next
    c.in-Ok-Records.offset is in (
      c.args.image,
      refl,
      steady.0,
      c.requires.image,
      is,
      kind_typed c.args.bytes.now c.args.told c.args.image c.requires.image c.requires.fits,
      steady.1,
    )
