use Rattle.std.proofs.Common.{◌≡◌, ◌≤◌, ◌<◌, ◌++◌, ℕ, List, ap, arith, length, sym, subst, rules, take, ◌∙◌}
use Rattle.std.proofs.lemmas.List.{length-take}
use Rattle.std.proofs.Math.Seq.{take-take}
use Rattle.imagesize_source.specs.Text.{is_ended}
use Rattle.imagesize_io.specs.Held.{IsWhole}
use Rattle.imagesize_io.specs.ReaderState.{kept_window}
use Rattle.imagesize_io.proofs.HeldReads.{held_front}
use Rattle.imagesize_io.proofs.TextReads.{ends_some, more_front, more_read, none_read, whole_front}
use Rattle.imagesize_io.proofs.reader.held.read_held_text.Goals as goal

pub returns-then-next-len : goal.returns-then-next-len
returns-then-next-len g c = (none_read c.args.buffer.now c.requires.bound, c.requires.open)

pub returns-in_default : goal.returns-in_default
returns-in_default g c = (none_read c.args.buffer.now c.requires.bound, c.requires.open)

pub returns-in-Some-end_of : goal.returns-in-Some-end_of
returns-in-Some-end_of g c =
    let held = c.in-Some.ensures in
    let part = c.read_part.ensures in
    let text = c.in-Some-end_of.ensures in
    let first : List ℕ = take c.args.count c.args.buffer.now in
    let bytes : List ℕ = c.in-Some.bytes.now in
    let rest : List ℕ = c.read_part.new.buffer in
    let most : ℕ = c.min-most.result in
    let last : ℕ = c.in-Some-end_of.last in
    let long : length first ≡ c.args.count = omega (arith, length-take c.args.count c.args.buffer.now, c.requires.bound) in
    let few : last ≤ most = omega (arith, text.within, length-take most bytes) in
    let room : length rest ≡ most = search (rules, arith) in
    let within : last ≤ length bytes = omega (arith, few, c.min-most.ensures) in
    let some : 0 < last = ends_some c.args.text first (take most bytes) last c.requires.open text.ended text.length in
    let copied : take last rest ≡ take last bytes = part.copied ∙ take-take last most bytes few in (
      more_read rest _ long (omega (arith, few, room)) c.ranges.offset.fits (omega (arith, c.saturating_add-next.ensures)) some
          (held_front bytes (take last rest) held.there held.counts within some copied held.ahead held.told
          (omega (arith, c.len.ensures.value, c.if-next-len.false)) (omega (arith, c.len.ensures.value, c.len.ensures.fits))
          (part.kept ∙ ap (kept_window c.args.ledger.now.window.items c.saturating_add-next.result) (sym part.copied)) part.passed
          (omega (arith, part.passed.taken, held.paid, within))),
      subst (IsWhole c.args.text) (sym (more_front first rest _ long (omega (arith, few, room)) ∙ ap (λ bs. first ++ bs) part.copied))
          (whole_front c.args.text first (take most bytes) last text.ended text.length),
    )

pub returns-in-None-2 : goal.returns-in-None-2
returns-in-None-2 g c =
    let held = c.in-Some.ensures in
    let part = c.read_part-in-None-2.ensures in
    let first : List ℕ = take c.args.count c.args.buffer.now in
    let bytes : List ℕ = c.in-Some.bytes.now in
    let rest : List ℕ = c.read_part-in-None-2.new.buffer in
    let most : ℕ = c.min-most.result in
    let long : length first ≡ c.args.count = omega (arith, length-take c.args.count c.args.buffer.now, c.requires.bound) in
    let room : length rest ≡ most = search (rules, arith) in
    let within : most ≤ length bytes = omega (arith, c.min-most.ensures) in
    let some : 0 < most = search (rules, arith) in
    let copied : take most rest ≡ take most bytes = part.copied ∙ take-take most most bytes (omega arith) in (
      more_read rest _ long (omega (arith, room)) c.ranges.offset.fits (omega (arith, c.saturating_add-next.ensures)) some
          (held_front bytes (take most rest) held.there held.counts within some copied held.ahead held.told
          (omega (arith, c.len.ensures.value, c.if-next-len.false)) (omega (arith, c.len.ensures.value, c.len.ensures.fits))
          (part.kept ∙ ap (kept_window c.args.ledger.now.window.items c.saturating_add-next.result) (sym part.copied)) part.passed
          (omega (arith, part.passed.taken, held.paid, within))),
      ap (is_ended c.args.text) (more_front first rest _ long (omega (arith, room)) ∙ ap (λ bs. first ++ bs) copied)
          ∙ c.end_of.ensures.«open» c.in-None-2.is,
    )
