use Rattle.std.proofs.Common.{◌≡◌, ◌≤◌, ℕ, List, Result, Err, ◌+◌, ap, sym, ◌∙◌, arith, length, rules, take, ◌++◌}
use Rattle.imagesize_source.specs.declared.halt.Halt.{Halt}
use Rattle.imagesize_source.specs.Input.{part}
use Rattle.imagesize_source.proofs.Slices.{front_is}
use Rattle.imagesize_io.specs.ReaderState.{kept_window}
use Rattle.imagesize_io.proofs.Filling.{length-put, put_there, take_more}
use Rattle.imagesize_io.proofs.Layers.{reads_behind, reads_none, stops_behind}
use Rattle.imagesize_io.proofs.Windows.{part-window}
use Rattle.imagesize_io.proofs.reader.windowed.read_within.Goals as goal

pub returns-then-copied-buffer : goal.returns-then-copied-buffer
returns-then-copied-buffer g c =
    let copy = c.copy_part-copied in
    let w : List ℕ = c.args.ledger.now.window.items in
    let buffer = copy.new.buffer in
    let small : length w ≤ 32 = omega (arith, c.len-length.ensures.value, c.len-length.ensures.fits) in
    let count = rw c.as_slice.ensures.value at copy.ensures.count in
    let front = front_is w buffer _ c.args.offset copy.result count (rw c.as_slice.ensures.value at copy.ensures.copied) copy.auto.buffer in
    let all = c.if-copied-buffer.true in
    reads_none buffer (omega arith) (omega (arith, count, small)) (omega (arith, all, count))
    (λ s k. part-window w s.bytes c.args.offset (length buffer) (omega (arith, all, count)) ∙ sym front ∙ ap (λ n. take n buffer) all)

pub returns-in_err-count : goal.returns-in_err-count
returns-in_err-count g c =
    let is : ◌≡◌ {A = Result ℕ Halt} c.from_residual.result (Err c.in_err-count.field-0.0) = search rules in
    let copy = c.copy_part-copied in
    let count = rw c.as_slice.ensures.value at copy.ensures.count in
    let small : length c.args.ledger.now.window.items ≤ 32 = omega (arith, c.len-length.ensures.value, c.len-length.ensures.fits) in
    let whole = length-put copy.new.buffer c.read_across.new.buffer copy.result (omega (arith, count, copy.auto.buffer)) (search rules) in
    rw is (stops_behind (search (rules, arith, whole, count, small)) c.in_err-count.ensures.reads)

pub returns : goal.returns
returns g c =
    let copy = c.copy_part-copied in
    let read = c.in_ok-count.ensures.reads in
    let buffer = copy.new.buffer in
    let more = c.read_across.new.buffer in
    let n = c.in_ok-count.count in
    let w : List ℕ = c.args.ledger.now.window.items in
    let count = rw c.as_slice.ensures.value at copy.ensures.count in
    let small : length w ≤ 32 = omega (arith, c.len-length.ensures.value, c.len-length.ensures.fits) in
    let front = front_is w buffer _ c.args.offset copy.result count (rw c.as_slice.ensures.value at copy.ensures.copied) copy.auto.buffer in
    let fits : copy.result ≤ length buffer = omega (arith, count, copy.auto.buffer) in
    let whole = length-put buffer more copy.result fits (search rules) in
    reads_behind (search (rules, arith, whole, count, small)) read
    (c.keep.ensures ∙ ap (kept_window w (c.args.offset + copy.result)) (put_there buffer more copy.result n fits read.bound))
    (search rules) (omega arith)
    (take_more buffer more copy.result n fits read.bound
    ∙ ap (λ l. l ++ take n more) (front ∙ ap (part w c.args.offset) (sym whole)))
