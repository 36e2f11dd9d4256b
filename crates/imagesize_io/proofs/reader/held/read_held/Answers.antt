use Rattle.std.proofs.Common.{◌≡◌, ◌≤◌, ◌<◌, ℕ, ap, arith, length, rules, sym, take, ◌∙◌}
use Rattle.imagesize_io.proofs.HeldReads.{full_window, held_front}
use Rattle.imagesize_io.proofs.reader.held.read_held.Goals as goal

pub returns-clause-reads : goal.returns-clause-reads
returns-clause-reads g c = λ _.
    let held = c.in-Some.ensures in
    let passed = c.pass.ensures in
    let count : ℕ = length c.args.buffer.now in
    let long : length c.copy_from_slice.new.self ≡ count = search rules in
    let fits : count ≤ length c.in-Some.bytes.now = omega (arith, c.if-count-bytes.false) in
    let some : 0 < count = search (rules, arith) in
    let small : length c.args.ledger.now.window.items ≤ 32 = omega (arith, c.len-length.ensures.value, c.len-length.ensures.fits) in
    let far : 32 ≤ c.args.offset = omega (arith, c.if-offset.false) in
    record {
      reads = held_front c.in-Some.bytes.now _ held.there held.counts (omega (arith, long, fits)) (omega (arith, long, some))
          (c.copy_from_slice.ensures.after ∙ ap (λ k. take k c.in-Some.bytes.now) (sym long))
          held.ahead held.told (omega (arith, small, far)) small
          (ap (λ w. w.items) passed.window ∙ sym (full_window c.args.ledger.now.window.items c.args.offset _ small far))
          passed.passed (omega (arith, passed.passed.taken, held.paid, fits, long));
      present = λ near. passed.present;
      goes_on = λ there. passed.present;
      ends = λ above other. absurd (omega (arith, held.told, above));
    }
