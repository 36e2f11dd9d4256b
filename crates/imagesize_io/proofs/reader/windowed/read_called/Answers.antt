use Rattle.std.proofs.Common.{◌≡◌, ℕ, Result, Err, ap, sym, ◌∙◌, arith, rules}
use Rattle.std.proofs.lemmas.List.{take_all}
use Rattle.imagesize_io.specs.ReaderState.{kept_window}
use Rattle.imagesize_source.specs.declared.halt.Halt.{Halt}
use Rattle.imagesize_io.proofs.Layers.{reads_past, stops_behind}
use Rattle.imagesize_io.proofs.reader.windowed.read_called.Goals as goal

pub returns-in_err-count-2 : goal.returns-in_err-count-2
returns-in_err-count-2 g c =
    let is : ◌≡◌ {A = Result ℕ Halt} c.from_residual-in_err-count-2.result (Err c.in_err-count-2.field-0.0) =
    search rules in
    rw is (record {
      reads = stops_behind (search (rules, arith)) c.in_err-count-2.ensures.reads;
      present = λ told. tt;
      goes_on = λ here. tt;
      ends = λ above other. absurd (omega (arith, c.if-ledger-offset.false, above));
    })

pub returns-then-count-buffer : goal.returns-then-count-buffer
returns-then-count-buffer g c =
    record {
      reads = reads_past (search (rules, arith)) c.in_ok-count-2.ensures.reads
          (c.keep.ensures ∙ ap (kept_window c.args.ledger.now.window.items c.args.offset) (sym (take_all c.in_ok-count-2.count c.read_from.new.buffer (omega (arith, c.if-count-buffer.true))))) (search rules);
      present = search rules;
      goes_on = search rules;
      ends = λ above other. absurd (omega (arith, c.if-ledger-offset.false, above));
    }

pub returns : goal.returns
returns g c =
    record {
      reads = reads_past (search (rules, arith)) c.in_ok-count-2.ensures.reads c.keep-2.ensures (search rules);
      present = search rules;
      goes_on = search rules;
      ends = λ above other. absurd (omega (arith, c.if-ledger-offset.false, above));
    }
