use Rattle.std.proofs.Common.{arith, rules}
use Rattle.imagesize_io.proofs.Layers.{reads_end}
use Rattle.imagesize_io.proofs.reader.windowed.read_above.Goals as goal

pub returns-then-offset-ledger : goal.returns-then-offset-ledger
returns-then-offset-ledger g c =
    record {
      reads = reads_end _ c.requires;
      present = λ told. absurd (omega (arith, c.requires, told));
      goes_on = λ on. search (rules, on);
      ends = search rules;
    }
