use Rattle.std.proofs.Common.{◌≡◌, ℕ, Result, Err, rules}
use Rattle.imagesize_source.specs.declared.halt.Halt.{Halt}
use Rattle.imagesize_io.proofs.Filling.{filling_ends, filling_stops, one_read}
use Rattle.imagesize_io.proofs.reader.windowed.fill.Goals as goal

pub returns : goal.returns
returns g c = filling_ends (one_read c.in_ok-count-2.ensures.reads) (search rules) c.in_ok-rest.ensures

pub returns-in_err-rest : goal.returns-in_err-rest
returns-in_err-rest g c =
    let is : ◌≡◌ {A = Result ℕ Halt} c.from_residual-in_err-rest.result (Err c.in_err-rest.field-0.0) = search rules in
    rw is (filling_stops (one_read c.in_ok-count-2.ensures.reads) (search rules) c.in_err-rest.ensures)
