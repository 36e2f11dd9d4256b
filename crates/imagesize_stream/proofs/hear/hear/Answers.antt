use Rattle.std.proofs.Common.{◌<◌, length, arith}
use Rattle.imagesize_stream.proofs.Heads.{head_needed}
use Rattle.imagesize_stream.proofs.Hearing.{first_asked, rests_more, type_asked}
use Rattle.imagesize_stream.proofs.hear.hear.Goals as goal

pub returns-then-told-clause-hears : goal.returns-then-told-clause-hears
returns-then-told-clause-hears c =
    let bytes = c.args.bytes.now in let told = c.args.told in let few : length bytes < 12 = omega arith in
    let asked = first_asked bytes told 12 (λ d begins as_long. head_needed d (length bytes) few (omega (arith, as_long))) in record {
      few = omega (arith, few);
      ends = omega arith;
      rests = rests_more bytes told 12 asked;
      known = tt;
      typed = type_asked bytes told 12 (λ d begins as_long. head_needed d (length bytes) few (omega (arith, as_long)));
      between = λ _. asked;
    }
