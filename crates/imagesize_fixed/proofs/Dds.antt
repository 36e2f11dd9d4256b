-- DirectDraw surfaces: what is read of them.
use Rattle.std.proofs.Common.{List, ℕ, [], ◌∷◌, Option, None, Some, codes, arith}
use Rattle.std.specs.Str.{bytes_eq}
use Rattle.imagesize_fixed.specs.Dds.{dds_compression, dds_compression_by}
use Rattle.imagesize_source.proofs.Runs.{missed_before, steps}
use Rattle.imagesize_source.specs.Layout.{whole}
use Rattle.imagesize_source.proofs.Always.{CompressionLaws}
use Rattle.imagesize_source.proofs.Tests.{on_test}

by_code : (code : Option (List ℕ)) → CompressionLaws 4 (dds_compression_by code)
by_code None = record { few = tt; answers = tt }
by_code (Some code) =
    on_test (CompressionLaws 4) (bytes_eq code (codes "DX10")) _ _
    (λ _. record { few = (omega arith, λ _. tt); answers = λ _. tt })
    (λ _. on_test (CompressionLaws 4) (bytes_eq code (0 ∷ 0 ∷ 0 ∷ 0 ∷ [])) _ _
    (λ _. record { few = (omega arith, λ _. tt); answers = λ _. tt })
    (λ _. record { few = tt; answers = tt }))

pub dds_compression_laws : CompressionLaws 8 dds_compression
unfolding dds_compression
dds_compression_laws =
    record { few = (omega arith, λ bs. (by_code (whole 4 bs)).few); answers = λ bs. (by_code (whole 4 bs)).answers }

-- what proves the function that reads its compression
pub ruleset dds_steps = (steps, missed_before)
