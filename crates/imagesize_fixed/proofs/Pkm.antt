-- PKM files: what is read of them.
use Rattle.std.proofs.Common.{arith, rules}
use Rattle.imagesize_fixed.specs.Pkm.{pkm, pkm_compression}
use Rattle.imagesize_source.proofs.Numbers.{big_2}
use Rattle.imagesize_source.proofs.Runs.{steps}
use Rattle.imagesize_source.proofs.Always.{CompressionLaws}
use Rattle.imagesize_source.proofs.Way.{FixedLaws}

pub pkm_compression_laws : CompressionLaws 2 pkm_compression
unfolding pkm_compression
pkm_compression_laws = record { few = (omega arith, λ _. tt); answers = λ _. tt }

pub pkm_laws : FixedLaws 14 41 pkm
pkm_laws = record { fits = omega arith; few = search rules; plain = search rules }

-- what proves the function that reads its compression
pub ruleset pkm_steps = (steps, big_2)
