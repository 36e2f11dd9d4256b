-- ATC textures: what is read of them.
use Rattle.std.proofs.Common.{arith, rules}
use Rattle.imagesize_fixed.specs.Atc.{atc, atc_compression, is_atc}
use Rattle.imagesize_fixed.specs.Dds.{dds, is_dds}
use Rattle.imagesize_fixed.specs.Pkm.{pkm}
use Rattle.imagesize_fixed.specs.Pvrtc.{pvr2}
use Rattle.imagesize_source.specs.Counts.{AtMost}
use Rattle.imagesize_source.specs.Extension.{Plain}
use Rattle.imagesize_source.proofs.Always.{CompressionLaws}
use Rattle.imagesize_source.proofs.Tests.{on_test}
use Rattle.imagesize_source.proofs.Way.{FixedLaws}

pub atc_compression_laws : CompressionLaws 8 atc_compression
unfolding atc_compression
atc_compression_laws = record { few = (omega arith, λ _. tt); answers = λ _. tt }

-- with the compression, 40 bytes
pub atc_laws : FixedLaws 20 40 atc
atc_laws = record {
  fits = omega arith;
  few = (
    omega arith,
    λ tag. on_test (AtMost 16) (is_dds tag) dds _ (λ _. search rules)
        (λ _. (omega arith, λ head. on_test (AtMost 8) (is_atc head) pkm pvr2 (λ _. search rules) (λ _. search rules))),
  );
  plain = λ tag. on_test Plain (is_dds tag) dds _ (λ _. search rules)
      (λ _ head. on_test Plain (is_atc head) pkm pvr2 (λ _. search rules) (λ _. search rules));
}
