-- PowerVR textures: what is read of them.
use Rattle.std.proofs.Common.{List, ℕ, Option, None, Some, arith}
use Rattle.imagesize_fixed.specs.Pvrtc.{is_pvr3, pvr2, pvr3, pvrtc, pvrtc_compression, pvrtc_compression_by}
use Rattle.imagesize_source.proofs.Runs.{missed_before, steps}
use Rattle.imagesize_source.specs.Counts.{AtMost}
use Rattle.imagesize_source.specs.Extension.{Plain}
use Rattle.imagesize_source.specs.Layout.{whole}
use Rattle.imagesize_source.proofs.Always.{CompressionLaws}
use Rattle.imagesize_source.proofs.Tests.{on_test}
use Rattle.imagesize_source.proofs.Way.{FixedLaws}

by_tag : (tag : Option (List ℕ)) → CompressionLaws 8 (pvrtc_compression_by tag)
by_tag None = record { few = tt; answers = tt }
by_tag (Some tag) =
    on_test (CompressionLaws 8) (is_pvr3 tag) _ _ (λ _. record { few = (omega arith, λ _. tt); answers = λ _. tt })
    (λ _. record { few = tt; answers = tt })

pub pvrtc_compression_laws : CompressionLaws 12 pvrtc_compression
unfolding pvrtc_compression
pvrtc_compression_laws =
    record { few = (omega arith, λ bs. (by_tag (whole 4 bs)).few); answers = λ bs. (by_tag (whole 4 bs)).answers }

pub pvrtc_laws : FixedLaws 24 36 pvrtc
pvrtc_laws = record {
  fits = omega arith;
  few = (
    omega arith,
    λ tag. on_test (AtMost 8) (is_pvr3 tag) pvr3 pvr2 (λ _. (omega arith, λ _. (omega arith, λ _. tt)))
        (λ _. (omega arith, λ _. (omega arith, λ _. tt))),
  );
  plain = λ tag. on_test Plain (is_pvr3 tag) pvr3 pvr2 (λ _ _ _. tt) (λ _ _ _. tt);
}

-- what proves the function that reads its compression
pub ruleset pvrtc_steps = (steps, missed_before)
