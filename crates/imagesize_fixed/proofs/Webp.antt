-- WebP: what is read of it.
use Rattle.std.proofs.Common.{ℕ, eqb, slice_index, arith}
use Rattle.imagesize_fixed.specs.Webp.{webp, webp_form, lossy_webp, lossless_webp, extended_webp}
use Rattle.imagesize_types.specs.declared.size.ImageSize.{ImageSize}
use Rattle.imagesize_source.specs.declared.halt.Halt.TheVariants.{InvalidVp8Tag}
use Rattle.imagesize_source.specs.Counts.{AtMost}
use Rattle.imagesize_source.specs.Extension.{Plain}
use Rattle.imagesize_source.specs.Layout.{Layout}
use Rattle.imagesize_source.specs.Layout.Layout.{refuse}
use Rattle.imagesize_source.proofs.Tests.{on_test}
use Rattle.imagesize_source.proofs.Way.{FixedLaws}

-- what holds of each form
by_form : (P : Layout ImageSize → Type 0) (letter : ℕ) → P lossy_webp → P lossless_webp → P extended_webp
    → P (refuse InvalidVp8Tag) → P (webp_form letter)
by_form P letter lossy lossless extended none =
    on_test P (eqb letter 0x20) lossy_webp _ (λ _. lossy)
    (λ _. on_test P (eqb letter 0x4C) lossless_webp _ (λ _. lossless)
    (λ _. on_test P (eqb letter 0x58) extended_webp _ (λ _. extended) (λ _. none)))

pub webp_laws : FixedLaws 12 41 webp
webp_laws = record {
  fits = omega arith;
  few = (
    omega arith,
    λ tag. by_form (AtMost 25) (slice_index tag 3) (omega arith, λ x. (omega arith, λ y. tt)) (omega arith, λ x. tt)
        (omega arith, λ x. (omega arith, λ y. tt)) tt,
  );
  plain = λ tag. by_form Plain (slice_index tag 3) (λ x y. tt) (λ x. tt) (λ x y. tt) tt;
}
