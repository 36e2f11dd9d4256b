-- Two sides at fixed offsets: what is read of them.
use Rattle.std.proofs.Common.{ℕ, ◌+◌, ◌≤◌, arith}
use Rattle.imagesize_fixed.specs.Sides.{height_first, sides}
use Rattle.imagesize_source.specs.declared.endian.Endian.{Endian}
use Rattle.imagesize_source.proofs.Way.{FixedLaws}

pub sides_laws : {first most : ℕ} {order : Endian} {k at_width at_height : ℕ} → first + (k + k) ≤ most
    → FixedLaws first most (sides order k at_width at_height)
sides_laws few = record {
  fits = omega (arith, few);
  few = (omega (arith, few), λ width. (omega (arith, few), λ height. tt));
  plain =
      λ width height. tt;
}

pub height_first_laws : {first most : ℕ} {order : Endian} {k at_height at_width : ℕ} → first + (k + k) ≤ most
    → FixedLaws first most (height_first order k at_height at_width)
height_first_laws few = record {
  fits = omega (arith, few);
  few = (omega (arith, few), λ height. (omega (arith, few), λ width. tt));
  plain =
      λ height width. tt;
}
