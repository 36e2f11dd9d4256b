-- What a query tells in a number.
use Rattle.std.proofs.Common.{◌≡◌, Bool, true, false, Option, Some, refl, sym, ap}
use Rattle.std.specs.Prelude.{IsTrue, ◌↔◌}
use Rattle.imagesize.specs.declared.types.CompressionFamily.{CompressionFamily}
use Rattle.imagesize.specs.declared.types.CompressionFamily.TheVariants as family
use Rattle.imagesize_c.specs.Told.{is_block}

-- a test for the block compressions
pub block_bit : (b : Bool) (f : Option CompressionFamily) → IsTrue b ↔ (f ≡ Some family.BlockCompression)
    → b ≡ is_block f
block_bit true f h = sym (ap is_block (h.0 refl))
block_bit false (Some family.BlockCompression) h = absurd (let no : false ≡ true = h.1 refl in cc)
block_bit false _ h = refl
