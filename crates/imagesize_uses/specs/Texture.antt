-- Textures that can be loaded.
use Rattle.std.specs.Prelude.{◌≡◌, ◌≢◌, ◌⊎◌, ℕ, ◌≤◌, List, Some, Ok, Err, IsTrue, IsOkAnd}
use Rattle.std.specs.Int.{is_power_of_two}
use Rattle.imagesize.specs.Meaning.{kind_of, meaning}
use Rattle.imagesize.specs.Queries.{family_of}
use Rattle.imagesize.specs.declared.types.CompressionFamily.{CompressionFamily}
use Rattle.imagesize_types.specs.declared.size.ImageSize.{ImageSize}
use Rattle.imagesize_uses.specs.declared.texture.Flaw.{Flaw}
use Rattle.imagesize_uses.specs.declared.texture.Flaw.TheVariants.{NoImage, OtherCompression, Sides}

-- the width and the height are powers of two, of at most `most` pixels
pub record HasSides (most : ℕ) (size : ImageSize) : Type 0 where
  pub width : IsTrue (is_power_of_two size.width) × (size.width ≤ most)
  pub height : IsTrue (is_power_of_two size.height) × (size.height ≤ most)

-- the bytes are a texture of this family and this size, with such a width and height
pub record IsTexture (d : List ℕ) (family : CompressionFamily) (most : ℕ) (found : ImageSize) : Type 0 where
  pub compression : IsOkAnd (kind_of d 0).answer (λ type. family_of type ≡ Some family)
  pub size : (meaning d 0).answer ≡ Ok found
  pub sides : HasSides most found

-- A flaw is right: there is no type or no size for this reason, the compression is another, or a side is not as
-- required.
abbrev pub IsFlaw : List ℕ → CompressionFamily → ℕ → Flaw → Type 0
IsFlaw d family most (NoImage e) = ((kind_of d 0).answer ≡ Err e) ⊎ ((meaning d 0).answer ≡ Err e)
IsFlaw d family most (OtherCompression type) = ((kind_of d 0).answer ≡ Ok type) × (family_of type ≢ Some family)
IsFlaw d family most (Sides size) = ((meaning d 0).answer ≡ Ok size) × (HasSides most size → ⊥)
