-- The width and the height at fixed offsets.
use Rattle.std.specs.Prelude.{ℕ}
use Rattle.imagesize_types.specs.declared.size.ImageSize.{ImageSize}
use Rattle.imagesize_source.specs.declared.endian.Endian.{Endian}
use Rattle.imagesize_source.specs.Layout.{Layout}
use Rattle.imagesize_source.specs.Layout.Layout.{field, «done»}

-- the width at one offset, then the height at another, of k bytes each
abbrev pub sides : Endian → ℕ → ℕ → ℕ → Layout ImageSize
sides order k at_width at_height =
    field order at_width k (λ width. field order at_height k (λ height. done (record { width = width; height = height })))

-- the height at one offset, then the width at another, of k bytes each
abbrev pub height_first : Endian → ℕ → ℕ → ℕ → Layout ImageSize
height_first order k at_height at_width =
    field order at_height k (λ height. field order at_width k (λ width. done (record { width = width; height = height })))
