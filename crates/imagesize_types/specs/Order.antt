-- The order of sizes.
use Rattle.std.specs.Prelude.{ℕ, ◌*◌, ◌≡◌, ◌<◌, ◌⊎◌}
use Rattle.std.specs.declared.cmp.Ordering.{Ordering}
use Rattle.std.specs.Ordering.{nat_cmp, on, then_cmp}
use Rattle.imagesize_types.specs.declared.size.ImageSize.{ImageSize}

-- the area of a size in pixels
abbrev pub area_of : ImageSize → ℕ
area_of size = size.width * size.height

-- the order by area, then by width, then by height
abbrev pub size_cmp : ImageSize → ImageSize → Ordering
size_cmp = then_cmp (then_cmp (on area_of nat_cmp) (on (λ size. size.width) nat_cmp)) (on (λ size. size.height) nat_cmp)

-- the first size has a smaller area, or the same area and a smaller width, or the same area and width and a smaller
-- height
abbrev pub IsBelow : ImageSize → ImageSize → Type 0
IsBelow a b = (area_of a < area_of b) ⊎ ((area_of a ≡ area_of b) × ((a.width < b.width) ⊎ ((a.width ≡ b.width) × (a.height < b.height))))
