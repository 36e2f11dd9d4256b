-- The sizes of greatest area in a list.
use Rattle.std.specs.Prelude.{ℕ, max, ◌==◌, nat_le, if◌then◌else◌, List, map, fold, filter, Option, None, Some, slice_get}
use Rattle.std.specs.List.{last_or}
use Rattle.imagesize_types.specs.Order.{area_of}
use Rattle.imagesize_types.specs.declared.size.ImageSize.{ImageSize}

-- the greatest area, or 0 if there is no size
abbrev pub greatest_area : List ImageSize → ℕ
greatest_area sizes = fold max 0 (map area_of sizes)

-- the sizes of greatest area
abbrev pub largest_of : List ImageSize → List ImageSize
largest_of sizes = filter (λ size. area_of size == greatest_area sizes) sizes

-- the first size of greatest area
abbrev pub first_largest : List ImageSize → Option ImageSize
first_largest sizes = slice_get (largest_of sizes) 0

-- the last size of greatest area
abbrev pub last_largest : List ImageSize → Option ImageSize
last_largest sizes = last_or None (largest_of sizes)

-- the area of a size, or 0 if there is none
abbrev pub area_if_some : Option ImageSize → ℕ
area_if_some None = 0
area_if_some (Some size) = area_of size

-- the size of greater area, or the second of two equal ones
abbrev pub later_largest : Option ImageSize → ImageSize → Option ImageSize
later_largest first second = if nat_le (area_if_some first) (area_of second) then Some second else first
