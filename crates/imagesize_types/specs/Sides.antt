-- The width and the height of an image.
use Rattle.std.specs.Prelude.{ℕ, Bool, if◌then◌else◌, Option, None, Some}
use Rattle.imagesize_types.specs.declared.size.ImageSize.{ImageSize}

-- the size, if both the width and the height are known
abbrev pub size_if_known : Option ℕ → Option ℕ → Option ImageSize
size_if_known (Some width) (Some height) = Some (record { width = width; height = height })
size_if_known _ _ = None

-- the size, with the width and the height exchanged if the image is turned by a quarter
abbrev pub exchange_if : Bool → ImageSize → ImageSize
exchange_if turned size = if turned then record { width = size.height; height = size.width } else size
