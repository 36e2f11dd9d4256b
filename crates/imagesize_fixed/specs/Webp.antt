-- WebP.
use Rattle.std.specs.Prelude.{ℕ, Bool, List, codes, ◌+◌, ◌/◌, ◌%◌, ◌^◌, ◌&&◌, ◌==◌, if◌then◌else◌, slice_index}
use Rattle.imagesize_types.specs.Head.{begins, stands_at}
use Rattle.imagesize_types.specs.declared.size.ImageSize.{ImageSize}
use Rattle.imagesize_source.specs.declared.halt.Halt.TheVariants.{InvalidVp8Tag}
use Rattle.imagesize_source.specs.declared.endian.Endian.TheVariants.{Little}
use Rattle.imagesize_source.specs.Layout.{Layout, bytes}
use Rattle.imagesize_source.specs.Layout.Layout.{field, refuse, «done»}

-- whether the input is a RIFF form of type WEBP
unfoldable pub is_webp : List ℕ → Bool
is_webp head = begins (codes "RIFF") head && stands_at 8 (codes "WEBP") head

-- a lossy image: the width, then the height, in the low 14 bits of each number; the bits above hold the scaling
abbrev pub lossy_webp : Layout ImageSize
lossy_webp = field Little 26 2 (λ x. field Little 28 2 (λ y. done (record { width = x % 2 ^ 14; height = y % 2 ^ 14 })))

-- a lossless image: the width less one, then the height less one, of 14 bits each
abbrev pub lossless_webp : Layout ImageSize
lossless_webp = field Little 21 4 (λ x. done (record { width = x % 2 ^ 14 + 1; height = x / 2 ^ 14 % 2 ^ 14 + 1 }))

-- an extended image: the width less one, then the height less one, of its canvas
abbrev pub extended_webp : Layout ImageSize
extended_webp = field Little 24 3 (λ x. field Little 27 3 (λ y. done (record { width = x + 1; height = y + 1 })))

-- the form by the last byte of the first chunk's tag: a space, L or X
abbrev pub webp_form : ℕ → Layout ImageSize
webp_form letter =
    if letter == 0x20 then lossy_webp
    else if letter == 0x4C then lossless_webp
    else if letter == 0x58 then extended_webp
    else refuse InvalidVp8Tag

abbrev pub webp : Layout ImageSize
webp = bytes 12 4 (λ tag. webp_form (slice_index tag 3))
