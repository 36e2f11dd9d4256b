-- TGA.
use Rattle.std.specs.Prelude.{ℕ, ◌-◌, ◌%◌, ◌/◌, Bool, true, false, ◌||◌, ◌&&◌, List, [], ◌∷◌, ◌++◌, codes, if◌then◌else◌, ◌==◌, nat_le, slice_index}
use Rattle.std.specs.List.{list_any}
use Rattle.std.specs.Str.{bytes_eq}
use Rattle.imagesize_types.specs.declared.size.ImageSize.{ImageSize}
use Rattle.imagesize_fixed.specs.Sides.{sides}
use Rattle.imagesize_source.specs.declared.endian.Endian.TheVariants.{Little}
use Rattle.imagesize_source.specs.Layout.{Layout, bytes}
use Rattle.imagesize_source.specs.Layout.Layout.{field, «done»}

-- whether the image type has pixels, and the colour map type is 0 or 1
unfoldable pub may_be_tga : List ℕ → Bool
may_be_tga head =
    list_any (λ image_type. slice_index head 2 == image_type) (1 ∷ 2 ∷ 3 ∷ 9 ∷ 10 ∷ 11 ∷ [])
    && nat_le (slice_index head 1) 1

-- whether the last 18 bytes of the file are the signature of a footer
unfoldable pub is_tga_footer : List ℕ → Bool
is_tga_footer footer = bytes_eq footer (codes "TRUEVISION-XFILE." ++ 0 ∷ [])

-- whether the image type needs a colour map and the file has none
unfoldable pub lacks_its_map : List ℕ → Bool
lacks_its_map head = (slice_index head 2 == 1 || slice_index head 2 == 9) && slice_index head 1 == 0

-- The offset and the length of the colour map, and the bits of its entries. All are zero without a colour map.
unfoldable pub is_map_sound : ℕ → List ℕ → ℕ → Bool
is_map_sound map_type map bits =
    if map_type == 0 then bytes_eq map (0 ∷ 0 ∷ 0 ∷ 0 ∷ []) && bits == 0
    else list_any (λ known. bits == known) (0 ∷ 8 ∷ 16 ∷ 24 ∷ 32 ∷ [])

-- The bits of a pixel, and how many of them are alpha. The pixels must not go from right to left.
unfoldable pub is_pixel_sound : ℕ → ℕ → Bool
is_pixel_sound bits descriptor =
    descriptor / 16 % 2 == 0
    && ((bits == 8 && descriptor % 16 == 0)
    || (bits == 16 && nat_le (descriptor % 16) 1)
    || (bits == 24 && descriptor % 16 == 0)
    || (bits == 32 && (descriptor % 16 == 0 || descriptor % 16 == 8)))

-- whether the whole header is one of a TGA, if there is no footer
abbrev pub tga_by_header : List ℕ → Layout Bool
tga_by_header head =
    bytes 3 4 (λ map. field Little 7 1 (λ map_bits.
    if is_map_sound (slice_index head 1) map map_bits
    then field Little 16 1 (λ bits. field Little 17 1 (λ descriptor. done (is_pixel_sound bits descriptor)))
    else done false))

-- whether an input of n bytes with this head is a TGA
unfoldable pub is_tga : ℕ → List ℕ → Layout Bool
is_tga n head =
    if may_be_tga head && nat_le 18 n
    then bytes (n - 18) 18 (λ footer.
    if is_tga_footer footer then done true
    else if lacks_its_map head then done false
    else tga_by_header head)
    else done false

-- the width, then the height
abbrev pub tga : Layout ImageSize
tga = sides Little 2 12 14
