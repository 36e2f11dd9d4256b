-- The size of an image on a page.
use Rattle.std.specs.Prelude.{ℕ, ◌*◌, Result, Ok, Err}
use Rattle.std.specs.Int.{div_ceil}
use Rattle.imagesize_source.specs.declared.error.ImageError.{ImageError}
use Rattle.imagesize_types.specs.declared.size.ImageSize.{ImageSize}
use Rattle.imagesize_uses.specs.declared.document.PageSize.{PageSize}

-- the smallest whole number of points that these pixels need, at 72 points per inch
abbrev pub points_of : ℕ → ℕ → ℕ
points_of pixels_per_inch pixels = div_ceil (pixels * 72) pixels_per_inch

abbrev pub page_size_of : ℕ → ImageSize → PageSize
page_size_of pixels_per_inch size = record {
  width = points_of pixels_per_inch size.width;
  height = points_of pixels_per_inch size.height;
}

-- the size on the page, if the image has a size
abbrev pub on_page : ℕ → Result ImageSize ImageError → Result PageSize ImageError
on_page pixels_per_inch (Ok size) = Ok (page_size_of pixels_per_inch size)
on_page pixels_per_inch (Err e) = Err e
