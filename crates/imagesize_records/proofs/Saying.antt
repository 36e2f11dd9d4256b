-- What the first bytes say of the first record.
use Rattle.std.proofs.Common.{◌≡◌, ℕ, Bool, List, Option, Some, None, refl, subst, arith}
use Rattle.imagesize.specs.Parted.{has_texts}
use Rattle.imagesize.specs.declared.types.ImageType.{ImageType}
use Rattle.imagesize.specs.declared.types.ImageType.TheVariants.{Jxl, Tiff}
use Rattle.imagesize_source.proofs.Saying.{Saying, saying_accept, saying_bind}
use Rattle.imagesize_source.proofs.Layouts.{bind_bind}
use Rattle.imagesize_source.specs.Layout.{bind}
use Rattle.imagesize_source.specs.Layout.Layout.{«done»}
use Rattle.imagesize_walked.specs.Tiff.{tiff_header}
use Rattle.imagesize_walked.specs.declared.formats.tiff.Directory.TheVariants.{Count}
use Rattle.imagesize_records.specs.declared.awaited.Awaited.TheVariants as awaited
use Rattle.imagesize_boxes.specs.Jxl.{jxl_start}
use Rattle.imagesize_records.specs.Steps.{IsSteady, is_text}
use Rattle.imagesize_records.specs.Streamed.{jxl_opened, opening, opens_at}
use Rattle.imagesize_records.specs.declared.opening.Opening.{Opening}
use Rattle.imagesize_records.specs.declared.opening.Opening.TheVariants as opened

-- the record that the first bytes tell stands well, and is a text if the format has texts
abbrev pub OpensSteady : Bool → Opening → Type 0
OpensSteady texts (opened.Size size) = Unit {0}
OpensSteady texts (opened.Records next offset) = IsSteady next offset × (is_text next ≡ texts)

ruleset steady = (arith, saying_bind, saying_accept)

jxl_steady : (found : Option (List ℕ)) → Saying (OpensSteady (has_texts Jxl)) (jxl_opened found)
jxl_steady (Some front) = search steady
jxl_steady None = (omega arith, refl)

pub opening_steady : (type : ImageType) → Saying (OpensSteady (has_texts type)) (opening type)
opening_steady Jxl = saying_bind (OpensSteady (has_texts Jxl)) jxl_start jxl_opened jxl_steady
opening_steady Tiff = subst (Saying (OpensSteady (has_texts Tiff)))
    (bind_bind tiff_header (λ header. done (record { records = Count header; offset = header.directory })) (opens_at awaited.Tiff))
    (saying_bind (OpensSteady (has_texts Tiff)) tiff_header
    (λ header. bind (done (record { records = Count header; offset = header.directory })) (opens_at awaited.Tiff))
    (λ header. (tt, refl)))
opening_steady type = search steady
