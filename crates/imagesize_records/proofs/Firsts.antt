-- What the first bytes of an image tell of it.
use Rattle.std.proofs.Common.{◌≡◌, ℕ, List, length, Option, None, Some, refl, sym, ap, ◌∙◌, arith}
use Rattle.imagesize.specs.Kind.{first_row, kind_by, with_compression}
use Rattle.imagesize.specs.Meaning.{kind_reads}
use Rattle.imagesize_records.specs.Streamed.{first_by, first_layout, type_behind}
use Rattle.imagesize.specs.Types.{rows}
use Rattle.imagesize_records.specs.declared.opening.First.TheVariants as first
use Rattle.imagesize.specs.declared.types.ImageType.{ImageType}
use Rattle.imagesize_fixed.specs.Tga.{is_tga}
use Rattle.imagesize_source.specs.Input.{span_of}
use Rattle.imagesize_source.specs.Layout.{layout_reads}
use Rattle.imagesize_source.specs.Layout.Layout.{«done»}
use Rattle.imagesize_source.specs.Reading.{Reads, and_then, bytes_at, gives}
use Rattle.imagesize_source.proofs.Layouts.{onward-and_then, over-bind, then_alike, then_gives, then_then}

-- an answer that is looked at from outside
pub seen_from : {X Y : Type 0} (r : Reads X) (f : X → Y) (rest : Y → Reads X) → ((x : X) → rest (f x) ≡ gives x)
    → r ≡ and_then (and_then r (λ x. gives (f x))) rest
seen_from r f rest back =
    sym (then_gives r) ∙ then_alike r gives (λ x. rest (f x)) (λ x _. sym (back x))
    ∙ then_then r (λ x. gives (f x)) rest (λ x. rest (f x)) (λ x. refl)

by_none : (d head : List ℕ)
    → layout_reads d (kind_by (length d) 0 head None) ≡ and_then (layout_reads d (first_by head None)) (type_behind d)
unfolding is_tga
by_none d head = grind arith

by_row : (d head : List ℕ) (row : Option ImageType)
    → layout_reads d (kind_by (length d) 0 head row) ≡ and_then (layout_reads d (first_by head row)) (type_behind d)
by_row d head (Some found) =
    seen_from (layout_reads d (with_compression 0 head found)) (λ type. first.Type type) (type_behind d) (λ type. refl)
    ∙ ap (λ r. and_then r (type_behind d))
    (sym (over-bind d (with_compression 0 head found) (λ type. done (first.Type type))))
by_row d head None = by_none d head

-- the type of an input is what its first bytes say, and what goes on from there
pub type_by_first : (d : List ℕ) → kind_reads d 0 ≡ and_then (layout_reads d first_layout) (type_behind d)
type_by_first d = onward-and_then (span_of d 0 12) (bytes_at d 0 12)
    (λ head. layout_reads d (first_by head (first_row rows head))) (type_behind d)
    (λ head. layout_reads d (kind_by (length d) 0 head (first_row rows head)))
    (λ head. by_row d head (first_row rows head))
