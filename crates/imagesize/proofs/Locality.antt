-- What a type and its size see of an input.
use Rattle.std.proofs.Common.{◌≡◌, ℕ, Bool, true, false, List, ap}
use Rattle.imagesize.proofs.Detection.{kind_cost, kind_costs}
use Rattle.imagesize.proofs.Ways.{laws_of}
use Rattle.imagesize.specs.Kind.{kind}
use Rattle.imagesize.specs.Meaning.{kind_of, kind_reads, meaning, meaning_reads, size_reads}
use Rattle.imagesize.specs.Types.{lasts, way_of}
use Rattle.imagesize.specs.Parted.{has_texts}
use Rattle.imagesize.specs.declared.types.ImageType.{ImageType}
use Rattle.imagesize_source.proofs.Agreement.{alike_more, costed_texts, local_layout, local_then, local_length, same_by_local}
use Rattle.imagesize_source.proofs.Way.{local_way}
use Rattle.imagesize_source.specs.Agreement.{Agrees, IsLocal}
use Rattle.imagesize_source.specs.Layout.{layout_reads}
use Rattle.imagesize_source.specs.Outcome.{outcome_of}
use Rattle.imagesize_source.specs.Reading.{Reads}

-- the type sees an input by its marks
pub local_kind : (offset : ℕ) → IsLocal false (λ d. kind_reads d offset)
local_kind offset = local_length (λ n d. layout_reads d (kind n offset))
    (λ n. local_layout (kind n offset) (costed_texts false kind_cost 37 0 (kind n offset) (kind_costs n offset)))

-- and a size does
pub local_size : (type : ImageType) → IsLocal (has_texts type) (size_reads type)
local_size type = local_way (kind_cost type) (lasts type) (has_texts type) (way_of type) (laws_of type)

-- where no texts are read, none are among readings with them
widened : {X : Type 0} (texts : Bool) (r : List ℕ → Reads X) → IsLocal texts r → IsLocal true r
widened true r is = is
widened false r is = λ d e long. alike_more true d e (r d) (r e) (is d e long)

-- an input that agrees with another on its marks has the same type, the same size and the same marks
pub local_meaning : (offset : ℕ) → IsLocal true (λ d. meaning_reads d offset)
unfolding meaning_reads
local_meaning offset =
    local_then (λ d. kind_reads d offset) size_reads (widened false (λ d. kind_reads d offset) (local_kind offset))
    (λ type. widened (has_texts type) (size_reads type) (local_size type))

pub same_kind_of : (d : List ℕ) (offset : ℕ) (e : List ℕ) → Agrees d e (kind_of d offset).marks → kind_of e offset ≡ kind_of d offset
same_kind_of d offset e agrees = ap outcome_of (same_by_local (λ x. kind_reads x offset) (local_kind offset) d e agrees)

pub same_meaning : (d : List ℕ) (offset : ℕ) (e : List ℕ) → Agrees d e (meaning d offset).marks → meaning e offset ≡ meaning d offset
same_meaning d offset e agrees = ap outcome_of (same_by_local (λ x. meaning_reads x offset) (local_meaning offset) d e agrees)
