-- A size stays, whatever bytes follow.
use Rattle.std.proofs.Common.{arith, ◌≡◌, ℕ, true, List, ◌++◌, Result, Ok, IfOk, IsTrue, sym, ap, ◌∙◌}
use Rattle.imagesize.proofs.Detection.{kind_cost, way_more}
use Rattle.imagesize.proofs.Ways.{laws_of}
use Rattle.imagesize.specs.Counts.{lasts_as}
use Rattle.imagesize.specs.Meaning.{kind_of, kind_reads, size_reads, meaning, meaning_reads}
use Rattle.imagesize.specs.Types.{lasts, way_of}
use Rattle.imagesize.specs.Parted.{has_texts}
use Rattle.imagesize_types.specs.declared.size.ImageSize.{ImageSize}
use Rattle.imagesize.specs.declared.types.ImageType.{ImageType}
use Rattle.imagesize_source.proofs.Way.{lasts_way}
use Rattle.imagesize_source.specs.Reading.{go_on}
use Rattle.imagesize_source.specs.Way.{by_way}
use Rattle.imagesize_source.specs.declared.error.ImageError.{ImageError}
use Rattle.imagesize_source.specs.declared.halt.Halt.{Halt}
use Rattle.imagesize_source.specs.Outcome.{stated}
use Rattle.imagesize_source.proofs.Halts.{stated_ok}

meaning_of : (d : List ℕ) (offset : ℕ) (type : ImageType) → (kind_reads d offset).answer ≡ Ok type
    → (meaning_reads d offset).answer
    ≡ (size_reads type d).answer
unfolding meaning_reads
meaning_of d offset type is = ap (λ r. (go_on (kind_reads d offset).marks r (λ found. size_reads found d)).answer) is

lasting_kind : (r : Result ImageType Halt) → lasts_as r ≡ true
    → (type : ImageType) × (r ≡ Ok type) × (lasts type ≡ true)
lasting_kind r stays = grind arith

-- a size of a type that lasts is that of the bytes and any that follow
meaning_more : (d x : List ℕ) (offset : ℕ) (size : ImageSize) → lasts_as (kind_reads d offset).answer ≡ true
    → (meaning_reads d offset).answer
    ≡ Ok size → (meaning_reads (d ++ x) offset).answer ≡ Ok size
meaning_more d x offset size stays is =
    let found = lasting_kind (kind_reads d offset).answer stays in
    let after = way_more d x offset found.0 found.1 found.2 in
    let sized : (size_reads found.0 d).answer ≡ Ok size = sym (meaning_of d offset found.0 found.1) ∙ is in
    meaning_of (d ++ x) offset after.0 after.1 ∙ ap (λ way. (by_way way (d ++ x)).answer) after.2
    ∙ lasts_way (kind_cost found.0) (lasts found.0) (has_texts found.0) (way_of found.0) found.2 (laws_of found.0)
    d x size sized

same_lasts : (r : Result ImageType Halt) → lasts_as (stated r) ≡ lasts_as r
same_lasts r = grind arith

pub size_lasts : (d : List ℕ) (offset : ℕ) (r : Result ImageSize ImageError) → r ≡ (meaning d offset).answer
    → IsTrue (lasts_as (kind_of d offset).answer)
    → IfOk r (λ size. (x : List ℕ) → (meaning (d ++ x) offset).answer ≡ Ok size)
size_lasts d offset r is stays = grind (arith, meaning_more, same_lasts, stated_ok)
