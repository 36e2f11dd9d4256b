-- How many bytes a type and its size are read from.
use Rattle.std.proofs.Common.{ℕ, ◌+◌, ◌≤◌, List, length, Result, Ok, ◌≡◌, arith}
use Rattle.imagesize.proofs.Detection.{kind_cost, kind_at_most}
use Rattle.imagesize.proofs.Ways.{laws_of}
use Rattle.imagesize.specs.Counts.{cost, most_bytes, most_as, stated_bytes, stated_as}
use Rattle.imagesize.specs.Meaning.{kind_reads, meaning_reads, size_reads}
use Rattle.imagesize.specs.Types.{lasts, way_of}
use Rattle.imagesize.specs.Parted.{has_texts}
use Rattle.imagesize.specs.declared.types.ImageType.{ImageType}
use Rattle.imagesize_source.proofs.Costs.{bound_of}
use Rattle.imagesize_source.proofs.Runs.{total-append}
use Rattle.imagesize_source.proofs.Way.{cost_way}
use Rattle.imagesize_source.specs.Outcome.{stated}
use Rattle.imagesize_source.specs.Reading.{go_on}
use Rattle.imagesize_source.specs.State.{total}
use Rattle.imagesize_source.specs.declared.halt.Halt.{Halt}
use Rattle.imagesize_source.specs.declared.span.Span.{Span}

-- with its type, a size is read from at most the bytes of its format
size_most : (type : ImageType) (d : List ℕ)
    → kind_cost type + total (size_reads type d).marks ≤ most_as {E = Halt} (Ok type) d
size_most type d = cost_way (kind_cost type) (lasts type) (has_texts type) (way_of type) (laws_of type) d

onward_most : (spans : List Span) (r : Result ImageType Halt) (d : List ℕ) → total spans ≤ bound_of kind_cost 37 r
    → total (go_on spans r (λ found. size_reads found d)).marks ≤ most_as r d
onward_most spans r d few = grind (arith, total-append, size_most)

-- a type or none, whatever the error is
same_most : (r : Result ImageType Halt) (d : List ℕ) → most_as r d ≡ most_as (stated r) d
same_most r d = grind arith

pub cost_most : (d : List ℕ) (offset : ℕ) → cost d offset ≤ most_bytes d offset
unfolding meaning_reads
cost_most d offset = grind (arith, same_most, onward_most, kind_at_most)

-- these are at most 41 more than the input has
most_within : {E : Type 0} (r : Result ImageType E) (d : List ℕ) → most_as r d ≤ length d + 41
most_within r d = grind arith

pub cost_within : (d : List ℕ) (offset : ℕ) → cost d offset ≤ length d + 41
cost_within d offset = omega (arith, cost_most d offset, most_within (stated (kind_reads d offset).answer) d)

pub size_within : (type : ImageType) (d : List ℕ) → total (size_reads type d).marks ≤ length d + 41
size_within type d = omega (arith, size_most type d, most_within {E = Halt} (Ok type) d)

-- and at most the bytes that are stated
most_stated : {E : Type 0} (r : Result ImageType E) (d : List ℕ) → most_as r d ≤ stated_as r d
most_stated r d = grind arith

pub cost_stated : (d : List ℕ) (offset : ℕ) → cost d offset ≤ stated_bytes d offset
cost_stated d offset = omega (arith, cost_most d offset, most_stated (stated (kind_reads d offset).answer) d)

pub ruleset costs = (cost_most, cost_stated, cost_within)
