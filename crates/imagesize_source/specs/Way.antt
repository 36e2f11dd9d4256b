-- The ways in which formats store a size.
use Rattle.std.specs.Prelude.{ℕ, ◌+◌, ◌*◌, min, List, length}
use Rattle.imagesize_source.specs.Limits.{allowance, stated_beside, stated_fixed}
use Rattle.imagesize_source.specs.Layout.{Layout, layout_reads}
use Rattle.imagesize_source.specs.Reading.{Reads}

-- At fixed offsets, by at most so many bytes. In records, by at most `outside` bytes and `each` in each record; the
-- bound over all types has `stated` for a record. Or in texts of any length. The bytes of the type are among these.
pub data Way (X : Type 0) : Type 0 where
  Fixed : ℕ → Layout X → Way X
  Recorded : ℕ → ℕ → ℕ → (List ℕ → Reads X) → Way X
  Texts : (List ℕ → Reads X) → Way X

-- what an input says if it is read in this way
abbrev pub by_way : {X : Type 0} → Way X → List ℕ → Reads X
by_way (Fixed most layout) d = layout_reads d layout
by_way (Recorded outside each stated reads) d = reads d
by_way (Texts reads) d = reads d

-- the bound on the bytes that a type and its result are read from
abbrev pub stated_by : {X : Type 0} → Way X → List ℕ → ℕ
stated_by (Fixed most layout) d = stated_fixed
stated_by (Recorded outside each stated reads) d = stated_beside + stated * (reads d).begun
stated_by (Texts reads) d = length d + allowance

-- The bound for one format. For records and texts, it is at most 28 bytes above the length of the input.
abbrev pub most_by : {X : Type 0} → Way X → List ℕ → ℕ
most_by (Fixed most layout) d = most
most_by (Recorded outside each stated reads) d = min (length d + 28) (outside + each * (reads d).begun)
most_by (Texts reads) d = length d + 28
