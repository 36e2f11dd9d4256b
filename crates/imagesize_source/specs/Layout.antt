-- Layouts: the readings that a result depends on, as a tree.
use Rattle.std.specs.Prelude.{ℕ, Bool, true, false, List, length, nat_le, if◌then◌else◌, Option, None, Some, Result, Ok, Err}
use Rattle.imagesize_source.specs.declared.halt.Halt.{Halt}
use Rattle.imagesize_source.specs.declared.text.Text.{Text}
use Rattle.imagesize_source.specs.declared.endian.Endian.{Endian}
use Rattle.imagesize_source.specs.Reading.{Reads, Reading, AllOf, PartOf, TextOf, after_records, gives, refuses, and_then, number_read, read_of}

-- A layout sees the input through its readings only: a number of k bytes at an offset, or another reading there. It
-- also says where a record begins.
pub data Layout (X : Type 0) : Type 0 where
  done : X → Layout X
  refuse : Halt → Layout X
  field : Endian → ℕ → ℕ → (ℕ → Layout X) → Layout X
  reading : Reading → ℕ → (List ℕ → Layout X) → Layout X
  begin_record : Layout X → Layout X

-- the next k bytes from an offset on; an error if the input ends earlier
abbrev pub bytes : {X : Type 0} → ℕ → ℕ → (List ℕ → Layout X) → Layout X
bytes offset k f = reading (AllOf k) offset f

-- at most k bytes from an offset on, as many as the input has
abbrev pub bytes_there : {X : Type 0} → ℕ → ℕ → (List ℕ → Layout X) → Layout X
bytes_there offset k f = reading (PartOf k) offset f

-- a text of at most k bytes
abbrev pub text : {X : Type 0} → Text → ℕ → ℕ → (List ℕ → Layout X) → Layout X
text t offset k f = reading (TextOf t k) offset f

-- what a layout says about an input
abbrev pub layout_reads : {X : Type 0} → List ℕ → Layout X → Reads X
layout_reads d (done x) = gives x
layout_reads d (refuse e) = refuses e
layout_reads d (field order offset k f) = and_then (number_read d order offset k) (λ v. layout_reads d (f v))
layout_reads d (reading r offset f) = and_then (read_of d r offset) (λ bs. layout_reads d (f bs))
layout_reads d (begin_record t) = after_records 1 (layout_reads d t)

-- a layout, then another that depends on its result
abbrev pub bind : {X Y : Type 0} → Layout X → (X → Layout Y) → Layout Y
bind (done x) g = g x
bind (refuse e) g = refuse e
bind (field order offset k f) g = field order offset k (λ v. bind (f v) g)
bind (reading r offset f) g = reading r offset (λ bs. bind (f bs) g)
bind (begin_record t) g = begin_record (bind t g)

-- the layout for a value; an error ends it
abbrev pub accept : {X Y : Type 0} → Result X Halt → (X → Layout Y) → Layout Y
accept (Ok x) f = f x
accept (Err e) f = refuse e

-- the bytes if there are all k of them, else `None`
abbrev pub whole : ℕ → List ℕ → Option (List ℕ)
whole k bs = if nat_le k (length bs) then Some bs else None

-- k bytes from an offset on, or `None` if the input ends before the last of them
abbrev pub if_there : {X : Type 0} → ℕ → ℕ → (Option (List ℕ) → Layout X) → Layout X
if_there offset k f = bytes_there offset k (λ bs. f (whole k bs))

-- the bytes if the condition is true, else `None`
abbrev pub some_where : List ℕ → Bool → Option (List ℕ)
some_where bs true = Some bs
some_where bs false = None
