-- Sequences of records: each record holds a value and gives the offset of the next.
use Rattle.std.specs.Prelude.{◌≡◌, ℕ, zero, suc, ◌+◌, ◌<◌, List, [], ◌∷◌, ◌++◌, length, Option, None, Some, Result, Ok, Err, is_some, unwrap_or, option_and_then, flat_map}
use Rattle.std.specs.List.{position_or_len, range_with_len, sum_by}
use Rattle.std.specs.Option.{option_map_or}
use Rattle.imagesize_source.specs.declared.halt.Halt.{Halt}
use Rattle.imagesize_source.specs.declared.halt.Halt.TheVariants.{Ended}
use Rattle.imagesize_source.specs.declared.span.Span.{Span}
use Rattle.imagesize_source.specs.Layout.{Layout, layout_reads}
use Rattle.imagesize_source.specs.Reading.{Reads}

-- what a record says: the result of the sequence, or what the record holds and the offset of the next
pub data Said (C X : Type 0) : Type 0 where
  Decided : X → Said C X
  Next : C → ℕ → Said C X

-- The offset of the first record, and the layout of each record. That layout depends on what the records before it
-- hold, and on its offset.
pub record Chain (C X : Type 0) : Type 0 where
  pub first : ℕ
  pub said : List C → ℕ → Layout (Said C X)

-- a position in the sequence: what the records before it hold, and the offset of the next record
pub record Along (C : Type 0) : Type 0 where
  pub held : List C
  pub offset : ℕ

abbrev pub start : {C X : Type 0} → Chain C X → Along C
start c = record { held = []; offset = c.first }

-- what the next record says, with the spans of its reads
abbrev pub next_record : {C X : Type 0} → Chain C X → List ℕ → Along C → Reads (Said C X)
next_record c d t = layout_reads d (c.said t.held t.offset)

-- the position after a record, or `None` if the record decides or is rejected
abbrev pub leads : {C X : Type 0} → List C → Result (Said C X) Halt → Option (Along C)
leads held (Ok (Decided x)) = None
leads held (Ok (Next v offset)) = Some (record { held = held ++ v ∷ []; offset = offset })
leads held (Err e) = None

-- the verdict of a record: its result, or the `Halt` that rejects it
abbrev pub verdict : {C X : Type 0} → Result (Said C X) Halt → Option (Result X Halt)
verdict (Ok (Decided x)) = Some (Ok x)
verdict (Ok (Next v offset)) = None
verdict (Err e) = Some (Err e)

-- the position of record i, counted from position t; `None` after a verdict
abbrev pub trail : {C X : Type 0} → Chain C X → List ℕ → Along C → ℕ → Option (Along C)
trail c d t zero = Some t
trail c d t (suc i) = option_and_then (λ u. leads u.held (next_record c d u).answer) (trail c d t i)

-- the verdict of record i
abbrev pub verdict_of : {C X : Type 0} → Chain C X → List ℕ → Along C → ℕ → Option (Result X Halt)
verdict_of c d t i = option_and_then (λ u. verdict (next_record c d u).answer) (trail c d t i)

-- the spans that record i reads
abbrev pub marks_of : {C X : Type 0} → Chain C X → List ℕ → Along C → ℕ → List Span
marks_of c d t i = option_map_or (λ u. (next_record c d u).marks) (trail c d t i) []

-- how many records it begins: one, or none at the end of a counted list
abbrev pub begun_of : {C X : Type 0} → Chain C X → List ℕ → Along C → ℕ → ℕ
begun_of c d t i = option_map_or (λ u. (next_record c d u).begun) (trail c d t i) 0

-- the deciding record: the first that has a verdict
unfoldable pub deciding_record : {C X : Type 0} → Chain C X → List ℕ → Along C → ℕ
deciding_record c d t = position_or_len (λ i. is_some (verdict_of c d t i)) (range_with_len 0 (length d + 1))

-- how many records there are up to it
abbrev pub records_from : {C X : Type 0} → Chain C X → List ℕ → Along C → ℕ
records_from c d t = deciding_record c d t + 1

-- the verdict of the deciding record, with the spans of all records up to it, and how many of them are begun
unfoldable pub chain_from : {C X : Type 0} → Chain C X → List ℕ → Along C → Reads X
chain_from c d t = record {
  answer = unwrap_or (verdict_of c d t (deciding_record c d t)) (Err Ended);
  marks = flat_map (marks_of c d t) (range_with_len 0 (records_from c d t));
  begun = sum_by (begun_of c d t) (range_with_len 0 (records_from c d t));
}

abbrev pub chain_at : {C X : Type 0} → Chain C X → List ℕ → Reads X
chain_at c d = chain_from c d (start c)

-- each record's next offset is greater than its own, and each record past the end of the input has a verdict
abbrev pub Advances : {C X : Type 0} → Chain C X → List ℕ → Type 0
Advances {C} c d = (t : Along C) (v : C) (offset : ℕ) → (next_record c d t).answer ≡ Ok (Next v offset)
    → (t.offset < offset) × (t.offset < length d)
