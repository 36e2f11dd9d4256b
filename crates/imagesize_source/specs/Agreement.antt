-- When two inputs differ nowhere in the bytes of some spans.
use Rattle.std.specs.Prelude.{◌≡◌, ℕ, ◌+◌, Bool, true, false, ◌&&◌, ◌||◌, ◌⊎◌, List, [], ◌∷◌, ◌++◌, length, slice_index, nat_le, nat_lt}
use Rattle.std.specs.List.{list_any}
use Rattle.imagesize_source.specs.declared.span.Span.{Span}
use Rattle.imagesize_source.specs.Layout.{Layout, done, refuse, field, reading, begin_record}
use Rattle.imagesize_source.specs.Reading.{Reads, Reading, AllOf, PartOf, TextOf}

-- whether the span contains the offset
abbrev pub has_offset : Span → ℕ → Bool
has_offset s offset = nat_le s.start offset && nat_lt offset (s.start + s.len)

-- whether one of the spans contains the offset
abbrev pub is_covered : List Span → ℕ → Bool
is_covered [] offset = false
is_covered (s ∷ spans) offset = has_offset s offset || is_covered spans offset

-- e has the length of d, and the same byte at each offset of each span
pub record Agrees (d e : List ℕ) (spans : List Span) : Type 0 where
  pub as_long : length e ≡ length d
  pub same_byte : (offset : ℕ) → is_covered spans offset ≡ true → slice_index e offset ≡ slice_index d offset

-- whether one of the spans contains the whole of this one
abbrev pub has_whole : List Span → Span → Bool
has_whole spans w = list_any (λ s. nat_le s.start w.start && nat_le (w.start + w.len) (s.start + s.len)) spans

-- one of the spans ends after the offset `low`, and not after `high`
abbrev pub EndsBetween : ℕ → ℕ → List Span → Type 0
EndsBetween low high spans = list_any (λ s. nat_lt low (s.start + s.len) && nat_le (s.start + s.len) high) spans ≡ true

-- Where two inputs part. Reads over both have the same spans (`seen`), then a span each from the same offset on. The
-- inputs differ at an offset of both. If no text is read, these two spans are equal.
pub record Parting (texts : Bool) (d e : List ℕ) (s t : List Span) : Type 0 where
  pub seen : List Span
  pub mark : Span
  pub other : Span
  pub rest : List Span
  pub others : List Span
  pub here : s ≡ seen ++ mark ∷ rest
  pub there : t ≡ seen ++ other ∷ others
  pub start : other.start ≡ mark.start
  pub same : texts ≡ false → other ≡ mark
  pub offset : ℕ
  pub within : has_offset mark offset ≡ true
  pub also : has_offset other offset ≡ true
  pub differs : slice_index e offset ≡ slice_index d offset → ⊥

-- the same result with the same spans, or the two inputs part
abbrev pub Alike : {X : Type 0} → Bool → List ℕ → List ℕ → Reads X → Reads X → Type 0
Alike texts d e p q = (q ≡ p) ⊎ Parting texts d e p.marks q.marks

-- Reads depend on the bytes in their spans alone. Over two inputs of one length, they have the same result and spans,
-- or the inputs part. `texts` says whether they read texts.
abbrev pub IsLocal : {X : Type 0} → Bool → (List ℕ → Reads X) → Type 0
IsLocal texts r = (d e : List ℕ) → length e ≡ length d → Alike texts d e (r d) (r e)

-- a text is read only if `texts` is true
abbrev pub IsRead : Bool → Reading → Type 0
IsRead texts (AllOf k) = Unit {0}
IsRead texts (PartOf k) = Unit {0}
IsRead texts (TextOf t k) = texts ≡ true

-- the same for all readings of a layout
abbrev pub AllRead : {X : Type 0} → Bool → Layout X → Type 0
AllRead texts (done x) = Unit {0}
AllRead texts (refuse e) = Unit {0}
AllRead texts (field order offset k f) = (v : ℕ) → AllRead texts (f v)
AllRead texts (reading r offset f) = IsRead texts r × ((bs : List ℕ) → AllRead texts (f bs))
AllRead texts (begin_record t) = AllRead texts t
