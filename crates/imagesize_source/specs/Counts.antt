-- How many bytes are read, and how many offsets the reads cover.
use Rattle.std.specs.Prelude.{ℕ, ◌+◌, ◌-◌, ◌≤◌, List, count_by}
use Rattle.std.specs.List.{range_with_len}
use Rattle.imagesize_source.specs.declared.span.Span.{Span}
use Rattle.imagesize_source.specs.Agreement.{is_covered}
use Rattle.imagesize_source.specs.Layout.{Layout, done, refuse, field, reading, begin_record}
use Rattle.imagesize_source.specs.Reading.{Reading, AllOf, PartOf, TextOf, most}

-- how many of the first n offsets the spans cover, each counted once
abbrev pub offsets : ℕ → List Span → ℕ
offsets n spans = count_by (is_covered spans) (range_with_len 0 n)

-- P for a reading of bytes; false for a reading of a text
abbrev pub IfBytes : Reading → Type 0 → Type 0
IfBytes (AllOf k) P = P
IfBytes (PartOf k) P = P
IfBytes (TextOf t k) P = ⊥

-- the layout requests at most k bytes in all and no text, whatever its readings return
abbrev pub AtMost : {X : Type 0} → ℕ → Layout X → Type 0
AtMost k (done x) = Unit {0}
AtMost k (refuse e) = Unit {0}
AtMost k (field order offset n f) = (n ≤ k) × ((v : ℕ) → AtMost (k - n) (f v))
AtMost k (reading r offset f) = IfBytes r ((most r ≤ k) × ((bs : List ℕ) → AtMost (k - most r) (f bs)))
AtMost k (begin_record t) = AtMost k t

-- the layout begins a record and requests at most k bytes and no text, or it begins none and requests nothing
abbrev pub Each : {X : Type 0} → ℕ → Layout X → Type 0
Each k (begin_record t) = AtMost k t
Each k t = AtMost 0 t

-- P must hold if the reading fails, and Q if it succeeds; false for a text
abbrev pub IfRefused : Reading → Type 0 → Type 0 → Type 0
IfRefused (AllOf k) P Q = P × Q
IfRefused (PartOf k) P Q = Q
IfRefused (TextOf t k) P Q = ⊥

-- After u bytes, the layout requests at most f x bytes in all if it returns x, and at most e for an error. It
-- requests no text.
abbrev pub CostsBy : {X : Type 0} → (X → ℕ) → ℕ → ℕ → Layout X → Type 0
CostsBy f e u (done x) = u ≤ f x
CostsBy f e u (refuse r) = u ≤ e
CostsBy f e u (field order offset n g) = (u + n ≤ e) × ((v : ℕ) → CostsBy f e (u + n) (g v))
CostsBy f e u (reading r offset g) = IfRefused r (u + most r ≤ e) ((bs : List ℕ) → CostsBy f e (u + most r) (g bs))
CostsBy f e u (begin_record t) = CostsBy f e u t
