-- What the first read of a layout requests.
use Rattle.std.specs.Prelude.{◌≡◌, ℕ}
use Rattle.imagesize_source.specs.Layout.{Layout, begin_record, field, reading}
use Rattle.imagesize_source.specs.Reading.{AllOf, PartOf, TextOf}
use Rattle.imagesize_source.specs.declared.text.Text.{Text}

-- the first read of the layout requests n bytes from an offset on, and no text
abbrev pub ReadsFirst : {X : Type 0} → ℕ → ℕ → Layout X → Type 0
ReadsFirst offset n (field order p k f) = (p ≡ offset) × (k ≡ n)
ReadsFirst offset n (reading (AllOf k) p f) = (p ≡ offset) × (k ≡ n)
ReadsFirst offset n (reading (PartOf k) p f) = (p ≡ offset) × (k ≡ n)
ReadsFirst offset n (begin_record t) = ReadsFirst offset n t
ReadsFirst offset n _ = ⊥

-- the first read of the layout is this text, of at most n bytes, at an offset
abbrev pub ReadsText : {X : Type 0} → ℕ → Text → ℕ → Layout X → Type 0
ReadsText offset text n (reading (TextOf t k) p f) = (p ≡ offset) × ((t ≡ text) × (k ≡ n))
ReadsText offset text n (begin_record t) = ReadsText offset text n t
ReadsText offset text n _ = ⊥
