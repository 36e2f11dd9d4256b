-- What appended bytes cannot change.
use Rattle.std.specs.Prelude.{◌≡◌, ℕ, ◌<◌, false, List, ◌++◌, length, Ok}
use Rattle.imagesize_source.specs.Layout.{Layout, done, refuse, field, reading, begin_record}
use Rattle.imagesize_source.specs.Reading.{Reads, Reading, AllOf, PartOf, TextOf}
use Rattle.imagesize_source.specs.Text.{is_ended}

-- the layout returns an error, whatever its readings return
abbrev pub Never : {X : Type 0} → Layout X → Type 0
Never (done x) = ⊥
Never (refuse e) = Unit {0}
Never (field order offset k f) = (v : ℕ) → Never (f v)
Never (reading r offset f) = (bs : List ℕ) → Never (f bs)
Never (begin_record t) = Never t

-- Q, and P too if the input may have ended before the reading got all of its bytes
abbrev pub WhereCut : Reading → List ℕ → Type 0 → Type 0 → Type 0
WhereCut (AllOf k) bs P Q = Q
WhereCut (PartOf k) bs P Q = (length bs < k → P) × Q
WhereCut (TextOf t k) bs P Q = (is_ended t bs ≡ false → length bs < k → P) × Q

-- the layout never returns a value if the input ended within one of its readings
abbrev pub Plain : {X : Type 0} → Layout X → Type 0
Plain (done x) = Unit {0}
Plain (refuse e) = Unit {0}
Plain (field order offset k f) = (v : ℕ) → Plain (f v)
Plain (reading r offset f) = (bs : List ℕ) → WhereCut r bs (Never (f bs)) (Plain (f bs))
Plain (begin_record t) = Plain t

-- appended bytes change neither a value that was returned nor the spans that it depends on
abbrev pub Lasts : {X : Type 0} → (List ℕ → Reads X) → Type 0
Lasts {X} r = (d x : List ℕ) (v : X) → (r d).answer ≡ Ok v → r (d ++ x) ≡ r d
