-- How a chain is seen to advance: by the layouts of its records.
use Rattle.std.proofs.Common.{◌≡◌, ℕ, ◌<◌, ◌≤◌, List, [], ◌∷◌, length, Option, None, Some, Result, Ok, Err, refl, sym, ap, ◌∙◌, arith}
use Rattle.std.specs.List.{last_or}
use Rattle.imagesize_source.specs.declared.halt.Halt.{Halt}
use Rattle.imagesize_source.specs.Chain.{Said, Decided, Next, Chain, Advances}
use Rattle.imagesize_source.specs.Layout.{Layout, accept, bind, done, refuse, field, reading, begin_record, layout_reads}
use Rattle.imagesize_source.specs.Reading.{Reading, AllOf, PartOf, TextOf, read_of}
use Rattle.imagesize_source.specs.Walk.{CanFollow, Step, decides, said_from, states}
use Rattle.imagesize_source.proofs.Extension.{bytes_ok, number_ok, onward_ok}
use Rattle.imagesize_source.proofs.Runs.{part_is}
use Rattle.imagesize_source.proofs.Counts.{text_length}
use Rattle.imagesize_source.proofs.Parts.{part_length}

-- whatever its readings answer, each next offset that the layout tells has the property
abbrev pub Tells : {C X : Type 0} → (ℕ → Type 0) → Layout (Said C X) → Type 0
Tells P (done (Decided x)) = Unit {0}
Tells P (done (Next v offset)) = P offset
Tells P (refuse e) = Unit {0}
Tells P (field order offset k f) = (v : ℕ) → Tells P (f v)
Tells P (reading r offset f) = (bs : List ℕ) → Tells P (f bs)
Tells P (begin_record t) = Tells P t

-- the reading gives some byte, or P
abbrev pub OrSome : Reading → Type 0 → Type 0
OrSome (AllOf k) P = 0 < k
OrSome (PartOf k) P = P
OrSome (TextOf t k) P = P

-- the layout tells no next offset unless it has first read a byte at the offset or behind it
abbrev pub Begins : {C X : Type 0} → ℕ → Layout (Said C X) → Type 0
Begins q (done (Decided x)) = Unit {0}
Begins q (done (Next v offset)) = ⊥
Begins q (refuse e) = Unit {0}
Begins q (field order offset k f) = (q ≤ offset) × (0 < k)
Begins q (reading r offset f) = (q ≤ offset) × OrSome r (Tells (λ _. ⊥) (f []))
Begins q (begin_record t) = Begins q t

pub tells : {C X : Type 0} (P : ℕ → Type 0) (d : List ℕ) (t : Layout (Said C X)) (v : C) (q : ℕ) → Tells P t
    → (layout_reads d t).answer ≡ Ok (Next v q) → P q
tells P d (field order offset k f) v q h is = onward_ok (P q) _ _ _ (Next v q) is (λ n _ got. tells P d (f n) v q (h n) got)
tells P d (reading r offset f) v q h is = onward_ok (P q) _ _ _ (Next v q) is (λ bs _ got. tells P d (f bs) v q (h bs) got)
tells P d (begin_record t) v q h is = tells P d t v q h is
tells P d _ v q h is = grind arith

-- where a reading gives a byte, there was one
some_byte : {P : Type 0} (d : List ℕ) (r : Reading) (offset : ℕ) (bs : List ℕ) → OrSome r P → (bs ≡ [] → P → ⊥)
    → (read_of d r offset).answer ≡ Ok bs → offset < length d
some_byte d (AllOf k) offset bs h none is = let all = bytes_ok d bs offset k is in omega arith
some_byte d (PartOf k) offset [] h none is = absurd (none refl h)
some_byte d (PartOf k) offset (b ∷ bs) h none is = omega (arith, part_length d offset k, ap length (part_is is))
some_byte d (TextOf t k) offset [] h none is = absurd (none refl h)
some_byte d (TextOf t k) offset (b ∷ bs) h none is =
    omega (arith, text_length d t offset k, part_length d offset k, ap length (part_is is))

-- where a layout tells a next offset, there was a byte
begins : {C X : Type 0} (d : List ℕ) (t : Layout (Said C X)) (v : C) (q p : ℕ) → Begins q t
    → (layout_reads d t).answer ≡ Ok (Next v p) → q < length d
begins d (field order offset k f) v q p h is = grind (arith, number_ok)
begins d (reading r offset f) v q p h is = onward_ok (q < length d) _ _ _ (Next v p) is (λ bs got told.
    let below = some_byte d r offset bs h.1 (λ none nothing. tells (λ _. ⊥) d (f []) v p nothing
    (sym (ap (λ bs. (layout_reads d (f bs)).answer) none) ∙ told)) got in omega (arith, h.0))
begins d (begin_record t) v q p h is = begins d t v q p h is
begins d _ v q p h is = grind arith

-- A chain advances, whose records each begin at their offset or behind it and tell only greater offsets.
pub advances : {C X : Type 0} (c : Chain C X)
    → ((held : List C) (offset : ℕ) → Tells (λ p. offset < p) (c.said held offset))
    → ((held : List C) (offset : ℕ) → Begins offset (c.said held offset)) → (d : List ℕ) → Advances c d
advances c up first d t v offset is = (
  tells (λ p. t.offset < p) d (c.said t.held t.offset) v offset (up t.held t.offset) is,
  begins d (c.said t.held t.offset) v t.offset offset (first t.held t.offset) is,
)

-- what goes on from a record tells the offsets that it tells
pub tells_bind : {C Y D Z : Type 0} (P : ℕ → Type 0) (t : Layout (Said C Y)) (g : Said C Y → Layout (Said D Z)) → Tells P t
    → ((y : Y) → Tells P (g (Decided y))) → ((v : C) (q : ℕ) → P q → Tells P (g (Next v q))) → Tells P (bind t g)
tells_bind P (done (Decided y)) g tells decided next = decided y
tells_bind P (done (Next v q)) g tells decided next = next v q tells
tells_bind P (refuse e) g tells decided next = tt
tells_bind P (field order offset k f) g tells decided next = λ v. tells_bind P (f v) g (tells v) decided next
tells_bind P (reading r offset f) g tells decided next = λ bs. tells_bind P (f bs) g (tells bs) decided next
tells_bind P (begin_record t) g tells decided next = tells_bind P t g tells decided next

or_some : (r : Reading) {P Q : Type 0} → (P → Q) → OrSome r P → OrSome r Q
or_some (AllOf k) on some = some
or_some (PartOf k) on some = on some
or_some (TextOf t k) on some = on some

-- and begins where it begins
pub begins_bind : {C Y D Z : Type 0} (q : ℕ) (t : Layout (Said C Y)) (g : Said C Y → Layout (Said D Z)) → Begins q t
    → ((y : Y) → Begins q (g (Decided y))) → ((y : Y) → Tells (λ _. ⊥) (g (Decided y))) → Begins q (bind t g)
begins_bind q (done (Decided y)) g begins decided none = decided y
begins_bind q (done (Next v offset)) g begins decided none = absurd begins
begins_bind q (refuse e) g begins decided none = tt
begins_bind q (field order offset k f) g begins decided none = begins
begins_bind q (reading r offset f) g begins decided none =
    (begins.0, or_some r (λ tells. tells_bind (λ _. ⊥) (f []) g tells none (λ v p no. absurd no)) begins.1)
begins_bind q (begin_record t) g begins decided none = begins_bind q t g begins decided none

-- a result that is accepted tells no next offset
pub accepted_tells : (S : Type 0) {X : Type 0} (P : ℕ → Type 0) (r : Result X Halt) → Tells {C = S} P (accept r decides)
accepted_tells S P (Ok x) = tt
accepted_tells S P (Err e) = tt

pub accepted_begins : (S : Type 0) {X : Type 0} (offset : ℕ) (r : Result X Halt) → Begins {C = S} offset (accept r decides)
accepted_begins S offset (Ok x) = tt
accepted_begins S offset (Err e) = tt

-- Records over a state can be followed, each of which begins at its offset or behind it and tells only greater offsets.
pub states_follow : {S X : Type 0} (step : Step S X) → ((s : S) (offset : ℕ) → Tells (λ p. offset < p) (step s offset))
    → ((s : S) (offset : ℕ) → Begins offset (step s offset)) → CanFollow step
states_follow {S} step up first = advances (states step) (λ held. tells_from (last_or None held))
    (λ held. begins_from (last_or None held))
  where
    tells_from : (last : Option S) (offset : ℕ) → Tells (λ p. offset < p) (said_from step last offset)
    tells_from None offset = tt
    tells_from (Some s) offset = up s offset

    begins_from : (last : Option S) (offset : ℕ) → Begins offset (said_from step last offset)
    begins_from None offset = tt
    begins_from (Some s) offset = first s offset
