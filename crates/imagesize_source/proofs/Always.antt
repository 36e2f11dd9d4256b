-- Layouts that answer whatever they read, as those of the compressions within a type do.
use Rattle.std.proofs.Common.{◌≡◌, ℕ, List, Ok, refl}
use Rattle.imagesize_source.specs.Counts.{AtMost}
use Rattle.imagesize_source.specs.Layout.{Layout, done, refuse, field, reading, begin_record, layout_reads, bind}
use Rattle.imagesize_source.specs.Input.{part}
use Rattle.imagesize_source.specs.Reading.{AllOf, PartOf, TextOf, text_part}

-- the layout always answers, and with what P holds of
abbrev pub Always : {X : Type 0} → (X → Type 0) → Layout X → Type 0
Always P (done x) = P x
Always P (refuse e) = ⊥
Always P (field order offset n f) = ⊥
Always P (reading (AllOf n) offset f) = ⊥
Always P (reading (PartOf n) offset f) = (bs : List ℕ) → Always P (f bs)
Always P (reading (TextOf t n) offset f) = (bs : List ℕ) → Always P (f bs)
Always P (begin_record t) = Always P t

pub always : {X : Type 0} (P : X → Type 0) (d : List ℕ) (t : Layout X) → Always P t
    → (x : X) × ((layout_reads d t).answer ≡ Ok x) × P x
always P d (done x) h = (x, refl, h)
always P d (refuse e) h = absurd h
always P d (field order offset n f) h = absurd h
always P d (reading (AllOf n) offset f) h = absurd h
always P d (reading (PartOf n) offset f) h = always P d (f (part d offset n)) (h (part d offset n))
always P d (reading (TextOf t n) offset f) h = always P d (f (text_part d t offset n)) (h (text_part d t offset n))
always P d (begin_record t) h = always P d t h

pub always_bind : {X Y : Type 0} (P : Y → Type 0) (t : Layout X) (g : X → Layout Y) → Always (λ _. Unit {0}) t
    → ((x : X) → Always P (g x)) → Always P (bind t g)
always_bind P (done x) g h next = next x
always_bind P (refuse e) g h next = absurd h
always_bind P (field order offset n f) g h next = absurd h
always_bind P (reading (AllOf n) offset f) g h next = absurd h
always_bind P (reading (PartOf n) offset f) g h next = λ bs. always_bind P (f bs) g (h bs) next
always_bind P (reading (TextOf t n) offset f) g h next = λ bs. always_bind P (f bs) g (h bs) next
always_bind P (begin_record t) g h next = always_bind P t g h next

-- Of what tells the compression within a type: it is read from at most so many bytes, and there is always an answer.
pub record CompressionLaws {X : Type 0} (k : ℕ) (t : Layout X) : Type 0 where
  pub few : AtMost k t
  pub answers : Always (λ _. Unit {0}) t
