-- What holds of a format, by the way in which it tells its answer.
use Rattle.std.proofs.Common.{◌≡◌, ℕ, ◌+◌, ◌-◌, ◌*◌, ◌≤◌, Bool, true, List, ◌++◌, length, Ok, ap, ◌∙◌, arith}
use Rattle.imagesize_source.specs.Agreement.{IsLocal}
use Rattle.imagesize_source.specs.Counts.{AtMost}
use Rattle.imagesize_source.specs.Extension.{Lasts, Plain}
use Rattle.imagesize_source.specs.Layout.{Layout}
use Rattle.imagesize_source.specs.Reading.{Reads}
use Rattle.imagesize_source.specs.State.{total}
use Rattle.imagesize_source.specs.Way.{Way, Fixed, Recorded, Texts, by_way, most_by}
use Rattle.imagesize_source.proofs.Counts.{at_most}
use Rattle.imagesize_source.proofs.Agreement.{local_layout, without_texts}
use Rattle.imagesize_source.proofs.Extension.{more_answer}

-- bytes behind an input change no answer that was given
abbrev pub AnswersLast : {X : Type 0} → (List ℕ → Reads X) → Type 0
AnswersLast {X} reads = (d x : List ℕ) (v : X) → (reads d).answer ≡ Ok v → (reads (d ++ x)).answer ≡ Ok v

pub answers_last : {X : Type 0} (reads : List ℕ → Reads X) → Lasts reads → AnswersLast reads
answers_last reads stays d x v is = ap (λ r. r.answer) (stays d x v is) ∙ is

-- Of a format at fixed offsets, whose type is read from at most `first` bytes: both together are at most `most`.
pub record FixedLaws {X : Type 0} (first most : ℕ) (layout : Layout X) : Type 0 where
  pub fits : first ≤ most
  pub few : AtMost (most - first) layout
  pub plain : Plain layout

-- Of a format of records, `outside` of which so much is read with the type, and at most `each` of a record; `keeps`
-- says whether bytes that follow leave its answer, and `texts` whether texts are read.
pub record RecordedLaws {X : Type 0} (first outside each : ℕ) (keeps texts : Bool) (reads : List ℕ → Reads X)
    : Type 0 where
  pub local : IsLocal texts reads
  pub cost : (d : List ℕ) → first + total (reads d).marks ≤ outside + each * (reads d).begun
  pub within : (d : List ℕ) → first + total (reads d).marks ≤ length d + 28
  pub lasts : keeps ≡ true → AnswersLast reads

-- Of a format of texts.
pub record TextsLaws {X : Type 0} (first : ℕ) (keeps texts : Bool) (reads : List ℕ → Reads X) : Type 0 where
  pub local : IsLocal texts reads
  pub within : (d : List ℕ) → first + total (reads d).marks ≤ length d + 28
  pub lasts : keeps ≡ true → AnswersLast reads

abbrev pub Laws : {X : Type 0} → ℕ → Bool → Bool → Way X → Type 0
Laws first keeps texts (Fixed most layout) = FixedLaws first most layout
Laws first keeps texts (Recorded outside each stated reads) = RecordedLaws first outside each keeps texts reads
Laws first keeps texts (Texts reads) = TextsLaws first keeps texts reads

-- an input that agrees on the marks has the same answer and the same marks
pub local_way : {X : Type 0} (first : ℕ) (keeps texts : Bool) (way : Way X) → Laws first keeps texts way
    → IsLocal texts (by_way way)
local_way first keeps texts way laws = grind (arith, local_layout, without_texts)

-- with its type, an answer is read from at most these bytes
pub cost_way : {X : Type 0} (first : ℕ) (keeps texts : Bool) (way : Way X) → Laws first keeps texts way → (d : List ℕ)
    → first + total (by_way way d).marks ≤ most_by way d
cost_way first keeps texts way laws d = grind (arith, at_most)

-- an answer stays, whatever bytes follow
pub lasts_way : {X : Type 0} (first : ℕ) (keeps texts : Bool) (way : Way X) → keeps ≡ true → Laws first keeps texts way
    → AnswersLast (by_way way)
lasts_way first keeps texts way stays laws = grind (arith, more_answer)
