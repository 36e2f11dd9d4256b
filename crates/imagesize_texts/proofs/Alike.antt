-- Readings from one state on that are those of a chain, though a record of the chain may be several of the state's.
use Rattle.std.proofs.Common.{◌≡◌, ℕ, List, Result, Ok, Err, refl, sym, ◌∙◌}
use Rattle.imagesize_source.specs.declared.halt.Halt.{Halt}
use Rattle.imagesize_source.specs.declared.text.Text.{Text}
use Rattle.imagesize_source.specs.Chain.{Said, Decided, Next, Chain, Advances, chain_at, start}
use Rattle.imagesize_source.specs.Layout.{Layout, accept, layout_reads, text}
use Rattle.imagesize_source.specs.Reading.{Reads, TextOf, and_then, gives, read_of}
use Rattle.imagesize_source.specs.Walk.{CanFollow, Step, run}
use Rattle.imagesize_source.proofs.Layouts.{then_gives, then_then}
use Rattle.imagesize_source.proofs.States.{goes, onward, over_state, run_unfolds}

-- what is read after a record of the chain, from the same state
abbrev pub from : {C S X : Type 0} → Step S X → S → List ℕ → Said C X → Reads X
from step s d = onward {T = Unit {0}} (λ _ offset. run step s offset d) (λ _ _. tt) gives tt

-- Where that holds of each record of a chain, the readings from the state on are those of the chain.
pub alike : {C S X : Type 0} (step : Step S X) (s : S) (c : Chain C X) (d : List ℕ) → Advances c d
    → ((held : List C) (offset : ℕ) → run step s offset d ≡ and_then (layout_reads d (c.said held offset)) (from step s d))
    → run step s c.first d ≡ chain_at c d
alike step s c d adv same =
    over_state {T = Unit {0}} c d adv (λ _ offset. run step s offset d) (λ _ _. tt) gives (λ _ _. Unit {0}) (λ held _ offset _. same held offset)
    (λ held x offset v q known got. tt) (start c) tt tt
    ∙ then_gives (chain_at c d)

-- Records that leave nothing for the next are those of a chain of the same layouts.
pub alone : {X : Type 0} (step : Step (Unit {0}) X) → CanFollow step → (c : Chain (Unit {0}) X) (d : List ℕ) → Advances c d
    → ((held : List (Unit {0})) (offset : ℕ) → step tt offset ≡ c.said held offset) → run step tt c.first d ≡ chain_at c d
alone {X} step follows c d adv same = alike step tt c d adv (λ held offset. run_unfolds step d (follows d) tt offset
    ∙ (λ i. and_then (layout_reads d (same held offset i)) (λ said. each said i)))
  where
    each : (said : Said (Unit {0}) X) → goes step d (follows d) said ≡ from step tt d said
    each (Decided x) = refl
    each (Next v offset) = refl

-- readings alike behind each thing that is made of a text
pub text_alike : {A Y W Z : Type 0} (d : List ℕ) (t : Text) (offset most : ℕ) (f : List ℕ → Result A Halt) (g : A → Layout Y)
    (h : A → Layout W) (on : Y → Reads Z) (other : W → Reads Z)
    → ((x : A) → and_then (layout_reads d (g x)) on ≡ and_then (layout_reads d (h x)) other)
    → and_then (layout_reads d (text t offset most (λ bs. accept (f bs) g))) on
    ≡ and_then (layout_reads d (text t offset most (λ bs. accept (f bs) h))) other
text_alike {A} d t offset most f g h on other same =
    sym (then_then (read_of d (TextOf t most) offset) (λ bs. layout_reads d (accept (f bs) g)) on
    (λ bs. and_then (layout_reads d (accept (f bs) h)) other) (λ bs. sym (each (f bs))))
    ∙ then_then (read_of d (TextOf t most) offset) (λ bs. layout_reads d (accept (f bs) h)) other
    (λ bs. and_then (layout_reads d (accept (f bs) h)) other) (λ bs. refl)
  where
    each : (r : Result A Halt)
        → and_then (layout_reads d (accept r g)) on ≡ and_then (layout_reads d (accept r h)) other
    each (Ok x) = same x
    each (Err e) = refl
