-- Sequences of records over a state: what the records before one leave decides about it.
use Rattle.std.specs.Prelude.{◌≡◌, ℕ, ◌+◌, ◌≤◌, List, [], ◌∷◌, length, Option, None, Some, Result}
use Rattle.std.specs.List.{last_or}
use Rattle.imagesize_source.specs.declared.halt.Halt.{Halt}
use Rattle.imagesize_source.specs.declared.halt.Halt.TheVariants.{Ended}
use Rattle.imagesize_source.specs.Chain.{Said, Decided, Next, Chain, Advances, chain_from}
use Rattle.imagesize_source.specs.Layout.{Layout, layout_reads}
use Rattle.imagesize_source.specs.Layout.Layout.{refuse, «done»}
use Rattle.imagesize_source.specs.Reading.{Reads, just, map_answer, uncounted}
use Rattle.imagesize_source.specs.declared.walk.Found.{Found}
use Rattle.imagesize_source.specs.declared.walk.Found.TheVariants as found

-- The layout of the next record, by the state before it and its offset. It says the result, or the state after it and the next offset.
abbrev pub Step : Type 0 → Type 0 → Type 0
Step S X = S → ℕ → Layout (Said S X)

-- the layout after the last state; without a state there is no record
abbrev pub said_from : {S X : Type 0} → Step S X → Option S → ℕ → Layout (Said S X)
said_from step None offset = refuse Ended
said_from step (Some s) offset = step s offset

-- the records as a chain, in which each holds the state after it
abbrev pub states : {S X : Type 0} → Step S X → Chain S X
states step = record { first = 0; said = λ held offset. said_from step (last_or None held) offset }

-- the reads of the records from a state on, the next of which is at an offset
unfoldable pub run : {S X : Type 0} → Step S X → S → ℕ → List ℕ → Reads X
run step s offset d = chain_from (states step) d (record { held = s ∷ []; offset = offset })

-- what follows from what a record says: its verdict, or the next record after the state that it leads to
abbrev pub after : {C S X Y : Type 0} → (C → S) → (Y → Layout (Said S X)) → Said C Y → Layout (Said S X)
after on verdict (Decided y) = verdict y
after on verdict (Next v offset) = «done» (Next (on v) offset)

abbrev pub decides : {S X : Type 0} → X → Layout (Said S X)
decides x = «done» (Decided x)

-- what a record says that was found at this offset and leaves this state
abbrev pub said_at : {S X : Type 0} → S → ℕ → Found X → Said S X
said_at s offset (found.Answer x) = Decided x
said_at s offset (found.Other length) = Next s (offset + length)

-- what always holds before a record holds after it too
abbrev pub HoldsOn : {X : Type 0} → (ℕ → Type 0) → ℕ → Found X → Type 0
HoldsOn holds offset (found.Answer x) = Unit {0}
HoldsOn holds offset (found.Other length) = holds (offset + length)

-- each record comes after the one before, in every input
abbrev pub CanFollow : {S X : Type 0} → Step S X → Type 0
CanFollow step = (d : List ℕ) → Advances (states step) d

-- From the end of the input on, the record after this state has this verdict at any offset, and reads nothing.
abbrev pub EndsBy : {S X : Type 0} → Step S X → S → Result X Halt → Type 0
EndsBy step s r = (d : List ℕ) (offset : ℕ) → length d ≤ offset
    → uncounted (layout_reads d (step s offset)) ≡ just (map_answer Decided r) []
