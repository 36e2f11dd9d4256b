-- Records over a state: what a record says, and the records after it. A chain over the list of its records says the same.
use Rattle.std.proofs.Common.{◌≡◌, ℕ, zero, suc, ◌+◌, ◌≤◌, List, [], ◌∷◌, ◌++◌, length, Some, None, Result, Ok, Err, refl, sym, ap, ◌∙◌, arith}
use Rattle.std.specs.List.{last_or}
use Rattle.imagesize_source.specs.declared.halt.Halt.{Halt}
use Rattle.imagesize_source.specs.Chain.{Said, Decided, Next, Chain, Along, Advances, chain_at, chain_from, next_record, start, verdict}
use Rattle.imagesize_source.specs.Layout.{Layout, accept, bind, layout_reads}
use Rattle.imagesize_source.specs.Reading.{Reads, after_records, and_then, gives, go_on, just, map_answer, put_behind, uncounted, with_answer}
use Rattle.imagesize_source.specs.Walk.{Step, after, decides, run, said_from, states}
use Rattle.imagesize_source.proofs.Chains.{chain_stop, chain_unfolds, follows}
use Rattle.imagesize_source.proofs.Layouts.{over-bind, then_alike, then_gives, then_then}
use Rattle.imagesize_source.proofs.Lists.{last_push}

-- What is read after a record: what is behind its verdict, or the readings from the state on that it leads to.
abbrev pub onward : {C Y Z T : Type 0} → (T → ℕ → Reads Z) → (T → C → T) → (Y → Reads Z) → T → Said C Y → Reads Z
onward reads on behind x (Decided y) = behind y
onward reads on behind x (Next v offset) = reads (on x v) offset

-- Each record changes a state x. R relates the list of the records before to the state. Under R the readings are those of the next
-- record and of what is after it. Then they are those of the chain over the list, and of what is behind its verdict.
module _ {C Y Z T : Type 0} (c : Chain C Y) (d : List ℕ) (adv : Advances c d) (reads : T → ℕ → Reads Z) (on : T → C → T)
    (behind : Y → Reads Z) (R : List C → T → Type 0)
    (unfolds : (held : List C) (x : T) (offset : ℕ) → R held x
    → reads x offset ≡ and_then (layout_reads d (c.said held offset)) (onward reads on behind x))
    (keeps : (held : List C) (x : T) (offset : ℕ) (v : C) (q : ℕ) → R held x
    → (layout_reads d (c.said held offset)).answer ≡ Ok (Next v q) → R (held ++ v ∷ []) (on x v)) where
  by_record : (t : Along C) (x : T) → R t.held x
      → ((v : C) (q : ℕ) → (next_record c d t).answer ≡ Ok (Next v q)
      → reads (on x v) q ≡ and_then (chain_from c d (record { held = t.held ++ v ∷ []; offset = q })) behind)
      → reads x t.offset ≡ and_then (chain_from c d t) behind
  by_record t x known later =
      unfolds t.held x t.offset known
      ∙ then_alike (next_record c d t) (onward reads on behind x) (λ said. and_then (follows c d t.held said) behind) each
      ∙ then_then (next_record c d t) (follows c d t.held) behind (λ said. and_then (follows c d t.held said) behind)
      (λ said. refl)
      ∙ ap (λ r. and_then r behind) (sym (chain_unfolds c d t adv))
    where
      each : (said : Said C Y) → (next_record c d t).answer ≡ Ok said
          → onward reads on behind x said ≡ and_then (follows c d t.held said) behind
      each (Decided y) got = refl
      each (Next v q) got = later v q got

  by_fuel : (k : ℕ) (t : Along C) → length d ≤ t.offset + k → (x : T) → R t.held x
      → reads x t.offset ≡ and_then (chain_from c d t) behind
  by_fuel zero t far x known = by_record t x known (λ v q got. absurd (omega (arith, (adv t v q got).1)))
  by_fuel (suc k) t far x known = by_record t x known (λ v q got.
      by_fuel k (record { held = t.held ++ v ∷ []; offset = q }) (omega (arith, (adv t v q got).0)) (on x v)
      (keeps t.held x t.offset v q known got))

  pub over_state : (t : Along C) (x : T) → R t.held x → reads x t.offset ≡ and_then (chain_from c d t) behind
  over_state t = by_fuel (length d) t (omega arith)

module _ {S X : Type 0} (step : Step S X) (d : List ℕ) (adv : Advances (states step) d) where
  -- the last state is all that counts
  by_last : (t : Along S) (others : List S) → last_or None others ≡ last_or None t.held
      → chain_from (states step) d (record { held = others; offset = t.offset }) ≡ chain_from (states step) d t
  by_last t others same =
      over_state (states step) d adv
      (λ others offset. chain_from (states step) d (record { held = others; offset = offset })) (λ others v. others ++ v ∷ [])
      gives (λ held others. last_or None others ≡ last_or None held)
      (λ held others offset same.
      chain_unfolds (states step) d (record { held = others; offset = offset }) adv
      ∙ ap (λ last. and_then (layout_reads d (said_from step last offset)) (follows (states step) d others)) same
      ∙ (λ i. and_then (layout_reads d (said_from step (last_or None held) offset)) (λ said. each others said i)))
      (λ held others offset v q same got. last_push None others v ∙ sym (last_push None held v)) t others same
      ∙ then_gives (chain_from (states step) d t)
    where
      each : (others : List S) (said : Said S X) → follows (states step) d others said
          ≡ onward (λ others offset. chain_from (states step) d (record { held = others; offset = offset }))
          (λ others v. others ++ v ∷ []) gives others said
      each others (Decided x) = refl
      each others (Next v offset) = refl

  -- what is read after a record
  abbrev pub goes : Said S X → Reads X
  goes (Decided x) = gives x
  goes (Next s offset) = run step s offset d

  -- the readings are those of the record, and what is after it
  pub run_unfolds : (s : S) (offset : ℕ) → run step s offset d ≡ and_then (layout_reads d (step s offset)) goes
  unfolding run
  run_unfolds s offset =
      chain_unfolds (states step) d (record { held = s ∷ []; offset = offset }) adv
      ∙ (λ i. and_then (layout_reads d (step s offset)) (λ said. each said i))
    where
      each : (said : Said S X) → follows (states step) d (s ∷ []) said ≡ goes said
      each (Decided x) = refl
      each (Next v q) = by_last (record { held = v ∷ []; offset = q }) (s ∷ v ∷ []) refl

  -- a record that tells the offset of the next: its marks, and the readings from there on
  pub run_next : (s v : S) (offset q : ℕ) → (layout_reads d (step s offset)).answer ≡ Ok (Next v q)
      → run step s offset d
      ≡ after_records (layout_reads d (step s offset)).begun (put_behind (layout_reads d (step s offset)).marks (run step v q d))
  run_next s v offset q is = run_unfolds s offset
      ∙ ap (λ r. after_records (layout_reads d (step s offset)).begun (go_on (layout_reads d (step s offset)).marks r goes)) is

  -- a record with a verdict: that verdict, by its reads
  pub run_stop : (s : S) (offset : ℕ) (r : Result X Halt) → verdict (layout_reads d (step s offset)).answer ≡ Some r
      → run step s offset d ≡ with_answer r (layout_reads d (step s offset))
  unfolding run
  run_stop s offset r is = chain_stop (states step) d (record { held = s ∷ []; offset = offset }) r is

  -- A format is defined by the chain c over the list of its records. A walk keeps x instead, and `at` makes it the state before the
  -- next record. The readings from that state on are those of the chain, and of what is behind its verdict.
  module _ {C Y T : Type 0} (c : Chain C Y) (at : T → S) (on : T → C → T) (verdict_of : Y → Layout (Said S X))
      (R : List C → T → Type 0) (adv_c : Advances c d)
      (same : (held : List C) (x : T) (offset : ℕ) → R held x
      → layout_reads d (step (at x) offset) ≡ layout_reads d (bind (c.said held offset) (after (λ v. at (on x v)) verdict_of)))
      (keeps : (held : List C) (x : T) (offset : ℕ) (v : C) (q : ℕ) → R held x
      → (layout_reads d (c.said held offset)).answer ≡ Ok (Next v q) → R (held ++ v ∷ []) (on x v)) where
    pub run_as : (x : T) → R [] x
        → run step (at x) c.first d ≡ and_then (chain_at c d) (λ y. and_then (layout_reads d (verdict_of y)) goes)
    run_as = over_state c d adv_c (λ x offset. run step (at x) offset d) on (λ y. and_then (layout_reads d (verdict_of y)) goes) R
        (λ held x offset known.
        run_unfolds (at x) offset
        ∙ ap (λ r. and_then r goes) (same held x offset known ∙ over-bind d (c.said held offset) (after (λ v. at (on x v)) verdict_of))
        ∙ sym (then_then (layout_reads d (c.said held offset))
        (λ said. layout_reads d (after (λ v. at (on x v)) verdict_of said)) goes
        (onward (λ x offset. run step (at x) offset d) on (λ y. and_then (layout_reads d (verdict_of y)) goes) x) (each x)))
        keeps (start c)
      where
        each : (x : T) (said : Said C Y)
            → onward (λ x offset. run step (at x) offset d) on (λ y. and_then (layout_reads d (verdict_of y)) goes) x said
            ≡ and_then (layout_reads d (after (λ v. at (on x v)) verdict_of said)) goes
        each x (Decided y) = refl
        each x (Next v q) = refl

-- the same where the verdict of the chain is the result
pub run_is : {C S T X : Type 0} (step : Step S X) (d : List ℕ) (adv : Advances (states step) d) (c : Chain C X) (at : T → S)
    (on : T → C → T) (R : List C → T → Type 0) (adv_c : Advances c d)
    → ((held : List C) (x : T) (offset : ℕ) → R held x
    → layout_reads d (step (at x) offset) ≡ layout_reads d (bind (c.said held offset) (after (λ v. at (on x v)) decides)))
    → ((held : List C) (x : T) (offset : ℕ) (v : C) (q : ℕ) → R held x
    → (layout_reads d (c.said held offset)).answer ≡ Ok (Next v q) → R (held ++ v ∷ []) (on x v))
    → (x : T) → R [] x → run step (at x) c.first d ≡ chain_at c d
run_is step d adv c at on R adv_c same keeps x known =
    run_as step d adv c at on decides R adv_c same keeps x known ∙ then_gives (chain_at c d)

-- A state of many formats holds a state of one format, and has its record. Then the readings from it on are the same.
pub run_within : {Q S X : Type 0} (outer : Step S X) (inner : Step Q X) (into : Q → S) (d : List ℕ)
    → Advances (states outer) d → Advances (states inner) d
    → ((q : Q) (offset : ℕ) → layout_reads d (outer (into q) offset) ≡ layout_reads d (bind (inner q offset) (after into decides)))
    → (q : Q) (offset : ℕ) → run outer (into q) offset d ≡ run inner q offset d
unfolding run
run_within {Q} {S} {X} outer inner into d adv adv_inner same q offset =
    over_state (states inner) d adv_inner (λ q offset. run outer (into q) offset d) (λ _ v. v) gives
    (λ held q. last_or None held ≡ Some q)
    (λ held q offset known.
    run_unfolds outer d adv (into q) offset
    ∙ ap (λ r. and_then r (goes outer d adv)) (same q offset ∙ over-bind d (inner q offset) (after into decides))
    ∙ sym (then_then (layout_reads d (inner q offset)) (λ said. layout_reads d (after into decides said)) (goes outer d adv)
    (onward (λ q offset. run outer (into q) offset d) (λ _ v. v) gives q) (each q))
    ∙ ap (λ last. and_then (layout_reads d (said_from inner last offset))
    (onward (λ q offset. run outer (into q) offset d) (λ _ v. v) gives q)) (sym known))
    (λ held q offset v next known got. last_push None held v) (record { held = q ∷ []; offset = offset }) q refl
    ∙ then_gives (chain_from (states inner) d (record { held = q ∷ []; offset = offset }))
  where
    each : (q : Q) (said : Said Q X) → onward (λ q offset. run outer (into q) offset d) (λ _ v. v) gives q said
        ≡ and_then (layout_reads d (after into decides said)) (goes outer d adv)
    each q (Decided y) = refl
    each q (Next v next) = refl

-- what is said from the end of the input on, with what is after it
pub ends_bind : {X Y : Type 0} (d : List ℕ) (t : Layout X) (g : X → Layout Y) (r : Result X Halt)
    → uncounted (layout_reads d t) ≡ just r []
    → uncounted (layout_reads d (bind t g)) ≡ uncounted (and_then (just r []) (λ x. layout_reads d (g x)))
ends_bind d t g r is = ap uncounted (over-bind d t g) ∙ ap (λ r. uncounted (and_then r (λ x. layout_reads d (g x)))) is

-- a verdict there is the result
pub ends_after : {C S X : Type 0} (d : List ℕ) (t : Layout (Said C X)) (on : C → S) (r : Result X Halt)
    → uncounted (layout_reads d t) ≡ just (map_answer Decided r) []
    → uncounted (layout_reads d (bind t (after on decides))) ≡ just (map_answer Decided r) []
ends_after {C} {S} {X} d t on r is = ends_bind d t (after on decides) (map_answer Decided r) is ∙ decided r where
  decided : (r : Result X Halt)
      → uncounted (and_then (just (map_answer Decided r) []) (λ said. layout_reads {X = Said S X} d (after {C = C} on decides said)))
      ≡ just (map_answer Decided r) []
  decided (Ok x) = refl
  decided (Err e) = refl

-- an accepted result reads nothing
pub accepted_reads : {S X : Type 0} (d : List ℕ) (r : Result X Halt)
    → layout_reads d (accept r (λ x. decides {S = S} x)) ≡ just (map_answer Decided r) []
accepted_reads d (Ok x) = refl
accepted_reads d (Err e) = refl
