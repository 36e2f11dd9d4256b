-- What a layout's readings of the bytes so far miss, in every input that begins with them.
use Rattle.std.proofs.Common.{◌≡◌, ℕ, suc, leb, ◌&&◌, max, min, ◌+◌, ◌-◌, ◌<◌, ◌≤◌, Bool, true, false, ◌⊎◌, inl, inr, List, [], ◌∷◌, ◌++◌, length, Option, None, Some, IfSome, IsSomeAnd, refl, sym, ap, ◌∙◌, subst, arith}
use Rattle.std.specs.Prelude.{unwrap_or, option_map}
use Rattle.std.proofs.lemmas.Bool.{cases_lt}
use Rattle.std.proofs.lemmas.Bool.Decides.{nat_tests}
use Rattle.imagesize_source.specs.declared.source.known.Missing.{Missing}
use Rattle.imagesize_source.specs.declared.span.Span.{Span}
use Rattle.imagesize_source.specs.Agreement.{AllRead, Alike, Parting, is_covered, has_offset}
use Rattle.imagesize_source.specs.Input.{span_at}
use Rattle.imagesize_source.specs.Layout.{Layout, layout_reads}
use Rattle.imagesize_source.specs.Known.{end_of}
use Rattle.imagesize_source.specs.Reading.{Reads}
use Rattle.imagesize_source.specs.State.{Misses, Missed, state_after}
use Rattle.imagesize_source.proofs.Agreement.{alike_layout, covered-left, covered-one, covered-right, covered_one_of}
use Rattle.imagesize_source.proofs.Among.{Among, covered-any, later_cut, middle}
use Rattle.imagesize_source.proofs.Known.{length-filled_input}
use Rattle.imagesize_source.proofs.Runs.{past-recorded}
use Rattle.imagesize_source.proofs.Sharing.{shares-right}
use Rattle.imagesize_source.specs.Sharing.{Shares}
use Rattle.imagesize_pieces.specs.Stream.{Begins, Needs, Reach, came}
use Rattle.imagesize_pieces.proofs.Beginning.{ArrivedSource, Holds, begins_shares, arrived_input}
use Rattle.imagesize_pieces.proofs.Called.{fresh, state_of}
use Rattle.imagesize_pieces.proofs.Reaching.{reach_covered}
use Rattle.imagesize_pieces.proofs.Streaming.{unknown_behind}

missed_is : (missed : Option Missing) (P : Missing → Type 0)
    → IfSome (Some missed) (λ m. IsSomeAnd m P)
    → (m : Missing) × (missed ≡ Some m) × P m
missed_is None P told = absurd told
missed_is (Some m) P told = (m, refl, told)

-- Reads of an input have m in a mark, after some others. The reads of each input that shares the bytes before it have m in a
-- mark too. If no text is read, it is the same mark.
alike_missed : {X : Type 0} {texts : Bool} (d e : List ℕ) (f g : Reads X) (made rest : List Span) (mark : Span) (m : ℕ)
    → Alike texts d e f g → f.marks ≡ made ++ mark ∷ rest → has_offset mark m ≡ true
    → Shares e d (made ++ span_at mark.start (m - mark.start))
    → (other : Span) × (has_offset other m ≡ true) × Among other g.marks × (texts ≡ false → other ≡ mark)
alike_missed {X} {texts} d e f g made rest mark m alike all here shares = elim alike [
  | inl same ↦ (
      let is = ap (λ (r : Reads X). r.marks) same ∙ all in
      (mark, here, subst (Among mark) (sym is) (middle made mark rest), λ none. refl)
      )
  | inr parts ↦ by_cut parts (later_cut made parts.seen rest parts.rest mark parts.mark (sym all ∙ parts.here))
] where
  part : List Span
  part = span_at mark.start (m - mark.start)

  by_cut : (parts : Parting texts d e f.marks g.marks)
      → Among parts.mark made ⊎ ((mark ≡ parts.mark) ⊎ ((more : List Span) → Among mark (parts.seen ++ more)))
      → (other : Span) × (has_offset other m ≡ true) × Among other g.marks × (texts ≡ false → other ≡ mark)
  by_cut parts (inl before) =
      let seen = covered-any made parts.offset ∙ before (λ x. has_offset x parts.offset) parts.within in
      absurd (parts.differs (shares.there parts.offset (covered-left made part parts.offset seen)).1)
  by_cut parts (inr (inr among)) =
      (mark, here, subst (Among mark) (sym parts.there) (among (parts.other ∷ parts.others)), λ none. refl)
  by_cut parts (inr (inl at)) =
      let p : ℕ = parts.offset in
      let begins : parts.other.start ≡ mark.start = parts.start ∙ ap (λ (s : Span). s.start) (sym at) in
      let also = parts.also in
      let above : mark.start ≤ p = grind (arith, nat_tests) in
      let after : m ≤ p = elim (cases_lt p m) [
        | inr late ↦ late
        | inl early ↦ (
            let back : mark.start + (p - mark.start) ≡ p = omega (arith, above) in
            let one = covered-one mark.start (m - mark.start) (p - mark.start) (omega (arith, early, above)) in
            absurd (parts.differs (shares.there p (covered-right made part p (rw back at one))).1)
            )
      ] in
      let among = subst (Among parts.other) (sym parts.there) (middle parts.seen parts.other parts.others) in
      (parts.other, grind (arith, nat_tests), among, λ none. parts.same none ∙ sym at)

-- A layout that reads nothing before the offset `low` missed a byte, after the reads of some spans. All bytes that came from
-- there on are in the source.
pub record Left {X : Type 0} (l : Layout X) (low : ℕ) (b : ArrivedSource) : Type 0 where
  pub from : b.start ≤ low
  pub above : (d : List ℕ) (offset : ℕ) → is_covered (layout_reads d l).marks offset ≡ true → low ≤ offset
  pub before : List Span
  pub lacks : Missed (state_after (fresh b) before) (state_of b) (layout_reads (arrived_input b) l).marks

module _ {X : Type 0} {l : Layout X} {low : ℕ} {b : ArrivedSource} (left : Left l low b) where
  pub what : (m : Missing) × (b.missed ≡ Some m)
      × Misses (state_after (fresh b) left.before) (state_of b) (layout_reads (arrived_input b) l).marks m
  what = missed_is b.missed _ left.lacks.told

  abbrev pub m : Missing
  m = what.0

  abbrev pub mark : Span
  mark = what.2.mark

  in_mark : has_offset mark m.start ≡ true
  in_mark =
      let begins = what.2.behind in let ends = what.2.within in let some = (b.lacks m what.1).0 in
      grind (arith, nat_tests)

  marked : (offset : ℕ) → has_offset mark offset ≡ true → is_covered (layout_reads (arrived_input b) l).marks offset ≡ true
  marked offset in_it = subst (λ s. is_covered s offset ≡ true) (sym what.2.all)
      (covered_one_of what.2.made mark what.2.rest offset in_it)

  -- what is missed is after the bytes so far
  behind : b.start + (length b.kept + length b.chunk) ≤ m.start
  behind =
      let above = left.above (arrived_input b) m.start (marked m.start in_mark) in
      unknown_behind b.told b.start b.kept b.chunk m.start (omega (arith, b.within)) (b.lacks m what.1).3
      (omega (arith, left.from, above))

  -- the failed read requests bytes after those so far, and none from the end on
  pub ends_left : (b.start + (length b.kept + length b.chunk) < end_of b.missed) × (low < end_of b.missed)
      × (end_of b.missed ≤ b.told)
  ends_left =
      let lacks = b.lacks m what.1 in let some = lacks.0 in let few = lacks.1 in let within = lacks.2 in
      let ends : end_of b.missed ≡ m.start + m.most = ap end_of what.1 in
      let above = left.above (arrived_input b) m.start (marked m.start in_mark) in
      (omega (arith, behind, ends, some, few), omega (arith, above, ends, some, few), omega (arith, ends, within))

  -- so fewer bytes came than the layout reads at most
  pub few_left : (high : ℕ) → Reach low high l → b.start + (length b.kept + length b.chunk) < high
  few_left high reach = omega (arith, behind, (reach_covered (arrived_input b) low high l reach m.start (marked m.start in_mark)).1)

  abbrev pub seen_there : List Span
  seen_there = what.2.made ++ span_at mark.start (m.start - mark.start)

  -- an input that begins with the bytes so far shares all that was seen
  pub shares_left : {front : List ℕ} → Holds front b → (d : List ℕ) → Begins front b.told d
      → Shares d (arrived_input b) (left.before ++ seen_there)
  shares_left run d begins =
      let all : b.spans ≡ left.before ++ seen_there = ap (λ o. unwrap_or o []) (what.2.recorded
      ∙ ap (option_map (λ spans. spans ++ seen_there)) (past-recorded (fresh b) left.before)) in
      subst (Shares d (arrived_input b)) all (begins_shares b run d begins)

  module _ {front : List ℕ} (run : Holds front b) (d : List ℕ) (begins : Begins front b.told d)
      (as_long : length d ≡ b.told) (texts : Bool) (read : AllRead texts l) where
    -- each input that begins with the bytes so far has it in a mark
    in_each : (other : Span) × (has_offset other m.start ≡ true) × Among other (layout_reads d l).marks
        × (texts ≡ false → other ≡ mark)
    in_each =
        alike_missed (arrived_input b) d (layout_reads (arrived_input b) l) (layout_reads d l) what.2.made what.2.rest mark m.start
        (alike_layout (arrived_input b) d l read
        (as_long ∙ sym (length-filled_input b.told (came b.start b.kept b.chunk) (b.kept ++ b.chunk))))
        what.2.all in_mark (shares-right left.before _ (shares_left run d begins))

    there : is_covered (layout_reads d l).marks m.start ≡ true
    there = covered-any (layout_reads d l).marks m.start ∙ in_each.2 (λ s. has_offset s m.start) in_each.1

    pub depends : (offset : ℕ) × (length front ≤ offset) × (is_covered (layout_reads d l).marks offset ≡ true)
    depends = (m.start, omega (arith, behind, run.ends), there)

    -- Its reads need that byte, and if no text is read, one of them ends where the failed read ends.
    pub needs_left : (high : ℕ) → Reach low high l
        → Needs texts (max (length front) low) (min (end_of b.missed) high) (layout_reads d l).marks
    needs_left high reach =
        let lacks = b.lacks m what.1 in let some = lacks.0 in let few = lacks.1 in
        let begins = what.2.behind in let within = what.2.within in let reaches = what.2.reaches in
        let ends : end_of b.missed ≡ m.start + m.most = ap end_of what.1 in
        let between = reach_covered d low high l reach m.start there in
        let early : b.start ≤ m.start = omega (arith, left.from, between.0) in
        let sure = b.sure m what.1 (grind (arith, nat_tests)) in
        let last_in : has_offset mark (mark.start + mark.len - 1) ≡ true = grind (arith, nat_tests) in
        let last = (reach_covered (arrived_input b) low high l reach _ (marked (mark.start + mark.len - 1) last_in)).1 in
        let to : min (end_of b.missed) high ≡ mark.start + mark.len = omega (arith, ends, sure, within, reaches, last, some) in (
          (m.start, omega (arith, behind, run.ends, between.0), omega (arith, between.1, ends, some, few), there),
          λ none. subst (λ s. Among s (layout_reads d l).marks) (in_each.3 none) in_each.2
              (λ s. leb (suc (min (end_of b.missed) high - 1)) (s.start + s.len)
              && leb (s.start + s.len) (min (end_of b.missed) high))
              (grind (arith, nat_tests)),
        )
