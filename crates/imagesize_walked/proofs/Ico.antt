-- ICO: how a walk along its entries goes, how many bytes they are read from, and what it sees of an input.
use Rattle.std.proofs.Common.{◌≡◌, ℕ, ◌+◌, ◌<◌, ◌≤◌, max, Bool, true, false, cond, eqb, leb, List, [], ◌∷◌, ◌++◌, length, Option, Some, None, refl, sym, ap, ◌∙◌, arith}
use Rattle.std.proofs.lemmas.Bool.Decides.{nat_tests}
use Rattle.std.proofs.lemmas.List.{append-nil, length_push}
use Rattle.std.proofs.lemmas.List.Elements.{filter-append}
use Rattle.std.specs.Prelude.{filter, ok_or}
use Rattle.std.specs.List.{last_or}
use Rattle.imagesize_walked.specs.Walks.{ico_open, ico_step, icons_with}
use Rattle.imagesize_walked.specs.declared.formats.ico.Entries.{Entries}
use Rattle.imagesize_walked.specs.Ico.{ico, icon_entries, icon_entry, icon_in, icon_answer, icon_size}
use Rattle.imagesize_types.specs.Largest.{greatest_area, last_largest, area_if_some, later_largest}
use Rattle.imagesize_types.specs.Order.{area_of}
use Rattle.imagesize_types.specs.declared.size.ImageSize.{ImageSize}
use Rattle.imagesize_source.specs.declared.halt.Halt.TheVariants.{Corrupted}
use Rattle.imagesize_source.specs.declared.endian.Endian.TheVariants.{Little}
use Rattle.imagesize_source.specs.Chain.{Said, Decided, Next, Advances, chain_at}
use Rattle.imagesize_source.specs.Counts.{AtMost, Each}
use Rattle.imagesize_source.specs.Layout.{Layout, begin_record, bind, layout_reads, if_there, refuse, done, whole}
use Rattle.imagesize_source.specs.declared.walk.Start.{Start}
use Rattle.imagesize_source.proofs.PastTheEnd.{there_beyond}
use Rattle.imagesize_source.specs.Reading.{Reads, and_then, gives, just, map_answer, number_read, uncounted}
use Rattle.imagesize_source.specs.Walk.{CanFollow, EndsBy, after, decides, run}
use Rattle.imagesize_source.proofs.Advances.{Tells, Begins, advances, begins_bind, states_follow, tells_bind}
use Rattle.imagesize_source.proofs.Layouts.{then_then}
use Rattle.imagesize_source.proofs.States.{ends_after, run_is}
use Rattle.imagesize_source.proofs.Ahead.{Ahead, chain_ahead}
use Rattle.imagesize_source.proofs.ChainLaws.{local_chain, chain_cost}
use Rattle.imagesize_source.proofs.Counts.{bounded_then, then_within, total-span_of}
use Rattle.imagesize_source.proofs.Agreement.{each_texts, local_then, local_number}
use Rattle.imagesize_source.proofs.Tests.{on_test}
use Rattle.imagesize_source.proofs.Way.{RecordedLaws}
use Rattle.imagesize_source.proofs.Lists.{last_push}
use Rattle.imagesize_types.proofs.Largest.{greatest_push}

-- with one entry more, whatever its sides are
largest_by : (best : Option ImageSize) (sizes : List ImageSize) (size : ImageSize) (greatest : ℕ) (b : Bool)
    → leb (area_if_some best) (area_of size) ≡ b → greatest_area sizes ≡ area_if_some best → last_largest sizes ≡ best
    → greatest ≡ max (greatest_area sizes) (area_of size)
    → (last_or None (filter (λ s. eqb (area_of s) greatest) sizes ++ cond (eqb (area_of size) greatest) (size ∷ []) [])
    ≡ cond b (Some size) best) × (greatest ≡ area_if_some (cond b (Some size) best))
largest_by best sizes size greatest true test area is most =
    let here : eqb (area_of size) greatest ≡ true = grind (arith, nat_tests) in
    (rw here (last_push None (filter (λ s. eqb (area_of s) greatest) sizes) size), grind (arith, nat_tests))
largest_by best sizes size greatest false test area is most =
    let not_here : eqb (area_of size) greatest ≡ false = grind (arith, nat_tests) in
    let same : greatest ≡ greatest_area sizes = grind (arith, nat_tests) in
    (rw (not_here, append-nil (filter (λ s. eqb (area_of s) greatest) sizes), same) is, grind (arith, nat_tests))

largest_on : (best : Option ImageSize) (sizes : List ImageSize) (size : ImageSize) → last_largest sizes ≡ best
    → greatest_area sizes ≡ area_if_some best
    → (last_largest (sizes ++ size ∷ []) ≡ later_largest best size) ×
    (greatest_area (sizes ++ size ∷ []) ≡ area_if_some (later_largest best size))
largest_on best sizes size is area =
    let greatest : ℕ = greatest_area (sizes ++ size ∷ []) in
    let on = largest_by best sizes size greatest (leb (area_if_some best) (area_of size)) refl area is
    (greatest_push sizes size) in
    (ap (last_or None) (filter-append (λ s. eqb (area_of s) greatest) sizes (size ∷ [])) ∙ on.0, on.1)

-- what holds of each way that the list ends
by_answer : (P : Layout (Said ImageSize ImageSize) → Type 0) (best : Option ImageSize) → P (refuse Corrupted)
    → ((size : ImageSize) → P (done (Decided size))) → P (icon_answer best)
by_answer P None none some = none
by_answer P (Some size) none some = some size

-- and of each entry
by_entry : (P : Layout (Said ImageSize ImageSize) → Type 0) (best : Option ImageSize) (offset : ℕ)
    (found : Option (List ℕ)) → P (refuse Corrupted) → ((size : ImageSize) → P (done (Decided size)))
    → ((size : ImageSize) → P (done (Next size (offset + 16)))) → P (icon_entry best offset found)
by_entry P best offset None none some next = by_answer P best none some
by_entry P best offset (Some bytes) none some next = next (icon_size bytes)

-- a record by how many entries were read
module _ (count seen : ℕ) (best : Option ImageSize) (offset : ℕ) where
  by_count : (P : Layout (Said ImageSize ImageSize) → Type 0) → P (refuse Corrupted)
      → ((size : ImageSize) → P (done (Decided size)))
      → P (begin_record (if_there offset 2 (icon_entry best offset))) → P (icon_in count seen best offset)
  by_count P none some entry =
      on_test P (eqb seen count) (icon_answer best) _ (λ _. by_answer P best none some) (λ _. entry)

  icon_tells : Tells (λ p. offset < p) (icon_in count seen best offset)
  icon_tells = by_count (Tells (λ p. offset < p)) tt (λ size. tt)
      (λ bs. by_entry (Tells (λ p. offset < p)) best offset (whole 2 bs) tt (λ size. tt) (λ size. omega arith))

  icon_begins : Begins offset (icon_in count seen best offset)
  icon_begins = by_count (Begins offset) tt (λ size. tt)
      (omega arith, by_answer (Tells (λ _. ⊥)) best tt (λ size. tt))

  icon_ahead : Ahead offset (icon_in count seen best offset)
  icon_ahead = by_count (Ahead offset) tt (λ size. tt) (
    omega arith,
    λ bs. by_entry (Ahead (offset + 2)) best offset (whole 2 bs) tt (λ size. tt) (λ size. omega arith),
  )

  -- an entry is read from at most 2 bytes, and the end of the list from none
  icon_each : Each 2 (icon_in count seen best offset)
  icon_each = by_count (Each 2) tt (λ size. tt)
      (omega arith, λ bs. by_entry (AtMost 0) best offset (whole 2 bs) tt (λ size. tt) (λ size. tt))

pub icon_advances : (count : ℕ) (d : List ℕ) → Advances (icon_entries count) d
icon_advances count = advances (icon_entries count)
    (λ sizes offset. icon_tells count (length sizes) (last_largest sizes) offset)
    (λ sizes offset. icon_begins count (length sizes) (last_largest sizes) offset)

-- from the end of the input on there is no entry
icon_ends : (count seen : ℕ) (best : Option ImageSize) (d : List ℕ) (offset : ℕ) → length d ≤ offset
    → uncounted (layout_reads d (icon_in count seen best offset)) ≡ just (map_answer Decided (ok_or best Corrupted)) []
icon_ends count seen best d offset far =
    on_test (λ t. uncounted (layout_reads d t) ≡ just (map_answer Decided (ok_or best Corrupted)) [])
    (eqb seen count) (icon_answer best) _ (λ _. ap uncounted (ends best))
    (λ _. ap uncounted (there_beyond d offset 2 (icon_entry best offset) far ∙ ends best)) where
      ends : (best : Option ImageSize)
          → layout_reads d (icon_answer best) ≡ just (map_answer Decided (ok_or best Corrupted)) []
      ends None = refl
      ends (Some size) = refl

-- ---- the entries over how many were read, and the largest of these

pub ico_tells : (s : Entries) (offset : ℕ) → Tells (λ p. offset < p) (ico_step s offset)
ico_tells s offset = tells_bind (λ p. offset < p) (icon_in s.count s.seen s.largest offset) (after (icons_with s) decides)
    (icon_tells s.count s.seen s.largest offset) (λ y. tt) (λ v q up. up)

pub ico_begins : (s : Entries) (offset : ℕ) → Begins offset (ico_step s offset)
ico_begins s offset = begins_bind offset (icon_in s.count s.seen s.largest offset) (after (icons_with s) decides)
    (icon_begins s.count s.seen s.largest offset) (λ y. tt) (λ y. tt)

pub ico_follows : CanFollow ico_step
ico_follows = states_follow ico_step ico_tells ico_begins

pub ico_ends : (s : Entries) → EndsBy ico_step s (ok_or s.largest Corrupted)
ico_ends s d offset far = ends_after d (icon_in s.count s.seen s.largest offset) (icons_with s) (ok_or s.largest Corrupted)
    (icon_ends s.count s.seen s.largest d offset far)

-- what is known after entries of these sizes
record Seen (sizes : List ImageSize) (s : Entries) : Type 0 where
  many : length sizes ≡ s.seen
  is : last_largest sizes ≡ s.largest
  area : greatest_area sizes ≡ area_if_some s.largest

abbrev icons_first : ℕ → Entries
icons_first count = record { count = count; seen = 0; largest = None }

entries_are : (count : ℕ) (d : List ℕ) → run ico_step (icons_first count) 6 d ≡ chain_at (icon_entries count) d
entries_are count d = run_is ico_step d (ico_follows d) (icon_entries count) (λ s. record s { count = count }) icons_with Seen
    (icon_advances count d)
    (λ sizes s offset known i. layout_reads d (bind (icon_in count (sym known.many i) (sym known.is i) offset)
    (after (icons_with (record s { count = count })) decides)))
    (λ sizes s offset v q known got. let on = largest_on s.largest sizes v known.is known.area in
    record { many = length_push sizes v ∙ ap (λ n. n + 1) known.many; is = on.0; area = on.1 })
    (icons_first count) (record { many = refl; is = refl; area = refl })

-- the size of an icon is what the entries give, after their number
pub ico_is : (d : List ℕ) → ico d ≡ and_then (layout_reads d ico_open) (λ s. run ico_step s.records s.offset d)
ico_is d = then_then (number_read d Little 4 2) opens (λ s. run ico_step s.records s.offset d)
    (λ count. chain_at (icon_entries count) d) (λ count. sym (entries_are count d)) where
      opens : ℕ → Reads (Start Entries)
      opens count = gives (record { records = icons_first count; offset = 6 })

entry_each : (count : ℕ) (sizes : List ImageSize) (offset : ℕ) → Each 2 ((icon_entries count).said sizes offset)
entry_each count sizes offset = icon_each count (length sizes) (last_largest sizes) offset

-- With its type it is read from at most 28 bytes more than the input has: count and entries from at most 2 more. The list
-- may go on in bytes that follow.
pub ico_laws : RecordedLaws 12 18 20 false false ico
ico_laws = record {
  local = local_then (λ d. number_read d Little 4 2) (λ count d. chain_at (icon_entries count) d)
      (local_number Little 4 2)
      (λ count. local_chain (icon_entries count) (icon_advances count)
      (λ sizes offset. each_texts false 2 ((icon_entries count).said sizes offset) (entry_each count sizes offset)));
  cost = λ d. omega (
    arith,
    bounded_then 2 2 0 (number_read d Little 4 2) (λ count. chain_at (icon_entries count) d)
        (omega (arith, total-span_of d 4 2))
        (λ count _. chain_cost (icon_entries count) d (icon_advances count d) 2 (entry_each count)),
  );
  within = λ d. omega (
    arith,
    then_within (number_read d Little 4 2) (λ count. chain_at (icon_entries count) d) 2 (length d) (total-span_of d 4 2)
        (λ count _. omega (
          arith,
          chain_ahead (icon_entries count) d (icon_advances count d)
              (λ sizes offset. icon_ahead count (length sizes) (last_largest sizes) offset),
        )),
  );
  lasts = λ keeps. absurd cc;
}
