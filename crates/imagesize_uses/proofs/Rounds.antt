-- How many offsets of its marks an input has from the next request on.
use Rattle.std.proofs.Common.{◌≡◌, ℕ, zero, suc, ◌+◌, ◌-◌, ◌*◌, ◌<◌, ◌≤◌, Bool, true, false, ◌&&◌, ◌⊎◌, inl, inr, min, cond, List, length, sym, ap, ◌∙◌, subst, arith}
use mathlib.Core.Logic.{⊎_elim}
use Rattle.std.proofs.lemmas.Bool.{and_parts, cases_lt, cond-false, cond-true, cond_both}
use Rattle.std.specs.Prelude.{count_by, nat_le, Result, Ok, Err, IfErr}
use Rattle.std.specs.List.{range_with_len}
use Rattle.std.proofs.lemmas.Bool.Decides.{nat_tests}
use Rattle.std.proofs.lemmas.List.{take_all}
use Rattle.std.proofs.lemmas.Nat.{mul-le}
use Rattle.imagesize.specs.Meaning.{meaning}
use Rattle.imagesize.specs.Parted.{IfWanted, IsWithin, texts_of}
use Rattle.imagesize.specs.declared.parts.PartsAnswer.{PartsAnswer}
use Rattle.imagesize.specs.declared.parts.PartsAnswer.TheVariants.{Found, Wanted}
use Rattle.imagesize_source.specs.Agreement.{EndsBetween, is_covered}
use Rattle.imagesize_source.specs.Counts.{offsets}
use Rattle.imagesize_source.specs.Input.{part}
use Rattle.imagesize_source.specs.declared.span.Span.{Span}
use Rattle.imagesize_source.proofs.Counts.{count-cons, count_fewer, tests_fewer}
use Rattle.imagesize_source.proofs.Parts.{part_length}
use Rattle.imagesize_stream.specs.Given.{HasPart}
use Rattle.imagesize_stream.specs.Parts.{HasMarked, MayBe, next_of, total_of}
use Rattle.imagesize_stream.specs.declared.parts.PartsProbe.{PartsProbe}
use Rattle.imagesize_uses.specs.Remote.{most_at_once}
use Rattle.imagesize_uses.proofs.Ends.{ends_after, ends_few, ends_less}

-- and less often, where an offset is among them that has it no more
count_less : (p q : ℕ → Bool) (a n at : ℕ) → a ≤ at → at < a + n → ((x : ℕ) → p x ≡ true → q x ≡ true) → p at ≡ false
    → q at ≡ true
    → count_by p (range_with_len a n) < count_by q (range_with_len a n)
count_less p q a zero at low high h gone has = absurd (omega (arith, low, high))
count_less p q a (suc n) at low high h gone has =
    let here = tests_fewer (p a) (q a) (h a) in
    let first = count-cons p a (range_with_len (a + 1) n) in let other = count-cons q a (range_with_len (a + 1) n) in
    ⊎_elim (λ (later : a < at).
    let less = count_less p q (a + 1) n at (omega (arith, later)) (omega (arith, high)) h gone has in
    omega (arith, first, other, here, less))
    (λ (same : at ≤ a).
    let is : a ≡ at = omega (arith, low, same) in
    let none = cond-false {A = ℕ} (p a) 1 0 (ap p is ∙ gone) in let one = cond-true {A = ℕ} (q a) 1 0 (ap q is ∙ has) in
    let rest = count_fewer p q (range_with_len (a + 1) n) h in
    omega (arith, first, other, none, one, rest)) (cases_lt a at)

-- an offset of the marks that is not before this one
abbrev is_ahead : List Span → ℕ → ℕ → Bool
is_ahead marks start offset = is_covered marks offset && nat_le start offset

-- how many of these an input has
unfoldable pub ahead : List ℕ → ℕ → ℕ
ahead d start = count_by (is_ahead (meaning d 0).marks start) (range_with_len 0 (length d))

-- never more than the marks cover
few_ahead : (d : List ℕ) (start : ℕ) → ahead d start ≤ offsets (length d) (meaning d 0).marks
unfolding ahead
few_ahead d start =
    count_fewer (is_ahead (meaning d 0).marks start) (is_covered (meaning d 0).marks) (range_with_len 0 (length d))
    (λ offset has. (and_parts (is_covered (meaning d 0).marks offset) (nat_le start offset) has).0)

-- fewer behind a span that has one
less_ahead : (d : List ℕ) (w : Span) (next : ℕ) → HasMarked w d → w.start + w.len ≤ length d → w.start + w.len ≤ next
    → ahead d next < ahead d w.start
unfolding ahead
less_ahead d w next marked fits behind =
    let marks = (meaning d 0).marks in let low = marked.1 in let below = marked.2 in let has = marked.3 in
    count_less (is_ahead marks next) (is_ahead marks w.start) 0 (length d) marked.0 (omega arith) (omega (arith, below))
    (λ offset is. grind (arith, nat_tests)) (grind (arith, nat_tests)) (grind (arith, nat_tests))

-- where the next request begins; the end of the input, once there is a result
abbrev pub next_start : {T : Type 0} → ℕ → PartsAnswer T → ℕ
next_start n (Found found) = n
next_start n (Wanted w) = w.start

-- A first span begins with the input, and has its first 18 bytes. Each other one begins behind them.
abbrev pub IsOpened : ℕ → Span → Type 0
IsOpened n w = ((w.start ≡ 0) × (min 18 n ≤ w.len)) ⊎ (min 18 n ≤ w.start)

-- no other span begins in a TGA's header
apart : (n : ℕ) (w : Span) → IsWithin n w → IsOpened n w → (w.start < 12) ⊎ (18 ≤ w.start)
apart n w fits (inl first) = inl (omega (arith, first.0))
apart n w fits (inr later) = inr (omega (arith, fits.0, fits.1, later))

opened_behind : {T : Type 0} (n : ℕ) (w : Span) (next : PartsAnswer T) → IsOpened n w
    → IfWanted next (λ v. w.start + w.len ≤ v.start) → IfWanted next (IsOpened n)
opened_behind n w (Found found) opened later = tt
opened_behind n w (Wanted v) (inl first) later = inr (omega (arith, first.0, first.1, later))
opened_behind n w (Wanted v) (inr above) later = inr (omega (arith, above, later))

-- The input may be this one, and so many fetches requested so many bytes, before and now.
pub record Fetching (d : List ℕ) (probe : PartsProbe) (before now first asked : ℕ) : Type 0 where
  pub may : MayBe probe d
  pub opened : IfWanted (next_of probe) (IsOpened (length d))
  pub few : now + ahead d (next_start (length d) (next_of probe)) ≤ before + offsets (length d) (meaning d 0).marks
  pub most : asked + ahead d (next_start (length d) (next_of probe)) * most_at_once d
      ≤ first + offsets (length d) (meaning d 0).marks * most_at_once d
  pub once : asked ≤ first + next_start (length d) (next_of probe)
  pub rounds : texts_of d ≡ false
      → now + ends_after (meaning d 0).marks (next_start (length d) (next_of probe)) ≤ before + length (meaning d 0).marks

opened_first : {T : Type 0} (n total : ℕ) (next : PartsAnswer T) → n ≡ total
    → IfWanted next (λ w. (w.start ≡ 0) × (min 18 total ≤ w.len)) → IfWanted next (IsOpened n)
opened_first n total (Found found) long first = tt
opened_first n total (Wanted w) long first = inl (first.0, omega (arith, first.1, long))

pub begun : (d : List ℕ) (probe : PartsProbe) (now asked : ℕ) → length d ≡ total_of probe
    → ((e : List ℕ) → length e ≡ total_of probe → MayBe probe e)
    → IfWanted (next_of probe) (λ w. (w.start ≡ 0) × (min 18 (total_of probe) ≤ w.len))
    → Fetching d probe now now asked asked
begun d probe now asked long begins first =
    let start = next_start (length d) (next_of probe) in
    let few = few_ahead d start in
    let times = mul-le (ahead d start) (most_at_once d) (offsets (length d) (meaning d 0).marks) (most_at_once d) few
    (omega arith) in
    record {
      may = begins d long;
      opened = opened_first (length d) (total_of probe) (next_of probe) long first;
      few = omega (arith, few);
      most = omega (arith, times);
      once = omega arith;
      rounds = λ _. let some = ends_few (meaning d 0).marks start in omega (arith, some);
    }

-- the next request begins behind this end
begins_behind : {T : Type 0} (n end : ℕ) (next : PartsAnswer T) → end ≤ n → IfWanted next (λ w. end ≤ w.start)
    → end ≤ next_start n next
begins_behind n end (Found found) fits later = fits
begins_behind n end (Wanted w) fits later = later

-- the fetched bytes are a part of the input
has_part : (d bytes : List ℕ) (w : Span) → IsWithin (length d) w → bytes ≡ part d w.start w.len
    → HasPart d w.start bytes
has_part d bytes w fits is =
    let long : length bytes ≡ w.len = omega (arith, ap length is, part_length d w.start w.len) in
    take_all (length d - w.start) bytes (omega (arith, long, fits.1)) ∙ is ∙ ap (part d w.start) (sym long)

suc_times : (a k : ℕ) → (a + 1) * k ≡ a * k + k
suc_times a k = omega arith

-- if these bytes have all of what was requested, the next request begins behind it
abbrev pub GoesBeyond : PartsProbe → PartsProbe → ℕ → List ℕ → Type 0
GoesBeyond old new offset bytes =
    IfWanted (next_of old) (λ v. offset ≤ v.start → v.start + v.len ≤ offset + length bytes
    → IfWanted (next_of new) (λ next. v.start + v.len ≤ next.start))

-- the probe requests this span, and what it says of it
pub record Requests (d : List ℕ) (probe : PartsProbe) (w : Span) : Type 0 where
  pub is : Wanted w ≡ next_of probe
  pub within : MayBe probe d → (w.start < 12) ⊎ (18 ≤ w.start) → HasMarked w d
  pub fits : IsWithin (total_of probe) w
  pub reaches : MayBe probe d → texts_of d ≡ false → (w.start < 12) ⊎ (18 ≤ w.start)
      → EndsBetween w.start (w.start + w.len) (meaning d 0).marks
  pub short : w.len ≤ 1024
  pub shorter : MayBe probe d → texts_of d ≡ false → w.len ≤ 132

-- one fetch of it
module _ {d : List ℕ} {probe : PartsProbe} {before now first asked : ℕ} {w : Span}
    (f : Fetching d probe before now first asked) (r : Requests d probe w) where
  inside : IsWithin (length d) w
  inside = subst (λ n. IsWithin n w) (sym f.may.given.as_long) r.fits

  opened : IsOpened (length d) w
  opened = subst (λ a. IfWanted a (IsOpened (length d))) (sym r.is) f.opened

  marked : HasMarked w d
  marked = r.within f.may (apart (length d) w inside opened)

  few : w.len ≤ most_at_once d
  few =
      let least = cond_both {A = ℕ} (texts_of d) 1024 132 (λ n. w.len ≤ n) (λ _. r.short) (r.shorter f.may) in
      omega (arith, least, inside.1)

  from : next_start (length d) (next_of probe) ≡ w.start
  from = sym (ap (next_start (length d)) r.is)

  -- the counts behind it, by where the next request begins
  counted : {next later further : ℕ} → w.start + w.len ≤ next → later ≤ now + 1 → further ≤ asked + w.len
      → (later + ahead d next ≤ before + offsets (length d) (meaning d 0).marks)
      × (further + ahead d next * most_at_once d ≤ first + offsets (length d) (meaning d 0).marks * most_at_once d)
      × (further ≤ first + next)
      × (texts_of d ≡ false → later + ends_after (meaning d 0).marks next ≤ before + length (meaning d 0).marks)
  counted {next} {later} {further} behind counts asks =
      let less = less_ahead d w next marked inside.1 behind in
      let were = ap (ahead d) from in
      let times = mul-le (ahead d next + 1) (most_at_once d) (ahead d w.start) (most_at_once d) (omega (arith, less))
      (omega arith) in
      let had = ap (λ n. n * most_at_once d) were in (
        omega (arith, f.few, counts, less, were),
        omega (arith, f.most, asks, few, times, had, suc_times (ahead d next) (most_at_once d)),
        omega (arith, f.once, asks, behind, from),
        λ without.
            let fewer = ends_less (meaning d 0).marks w.start (w.start + w.len) next (omega (arith, behind)) behind
            (r.reaches f.may without (apart (length d) w inside opened)) in
            let had = f.rounds without in
            omega (arith, had, counts, fewer, ap (ends_after (meaning d 0).marks) from),
      )

  behind : (new : PartsProbe) (bytes : List ℕ) → GoesBeyond probe new w.start bytes → bytes ≡ part d w.start w.len
      → IfWanted (next_of new) (λ next. w.start + w.len ≤ next.start)
  behind new bytes beyond got =
      subst (λ a. IfWanted a (λ v. w.start ≤ v.start → v.start + v.len ≤ w.start + length bytes
      → IfWanted (next_of new) (λ next. v.start + v.len ≤ next.start))) (sym r.is) beyond (omega arith)
      (omega (arith, ap length got, part_length d w.start w.len, inside.1))

  pub fetched : (new : PartsProbe) (bytes : List ℕ) {later further : ℕ} → GoesBeyond probe new w.start bytes
      → bytes ≡ part d w.start w.len → (MayBe probe d → HasPart d w.start bytes → MayBe new d) → later ≤ now + 1
      → further ≤ asked + w.len → Fetching d new before later first further
  fetched new bytes {later} {further} beyond got goes_on counts asks =
      let next = behind new bytes beyond got in
      let all = counted (begins_behind (length d) (w.start + w.len) (next_of new) inside.1 next) counts asks in
      record {
        may = goes_on f.may (has_part d bytes w inside got);
        opened = opened_behind (length d) w (next_of new) opened next;
        few = all.0;
        most = all.1;
        once = all.2;
        rounds = all.3;
      }

  -- fewer offsets are left
  pub smaller : (new : PartsProbe) (bytes : List ℕ) → GoesBeyond probe new w.start bytes → bytes ≡ part d w.start w.len
      → ahead d (next_start (length d) (next_of new)) < ahead d (next_start (length d) (next_of probe))
  smaller new bytes beyond got =
      let less = less_ahead d w (next_start (length d) (next_of new)) marked inside.1
      (begins_behind (length d) (w.start + w.len) (next_of new) inside.1 (behind new bytes beyond got)) in
      omega (arith, less, ap (ahead d) from)

  -- a fetch that ends it counts too, and the marks have an offset
  pub ended : {later further : ℕ} → later ≤ now + 1 → further ≤ asked + w.len
      → (later ≤ before + offsets (length d) (meaning d 0).marks)
      × (further ≤ first + offsets (length d) (meaning d 0).marks * most_at_once d)
      × (0 < offsets (length d) (meaning d 0).marks)
      × (texts_of d ≡ false → later ≤ before + length (meaning d 0).marks)
  ended counts asks =
      let all = counted {next = length d} inside.1 counts asks in (
        omega (arith, all.0),
        omega (arith, all.1),
        omega (arith, less_ahead d w (length d) marked inside.1 inside.1, few_ahead d w.start),
        λ without. let few = all.3 without in omega (arith, few),
      )

-- what holds of each error
pub if_err : {X E : Type 0} {P : Type 0} (r : Result X E) → P → IfErr r (λ _. P)
if_err (Ok _) p = tt
if_err (Err _) p = p
