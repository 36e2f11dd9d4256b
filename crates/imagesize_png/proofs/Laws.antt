-- PNG: what is read of it.
use Rattle.std.proofs.Common.{◌≡◌, ℕ, ◌-◌, ◌≤◌, Bool, true, false, cond, leb, List, ◌++◌, length, Option, Some, None, is_some, Result, Ok, Err, IfOk, IfErr, refl, sym, ap, ◌∙◌, subst, arith, rules}
use Rattle.imagesize.proofs.Within.{layout_within}
use Rattle.imagesize_io.proofs.Leaving.{EndsWithin}
use Rattle.imagesize_io.proofs.Openings.{IsBounded, opened_answers, opened_takes}
use Rattle.imagesize_io.specs.Answers.{Answers, CountsWithin, RisesWithin}
use Rattle.imagesize_io.specs.ReaderState.{Opens, start_state}
use Rattle.imagesize_io.specs.Standing.{drift}
use Rattle.imagesize_io.specs.Telling.{Telling}
use Rattle.imagesize_io.specs.declared.reader.Opened.{Opened}
use Rattle.imagesize_png.specs.Png.{is_png, png, png_by, png_of, png_reads, png_sides}
use Rattle.imagesize_source.proofs.Agreement.{local_layout, without_texts}
use Rattle.imagesize_source.proofs.Counts.{at_most, place_within}
use Rattle.imagesize_source.proofs.Extension.{bytes_more, bytes_ok, more_answer}
use Rattle.imagesize_source.proofs.Halts.{stated_ok}
use Rattle.imagesize_source.proofs.Way.{FixedLaws}
use Rattle.imagesize_source.specs.Agreement.{IsLocal}
use Rattle.imagesize_source.specs.Counts.{AtMost}
use Rattle.imagesize_source.specs.Extension.{Plain}
use Rattle.imagesize_source.specs.Input.{part, span_of}
use Rattle.imagesize_source.specs.Layout.Layout.{«done»}
use Rattle.imagesize_source.specs.Layout.{layout_reads}
use Rattle.imagesize_source.specs.Numbers.{number}
use Rattle.imagesize_source.specs.Halts.{error_of, with_error}
use Rattle.imagesize_source.specs.Outcome.{stated}
use Rattle.imagesize_source.specs.Reading.{bytes_at, go_on, map_answer, number_at}
use Rattle.imagesize_source.specs.State.{State, Runs, total, since_of}
use Rattle.imagesize_source.specs.declared.endian.Endian.TheVariants.{Big}
use Rattle.imagesize_source.specs.declared.error.ImageError.{ImageError}
use Rattle.imagesize_source.specs.declared.halt.Halt.{Halt}
use Rattle.imagesize_source.specs.declared.halt.Halt.TheVariants as halt
use Rattle.imagesize_source.specs.declared.error.ImageError.TheVariants.{NotSupported}
use Rattle.imagesize_types.specs.declared.size.ImageSize.{ImageSize}

sides_few : (is : Bool) → AtMost 8 (png_by is)
sides_few true = search rules
sides_few false = tt

sides_plain : (is : Bool) → Plain (png_by is)
sides_plain true = search rules
sides_plain false = tt

-- the signature is 8 bytes, and the sides are 8 more
pub png_laws : (offset : ℕ) → FixedLaws 8 24 (png offset)
png_laws offset = record {
  fits = omega arith;
  few = (omega arith, λ head. sides_few (is_png head));
  plain =
      λ head. sides_plain (is_png head);
}

-- the size is read from at most these bytes, and sees the input by them alone
pub png_within : (d : List ℕ) (offset : ℕ) → total (png_of d offset).marks ≤ 16
png_within d offset = at_most d 16 (png offset) (png_laws offset).few

pub png_local : (offset : ℕ) → IsLocal false (λ d. png_reads d offset)
png_local offset = local_layout (png offset) (without_texts false 16 (png offset) (png_laws offset).few)

-- a size stays, whatever bytes follow
pub png_lasts : (d : List ℕ) (offset : ℕ) (r : Result ImageSize ImageError) → r ≡ (png_of d offset).answer
    → IfOk r (λ size. (x : List ℕ) → (png_of (d ++ x) offset).answer ≡ Ok size)
png_lasts d offset (Ok size) is = λ x.
    ap stated (more_answer d x (png offset) size (png_laws offset).plain
    (stated_ok (png_reads d offset).answer size (sym is)))
png_lasts d offset (Err e) is = tt

-- a reading is refused for the end of the input alone
bytes_end : (d : List ℕ) (offset k : ℕ) (e : Halt) → bytes_at d offset k ≡ Err e → e ≡ halt.Ended
unfolding bytes_at
bytes_end d offset k e is = by_test (leb k (length d - offset)) is where
  by_test : (test : Bool) → ◌≡◌ {A = Result (List ℕ) Halt} (cond test (Ok (part d offset k)) (Err halt.Ended)) (Err e)
      → e ≡ halt.Ended
  by_test true is = absurd cc
  by_test false is = cc

-- and so are the sides
abbrev side : List ℕ → Bool → ℕ → Result ℕ Halt
side d there offset = map_answer (number Big) (cond there (Ok (part d offset 4)) (Err halt.Ended))

sides_end : (d : List ℕ) (e : Halt) → (layout_reads d png_sides).answer ≡ Err e → e ≡ halt.Ended
unfolding number_at bytes_at
sides_end d e is = by_tests (leb 4 (length d - 16)) (leb 4 (length d - 20)) is where
  by_tests : (there also : Bool) → (go_on {Y = ImageSize} (span_of d 16 4) (side d there 16)
      (λ width. go_on (span_of d 20 4) (side d also 20)
      (λ height. layout_reads d (done (record { width = width; height = height }))))).answer ≡ Err e → e ≡ halt.Ended
  by_tests true true is = absurd cc
  by_tests true false is = cc
  by_tests false also is = cc

no_png : (d x : List ℕ) (is : Bool) → (layout_reads d (png_by is)).answer ≡ Err halt.NotSupported
    → (layout_reads (d ++ x) (png_by is)).answer ≡ Err halt.NotSupported
no_png d x true is = let no : halt.NotSupported ≡ halt.Ended = sides_end d halt.NotSupported is in absurd cc
no_png d x false is = refl

-- what is no PNG stays none
refused_lasts : (d x : List ℕ) (offset : ℕ) → (png_reads d offset).answer ≡ Err halt.NotSupported
    → (png_reads (d ++ x) offset).answer ≡ Err halt.NotSupported
refused_lasts d x offset is = by_head (bytes_at d offset 8) refl is where
  by_head : (r : Result (List ℕ) Halt) → bytes_at d offset 8 ≡ r
      → (go_on (span_of d offset 8) r (λ head. layout_reads d (png_by (is_png head)))).answer ≡ Err halt.NotSupported
      → (png_reads (d ++ x) offset).answer ≡ Err halt.NotSupported
  by_head (Ok head) same is =
      ap (λ r. (go_on (span_of (d ++ x) offset 8) r (λ head. layout_reads (d ++ x) (png_by (is_png head)))).answer)
      (bytes_more d x offset 8 (bytes_ok d head offset 8 same) ∙ same)
      ∙ no_png d x (is_png head) is
  by_head (Err e) same is =
      let one : e ≡ halt.NotSupported = cc in let no : halt.NotSupported ≡ halt.Ended = sym one
      ∙ bytes_end d offset 8 e same in absurd cc

-- one halt alone is this error
not_supported : (h : Halt) → error_of h ≡ NotSupported → h ≡ halt.NotSupported
not_supported halt.NotSupported is = refl
not_supported _ is = absurd cc

refused_as : (r : Result ImageSize Halt) → stated r ≡ Err NotSupported → r ≡ Err halt.NotSupported
refused_as (Ok size) is = absurd cc
refused_as (Err h) is = let same : error_of h ≡ NotSupported = cc in ap Err (not_supported h same)

pub png_final : (d : List ℕ) (offset : ℕ) (r : Result ImageSize ImageError) → r ≡ (png_of d offset).answer
    → IfErr r (λ e. e ≡ NotSupported → (x : List ℕ) → (png_of (d ++ x) offset).answer ≡ Err NotSupported)
png_final d offset (Ok size) is = tt
png_final d offset (Err e) is = λ none x.
    ap stated (refused_lasts d x offset (refused_as (png_reads d offset).answer (sym is ∙ ap Err none)))

-- an honest budget is enough for it
pub bounded_png : IsBounded png_reads
bounded_png d offset = omega (arith, png_within d offset)

-- and no read of it ends past the end of the bytes
pub png_ends : EndsWithin png_reads
png_ends t = place_within (length t.bytes) 0 (length t.bytes) (png_reads t.bytes t.offset).marks (omega arith)
    (λ k s below. (layout_within t.bytes (png t.offset) k s below).1)

-- the size that a reader was found to have
pub png_answers : (telling mid : Option Telling) (count : Option ℕ) (home : ℕ) (opened : Opened) (a b : State)
    (r : Result ImageSize Halt) → a ≡ start_state mid count home opened.told → is_some b.failed ≡ true
    → Opens telling mid (Ok opened)
    → Runs a b r (png_reads a.held.input opened.offset) → Answers telling png_of (with_error b.failure b.frame.budget r)
png_answers telling mid count home opened a b r start told opens h =
    opened_answers telling mid count home opened b r png_reads bounded_png told opens
    (subst (λ s. Runs s b r (png_reads s.held.input opened.offset)) start h)

both_are : (p q : ℕ × ℕ) → p ≡ q → (p.0 ≡ q.0) × (p.1 ≡ q.1)
both_are p q same = (ap (λ (x : ℕ × ℕ). x.0) same, ap (λ (x : ℕ × ℕ). x.1) same)

-- a named count that drifted by what was taken rose by it
rises : (before after : Option ℕ) (taken k : ℕ) → drift after taken ≡ drift before 0 → taken ≤ k
    → RisesWithin before after k
rises None None taken k same few = refl
rises (Some c) (Some d) taken k same few =
    let is = both_are (d - taken, taken - d) (c - 0, 0 - c) cc in
    (omega (arith, is.0, is.1), omega (arith, is.0, is.1, few))
rises _ _ taken k same few = absurd cc

-- and how far a count rose
pub png_counts : (telling mid : Option Telling) (count after : Option ℕ) (home : ℕ) (opened : Opened) (a b : State)
    (r : Result ImageSize Halt) → a ≡ start_state mid count home opened.told → is_some b.failed ≡ true
    → Opens telling mid (Ok opened) → Runs a b r (png_reads a.held.input opened.offset)
    → since_of b.frame.backing ≡ drift after b.taken → CountsWithin telling count after png_of
png_counts None mid count after home opened a b r start told opens h counted = tt
png_counts (Some t) mid count after home opened a b r start told opens h counted = λ honest.
    let takes = opened_takes (Some t) mid count home opened b r png_reads told opens
    (subst (λ s. Runs s b r (png_reads s.held.input opened.offset)) start h) honest in
    rises count after b.taken _ (sym counted ∙ ap (λ f. since_of f.backing) h.frame ∙ ap (λ s. since_of s.frame.backing) start) takes.most
