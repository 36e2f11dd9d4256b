-- What a result needs, between wider bounds and after other spans.
use Rattle.std.proofs.Common.{◌≡◌, ℕ, suc, leb, ◌+◌, ◌-◌, ◌≤◌, Bool, true, false, ◌&&◌, List, ◌++◌, Result, Ok, Err, refl, sym, ◌∙◌, subst, arith}
use Rattle.std.specs.List.{list_any}
use Rattle.std.proofs.lemmas.Bool.Decides.{nat_tests}
use Rattle.imagesize_source.specs.declared.halt.Halt.{Halt}
use Rattle.imagesize_source.specs.declared.span.Span.{Span}
use Rattle.imagesize_source.specs.Agreement.{EndsBetween, has_offset}
use Rattle.imagesize_source.specs.Reading.{Reads, go_on}
use Rattle.imagesize_source.proofs.Among.{any_left, any_more, any_right, covered-any}
use Rattle.imagesize_pieces.specs.Stream.{EndsAt, Needs, NeedsAmong}

pub ends_wider : (low high less more : ℕ) (spans : List Span) → less ≤ low → high ≤ more → EndsBetween low high spans
    → EndsBetween less more spans
ends_wider low high less more spans early late ends =
    any_more (λ s. leb (suc low) (s.start + s.len) && leb (s.start + s.len) high)
    (λ s. leb (suc less) (s.start + s.len) && leb (s.start + s.len) more) spans (λ s is. grind (arith, nat_tests)) ends

pub needs_as : {texts other : Bool} (low high less more : ℕ) (spans : List Span) → texts ≡ other → less ≤ low → high ≡ more
    → Needs texts low high spans → Needs other less more spans
needs_as {texts} {other} low high less more spans same early late needs = (
  (needs.0.0, omega (arith, needs.0.1, early), omega (arith, needs.0.2, late), needs.0.3),
  λ none. subst (λ e. EndsAt e spans) late (needs.1 (same ∙ none)),
)

pub needs_wider : (texts : Bool) (low high less more : ℕ) (spans : List Span) → less ≤ low → high ≡ more
    → Needs texts low high spans → Needs texts less more spans
needs_wider texts low high less more spans early same needs = needs_as low high less more spans refl early same needs

pub needs_among : (texts : Bool) (low high less more : ℕ) (spans : List Span) → less ≤ low → high ≤ more
    → Needs texts low high spans → NeedsAmong texts less more spans
needs_among texts low high less more spans early late needs = (
  (needs.0.0, omega (arith, needs.0.1, early), omega (arith, needs.0.2, late), needs.0.3),
  λ none. ends_wider (high - 1) high less more spans (omega (arith, needs.0.1, needs.0.2, early)) late (needs.1 none),
)

-- what holds for a mark of the first readings holds for one of all
pub onward_any : {X Y : Type 0} (marks : List Span) (r : Result X Halt) (f : X → Reads Y) (P : Span → Bool)
    → list_any P marks ≡ true → list_any P (go_on marks r f).marks ≡ true
onward_any marks (Ok x) f P here = any_left P marks (f x).marks here
onward_any marks (Err e) f P here = here

-- of more spans
pub needs_any : (texts : Bool) (low high : ℕ) (spans all : List Span)
    → ((P : Span → Bool) → list_any P spans ≡ true → list_any P all ≡ true) → Needs texts low high spans
    → Needs texts low high all
needs_any texts low high spans all more needs =
    let p = needs.0.0 in
    let here = more (λ s. has_offset s p) (sym (covered-any spans p) ∙ needs.0.3) in (
      (p, needs.0.1, needs.0.2, covered-any all p ∙ here),
      λ none. more (λ s. leb (suc (high - 1)) (s.start + s.len) && leb (s.start + s.len) high) (needs.1 none),
    )

pub needs_behind : (texts : Bool) (low high : ℕ) (before spans all : List Span) → all ≡ before ++ spans
    → Needs texts low high spans → Needs texts low high all
needs_behind texts low high before spans all is needs = subst (Needs texts low high) (sym is)
    (needs_any texts low high spans (before ++ spans) (λ P here. any_right P before spans here) needs)

-- whether texts are read or not
pub needs_texts : (texts : Bool) (low high : ℕ) (spans : List Span) → Needs false low high spans
    → Needs texts low high spans
needs_texts texts low high spans needs = (needs.0, λ none. needs.1 refl)
