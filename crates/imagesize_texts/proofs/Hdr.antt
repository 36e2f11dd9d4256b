-- HDR: how a walk along its lines goes, how many bytes they are read from, and what it sees of an input.
use Rattle.std.proofs.Common.{◌≡◌, ◌≢◌, ℕ, ◌+◌, ◌<◌, ◌≤◌, List, [], ◌∷◌, length, Some, None, true, Err, refl, sym, ap, ◌∙◌, arith}
use Rattle.std.proofs.lemmas.Bool.Decides.{nat_tests}
use Rattle.imagesize_types.specs.declared.size.ImageSize.{ImageSize}
use Rattle.imagesize_source.specs.declared.halt.Halt.{Halt}
use Rattle.imagesize_source.specs.declared.halt.Halt.TheVariants.{Ended, InvalidHdrIdentifier}
use Rattle.imagesize_source.specs.Reading.{and_then, uncounted}
use Rattle.imagesize_source.specs.Chain.{Said, Decided, Next, Advances, chain_at}
use Rattle.imagesize_source.specs.Extension.{Plain}
use Rattle.imagesize_source.specs.Layout.{Layout, layout_reads, done, refuse, accept}
use Rattle.imagesize_source.specs.State.{total}
use Rattle.imagesize_source.specs.Walk.{CanFollow, EndsBy, run}
use Rattle.imagesize_source.proofs.Advances.{Begins, Tells, advances, states_follow}
use Rattle.imagesize_source.proofs.Ahead.{Ahead}
use Rattle.imagesize_source.proofs.ChainLaws.{local_chain, lasts_chain}
use Rattle.imagesize_source.proofs.Agreement.{local_then, local_layout, with_texts}
use Rattle.imagesize_source.proofs.Extension.{lasts_then, more}
use Rattle.imagesize_source.proofs.Layouts.{over-bind, then_then}
use Rattle.imagesize_source.proofs.Spends.{Onto, said_to, spends, spends_then, chain_onto}
use Rattle.imagesize_source.proofs.Tests.{on_test}
use Rattle.imagesize_source.proofs.Way.{TextsLaws, answers_last}
use Rattle.imagesize_texts.specs.Hdr.{hdr, hdr_identifier, check_identifier, hdr_lines, hdr_line, hdr_open, hdr_step, is_identifier, is_resolution, resolution, second_and_fourth}
use Rattle.imagesize_texts.proofs.Alike.{alone}
use Rattle.imagesize_texts.proofs.Texts.{found_by, line_made, text_begins, text_beyond, text_onto, text_plain, text_tells}

-- what holds of each line
by_line : (P : Layout (Said (Unit {0}) ImageSize) → Type 0) (offset : ℕ) (text : List ℕ)
    → ((size : ImageSize) → P (done (Decided size)))
    → ((e : Halt) → P (refuse e)) → P (done (Next tt (offset + (length text + 1)))) → P (hdr_line offset text)
by_line P offset text decided refused passed =
    on_test P (is_resolution text) (accept (resolution text) (λ size. done (Decided size)))
    (done (Next tt (offset + (length text + 1))))
    (λ _. found_by P (resolution text) (λ size. done (Decided size)) (λ size _. decided size) refused)
    (λ _. passed)

-- and of the first
by_identifier : (P : Layout ℕ → Type 0) (text : List ℕ) → P (done (length text + 1)) → P (refuse InvalidHdrIdentifier)
    → P (check_identifier text)
by_identifier P text is none =
    on_test P (is_identifier text) (done (length text + 1)) (refuse InvalidHdrIdentifier) (λ _. is)
    (λ _. none)

-- a line tells an offset behind its own
pub hdr_tells : (s : Unit {0}) (offset : ℕ) → Tells (λ p. offset < p) (hdr_step s offset)
hdr_tells s offset = text_tells (line_made 0x0A 256) offset (hdr_line offset) (λ p. offset < p)
    (λ text _. by_line (Tells (λ p. offset < p)) offset text
    (λ size. tt) (λ e. tt) (omega arith))

pub hdr_begins : (s : Unit {0}) (offset : ℕ) → Begins offset (hdr_step s offset)
hdr_begins s offset = text_begins (line_made 0x0A 256) offset (hdr_line offset) offset (omega arith)

pub hdr_follows : CanFollow hdr_step
hdr_follows = states_follow hdr_step hdr_tells hdr_begins

hdr_advances : (first : ℕ) (d : List ℕ) → Advances (hdr_lines first) d
hdr_advances first = advances (hdr_lines first) (λ passed offset. hdr_tells tt offset) (λ passed offset. hdr_begins tt offset)

-- the lines are read from at most the bytes of the input
hdr_within : (d : List ℕ) → total (hdr d).marks ≤ length d
hdr_within d = omega (
  arith,
  spends_then (length d) 0 (λ first. first) (λ _. None) (layout_reads d hdr_identifier) (λ first. chain_at (hdr_lines first) d)
      (spends d (λ first. Some first) 0 hdr_identifier
      (text_onto (line_made 0x0A 11) 0 check_identifier (λ first. Some first) 0 (omega arith)
      (λ text. by_identifier (Onto (λ first. Some first) (0 + (length text + 1))) text (omega arith) tt)))
      (λ first _. chain_onto (hdr_lines first) d (λ _. None) (hdr_advances first d)
      (λ passed offset. text_onto (line_made 0x0A 256) offset (hdr_line offset) (said_to (λ _. None)) offset (omega arith)
      (λ text. by_line (Ahead (offset + (length text + 1))) offset text (λ size. tt) (λ e. tt) (omega arith)))),
)

pub hdr_laws : TextsLaws 12 true true hdr
hdr_laws = record {
  local = local_then (λ d. layout_reads d hdr_identifier) (λ first d. chain_at (hdr_lines first) d)
      (local_layout hdr_identifier (with_texts hdr_identifier))
      (λ first. local_chain (hdr_lines first) (hdr_advances first)
      (λ passed offset. with_texts ((hdr_lines first).said passed offset)));
  within = λ d. omega (arith, hdr_within d);
  lasts = λ _. answers_last hdr (lasts_then (λ d. layout_reads d hdr_identifier) (λ first d. chain_at (hdr_lines first) d)
      (λ d x first is. more d x hdr_identifier first
      (text_plain (line_made 0x0A 11) 0 check_identifier (λ text. by_identifier Plain text tt tt)) is)
      (λ first. lasts_chain (hdr_lines first) (hdr_advances first)
      (λ passed offset. text_plain (line_made 0x0A 256) offset (hdr_line offset)
      (λ text. by_line Plain offset text (λ size. tt) (λ e. tt) tt))));
}

-- from the end of the input on there is no line
pub hdr_ends : (s : Unit {0}) → EndsBy hdr_step s (Err Ended)
hdr_ends s d offset far = ap uncounted (text_beyond (line_made 0x0A 256) offset (hdr_line offset) d far (omega arith))

-- the size is that of a walk along the lines behind the first
pub hdr_is : (d : List ℕ) → hdr d ≡ and_then (layout_reads d hdr_open) (λ s. run hdr_step s.records s.offset d)
hdr_is d = then_then (layout_reads d hdr_identifier) (λ first. layout_reads d (done (record { records = tt; offset = first })))
    (λ s. run hdr_step s.records s.offset d) (λ first. chain_at (hdr_lines first) d) (λ first. sym (walked first))
    ∙ ap (λ r. and_then r (λ s. run hdr_step s.records s.offset d))
    (sym (over-bind d hdr_identifier (λ first. done (record { records = tt; offset = first }))))
  where
    walked : (first : ℕ) → run hdr_step tt first d ≡ chain_at (hdr_lines first) d
    walked first = alone hdr_step hdr_follows (hdr_lines first) d (hdr_advances first d) (λ held offset. refl)

-- of another number of words than four none are the second and the fourth
pub other_words : (ws : List (List ℕ)) → length ws ≢ 4 → second_and_fourth ws ≡ None
unfolding second_and_fourth
other_words ws other = grind (arith, nat_tests)

pub four_words : (a b c d : List ℕ) → second_and_fourth (a ∷ b ∷ c ∷ d ∷ []) ≡ Some (b, d)
unfolding second_and_fourth
four_words a b c d = refl
