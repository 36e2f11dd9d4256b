use Rattle.std.proofs.Common.{◌≡◌, Result, refl, ap, subst, ◌∙◌}
use Rattle.imagesize.proofs.Endings.{never_stopped, slice_answer, slice_unstopped}
use Rattle.imagesize_png.proofs.Laws.{png_final, png_lasts, png_local, png_within}
use Rattle.imagesize_png.specs.Png.{png_of, png_reads}
use Rattle.imagesize_source.proofs.Agreement.{same_by_local}
use Rattle.imagesize_source.specs.Errors.{is_stopped}
use Rattle.imagesize_source.specs.Outcome.{outcome_of}
use Rattle.imagesize_source.specs.declared.error.ImageError.{ImageError}
use Rattle.imagesize_types.specs.declared.size.ImageSize.{ImageSize}
use Rattle.imagesize_png.proofs.calls.blob_size.Goals as goal

pub returns-clause-value : goal.returns-clause-value
returns-clause-value c = subst (λ d. c.with_error.result ≡ (png_of d 0).answer) c.new-source.ensures (c.with_error.ensures
    ∙ slice_answer _ _ _ _ refl (never_stopped _ _ refl refl refl c.size-found.ensures) c.size-found.ensures)

pub returns-clause-local : goal.returns-clause-local
returns-clause-local c = λ offset e agrees.
    ap outcome_of (same_by_local (λ d. png_reads d offset) (png_local offset) c.args.«data».now e agrees)

pub returns-clause-few : goal.returns-clause-few
returns-clause-few c = λ offset. png_within c.args.«data».now offset

pub returns-clause-lasts : goal.returns-clause-lasts
returns-clause-lasts c = png_lasts c.args.«data».now 0 _ (returns-clause-value c)

pub returns-clause-refused : goal.returns-clause-refused
returns-clause-refused c = png_final c.args.«data».now 0 _ (returns-clause-value c)

pub returns-clause-unstopped : goal.returns-clause-unstopped
returns-clause-unstopped c = ap (λ (r : Result ImageSize ImageError). is_stopped r) c.with_error.ensures
    ∙ slice_unstopped _ _ _ (never_stopped _ _ refl refl refl c.size-found.ensures)
