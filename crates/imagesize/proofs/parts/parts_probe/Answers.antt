use Rattle.std.proofs.Common.{arith, ◌≡◌, ◌∙◌, Result, ap, sym, false}
use Rattle.imagesize.proofs.Wanted.{filled_known, moved, reaches_type, size_ends_of, tells, type_refused, type_sized, type_wanted, unstopped_type}
use Rattle.imagesize.specs.Meaning.{kind_of, meaning, size_of}
use Rattle.imagesize.specs.Parted.{IsProbed, TellsOf, has_texts, texts_as, texts_of}
use Rattle.imagesize.specs.declared.parts.PartsAnswer.TheVariants.{Found, Wanted}
use Rattle.imagesize.specs.declared.types.ImageType.{ImageType}
use Rattle.imagesize_source.specs.declared.error.ImageError.{ImageError}
use Rattle.imagesize_source.specs.Known.{filled_input}
use Rattle.imagesize.proofs.parts.parts_probe.Goals as goal

pub returns-in-Found-Ok-clause-says : goal.returns-in-Found-Ok-clause-says
returns-in-Found-Ok-clause-says c = grind (arith, moved, type_sized)

pub returns-in-Found-Ok-clause-complete : goal.returns-in-Found-Ok-clause-complete
returns-in-Found-Ok-clause-complete c = λ d has short.
    tells (texts_of d) (IsProbed d)
    (meaning d 0).marks c.args.total c.args.spans.now c.args.bytes.now c.with_type.result
    (returns-in-Found-Ok-clause-says c d has short)

pub returns-in-Found-Err-clause-says : goal.returns-in-Found-Err-clause-says
returns-in-Found-Err-clause-says c = λ d has short.
    let new = c.source-source.ensures in
    let kind = moved (λ n spans bytes. TellsOf false (λ d. kind_of d 0) n spans bytes (Found c.in-Found-Err.field-0)) _ _ _ _ _ _
    new.told new.spans new.bytes c.in-Found-Err.ensures.tells in
    type_refused d c.in-Found-Err.error (sym c.in-Found-Err.field-0-is ∙ kind.says d has short)

pub returns-in-Wanted-clause-says : goal.returns-in-Wanted-clause-says
returns-in-Wanted-clause-says c = λ d has short.
    let new = c.source-source.ensures in
    let kind = moved (λ n spans bytes. TellsOf false (λ d. kind_of d 0) n spans bytes (Wanted c.in-Wanted.span)) _ _ _ _ _ _
    new.told new.spans new.bytes c.in-Wanted.ensures.tells in
    type_wanted d c.args.total c.args.spans.now c.args.bytes.now c.in-Wanted.span (kind.says d has short)

pub returns-in-Wanted-clause-complete : goal.returns-in-Wanted-clause-complete
returns-in-Wanted-clause-complete c = grind (arith, tells, returns-in-Wanted-clause-says)

pub returns-in-Found-Ok-clause-unstopped : goal.returns-in-Found-Ok-clause-unstopped
returns-in-Found-Ok-clause-unstopped c = grind (arith, unstopped_type)

pub returns-in-Found-Err-clause-unstopped : goal.returns-in-Found-Err-clause-unstopped
returns-in-Found-Err-clause-unstopped c = grind arith

pub returns-in-Found-Ok-clause-reaches : goal.returns-in-Found-Ok-clause-reaches
returns-in-Found-Ok-clause-reaches c = λ short all is_text.
    let new = c.source-source.ensures in let kept = c.in-Found-Ok.ensures in
    let n = c.args.total in let spans = c.args.spans.now in let bytes = c.args.bytes.now in
    let d = filled_input n spans bytes in
    let kind = moved (λ n spans bytes. TellsOf false (λ d. kind_of d 0) n spans bytes (Found c.in-Found-Ok.field-0)) _ _ _ _ _ _
    new.told new.spans new.bytes kept.tells in
    let is = sym c.in-Found-Ok.field-0-is ∙ kind.says d (filled_known n spans bytes) short in
    let size = moved (λ n spans bytes. TellsOf (has_texts c.in-Found-Ok.image) (size_of c.in-Found-Ok.image) n spans bytes c.size_as.result)
    _ _ _ _ _ _ (kept.told ∙ new.told) (kept.spans ∙ new.spans) (kept.bytes ∙ new.bytes) c.size_as.ensures in
    rw c.with_type.ensures (reaches_type c.in-Found-Ok.image c.size_as.result _
    (size_ends_of d c.in-Found-Ok.image c.size_as.result is (size.reaches short (ap texts_as is ∙ is_text))))

pub returns-in-Wanted-clause-reaches : goal.returns-in-Wanted-clause-reaches
returns-in-Wanted-clause-reaches c = λ short all _.
    let new = c.source-source.ensures in
    let n = c.args.total in let spans = c.args.spans.now in let bytes = c.args.bytes.now in
    let kind = moved (λ n spans bytes. TellsOf false (λ d. kind_of d 0) n spans bytes (Wanted c.in-Wanted.span)) _ _ _ _ _ _
    new.told new.spans new.bytes c.in-Wanted.ensures.tells in
    absurd (tells {T = Result ImageType ImageError} false (λ answer. answer ≡ (kind_of (filled_input n spans bytes) 0).answer) _
    n spans bytes (Wanted c.in-Wanted.span) (kind.says (filled_input n spans bytes) (filled_known n spans bytes) short) all)
