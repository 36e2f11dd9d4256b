-- What a probe that is given parts requests next.
use Rattle.std.proofs.Common.{◌≡◌, ◌-◌, Option, None, Some, Result, IfSome, refl, sym, ap, ◌∙◌, subst}
use Rattle.imagesize.specs.declared.types.ImageType.{ImageType}
use Rattle.imagesize.specs.Parted.{IfFound, IfWanted}
use Rattle.imagesize.specs.declared.parts.PartsAnswer.TheVariants.{Found}
use Rattle.imagesize_pieces.specs.declared.stand.Stand.{Stand}
use Rattle.imagesize_source.specs.declared.error.ImageError.{ImageError}
use Rattle.imagesize_source.specs.declared.span.Span.{Span}
use Rattle.imagesize_stream.specs.Parts.{found_or_next}
use Rattle.imagesize_types.specs.declared.size.ImageSize.{ImageSize}

abbrev pub Both : Type 0
Both = Option ImageType × Result ImageSize ImageError

-- what holds of the span that is requested where there is no answer
pub wants : (found : Option Both) (stand : Stand) (P : Span → Type 0)
    → (found ≡ None → P (record { start = stand.passed; len = stand.end - stand.passed }))
    → IfWanted (found_or_next found stand) P
wants None stand P holds = holds refl
wants (Some found) stand P holds = tt

-- an answer stays
pub keeps_found : (found mid later : Option Both) (stand next : Stand) → IfSome found (λ answer. mid ≡ Some answer)
    → later ≡ mid → IfFound (found_or_next found stand) (λ answer. found_or_next later next ≡ Found answer)
keeps_found None mid later stand next keeps same = tt
keeps_found (Some answer) mid later stand next keeps same = ap (λ a. found_or_next a next) (same ∙ keeps)

-- where there is no answer there was none
pub none_before : (found later : Option Both) → IfSome found (λ answer. later ≡ Some answer) → later ≡ None
    → found ≡ None
none_before None later keeps none = refl
none_before (Some found) later keeps none =
    let no : ◌≡◌ {A = Option Both} (Some found) None = sym keeps ∙ none in absurd cc

-- two calls after an answer
pub idle_both : {P Q R : Type 0} (found mid : Option Both) (stand : Stand) → (P → Q → R)
    → IfSome found (λ answer. mid ≡ Some answer) → IfSome found (λ _. P) → IfSome mid (λ _. Q)
    → IfFound (found_or_next found stand) (λ _. R)
idle_both None mid stand both keeps p q = tt
idle_both {P} {Q} {R} (Some found) mid stand both keeps p q = both p (subst (λ m. IfSome m (λ _. Q)) keeps q)
