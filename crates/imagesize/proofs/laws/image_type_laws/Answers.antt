use Rattle.std.proofs.Common.{arith, refl, ◌≡◌, ◌∙◌, sym, ap}
use Rattle.std.proofs.lemmas.Grind.{common_steps}
use Rattle.std.specs.Prelude.{IsTrue, ◌↔◌}
use Rattle.imagesize.specs.declared.types.ImageType.{ImageType}
use Rattle.imagesize.specs.contracts.types.ImageTypePartialEq.TheImpl.{eq-value}
use Rattle.imagesize.specs.contracts.types.ImageType.{enum}
use Rattle.imagesize.specs.contracts.types.ImageTypeEq.TheImpl.Laws as equal
use Rattle.imagesize.proofs.Listing.{listed}
use Rattle.imagesize.specs.Ranks.{compression_rank}
use Rattle.imagesize.specs.Types.{type_rank}
use Rattle.imagesize_types.specs.Comparisons.{RankedBy}
use Rattle.imagesize_types.specs.Ranks.{atc_rank, dds_rank, heif_rank, pkm_rank, pvrtc_rank}
use Rattle.imagesize_types.specs.contracts.compression.AtcCompressionOrd.TheImpl.{cmp-value as atc_cmp}
use Rattle.imagesize_types.specs.contracts.compression.CompressionOrd.TheImpl.{cmp-value as heif_cmp}
use Rattle.imagesize_types.specs.contracts.compression.DdsCompressionOrd.TheImpl.{cmp-value as dds_cmp}
use Rattle.imagesize_types.specs.contracts.compression.PkmCompressionOrd.TheImpl.{cmp-value as pkm_cmp}
use Rattle.imagesize_types.specs.contracts.compression.PvrtcCompressionOrd.TheImpl.{cmp-value as pvrtc_cmp}
use Rattle.imagesize.specs.contracts.types.ImageTypeOrd.TheImpl.Laws as ordered
use Rattle.imagesize_types.proofs.Lawful.{lawful_hash, lawful_order}
use Rattle.imagesize.proofs.laws.image_type_laws.Goals as goal

-- two types are equal exactly where they are one type
same : (x y : ImageType) → IsTrue (eq-value.it x y) ↔ (x ≡ y)
same x y = (λ e. grind (arith, common_steps), λ e. ap (eq-value.it x) (sym e) ∙ equal.laws-law.refl x)

pub returns-clause-hash : goal.returns-clause-hash
returns-clause-hash c = lawful_hash _ _ same

pub returns-clause-order : goal.returns-clause-order
returns-clause-order c =
    lawful_order _ _ _ same ordered.total-law ordered.matches_eq-law ordered.matches_partial_cmp-law

atc : RankedBy atc_rank atc_cmp.it
atc j k = grind (arith, common_steps)

dds : RankedBy dds_rank dds_cmp.it
dds j k = grind (arith, common_steps)

heif : RankedBy heif_rank heif_cmp.it
heif j k = grind (arith, common_steps)

pkm : RankedBy pkm_rank pkm_cmp.it
pkm j k = grind (arith, common_steps)

pvrtc : RankedBy pvrtc_rank pvrtc_cmp.it
pvrtc j k = grind (arith, common_steps)

-- a variant, and those behind it
more : {A B C : Type 0} → A → B → C → A × (B × C)
more a b c = (a, (b, c))

-- the types that have a compression, in their order
pub returns-clause-listed : goal.returns-clause-listed
returns-clause-listed c = listed enum _ type_rank compression_rank refl
    (more (λ _. refl) (λ j k. atc j.0 k.0) (more (λ _. refl) (λ j k. dds j.0 k.0) (more (λ _. refl) (λ j k. pkm j.0 k.0)
    (more (λ _. refl) (λ j k. pkm j.0 k.0) (more (λ _. refl) (λ j k. heif j.0 k.0)
    (more (λ _. refl) (λ j k. pvrtc j.0 k.0) tt))))))
