-- `refuses` and `take_back` at a call: what each is handed, and what a caller has of it. Assumes `Logic`.
use Rattle.imagesize_readers.proofs.Walks.{◌≡◌, ℕ, List, [], ◌∷◌, refl, ap, Bool, Ura, Val, vbool, vunit, vptr, SProp, ent, ex, sep, guard, id⊢, Lft, Share, ftrue, fsep, flft, Memory, Routine, Logic, sem, Fun, ‵, raw, ◌⊛◌, some, later, ◌$◌, ◌∵◌, !, qed, move, keep, use1, split, join, pick, fjoin, feq_i, feq_l, check, show, await, updating, at_once, done, RattleType, hidden_shr, bool, unit, nothing, only, Contract, triple_of, Al, Args, a_type, dnil, dcons, Slot, plain, RefOf, bounded, param}
use Rattle.std.specs.contracts.cell.Cell as CE
use Rattle.imagesize_readers.specs.contracts.allocators.Refusing as wrapper
use Rattle.imagesize_readers.specs.contracts.allocators.Book as B
use Rattle.imagesize_readers.specs.contracts.allocators.refuses as R
use Rattle.imagesize_readers.specs.contracts.allocators.take_back as K

abbrev Noted : RattleType
Noted = CE.the_row B.the_row

-- the type arguments of a method of the allocator, and its `self`
module _ (Z : Al) where
  abbrev pub args : Args
  args = bounded (a_type ∷ []) (Z.row, tt) (dcons Z.d (dcons Z.drops dnil))

  abbrev pub self : Slot 2
  self = RefOf (0 ∷ []) tt (plain (λ _. wrapper.the_row (param 0 Z.row))) (λ _. tt)

module _ {M : Type 1} {𝓤 : Ura M} (𝓛 : Logic 𝓤) (at_mem : Memory → SProp 𝓤) (run : Routine → Fun 𝓤) where
  abbrev pub Refuses : Contract 𝓤
  Refuses = triple_of 𝓛 R.signature (R.spec 𝓛 at_mem run)

  -- both are handed the same
  abbrev pub at_noted : Lft → Share → ℕ × ℕ → Refuses.Ghost
  at_noted κ q c =
      (((κ, tt), (q, tt), tt, (record { ref_ptr = c; now = record { value = tt } }, tt), (vptr c.0 c.1 ∷ [], tt)), tt)

  abbrev pub TakesBack : Contract 𝓤
  TakesBack = triple_of 𝓛 K.signature (K.spec 𝓛 at_mem run)

module _ {M : Type 1} {𝓤 : Ura M} (𝓛 : Logic 𝓤) (at_mem : Memory → SProp 𝓤) (run : Routine → Fun 𝓤) (κ : Lft)
    (q : Share) (c : ℕ × ℕ) where
  open 𝓛 use {H, A}

  pub noted_goes : ent 𝓤 (sep 𝓤 (sem 𝓛 (hidden_shr Noted κ (record { value = tt }) c.0 c.1)) (A.lft κ q))
      ((Refuses 𝓛 at_mem run).pre (at_noted 𝓛 at_mem run κ q c))
  noted_goes =
      qed 𝓛 (‵ (hidden_shr Noted κ (record { value = tt }) c.0 c.1) ∷ ‵ (flft κ q) ∷ []) ∵ feq_i ! (List Val)
      (vptr c.0 c.1 ∷ [])
      (vptr c.0 c.1 ∷ []) refl $ fjoin ! $
      nothing ! $ move ! (1 ∷ []) $ fjoin ! $ nothing ! $ move ! (2 ∷ []) $ join ! $ join ! $ nothing ! $ move !
      (1 ∷ []) $ done !

  pub refuses_gives : (v : Val) → ent 𝓤 ((Refuses 𝓛 at_mem run).post (at_noted 𝓛 at_mem run κ q c) v)
      (H.⇛ (ex 𝓤 (λ (t : Bool). guard 𝓤 (v ≡ vbool t) (A.lft κ q))))
  refuses_gives v =
      qed 𝓛 (raw ((Refuses 𝓛 at_mem run).post (at_noted 𝓛 at_mem run κ q c) v) ∷ []) ∵ updating ! $
      use1 𝓛 (later (some (λ (t : Bool). ((‵ (flft κ q) ⊛ ‵ ftrue) ⊛ ‵ (bool.own_val t (v ∷ []))) ⊛ some
      (λ (ws : Unit {0} × Unit {0}). ‵ (fsep ftrue ftrue) ⊛ ‵ ftrue)))) (id⊢ 𝓤 _) $ await ! tt $ pick ! (λ t.
      split ! $ split ! $ move ! (1 ∷ []) $ feq_l !
      (λ e. split ! $ at_once ! $ show ! (λ (t' : Bool). guard 𝓤 (v ≡ vbool t') (A.lft κ q)) t $ check !
      (ap only e) $ keep !
      (0 ∷ []) $ done !))

  pub take_back_gives : (v : Val) → ent 𝓤 ((TakesBack 𝓛 at_mem run).post (at_noted 𝓛 at_mem run κ q c) v)
      (H.⇛ (guard 𝓤 (v ≡ vunit) (A.lft κ q)))
  take_back_gives v =
      qed 𝓛 (raw ((TakesBack 𝓛 at_mem run).post (at_noted 𝓛 at_mem run κ q c) v) ∷ []) ∵ updating ! $
      use1 𝓛 (later (some (λ (r : Unit {0}). ((‵ (flft κ q) ⊛ ‵ ftrue) ⊛ ‵ (unit.own_val r (v ∷ []))) ⊛ some
      (λ (ws : Unit {0} × Unit {0}). ‵ (fsep ftrue ftrue) ⊛ ‵ ftrue)))) (id⊢ 𝓤 _) $ await ! tt $ pick ! (λ r.
      split ! $ split ! $ move ! (1 ∷ []) $ feq_l !
      (λ e. split ! $ at_once ! $ check ! (ap only e) $ keep ! (0 ∷ []) $ done !))
