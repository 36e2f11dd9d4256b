-- `imagesize_rounds_supply` meets its contract: the memory behind the pointer is lent for a lifetime made for the call of
-- `supply_to`, and comes back once that is over. All other parameters are passed on as they are.
use Rattle.imagesize_c.proofs.Walks.{ℕ, List, [], ◌∷◌, length, refl, ap, w64, MutBor, proved, full_share, id⊢, sep, flft, flent, named, Val, vunit, vint, vptr, fact, tables, WpFn, sem, ‵, raw, ◌⊛◌, some, later, prop, ◌$◌, ◌∵◌, !, qed, done, move, keep, use1, use2, use3, split, join, fsplit, feq_i, feq_l, pick, await, regoal, suffices, frame, group, show, Body, lft_new, lft_end, enter, of_opd, unit_lit, addr, stop, no_more, and_then, returns, alloc_all, pass_all, free_all, look_at, get, through, sets, lands_as, u8, u64, unit, yes, lends_ref, ref_back, mem, part_at, Ptr, ptr_val, RawPtr, block_ptr, lies_at, in_a_block, rawptr_vals, rawptr_Tells, uint_vals, uint_Tells, MutRef, plain, ShrSlice, slice_val, shr_slice_vals, shr_slice_Tells, nothing, heard, only, calls_at, lasts, triple_of, framed, Stays, walk_of, says, stay_dropped, Goes-dropped, ends_at, RattleType, owns, alive}
use Rattle.imagesize_stream.specs.contracts.parts.PartsProbe.{the_row as R}
use Rattle.imagesize_stream.specs.declared.parts.PartsProbe.{PartsProbe}
use Rattle.imagesize_c.specs.Rounds.{TakesPart}
use Rattle.imagesize_c.specs.contracts.rounds.imagesize_rounds_supply as f
use Rattle.imagesize_c.proofs.rounds.imagesize_rounds_supply.Statement.{statement}
use Rattle.imagesize_c.proofs.rounds.imagesize_rounds_supply.Code as code
use Rattle.imagesize_c.specs.contracts.rounds.supply_to as g
use Rattle.imagesize_c.proofs.rounds.supply_to.Met.{met}

abbrev stayed : Stays f.ended.signature.params f.ended.kept
stayed = (stay_dropped _ yes, (stay_dropped _ yes, (stay_dropped _ yes, tt)))

pub imagesize_rounds_supply_spec : {M : Type 1} → statement M
imagesize_rounds_supply_spec 𝓤 𝓛 𝓜 𝓡 wired =
    let c = f.clauses 𝓛 𝓜.mem 𝓡.returns in let W = walk_of 𝓛 f.ended stayed c in let 𝓣 = tables 𝓤 𝓛.H 𝓜 𝓡 𝓡.env in
    proved 𝓛 f.ended stayed c 𝓜 𝓡 (
      Goes-dropped 𝓛 1 (plain (λ _. RawPtr)) yes (λ κs x w. refl),
      (
        Goes-dropped 𝓛 1 (plain (λ _. u64)) yes (λ κs x w. refl),
        (Goes-dropped 𝓛 1 (plain (λ κs. ShrSlice (named 0) κs.0 u8)) yes (λ κs x w. refl), tt),
      ),
    )
    f.Key.name code.function (code.unfolded 𝓤 𝓛.H 𝓜 𝓡 wired)
    (λ κs. (rawptr_vals, (uint_vals w64, (shr_slice_vals, tt))))
    (λ κs. (rawptr_Tells, (uint_Tells w64, (shr_slice_Tells (named 0) κs.0 u8, tt)))) (λ κs qs bounds a held are.
    let offset = a.1.0 in let bytes = a.1.1.0 in
    let vss : List Val × (List Val × Unit {0}) = (uint_vals w64 offset, (shr_slice_vals bytes, tt)) in
    let y : Ptr → W.Ghost = λ p. ((κs, qs, bounds, (p, a.1), (rawptr_vals p, vss)), held) in
    let Rs : List RattleType = u64 ∷ ShrSlice (named 0) κs.0 u8 ∷ [] in
    let Tokens = raw (alive 𝓛 f.signature κs qs) in
    qed 𝓛 ((Tokens ⊛ ‵ (RawPtr.own_val a.0 (rawptr_vals a.0)) ⊛ ‵ (owns Rs a.1 vss))
    ∷ ‵ (lies_at R full_share a.0 held) ∷ []) ∵
    split ! $ move ! (1 ∷ []) $ split ! $ keep ! (3 ∷ 2 ∷ 1 ∷ []) $
    -- [what lies there; the tokens; what the other parameters own]
    in_a_block ! a.0 (λ p. lies_at R full_share p held) (id⊢ 𝓤 _) (λ b o e.
    regoal ! (λ p. prop (WpFn 𝓤 𝓛.H 𝓣.C 𝓣.Λ code.function
    (ptr_val p ∷ vint w64 offset ∷ slice_val bytes.ref_ptr (length bytes.now) ∷ []) (W.post (y p)))) e refl $
    enter ! _ _ _ _ _ $ alloc_all ! (λ l.
    pass_all ! refl
    ((tt, tt), ((tt, record { fits = are.1.0.1 }), ((tt, (tt, (record { fits = are.1.1.0.0.1.0 }, tt))), tt))) $
    sets ! (addr ! (through ! refl (stop !))) refl (tt, tt) $
    lft_new ! tt (λ α. let κ = α ∷ [] in move ! (1 ∷ []) $
    let Lent : ℕ → MutBor PartsProbe = λ γ. record { ref_ptr = (b, o); ghost_name = γ; now = held } in
    use1 𝓛 (later (some (λ (γ : ℕ). ‵ ((MutRef (named 0) κ R).own_val (Lent γ) (vptr b o ∷ []))
    ⊛ ‵ (flent κ (Body (mem R) b o γ))))) (lends_ref 𝓛 R (named 0) κ held b o) $
    await ! tt $ pick ! (λ γ. split ! $
    -- [the loan; what the lender keeps; the token of κ; the tokens; what the others own; the locals]
    let G = triple_of 𝓛 g.signature (g.spec 𝓛 𝓜.mem 𝓡.returns) in
    let z : G.Ghost = (((κ, κs), (full_share, qs), tt, (Lent γ, a.1), (vptr b o ∷ [], vss)), tt) in
    move ! (0 ∷ 4 ∷ []) $ join ! $ move ! (2 ∷ 3 ∷ []) $ join ! $ join ! $ nothing ! $ move ! (1 ∷ 0 ∷ []) $
    use2 𝓛 (raw (G.pre z)) (id⊢ 𝓤 _) $
    calls_at ! (framed 𝓤 𝓛.H 𝓜 𝓣) G (met 𝓤 𝓛 𝓜 𝓡 (code.calls-imagesize_c::rounds::supply_to 𝓡.env wired)) z
    (and_then ! (get ! refl) (and_then ! (get ! refl) (and_then ! (get ! refl) (no_more !)))) (λ v.
    use1 𝓛 (later (some (λ (r : Unit {0}). ((‵ (flft κ full_share) ⊛ Tokens) ⊛ ‵ (unit.own_val r (v ∷ []))) ⊛
    some (λ (ws : PartsProbe × (Unit {0} × (Unit {0} × Unit {0}))). ‵ (lasts g.ended z.0.0 z.0.3 ws)
    ⊛ raw (fact 𝓤 (TakesPart held ws.0 offset bytes.now)))))) (id⊢ 𝓤 _) $
    await ! tt $ pick ! (λ r. split ! $ split ! $ split ! $ lft_end ! tt $
    -- [κ is over; the tokens; the result; what is said of the last values; what the lender keeps]
    move ! (3 ∷ []) $ pick ! (λ ws. split ! $ fsplit ! $ fsplit ! $
    -- [the loan's last value; its borrow; the other last values; the fact; κ is over; the tokens; the result;
    -- what the lender keeps]
    move ! (4 ∷ 7 ∷ 0 ∷ []) $ use3 𝓛 (later (‵ (part_at R full_share ws.0 b o))) (ref_back 𝓛 R κ γ ws.0 b o) $
    await ! tt $
    -- [what lies there; the loan's borrow; the other last values; the fact; the tokens; the result]
    move ! (5 ∷ []) $ feq_l ! (λ is_unit. lands_as ! (ap only is_unit) refl (tt, tt) $
    sets ! (of_opd ! (unit_lit !)) refl (tt, tt) $ returns ! (look_at ! 0 refl) $ free_all ! refl $
    suffices ! _ (ends_at 𝓛 f.ended stayed c (y (block_ptr b o)) vunit tt (tt, (tt, (tt, tt))) (tt, (tt, (tt, tt)))) $
    -- [what lies there; the loan's borrow; the other last values; the fact; the tokens]
    keep ! (0 ∷ 3 ∷ 4 ∷ []) $ feq_i ! _ (vunit ∷ []) _ refl $
    nothing ! $ nothing ! $ join ! $ nothing ! $ join ! $ nothing ! $ join ! $ move ! (4 ∷ 0 ∷ 1 ∷ []) $ group ! 3 $
    frame ! $
    -- [what lies there; the fact]
    move ! (1 ∷ []) $ heard ! _ (λ takes.
    show ! (λ (after : PartsProbe). sep 𝓤 (sem 𝓛 (lies_at R full_share (block_ptr b o) after))
    (fact 𝓤 (TakesPart held after offset bytes.now))) ws.0 $
    says ! takes $ done !))))))))))
