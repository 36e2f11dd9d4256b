-- `imagesize_rounds_new` meets its contract: what `begin` returns is written into the memory behind the pointer.
use Rattle.imagesize_c.proofs.Walks.{[], ◌∷◌, refl, w64, proved, full_share, id⊢, sep, ftrue, vunit, vint, fact, tables, WpFn, sem, ‵, raw, ◌⊛◌, some, later, prop, ◌$◌, ◌∵◌, !, qed, done, move, keep, drop, use2, use1, split, join, feq_i, pick, await, regoal, suffices, frame, group, show, enter, of_opd, stop, unit_lit, no_more, and_then, assigns, init, returns, alloc_all, pass_all, free_all, look_at, get, through, sets, lands_as, u64, yes, Is, shows, part_at, part_in, Ptr, ptr_val, RawPtr, block_ptr, lies_at, room_at, in_a_block, rawptr_vals, rawptr_Tells, uint_vals, uint_Tells, plain, nothing, heard, peeks, calls_at, lasts, triple_of, framed, Stays, walk_of, says, stay_dropped, Goes-dropped, ends_at}
use Rattle.imagesize_stream.specs.contracts.parts.PartsProbe.{the_row as R}
use Rattle.imagesize_stream.proofs.parts.PartsProbe.TheLaws.{the_row_laws}
use Rattle.imagesize_stream.specs.declared.parts.PartsProbe.{PartsProbe}
use Rattle.imagesize_c.specs.Rounds.{Opens}
use Rattle.imagesize_c.specs.contracts.rounds.imagesize_rounds_new as f
use Rattle.imagesize_c.proofs.rounds.imagesize_rounds_new.Statement.{statement}
use Rattle.imagesize_c.proofs.rounds.imagesize_rounds_new.Code as code
use Rattle.imagesize_c.specs.contracts.rounds.begin as g
use Rattle.imagesize_c.proofs.rounds.begin.Met.{met}

abbrev stayed : Stays f.ended.signature.params f.ended.kept
stayed = (stay_dropped _ yes, (stay_dropped _ yes, tt))

pub imagesize_rounds_new_spec : {M : Type 1} → statement M
imagesize_rounds_new_spec 𝓤 𝓛 𝓜 𝓡 wired =
    let c = f.clauses 𝓛 𝓜.mem 𝓡.returns in let W = walk_of 𝓛 f.ended stayed c in let 𝓣 = tables 𝓤 𝓛.H 𝓜 𝓡 𝓡.env in
    proved 𝓛 f.ended stayed c 𝓜 𝓡 (
      Goes-dropped 𝓛 0 (plain (λ _. RawPtr)) yes (λ κs x w. refl),
      (Goes-dropped 𝓛 0 (plain (λ _. u64)) yes (λ κs x w. refl), tt),
    )
    f.Key.name code.function (code.unfolded 𝓤 𝓛.H 𝓜 𝓡 wired)
    (λ κs. (rawptr_vals, (uint_vals w64, tt))) (λ κs. (rawptr_Tells, (uint_Tells w64, tt))) (λ κs qs bounds a _ are.
    let total = a.1.0 in let ts = uint_vals w64 total in
    let y : Ptr → W.Ghost = λ p. ((κs, qs, bounds, (p, (total, tt)), (rawptr_vals p, (ts, tt))), tt) in
    let Total = ‵ (u64.own_val total ts) ⊛ ‵ ftrue in
    qed 𝓛 ((‵ ftrue ⊛ ‵ (RawPtr.own_val a.0 (rawptr_vals a.0)) ⊛ Total) ∷ ‵ (room_at R a.0) ∷ []) ∵
    split ! $ move ! (1 ∷ []) $ split ! $
    -- [the pointer; the number; nothing; the memory]
    keep ! (3 ∷ 1 ∷ 2 ∷ []) $
    in_a_block ! a.0 (λ p. room_at R p) (id⊢ 𝓤 _) (λ b o e.
    regoal ! (λ p. prop (WpFn 𝓤 𝓛.H 𝓣.C 𝓣.Λ code.function (ptr_val p ∷ vint w64 total ∷ []) (W.post (y p)))) e refl $
    let G = triple_of 𝓛 g.signature (g.spec 𝓛 𝓜.mem 𝓡.returns) in
    let z : G.Ghost = ((tt, tt, tt, (total, tt), (ts, tt)), tt) in
    move ! (2 ∷ 1 ∷ []) $ join ! $ nothing ! $ move ! (1 ∷ 0 ∷ []) $ use2 𝓛 (raw (G.pre z)) (id⊢ 𝓤 _) $
    enter ! _ _ _ _ _ $ alloc_all ! (λ l. pass_all ! refl ((tt, tt), ((tt, record { fits = are.1.0.1 }), tt)) $
    calls_at ! (framed 𝓤 𝓛.H 𝓜 𝓣) G (met 𝓤 𝓛 𝓜 𝓡 (code.calls-imagesize_c::rounds::begin 𝓡.env wired)) z
    (and_then ! (get ! refl) (no_more !)) (λ v.
    use1 𝓛 (later (some (λ (r : PartsProbe). (‵ ftrue ⊛ ‵ (R.own_val r (v ∷ []))) ⊛
    some (λ (ws : Unit {0} × Unit {0}). ‵ (lasts g.ended z.0.0 z.0.3 ws)
    ⊛ raw (fact 𝓤 (Opens r total)))))) (id⊢ 𝓤 _) $
    await ! tt $ pick ! (λ r. split ! $ split ! $ drop ! $ move ! (1 ∷ []) $ pick ! (λ ws. split ! $ drop ! $
    heard ! _ (λ begun.
    -- [the value; the memory; the locals]
    peeks ! R (Is R) (shows 𝓛 R) r (v ∷ []) (λ is. let good = ((the_row_laws.lawful 𝓛).typed r (v ∷ []) is).0 in
    lands_as ! refl refl good $
    assigns ! (of_opd ! (get ! refl)) (through ! refl (stop !)) (init ! 1 refl good) $
    sets ! (of_opd ! (unit_lit !)) refl (tt, tt) $ returns ! (look_at ! 0 refl) $ free_all ! refl $
    move ! (1 ∷ 0 ∷ []) $ use2 𝓛 (‵ (part_at R full_share r b o)) (part_in 𝓛 R refl full_share r b o v) $
    suffices ! _ (ends_at 𝓛 f.ended stayed c (y (block_ptr b o)) vunit tt (tt, (tt, tt)) (tt, (tt, tt))) $
    feq_i ! _ (vunit ∷ []) _ refl $ nothing ! $ nothing ! $ join ! $ nothing ! $ join ! $ nothing ! $ group ! 3 $
    frame ! $
    show ! (λ (after : PartsProbe). sep 𝓤 (sem 𝓛 (lies_at R full_share (block_ptr b o) after))
    (fact 𝓤 (Opens after total))) r $
    says ! begun $ done !))))))))
