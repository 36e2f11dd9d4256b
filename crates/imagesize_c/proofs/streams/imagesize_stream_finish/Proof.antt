-- `imagesize_stream_finish` meets its contract: the stream is moved out from behind the pointer, which leaves free memory
-- there.
use Rattle.imagesize_c.proofs.Walks.{◌≡◌, ℕ, false, List, [], ◌∷◌, refl, w32, proved, full_share, id⊢, fat, froom, named, Val, vptr, fact, tables, WpFn, ‵, raw, ◌⊛◌, some, later, prop, ◌$◌, ◌∵◌, !, qed, done, move, keep, drop, use1, use2, split, join, fsplit, pick, await, regoal, suffices, frame, group, enter, of_opd, addr, stop, load, look, no_more, and_then, returns, alloc_all, pass_all, free_all, look_at, get, through, sets, lands_as, u32, u64, yes, Is, shows, lone, part_out, uint_Lawful, Ptr, ptr_val, RawPtr, block_ptr, lies_at, in_a_block, rawptr_vals, rawptr_Tells, MutRef, mut_vals, mut_Tells, plain, nothing, peeks, calls_at, lasts, triple_of, framed, Stays, walk_of, stay_dropped, Goes-dropped, gave_ref, Goes-gave_ref, ends_at, RattleType, owns, alive}
use Rattle.imagesize_stream.specs.contracts.probe.StreamProbe.{the_row as R}
use Rattle.imagesize_stream.proofs.probe.StreamProbe.TheLaws.{the_row_laws}
use Rattle.imagesize_stream.specs.Pushed.{Came}
use Rattle.std.specs.Result.{result_ok}
use Rattle.imagesize.specs.Meaning.{kind_of, meaning}
use Rattle.imagesize_c.specs.Status.{is_answered, is_stop_status, is_wanted, status_of}
use Rattle.imagesize_c.specs.Told.{TellsSize, TellsType}
use Rattle.imagesize_c.specs.contracts.streams.imagesize_stream_finish as f
use Rattle.imagesize_c.proofs.streams.imagesize_stream_finish.Statement.{statement}
use Rattle.imagesize_c.proofs.streams.imagesize_stream_finish.Code as code
use Rattle.imagesize_c.specs.contracts.streams.finish as g
use Rattle.imagesize_c.proofs.streams.finish.Met.{met}

abbrev stayed : Stays f.ended.signature.params f.ended.kept
stayed =
    let number = gave_ref {n = 4} (0 ∷ []) tt (plain (λ _. u32)) in
    let compression = gave_ref {n = 4} (1 ∷ []) tt (plain (λ _. u32)) in
    let width = gave_ref {n = 4} (2 ∷ []) tt (plain (λ _. u64)) in
    let height = gave_ref {n = 4} (3 ∷ []) tt (plain (λ _. u64)) in
    (stay_dropped _ yes, (number, (compression, (width, (height, tt)))))

pub imagesize_stream_finish_spec : {M : Type 1} → statement M
imagesize_stream_finish_spec 𝓤 𝓛 𝓜 𝓡 wired =
    let c = f.clauses 𝓛 𝓜.mem 𝓡.returns in let W = walk_of 𝓛 f.ended stayed c in let 𝓣 = tables 𝓤 𝓛.H 𝓜 𝓡 𝓡.env in
    let pointer = Goes-dropped 𝓛 4 (plain (λ _. RawPtr)) yes (λ κs x w. refl) in
    let number = Goes-gave_ref 𝓛 4 0 tt (plain (λ _. u32)) in
    let compression = Goes-gave_ref 𝓛 4 1 tt (plain (λ _. u32)) in
    let width = Goes-gave_ref 𝓛 4 2 tt (plain (λ _. u64)) in
    let height = Goes-gave_ref 𝓛 4 3 tt (plain (λ _. u64)) in
    proved 𝓛 f.ended stayed c 𝓜 𝓡 (pointer, (number, (compression, (width, (height, tt)))))
    f.Key.name code.function (code.unfolded 𝓤 𝓛.H 𝓜 𝓡 wired)
    (λ κs. (rawptr_vals, (mut_vals, (mut_vals, (mut_vals, (mut_vals, tt))))))
    (λ κs.
    let number = mut_Tells (named 0) κs.0 u32 in let compression = mut_Tells (named 1) κs.1.0 u32 in
    let width = mut_Tells (named 2) κs.1.1.0 u64 in let height = mut_Tells (named 3) κs.1.1.1.0 u64 in
    (rawptr_Tells, (number, (compression, (width, (height, tt)))))) (λ κs qs bounds a held are.
    let number = a.1.0 in let compression = a.1.1.0 in let width = a.1.1.1.0 in let height = a.1.1.1.1.0 in
    let vss : List Val × (List Val × (List Val × (List Val × Unit {0}))) =
    (mut_vals number, (mut_vals compression, (mut_vals width, (mut_vals height, tt)))) in
    let y : Ptr → W.Ghost = λ p. ((κs, qs, bounds, (p, a.1), (rawptr_vals p, vss)), held) in
    let Rs : List RattleType = MutRef (named 0) κs.0 u32 ∷ MutRef (named 1) κs.1.0 u32
    ∷ MutRef (named 2) κs.1.1.0 u64 ∷ MutRef (named 3) κs.1.1.1.0 u64 ∷ [] in
    let Tokens = raw (alive 𝓛 f.signature κs qs) in
    let Facts = λ (n m w h r : ℕ).
    raw (fact 𝓤 ((front : List ℕ) → Came held front → r ≡ status_of (meaning front 0).answer)) ⊛
    raw (fact 𝓤 ((front : List ℕ) → Came held front
    → TellsType (result_ok (kind_of front 0).answer) number.now n compression.now m)) ⊛
    raw (fact 𝓤 ((front : List ℕ) → Came held front → TellsSize (meaning front 0).answer width.now w height.now h)) ⊛
    raw (fact 𝓤 (is_wanted r ≡ false)) ⊛
    raw (fact 𝓤 (is_answered r ≡ false → (w ≡ width.now) × (h ≡ height.now))) ⊛
    raw (fact 𝓤 (is_stop_status r ≡ false)) in
    qed 𝓛 ((Tokens ⊛ ‵ (RawPtr.own_val a.0 (rawptr_vals a.0)) ⊛ ‵ (owns Rs a.1 vss))
    ∷ ‵ (lies_at R full_share a.0 held) ∷ []) ∵
    split ! $ move ! (1 ∷ []) $ split ! $ keep ! (3 ∷ 2 ∷ 1 ∷ []) $
    -- [what lies there; the tokens; what the other parameters own]
    in_a_block ! a.0 (λ p. lies_at R full_share p held) (id⊢ 𝓤 _) (λ b o e.
    regoal ! (λ p. prop (WpFn 𝓤 𝓛.H 𝓣.C 𝓣.Λ code.function (ptr_val p ∷ vptr number.ref_ptr.0 number.ref_ptr.1
    ∷ vptr compression.ref_ptr.0 compression.ref_ptr.1 ∷ vptr width.ref_ptr.0 width.ref_ptr.1
    ∷ vptr height.ref_ptr.0 height.ref_ptr.1 ∷ []) (W.post (y p)))) e refl $
    use1 𝓛 (some (λ (v : Val). ‵ (fat full_share (lone R.mir) b o v) ⊛ ‵ (R.own_val held (v ∷ []))))
    (part_out 𝓛 R refl full_share held b o) $
    pick ! (λ v. split ! $ move ! (1 ∷ []) $ peeks ! R (Is R) (shows 𝓛 R) held (v ∷ []) (λ is.
    enter ! _ _ _ _ _ $ alloc_all ! (λ l.
    pass_all ! refl ((tt, tt), ((tt, tt), ((tt, tt), ((tt, tt), ((tt, tt), tt))))) $
    -- [what the stream owns; its cell; the tokens; what the others own; the locals]
    sets ! (of_opd ! (load ! (through ! refl (stop !)) (look ! 1 refl))) refl
    ((the_row_laws.lawful 𝓛).typed held (v ∷ []) is).0 $
    sets ! (addr ! (through ! refl (stop !))) refl (tt, tt) $
    sets ! (addr ! (through ! refl (stop !))) refl (tt, tt) $
    sets ! (addr ! (through ! refl (stop !))) refl (tt, tt) $
    sets ! (addr ! (through ! refl (stop !))) refl (tt, tt) $
    let G = triple_of 𝓛 g.signature (g.spec 𝓛 𝓜.mem 𝓡.returns) in
    let z : G.Ghost = ((κs, qs, tt, (held, a.1), (v ∷ [], vss)), tt) in
    move ! (0 ∷ 3 ∷ []) $ join ! $ move ! (2 ∷ 0 ∷ []) $ join ! $ nothing ! $ move ! (1 ∷ 0 ∷ []) $
    use2 𝓛 (raw (G.pre z)) (id⊢ 𝓤 _) $
    calls_at ! (framed 𝓤 𝓛.H 𝓜 𝓣) G (met 𝓤 𝓛 𝓜 𝓡 (code.calls-imagesize_c::streams::finish 𝓡.env wired)) z
    (and_then ! (get ! refl) (and_then ! (get ! refl) (and_then ! (get ! refl) (and_then ! (get ! refl)
    (and_then ! (get ! refl) (no_more !)))))) (λ w.
    use1 𝓛 (later (some (λ (r : ℕ). (Tokens ⊛ ‵ (u32.own_val r (w ∷ []))) ⊛
    some (λ (ws : Unit {0} × (ℕ × (ℕ × (ℕ × (ℕ × Unit {0}))))). ‵ (lasts g.ended z.0.0 z.0.3 ws)
    ⊛ Facts ws.1.0 ws.1.1.0 ws.1.1.1.0 ws.1.1.1.1.0 r)))) (id⊢ 𝓤 _) $
    await ! tt $ pick ! (λ r. split ! $ split ! $ move ! (2 ∷ []) $ pick ! (λ ws. split ! $
    -- [the last values; the facts; the tokens; the result; the cell]
    fsplit ! $ drop ! $ move ! (4 ∷ []) $ use1 𝓛 (‵ (froom (lone R.mir) b o)) (𝓛.laws.at_room (lone R.mir) b o v) $
    -- [the memory; the last values; the facts; the tokens; the result]
    move ! (4 ∷ []) $ peeks ! u32 (Is u32) (shows 𝓛 u32) r (w ∷ []) (λ fits.
    lands_as ! refl refl ((uint_Lawful 𝓛 w32).typed r _ fits).0 $ returns ! (look_at ! 0 refl) $ free_all ! refl $
    suffices ! _ (ends_at 𝓛 f.ended stayed c (y (block_ptr b o)) w r (tt, ws.1) (tt, (tt, (tt, (tt, (tt, tt)))))) $
    -- [the result; the memory; the last values; the facts; the tokens]
    move ! (2 ∷ []) $ nothing ! $ join ! $ move ! (4 ∷ 0 ∷ 1 ∷ []) $ group ! 3 $ frame ! $
    -- [the memory; the facts]
    move ! (1 ∷ []) $ split ! $ frame ! $ split ! $ frame ! $ split ! $ frame ! $
    split ! $ frame ! $ split ! $ frame ! $ frame ! $ done !)))))))))
