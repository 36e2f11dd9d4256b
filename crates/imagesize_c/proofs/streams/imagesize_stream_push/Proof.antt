-- `imagesize_stream_push` meets its contract: the memory behind the pointer is lent for a lifetime made for the call of
-- `push_on`, and comes back once that is over. All other parameters are passed on as they are.
use Rattle.imagesize_c.proofs.Walks.{◌≡◌, ℕ, true, false, List, [], ◌∷◌, ◌+◌, ◌≤◌, length, refl, w32, MutBor, proved, full_share, id⊢, sep, flft, flent, named, Val, vptr, fact, tables, WpFn, sem, ‵, raw, ◌⊛◌, some, later, prop, ◌$◌, ◌∵◌, !, qed, done, move, keep, use1, use2, use3, split, join, fsplit, pick, await, regoal, suffices, frame, group, show, Body, lft_new, lft_end, enter, addr, stop, no_more, and_then, returns, alloc_all, pass_all, free_all, look_at, get, through, sets, lands_as, u8, u32, u64, yes, Is, shows, lends_ref, ref_back, mem, part_at, uint_Lawful, Ptr, ptr_val, RawPtr, block_ptr, lies_at, in_a_block, rawptr_vals, rawptr_Tells, MutRef, mut_vals, mut_Tells, plain, ShrSlice, slice_val, shr_slice_vals, shr_slice_Tells, nothing, heard, peeks, calls_at, lasts, triple_of, framed, Stays, walk_of, says, stay_dropped, Goes-dropped, gave_ref, Goes-gave_ref, ends_at, RattleType, owns, alive}
use Rattle.imagesize_stream.specs.contracts.probe.StreamProbe.{the_row as R}
use Rattle.imagesize_stream.specs.declared.probe.StreamProbe.{StreamProbe}
use Rattle.imagesize_stream.specs.Pushed.{Came, answer_of, told_of}
use Rattle.std.specs.Result.{result_ok}
use Rattle.imagesize.specs.Meaning.{kind_of, meaning}
use Rattle.imagesize_pieces.specs.Stream.{AllBelow}
use Rattle.imagesize_c.specs.Status.{is_answered, is_stop_status, is_wanted, status_of}
use Rattle.imagesize_c.specs.Streams.{GoesOn, OfEach, TellsProbed}
use Rattle.imagesize_c.specs.Told.{TellsSize, TellsType}
use Rattle.imagesize_c.specs.contracts.streams.imagesize_stream_push as f
use Rattle.imagesize_c.proofs.streams.imagesize_stream_push.Statement.{statement}
use Rattle.imagesize_c.proofs.streams.imagesize_stream_push.Code as code
use Rattle.imagesize_c.specs.contracts.streams.push_on as g
use Rattle.imagesize_c.proofs.streams.push_on.Met.{met}

abbrev stayed : Stays f.ended.signature.params f.ended.kept
stayed =
    let number = gave_ref {n = 5} (1 ∷ []) tt (plain (λ _. u32)) in
    let compression = gave_ref {n = 5} (2 ∷ []) tt (plain (λ _. u32)) in
    let width = gave_ref {n = 5} (3 ∷ []) tt (plain (λ _. u64)) in
    let height = gave_ref {n = 5} (4 ∷ []) tt (plain (λ _. u64)) in
    (stay_dropped _ yes, (stay_dropped _ yes, (number, (compression, (width, (height, tt))))))

pub imagesize_stream_push_spec : {M : Type 1} → statement M
imagesize_stream_push_spec 𝓤 𝓛 𝓜 𝓡 wired =
    let c = f.clauses 𝓛 𝓜.mem 𝓡.returns in let W = walk_of 𝓛 f.ended stayed c in let 𝓣 = tables 𝓤 𝓛.H 𝓜 𝓡 𝓡.env in
    let pointer = Goes-dropped 𝓛 5 (plain (λ _. RawPtr)) yes (λ κs x w. refl) in
    let chunk = Goes-dropped 𝓛 5 (plain (λ κs. ShrSlice (named 0) κs.0 u8)) yes (λ κs x w. refl) in
    let number = Goes-gave_ref 𝓛 5 1 tt (plain (λ _. u32)) in
    let compression = Goes-gave_ref 𝓛 5 2 tt (plain (λ _. u32)) in
    let width = Goes-gave_ref 𝓛 5 3 tt (plain (λ _. u64)) in
    let height = Goes-gave_ref 𝓛 5 4 tt (plain (λ _. u64)) in
    proved 𝓛 f.ended stayed c 𝓜 𝓡 (pointer, (chunk, (number, (compression, (width, (height, tt))))))
    f.Key.name code.function (code.unfolded 𝓤 𝓛.H 𝓜 𝓡 wired)
    (λ κs. (rawptr_vals, (shr_slice_vals, (mut_vals, (mut_vals, (mut_vals, (mut_vals, tt)))))))
    (λ κs.
    let chunk = shr_slice_Tells (named 0) κs.0 u8 in let number = mut_Tells (named 1) κs.1.0 u32 in
    let compression = mut_Tells (named 2) κs.1.1.0 u32 in let width = mut_Tells (named 3) κs.1.1.1.0 u64 in
    let height = mut_Tells (named 4) κs.1.1.1.1.0 u64 in
    (rawptr_Tells, (chunk, (number, (compression, (width, (height, tt))))))) (λ κs qs bounds a held are.
    let chunk = a.1.0 in let number = a.1.1.0 in let compression = a.1.1.1.0 in let width = a.1.1.1.1.0 in
    let height = a.1.1.1.1.1.0 in
    let vss : List Val × (List Val × (List Val × (List Val × (List Val × Unit {0})))) = (
      shr_slice_vals chunk,
      (mut_vals number, (mut_vals compression, (mut_vals width, (mut_vals height, tt)))),
    ) in
    let y : Ptr → W.Ghost = λ p. ((κs, qs, bounds, (p, a.1), (rawptr_vals p, vss)), held) in
    let Rs : List RattleType = ShrSlice (named 0) κs.0 u8 ∷ MutRef (named 1) κs.1.0 u32
    ∷ MutRef (named 2) κs.1.1.0 u32 ∷ MutRef (named 3) κs.1.1.1.0 u64 ∷ MutRef (named 4) κs.1.1.1.1.0 u64 ∷ [] in
    let Tokens = raw (alive 𝓛 f.signature κs qs) in
    let Tells = λ (after : StreamProbe) (n m w h r : ℕ).
    TellsProbed (answer_of after) r number.now n compression.now m width.now w height.now h in
    let Facts = λ (after : StreamProbe) (n m w h r : ℕ).
    raw (fact 𝓤 (OfEach held chunk.now (λ came d. is_wanted r ≡ false → r ≡ status_of (meaning d 0).answer))) ⊛
    raw (fact 𝓤 (OfEach held chunk.now (λ came d. is_wanted r ≡ false
    → TellsType (result_ok (kind_of d 0).answer) number.now n compression.now m))) ⊛
    raw (fact 𝓤 (OfEach held chunk.now
    (λ came d. is_wanted r ≡ false → TellsSize (meaning d 0).answer width.now w height.now h))) ⊛
    raw (fact 𝓤 (OfEach held chunk.now (λ came d. is_wanted r ≡ true → length d ≡ told_of held
    → AllBelow (length came) (meaning d 0).marks → ⊥))) ⊛
    raw (fact 𝓤 ((front : List ℕ) → Came held front → is_wanted r ≡ true
    → told_of held ≤ length front + length chunk.now → ⊥)) ⊛
    raw (fact 𝓤 (is_wanted r ≡ true → (n ≡ number.now) × (m ≡ compression.now))) ⊛
    raw (fact 𝓤 (is_answered r ≡ false → (w ≡ width.now) × (h ≡ height.now))) ⊛
    raw (fact 𝓤 (is_stop_status r ≡ false)) ⊛
    raw (fact 𝓤 (GoesOn held after chunk.now)) ⊛
    raw (fact 𝓤 (Tells after n m w h r)) in
    qed 𝓛 ((Tokens ⊛ ‵ (RawPtr.own_val a.0 (rawptr_vals a.0)) ⊛ ‵ (owns Rs a.1 vss))
    ∷ ‵ (lies_at R full_share a.0 held) ∷ []) ∵
    split ! $ move ! (1 ∷ []) $ split ! $ keep ! (3 ∷ 2 ∷ 1 ∷ []) $
    -- [what lies there; the tokens; what the other parameters own]
    in_a_block ! a.0 (λ p. lies_at R full_share p held) (id⊢ 𝓤 _) (λ b o e.
    regoal ! (λ p. prop (WpFn 𝓤 𝓛.H 𝓣.C 𝓣.Λ code.function
    (ptr_val p ∷ slice_val chunk.ref_ptr (length chunk.now) ∷ vptr number.ref_ptr.0 number.ref_ptr.1
    ∷ vptr compression.ref_ptr.0 compression.ref_ptr.1 ∷ vptr width.ref_ptr.0 width.ref_ptr.1
    ∷ vptr height.ref_ptr.0 height.ref_ptr.1 ∷ []) (W.post (y p)))) e refl $
    enter ! _ _ _ _ _ $ alloc_all ! (λ l.
    pass_all ! refl
    ((tt, tt), ((tt, (tt, (record { fits = are.1.0.0.1.0 }, tt))), ((tt, tt), ((tt, tt), ((tt, tt), ((tt, tt), tt)))))) $
    -- `&mut *p` for each pointer and each `&mut`
    sets ! (addr ! (through ! refl (stop !))) refl (tt, tt) $
    sets ! (addr ! (through ! refl (stop !))) refl (tt, tt) $
    sets ! (addr ! (through ! refl (stop !))) refl (tt, tt) $
    sets ! (addr ! (through ! refl (stop !))) refl (tt, tt) $
    sets ! (addr ! (through ! refl (stop !))) refl (tt, tt) $
    lft_new ! tt (λ α. let κ = α ∷ [] in move ! (1 ∷ []) $
    let Lent : ℕ → MutBor StreamProbe = λ γ. record { ref_ptr = (b, o); ghost_name = γ; now = held } in
    use1 𝓛 (later (some (λ (γ : ℕ). ‵ ((MutRef (named 0) κ R).own_val (Lent γ) (vptr b o ∷ []))
    ⊛ ‵ (flent κ (Body (mem R) b o γ))))) (lends_ref 𝓛 R (named 0) κ held b o) $
    await ! tt $ pick ! (λ γ. split ! $
    -- [the loan; what the lender keeps; the token of κ; the tokens; what the others own; the locals]
    let G = triple_of 𝓛 g.signature (g.spec 𝓛 𝓜.mem 𝓡.returns) in
    let z : G.Ghost = (((κ, κs), (full_share, qs), tt, (Lent γ, a.1), (vptr b o ∷ [], vss)), tt) in
    move ! (0 ∷ 4 ∷ []) $ join ! $ move ! (2 ∷ 3 ∷ []) $ join ! $ join ! $ nothing ! $ move ! (1 ∷ 0 ∷ []) $
    use2 𝓛 (raw (G.pre z)) (id⊢ 𝓤 _) $
    calls_at ! (framed 𝓤 𝓛.H 𝓜 𝓣) G (met 𝓤 𝓛 𝓜 𝓡 (code.calls-imagesize_c::streams::push_on 𝓡.env wired)) z
    (and_then ! (get ! refl) (and_then ! (get ! refl) (and_then ! (get ! refl) (and_then ! (get ! refl)
    (and_then ! (get ! refl) (and_then ! (get ! refl) (no_more !))))))) (λ v.
    use1 𝓛 (later (some (λ (r : ℕ). ((‵ (flft κ full_share) ⊛ Tokens) ⊛ ‵ (u32.own_val r (v ∷ []))) ⊛
    some (λ (ws : StreamProbe × (Unit {0} × (ℕ × (ℕ × (ℕ × (ℕ × Unit {0})))))). ‵ (lasts g.ended z.0.0 z.0.3 ws)
    ⊛ Facts ws.0 ws.1.1.0 ws.1.1.1.0 ws.1.1.1.1.0 ws.1.1.1.1.1.0 r)))) (id⊢ 𝓤 _) $
    await ! tt $ pick ! (λ r. split ! $ split ! $ split ! $ lft_end ! tt $
    -- [κ is over; the tokens; the result; what is said of the last values; what the lender keeps]
    move ! (3 ∷ []) $ pick ! (λ ws. split ! $ fsplit ! $ fsplit ! $
    -- [the loan's last value; its borrow; the other last values; the facts; κ is over; the tokens; the result;
    -- what the lender keeps]
    move ! (4 ∷ 7 ∷ 0 ∷ []) $ use3 𝓛 (later (‵ (part_at R full_share ws.0 b o))) (ref_back 𝓛 R κ γ ws.0 b o) $
    await ! tt $
    -- [what lies there; the loan's borrow; the other last values; the facts; the tokens; the result]
    move ! (5 ∷ []) $ peeks ! u32 (Is u32) (shows 𝓛 u32) r (v ∷ []) (λ is.
    lands_as ! refl refl ((uint_Lawful 𝓛 w32).typed r _ is).0 $ returns ! (look_at ! 0 refl) $ free_all ! refl $
    suffices ! _ (ends_at 𝓛 f.ended stayed c (y (block_ptr b o)) v r (tt, ws.1)
    (tt, (tt, (tt, (tt, (tt, (tt, tt))))))) $
    -- [the result; what lies there; the loan's borrow; the other last values; the facts; the tokens]
    keep ! (3 ∷ 0 ∷ 1 ∷ 4 ∷ 5 ∷ []) $ nothing ! $ join ! $ move ! (4 ∷ 0 ∷ 1 ∷ []) $ group ! 3 $ frame ! $
    -- [what lies there; the facts]
    move ! (1 ∷ []) $ split ! $ frame ! $ split ! $ frame ! $ split ! $ frame ! $ split ! $ frame ! $
    split ! $ frame ! $ split ! $ frame ! $ split ! $ frame ! $ split ! $ frame ! $
    split ! $ heard ! _ (λ goes_on. heard ! _ (λ told.
    show ! (λ (after : StreamProbe). sep 𝓤 (sem 𝓛 (lies_at R full_share (block_ptr b o) after))
    (fact 𝓤 (GoesOn held after chunk.now × Tells after ws.1.1.0 ws.1.1.1.0 ws.1.1.1.1.0 ws.1.1.1.1.1.0 r))) ws.0 $
    says ! (goes_on, told) $ done !)))))))))))
