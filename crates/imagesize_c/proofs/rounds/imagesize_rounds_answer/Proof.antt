-- `imagesize_rounds_answer` meets its contract: the memory behind the pointer is lent, as shared, for a lifetime made for the call
-- of `answer_by`, and comes back once that is over. All other parameters are passed on as they are.
use Rattle.std.specs.Prelude.{◌⊎◌, ◌<◌, ◌≤◌}
use Rattle.imagesize_c.proofs.Walks.{◌≡◌, ℕ, true, false, List, [], ◌∷◌, refl, w32, Bor, proved, full_share, id⊢, flft, flent, named, Val, vptr, fact, tables, WpFn, ‵, raw, ◌⊛◌, some, later, prop, ◌$◌, ◌∵◌, !, qed, done, move, keep, drop, use1, use2, split, join, fsplit, pick, await, regoal, suffices, frame, group, lft_new, lft_end, lent_back, enter, addr, stop, no_more, and_then, returns, alloc_all, pass_all, free_all, look_at, get, through, sets, lands_as, u32, u64, yes, Is, shows, lends_shr, part_at, uint_Lawful, Ptr, ptr_val, RawPtr, block_ptr, lies_at, in_a_block, rawptr_vals, rawptr_Tells, MutRef, mut_vals, mut_Tells, ShrRef, plain, nothing, peeks, calls_at, lasts, triple_of, framed, Stays, walk_of, stay_dropped, Goes-dropped, gave_ref, Goes-gave_ref, ends_at, RattleType, owns, alive, ⊑_static, Incl-refl}
use Rattle.imagesize_stream.specs.contracts.parts.PartsProbe.{the_row as R}
use Rattle.imagesize_stream.proofs.parts.PartsProbe.TheLaws.{the_row_laws}
use Rattle.imagesize_stream.specs.declared.parts.PartsProbe.{PartsProbe}
use Rattle.imagesize_stream.specs.Parts.{HasMarked, MayBe, next_of, total_of}
use Rattle.imagesize_source.specs.contracts.span.Span.{the_row as S}
use Rattle.imagesize_source.specs.declared.span.Span.{Span}
use Rattle.std.specs.Result.{result_ok}
use Rattle.imagesize.specs.Meaning.{kind_of, meaning}
use Rattle.imagesize.specs.Parted.{IsWithin, texts_of}
use Rattle.imagesize_pieces.specs.Stream.{AllBelow}
use Rattle.imagesize_c.specs.Rounds.{EndsEarly, TellsNext}
use Rattle.imagesize_c.specs.Status.{is_answered, is_stop_status, is_wanted, status_of}
use Rattle.imagesize_c.specs.Told.{TellsSize, TellsType}
use Rattle.imagesize_c.specs.contracts.rounds.imagesize_rounds_answer as f
use Rattle.imagesize_c.proofs.rounds.imagesize_rounds_answer.Statement.{statement}
use Rattle.imagesize_c.proofs.rounds.imagesize_rounds_answer.Code as code
use Rattle.imagesize_c.specs.contracts.rounds.answer_by as g
use Rattle.imagesize_c.proofs.rounds.answer_by.Met.{met}

abbrev stayed : Stays f.ended.signature.params f.ended.kept
stayed =
    let number = gave_ref {n = 5} (0 ∷ []) tt (plain (λ _. u32)) in
    let compression = gave_ref {n = 5} (1 ∷ []) tt (plain (λ _. u32)) in
    let width = gave_ref {n = 5} (2 ∷ []) tt (plain (λ _. u64)) in
    let height = gave_ref {n = 5} (3 ∷ []) tt (plain (λ _. u64)) in
    let wanted = gave_ref {n = 5} (4 ∷ []) tt (plain (λ _. S)) in
    (stay_dropped _ yes, (number, (compression, (width, (height, (wanted, tt))))))

pub imagesize_rounds_answer_spec : {M : Type 1} → statement M
imagesize_rounds_answer_spec 𝓤 𝓛 𝓜 𝓡 wired =
    let c = f.clauses 𝓛 𝓜.mem 𝓡.returns in let W = walk_of 𝓛 f.ended stayed c in let 𝓣 = tables 𝓤 𝓛.H 𝓜 𝓡 𝓡.env in
    let pointer = Goes-dropped 𝓛 5 (plain (λ _. RawPtr)) yes (λ κs x w. refl) in
    let number = Goes-gave_ref 𝓛 5 0 tt (plain (λ _. u32)) in
    let compression = Goes-gave_ref 𝓛 5 1 tt (plain (λ _. u32)) in
    let width = Goes-gave_ref 𝓛 5 2 tt (plain (λ _. u64)) in
    let height = Goes-gave_ref 𝓛 5 3 tt (plain (λ _. u64)) in
    let wanted = Goes-gave_ref 𝓛 5 4 tt (plain (λ _. S)) in
    proved 𝓛 f.ended stayed c 𝓜 𝓡 (pointer, (number, (compression, (width, (height, (wanted, tt))))))
    f.Key.name code.function (code.unfolded 𝓤 𝓛.H 𝓜 𝓡 wired)
    (λ κs. (rawptr_vals, (mut_vals, (mut_vals, (mut_vals, (mut_vals, (mut_vals, tt)))))))
    (λ κs.
    let number = mut_Tells (named 0) κs.0 u32 in let compression = mut_Tells (named 1) κs.1.0 u32 in
    let width = mut_Tells (named 2) κs.1.1.0 u64 in let height = mut_Tells (named 3) κs.1.1.1.0 u64 in
    let wanted = mut_Tells (named 4) κs.1.1.1.1.0 S in
    (rawptr_Tells, (number, (compression, (width, (height, (wanted, tt))))))) (λ κs qs bounds a held are.
    let number = a.1.0 in let compression = a.1.1.0 in let width = a.1.1.1.0 in let height = a.1.1.1.1.0 in
    let wanted = a.1.1.1.1.1.0 in
    let vss : List Val × (List Val × (List Val × (List Val × (List Val × Unit {0})))) =
    (mut_vals number, (mut_vals compression, (mut_vals width, (mut_vals height, (mut_vals wanted, tt))))) in
    let y : Ptr → W.Ghost = λ p. ((κs, qs, bounds, (p, a.1), (rawptr_vals p, vss)), held) in
    let Rs : List RattleType = MutRef (named 0) κs.0 u32 ∷ MutRef (named 1) κs.1.0 u32 ∷ MutRef (named 2) κs.1.1.0 u64
    ∷ MutRef (named 3) κs.1.1.1.0 u64 ∷ MutRef (named 4) κs.1.1.1.1.0 S ∷ [] in
    let Tokens = raw (alive 𝓛 f.signature κs qs) in
    let Facts = λ (n m w h : ℕ) (span : Span) (r : ℕ).
    raw (fact 𝓤 ((d : List ℕ) → MayBe held d → is_wanted r ≡ false → r ≡ status_of (meaning d 0).answer)) ⊛
    raw (fact 𝓤 ((d : List ℕ) → MayBe held d → is_wanted r ≡ false
    → TellsType (result_ok (kind_of d 0).answer) number.now n compression.now m)) ⊛
    raw (fact 𝓤 ((d : List ℕ) → MayBe held d → is_wanted r ≡ false
    → TellsSize (meaning d 0).answer width.now w height.now h)) ⊛
    raw (fact 𝓤 ((d : List ℕ) → MayBe held d → is_wanted r ≡ true → AllBelow span.start (meaning d 0).marks → ⊥)) ⊛
    raw (fact 𝓤 ((d : List ℕ) → MayBe held d → is_wanted r ≡ true → (span.start < 12) ⊎ (18 ≤ span.start)
    → HasMarked span d)) ⊛
    raw (fact 𝓤 (is_wanted r ≡ true → IsWithin (total_of held) span)) ⊛
    raw (fact 𝓤 (is_wanted r ≡ true → (span.len ≤ 1024) × EndsEarly held span)) ⊛
    raw (fact 𝓤 ((d : List ℕ) → MayBe held d → is_wanted r ≡ true → texts_of d ≡ false → span.len ≤ 132)) ⊛
    raw (fact 𝓤 (is_wanted r ≡ true → (n ≡ number.now) × (m ≡ compression.now))) ⊛
    raw (fact 𝓤 (is_answered r ≡ false → (w ≡ width.now) × (h ≡ height.now))) ⊛
    raw (fact 𝓤 (is_wanted r ≡ false → span ≡ wanted.now)) ⊛
    raw (fact 𝓤 (is_stop_status r ≡ false)) ⊛
    raw (fact 𝓤 (TellsNext (next_of held) r number.now n compression.now m width.now w height.now h wanted.now span)) in
    qed 𝓛 ((Tokens ⊛ ‵ (RawPtr.own_val a.0 (rawptr_vals a.0)) ⊛ ‵ (owns Rs a.1 vss))
    ∷ ‵ (lies_at R full_share a.0 held) ∷ []) ∵
    split ! $ move ! (1 ∷ []) $ split ! $ keep ! (3 ∷ 2 ∷ 1 ∷ []) $
    -- [what lies there; the tokens; what the other parameters own]
    in_a_block ! a.0 (λ p. lies_at R full_share p held) (id⊢ 𝓤 _) (λ b o e.
    regoal ! (λ p. prop (WpFn 𝓤 𝓛.H 𝓣.C 𝓣.Λ code.function (ptr_val p ∷ vptr number.ref_ptr.0 number.ref_ptr.1
    ∷ vptr compression.ref_ptr.0 compression.ref_ptr.1 ∷ vptr width.ref_ptr.0 width.ref_ptr.1
    ∷ vptr height.ref_ptr.0 height.ref_ptr.1 ∷ vptr wanted.ref_ptr.0 wanted.ref_ptr.1 ∷ []) (W.post (y p)))) e refl $
    enter ! _ _ _ _ _ $ alloc_all ! (λ l.
    pass_all ! refl ((tt, tt), ((tt, tt), ((tt, tt), ((tt, tt), ((tt, tt), ((tt, tt), tt)))))) $
    -- `&*p` for the pointer, and `&mut *p` for each `&mut`
    sets ! (addr ! (through ! refl (stop !))) refl (tt, tt) $
    sets ! (addr ! (through ! refl (stop !))) refl (tt, tt) $
    sets ! (addr ! (through ! refl (stop !))) refl (tt, tt) $
    sets ! (addr ! (through ! refl (stop !))) refl (tt, tt) $
    sets ! (addr ! (through ! refl (stop !))) refl (tt, tt) $
    sets ! (addr ! (through ! refl (stop !))) refl (tt, tt) $
    lft_new ! tt (λ α. let κ = α ∷ [] in move ! (1 ∷ 0 ∷ []) $
    let Lent : Bor PartsProbe = record { ref_ptr = (b, o); now = held } in
    use2 𝓛 (later ((‵ ((ShrRef (named 0) κ R).own_val Lent (vptr b o ∷ [])) ⊛ ‵ (flent κ (part_at R full_share held b o)))
    ⊛ ‵ (flft κ full_share)))
    (lends_shr 𝓛 R (named 0) κ full_share held b o R.lives (the_row_laws.shares 𝓛 held) ((κ, full_share) ∷ [])
    (⊑_static κ) (Incl-refl κ)) $
    await ! tt $ split ! $ split ! $
    -- [the reference; what the lender keeps; the token of κ; the tokens; what the others own; the locals]
    let G = triple_of 𝓛 g.signature (g.spec 𝓛 𝓜.mem 𝓡.returns) in
    let z : G.Ghost = (((κ, κs), (full_share, qs), tt, (Lent, a.1), (vptr b o ∷ [], vss)), tt) in
    move ! (0 ∷ 4 ∷ []) $ join ! $ move ! (2 ∷ 3 ∷ []) $ join ! $ join ! $ nothing ! $ move ! (1 ∷ 0 ∷ []) $
    use2 𝓛 (raw (G.pre z)) (id⊢ 𝓤 _) $
    calls_at ! (framed 𝓤 𝓛.H 𝓜 𝓣) G (met 𝓤 𝓛 𝓜 𝓡 (code.calls-imagesize_c::rounds::answer_by 𝓡.env wired)) z
    (and_then ! (get ! refl) (and_then ! (get ! refl) (and_then ! (get ! refl) (and_then ! (get ! refl)
    (and_then ! (get ! refl) (and_then ! (get ! refl) (no_more !))))))) (λ v.
    use1 𝓛 (later (some (λ (r : ℕ). ((‵ (flft κ full_share) ⊛ Tokens) ⊛ ‵ (u32.own_val r (v ∷ []))) ⊛
    some (λ (ws : Unit {0} × (ℕ × (ℕ × (ℕ × (ℕ × (Span × Unit {0})))))). ‵ (lasts g.ended z.0.0 z.0.3 ws)
    ⊛ Facts ws.1.0 ws.1.1.0 ws.1.1.1.0 ws.1.1.1.1.0 ws.1.1.1.1.1.0 r)))) (id⊢ 𝓤 _) $
    await ! tt $ pick ! (λ r. split ! $ split ! $ split ! $ lft_end ! tt $
    -- [κ is over; the tokens; the result; what is said of the last values; what the lender keeps]
    move ! (3 ∷ []) $ pick ! (λ ws. split ! $ fsplit ! $ drop ! $
    -- [the other last values; the facts; κ is over; the tokens; the result; what the lender keeps]
    move ! (2 ∷ 5 ∷ []) $ lent_back ! tt $
    -- [what lies there; the other last values; the facts; the tokens; the result]
    move ! (4 ∷ []) $ peeks ! u32 (Is u32) (shows 𝓛 u32) r (v ∷ []) (λ is.
    lands_as ! refl refl ((uint_Lawful 𝓛 w32).typed r _ is).0 $ returns ! (look_at ! 0 refl) $ free_all ! refl $
    suffices ! _ (ends_at 𝓛 f.ended stayed c (y (block_ptr b o)) v r (tt, ws.1)
    (tt, (tt, (tt, (tt, (tt, (tt, tt))))))) $
    -- [the result; what lies there; the other last values; the facts; the tokens]
    move ! (2 ∷ []) $ nothing ! $ join ! $ move ! (4 ∷ 0 ∷ 1 ∷ []) $ group ! 3 $ frame ! $
    -- [what lies there; the facts]
    move ! (1 ∷ []) $ split ! $ frame ! $ split ! $ frame ! $ split ! $ frame ! $ split ! $ frame ! $
    split ! $ frame ! $ split ! $ frame ! $ split ! $ frame ! $ split ! $ frame ! $ split ! $ frame ! $
    split ! $ frame ! $ split ! $ frame ! $ split ! $ frame ! $ frame ! $ done !))))))))
