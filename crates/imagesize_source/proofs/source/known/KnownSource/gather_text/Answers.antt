use Rattle.std.proofs.Common.{◌≡◌, ◌≤◌, ℕ, List, arith, sym, length, take, min, false, ap, ◌∙◌}
use Rattle.std.proofs.lemmas.List.{take_all}
use Rattle.imagesize_source.specs.Known.{KnownBytes}
use Rattle.imagesize_source.specs.Text.{is_ended}
use Rattle.imagesize_source.proofs.Gathering.{run_there}
use Rattle.imagesize_source.proofs.KnownReadings.{cut_is, parts_text}
use Rattle.imagesize_source.proofs.Unended.{open_first, open_part}
use Rattle.imagesize_source.proofs.source.known.KnownSource.gather_text.Goals as goal

pub uncut_length-requires-clause-unended : goal.uncut_length-requires-clause-unended
uncut_length-requires-clause-unended g c =
    let k : KnownBytes = g.K.Known.content c.args.self.now.known in
    let bs : List ℕ = c.near-at_hand.result.now in
    let most : ℕ = length c.args.buffer.now in
    let n : ℕ = min (length bs) most in
    let there = run_there k.told k.spans k.bytes bs c.args.offset n c.near-at_hand.ensures.known (omega arith) in
    let open_run : is_ended c.args.text (take most bs) ≡ false =
    ap (λ xs. is_ended c.args.text (take most xs)) c.near-at_hand.ensures.near ∙ c.requires in
    let f = c.fill_known-found in
    open_part c.args.text _ _ c.args.offset n _ _ f.ensures.copied
    (omega (arith, c.min-searched.ensures, f.ensures.within, f.ensures.wanted, f.auto.buffer)) (omega (arith, c.min-searched.ensures))
    (ap (is_ended c.args.text) (sym there.1) ∙ open_first c.args.text bs n most (omega arith) open_run)

pub miss_text-requires-clause-open : goal.miss_text-requires-clause-open
miss_text-requires-clause-open g c =
    let k : KnownBytes = g.K.Known.content c.args.self.now.known in
    let bs : List ℕ = c.near-at_hand.result.now in
    let most : ℕ = length c.args.buffer.now in
    let there = run_there k.told k.spans k.bytes bs c.args.offset (length bs) c.near-at_hand.ensures.known (omega arith) in
    let few : length bs ≤ most = omega (arith, c.if-at_hand-wanted.true, c.count_there-wanted.ensures) in
    ap (is_ended c.args.text) (sym there.1 ∙ take_all (length bs) bs (omega arith) ∙ sym (take_all most bs few))
    ∙ ap (λ xs. is_ended c.args.text (take most xs)) c.near-at_hand.ensures.near ∙ c.requires

pub returns-clause-runs : goal.returns-clause-runs
returns-clause-runs g c =
    let s = c.args.self.now in
    let k : KnownBytes = g.K.Known.content s.known in
    let f = c.fill_known-found in
    parts_text k.told k.spans k.bytes s.log.spans s.missed _ c.args.text f.new.buffer c.args.offset
    f.result.1 f.result.0 c.in-Some.count f.ensures.wanted f.ensures.within f.ensures.copied
    (cut_is f.new.buffer f.result.0 f.result.1 c.args.offset k.told _ _ f.ensures.wanted f.ensures.within
    (sym c.in-Some.ensures.uncut))
    c.in-Some.ensures.length (cc)
