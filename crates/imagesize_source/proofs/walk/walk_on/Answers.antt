use Rattle.std.proofs.Common.{◌≡◌, ◌+◌, ◌<◌, ◌^◌, refl, arith}
use Rattle.imagesize_source.proofs.Strides.{strides_start, strides_on, strides_end, strides_past, strides_stand}
use Rattle.imagesize_source.proofs.walk.walk_on.Goals as goal

pub loop-result-init : goal.loop-result-init
loop-result-init g c = record {
  holds = c.requires.holds;
  strides = strides_start _ _ _ _;
}

pub returns-in-Some-clause-runs : goal.returns-in-Some-clause-runs
returns-in-Some-clause-runs g c = c.in-Some.ensures.runs _ _ _ c.loop-result.invariant.strides

pub returns-in-Ok-Answer-clause-runs : goal.returns-in-Ok-Answer-clause-runs
returns-in-Ok-Answer-clause-runs g c =
    strides_end _ c.requires.follows (c.in_default.ensures.strides refl _ _ _ c.loop-result.invariant.strides) _
    (rw c.in-Ok-Answer.field-0-is at c.in-Ok-Answer.ensures.runs)

pub returns-in-None-clause-runs : goal.returns-in-None-clause-runs
returns-in-None-clause-runs g c =
    let so_far = c.in_default.ensures.strides refl _ _ _ c.loop-result.invariant.strides in
    let runs = rw c.in-Ok-Other.field-0-is at c.in-Ok-Other.ensures.runs in
    let next = strides_on _ c.requires.follows so_far _ _ runs in
    strides_past _ c.requires.follows next c.at_end.result (omega (arith, c.in-None.ensures)) runs.sound_after
    c.at_end.ensures.goes_on (c.at_end.ensures.ends _ (rw c.in-Ok-Other.field-0-is at c.in-Ok-Other.ensures.holds))

pub returns-in-Err-clause-runs : goal.returns-in-Err-clause-runs
returns-in-Err-clause-runs g c =
    strides_end _ c.requires.follows (c.in_default.ensures.strides refl _ _ _ c.loop-result.invariant.strides) _ c.in-Err.ensures.runs

pub returns-in-Err-clause-stands : goal.returns-in-Err-clause-stands
returns-in-Err-clause-stands g c = λ faults.
    let on = c.in_default.ensures.strides refl _ _ _ c.loop-result.invariant.strides in
    rw c.in-Err.ensures.stays.0 (strides_stand _ c.requires.follows on faults c.in-Err.ensures.runs)

pub loop-result-preserved : goal.loop-result-preserved
loop-result-preserved g c =
    let at = c.walk_held.new.offset in
    let runs = rw c.in-Ok-Other.field-0-is at c.in-Ok-Other.ensures.runs in
    let next : (at + c.in-Ok-Other.length < 2 ^ 64) ×
    (c.in-Some-checked_add.next ≡ at + c.in-Ok-Other.length) = c.in-Some-checked_add.ensures in
    record {
      holds = rw next.1 (rw c.in-Ok-Other.field-0-is at c.in-Ok-Other.ensures.holds);
      strides = rw next.1 (strides_on _ c.requires.follows
          (c.in_default.ensures.strides refl _ _ _ c.loop-result.invariant.strides) _ _ runs);
    }
