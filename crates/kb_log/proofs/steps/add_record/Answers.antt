use Rattle.std.proofs.Common.{◌≡◌, ◌⊎◌, ◌+◌, ◌-◌, List, ℕ, length, OnErr, Result, Ok, Err, ap, subst, ◌∙◌, arith}
use Rattle.kb_edge.specs.Disk.{overlay, within, MayLeave}
use Rattle.kb_log.specs.LogList.{record_of}
use Rattle.kb_log.proofs.Records.{put_behind, length-record_of}
use Rattle.kb_log.proofs.steps.add_record.Goals as goal

on_err : {T E P : Type 0} (r : Result T E) → P → OnErr r P
on_err (Ok x) p = tt
on_err (Err e) p = p

pub stage_and_switch-requires-clause-range : goal.stage_and_switch-requires-clause-range
stage_and_switch-requires-clause-range g c =
    let at : c.len-used.result ≡ length c.args.text.now.items = omega (arith, c.len-used.ensures, c.args.text.now.ok.0) in
    let behind = put_behind c.deref.result.now c.args.text.now.items (record_of c.args.payload.now) c.len-used.result (c.deref.ensures.value ∙ c.stage.ensures.items) at in
    omega (arith, ap length behind, length-record_of c.args.payload.now, at, c.requires.range)

pub returns-in_err-stage_and_switch-clause-stopped : goal.returns-in_err-stage_and_switch-clause-stopped
returns-in_err-stage_and_switch-clause-stopped g c =
    let before = g.D.Disk.content c.args.disk.now in
    let start = c.args.start in
    let n = c.len-used.result in
    let at : c.len-used.result ≡ length c.args.text.now.items = omega (arith, c.len-used.ensures, c.args.text.now.ok.0) in
    let behind = put_behind c.deref.result.now c.args.text.now.items (record_of c.args.payload.now) c.len-used.result (c.deref.ensures.value ∙ c.stage.ensures.items) at in
    on_err c.from_residual.result (λ image may.
    subst (λ (k : ℕ). MayLeave before (within (start + k) (length (record_of c.args.payload.now))) image ⊎ MayLeave (overlay before (start + k) (record_of c.args.payload.now)) (within (start + k - 1) 1) image) at
    (subst (λ (l : List ℕ). MayLeave before (within (start + n) (length l)) image ⊎ MayLeave (overlay before (start + n) l) (within (start + n - 1) 1) image) behind (c.in_err-stage_and_switch.ensures.stopped image may)))
