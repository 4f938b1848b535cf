use Rattle.std.proofs.Common.{◌⊎◌, List, ℕ, length, OnErr, ap, subst, ◌∙◌, arith}
use Rattle.kb_edge.specs.Disk.{overlay, within, MayLeave}
use Rattle.kb_log.specs.Pieces.{pieces}
use Rattle.kb_log.proofs.Fill.{length-records_text}
use Rattle.kb_log.proofs.steps.write_area.Goals as goal

pub stage_and_switch-requires-clause-range : goal.stage_and_switch-requires-clause-range
stage_and_switch-requires-clause-range g c =
    omega (arith, ap length (c.as_slice-records.ensures.value ∙ c.fill.ensures.items), length-records_text (pieces 0 c.args.bytes.now c.args.ends.now), c.requires.range)

pub returns-clause-stopped : goal.returns-clause-stopped
returns-clause-stopped g c =
    let before = g.D.Disk.content c.args.disk.now in
    let after = c.stage_and_switch.new.disk in
    subst (λ (l : List ℕ). OnErr c.stage_and_switch.result ((image : List ℕ) → MayLeave (g.D.Disk.content after) (g.D.Disk.dirty after) image → MayLeave before (within c.args.start (length l)) image ⊎ MayLeave (overlay before c.args.start l) (within 8 1) image))
    (c.as_slice-records.ensures.value ∙ c.fill.ensures.items) c.stage_and_switch.ensures.stopped
