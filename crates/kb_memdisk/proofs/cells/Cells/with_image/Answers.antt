use Rattle.std.proofs.Common.{◌≡◌, ℕ, false, length, replicate, ap, ◌∙◌, arith}
use Rattle.std.proofs.lemmas.List.{length-replicate}
use Rattle.kb_memdisk.specs.Kept.{now_of}
use Rattle.kb_memdisk.proofs.Rowed.{overlay_whole}
use Rattle.kb_memdisk.proofs.cells.Cells.with_image.Goals as goal

pub returns-clause-now : goal.returns-clause-now
returns-clause-now c =
    let size : length (now_of c.in_ok-cells.cells) ≡ length c.args.image.now = omega (arith, ap length c.in_ok-cells.ensures.now, length-replicate {A = ℕ} (length c.args.image.now) 0) in
    c.sync.ensures.now ∙ (c.write.ensures.now ∙ overlay_whole (now_of c.in_ok-cells.cells) c.args.image.now size)

pub returns-clause-stable : goal.returns-clause-stable
returns-clause-stable c =
    let size : length (now_of c.in_ok-cells.cells) ≡ length c.args.image.now = omega (arith, ap length c.in_ok-cells.ensures.now, length-replicate {A = ℕ} (length c.args.image.now) 0) in
    c.sync.ensures.stable ∙ (c.write.ensures.now ∙ overlay_whole (now_of c.in_ok-cells.cells) c.args.image.now size)

pub returns-clause-dirty : goal.returns-clause-dirty
returns-clause-dirty c =
    let size : length (now_of c.in_ok-cells.cells) ≡ length c.args.image.now = omega (arith, ap length c.in_ok-cells.ensures.now, length-replicate {A = ℕ} (length c.args.image.now) 0) in
    c.sync.ensures.clean ∙ ap (λ l. replicate (length l) false) (c.write.ensures.now ∙ overlay_whole (now_of c.in_ok-cells.cells) c.args.image.now size)
