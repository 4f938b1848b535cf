use Rattle.std.proofs.Common.{length, Result, Ok, Err, IfOk, sym, ap, ◌∙◌, arith}
use Rattle.kb_rules.specs.declared.sides.Sides.{Sides}
use Rattle.kb_rules.specs.Merge.{copy_ids, put_ids}
use Rattle.kb_rules.specs.Code.{row_in, ids_of, copies_of}
use Rattle.kb_rules.proofs.SideFacts.{same_splits, sides_are}
use Rattle.kb_actions.proofs.Finding.{merge_found, looks_found}
use Rattle.kb_actions.proofs.merging.merge_lists.Goals as goal

with_four : {A E : Type 0} (r : Result A E) (P Q R S T : A → Type 0) → ((x : A) → P x → Q x → R x → S x → T x) → IfOk r P → IfOk r Q → IfOk r R → IfOk r S → IfOk r T
with_four (Ok x) P Q R S T f p q r s = f x p q r s
with_four (Err e) P Q R S T f p q r s = tt

pub copies_of-requires-clause-few : goal.copies_of-requires-clause-few
copies_of-requires-clause-few g c =
    let r = c.requires in
    let same = same_splits c.args.base.now c.args.part.now c.args.ours.now r.base r.merged r.ours in
    let e = ap length (c.deref.ensures.value ∙ (c.in_ok-splits.ensures ∙ sym same)) in
    omega (arith, e, r.few)

pub all_ids-requires-clause-few : goal.all_ids-requires-clause-few
all_ids-requires-clause-few g c =
    let r = c.requires in
    let same = same_splits c.args.base.now c.args.part.now c.args.ours.now r.base r.merged r.ours in
    let e = ap length (c.deref-2.ensures.value ∙ (c.in_ok-splits.ensures ∙ sym same)) in
    omega (arith, e, r.few)

pub merge_sides-requires-clause-copies : goal.merge_sides-requires-clause-copies
merge_sides-requires-clause-copies g c =
    let r = c.requires in
    let same = same_splits c.args.base.now c.args.part.now c.args.ours.now r.base r.merged r.ours in
    let e = ap length (c.deref-3.ensures.value ∙ (c.in_ok-splits.ensures ∙ sym same)) in
    omega (arith, e, r.few)

pub merge_sides-requires-clause-sides : goal.merge_sides-requires-clause-sides
merge_sides-requires-clause-sides g c =
    let r = c.requires in
    let s : Sides = record { stamp = c.args.stamp; base = c.args.base; merged = c.args.part; ours = c.args.ours; splits = c.deref-3.result; copies = c.deref-4.result; ids = c.deref-5.result } in
    let split = c.deref-3.ensures.value ∙ c.in_ok-splits.ensures in
    let to_copies = c.deref.ensures.value ∙ sym c.deref-3.ensures.value in
    let to_ids = c.deref-2.ensures.value ∙ sym c.deref-3.ensures.value in
    let copies = c.deref-4.ensures.value ∙ (c.in_ok-copies.ensures ∙ ap (λ xs. copies_of c.args.stamp.now 1 xs (row_in c.args.ours.now)) to_copies) in
    let ids = c.deref-5.ensures.value ∙ (c.in_ok-ids.ensures ∙ ap (λ xs. put_ids (copy_ids c.args.stamp.now 1 xs) (put_ids (ids_of c.args.ours.now) (ids_of c.args.part.now))) to_ids) in
    sides_are s r.base r.merged r.ours split copies ids r.meet r.rule

pub returns-clause-merge : goal.returns-clause-merge
returns-clause-merge g c =
    let r = c.requires in
    let s : Sides = record { stamp = c.args.stamp; base = c.args.base; merged = c.args.part; ours = c.args.ours; splits = c.deref-3.result; copies = c.deref-4.result; ids = c.deref-5.result } in
    let split = c.deref-3.ensures.value ∙ c.in_ok-splits.ensures in
    let to_copies = c.deref.ensures.value ∙ sym c.deref-3.ensures.value in
    let to_ids = c.deref-2.ensures.value ∙ sym c.deref-3.ensures.value in
    let copies = c.deref-4.ensures.value ∙ (c.in_ok-copies.ensures ∙ ap (λ xs. copies_of c.args.stamp.now 1 xs (row_in c.args.ours.now)) to_copies) in
    let ids = c.deref-5.ensures.value ∙ (c.in_ok-ids.ensures ∙ ap (λ xs. put_ids (copy_ids c.args.stamp.now 1 xs) (put_ids (ids_of c.args.ours.now) (ids_of c.args.part.now))) to_ids) in
    with_four c.merge_sides.result _ _ _ _ _ (λ d e copied renamed joined. merge_found s r.base r.merged r.ours split copies ids r.rule (g.V.View.tree c.args.merged.now) c.args.all d.0.items d.1 e copied renamed joined)
    c.merge_sides.ensures.edits c.merge_sides.ensures.copies c.merge_sides.ensures.renamed c.merge_sides.ensures.joined

pub returns-clause-looks : goal.returns-clause-looks
returns-clause-looks g c =
    let r = c.requires in
    let s : Sides = record { stamp = c.args.stamp; base = c.args.base; merged = c.args.part; ours = c.args.ours; splits = c.deref-3.result; copies = c.deref-4.result; ids = c.deref-5.result } in
    let split = c.deref-3.ensures.value ∙ c.in_ok-splits.ensures in
    let to_copies = c.deref.ensures.value ∙ sym c.deref-3.ensures.value in
    let to_ids = c.deref-2.ensures.value ∙ sym c.deref-3.ensures.value in
    let copies = c.deref-4.ensures.value ∙ (c.in_ok-copies.ensures ∙ ap (λ xs. copies_of c.args.stamp.now 1 xs (row_in c.args.ours.now)) to_copies) in
    let ids = c.deref-5.ensures.value ∙ (c.in_ok-ids.ensures ∙ ap (λ xs. put_ids (copy_ids c.args.stamp.now 1 xs) (put_ids (ids_of c.args.ours.now) (ids_of c.args.part.now))) to_ids) in
    looks_found s r.base r.merged r.ours split copies ids r.rule (g.V.View.tree c.args.merged.now) c.args.all (g.V.View.looks c.args.merged.now) (g.V.View.looks c.merge_sides.new.merged) c.merge_sides.ensures.looks
