use Rattle.std.proofs.Common.{length, Result, Ok, Err, IfOk, sym, ap, ◌∙◌, arith}
use Rattle.std.proofs.lemmas.Result.{IfOk-weaker}
use Rattle.kb_rules.specs.declared.sides.Sides.{Sides}
use Rattle.kb_rules.specs.Merge.{copy_ids, put_ids}
use Rattle.kb_rules.specs.Code.{row_in, ids_of, copies_of}
use Rattle.kb_rules.proofs.SideFacts.{same_splits, sides_are}
use Rattle.kb_rules.proofs.Merges.{merge_is, rows_ascend, report_is}
use Rattle.kb_rules.proofs.merging.merge_rows.Goals as goal

with_three : {A E : Type 0} (r : Result A E) (P Q R S : A → Type 0) → ((x : A) → P x → Q x → R x → S x) → IfOk r P → IfOk r Q → IfOk r R → IfOk r S
with_three (Ok x) P Q R S f p q r = f x p q r
with_three (Err e) P Q R S f p q r = tt

pub copies_of-requires-clause-few : goal.copies_of-requires-clause-few
copies_of-requires-clause-few c =
    let r = c.requires in
    let same = same_splits c.args.base.now c.args.merged.now c.args.ours.now r.base r.merged r.ours in
    let e = ap length (c.deref.ensures.value ∙ (c.in_ok-splits.ensures ∙ sym same)) in
    omega (arith, e, r.few)

pub all_ids-requires-clause-few : goal.all_ids-requires-clause-few
all_ids-requires-clause-few c =
    let r = c.requires in
    let same = same_splits c.args.base.now c.args.merged.now c.args.ours.now r.base r.merged r.ours in
    let e = ap length (c.deref-2.ensures.value ∙ (c.in_ok-splits.ensures ∙ sym same)) in
    omega (arith, e, r.few)

pub merge_sides-requires-clause-copies : goal.merge_sides-requires-clause-copies
merge_sides-requires-clause-copies c =
    let r = c.requires in
    let same = same_splits c.args.base.now c.args.merged.now c.args.ours.now r.base r.merged r.ours in
    let e = ap length (c.deref-3.ensures.value ∙ (c.in_ok-splits.ensures ∙ sym same)) in
    omega (arith, e, r.few)

pub merge_sides-requires-clause-sides : goal.merge_sides-requires-clause-sides
merge_sides-requires-clause-sides c =
    let r = c.requires in
    let s : Sides = record { stamp = c.args.stamp; base = c.args.base; merged = c.args.merged; ours = c.args.ours; splits = c.deref-3.result; copies = c.deref-4.result; ids = c.deref-5.result } in
    let split = c.deref-3.ensures.value ∙ c.in_ok-splits.ensures in
    let to_copies = c.deref.ensures.value ∙ sym c.deref-3.ensures.value in
    let to_ids = c.deref-2.ensures.value ∙ sym c.deref-3.ensures.value in
    let copies = c.deref-4.ensures.value ∙ (c.in_ok-copies.ensures ∙ ap (λ xs. copies_of c.args.stamp.now 1 xs (row_in c.args.ours.now)) to_copies) in
    let ids = c.deref-5.ensures.value ∙ (c.in_ok-ids.ensures ∙ ap (λ xs. put_ids (copy_ids c.args.stamp.now 1 xs) (put_ids (ids_of c.args.ours.now) (ids_of c.args.merged.now))) to_ids) in
    sides_are s r.base r.merged r.ours split copies ids r.meet r.rule

pub returns-clause-merge : goal.returns-clause-merge
returns-clause-merge c =
    let r = c.requires in
    let s : Sides = record { stamp = c.args.stamp; base = c.args.base; merged = c.args.merged; ours = c.args.ours; splits = c.deref-3.result; copies = c.deref-4.result; ids = c.deref-5.result } in
    let split = c.deref-3.ensures.value ∙ c.in_ok-splits.ensures in
    let to_copies = c.deref.ensures.value ∙ sym c.deref-3.ensures.value in
    let to_ids = c.deref-2.ensures.value ∙ sym c.deref-3.ensures.value in
    let copies = c.deref-4.ensures.value ∙ (c.in_ok-copies.ensures ∙ ap (λ xs. copies_of c.args.stamp.now 1 xs (row_in c.args.ours.now)) to_copies) in
    let ids = c.deref-5.ensures.value ∙ (c.in_ok-ids.ensures ∙ ap (λ xs. put_ids (copy_ids c.args.stamp.now 1 xs) (put_ids (ids_of c.args.ours.now) (ids_of c.args.merged.now))) to_ids) in
    IfOk-weaker c.merge_sides.result _ _ (λ d e. merge_is s r.base r.merged r.ours split copies ids r.meet r.rule c.device.ensures c.moment.ensures c.few.ensures c.few-2.ensures d.rows.items e) c.merge_sides.ensures.rows

pub returns-clause-ascending : goal.returns-clause-ascending
returns-clause-ascending c =
    let r = c.requires in
    let s : Sides = record { stamp = c.args.stamp; base = c.args.base; merged = c.args.merged; ours = c.args.ours; splits = c.deref-3.result; copies = c.deref-4.result; ids = c.deref-5.result } in
    let split = c.deref-3.ensures.value ∙ c.in_ok-splits.ensures in
    let to_copies = c.deref.ensures.value ∙ sym c.deref-3.ensures.value in
    let to_ids = c.deref-2.ensures.value ∙ sym c.deref-3.ensures.value in
    let copies = c.deref-4.ensures.value ∙ (c.in_ok-copies.ensures ∙ ap (λ xs. copies_of c.args.stamp.now 1 xs (row_in c.args.ours.now)) to_copies) in
    let ids = c.deref-5.ensures.value ∙ (c.in_ok-ids.ensures ∙ ap (λ xs. put_ids (copy_ids c.args.stamp.now 1 xs) (put_ids (ids_of c.args.ours.now) (ids_of c.args.merged.now))) to_ids) in
    IfOk-weaker c.merge_sides.result _ _ (λ d e. rows_ascend s r.base r.merged r.ours split copies ids r.meet r.rule c.device.ensures c.moment.ensures c.few.ensures c.few-2.ensures d.rows.items e) c.merge_sides.ensures.rows

pub returns-clause-report : goal.returns-clause-report
returns-clause-report c =
    let r = c.requires in
    let s : Sides = record { stamp = c.args.stamp; base = c.args.base; merged = c.args.merged; ours = c.args.ours; splits = c.deref-3.result; copies = c.deref-4.result; ids = c.deref-5.result } in
    let split = c.deref-3.ensures.value ∙ c.in_ok-splits.ensures in
    let to_copies = c.deref.ensures.value ∙ sym c.deref-3.ensures.value in
    let to_ids = c.deref-2.ensures.value ∙ sym c.deref-3.ensures.value in
    let copies = c.deref-4.ensures.value ∙ (c.in_ok-copies.ensures ∙ ap (λ xs. copies_of c.args.stamp.now 1 xs (row_in c.args.ours.now)) to_copies) in
    let ids = c.deref-5.ensures.value ∙ (c.in_ok-ids.ensures ∙ ap (λ xs. put_ids (copy_ids c.args.stamp.now 1 xs) (put_ids (ids_of c.args.ours.now) (ids_of c.args.merged.now))) to_ids) in
    with_three c.merge_sides.result _ _ _ _ (λ d copied renamed joined. report_is s r.base r.merged r.ours split copies ids r.meet r.rule d.report copied renamed joined)
    c.merge_sides.ensures.copies c.merge_sides.ensures.renamed c.merge_sides.ensures.joined
