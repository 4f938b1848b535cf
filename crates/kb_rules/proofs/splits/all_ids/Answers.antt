use Rattle.std.proofs.Common.{◌≡◌, ap, ◌∙◌}
use Rattle.std.proofs.lemmas.Result.{IfOk-weaker}
use Rattle.kb_rules.specs.Merge.{copy_ids, put_ids}
use Rattle.kb_rules.specs.Code.{ids_of}
use Rattle.kb_rules.proofs.Puts.{put_rows_all}
use Rattle.kb_rules.proofs.splits.all_ids.Goals as goal

pub returns : goal.returns
returns c =
    let copies = copy_ids c.args.stamp.now 1 c.args.splits.now in
    IfOk-weaker c.listed.result (λ v. v.items ≡ c.put_copies.new.ids.keys) (λ v. v.items ≡ put_ids copies (put_ids (ids_of c.args.ours.now) (ids_of c.args.merged.now)))
    (λ v e. e ∙ c.in_ok-put_copies.ensures ∙ ap (put_ids copies) (c.in_ok-put_rows-2.ensures ∙ ap (put_ids (ids_of c.args.ours.now)) (c.in_ok-put_rows.ensures ∙ ap (put_ids (ids_of c.args.merged.now)) c.new-ids.ensures.empty ∙ put_rows_all c.args.merged.now c.requires.merged)))
    c.listed.ensures
