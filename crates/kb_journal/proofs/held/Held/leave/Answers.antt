use Rattle.std.proofs.Common.{◌+◌, List, ℕ, map, drop, ap, sym, ◌∙◌}
use Rattle.std.specs.Prelude.{Vec}
use Rattle.std.specs.declared.alloc.Global.{Global}
use Rattle.std.proofs.lemmas.List.{drop-map}
use Rattle.kb_ops.specs.declared.rows.Op.{Op}
use Rattle.kb_log.specs.LogList.{lists_of}
use Rattle.kb_journal.specs.State.{queued_text, use_of}
use Rattle.kb_journal.proofs.Counting.{records, counted_drop}
use Rattle.kb_journal.proofs.held.Held.leave.Goals as goal

pub invariant_of-self-clause-spelled : goal.invariant_of-self-clause-spelled
invariant_of-self-clause-spelled c =
    let old = c.args.self.now in
    ap lists_of c.leave-2.ensures ∙ sym (drop-map (λ w. w.items) c.args.n old.texts.items)
    ∙ ap (λ (l : List (List ℕ)). drop c.args.n l) old.spelled
    ∙ drop-map queued_text c.args.n old.ops.items
    ∙ sym (ap (λ (l : List Op). map queued_text l) c.leave.ensures)

pub overflow_sub-self : goal.overflow_sub-self
overflow_sub-self c =
    let old = c.args.self.now in
    let goes = ap (λ (l : List (Vec ℕ Global)). c.records_len-gone.result + records (lists_of (drop c.args.n l))) (sym c.as_slice.ensures) ∙ c.records_len-gone.ensures ∙ ap (λ (l : List (Vec ℕ Global)). records (lists_of l)) c.as_slice.ensures in
    (counted_drop old.ops.items old.texts.items c.args.n old.used c.records_len-gone.result old.spelled old.counted goes).there

pub invariant_of-self-clause-counted : goal.invariant_of-self-clause-counted
invariant_of-self-clause-counted c =
    let old = c.args.self.now in
    let goes = ap (λ (l : List (Vec ℕ Global)). c.records_len-gone.result + records (lists_of (drop c.args.n l))) (sym c.as_slice.ensures) ∙ c.records_len-gone.ensures ∙ ap (λ (l : List (Vec ℕ Global)). records (lists_of l)) c.as_slice.ensures in
    (counted_drop old.ops.items old.texts.items c.args.n old.used c.records_len-gone.result old.spelled old.counted goes).left_is ∙ ap (λ (l : List Op). use_of l) (sym c.leave.ensures)
