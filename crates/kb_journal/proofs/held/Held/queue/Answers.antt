use Rattle.std.proofs.Common.{◌≡◌, ◌++◌, [], ◌∷◌, List, ℕ, map, ap, sym, ◌∙◌, rules}
use Rattle.std.proofs.lemmas.List.{map_push}
use Rattle.kb_ops.specs.declared.rows.Op.{Op}
use Rattle.kb_log.specs.LogList.{lists_of}
use Rattle.kb_journal.specs.State.{queued_text}
use Rattle.kb_journal.proofs.Counting.{counted_push}
use Rattle.kb_journal.proofs.held.Held.queue.Goals as goal

pub invariant_of-self-2-clause-spelled : goal.invariant_of-self-2-clause-spelled
invariant_of-self-2-clause-spelled c =
    let old = c.args.self.now in
    let queued : c.push.new.self.items ≡ old.ops.items ++ c.args.op ∷ [] = search rules in
    let kept : c.push-2.new.self.items ≡ old.texts.items ++ c.args.text ∷ [] = search rules in
    ap lists_of kept ∙ map_push (λ w. w.items) old.texts.items c.args.text
    ∙ ap (λ (l : List (List ℕ)). l ++ c.args.text.items ∷ []) old.spelled
    ∙ ap (λ (t : List ℕ). map queued_text old.ops.items ++ t ∷ []) c.requires.text
    ∙ sym (ap (λ (l : List Op). map queued_text l) queued ∙ map_push queued_text old.ops.items c.args.op)

pub invariant_of-self-2-clause-counted : goal.invariant_of-self-2-clause-counted
invariant_of-self-2-clause-counted c =
    let old = c.args.self.now in
    let queued : c.push.new.self.items ≡ old.ops.items ++ c.args.op ∷ [] = search rules in
    counted_push old.ops.items c.push.new.self.items c.args.op c.args.text.items old.used c.record_len-added.result old.counted c.record_len-added.ensures c.requires.text queued
