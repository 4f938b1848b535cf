use Rattle.std.proofs.Common.{◌≡◌, ◌≤◌, length, take, drop, sym, ap, ◌∙◌, arith}
use Rattle.std.proofs.lemmas.Grind.{common_steps}
use Rattle.kb_edge.specs.Ends.{SourceState}
use Rattle.kb_edge.proofs.Taken.{consumed, nothing_left}
use Rattle.kb_edge.proofs.ends.MemSourceSource.read.Goals as goal

pub returns-clause-bytes : goal.returns-clause-bytes
returns-clause-bytes c =
    let bs = c.self.inside.bytes.items in
    let at = c.self.inside.at in
    let n = c.min-count.result in
    let left : drop at bs ≡ c.args.self.now.left = ap (λ (s : SourceState). s.left) c.self.view_is in
    let fits : n ≤ length (drop at bs) = grind (arith, common_steps) in
    let copied : c.copy_from_slice.new.self ≡ take n (drop at bs) = grind (arith, common_steps) in
    (sym left ∙ consumed bs c.copy_from_slice.new.self c.args.into.now at n fits copied, λ none room. nothing_left bs at n none (grind (arith, common_steps)))
