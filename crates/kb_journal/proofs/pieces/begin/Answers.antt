use Rattle.std.proofs.Common.{◌≡◌, ◌+◌, ◌++◌, [], ◌∷◌, List, ℕ, length, ap, refl, ◌∙◌, arith}
use Rattle.kb_journal.specs.declared.entries.Entry.TheVariants.{Head}
use Rattle.kb_journal.specs.Entries.{entry_text}
use Rattle.kb_journal.proofs.Pushed.{pushed_pieces}
use Rattle.kb_journal.proofs.pieces.begin.Goals as goal

pub returns-clause-pieces : goal.returns-clause-pieces
returns-clause-pieces c =
    let h = c.args.held.now in
    let p = entry_text (Head h.known h.hash h.base h.mark) in
    let bytes : c.put_head.new.bytes.items ≡ [] ++ p = c.put_head.ensures.items ∙ ap (λ (l : List ℕ). l ++ p) c.clear.ensures.items in
    let ends : c.put_end.new.ends.items ≡ [] ++ 42 ∷ [] = c.put_end.ensures.items ∙ ap (λ (l : List ℕ). l ++ 42 ∷ []) c.clear-2.ensures.items in
    let size : 42 ≡ 0 + length p = omega (arith, c.put_head.ensures.len, c.clear.ensures.len, ap length bytes) in
    pushed_pieces [] [] p _ _ 42 bytes ends size refl
