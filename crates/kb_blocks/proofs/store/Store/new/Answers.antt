use Rattle.std.proofs.Common.{◌≡◌, ap, sym, ◌∙◌, Some, None, List, ℕ, length}
use Rattle.std.specs.FinMap.{get, len, from_entries, get-empty, len-empty}
use Rattle.kb_blocks.specs.Entries.{id_cmp, blocks_of}
use Rattle.kb_blocks.proofs.store.Store.new.Goals as goal

pub invariant_of-result : goal.invariant_of-result
invariant_of-result g c =
    let empty = c.new.ensures.empty in (
      (λ id bytes e.
          let none = ap (λ es. get (from_entries {R = id_cmp} (blocks_of es)) id) empty ∙ get-empty id_cmp id in
          absurd (let h : None ≡ Some bytes = sym none ∙ e in cc)),
      ap (λ es. len (from_entries {R = id_cmp} (blocks_of es))) empty ∙ len-empty id_cmp (List ℕ) ∙ sym (ap length empty),
    )
