use Rattle.std.proofs.Common.{ap, sym, ◌∙◌, ℕ, length}
use Rattle.std.specs.Prelude.{Vec, is_some}
use Rattle.std.specs.declared.alloc.Global.{Global}
use Rattle.std.specs.FinMap.{get, len, remove, from_entries}
use Rattle.std.proofs.lemmas.Cmp.{nat_list_cmp_total}
use Rattle.kb_blocks.specs.Entries.{id_cmp, blocks_of}
use Rattle.kb_blocks.proofs.Maps.{get-viewed, remove-viewed, some_viewed, len-remove_as}
use Rattle.kb_blocks.proofs.Puts.{exact_ids, remove_hashed}
use Rattle.kb_blocks.proofs.store.Store.drop_block.Goals as goal

pub invariant_of-self : goal.invariant_of-self
invariant_of-self g c =
    let bytes_of = λ (v : Vec ℕ Global). v.items in
    let old = c.self.inside.by_id.entries in
    let m = from_entries {R = id_cmp} (blocks_of old) in
    let made = remove-viewed id_cmp nat_list_cmp_total exact_ids bytes_of old c.remove.new.self.entries c.args.id.now c.remove.ensures.updates.0 in
    let there = ap is_some (get-viewed id_cmp nat_list_cmp_total exact_ids bytes_of old c.args.id.now) ∙ some_viewed id_cmp nat_list_cmp_total exact_ids bytes_of _ ∙ ap is_some (sym c.remove.ensures.value) in (
      (λ id bytes e. remove_hashed g.H.BlockHash.hashed m c.args.id.now c.self.invariant.0 id bytes (ap (λ n. get n id) (sym made) ∙ e)),
      ap len made ∙ len-remove_as id_cmp nat_list_cmp_total exact_ids bytes_of m c.args.id.now (is_some c.remove.result) (length c.remove.new.self.entries) there (c.remove.ensures.len ∙ sym c.self.invariant.1),
    )

pub returns : goal.returns
returns g c =
    remove-viewed id_cmp nat_list_cmp_total exact_ids (λ (v : Vec ℕ Global). v.items) c.self.inside.by_id.entries c.remove.new.self.entries c.args.id.now c.remove.ensures.updates.0
    ∙ ap (λ m. remove m c.args.id.now) c.self.view_is
