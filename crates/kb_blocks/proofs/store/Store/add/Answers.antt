use Rattle.std.proofs.Common.{ap, sym, ◌∙◌, ℕ, ◌+◌, cond, length}
use Rattle.std.specs.Prelude.{Vec, is_some}
use Rattle.std.specs.declared.alloc.Global.{Global}
use Rattle.std.specs.FinMap.{get, len, insert, from_entries}
use Rattle.std.proofs.lemmas.Cmp.{nat_list_cmp_total}
use Rattle.kb_blocks.specs.Entries.{id_cmp, blocks_of}
use Rattle.kb_blocks.proofs.Maps.{get-viewed, insert-viewed, none_viewed, len-insert_new}
use Rattle.kb_blocks.proofs.Puts.{exact_ids, insert_hashed}
use Rattle.kb_blocks.proofs.store.Store.add.Goals as goal

pub invariant_of-self : goal.invariant_of-self
invariant_of-self g c =
    let bytes_of = λ (v : Vec ℕ Global). v.items in
    let old = c.self.inside.by_id.entries in
    let m = from_entries {R = id_cmp} (blocks_of old) in
    let id = c.args.id.now in
    let read = get-viewed id_cmp nat_list_cmp_total exact_ids bytes_of old id in
    let none = ap (λ n. get n id) c.self.view_is ∙ sym c.in-None.ensures.found in
    let unknown = none_viewed id_cmp nat_list_cmp_total exact_ids bytes_of _ (sym read ∙ none) in
    let made = insert-viewed id_cmp nat_list_cmp_total exact_ids bytes_of old c.insert.new.self.entries id c.in-Ok.copy c.in-Ok-insert.ensures.updates.0 in (
      (λ q bytes e. insert_hashed g.H.BlockHash.hashed m id c.in-Ok.copy.items (c.requires ∙ ap g.H.BlockHash.hashed (sym c.in-Ok.ensures.items)) c.self.invariant.0 q bytes (ap (λ n. get n q) (sym made) ∙ e)),
      ap len made ∙ len-insert_new id_cmp nat_list_cmp_total exact_ids bytes_of m id c.in-Ok.copy.items none ∙ ap (λ (n : ℕ). n + 1) c.self.invariant.1
          ∙ sym (c.in-Ok-insert.ensures.len ∙ ap (λ o. length old + cond (is_some o) 0 1) (c.in-Ok-insert.ensures.old ∙ unknown)),
    )

pub returns-in-Ok-insert : goal.returns-in-Ok-insert
returns-in-Ok-insert g c =
    let made = insert-viewed id_cmp nat_list_cmp_total exact_ids (λ (v : Vec ℕ Global). v.items) c.self.inside.by_id.entries c.insert.new.self.entries c.args.id.now c.in-Ok.copy c.in-Ok-insert.ensures.updates.0 in (
      sym c.in-None.ensures.found,
      made ∙ ap (λ v. insert (from_entries (blocks_of c.self.inside.by_id.entries)) c.args.id.now v) c.in-Ok.ensures.items ∙ ap (λ m. insert m c.args.id.now c.args.bytes.now) c.self.view_is,
    )
