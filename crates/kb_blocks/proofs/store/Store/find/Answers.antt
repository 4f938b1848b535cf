use Rattle.std.proofs.Common.{ap, sym, ◌∙◌, Some, ℕ}
use Rattle.std.specs.Option.{option_map}
use Rattle.std.specs.Prelude.{Vec}
use Rattle.std.specs.declared.alloc.Global.{Global}
use Rattle.std.specs.FinMap.{get}
use Rattle.std.proofs.lemmas.Cmp.{nat_list_cmp_total}
use Rattle.kb_blocks.specs.Entries.{id_cmp}
use Rattle.kb_blocks.proofs.Maps.{get-viewed}
use Rattle.kb_blocks.proofs.Puts.{exact_ids}
use Rattle.kb_blocks.proofs.store.Store.find.Goals as goal

pub returns-in-Some-clause-found : goal.returns-in-Some-clause-found
returns-in-Some-clause-found g c =
    let read = get-viewed id_cmp nat_list_cmp_total exact_ids (λ (v : Vec ℕ Global). v.items) c.self.inside.by_id.entries c.args.id.now in
    ap Some c.as_slice.ensures.value ∙ ap (option_map (λ (v : Vec ℕ Global). v.items)) c.in-Some.ensures.value ∙ sym read ∙ ap (λ m. get m c.args.id.now) c.self.view_is

pub returns-in-Some-clause-hashed : goal.returns-in-Some-clause-hashed
returns-in-Some-clause-hashed g c =
    let read = get-viewed id_cmp nat_list_cmp_total exact_ids (λ (v : Vec ℕ Global). v.items) c.self.inside.by_id.entries c.args.id.now in
    c.self.invariant.0 c.args.id.now c.as_slice.result.now (read ∙ sym (ap Some c.as_slice.ensures.value ∙ ap (option_map (λ (v : Vec ℕ Global). v.items)) c.in-Some.ensures.value))

pub returns-in-None-clause-found : goal.returns-in-None-clause-found
returns-in-None-clause-found g c =
    let read = get-viewed id_cmp nat_list_cmp_total exact_ids (λ (v : Vec ℕ Global). v.items) c.self.inside.by_id.entries c.args.id.now in
    ap (option_map (λ (v : Vec ℕ Global). v.items)) c.in-None.ensures.value ∙ sym read ∙ ap (λ m. get m c.args.id.now) c.self.view_is
