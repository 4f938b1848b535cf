use Rattle.std.proofs.Common.{◌++◌, ℕ, map, sym, ap, ◌∙◌, Vec, Global}
use Rattle.std.specs.FinMap.{get}
use Rattle.std.proofs.lemmas.List.{map-append}
use Rattle.kb_keys.specs.Rings.{key_at}
use Rattle.kb_device.proofs.Patched.{builds_written, makes_few}
use Rattle.kb_device.proofs.patching.build_written.Goals as goal

pub returns-clause-holds : goal.returns-clause-holds
returns-clause-holds g c =
    let made = c.in-Ok.patched.1.items in
    let more = c.into_vec-more.result.items in
    let whole = c.new.ensures ∙ ap (map (λ (b : Vec ℕ Global). b.items)) c.in_ok-append.ensures.items ∙ map-append (λ (b : Vec ℕ Global). b.items) made more ∙ ap (λ bs. map (λ (b : Vec ℕ Global). b.items) made ++ bs) c.into_vec-more.ensures in
    builds_written g.S.Sealer.sealed g.H.BlockHash.hashed (get c.args.store.now) (key_at c.args.keys.now) c.args.generation c.in-Some.key.now (sym c.in-Some.ensures) c.args.table.now.tree _ c.in_ok-built.built.pointers c.args.node c.args.old.ptr c.in-Ok.patched.0 c.in_ok-built.built.root c.args.old.size c.args.offset c.args.bytes.now c.args.new_size made c.in_ok-built.built.blocks c.new.result
    c.in-Ok.ensures.tells c.in_ok-built.ensures.tree c.in_ok-built.ensures.holds whole

pub returns-clause-few : goal.returns-clause-few
returns-clause-few g c =
    let made = c.in-Ok.patched.1.items in
    let more = c.into_vec-more.result.items in
    let whole = c.new.ensures ∙ ap (map (λ (b : Vec ℕ Global). b.items)) c.in_ok-append.ensures.items ∙ map-append (λ (b : Vec ℕ Global). b.items) made more ∙ ap (λ bs. map (λ (b : Vec ℕ Global). b.items) made ++ bs) c.into_vec-more.ensures in
    makes_few g.S.Sealer.sealed g.H.BlockHash.hashed (get c.args.store.now) (key_at c.args.keys.now) c.args.generation c.in-Some.key.now (sym c.in-Some.ensures) c.args.table.now.tree _ c.in_ok-built.built.pointers c.args.node c.args.old.ptr c.in-Ok.patched.0 c.args.old.size c.args.offset c.args.bytes.now c.args.new_size made c.in_ok-built.built.blocks c.new.result
    c.in-Ok.ensures.tells c.in_ok-built.ensures.made whole
