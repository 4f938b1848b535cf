use Rattle.std.proofs.Common.{◌++◌, ◌∷◌, [], map, take, sym, ap, ◌∙◌, arith}
use Rattle.std.proofs.lemmas.List.{map_more, take_all}
use Rattle.kb_world.proofs.auditing.names_of.Goals as goal

pub devices-preserved : goal.devices-preserved
devices-preserved g c =
    c.in_ok-push.ensures.items ∙ ap (λ l. l ++ c.in_ok-name.name ∷ []) c.devices.invariant
    ∙ ap (λ n. map (λ x. x.name) (take c.devices.declared-index c.args.devices.now) ++ n ∷ []) (c.in_ok-name.ensures.cases ∙ ap (λ x. x.name) c.declared-item.is)
    ∙ sym (map_more (λ x. x.name) c.args.devices.now c.devices.declared-index c.declared-item.result c.devices-test.true)

pub returns : goal.returns
returns g c = let out = c.devices-test.false in c.devices.invariant ∙ ap (map (λ x. x.name)) (take_all c.devices.declared-index c.args.devices.now (omega (arith, out)))
