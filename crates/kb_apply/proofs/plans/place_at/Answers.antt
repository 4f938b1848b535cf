use Rattle.std.proofs.Common.{◌≡◌, ℕ, List, [], ◌∷◌, ◌++◌, Some, Ok, refl, sym, ap, ◌∙◌}
use Rattle.std.specs.Option.{option_map_or}
use Rattle.kb_name.specs.Nodes.{root}
use Rattle.kb_ops.specs.Plan.{place_in, place_at, split_last}
use Rattle.kb_apply.proofs.plans.place_at.Goals as goal

split_at_last : (front : List (List ℕ)) (name : List ℕ) → split_last (front ++ name ∷ []) ≡ Some (front, name)
split_at_last [] name = refl
split_at_last (x ∷ xs) name = ap (λ o. option_map_or (λ (s : List (List ℕ) × List ℕ). Some (x ∷ s.0, s.1)) o (Some ([], x))) (split_at_last xs name)

pub returns-in-Some : goal.returns-in-Some
unfolding place_at
returns-in-Some c =
    let t = c.args.table.now.tree in
    c.place_in.ensures
    ∙ sym (ap (λ o. option_map_or (λ (s : List (List ℕ) × List ℕ). place_in t s.0 s.1) o (Ok (record { parent = root; name = []; target = Some root })))
    (ap split_last c.in-Some.ensures.cases.0 ∙ split_at_last c.in-Some.names.now c.in-Some.name.now))
