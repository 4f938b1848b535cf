-- A list of payloads, of which some were taken.
use Rattle.std.proofs.Common.{◌≡◌, ℕ, ◌+◌, ◌<◌, List, [], ◌∷◌, ◌++◌, length, get_or, take, drop, map, sym, ap, subst, ◌∙◌}
use Rattle.std.specs.Prelude.{Vec}
use Rattle.std.specs.declared.alloc.Global.{Global}
use Rattle.std.proofs.lemmas.List.{take-append-drop, drop_more, map-append, map-id, map_push}
use Rattle.kb_log.specs.LogList.{lists_of}
use Rattle.kb_journal.specs.State.{State, Steps, Leads}
use Rattle.kb_journal.proofs.Leading.{leads_push, leads_nowhere}

pub taken : (all some : List (Vec ℕ Global)) (next : Vec ℕ Global) → map (λ (v : Vec ℕ Global). v) some ≡ take (length some) all → (length some < length all) × (next ≡ get_or all (length some) next)
    → all ≡ some ++ next ∷ drop (length some + 1) all
taken all some next front here =
    let n = length some in
    sym (take-append-drop n all)
    ∙ ap (λ (l : List (Vec ℕ Global)). l ++ drop n all) (sym front ∙ map-id some)
    ∙ ap (λ (l : List (Vec ℕ Global)). some ++ l) (drop_more all n next here.0 ∙ ap (λ (v : Vec ℕ Global). v ∷ drop (n + 1) all) (sym here.1))

pub folded_more : (s t u : State) (some : List (Vec ℕ Global)) (next : Vec ℕ Global) → Leads s (lists_of some) t → Steps t next.items u → Leads s (lists_of (some ++ next ∷ [])) u
folded_more s t u some next front step =
    subst (λ (l : List (List ℕ)). Leads s l u) (sym (map_push (λ (v : Vec ℕ Global). v.items) some next)) (leads_push s t u (lists_of some) next.items front step)

pub folded_nowhere : (s t : State) (all some : List (Vec ℕ Global)) (next : Vec ℕ Global) → all ≡ some ++ next ∷ drop (length some + 1) all → Leads s (lists_of some) t → ((u : State) → Steps t next.items u → ⊥) → (u : State) → Leads s (lists_of all) u → ⊥
folded_nowhere s t all some next split front bad u whole =
    let lists : lists_of all ≡ lists_of some ++ next.items ∷ lists_of (drop (length some + 1) all) = ap lists_of split ∙ map-append (λ (v : Vec ℕ Global). v.items) some (next ∷ drop (length some + 1) all) in
    leads_nowhere s t (lists_of some) (lists_of (drop (length some + 1) all)) next.items front bad u (subst (λ (l : List (List ℕ)). Leads s l u) lists whole)
