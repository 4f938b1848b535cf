-- The bytes of a disk have one state at most.
use Rattle.std.proofs.Common.{◌≡◌, ℕ, List, Some, sym, ap, subst, ◌∙◌}
use Rattle.std.specs.Option.{unwrap_or}
use Rattle.kb_journal.specs.State.{State, Leads, HasState, empty}
use Rattle.kb_journal.proofs.Leading.{one_end}

one_list : {A : Type 0} (x y : A) → Some x ≡ Some y → x ≡ y
one_list x y e = ap (λ o. unwrap_or o x) e

pub one_state : (s t : State) (image : List ℕ) → HasState s image → HasState t image → s ≡ t
one_state s t image a b =
    let same : a.0 ≡ b.0 = one_list a.0 b.0 (sym a.1 ∙ b.1) in
    one_end empty s t b.0 (subst (λ (ps : List (List ℕ)). Leads empty ps s) same a.2) b.2
