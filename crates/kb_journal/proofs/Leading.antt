-- Payloads that lead from one state to another.
use Rattle.std.proofs.Common.{◌≡◌, ℕ, Bool, true, false, List, [], ◌∷◌, ◌++◌, refl, ap, sym, subst, ◌∙◌}
use Rattle.kb_journal.specs.declared.entries.Entry.{Entry}
use Rattle.kb_journal.specs.Entries.{entry_text, IsEntry, IsNoEntry}
use Rattle.kb_journal.specs.State.{State, Steps, Leads, empty, is_whole, allows, done}
use Rattle.kb_journal.proofs.Once.{same_entry}

-- a payload leads to one state at most
pub one_step : (s t u : State) (p : List ℕ) → Steps s p t → Steps s p u → t ≡ u
one_step s t u p a b =
    let same : a.entry ≡ b.entry = same_entry a.entry b.entry a.is b.is (sym a.spelled ∙ b.spelled) in
    sym a.after ∙ ap (λ (e : Entry). done s e) same ∙ b.after

pub one_end : (s t u : State) (ps : List (List ℕ)) → Leads s ps t → Leads s ps u → t ≡ u
one_end s t u [] a b = sym a ∙ b
one_end s t u (p ∷ ps) a b =
    let same : a.0 ≡ b.0 = one_step s a.0 b.0 p a.1 b.1 in
    one_end b.0 t u ps (subst (λ (m : State). Leads m ps t) same a.2) b.2

pub leads_push : (s t u : State) (ps : List (List ℕ)) (p : List ℕ) → Leads s ps t → Steps t p u → Leads s (ps ++ p ∷ []) u
leads_push s t u [] p a b = (u, subst (λ (m : State). Steps m p u) (sym a) b, refl)
leads_push s t u (q ∷ ps) p a b = (a.0, a.1, leads_push a.0 t u ps p a.2 b)

pub leads_split : (s u : State) (ps qs : List (List ℕ)) → Leads s (ps ++ qs) u → (t : State) × Leads s ps t × Leads t qs u
leads_split s u [] qs a = (s, refl, a)
leads_split s u (p ∷ ps) qs a =
    let rest = leads_split a.0 u ps qs a.2 in
    (rest.0, (a.0, a.1, rest.1), rest.2)

-- where the front leads to a state in which the next payload can't come, the whole leads nowhere
pub leads_nowhere : (s t : State) (ps qs : List (List ℕ)) (p : List ℕ) → Leads s ps t → ((u : State) → Steps t p u → ⊥) → (u : State) → Leads s (ps ++ p ∷ qs) u → ⊥
leads_nowhere s t ps qs p front bad u whole =
    let parts = leads_split s u ps (p ∷ qs) whole in
    let same : parts.0 ≡ t = one_end s parts.0 t ps parts.1 front in
    bad parts.2.0 (subst (λ (m : State). Steps m p parts.2.0) same parts.2.1)

-- a payload out of the grammar leads nowhere
pub no_step : (s : State) (p : List ℕ) → IsNoEntry p → (t : State) → Steps s p t → ⊥
no_step s p none t a = none a.entry a.is a.spelled

-- nor does one that may not come
pub not_allowed : (s : State) (p : List ℕ) (e : Entry) → IsEntry e → p ≡ entry_text e → allows s e ≡ false → (t : State) → Steps s p t → ⊥
not_allowed s p e is spelled barred t a =
    let same : a.entry ≡ e = same_entry a.entry e a.is is (sym a.spelled ∙ spelled) in
    clash (allows s e) (ap (λ (x : Entry). allows s x) (sym same) ∙ a.allowed) barred
  where
    clash : (b : Bool) → b ≡ true → b ≡ false → ⊥
    clash b said never = cc

-- a list that leads to a state which isn't whole leads to none that is
pub not_whole : (area : ℕ) (lists ps : List (List ℕ)) (s t : State) → lists ≡ ps → Leads empty lists t → is_whole area t ≡ false → Leads empty ps s → is_whole area s ≡ true → ⊥
not_whole area lists ps s t is found barred leads whole =
    let same : s ≡ t = one_end empty s t ps leads (subst (λ (l : List (List ℕ)). Leads empty l t) is found) in
    clash (is_whole area t) (ap (λ (u : State). is_whole area u) (sym same) ∙ whole) barred
  where
    clash : (b : Bool) → b ≡ true → b ≡ false → ⊥
    clash b said never = cc
