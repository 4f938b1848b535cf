-- What a planned operation is, folding over joined lists, and which rows an operation changes.
use Rattle.std.proofs.Common.{◌≡◌, ◌≢◌, ℕ, false, List, [], ◌∷◌, ◌++◌, ◌↔◌, Option, Some, None, Result, Ok, Err, inl, inr, refl, sym, ap, subst, ◌∙◌}
use Rattle.std.specs.Option.{option_map_or, unwrap_or}
use Rattle.std.specs.List.{list_any}
use Rattle.std.specs.FinMap.{insert, remove}
use Rattle.kb_name.specs.declared.ids.NodeId.{NodeId}
use Rattle.kb_name.specs.Nodes.{same_node}
use Rattle.kb_ops.specs.declared.rows.Row.{Row}
use Rattle.kb_ops.specs.declared.rows.Op.{Op}
use Rattle.kb_ops.specs.declared.rows.Change.{Change}
use Rattle.kb_ops.specs.declared.rows.Change.TheVariants.{Create, Remove, Rename, Sync, Exec, Touch}
use Rattle.kb_ops.specs.declared.requests.Request.{Request}
use Rattle.kb_ops.specs.declared.requests.PlanFault.{PlanFault}
use Rattle.kb_ops.specs.declared.requests.Planned.{Planned}
use Rattle.kb_ops.specs.declared.requests.Planned.TheVariants.{Same, Made}
use Rattle.kb_ops.specs.Trees.{Tree, look, IsWellFormed, edit, created, apply, apply_change, new_id, FitsChange, Fits, fold_ops, FitAll}
use Rattle.kb_ops.specs.Plan.{change_for, planned, plan_of}
use Rattle.kb_ops.specs.Laws.{touched, nodes_of}
use Rattle.kb_ops.proofs.Nodes.{apart, node_cases}
use Rattle.kb_ops.proofs.Walks.{or_no_left, or_no_right}
use Rattle.kb_ops.proofs.Looks.{look-insert, look-remove}
use Rattle.kb_ops.proofs.PlanFits.{bind_ok, Fitting, change_fits}

-- ---- planned operations

abbrev NewId : ℕ → ℕ → NodeId
NewId device seq = record { device = device; seq = seq; part = 0 }

abbrev Planning : Tree → ℕ → ℕ → ℕ → Op → Type 0
Planning t device seq moment op = Fits op t × (op.device ≡ device) × (op.seq ≡ seq) × (op.moment ≡ moment)

op_in : Op → Planned → Op
op_in op Same = op
op_in op (Made x) = x

made_is : (t : Tree) (w : IsWellFormed t) (device seq moment : ℕ) (c : Option Change) (op : Op) → planned device seq moment c ≡ Made op → Fitting (NewId device seq) moment t w (Ok c) → Planning t device seq moment op
unfolding op_in
made_is t w device seq moment None op h fits = cc
made_is t w device seq moment (Some change) op h fits =
    let made : Op = record { device = device; seq = seq; moment = moment; change = change } in
    let same : made ≡ op = ap (op_in op) h in
    subst (Planning t device seq moment) same (fits, refl, refl, refl)

value : Planned → Result Planned PlanFault → Planned
value d (Ok x) = x
value d (Err e) = d

ok_is : (x y : Planned) → (let r : Result Planned PlanFault = Ok x in r ≡ Ok y) → x ≡ y
unfolding value
ok_is x y e = ap (value x) e

pub planned_fits : (t : Tree) (request : Request) (device seq moment : ℕ) (op : Op) → IsWellFormed t → look t (NewId device seq) ≡ None → plan_of t request device seq moment ≡ Ok (Made op) → Planning t device seq moment op
planned_fits t request device seq moment op w new h =
    let f : Option Change → Result Planned PlanFault = λ c. Ok (planned device seq moment c) in
    let b = bind_ok (change_for t request) f (Made op) h in
    made_is t w device seq moment b.0 op (ok_is _ _ b.2) (subst (Fitting (NewId device seq) moment t w) b.1 (change_fits (NewId device seq) moment t w new request))

-- ---- folding

pub fold_joined : (ops more : List Op) (t : Tree) → fold_ops (ops ++ more) t ≡ fold_ops more (fold_ops ops t)
fold_joined [] more t = refl
fold_joined (op ∷ ops) more t = fold_joined ops more (apply op t)

fit_split : (ops more : List Op) (t : Tree) → FitAll (ops ++ more) t → FitAll ops t × FitAll more (fold_ops ops t)
fit_split [] more t h = (tt, h)
fit_split (op ∷ ops) more t h = let k = fit_split ops more (apply op t) h.1 in ((h.0, k.0), k.1)

fit_join : (ops more : List Op) (t : Tree) → FitAll ops t → FitAll more (fold_ops ops t) → FitAll (ops ++ more) t
fit_join [] more t h k = k
fit_join (op ∷ ops) more t h k = (h.0, fit_join ops more (apply op t) h.1 k)

pub folds_join : (ops more : List Op) (t : Tree) → (fold_ops (ops ++ more) t ≡ fold_ops more (fold_ops ops t)) × (FitAll (ops ++ more) t ↔ (FitAll ops t × FitAll more (fold_ops ops t)))
folds_join ops more t = (fold_joined ops more t, (fit_split ops more t, λ h. fit_join ops more t h.0 h.1))

-- ---- which rows change

edit_other : (t : Tree) (node : NodeId) (f : Row → Row) (q : NodeId) → q ≢ node → look (edit t node f) q ≡ look t q
edit_other t node f q ne = elim (look t node) as (λ o. look (option_map_or (λ r. insert t node (f r)) o t) q ≡ look t q) [
  | Some r ↦ (look-insert t node (f r)).others q ne
  | None ↦ refl
]

first_off : (q k : NodeId) (rest : List NodeId) → list_any (same_node q) (k ∷ rest) ≡ false → q ≢ k
first_off q k rest h = apart q k (or_no_left _ _ h)

change_others : (id : NodeId) (moment : ℕ) (c : Change) (t : Tree) (q : NodeId) → list_any (same_node q) (nodes_of id c) ≡ false → look (apply_change id moment c t) q ≡ look t q
change_others id moment (Create parent name kind bytes) t q off = (look-insert t id (created id moment parent name kind bytes)).others q (first_off q id [] off)
change_others id moment (Remove node) t q off = (look-remove t node).others q (first_off q node [] off)
change_others id moment (Rename node parent name None) t q off = edit_other t node _ q (first_off q node [] off)
change_others id moment (Rename node parent name (Some gone)) t q off =
    edit_other (remove t gone) node _ q (first_off q node (gone ∷ []) off) ∙ (look-remove t gone).others q (first_off q gone [] (or_no_right _ _ off))
change_others id moment (Sync node offset bytes size) t q off = edit_other t node _ q (first_off q node [] off)
change_others id moment (Exec node on) t q off = edit_other t node _ q (first_off q node [] off)
change_others id moment (Touch node mtime) t q off = edit_other t node _ q (first_off q node [] off)

pub others_stay : (op : Op) (t : Tree) (q : NodeId) → list_any (same_node q) (touched op) ≡ false → look (apply op t) q ≡ look t q
others_stay op t q off = change_others (new_id op) op.moment op.change t q off

some_is : (x y : Row) → Some x ≡ Some y → x ≡ y
some_is x y e = ap (λ o. unwrap_or o x) e

abbrev Alike : Row → Row → Type 0
Alike was row = (row.id ≡ was.id) × (row.kind ≡ was.kind)

alike_same : (t u : Tree) (q : NodeId) (was row : Row) → look u q ≡ look t q → look t q ≡ Some was → look u q ≡ Some row → Alike was row
alike_same t u q was row same h k = subst (Alike was) (some_is was row (sym h ∙ sym same ∙ k)) (refl, refl)

edit_alike : (t : Tree) (node : NodeId) (f : Row → Row) → ((r : Row) → Alike r (f r)) → (q : NodeId) (was row : Row) → look t q ≡ Some was → look (edit t node f) q ≡ Some row → Alike was row
edit_alike t node f alike q was row h k = elim (node_cases q node) [
  | inr ne ↦ alike_same t (edit t node f) q was row (edit_other t node f q ne) h k
  | inl e ↦
      let there : look t node ≡ Some was = sym (ap (look t) e) ∙ h in
      let edited : edit t node f ≡ insert t node (f was) = ap (λ o. option_map_or (λ r. insert t node (f r)) o t) there in
      let now : look (edit t node f) q ≡ Some (f was) = ap (look (edit t node f)) e ∙ ap (λ u. look u node) edited ∙ (look-insert t node (f was)).here in
      subst (Alike was) (some_is (f was) row (sym now ∙ k)) (alike was)
]

remove_alike : (t : Tree) (node q : NodeId) (was row : Row) → look t q ≡ Some was → look (remove t node) q ≡ Some row → Alike was row
remove_alike t node q was row h k = elim (node_cases q node) [
  | inr ne ↦ alike_same t (remove t node) q was row ((look-remove t node).others q ne) h k
  | inl e ↦ let none : look (remove t node) q ≡ None = ap (look (remove t node)) e ∙ (look-remove t node).here in cc
]

change_alike : (id : NodeId) (moment : ℕ) (c : Change) (t : Tree) (q : NodeId) (was row : Row) → FitsChange id moment c t → look t q ≡ Some was → look (apply_change id moment c t) q ≡ Some row → Alike was row
change_alike id moment (Create parent name kind bytes) t q was row fits h k = elim (node_cases q id) [
  | inr ne ↦ alike_same t (apply_change id moment (Create parent name kind bytes) t) q was row ((look-insert t id (created id moment parent name kind bytes)).others q ne) h k
  | inl e ↦ let none : look t q ≡ None = ap (look t) e ∙ fits.new in cc
]
change_alike id moment (Remove node) t q was row fits h k = remove_alike t node q was row h k
change_alike id moment (Rename node parent name None) t q was row fits h k = edit_alike t node _ (λ r. (refl, refl)) q was row h k
change_alike id moment (Rename node parent name (Some gone)) t q was row fits h k = elim (node_cases q gone) [
  | inr ne ↦ edit_alike (remove t gone) node _ (λ r. (refl, refl)) q was row ((look-remove t gone).others q ne ∙ h) k
  | inl e ↦
      let off : q ≢ node = λ p. fits.place.other (sym e ∙ p) in
      let none : look (apply_change id moment (Rename node parent name (Some gone)) t) q ≡ None = edit_other (remove t gone) node _ q off ∙ ap (look (remove t gone)) e ∙ (look-remove t gone).here in
      cc
]
change_alike id moment (Sync node offset bytes size) t q was row fits h k = edit_alike t node _ (λ r. (refl, refl)) q was row h k
change_alike id moment (Exec node on) t q was row fits h k = edit_alike t node _ (λ r. (refl, refl)) q was row h k
change_alike id moment (Touch node mtime) t q was row fits h k = edit_alike t node _ (λ r. (refl, refl)) q was row h k

pub kinds_stay : (op : Op) (t : Tree) (q : NodeId) (was row : Row) → Fits op t → look t q ≡ Some was → look (apply op t) q ≡ Some row → Alike was row
kinds_stay op t q was row fits h k = change_alike (new_id op) op.moment op.change t q was row fits h k
