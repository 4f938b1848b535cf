-- What is planned meets the rules of its spelling.
use Rattle.std.proofs.Common.{◌≡◌, ◌≢◌, ℕ, ◌≤◌, Bool, true, false, List, [], length, cond, Some, None, Result, Ok, Err, refl, sym, ap, subst, ◌∙◌, arith}
use borrow.Author.Tests.{ltb-false}
use Rattle.std.specs.Option.{unwrap_or}
use Rattle.kb_name.specs.declared.ids.NodeId.{NodeId}
use Rattle.kb_name.specs.Nodes.{root}
use Rattle.kb_ops.specs.declared.rows.Op.{Op}
use Rattle.kb_ops.specs.declared.rows.Change.{Change}
use Rattle.kb_ops.specs.declared.rows.Change.TheVariants.{Create, Remove, Rename, Sync, Exec, Touch}
use Rattle.kb_ops.specs.declared.requests.PlanFault.{PlanFault}
use Rattle.kb_ops.specs.declared.requests.PlanFault.TheVariants.{BadPath, TooDeep, NotFound, NotDir, NotFile, Exists, NotEmpty, Inside, TooBig, TreeFull}
use Rattle.kb_ops.specs.declared.requests.Planned.{Planned}
use Rattle.kb_ops.specs.declared.requests.Planned.TheVariants.{Same, Made}
use Rattle.kb_ops.specs.declared.requests.Request.{Request}
use Rattle.kb_ops.specs.declared.requests.Request.TheVariants as asks
use Rattle.kb_ops.specs.Trees.{Tree, look, IsWellFormed, FitsChange}
use Rattle.kb_ops.specs.Plan.{plan_of}
use Rattle.kb_ops.specs.Refusals.{applies, refusals, unless_refused, is_too_big, is_as_asked, change_asked}
use Rattle.kb_ops.specs.Grammar.{IsNew, MeetsRules, IsProper}
use Rattle.kb_ops.proofs.PlanTable.{plan_is}
use Rattle.kb_ops.proofs.Changes.{planned_fits}

-- where an answer was given, no refusal applies
passed_test : {A : Type 0} (b : Bool) (e : PlanFault) (rest : Result A PlanFault) (x : A) → cond b (Err e) rest ≡ Ok x → (b ≡ false) × (rest ≡ Ok x)
passed_test true e rest x h = cc
passed_test false e rest x h = (refl, h)

-- ten refusals, of which the ninth is of size
given : {A : Type 0} (test : PlanFault → Bool) (answer : Result A PlanFault) (x : A) → unless_refused test refusals answer ≡ Ok x → (test TooBig ≡ false) × (answer ≡ Ok x)
given test answer x h =
    let a = passed_test (test BadPath) BadPath _ x h in
    let b = passed_test (test TooDeep) TooDeep _ x a.1 in
    let c = passed_test (test NotFound) NotFound _ x b.1 in
    let d = passed_test (test NotDir) NotDir _ x c.1 in
    let e = passed_test (test NotFile) NotFile _ x d.1 in
    let f = passed_test (test Exists) Exists _ x e.1 in
    let g = passed_test (test NotEmpty) NotEmpty _ x f.1 in
    let i = passed_test (test Inside) Inside _ x g.1 in
    let j = passed_test (test TooBig) TooBig _ x i.1 in
    let k = passed_test (test TreeFull) TreeFull _ x j.1 in
    (j.0, k.1)

abbrev MayBeNew : Change → Type 0
MayBeNew (Create parent name kind bytes) = IsNew kind bytes
MayBeNew change = Unit {0}

none_new : (bytes : List ℕ) → bytes ≡ [] → length bytes ≤ 1024
none_new bytes e = let z : length bytes ≡ 0 = ap length e in omega (arith, z)

asked_new : (t : Tree) (r : Request) → is_too_big r ≡ false → MayBeNew (change_asked t r)
asked_new t (asks.Mkdir path) h = record { empty = λ _. refl; few = none_new [] refl }
asked_new t (asks.Mkfile path) h = record { empty = λ _. refl; few = none_new [] refl }
asked_new t (asks.Link path target) h = record { empty = λ other. absurd (other refl); few = ltb-false 1024 (length target) h }
asked_new t (asks.Remove path) h = tt
asked_new t (asks.Move from to) h = tt
asked_new t (asks.Write path offset bytes) h = tt
asked_new t (asks.Cut path size) h = tt
asked_new t (asks.Exec path on) h = tt
asked_new t (asks.Touch path mtime) h = tt

change_in : Change → Result Planned PlanFault → Change
change_in c (Ok (Made op)) = op.change
change_in c (Ok Same) = c
change_in c (Err e) = c

made_new : (same : Bool) (made op : Op) → (let a : Result Planned PlanFault = cond same (Ok Same) (Ok (Made made)) in a ≡ Ok (Made op)) → made.change ≡ op.change
unfolding change_in
made_new true made op h = cc
made_new false made op h = ap (change_in made.change) h

some_root : (gone : NodeId) → gone ≢ root → Some gone ≢ Some root
some_root gone off e = off (ap (λ o. unwrap_or o gone) e)

some_other : (gone node : NodeId) → gone ≢ node → Some gone ≢ Some node
some_other gone node off e = off (ap (λ o. unwrap_or o gone) e)

none_some : (x : NodeId) → None ≢ Some x
none_some x e = cc

fits_rules : (id : NodeId) (moment : ℕ) (c : Change) (t : Tree) → FitsChange id moment c t → MayBeNew c → MeetsRules c
fits_rules id moment (Create parent name kind bytes) t fits new = (fits.named, new)
fits_rules id moment (Remove node) t fits new = fits.not_root
fits_rules id moment (Rename node parent name None) t fits new = (fits.named, record { moves = fits.not_root; keeps_root = none_some root; other = none_some node })
fits_rules id moment (Rename node parent name (Some gone)) t fits new = (fits.named, record { moves = fits.not_root; keeps_root = some_root gone fits.place.not_root; other = some_other gone node fits.place.other })
fits_rules id moment (Sync node offset bytes size) t fits new = fits.1
fits_rules id moment (Exec node on) t fits new = tt
fits_rules id moment (Touch node mtime) t fits new = tt

pub planned_proper : (t : Tree) (request : Request) (device seq moment : ℕ) (op : Op) → IsWellFormed t → look t (record { device = device; seq = seq; part = 0 }) ≡ None → 1 ≤ device → 1 ≤ seq → plan_of t request device seq moment ≡ Ok (Made op) → IsProper op
planned_proper t request device seq moment op w new d s h =
    let fits = planned_fits t request device seq moment op w new h in
    let table = sym (plan_is t request device seq moment w) ∙ h in
    let g = given (applies t request) _ (Made op) table in
    let made : Op = record { device = device; seq = seq; moment = moment; change = change_asked t request } in
    let same : change_asked t request ≡ op.change = made_new (is_as_asked t request) made op g.1 in
    record {
      device = subst (λ n. 1 ≤ n) (sym fits.1) d;
      seq = subst (λ n. 1 ≤ n) (sym fits.2) s;
      change = fits_rules _ op.moment op.change t fits.0 (subst MayBeNew same (asked_new t request g.0));
    }
