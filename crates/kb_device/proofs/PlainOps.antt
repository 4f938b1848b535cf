-- The operations of revisions of which none is a merge lead from tree to tree.
use Rattle.std.proofs.Common.{◌≡◌, ℕ, ◌+◌, ◌≤◌, Bool, true, false, List, [], ◌∷◌, ◌++◌, length, take, drop, append_assoc, refl, sym, ap, subst, ◌∙◌, arith}
use Rattle.std.specs.Prelude.{◌&&◌}
use Rattle.std.proofs.lemmas.List.{length-append, length-take-le}
use Rattle.kb_ops.specs.declared.rows.Op.{Op}
use Rattle.kb_ops.specs.Trees.{Tree, apply, fold_ops, FitAll}
use Rattle.kb_ops.proofs.Changes.{fold_joined}
use Rattle.kb_snap.specs.Chains.{Deed, Founded, Stepped, Merged, Rekeyed, Revision, Chain, ops_in, trees_of, done_on, tree_at}
use Rattle.kb_snap.specs.Lawful.{FitsDeed, LawfulFrom, IsLawful}
use Rattle.kb_snap.proofs.Lists.{append_none, cut}
use Rattle.kb_snap.proofs.Chains.{tree_longer, tree_next, newest_is}
use Rattle.kb_device.specs.Behind.{behind, all_ops, is_no_merge, are_plain, PlainOpsLead}

both_true : (a b : Bool) → (a && b) ≡ true → (a ≡ true) × (b ≡ true)
both_true true true e = (refl, refl)
both_true true false e = cc
both_true false b e = cc

fit_join : (ops more : List Op) (t : Tree) → FitAll ops t → FitAll more (fold_ops ops t) → FitAll (ops ++ more) t
fit_join [] more t h k = k
fit_join (op ∷ ops) more t h k = (h.0, fit_join ops more (apply op t) h.1 k)

-- one revision
one_leads : (front : Chain) (x : Revision) (deed : Deed) → is_no_merge deed ≡ true → FitsDeed front x deed → FitAll (ops_in deed) (tree_at front (length front)) × (fold_ops (ops_in deed) (tree_at front (length front)) ≡ done_on (trees_of front) x deed)
one_leads front x Founded plain fits = (tt, sym (newest_is front))
one_leads front x (Stepped ops) plain fits = (fits.1, ap (fold_ops ops) (sym (newest_is front)))
one_leads front x (Merged base rule ops) plain fits = cc
one_leads front x (Rekeyed action d) plain fits = (tt, sym (newest_is front))

-- all behind the front
rest_leads : (front rest : Chain) → LawfulFrom front rest → are_plain rest ≡ true → FitAll (all_ops rest) (tree_at front (length front)) × (fold_ops (all_ops rest) (tree_at front (length front)) ≡ tree_at (front ++ rest) (length (front ++ rest)))
rest_leads front [] lawful plain = (tt, ap (λ c. tree_at c (length c)) (sym (append_none front)))
rest_leads front (x ∷ rest) lawful plain =
    let next = front ++ x ∷ [] in
    let t = tree_at front (length front) in
    let are = both_true (is_no_merge x.deed) (are_plain rest) plain in
    let one = one_leads front x x.deed are.0 lawful.0.fits in
    let more = rest_leads next rest lawful.1 are.1 in
    let there : tree_at next (length next) ≡ fold_ops (ops_in x.deed) t = ap (tree_at next) (length-append front (x ∷ [])) ∙ tree_next front x ∙ sym one.1 in (
      fit_join (ops_in x.deed) (all_ops rest) t one.0 (subst (FitAll (all_ops rest)) there more.0),
      fold_joined (ops_in x.deed) (all_ops rest) t ∙ ap (fold_ops (all_ops rest)) (sym there) ∙ more.1 ∙ ap (λ c. tree_at c (length c)) (append_assoc front (x ∷ []) rest),
    )

lawful_front : (before c more : Chain) → LawfulFrom before (c ++ more) → LawfulFrom before c
lawful_front before [] more h = tt
lawful_front before (x ∷ c) more h = (h.0, lawful_front (before ++ x ∷ []) c more h.1)

lawful_rest : (before front rest : Chain) → LawfulFrom before (front ++ rest) → LawfulFrom (before ++ front) rest
lawful_rest before [] rest h = subst (λ b. LawfulFrom b rest) (sym (append_none before)) h
lawful_rest before (x ∷ front) rest h = subst (λ b. LawfulFrom b rest) (append_assoc before (x ∷ []) front) (lawful_rest (before ++ x ∷ []) front rest h.1)

pub plain_ops_lead : PlainOpsLead
plain_ops_lead c known n lawful low high plain =
    let upto = take n c in
    let front = take known upto in
    let rest = behind c known n in
    let split : c ≡ upto ++ drop n c = cut n c in
    let again : upto ≡ front ++ rest = cut known upto in
    let long : length upto ≡ n = length-take-le n c high in
    let size : length front ≡ known = length-take-le known upto (let e = long in omega (arith, e, low)) in
    let upto_lawful : IsLawful upto = lawful_front [] upto (drop n c) (subst IsLawful split lawful) in
    let led = rest_leads front rest (lawful_rest [] front rest (subst IsLawful again upto_lawful)) plain in
    let at : (r : ℕ) → r ≤ n → tree_at upto r ≡ tree_at c r = λ r le. sym (ap (λ l. tree_at l r) split ∙ tree_longer upto (drop n c) r (let e = long in omega (arith, e, le))) in
    let first : tree_at front (length front) ≡ tree_at c known =
    ap (tree_at front) size ∙ sym (tree_longer front rest known (let e = size in omega (arith, e))) ∙ ap (λ l. tree_at l known) (sym again) ∙ at known low in
    let last : tree_at (front ++ rest) (length (front ++ rest)) ≡ tree_at c n = ap (λ l. tree_at l (length l)) (sym again) ∙ ap (tree_at upto) long ∙ at n (omega arith) in
    (subst (FitAll (all_ops rest)) first led.0, ap (fold_ops (all_ops rest)) (sym first) ∙ led.1 ∙ last)
