-- What holds of every lawful chain: its operations by device, and its trees.
use Rattle.std.proofs.Common.{◌≡◌, ◌⊎◌, ℕ, zero, suc, ◌+◌, ◌-◌, ◌≤◌, ◌<◌, ◌==◌, Bool, true, false, All, List, [], ◌∷◌, ◌++◌, length, take, drop, slice_get, Some, inl, inr, refl, sym, ap, ◌∙◌, subst, arith, append_assoc, length-append}
use Rattle.std.proofs.lemmas.Bool.Decides.{nat_tests}
use Rattle.kb_name.specs.Names.{is_device_name}
use Rattle.kb_name.specs.Moments.{last_second}
use Rattle.kb_ops.specs.declared.rows.Op.{Op}
use Rattle.kb_ops.specs.Trees.{Tree, fold_ops, FitAll, IsWellFormed}
use Rattle.kb_ops.proofs.TreeKept.{fold_kept, start_formed}
use Rattle.kb_rules.specs.declared.stamp.Stamp.{Stamp}
use Rattle.kb_rules.specs.Meet.{Meet}
use Rattle.kb_rules.proofs.Listed.{naming}
use Rattle.kb_rules.proofs.Lawful.{lawful}
use Rattle.kb_snap.specs.Chains.{Deed, Founded, Stepped, Merged, Rekeyed, Revision, Chain, ops_in, ops_of, done_on, trees_of, tree_at, merged_tree, stamp_of, seq_of_last, most_revisions}
use Rattle.kb_snap.specs.Lawful.{AreOf, CountsFrom, AreFew, FitsDeed, Follows, LawfulFrom, IsLawful}
use Rattle.kb_snap.specs.ChainLaws.{IsFew, IsStepOfFew}
use Rattle.std.proofs.lemmas.List.Elements.{All-append, All-cons, All-nil}
use Rattle.kb_keys.specs.declared.policy.Action.TheVariants as action
use Rattle.kb_snap.specs.Members.{generation_by, generation_from, generation_of}
use Rattle.kb_snap.specs.Ids.{AreGiven}
use Rattle.std.proofs.lemmas.List.{length-take-le}
use Rattle.kb_snap.proofs.Lists.{append_none, cut}
use Rattle.kb_snap.proofs.Chains.{ops_push, by_writer, by_other, tree_longer, tree_next, newest_is}
use Rattle.kb_snap.proofs.Counts.{counts_append}
use Rattle.kb_snap.proofs.Ids.{AreIn, given_longer, given_start, given_fold, given_merge}

-- ---- going along a chain

pub lawful_push : (before c : Chain) (x : Revision) → LawfulFrom before c → Follows (before ++ c) x → LawfulFrom before (c ++ x ∷ [])
lawful_push before [] x h f = (subst (λ b. Follows b x) (append_none before) f, tt)
lawful_push before (r ∷ c) x h f = (h.0, lawful_push (before ++ r ∷ []) c x h.1 (subst (λ b. Follows b x) (sym (append_assoc before (r ∷ []) c)) f))

-- what each next revision keeps holds of the whole
pub along : (P : Chain → Type 0) → ((c : Chain) (x : Revision) → P c → Follows c x → P (c ++ x ∷ [])) → (before c : Chain) → P before → LawfulFrom before c → P (before ++ c)
along P next before [] p h = subst P (sym (append_none before)) p
along P next before (r ∷ c) p h = subst P (append_assoc before (r ∷ []) c) (along P next (before ++ r ∷ []) c (next before r p h.0) h.1)

-- ---- operations by device

pub record Ordered (d : ℕ) (c : Chain) : Type 0 where
  pub counts : CountsFrom 1 (ops_of d c)
  pub own : AreOf d (ops_of d c)

own_append : (d : ℕ) (xs ys : List Op) → AreOf d xs → AreOf d ys → AreOf d (xs ++ ys)
own_append d [] ys h k = k
own_append d (x ∷ xs) ys h k = (h.0, own_append d xs ys h.1 k)

bool_cases : (b : Bool) → (b ≡ true) ⊎ (b ≡ false)
bool_cases true = inl refl
bool_cases false = inr refl

pub ordered : (d : ℕ) (c : Chain) → IsLawful c → Ordered d c
ordered d c h = along (Ordered d) next [] c (record { counts = tt; own = tt }) h where
  next : (c : Chain) (x : Revision) → Ordered d c → Follows c x → Ordered d (c ++ x ∷ [])
  next c x o f = elim (bool_cases (x.writer == d)) [
    | inl e ↦ (
        let is : x.writer ≡ d = grind (arith, nat_tests) in
        let all : ops_of d (c ++ x ∷ []) ≡ ops_of d c ++ ops_in x.deed = ops_push d c x ∙ ap (λ l. ops_of d c ++ l) (by_writer d x is) in
        let counts : CountsFrom (1 + length (ops_of d c)) (ops_in x.deed) = subst (λ n. CountsFrom n (ops_in x.deed)) (ap (λ k. length (ops_of k c) + 1) is ∙ (let same : length (ops_of d c) + 1 ≡ 1 + length (ops_of d c) = omega arith in same)) f.counts in
        record {
          counts = subst (CountsFrom 1) (sym all) (counts_append 1 (ops_of d c) (ops_in x.deed) o.counts counts);
          own = subst (AreOf d) (sym all) (own_append d (ops_of d c) (ops_in x.deed) o.own (subst (λ k. AreOf k (ops_in x.deed)) is f.own));
        })
    | inr e ↦ (
        let ne : x.writer ≡ d → ⊥ = λ is. (let b : (x.writer == d) ≡ true = grind (arith, nat_tests) in cc) in
        let all : ops_of d (c ++ x ∷ []) ≡ ops_of d c = ops_push d c x ∙ ap (λ l. ops_of d c ++ l) (by_other d x ne) ∙ append_none (ops_of d c) in
        record { counts = subst (CountsFrom 1) (sym all) o.counts; own = subst (AreOf d) (sym all) o.own })
  ]

-- ---- operations at their places

get_at : (before ops : List Op) (op : Op) → slice_get (before ++ op ∷ ops) (length before) ≡ Some op
get_at [] ops op = refl
get_at (x ∷ before) ops op = get_at before ops op

are_in : (d : ℕ) (c : Chain) (before ops : List Op) → ops_of d c ≡ before ++ ops → CountsFrom (length before + 1) ops → AreOf d ops → AreIn c ops
are_in d c before [] e counts own = tt
are_in d c before (op ∷ ops) e counts own =
    let place : op.seq - 1 ≡ length before = (let s = counts.0 in omega arith) in
    let at : slice_get (ops_of op.device c) (op.seq - 1) ≡ Some op = (λ i. slice_get (ops_of (own.0 i) c) (place i)) ∙ ap (λ l. slice_get l (length before)) e ∙ get_at before ops op in
    let long : length (before ++ op ∷ []) ≡ length before + 1 = length-append before (op ∷ []) in
    (((let s = counts.0 in omega arith), at), are_in d c (before ++ op ∷ []) ops (e ∙ sym (append_assoc before (op ∷ []) ops)) (subst (λ n. CountsFrom (n + 1) ops) (sym long) counts.1) own.1)

new_in : (c : Chain) (x : Revision) → Follows c x → AreIn (c ++ x ∷ []) (ops_in x.deed)
new_in c x f = are_in x.writer (c ++ x ∷ []) (ops_of x.writer c) (ops_in x.deed) (ops_push x.writer c x ∙ ap (λ l. ops_of x.writer c ++ l) (by_writer x.writer x refl)) f.counts f.own

-- ---- trees

-- the tree is well formed, and its ids are given by the chain
pub record IsFine (c : Chain) (t : Tree) : Type 0 where
  pub formed : IsWellFormed t
  pub given : AreGiven c t

fine_longer : (c more : Chain) (t : Tree) → IsFine c t → IsFine (c ++ more) t
fine_longer c more t h = record { formed = h.formed; given = given_longer c more t h.given }

fine_fold : (c : Chain) (ops : List Op) (t : Tree) → IsFine c t → FitAll ops t → AreIn c ops → IsFine c (fold_ops ops t)
fine_fold c ops t h fits are = record { formed = fold_kept ops t h.formed fits; given = given_fold c ops t h.given fits are }

-- the last operation of a merge gives the copies their ids
last_given : (c : Chain) (d : ℕ) (ops : List Op) → 0 < length ops → AreOf d ops → AreIn c ops → (op : Op) × (1 ≤ seq_of_last ops) × (slice_get (ops_of d c) (seq_of_last ops - 1) ≡ Some op)
last_given c d [] some own are = absurd (omega arith)
last_given c d (op ∷ ops) some own are = last op ops own are where
  last : (op : Op) (ops : List Op) → AreOf d (op ∷ ops) → AreIn c (op ∷ ops) → (o : Op) × (1 ≤ seq_of_last (op ∷ ops)) × (slice_get (ops_of d c) (seq_of_last (op ∷ ops) - 1) ≡ Some o)
  last op [] own are = (op, are.0.0, (λ i. slice_get (ops_of (sym own.0 i) c) (op.seq - 1)) ∙ are.0.1)
  last op (o ∷ ops) own are = last o ops own.1 are.1

merge_fine : (c : Chain) (b m u : Tree) (stamp : Stamp) → Meet b m u stamp → AreFew m u → is_device_name stamp.name ≡ true → stamp.moment ≤ last_second → AreGiven c m → AreGiven c u
    → (op : Op) → 1 ≤ stamp.last → slice_get (ops_of stamp.device c) (stamp.last - 1) ≡ Some op → IsFine c (merged_tree b m u stamp)
unfolding merged_tree
merge_fine c b m u stamp meet few name moment in_m in_u op some at = record {
  formed = (lawful b m u stamp meet (naming stamp name moment) few).formed;
  given = given_merge c b m u stamp meet (naming stamp name moment) few in_m in_u op some at;
}

-- each tree of the chain
abbrev pub FineTrees : Chain → Type 0
FineTrees c = (r : ℕ) → r ≤ length c → IsFine c (tree_at c r)

next_fine : (c : Chain) (x : Revision) → ((r : ℕ) → r ≤ length c → IsFine (c ++ x ∷ []) (tree_at c r)) → AreIn (c ++ x ∷ []) (ops_in x.deed) → AreOf x.writer (ops_in x.deed)
    → (deed : Deed) → x.deed ≡ deed → FitsDeed c x deed → IsFine (c ++ x ∷ []) (done_on (trees_of c) x deed)
next_fine c x old are own Founded is fits = subst (IsFine (c ++ x ∷ [])) (sym (newest_is c)) (old (length c) (omega arith))
next_fine c x old are own (Rekeyed action d) is fits = subst (IsFine (c ++ x ∷ [])) (sym (newest_is c)) (old (length c) (omega arith))
next_fine c x old are own (Stepped ops) is fits =
    subst (λ t. IsFine (c ++ x ∷ []) (fold_ops ops t)) (sym (newest_is c))
    (fine_fold (c ++ x ∷ []) ops (tree_at c (length c)) (old (length c) (omega arith)) fits.1 (subst (λ d. AreIn (c ++ x ∷ []) (ops_in d)) is are))
next_fine c x old are own (Merged base rule ops) is fits =
    let here = subst (λ d. AreIn (c ++ x ∷ []) (ops_in d)) is are in
    let last = last_given (c ++ x ∷ []) x.writer ops fits.some (subst (λ d. AreOf x.writer (ops_in d)) is own) here in
    let m = old (length c) (omega arith) in
    let u = fine_fold (c ++ x ∷ []) ops (tree_at c base) (old base fits.within) fits.fit here in
    subst (λ t. IsFine (c ++ x ∷ []) (merged_tree (tree_at c base) t (fold_ops ops (tree_at c base)) (stamp_of x rule ops))) (sym (newest_is c))
    (merge_fine (c ++ x ∷ []) (tree_at c base) (tree_at c (length c)) (fold_ops ops (tree_at c base)) (stamp_of x rule ops) fits.meet fits.few fits.name fits.time m.given u.given last.0 last.1 last.2)

pub fine_trees : (c : Chain) → IsLawful c → FineTrees c
fine_trees c h = along FineTrees next [] c first h where
  first : FineTrees []
  first r le =
      let zero_is : r ≡ 0 = omega arith in
      subst (λ n. IsFine [] (tree_at [] n)) (sym zero_is) (record { formed = start_formed; given = given_start [] })

  next : (c : Chain) (x : Revision) → FineTrees c → Follows c x → FineTrees (c ++ x ∷ [])
  next c x old f r le =
      let older : (r : ℕ) → r ≤ length c → IsFine (c ++ x ∷ []) (tree_at c r) = λ r le. fine_longer c (x ∷ []) (tree_at c r) (old r le) in
      elim (at_most r (length c)) [
        | inl within ↦ subst (IsFine (c ++ x ∷ [])) (sym (tree_longer c (x ∷ []) r within)) (older r within)
        | inr beyond ↦ (
            let last : r ≡ length c + 1 = (let e = length-append c (x ∷ []) in omega arith) in
            subst (λ n. IsFine (c ++ x ∷ []) (tree_at (c ++ x ∷ []) n)) (sym last)
            (subst (IsFine (c ++ x ∷ [])) (sym (tree_next c x)) (next_fine c x older (new_in c x f) f.own x.deed refl f.fits)))
      ]
    where
      at_most : (a b : ℕ) → (a ≤ b) ⊎ (b < a)
      at_most zero b = inl (omega arith)
      at_most (suc a) zero = inr (omega arith)
      at_most (suc a) (suc b) = elim (at_most a b) [ inl le ↦ inl (omega arith) | inr lt ↦ inr (omega arith) ]

-- ---- the first revisions of a chain

lawful_front : (before c more : Chain) → LawfulFrom before (c ++ more) → LawfulFrom before c
lawful_front before [] more h = tt
lawful_front before (x ∷ c) more h = (h.0, lawful_front (before ++ x ∷ []) c more h.1)

-- the ids of a tree were given up to it
pub given_then : (c : Chain) → IsLawful c → (r : ℕ) → r ≤ length c → AreGiven (take r c) (tree_at c r)
given_then c h r le =
    let split : c ≡ take r c ++ drop r c = cut r c in
    let size : length (take r c) ≡ r = length-take-le r c le in
    let front : IsLawful (take r c) = lawful_front [] (take r c) (drop r c) (subst IsLawful split h) in
    let same : tree_at c r ≡ tree_at (take r c) r = ap (λ l. tree_at l r) split ∙ tree_longer (take r c) (drop r c) r (omega arith) in
    subst (AreGiven (take r c)) (sym same) (fine_trees (take r c) front r (omega arith)).given

-- ---- the length, the keys and the steps

pub small_chain : (c : Chain) → IsLawful c → length c ≤ most_revisions
small_chain c h = along (λ l. length l ≤ most_revisions) (λ l x le f. (let e = length-append l (x ∷ []) in let room = f.room in omega arith)) [] c (omega arith) h

generation_append : (g : ℕ) (c : Chain) (x : Revision) → generation_from g (c ++ x ∷ []) ≡ generation_by x.deed (generation_from g c)
generation_append g [] x = refl
generation_append g (r ∷ c) x = generation_append (generation_by r.deed g) c x

pub few_keys : (c : Chain) → IsLawful c → generation_of c ≤ 64
few_keys c h = along (λ l. generation_of l ≤ 64) next [] c (omega arith) h where
  by_deed : (c : Chain) (x : Revision) (deed : Deed) → generation_of c ≤ 64 → FitsDeed c x deed → generation_by deed (generation_of c) ≤ 64
  by_deed c x Founded le fits = (let none : generation_of c ≡ 0 = ap generation_of fits in omega arith)
  by_deed c x (Stepped ops) le fits = le
  by_deed c x (Merged base rule ops) le fits = le
  by_deed c x (Rekeyed action.Found who) le fits = absurd fits.1
  by_deed c x (Rekeyed action.GrantWriter who) le fits = le
  by_deed c x (Rekeyed action.GrantReader who) le fits = le
  by_deed c x (Rekeyed action.Revoke who) le fits = (let more = fits.1.2 in omega arith)

  next : (c : Chain) (x : Revision) → generation_of c ≤ 64 → Follows c x → generation_of (c ++ x ∷ []) ≤ 64
  next c x le f = subst (λ n. n ≤ 64) (sym (generation_append 0 c x)) (by_deed c x x.deed le f.fits)

pub few_steps : (c : Chain) → IsLawful c → All IsStepOfFew c
few_steps c h = along (λ l. All IsStepOfFew l) (λ l x all f. All-append IsStepOfFew l (x ∷ []) all (All-cons IsStepOfFew x [] (by l x x.deed f.fits) (All-nil IsStepOfFew))) [] c (All-nil IsStepOfFew) h where
  by : (c : Chain) (x : Revision) (deed : Deed) → FitsDeed c x deed → IsFew deed
  by c x Founded fits = tt
  by c x (Stepped ops) fits = (fits.0, fits.3)
  by c x (Merged base rule ops) fits = tt
  by c x (Rekeyed act who) fits = tt
