-- Chains end to end: their operations, their trees, their members.
use Rattle.std.proofs.Common.{◌≡◌, ℕ, zero, suc, ◌+◌, ◌-◌, ◌≤◌, ◌<◌, ◌==◌, true, false, cond, List, [], ◌∷◌, ◌++◌, length, Option, Some, None, refl, sym, ap, ◌∙◌, arith, append_assoc, length-append}
use Rattle.std.specs.Prelude.{slice_index_or}
use Rattle.std.proofs.lemmas.List.{take-append-le}
use Rattle.std.proofs.lemmas.Bool.Decides.{nat_tests}
use Rattle.kb_ops.specs.declared.rows.Op.{Op}
use Rattle.kb_ops.specs.Trees.{Tree, start, fold_ops}
use Rattle.kb_snap.specs.Chains.{Stepped, Revision, Chain, ops_in, ops_by, ops_of, tree_in, newest, done_on, trees_after, trees_of, tree_at, own_first, first_own}
use Rattle.kb_keys.specs.Members.{Roles, nobody}
use Rattle.kb_snap.specs.Members.{roles_by, roles_after, roles_at}
use Rattle.kb_snap.proofs.Lists.{append_none}

-- ---- operations

pub ops_append : (d : ℕ) (c x : Chain) → ops_of d (c ++ x) ≡ ops_of d c ++ ops_of d x
ops_append d [] x = refl
ops_append d (revision ∷ c) x = ap (λ l. ops_by d revision ++ l) (ops_append d c x) ∙ sym (append_assoc (ops_by d revision) (ops_of d c) (ops_of d x))

pub ops_one : (d : ℕ) (revision : Revision) → ops_of d (revision ∷ []) ≡ ops_by d revision
ops_one d revision = append_none (ops_by d revision)

pub ops_push : (d : ℕ) (c : Chain) (revision : Revision) → ops_of d (c ++ revision ∷ []) ≡ ops_of d c ++ ops_by d revision
ops_push d c revision = ops_append d c (revision ∷ []) ∙ ap (λ l. ops_of d c ++ l) (ops_one d revision)

pub by_writer : (d : ℕ) (revision : Revision) → revision.writer ≡ d → ops_by d revision ≡ ops_in revision.deed
by_writer d revision e = (λ i. cond (is i) (ops_in revision.deed) []) where
  is : (revision.writer == d) ≡ true
  is = grind (arith, nat_tests)

pub by_other : (d : ℕ) (revision : Revision) → (revision.writer ≡ d → ⊥) → ops_by d revision ≡ []
by_other d revision ne = (λ i. cond (is i) (ops_in revision.deed) []) where
  is : (revision.writer == d) ≡ false
  is = grind (arith, nat_tests, ne)

-- where nothing is held by some, nothing is held by the parts
pub none_left : {A : Type 0} (xs ys : List A) → xs ++ ys ≡ [] → xs ≡ []
none_left [] ys e = refl
none_left (x ∷ xs) ys e = cc

pub none_right : {A : Type 0} (xs ys : List A) → xs ++ ys ≡ [] → ys ≡ []
none_right [] ys e = e
none_right (x ∷ xs) ys e = cc

pub none_push : (d : ℕ) (c : Chain) (revision : Revision) → ops_of d c ≡ [] → ops_by d revision ≡ [] → ops_of d (c ++ revision ∷ []) ≡ []
none_push d c revision e n = ops_push d c revision ∙ (λ i. e i ++ n i)

-- ---- a device's own revisions

pub no_own : (d n : ℕ) (c : Chain) → ops_of d c ≡ [] → first_own d n c ≡ None
no_own d n [] e = refl
no_own d n (revision ∷ c) e =
    ap (λ ops. own_first (n + 1) ops (first_own d (n + 1) c)) (none_left (ops_by d revision) (ops_of d c) e)
    ∙ no_own d (n + 1) c (none_right (ops_by d revision) (ops_of d c) e)

own_here : (n : ℕ) (ops : List Op) (rest : Option (ℕ × ℕ)) → 0 < length ops → own_first n ops rest ≡ Some (n, length ops)
own_here n [] rest some = absurd (omega arith)
own_here n (op ∷ ops) rest some = refl

pub own_at : (d n : ℕ) (front : Chain) (revision : Revision) (rest : Chain) → ops_of d front ≡ [] → 0 < length (ops_by d revision)
    → first_own d n (front ++ revision ∷ rest) ≡ Some (n + length front + 1, length (ops_by d revision))
own_at d n [] revision rest e some = own_here (n + 1) (ops_by d revision) (first_own d (n + 1) rest) some ∙ ap (λ k. Some (k, length (ops_by d revision))) (let same : n + 1 ≡ n + 0 + 1 = omega arith in same)
own_at d n (first ∷ front) revision rest e some =
    ap (λ ops. own_first (n + 1) ops (first_own d (n + 1) (front ++ revision ∷ rest))) (none_left (ops_by d first) (ops_of d front) e)
    ∙ own_at d (n + 1) front revision rest (none_right (ops_by d first) (ops_of d front) e) some
    ∙ ap (λ k. Some (k, length (ops_by d revision))) (let same : n + 1 + length front + 1 ≡ n + length (first ∷ front) + 1 = omega arith in same)

-- ---- trees

pub trees_append : (trees : List Tree) (c x : Chain) → trees_after trees (c ++ x) ≡ trees_after (trees_after trees c) x
trees_append trees [] x = refl
trees_append trees (revision ∷ c) x = trees_append (trees ++ done_on trees revision revision.deed ∷ []) c x

pub length-trees : (trees : List Tree) (c : Chain) → length (trees_after trees c) ≡ length trees + length c
length-trees trees [] = omega arith
length-trees trees (revision ∷ c) =
    length-trees (trees ++ done_on trees revision revision.deed ∷ []) c
    ∙ ap (λ n. n + length c) (length-append trees (done_on trees revision revision.deed ∷ []))
    ∙ (let same : length trees + 1 + length c ≡ length trees + length (revision ∷ c) = omega arith in same)

trees_keep : (trees : List Tree) (c : Chain) (r : ℕ) → r < length trees → tree_in (trees_after trees c) r ≡ tree_in trees r
trees_keep trees [] r lt = refl
trees_keep trees (revision ∷ c) r lt =
    let more = done_on trees revision revision.deed ∷ [] in
    trees_keep (trees ++ more) c r (let e = length-append trees more in omega arith) ∙ front trees more r lt
  where
    front : (xs ys : List Tree) (r : ℕ) → r < length xs → slice_index_or (xs ++ ys) r start ≡ slice_index_or xs r start
    front [] ys r lt = absurd (omega arith)
    front (x ∷ xs) ys zero lt = refl
    front (x ∷ xs) ys (suc r) lt = front xs ys r (omega arith)

pub length-trees_of : (c : Chain) → length (trees_of c) ≡ length c + 1
length-trees_of c = length-trees (start ∷ []) c ∙ (let same : length (start ∷ []) + length c ≡ length c + 1 = omega arith in same)

-- more revisions change no earlier tree
pub tree_longer : (c x : Chain) (r : ℕ) → r ≤ length c → tree_at (c ++ x) r ≡ tree_at c r
tree_longer c x r le =
    ap (λ trees. tree_in trees r) (trees_append (start ∷ []) c x)
    ∙ trees_keep (trees_of c) x r (let e = length-trees_of c in omega arith)

pub newest_is : (c : Chain) → newest (trees_of c) ≡ tree_at c (length c)
newest_is c = ap (λ n. tree_in (trees_of c) n) (let e = length-trees_of c in let same : length (trees_of c) - 1 ≡ length c = omega arith in same)

at_end : (xs : List Tree) (t : Tree) → slice_index_or (xs ++ t ∷ []) (length xs) start ≡ t
at_end [] t = refl
at_end (x ∷ xs) t = at_end xs t

-- the tree of the next revision
pub tree_next : (c : Chain) (revision : Revision) → tree_at (c ++ revision ∷ []) (length c + 1) ≡ done_on (trees_of c) revision revision.deed
tree_next c revision =
    ap (λ trees. tree_in trees (length c + 1)) (trees_append (start ∷ []) c (revision ∷ []))
    ∙ ap (λ n. tree_in (trees_of c ++ done_on (trees_of c) revision revision.deed ∷ []) n) (sym (length-trees_of c))
    ∙ at_end (trees_of c) (done_on (trees_of c) revision revision.deed)

-- a step in the middle of a chain
pub tree_step : (front : Chain) (revision : Revision) (rest : Chain) (ops : List Op) → revision.deed ≡ Stepped ops
    → tree_at (front ++ revision ∷ rest) (length front + 1) ≡ fold_ops ops (tree_at (front ++ revision ∷ rest) (length front))
tree_step front revision rest ops deed =
    ap (λ c. tree_at c (length front + 1)) (sym (append_assoc front (revision ∷ []) rest))
    ∙ tree_longer (front ++ revision ∷ []) rest (length front + 1) (let e = length-append front (revision ∷ []) in omega arith)
    ∙ tree_next front revision
    ∙ ap (done_on (trees_of front) revision) deed
    ∙ ap (fold_ops ops) (newest_is front ∙ sym (tree_longer front (revision ∷ rest) (length front) (omega arith)))

-- ---- members

pub roles_append : (roles : Roles) (c x : Chain) → roles_after roles (c ++ x) ≡ roles_after (roles_after roles c) x
roles_append roles [] x = refl
roles_append roles (revision ∷ c) x = roles_append (roles_by revision.writer revision.deed roles) c x

pub roles_longer : (c x : Chain) (r : ℕ) → r ≤ length c → roles_at (c ++ x) r ≡ roles_at c r
roles_longer c x r le = ap (roles_after nobody) (take-append-le r c x le)
