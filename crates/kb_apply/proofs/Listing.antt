-- Listing the rows that wait on a stack lists the rows of a tree.
use Rattle.std.proofs.Common.{◌≡◌, ℕ, zero, suc, ◌+◌, ◌-◌, ◌<◌, ◌≤◌, true, false, ◌||◌, List, [], ◌∷◌, ◌++◌, length, map, Some, refl, sym, ap, subst, ◌∙◌, arith, append_assoc, length-append}
use Rattle.std.proofs.lemmas.List.{append-nil, map-append}
use mathlib.Core.Bool.{true≢false}
use Rattle.std.specs.Option.{option_map_or}
use Rattle.std.specs.List.{AllByRecursion, flat_map}
use Rattle.std.specs.FinMap.{len}
use Rattle.kb_name.specs.declared.ids.NodeId.{NodeId}
use Rattle.kb_name.specs.Nodes.{root}
use Rattle.kb_ops.specs.declared.rows.Row.{Row}
use Rattle.kb_ops.specs.declared.shown.Placed.{Placed}
use Rattle.kb_ops.specs.Rows.{meets}
use Rattle.kb_ops.specs.Trees.{Tree, look, IsWellFormed}
use Rattle.kb_ops.proofs.Nodes.{node_other}
use Rattle.kb_apply.specs.Children.{children}
use Rattle.kb_apply.specs.Shows.{rows_below, rows_of}
use Rattle.kb_apply.specs.Waiting.{placed, stacked, with_below, still_listed}
use Rattle.kb_apply.proofs.Children.{IsChild, children_stand}

-- ---- stacks

pub still_listed-append : (t : Tree) (xs ys : List Placed) → still_listed t (xs ++ ys) ≡ still_listed t ys ++ still_listed t xs
still_listed-append t [] ys = sym (append-nil (still_listed t ys))
still_listed-append t (x ∷ xs) ys = ap (λ l. l ++ with_below t x) (still_listed-append t xs ys) ∙ append_assoc (still_listed t ys) (still_listed t xs) (with_below t x)

pub stacked-append : (xs ys : List Placed) → stacked (xs ++ ys) ≡ stacked ys ++ stacked xs
stacked-append [] ys = sym (append-nil (stacked ys))
stacked-append (x ∷ xs) ys = ap (λ l. l ++ x ∷ []) (stacked-append xs ys) ∙ append_assoc (stacked ys) (stacked xs) (x ∷ [])

still_listed-stacked : (t : Tree) (xs : List Placed) → still_listed t (stacked xs) ≡ flat_map (with_below t) xs
still_listed-stacked t [] = refl
still_listed-stacked t (x ∷ xs) = still_listed-append t (stacked xs) (x ∷ []) ∙ ap (λ l. with_below t x ++ l) (still_listed-stacked t xs)

-- ---- depths

-- no walk of fewer steps meets the root
pub record IsDeep (t : Tree) (levels : ℕ) (q : NodeId) : Type 0 where
  pub least : (n : ℕ) → meets (look t) root n q ≡ true → levels ≤ n

pub root_deep : (t : Tree) → IsDeep t 0 root
root_deep t = record { least = λ n h. omega arith }

child_deep : (t : Tree) (levels : ℕ) (q : NodeId) (r : Row) → IsDeep t levels q → IsChild t q r → IsDeep t (levels + 1) r.id
child_deep t levels q r deep child = record { least = λ n h. steps n h } where
  steps : (n : ℕ) → meets (look t) root n r.id ≡ true → levels + 1 ≤ n
  steps zero h = absurd (true≢false (sym h ∙ node_other r.id root child.not_root))
  steps (suc n) h =
      let up : meets (look t) root (suc n) r.id ≡ meets (look t) root n q =
      ap (λ b. b || option_map_or (λ (x : Row). meets (look t) root n x.parent) (look t r.id) false) (node_other r.id root child.not_root)
      ∙ ap (λ o. option_map_or (λ (x : Row). meets (look t) root n x.parent) o false) child.found
      ∙ ap (meets (look t) root n) child.parent_is in
      let low : levels ≤ n = deep.least n (sym up ∙ h) in
      omega arith

-- no row is deeper than there are rows
within : (t : Tree) → IsWellFormed t → (levels : ℕ) (r : Row) → look t r.id ≡ Some r → IsDeep t levels r.id → levels ≤ len t
within t w levels r found deep = deep.least (len t) (w.reaches r.id r found)

-- ---- what stands below a row

map_placed : (t : Tree) (levels : ℕ) (names : List (List ℕ)) (rows : List Row) → len t ≡ suc levels + length names
    → flat_map (λ (r : Row). record { names = names ++ r.name ∷ []; row = r } ∷ rows_below levels t (names ++ r.name ∷ []) r.id) rows ≡ flat_map (with_below t) (map (placed names) rows)
map_placed t levels names [] e = refl
map_placed t levels names (r ∷ rows) e =
    let n : levels ≡ len t - length (names ++ r.name ∷ []) = (let l = length-append names (r.name ∷ []) in omega arith) in
    ap (λ k. (placed names r ∷ rows_below k t (names ++ r.name ∷ []) r.id) ++ flat_map (λ (r : Row). record { names = names ++ r.name ∷ []; row = r } ∷ rows_below levels t (names ++ r.name ∷ []) r.id) rows) n
    ∙ ap (λ l. with_below t (placed names r) ++ l) (map_placed t levels names rows e)

-- the children of a row and all below them are all that stands below it
pub opened : (t : Tree) → IsWellFormed t → (names : List (List ℕ)) (q : NodeId) → IsDeep t (length names) q → rows_below (len t - length names) t names q ≡ flat_map (with_below t) (map (placed names) (children t q))
opened t w names q deep = cases (children t q) (children_stand t w q) refl (len t - length names) refl where
  cases : (rows : List Row) → AllByRecursion (IsChild t q) rows → children t q ≡ rows → (levels : ℕ) → len t - length names ≡ levels → rows_below levels t names q ≡ flat_map (with_below t) (map (placed names) (children t q))
  cases [] all is zero e = sym (ap (λ (xs : List Row). flat_map (with_below t) (map (placed names) xs)) is)
  cases (r ∷ rows) all is zero e = absurd (
      let low = within t w (length names + 1) r all.0.found (child_deep t (length names) q r deep all.0) in omega arith)
  cases rows all is (suc levels) e = map_placed t levels names (children t q) (omega arith)

-- ---- a turn of each loop

-- a row of a list goes to the stack
pub row_stacked : (names : List (List ℕ)) (rows rest : List Row) (r : Row) (p : Placed) (waiting pushed all : List Placed) → rows ≡ rest ++ r ∷ [] → p ≡ placed names r → pushed ≡ waiting ++ p ∷ []
    → waiting ++ stacked (map (placed names) rows) ≡ all → pushed ++ stacked (map (placed names) rest) ≡ all
row_stacked names rows rest r p waiting pushed all e f g h =
    let parts : stacked (map (placed names) rows) ≡ p ∷ stacked (map (placed names) rest) =
    ap (λ xs. stacked (map (placed names) xs)) e
    ∙ ap stacked (map-append (placed names) rest (r ∷ []))
    ∙ stacked-append (map (placed names) rest) (placed names r ∷ [])
    ∙ ap (λ x. x ∷ stacked (map (placed names) rest)) (sym f) in
    ap (λ xs. xs ++ stacked (map (placed names) rest)) g
    ∙ append_assoc waiting (p ∷ []) (stacked (map (placed names) rest))
    ∙ ap (λ xs. waiting ++ xs) (sym parts)
    ∙ h

-- each row that waits is so deep as it has names
abbrev pub AreDeep : Tree → List Placed → Type 0
AreDeep t waiting = AllByRecursion (λ (p : Placed). IsDeep t (length p.names) p.row.id) waiting

both : (P : Placed → Type 0) (xs ys : List Placed) → AllByRecursion P xs → AllByRecursion P ys → AllByRecursion P (xs ++ ys)
both P [] ys a b = b
both P (x ∷ xs) ys a b = (a.0, both P xs ys a.1 b)

front : (P : Placed → Type 0) (xs ys : List Placed) → AllByRecursion P (xs ++ ys) → AllByRecursion P xs
front P [] ys a = tt
front P (x ∷ xs) ys a = (a.0, front P xs ys a.1)

back : (P : Placed → Type 0) (xs ys : List Placed) → AllByRecursion P (xs ++ ys) → AllByRecursion P ys
back P [] ys a = a
back P (x ∷ xs) ys a = back P xs ys a.1

stacked_all : (P : Placed → Type 0) (xs : List Placed) → AllByRecursion P xs → AllByRecursion P (stacked xs)
stacked_all P [] a = tt
stacked_all P (x ∷ xs) a = both P (stacked xs) (x ∷ []) (stacked_all P xs a.1) (a.0, tt)

rows_deep : (t : Tree) (names : List (List ℕ)) (q : NodeId) → IsDeep t (length names) q → (rows : List Row) → AllByRecursion (IsChild t q) rows → AreDeep t (map (placed names) rows)
rows_deep t names q deep [] all = tt
rows_deep t names q deep (r ∷ rows) all =
    (subst (λ n. IsDeep t n r.id) (sym (length-append names (r.name ∷ []))) (child_deep t (length names) q r deep all.0), rows_deep t names q deep rows all.1)

pub children_deep : (t : Tree) → IsWellFormed t → (names : List (List ℕ)) (q : NodeId) → IsDeep t (length names) q → AreDeep t (stacked (map (placed names) (children t q)))
children_deep t w names q deep = stacked_all _ (map (placed names) (children t q)) (rows_deep t names q deep (children t q) (children_stand t w q))

-- what stands below a row, on the stack
pub children_listed : (t : Tree) → IsWellFormed t → (names : List (List ℕ)) (q : NodeId) → IsDeep t (length names) q → still_listed t (stacked (map (placed names) (children t q))) ≡ rows_below (len t - length names) t names q
children_listed t w names q deep = still_listed-stacked t (map (placed names) (children t q)) ∙ sym (opened t w names q deep)

-- the next row is listed, and its children go to the stack
pub record Turns (t : Tree) (waiting pushed : List Placed) (p : Placed) : Type 0 where
  pub listed : still_listed t waiting ≡ p ∷ still_listed t pushed
  pub deep : AreDeep t pushed

pub turn : (t : Tree) → IsWellFormed t → (waiting rest pushed : List Placed) (p : Placed) (names : List (List ℕ)) → AreDeep t waiting → waiting ≡ rest ++ p ∷ [] → names ≡ p.names → pushed ≡ rest ++ stacked (map (placed names) (children t p.row.id)) → Turns t waiting pushed p
turn t w waiting rest pushed p names deep e n f' =
    let all : AreDeep t (rest ++ p ∷ []) = subst (AreDeep t) e deep in
    let at = back _ rest (p ∷ []) all in
    let below = stacked (map (placed p.names) (children t p.row.id)) in
    let f : pushed ≡ rest ++ below = f' ∙ ap (λ ns. rest ++ stacked (map (placed ns) (children t p.row.id))) n in
    record {
      listed =
          ap (still_listed t) e
          ∙ still_listed-append t rest (p ∷ [])
          ∙ ap (λ xs. p ∷ xs ++ still_listed t rest) (sym (children_listed t w p.names p.row.id at.0))
          ∙ ap (λ xs. p ∷ xs) (sym (still_listed-append t rest below))
          ∙ ap (λ xs. p ∷ still_listed t xs) (sym f);
      deep = subst (AreDeep t) (sym f) (both _ rest below (front _ rest (p ∷ []) all) (children_deep t w p.names p.row.id at.0));
    }

-- what is listed, and what waits
pub record IsListed (t : Tree) (listed waiting : List Placed) : Type 0 where
  pub whole : listed ++ still_listed t waiting ≡ rows_of t
  pub deep : AreDeep t waiting

pub begun : (t : Tree) → IsWellFormed t → (listed none waiting : List Placed) → listed ≡ [] → none ≡ [] → waiting ≡ none ++ stacked (map (placed []) (children t root)) → IsListed t listed waiting
begun t w listed none waiting e f g =
    let is : waiting ≡ stacked (map (placed []) (children t root)) = g ∙ ap (λ xs. xs ++ stacked (map (placed []) (children t root))) f in
    let levels : len t - 0 ≡ len t = omega arith in
    record {
      whole = ap (λ xs. xs ++ still_listed t waiting) e ∙ ap (still_listed t) is ∙ children_listed t w [] root (root_deep t) ∙ ap (λ n. rows_below n t [] root) levels;
      deep = subst (AreDeep t) (sym is) (children_deep t w [] root (root_deep t));
    }

pub one_listed : (t : Tree) → IsWellFormed t → (listed waiting rest more pushed : List Placed) (p : Placed) (names : List (List ℕ)) → IsListed t listed waiting → waiting ≡ rest ++ p ∷ [] → names ≡ p.names → pushed ≡ rest ++ stacked (map (placed names) (children t p.row.id)) → more ≡ listed ++ p ∷ [] → IsListed t more pushed
one_listed t w listed waiting rest more pushed p names is e n f g =
    let x = turn t w waiting rest pushed p names is.deep e n f in
    record {
      whole = ap (λ xs. xs ++ still_listed t pushed) g ∙ append_assoc listed (p ∷ []) (still_listed t pushed) ∙ ap (λ xs. listed ++ xs) (sym x.listed) ∙ is.whole;
      deep = x.deep;
    }

pub one_less : (t : Tree) → IsWellFormed t → (listed waiting rest pushed : List Placed) (p : Placed) (names : List (List ℕ)) → IsListed t listed waiting → waiting ≡ rest ++ p ∷ [] → names ≡ p.names → pushed ≡ rest ++ stacked (map (placed names) (children t p.row.id)) → length (still_listed t pushed) < length (still_listed t waiting)
one_less t w listed waiting rest pushed p names is e n f =
    let x = turn t w waiting rest pushed p names is.deep e n f in
    let m : length (still_listed t waiting) ≡ suc (length (still_listed t pushed)) = ap length x.listed in
    omega (arith, m)
