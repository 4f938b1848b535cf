-- Only files that a branch's operations touch are split.
use Rattle.std.proofs.Common.{◌≡◌, ℕ, zero, suc, ◌*◌, ◌≤◌, Bool, true, false, ◌&&◌, ◌||◌, List, [], ◌∷◌, ◌++◌, length, slice_get, Option, Some, None, inl, inr, refl, sym, ap, ◌∙◌, arith, length-append}
use Rattle.std.specs.Str.{bytes_eq}
use Rattle.std.specs.FinMap as map
use Rattle.kb_name.specs.declared.ids.NodeId.{NodeId}
use Rattle.kb_name.specs.Nodes.{same_node}
use Rattle.kb_ops.specs.declared.rows.Row.{Row}
use Rattle.kb_ops.specs.declared.rows.Op.{Op}
use Rattle.kb_ops.specs.declared.rows.Change.{Change}
use Rattle.kb_ops.specs.declared.rows.Change.TheVariants.{Create, Remove, Rename, Sync, Exec, Touch}
use Rattle.kb_ops.specs.Trees.{Tree, look, apply, new_id, fold_ops}
use Rattle.kb_ops.specs.Laws.{nodes_of, touched}
use Rattle.kb_ops.specs.Plan.{is_file_kind}
use Rattle.kb_ops.proofs.Nodes.{node_self}
use Rattle.kb_ops.proofs.Changes.{others_stay}
use Rattle.kb_rules.specs.Code.{ascend}
use Rattle.kb_rules.specs.Ready.{is_in}
use Rattle.kb_rules.specs.Three.{is_parted, same_place, is_split_by, is_split}
use Rattle.kb_rules.specs.Merge.{splits}
use Rattle.kb_rules.proofs.Basics.{bool_cases, second_of_both, bytes_self}
use Rattle.kb_rules.proofs.Ids.{keys_rise, rises_filter, stands_once, in_filter, get_in, in_get}
use Rattle.kb_resolver.specs.Few.{FewAreSplit}

abbrev StandsIn : List NodeId → NodeId → Type 0
StandsIn xs q = (i : ℕ) × (slice_get xs i ≡ Some q)

-- a list without its i-th
without : {A : Type 0} → List A → ℕ → List A
without [] i = []
without (x ∷ xs) zero = xs
without (x ∷ xs) (suc i) = x ∷ without xs i

without_length : {A : Type 0} (xs : List A) (i : ℕ) (x : A) → slice_get xs i ≡ Some x → length xs ≡ suc (length (without xs i))
unfolding without
without_length [] i x e = cc
without_length (y ∷ xs) zero x e = refl
without_length (y ∷ xs) (suc i) x e = ap suc (without_length xs i x e)

without_keeps : (xs : List NodeId) (i : ℕ) (x : NodeId) → slice_get xs i ≡ Some x → (q : NodeId) → (q ≡ x → ⊥) → (j : ℕ) → slice_get xs j ≡ Some q → StandsIn (without xs i) q
unfolding without
without_keeps [] i x e q ne j f = cc
without_keeps (y ∷ xs) zero x e q ne zero f = absurd (ne (let a : y ≡ x = cc in let b : y ≡ q = cc in sym b ∙ a))
without_keeps (y ∷ xs) zero x e q ne (suc j) f = (j, f)
without_keeps (y ∷ xs) (suc i) x e q ne zero f = (zero, f)
without_keeps (y ∷ xs) (suc i) x e q ne (suc j) f = (let w = without_keeps xs i x e q ne j f in (suc w.0, w.1))

-- ascending ids that all stand in a list are no more than that
fewer : (xs ys : List NodeId) → ascend xs ≡ true → ((q : NodeId) → StandsIn xs q → StandsIn ys q) → length xs ≤ length ys
fewer [] ys up all = omega arith
fewer (x ∷ xs) ys up all =
    let at = all x (zero, refl) in
    let other : (q : NodeId) (j : ℕ) → slice_get xs j ≡ Some q → q ≡ x → ⊥ = λ q j f e. (let no : zero ≡ suc j = stands_once (x ∷ xs) zero (suc j) x up refl (f ∙ ap Some e) in absurd (omega (arith, no))) in
    let rest : length xs ≤ length (without ys at.0) = fewer xs (without ys at.0) (second_of_both _ _ up) (λ q h. let there = all q (suc h.0, h.1) in without_keeps ys at.0 x at.1 q (other q h.0 h.1) there.0 there.1) in
    let e = without_length ys at.0 x at.1 in
    omega (arith, rest, e)

abbrev touched_all : List Op → List NodeId
touched_all [] = []
touched_all (op ∷ ops) = touched op ++ touched_all ops

touched_few : (id : NodeId) (change : Change) → length (nodes_of id change) ≤ 2
touched_few id (Create parent name kind bytes) = omega arith
touched_few id (Remove node) = omega arith
touched_few id (Rename node parent name None) = omega arith
touched_few id (Rename node parent name (Some gone)) = omega arith
touched_few id (Sync node offset bytes size) = omega arith
touched_few id (Exec node on) = omega arith
touched_few id (Touch node mtime) = omega arith

all_few : (ops : List Op) → length (touched_all ops) ≤ 2 * length ops
all_few [] = omega arith
all_few (op ∷ ops) =
    let one = touched_few (new_id op) op.change in
    let rest = all_few ops in
    let e = length-append (touched op) (touched_all ops) in
    omega (arith, one, rest, e)

in_append : (q : NodeId) (xs ys : List NodeId) → is_in q (xs ++ ys) ≡ (is_in q xs || is_in q ys)
in_append q [] ys = refl
in_append q (x ∷ xs) ys = ap (λ b. same_node q x || b) (in_append q xs ys) ∙ join (same_node q x) (is_in q xs) (is_in q ys) where
  join : (a b c : Bool) → (a || (b || c)) ≡ ((a || b) || c)
  join true b c = refl
  join false b c = refl

neither : (a b : Bool) → (a || b) ≡ false → (a ≡ false) × (b ≡ false)
neither true b e = cc
neither false b e = (refl, e)

fold_others : (ops : List Op) (t : Tree) (q : NodeId) → is_in q (touched_all ops) ≡ false → look (fold_ops ops t) q ≡ look t q
fold_others [] t q off = refl
fold_others (op ∷ ops) t q off =
    let apart = neither (is_in q (touched op)) (is_in q (touched_all ops)) (sym (in_append q (touched op) (touched_all ops)) ∙ off) in
    fold_others ops (apply op t) q apart.1 ∙ others_stay op t q apart.0

-- what is the same in base and ours isn't split
parted_same : (a b c : Bool) → b ≡ true → is_parted a b c ≡ false
parted_same true b c e = refl
parted_same false true c e = refl
parted_same false false c e = cc

place_self : (r : Row) → same_place r r ≡ true
place_self r = (λ i. node_self r.parent i && bytes_self r.name i)

not_split : (m o : Option Row) → is_split_by m o o ≡ true → ⊥
not_split None o h = cc
not_split (Some r) None h = cc
not_split (Some r) (Some s) h =
    let a = parted_same (bytes_eq r.bytes s.bytes) (bytes_eq s.bytes s.bytes) (bytes_eq r.bytes s.bytes) (bytes_self s.bytes) in
    let b = parted_same (same_place r s) (same_place s s) (same_place r s) (place_self s) in
    none (is_file_kind r.kind) (is_parted (bytes_eq r.bytes s.bytes) (bytes_eq s.bytes s.bytes) (bytes_eq r.bytes s.bytes)) (is_parted (same_place r s) (same_place s s) (same_place r s)) a b h
  where
    none : (k a b : Bool) → a ≡ false → b ≡ false → (k && (a || b)) ≡ true → ⊥
    none true true b e f h = cc
    none true false b e f h = (let no : true ≡ false = sym h ∙ f in cc)
    none false a b e f h = cc

split_touched : (b m : Tree) (ops : List Op) (q : NodeId) → is_split (look b) (look m) (look (fold_ops ops b)) q ≡ true → is_in q (touched_all ops) ≡ true
split_touched b m ops q h = elim (bool_cases (is_in q (touched_all ops))) [
  | inl e ↦ e
  | inr off ↦ absurd (not_split (look m q) (look b q) (ap (λ o. is_split_by (look m q) o (look b q)) (sym (fold_others ops b q off)) ∙ h))
]

pub few_split : FewAreSplit
few_split ops b m =
    let u = fold_ops ops b in
    let few : length (splits b m u) ≤ length (touched_all ops) = fewer (splits b m u) (touched_all ops) (rises_filter (is_split (look b) (look m) (look u)) (map.keys m) (keys_rise m)) (λ q h.
    in_get (touched_all ops) q (split_touched b m ops q (in_filter (is_split (look b) (look m) (look u)) (map.keys m) q (get_in (splits b m u) h.0 q h.1)))) in
    let twice = all_few ops in
    omega (arith, few, twice)
