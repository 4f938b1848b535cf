-- How many blocks a tree takes whose file was written.
use Rattle.std.proofs.Common.{◌≡◌, ◌≢◌, ◌⊎◌, ℕ, zero, suc, ◌+◌, ◌-◌, ◌*◌, ◌/◌, ◌≤◌, ◌<◌, Bool, true, false, cond, min, max, List, [], ◌∷◌, ◌++◌, length, map, Option, Some, None, IsSome, is_some, Result, Ok, Err, inl, inr, refl, sym, ap, subst, ◌∙◌, arith, length-append, Vec, Global}
use Rattle.std.specs.Option.{option_map_or}
use Rattle.std.specs.List.{flat_map, AllByRecursion}
use Rattle.std.specs.FinMap.{get, len}
use Rattle.std.proofs.lemmas.List.{length-map}
use Rattle.kb_name.specs.declared.ids.NodeId.{NodeId}
use Rattle.kb_name.specs.Nodes.{root, same_node}
use Rattle.kb_ops.specs.declared.values.Kind.{Kind}
use Rattle.kb_ops.specs.declared.values.Kind.TheVariants.{Dir, File, Link}
use Rattle.kb_ops.specs.declared.rows.Row.{Row}
use Rattle.kb_ops.specs.declared.rows.WalkFault.{WalkFault}
use Rattle.kb_ops.specs.declared.rows.WalkFault.TheVariants.{NotDir, NotFound}
use Rattle.kb_ops.specs.Find.{child, find_from}
use Rattle.kb_ops.specs.Rows.{Look, is_dir, is_dir_row, meets}
use Rattle.kb_ops.specs.Trees.{Tree, look, IsWellFormed}
use Rattle.kb_ops.proofs.Children.{Stands, child_stands}
use Rattle.kb_ops.proofs.Kept.{some_and, dir_at}
use Rattle.kb_ops.proofs.Nodes.{node_cases, node_is}
use Rattle.kb_ops.proofs.Walks.{meets_from}
use Rattle.kb_files.specs.Opens.{Blocks, Keys}
use Rattle.kb_files.specs.Files.{level_of}
use Rattle.kb_files.specs.Counts.{touched}
use Rattle.kb_snap.specs.Builds.{Part, IsPart, IsMade}
use Rattle.kb_snap.specs.Holds.{IsOneOf}
use Rattle.kb_snap.specs.Orders.{AreApart}
use Rattle.kb_snap.specs.Pointers.{Kept}
use Rattle.kb_snap.proofs.HeldRows.{dir_kind, some_is}
use Rattle.kb_ranges.specs.Patches.{FewBlocks, FileHeld, Covers}
use Rattle.kb_ranges.specs.Laws.{WritesTouch, CutsTouch}
use Rattle.kb_device.specs.Counting.{reach, IsPlainWrite, TakesFew}
use Rattle.kb_device.specs.Left.{AllButAbove}
use Rattle.kb_device.specs.Patching.{MakesFew}
use Rattle.kb_device.specs.declared.patching.OldFile.{OldFile}

-- ---- lists without repetition

abbrev drop_one : (ys : List NodeId) (x : NodeId) → IsOneOf x ys → List NodeId
drop_one [] x h = []
drop_one (y ∷ ys) x (inl e) = ys
drop_one (y ∷ ys) x (inr h) = y ∷ drop_one ys x h

one_less : (ys : List NodeId) (x : NodeId) (h : IsOneOf x ys) → length ys ≡ suc (length (drop_one ys x h))
one_less [] x h = absurd h
one_less (y ∷ ys) x (inl e) = refl
one_less (y ∷ ys) x (inr h) = ap suc (one_less ys x h)

others_there : (ys : List NodeId) (x : NodeId) (h : IsOneOf x ys) (q : NodeId) → (q ≡ x → ⊥) → IsOneOf q ys → IsOneOf q (drop_one ys x h)
others_there [] x h q ne at = absurd h
others_there (y ∷ ys) x (inl e) q ne (inl same) = absurd (ne (same ∙ sym e))
others_there (y ∷ ys) x (inl e) q ne (inr there) = there
others_there (y ∷ ys) x (inr h) q ne (inl same) = inl same
others_there (y ∷ ys) x (inr h) q ne (inr there) = inr (others_there ys x h q ne there)

all_there : (ys : List NodeId) (x : NodeId) (h : IsOneOf x ys) (xs : List NodeId) → (IsOneOf x xs → ⊥) → AllByRecursion (λ q. IsOneOf q ys) xs → AllByRecursion (λ q. IsOneOf q (drop_one ys x h)) xs
all_there ys x h [] off all = tt
all_there ys x h (q ∷ xs) off all = (others_there ys x h q (λ e. off (inl (sym e))) all.0, all_there ys x h xs (λ there. off (inr there)) all.1)

apart_few : (xs ys : List NodeId) → AreApart xs → AllByRecursion (λ q. IsOneOf q ys) xs → length xs ≤ length ys
apart_few [] ys apart all = omega arith
apart_few (x ∷ xs) ys apart all =
    let less = one_less ys x all.0 in
    let rest = apart_few xs (drop_one ys x all.0) apart.1 (all_there ys x all.0 xs apart.0 all.1) in
    omega (arith, less, rest)

-- ---- the directories on the way to a node

abbrev ways : Tree → NodeId → List (List ℕ) → List NodeId
ways t q [] = []
ways t q (name ∷ names) = q ∷ option_map_or (λ c. ways t c names) (child t q name) []

-- one name of the way
pub record OneName (t : Tree) (q : NodeId) (name : List ℕ) (names : List (List ℕ)) (node : NodeId) : Type 0 where
  pub dir : is_dir (look t) q ≡ true
  pub next : NodeId
  pub at : child t q name ≡ Some next
  pub found : find_from t next names ≡ Ok node

pub one_name : (t : Tree) (q : NodeId) (name : List ℕ) (names : List (List ℕ)) (node : NodeId) → find_from t q (name ∷ names) ≡ Ok node → OneName t q name names node
one_name t q name names node e = by (is_dir (look t) q) refl e where
  through : (o : Option NodeId) → child t q name ≡ o → is_dir (look t) q ≡ true → option_map_or (λ c. find_from t c names) o (Err NotFound) ≡ Ok node → OneName t q name names node
  through None is dir e = cc
  through (Some c) is dir e = record { dir = dir; next = c; at = is; found = e }

  by : (b : Bool) → is_dir (look t) q ≡ b → cond b (option_map_or (λ c. find_from t c names) (child t q name) (Err NotFound)) (Err NotDir) ≡ Ok node → OneName t q name names node
  by true dir e = through (child t q name) refl dir e
  by false dir e = cc

-- and back
pub next_name : (t : Tree) (q : NodeId) (name : List ℕ) (names : List (List ℕ)) (next node : NodeId) → is_dir (look t) q ≡ true → child t q name ≡ Some next → find_from t next names ≡ Ok node → find_from t q (name ∷ names) ≡ Ok node
next_name t q name names next node dir at found =
    ap (λ b. cond b (option_map_or (λ c. find_from t c names) (child t q name) (Err NotFound)) (Err NotDir)) dir
    ∙ ap (λ o. option_map_or (λ c. find_from t c names) o (Err NotFound)) at ∙ found

ways_next : (t : Tree) (q : NodeId) (name : List ℕ) (names : List (List ℕ)) (c : NodeId) → child t q name ≡ Some c → ways t q (name ∷ names) ≡ q ∷ ways t c names
ways_next t q name names c e = ap (λ o. q ∷ option_map_or (λ c. ways t c names) o []) e

ways_none : (t : Tree) (q : NodeId) → length (ways t q []) ≡ 0
ways_none t q = refl

ways_long : (t : Tree) (q : NodeId) (names : List (List ℕ)) (node : NodeId) → find_from t q names ≡ Ok node → length (ways t q names) ≡ length names
ways_long t q [] node e = ways_none t q
ways_long t q (name ∷ names) node e =
    let s = one_name t q name names node e in
    ap length (ways_next t q name names s.next s.at) ∙ ap suc (ways_long t s.next names node s.found)

abbrev IsDirAt : Tree → NodeId → Type 0
IsDirAt t k = (r : Row) × ((look t k ≡ Some r) × (r.kind ≡ Dir))

ways_dirs : (t : Tree) (q : NodeId) (names : List (List ℕ)) (node : NodeId) → find_from t q names ≡ Ok node → (k : NodeId) → IsOneOf k (ways t q names) → IsDirAt t k
ways_dirs t q [] node e k h = absurd h
ways_dirs t q (name ∷ names) node e k h =
    let s = one_name t q name names node e in
    elim (subst (IsOneOf k) (ap (λ o. q ∷ option_map_or (λ c. ways t c names) o []) s.at) h) as (λ _. (r : Row) × ((look t k ≡ Some r) × (r.kind ≡ Dir))) [
      | inl same ↦ let d = dir_at (look t) q s.dir in (d.0, (ap (look t) same ∙ d.1, dir_kind d.0.kind d.2))
      | inr there ↦ ways_dirs t s.next names node s.found k there
    ]

-- the child itself is the node, or on the way to it
at_next : (t : Tree) (c : NodeId) (names : List (List ℕ)) (node : NodeId) → find_from t c names ≡ Ok node → (k : NodeId) → k ≡ c → (k ≡ node) ⊎ IsOneOf k (ways t c names)
at_next t c [] node e k here = inl (here ∙ (let same : c ≡ node = cc in same))
at_next t c (name ∷ names) node e k here = inr (inl here)

-- the walk goes on from the child's parent
higher : (t : Tree) (q : NodeId) (name : List ℕ) (c : NodeId) → Stands t q name c → (k : NodeId) (m : ℕ) → meets (look t) k m c ≡ true → c ≢ k → (n : ℕ) × (meets (look t) k n q ≡ true)
higher t q name c s k zero up other = absurd (other (node_is c k up))
higher t q name c s k (suc m) up other =
    let h = meets_from (look t) k c m other up in
    let same : h.0 ≡ s.row = some_is h.0 s.row (sym h.1 ∙ s.found) in
    (m, subst (λ x. meets (look t) k m x ≡ true) (ap (λ (r : Row). r.parent) same ∙ s.parent_is) h.2)

-- where a row on the walk of parents from the node is: it is the node, on the way to it, or above its beginning
abbrev OnWay : Tree → NodeId → List (List ℕ) → NodeId → NodeId → Type 0
OnWay t q names node k = (k ≡ node) ⊎ (IsOneOf k (ways t q names) ⊎ ((m : ℕ) × (meets (look t) k m q ≡ true)))

from_next : (t : Tree) → IsWellFormed t → (q : NodeId) (name : List ℕ) (names : List (List ℕ)) (node : NodeId) → (s : OneName t q name names node) → (k : NodeId) → OnWay t s.next names node k → OnWay t q (name ∷ names) node k
from_next t formed q name names node s k (inl same) = inl same
from_next t formed q name names node s k (inr (inl there)) = inr (inl (subst (IsOneOf k) (sym (ways_next t q name names s.next s.at)) (inr there)))
from_next t formed q name names node s k (inr (inr up)) = by (node_cases k s.next) where
  behind : (k ≡ node) ⊎ IsOneOf k (ways t s.next names) → OnWay t q (name ∷ names) node k
  behind (inl same) = inl same
  behind (inr there) = inr (inl (subst (IsOneOf k) (sym (ways_next t q name names s.next s.at)) (inr there)))

  by : (k ≡ s.next) ⊎ (k ≢ s.next) → OnWay t q (name ∷ names) node k
  by (inl here) = behind (at_next t s.next names node s.found k here)
  by (inr other) = inr (inr (higher t q name s.next (child_stands t formed q name s.next s.at) k up.0 up.1 (λ e. other (sym e))))

on_way : (t : Tree) → IsWellFormed t → (q : NodeId) (names : List (List ℕ)) (node : NodeId) → find_from t q names ≡ Ok node → (k : NodeId) (n : ℕ) → meets (look t) k n node ≡ true → OnWay t q names node k
on_way t formed q [] node e k n up = inr (inr (n, (let same : q ≡ node = cc in subst (λ x. meets (look t) k n x ≡ true) (sym same) up)))
on_way t formed q (name ∷ names) node e k n up =
    let s = one_name t q name names node e in
    from_next t formed q name names node s k (on_way t formed s.next names node s.found k n up)

root_alone : (t : Tree) → IsWellFormed t → (k : NodeId) (m : ℕ) → meets (look t) k m root ≡ true → k ≡ root
root_alone t formed k zero up = sym (node_is root k up)
root_alone t formed k (suc m) up = elim (node_cases root k) as (λ _. k ≡ root) [
  | inl same ↦ sym same
  | inr other ↦
      let h = meets_from (look t) k root m other up in
      let r = some_and _ (look t root) formed.rooted in
      let same : h.0 ≡ r.0 = some_is h.0 r.0 (sym h.1 ∙ r.1) in
      root_alone t formed k m (subst (λ x. meets (look t) k m x ≡ true) (ap (λ (r : Row). r.parent) same ∙ r.2.1) h.2)
]

-- a row on the walk of parents from a node is the node or on the way to it from the root
above_node : (t : Tree) → IsWellFormed t → (names : List (List ℕ)) (node : NodeId) → find_from t root names ≡ Ok node → (k : NodeId) (n : ℕ) → meets (look t) k n node ≡ true → k ≢ node → IsOneOf k (ways t root names)
above_node t formed [] node e k n up other = absurd (other (let same : root ≡ node = cc in root_alone t formed k n (subst (λ x. meets (look t) k n x ≡ true) (sym same) up) ∙ same))
above_node t formed (name ∷ names) node e k n up other = by (on_way t formed root (name ∷ names) node e k n up) where
  by : OnWay t root (name ∷ names) node k → IsOneOf k (ways t root (name ∷ names))
  by (inl same) = absurd (other same)
  by (inr (inl there)) = there
  by (inr (inr up)) = inl (root_alone t formed k up.0 up.1)

-- ---- the blocks

-- as many blocks as parts, where each has one
flat_ones : (parts : List Part) → AllByRecursion (λ (p : Part). length p.blocks ≡ 1) parts → length (flat_map (λ (p : Part). p.blocks) parts) ≡ length parts
flat_ones [] all = refl
flat_ones (p ∷ parts) all = length-append p.blocks (flat_map (λ (p : Part). p.blocks) parts) ∙ (let rest = flat_ones parts all.1 in let one = all.0 in omega (arith, rest, one))

module _ (sealed : List ℕ → List ℕ → List ℕ) (hashed : List ℕ → List ℕ) (store : Blocks) (ring : Keys) (generation : ℕ) (t : Tree) (left : Kept) (node : NodeId) (old : OldFile) (offset : ℕ) (bytes : List ℕ) (long : ℕ) (blocks : List (List ℕ)) (pointers : Kept) (names : List (List ℕ)) (few : FewBlocks)
    (formed : IsWellFormed t) (m : MakesFew sealed hashed store ring generation t left node old.ptr old.size offset bytes long blocks pointers) (all : AllButAbove t node left) (path : find_from t root names ≡ Ok node) (held : FileHeld sealed hashed store ring old.size old.ptr few) where
  abbrev IsAbove : Part → Type 0
  IsAbove p = IsOneOf p.node (ways t root names) × (length p.blocks ≡ 1)

  part_above : (p : Part) → IsPart sealed hashed m.key generation (look t) m.set pointers p → IsAbove p
  part_above p is =
      let other : p.node ≢ node = λ e. (let some : IsSome (get m.set node) = (m.few few held).0 in let none : is_some (get m.set node) ≡ false = ap is_some (ap (get m.set) (sym e) ∙ is.fresh) in let no : true ≡ false = sym some ∙ none in cc) in
      let there = above_node t formed names node path p.node (len t) (all p.node is.made.row is.made.there (sym (m.others p.node other) ∙ is.fresh)) other in
      let dir = ways_dirs t root names node path p.node there in
      (there, is.made.one (kind is.made.row is.made.there dir))
    where
      kind : (r : Row) → look t p.node ≡ Some r → IsDirAt t p.node → r.kind ≡ Dir
      kind r at d = ap (λ (x : Row). x.kind) (some_is r d.0 (sym at ∙ d.1.0)) ∙ d.1.1

  nodes_above : (parts : List Part) → AllByRecursion (IsPart sealed hashed m.key generation (look t) m.set pointers) parts → AllByRecursion (λ q. IsOneOf q (ways t root names)) (map (λ (p : Part). p.node) parts)
  nodes_above [] each = tt
  nodes_above (p ∷ parts) each = ((part_above p each.0).0, nodes_above parts each.1)

  ones : (parts : List Part) → AllByRecursion (IsPart sealed hashed m.key generation (look t) m.set pointers) parts → AllByRecursion (λ (p : Part). length p.blocks ≡ 1) parts
  ones [] each = tt
  ones (p ∷ parts) each = ((part_above p each.0).1, ones parts each.1)

  -- one block for each name
  rest_few : length m.rest ≤ length names
  rest_few =
      let parts = m.made.parts in
      let whole : length m.rest ≡ length parts = ap length m.made.whole ∙ length-map (flat_map (λ (p : Part). p.blocks) parts) (λ (b : Vec ℕ Global). b.items) ∙ flat_ones parts (ones parts m.made.each) in
      let most = apart_few (map (λ (p : Part). p.node) parts) (ways t root names) m.made.once (nodes_above parts m.made.each) in
      let nodes = length-map parts (λ (p : Part). p.node) in
      let way = ways_long t root names node path in
      omega (arith, whole, most, nodes, way)

  blocks_few : (n : ℕ) → length m.front ≤ n → length blocks ≤ n + length names
  blocks_few n front =
      let whole = ap length m.whole ∙ length-append m.front m.rest in
      let rest = rest_few in
      omega (arith, whole, rest, front)

pub takes_few : WritesTouch → CutsTouch → (sealed : List ℕ → List ℕ → List ℕ) (hashed : List ℕ → List ℕ) → TakesFew sealed hashed
takes_few writes cuts sealed hashed store ring generation t left node old offset [] long blocks pointers names few formed m all path held plain =
    let touches = cuts old.size long (min old.size (long - 1)) (max 1 long) refl refl in
    let t0 = touches.0 in
    let covers : Covers old.size offset 0 long (min old.size (long - 1)) (max 1 long) = record { within = t0.within; written = λ some. absurd (omega (arith, some)); grown = t0.grown; cut = t0.cut } in
    let front = (m.few few held).1 (min old.size (long - 1)) (max 1 long) covers in
    let most = touches.1 in
    blocks_few sealed hashed store ring generation t left node old offset [] long blocks pointers names few formed m all path held (3 * ((long - old.size) / 4096 + 2)) (omega (arith, front, most))
takes_few writes cuts sealed hashed store ring generation t left node old offset (b ∷ bytes) long blocks pointers names few formed m all path held plain =
    let count : ℕ = length (b ∷ bytes) in
    let touches = writes old.size offset count long (min offset old.size) (omega arith) plain refl in
    let front = (m.few few held).1 (min offset old.size) (offset + count) touches.0 in
    let most = touches.1 in
    blocks_few sealed hashed store ring generation t left node old offset (b ∷ bytes) long blocks pointers names few formed m all path held (3 * ((offset + count - min offset old.size) / 4096 + 2)) (omega (arith, front, most))
