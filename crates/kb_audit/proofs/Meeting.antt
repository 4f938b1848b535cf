-- Three trees can be merged exactly where each of their nodes allows it.
use Rattle.std.proofs.Common.{◌≡◌, ◌≢◌, ℕ, ◌+◌, ◌*◌, ◌^◌, ◌≤◌, ◌<◌, Bool, true, false, cond, List, [], ◌∷◌, length, map, Option, Some, None, refl, sym, ap, subst, ◌∙◌, arith}
use Rattle.std.specs.Prelude.{IsSome, is_some, find, nat_eq}
use Rattle.std.specs.List.{AllByRecursion}
use Rattle.std.specs.FinMap.{len}
use Rattle.std.proofs.lemmas.Bool.{eqb-true, eq-eqb}
use Rattle.kb_name.specs.declared.ids.NodeId.{NodeId}
use Rattle.kb_name.specs.Nodes.{same_node}
use Rattle.kb_ops.specs.declared.rows.Row.{Row}
use Rattle.kb_ops.specs.Rows.{Look}
use Rattle.kb_ops.specs.declared.rows.Op.{Op}
use Rattle.kb_ops.specs.Trees.{Tree, look, fold_ops, IsWellFormed}
use Rattle.kb_ops.specs.Lists.{tree_of, rises}
use Rattle.kb_ops.proofs.Lists.{row_of, look_of, len_of}
use Rattle.kb_ops.proofs.Nodes.{node_is}
use Rattle.kb_rules.specs.declared.stamp.Stamp.{Stamp}
use Rattle.kb_rules.specs.Merge.{copy_id, merge, splits}
use Rattle.kb_tree.specs.Held.{AreKept}
use Rattle.kb_rules.specs.Meet.{Meet, HasNoCopies}
use Rattle.kb_resolver.specs.Few.{FewAreSplit}
use Rattle.kb_snap.specs.Chains.{merged_tree}
use Rattle.kb_snap.specs.Lawful.{AreFew}
use Rattle.kb_audit.specs.Merging.{KindsAt, CommonAt, NoCopyAt, MeetAt, AllMeet, AreRowsOf}

in_rows : (P : NodeId → Type 0) (rows : List Row) → AllByRecursion (λ (r : Row). P r.id) rows → (q : NodeId) (r : Row) → row_of rows q ≡ Some r → P q
in_rows P [] all q r e = cc
in_rows P (x ∷ xs) all q r e = elim (same_node x.id q) as (λ b. same_node x.id q ≡ b → cond b (Some x) (row_of xs q) ≡ Some r → P q) [
  | true ↦ λ t k. subst P (node_is x.id q t) all.0
  | false ↦ λ t k. in_rows P xs all.1 q r k
] refl e

pub all_ids : (P : NodeId → Type 0) → ((q : NodeId) → P q) → (rows : List Row) → AllByRecursion (λ (r : Row). P r.id) rows
all_ids P h [] = tt
all_ids P h (x ∷ xs) = (h x.id, all_ids P h xs)

-- what holds at each row's id holds at each node of the tree
at_node : (P : NodeId → Type 0) (rows : List Row) (t : Tree) → AreRowsOf rows t → AllByRecursion (λ (r : Row). P r.id) rows → (q : NodeId) (r : Row) → look t q ≡ Some r → P q
at_node P rows t is all q r e = in_rows P rows all q r (sym (look_of rows is.kept.rise q) ∙ ap (λ (z : Tree). look z q) is.tree ∙ e)

nothing : {A : Type 0} (o : Option A) (r : A) → o ≡ None → o ≡ Some r → ⊥
nothing o r n e = let no : None ≡ Some r = sym n ∙ e in cc

not_there : {A : Type 0} (o : Option A) → o ≡ None → IsSome o → ⊥
not_there None n s = cc
not_there (Some x) n s = cc

module _ (b m u : Tree) (stamp : Stamp) where
  abbrev At : NodeId → Type 0
  At q = MeetAt (look b) (look m) (look u) stamp q

  everywhere : (bs ms us : List Row) → AreRowsOf bs b → AreRowsOf ms m → AreRowsOf us u → AllByRecursion (λ (r : Row). At r.id) bs → AllByRecursion (λ (r : Row). At r.id) ms → AllByRecursion (λ (r : Row). At r.id) us → (q : NodeId) → At q
  everywhere bs ms us ib im iu ab am au q = by_base (look b q) refl
    where
      by_ours : look b q ≡ None → look m q ≡ None → (o : Option Row) → look u q ≡ o → At q
      by_ours nb nm (Some r) e = at_node At us u iu au q r e
      by_ours nb nm None e = record {
        merged_kinds = λ r s er es. absurd (nothing (look b q) r nb er);
        our_kinds = λ r s er es. absurd (nothing (look b q) r nb er);
        both_kinds = λ r s er es. absurd (nothing (look m q) r nm er);
        common = λ h k. absurd (not_there (look m q) nm h);
        no_base_copy = λ h. absurd (not_there (look b q) nb h);
        no_merged_copy = λ h. absurd (not_there (look m q) nm h);
        no_our_copy = λ h. absurd (not_there (look u q) e h);
      }

      by_merged : look b q ≡ None → (o : Option Row) → look m q ≡ o → At q
      by_merged nb (Some r) e = at_node At ms m im am q r e
      by_merged nb None e = by_ours nb e (look u q) refl

      by_base : (o : Option Row) → look b q ≡ o → At q
      by_base (Some r) e = at_node At bs b ib ab q r e
      by_base None e = by_merged e (look m q) refl

  no_copies : (t : Tree) → ((q : NodeId) → NoCopyAt stamp (look t) q) → HasNoCopies stamp (look t)
  no_copies t h j ne = by (look t (copy_id stamp j)) refl
    where
      by : (o : Option Row) → look t (copy_id stamp j) ≡ o → look t (copy_id stamp j) ≡ None
      by None e = e
      by (Some r) e = absurd (ne (h (copy_id stamp j) (subst (λ (o : Option Row). IsSome o) (sym e) refl) refl refl))

  no_copy_at : (t : Tree) → HasNoCopies stamp (look t) → (q : NodeId) → NoCopyAt stamp (look t) q
  no_copy_at t h q some d s = elim (nat_eq q.part 0) as (λ z. nat_eq q.part 0 ≡ z → q.part ≡ 0) [
    | true ↦ λ e. eqb-true q.part 0 e
    | false ↦ λ e.
        let other : q.part ≢ 0 = λ k. (let yes : nat_eq q.part 0 ≡ true = eq-eqb q.part 0 k in let no : true ≡ false = sym yes ∙ e in cc) in
        let same : copy_id stamp q.part ≡ q = λ i. record { device = sym d i; seq = sym s i; part = q.part } in
        absurd (not_there (look t q) (ap (look t) (sym same) ∙ h q.part other) some)
  ] refl

  formed : (rows : List Row) (t : Tree) → AreRowsOf rows t → IsWellFormed t
  formed rows t is = subst IsWellFormed is.tree is.kept.formed

  pub met : (bs ms us : List Row) → AreRowsOf bs b → AreRowsOf ms m → AreRowsOf us u → AllByRecursion (λ (r : Row). At r.id) bs → AllByRecursion (λ (r : Row). At r.id) ms → AllByRecursion (λ (r : Row). At r.id) us → Meet b m u stamp
  met bs ms us ib im iu ab am au =
      let every = everywhere bs ms us ib im iu ab am au in
      record {
        base = formed bs b ib;
        merged = formed ms m im;
        ours = formed us u iu;
        merged_kinds = λ q. (every q).merged_kinds;
        our_kinds = λ q. (every q).our_kinds;
        both_kinds = λ q. (every q).both_kinds;
        common = λ q. (every q).common;
        no_base_copies = no_copies b (λ q. (every q).no_base_copy);
        no_merged_copies = no_copies m (λ q. (every q).no_merged_copy);
        no_our_copies = no_copies u (λ q. (every q).no_our_copy);
      }

  pub meets_at : Meet b m u stamp → (q : NodeId) → At q
  meets_at h q = record {
    merged_kinds = h.merged_kinds q;
    our_kinds = h.our_kinds q;
    both_kinds = h.both_kinds q;
    common = h.common q;
    no_base_copy = no_copy_at b h.no_base_copies q;
    no_merged_copy = no_copy_at m h.no_merged_copies q;
    no_our_copy = no_copy_at u h.no_our_copies q;
  }

pub few_rows : (ms us : List Row) → rises ms ≡ true → rises us ≡ true → length ms < 2 ^ 57 → length us < 2 ^ 57 → AreFew (tree_of ms) (tree_of us)
few_rows ms us rm ru fm fu = let a = len_of ms rm in let c = len_of us ru in omega (arith, a, c, fm, fu)

pub merged_is : (b m u : Tree) (stamp : Stamp) → merge b m u stamp ≡ merged_tree b m u stamp
unfolding merged_tree
merged_is b m u stamp = refl

pub rows_of : (rows items : List Row) (t : Tree) → rows ≡ items → AreKept items → tree_of items ≡ t → AreRowsOf rows t
rows_of rows items t e kept is = record { kept = subst AreKept (sym e) kept; tree = ap tree_of e ∙ is }

pub all_meet : (b m u : Tree) (stamp : Stamp) (bs ms us : List Row) → Meet b m u stamp → AllMeet b m u stamp bs ms us
all_meet b m u stamp bs ms us h = record {
  at_base = all_ids (λ q. MeetAt (look b) (look m) (look u) stamp q) (meets_at b m u stamp h) bs;
  at_merged = all_ids (λ q. MeetAt (look b) (look m) (look u) stamp q) (meets_at b m u stamp h) ms;
  at_ours = all_ids (λ q. MeetAt (look b) (look m) (look u) stamp q) (meets_at b m u stamp h) us;
}

pub all_met : (b m u : Tree) (stamp : Stamp) (bs ms us : List Row) → AreRowsOf bs b → AreRowsOf ms m → AreRowsOf us u → AllMeet b m u stamp bs ms us → Meet b m u stamp
all_met b m u stamp bs ms us ib im iu h = met b m u stamp bs ms us ib im iu h.at_base h.at_merged h.at_ours

pub rows_met : (b m u : Tree) (stamp : Stamp) (bs ms us : List Row) → AreRowsOf bs b → AreRowsOf ms m → AreRowsOf us u → AllMeet b m u stamp bs ms us → Meet (tree_of bs) (tree_of ms) (tree_of us) stamp
rows_met b m u stamp bs ms us ib im iu h =
    subst (λ (z : Tree). Meet z (tree_of ms) (tree_of us) stamp) (sym ib.tree) (subst (λ (z : Tree). Meet b z (tree_of us) stamp) (sym im.tree) (subst (λ (z : Tree). Meet b m z stamp) (sym iu.tree) (all_met b m u stamp bs ms us ib im iu h)))

pub few_trees : (m u : Tree) (ms us : List Row) → AreRowsOf ms m → AreRowsOf us u → length ms < 2 ^ 57 → length us < 2 ^ 57 → AreFew m u
few_trees m u ms us im iu fm fu = subst (λ (z : Tree). AreFew z u) im.tree (subst (λ (z : Tree). AreFew (tree_of ms) z) iu.tree (few_rows ms us im.kept.rise iu.kept.rise fm fu))

pub merge_is : (b m u : Tree) (stamp : Stamp) (bs ms us : List Row) (t : Tree) → AreRowsOf bs b → AreRowsOf ms m → AreRowsOf us u → t ≡ merge (tree_of bs) (tree_of ms) (tree_of us) stamp → t ≡ merged_tree b m u stamp
merge_is b m u stamp bs ms us t ib im iu e = e ∙ merged_is (tree_of bs) (tree_of ms) (tree_of us) stamp ∙ (λ i. merged_tree (ib.tree i) (im.tree i) (iu.tree i) stamp)

pub splits_in_rows : (b m u : Tree) (bs ms us : List Row) → AreRowsOf bs b → AreRowsOf ms m → AreRowsOf us u → length (splits b m u) ≤ 65535 → length (splits (tree_of bs) (tree_of ms) (tree_of us)) ≤ 65535
splits_in_rows b m u bs ms us ib im iu few = subst (λ (ids : List NodeId). length ids ≤ 65535) (λ i. splits (sym ib.tree i) (sym im.tree i) (sym iu.tree i)) few

-- a branch of at most as many operations as a merge has splits few files
pub few_split : FewAreSplit → (ops : List Op) (b m o u : Tree) → o ≡ b → u ≡ fold_ops ops o → length ops ≤ 4096 → length (splits b m u) ≤ 65535
few_split law ops b m o u same folded few =
    let at : length (splits b m u) ≤ 2 * length ops = subst (λ (z : Tree). length (splits b m z) ≤ 2 * length ops) (sym (folded ∙ ap (fold_ops ops) same)) (law ops b m) in
    omega (arith, at, few)
