-- The start of a reading, one entry read, and its end.
use Rattle.std.proofs.Common.{◌≡◌, ℕ, ◌-◌, ◌+◌, ◌<◌, ◌^◌, true, false, List, [], ◌∷◌, ◌++◌, Option, Some, None, IsSome, is_some, cond, refl, ap, sym, subst, ◌∙◌, arith, inl, inr}
use mathlib.Core.Bool.{true≢false}
use Rattle.std.specs.List.{AllByRecursion}
use Rattle.std.specs.FinMap.{get, insert, empty, len, get-empty, len-insert}
use Rattle.kb_name.specs.declared.ids.NodeId.{NodeId}
use Rattle.kb_name.specs.Nodes.{root, node_cmp}
use Rattle.kb_ops.specs.declared.values.Kind.{Kind}
use Rattle.kb_ops.specs.declared.values.Kind.TheVariants.{Dir, File, Link}
use Rattle.kb_ops.specs.declared.rows.Row.{Row}
use Rattle.kb_ops.specs.declared.rows.Op.{Op}
use Rattle.kb_ops.specs.declared.rows.Change.TheVariants.{Touch}
use Rattle.kb_ops.specs.Rows.{is_dir_kind}
use Rattle.kb_ops.specs.Trees.{Tree, look, IsWellFormed, start, root_row}
use Rattle.kb_ops.proofs.Kept.{some_and, set_cases}
use Rattle.kb_ops.proofs.Lists.{look_of}
use Rattle.std.specs.Option.{option_map_or}
use Rattle.kb_ops.proofs.Looks.{look-insert, same_tree, nodes_total}
use Rattle.kb_ops.proofs.Nodes.{node_cases, node_other}
use Rattle.kb_ops.proofs.TreeKept.{start_formed, apply_kept}
use Rattle.kb_blocks.specs.declared.pointer.Ptr.{Ptr}
use Rattle.kb_files.specs.Files.{Vault, IsFileOf}
use Rattle.kb_files.specs.Opens.{Blocks, Keys, Opens, Refuses, FaultNames}
use Rattle.kb_files.specs.declared.loading.LoadFault.{LoadFault}
use Rattle.kb_files.specs.declared.loading.LoadFault.TheVariants.{BadBlock, Memory}
use Rattle.kb_files.proofs.ReadParts.{IsSingle}
use Rattle.kb_files.proofs.Vaults.{opens_same, refuses_weaker, is_stored}
use Rattle.kb_dirs.specs.declared.entries.Entry.{Entry}
use Rattle.kb_dirs.specs.Dirs.{HoldsDir, dir_text}
use Rattle.kb_dirs.proofs.Once.{one_dir}
use Rattle.kb_snap.specs.declared.loading.Waiting.{Waiting}
use Rattle.kb_snap.specs.Holds.{IsOneOf, HoldsTree, HoldsEach}
use Rattle.kb_snap.specs.Pointers.{Kept, AllHold}
use Rattle.kb_snap.specs.Reads.{waits, stacked, row_of, root_of, FoundKind, RefusedKind, Reached, StopsFirst}
use Rattle.kb_snap.specs.Reads.Reached.{opened, onward}
use Rattle.kb_snap.proofs.Among.{one_back, all_one, one_all, all_append, all_front}
use Rattle.kb_snap.proofs.HeldRows.{some_is, same_row, as_dir}
use Rattle.kb_snap.proofs.Reading.{IsReading, SoFar, read_file, read_dir, each_read, all_read}
use Rattle.kb_snap.proofs.Agreeing.{Agrees, agrees_first, agrees_file, agrees_dir, is_file_there, is_dir_there, never_read}
use Rattle.kb_snap.proofs.Sealing.{set_here, set_other}
use Rattle.kb_snap.proofs.Stacks.{of_stacked, in_stacked}

abbrev pub root_tree : ℕ → Tree
root_tree m = insert empty root (root_of m)

start_root : look start root ≡ Some root_row
start_root = look_of (root_row ∷ []) refl root

root_is_touched : (m : ℕ) → root_tree m ≡ insert start root (root_of m)
root_is_touched m = same_tree _ _ (λ q. elim (node_cases q root) [
  | inl e ↦ subst (λ k. look (root_tree m) k ≡ look (insert start root (root_of m)) k) (sym e) ((look-insert empty root (root_of m)).here ∙ sym (look-insert start root (root_of m)).here)
  | inr ne ↦ (look-insert empty root (root_of m)).others q ne ∙ get-empty node_cmp q
      ∙ sym ((look-insert start root (root_of m)).others q ne ∙ look_of (root_row ∷ []) refl q ∙ ap (λ b. cond b (Some root_row) None) (node_other root q (λ p. ne (sym p))))
])

pub root_formed : (m : ℕ) → IsWellFormed (root_tree m)
root_formed m =
    let op : Op = record { device = 1; seq = 1; moment = 0; change = Touch root m } in
    let touched = apply_kept op start start_formed (ap is_some start_root) in
    subst IsWellFormed (ap (λ o. option_map_or (λ (r : Row). insert start root (record r { mtime = m })) o start) start_root ∙ sym (root_is_touched m)) touched

only_root : (m : ℕ) (q : NodeId) (r : Row) → look (root_tree m) q ≡ Some r → (q ≡ root) × (r ≡ root_of m)
only_root m q r is = elim (set_cases (look empty) (look (root_tree m)) root (root_of m) (look-insert empty root (root_of m)) q r is) [
  | inl x ↦ x
  | inr x ↦ let bad : None ≡ Some r = sym (get-empty node_cmp q) ∙ x.1 in cc
]

abbrev pub root_kept : Ptr → Kept
root_kept top = insert empty root top

kept_root : (top : Ptr) → get (root_kept top) root ≡ Some top
kept_root top = set_here empty root top

pub reading_first : (vault : Vault) → IsSingle vault → (top : Ptr) (m : ℕ) (b : List ℕ) (es : List Entry) → HoldsDir vault top es → IsReading vault top m (root_tree m) (root_kept top) (stacked root b es)
reading_first vault one top m b es held = record {
  formed = root_formed m;
  timed = λ r is. ap (λ (x : Row). x.mtime) (only_root m root r is).1;
  first = kept_root top;
  each = λ q r is.
      let x = only_root m q r is in
      let dir : SoFar vault (look (root_tree m)) (get (root_kept top)) (stacked root b es) Dir (root_of m) top = (es, (held, ((λ e h. inr (waits root b e, (in_stacked root b es e h, (refl, refl)))), λ k s there off up. absurd (off (only_root m k s there).0)))) in
      (top, (ap (get (root_kept top)) x.0 ∙ kept_root top, subst (λ (y : Row). SoFar vault (look (root_tree m)) (get (root_kept top)) (stacked root b es) y.kind y top) (sym x.1) dir));
  only = λ q p is. elim (node_cases q root) [
    | inl e ↦ ap (λ k. is_some (look (root_tree m) k)) e ∙ ap is_some (look-insert empty root (root_of m)).here
    | inr ne ↦ let bad : None ≡ Some p = sym (get-empty node_cmp q) ∙ sym (set_other empty root top q ne) ∙ is in cc
  ];
  wait = λ w h.
      let y = of_stacked root b es w h in
      let up : w.parent ≡ root = ap (λ (v : Waiting). v.parent) y.1.1 in (
        root_of m,
        (
          ap (look (root_tree m)) up ∙ (look-insert empty root (root_of m)).here,
          (
            refl,
            λ p fs is holds.
                let same : top ≡ p = some_is top p (sym (kept_root top) ∙ ap (get (root_kept top)) (sym up) ∙ is) in
                let all : es ≡ fs = one_dir vault one top es fs held (subst (λ x. HoldsDir vault x fs) (sym same) holds) in
                subst (IsOneOf w.entry) all (subst (λ (v : Waiting). IsOneOf v.entry es) (sym y.1.1) y.1.0),
          ),
        ),
      );
}

-- ---- what each turn of the reading keeps

module _ (sealed : List ℕ → List ℕ → List ℕ) (hashed : List ℕ → List ℕ) (one_plain : (k p q : List ℕ) → sealed k p ≡ sealed k q → p ≡ q) (blocks : Blocks) (keys : Keys) (top : Ptr) (m : ℕ) where
  abbrev vault : Vault
  vault = Opens sealed hashed blocks keys

  one : IsSingle vault
  one = opens_same sealed hashed blocks keys one_plain

  pub record IsTurn (t : Tree) (at : Kept) (ws : List Waiting) : Type 0 where
    pub reading : IsReading vault top m t at ws
    pub agrees : (h : Tree) → HoldsTree vault top m h → Agrees vault h t ws
    pub stored : AllByRecursion (λ (w : Waiting). is_some (blocks w.block) ≡ true) ws
    pub reached : Reached vault top m t at ws

  dir_stored : (p : Ptr) (es : List Entry) → HoldsDir vault p es → (q : NodeId) → AllByRecursion (λ (w : Waiting). is_some (blocks w.block) ≡ true) (stacked q p.id es)
  dir_stored p es held q = one_all (λ (w : Waiting). is_some (blocks w.block) ≡ true) (stacked q p.id es) (λ w h.
      let y = of_stacked q p.id es w h in
      ap (λ (v : Waiting). is_some (blocks v.block)) y.1.1 ∙ is_stored sealed hashed blocks keys p (dir_text es) held.1)

  root_dir : (h : Tree) → HoldsTree vault top m h → (r : Row) × ((look h root ≡ Some r) × (r.kind ≡ Dir))
  root_dir h x = let r = some_and _ (look h root) x.formed.rooted in (r.0, (r.1, r.2.0))

  pub turn_first : (es : List Entry) → HoldsDir vault top es → (t : Tree) (at : Kept) (ws : List Waiting) → t ≡ root_tree m → at ≡ root_kept top → ws ≡ [] ++ stacked root top.id es → IsTurn t at ws
  turn_first es held t at ws et ea ew = subst (λ x. IsTurn x at ws) (sym et) (subst (λ x. IsTurn (root_tree m) x ws) (sym ea) (subst (IsTurn (root_tree m) (root_kept top)) (sym ew) (record {
    reading = reading_first vault one top m top.id es held;
    agrees = λ h x.
        let r = root_dir h x in
        agrees_first vault one top m h (root_tree m) top.id es held (λ q s is.
        let y = only_root m q s is in
        (y.0, ap (look h) y.0 ∙ r.1.0 ∙ ap (λ (z : Row). Some z) (top_same h x r.0 r.1.0 r.1.1 ∙ sym y.1))) x r.0 r.1.0 r.1.1;
    stored = dir_stored top es held root;
    reached = opened es held;
  })))
    where
      top_same : (h : Tree) (x : HoldsTree vault top m h) (r : Row) → look h root ≡ Some r → r.kind ≡ Dir → r ≡ root_of m
      top_same h x r is on_dir =
          let s = some_and _ (look h root) x.formed.rooted in
          let own : s.0 ≡ r = some_is s.0 r (sym s.1 ∙ is) in
          let p = x.formed.plain root r is in
          same_row r (root_of m) (x.formed.keyed root r is) (ap (λ (y : Row). y.parent) (sym own) ∙ s.2.1) (ap (λ (y : Row). y.name) (sym own) ∙ s.2.2) on_dir (p.no_bytes on_dir) (p.no_exec (λ e. let bad : Dir ≡ File = sym on_dir ∙ e in cc)) (x.timed r is)

  -- the root's block is no directory
  pub first_refused : (fault : LoadFault) → Refuses blocks (HoldsDir vault top) fault → Refuses blocks (HoldsTree vault top m) fault
  first_refused fault r = refuses_weaker blocks (HoldsDir vault top) (HoldsTree vault top m) (λ h x.
      let y = root_dir h x in
      let d = as_dir vault (look h) root top x.held y.0 y.1.0 y.1.1 in
      (d.es, d.held)) fault r

  module _ (t : Tree) (at : Kept) (ws rest : List Waiting) (w : Waiting) (popped : ws ≡ rest ++ w ∷ []) (so : IsTurn t at ws) where
    here : IsOneOf w ws
    here = subst (IsOneOf w) (sym popped) (one_back w rest (w ∷ []) (inl refl))

    -- an id that came before
    pub twice : is_some (get at w.entry.id) ≡ true → Refuses blocks (HoldsTree vault top m) (BadBlock w.block)
    twice came = (
      all_one (λ (v : Waiting). is_some (blocks v.block) ≡ true) ws so.stored w here,
      λ h x.
          never_read vault one top m h t at ws rest w popped so.reading x.formed (so.agrees h x) (there (get at w.entry.id) refl came),
    )
      where
        there : (o : Option Ptr) → get at w.entry.id ≡ o → is_some o ≡ true → IsSome (look t w.entry.id)
        there (Some p) e c = so.reading.only w.entry.id p e
        there None e c = absurd (true≢false (sym c))

    pub refused : (fault : LoadFault) → RefusedKind vault blocks w w.entry.kind fault → Refuses blocks (HoldsTree vault top m) fault
    refused fault r = by w.entry.kind refl r
      where
        file : is_dir_kind w.entry.kind ≡ false → Refuses blocks (IsFileOf vault w.entry.size w.entry.ptr) fault → Refuses blocks (HoldsTree vault top m) fault
        file off_dir r = refuses_weaker blocks (IsFileOf vault w.entry.size w.entry.ptr) (HoldsTree vault top m) (λ h x. is_file_there vault one top m h t at ws rest w popped so.reading x.formed (so.agrees h x) off_dir) fault r

        by : (k : Kind) → w.entry.kind ≡ k → RefusedKind vault blocks w k fault → Refuses blocks (HoldsTree vault top m) fault
        by Dir e r = refuses_weaker blocks (HoldsDir vault w.entry.ptr) (HoldsTree vault top m) (λ h x. is_dir_there vault one top m h t at ws rest w popped so.reading x.formed (so.agrees h x) e) fault r.0
        by File e r = file (ap is_dir_kind e) r.0
        by Link e r = file (ap is_dir_kind e) r.0

    stored_rest : AllByRecursion (λ (v : Waiting). is_some (blocks v.block) ≡ true) rest
    stored_rest = all_front (λ (v : Waiting). is_some (blocks v.block) ≡ true) rest (w ∷ []) (subst (AllByRecursion (λ (v : Waiting). is_some (blocks v.block) ≡ true)) popped so.stored)

    reached_here : Reached vault top m t at (rest ++ w ∷ [])
    reached_here = subst (Reached vault top m t at) popped so.reached

    file_found : (k : Kind) → is_dir_kind k ≡ false → {bytes : List ℕ} → IsFileOf vault w.entry.size w.entry.ptr bytes → FoundKind vault w rest rest k bytes
    file_found Dir off f = absurd (true≢false off)
    file_found File off f = (f, refl)
    file_found Link off f = (f, refl)

    pub stops_twice : is_some (get at w.entry.id) ≡ true → StopsFirst vault blocks top m (BadBlock w.block)
    stops_twice came = inr (record { tree = t; kept = at; rest = rest; next = w; reached = reached_here; why = inl (came, refl) })

    pub stops_refused : get at w.entry.id ≡ None → (fault : LoadFault) → RefusedKind vault blocks w w.entry.kind fault → StopsFirst vault blocks top m fault
    stops_refused fresh fault r = inr (record { tree = t; kept = at; rest = rest; next = w; reached = reached_here; why = inr (fresh, r) })

    pub turn_more : get at w.entry.id ≡ None → (bytes : List ℕ) (new : List Waiting) → FoundKind vault w rest new w.entry.kind bytes → IsTurn (insert t w.entry.id (row_of w bytes)) (insert at w.entry.id w.entry.ptr) new
    turn_more fresh bytes new found = by w.entry.kind refl found
      where
        file : is_dir_kind w.entry.kind ≡ false → IsFileOf vault w.entry.size w.entry.ptr bytes × (new ≡ rest) → IsTurn (insert t w.entry.id (row_of w bytes)) (insert at w.entry.id w.entry.ptr) new
        file off_dir f = subst (IsTurn (insert t w.entry.id (row_of w bytes)) (insert at w.entry.id w.entry.ptr)) (sym f.1) (record {
          reading = read_file vault one top m t at ws rest w popped so.reading fresh bytes off_dir f.0;
          agrees = λ h x. agrees_file vault one top m h t at ws rest w popped so.reading x.formed (so.agrees h x) bytes off_dir f.0;
          stored = stored_rest;
          reached = onward t at rest w bytes rest reached_here fresh (file_found w.entry.kind off_dir f.0);
        })

        by : (k : Kind) → w.entry.kind ≡ k → FoundKind vault w rest new k bytes → IsTurn (insert t w.entry.id (row_of w bytes)) (insert at w.entry.id w.entry.ptr) new
        by Dir e f =
            let es = f.1.0 in
            let held = f.1.1.0 in
            subst (λ b. IsTurn (insert t w.entry.id (row_of w b)) (insert at w.entry.id w.entry.ptr) new) (sym f.0) (subst (IsTurn (insert t w.entry.id (row_of w [])) (insert at w.entry.id w.entry.ptr)) (sym f.1.1.1) (record {
              reading = read_dir vault one top m t at ws rest w popped so.reading fresh es e held;
              agrees = λ h x. agrees_dir vault one top m h t at ws rest w popped so.reading x.formed (so.agrees h x) es e held;
              stored = all_append (λ (v : Waiting). is_some (blocks v.block) ≡ true) rest (stacked w.entry.id w.entry.ptr.id es) stored_rest (dir_stored w.entry.ptr es held w.entry.id);
              reached = onward t at rest w [] (rest ++ stacked w.entry.id w.entry.ptr.id es) reached_here fresh (subst (λ k. FoundKind vault w rest (rest ++ stacked w.entry.id w.entry.ptr.id es) k []) (sym e) (refl, (es, (held, refl))));
            }))
        by File e f = file (ap is_dir_kind e) f
        by Link e f = file (ap is_dir_kind e) f

  pub stops_root : (fault : LoadFault) → Refuses blocks (HoldsDir vault top) fault → FaultNames top.id fault → StopsFirst vault blocks top m fault
  stops_root fault r n = inl (r, n)

  pub stops_memory : (fault : LoadFault) → fault ≡ Memory → StopsFirst vault blocks top m fault
  stops_memory fault e = subst (StopsFirst vault blocks top m) (sym e) (inl (tt, tt))

  pub turn_end : (t : Tree) (at : Kept) (ws : List Waiting) → ws ≡ [] → IsTurn t at ws → HoldsTree vault top m t × AllHold vault (look t) at
  turn_end t at ws none so = all_read vault top m t at ws none so.reading

  pub turn_each : (t : Tree) (at : Kept) (ws : List Waiting) → ws ≡ [] → IsTurn t at ws → HoldsEach vault (look t) top (get at)
  turn_each t at ws none so = each_read vault top m t at ws none so.reading

  pub turn_all : (t : Tree) (at : Kept) (ws : List Waiting) → IsTurn t at ws → (q : NodeId) → is_some (get at q) ≡ is_some (look t q)
  turn_all t at ws so q = by (get at q) refl (look t q) refl
    where
      by : (o : Option Ptr) → get at q ≡ o → (r : Option Row) → look t q ≡ r → is_some o ≡ is_some r
      by (Some p) e (Some r) f = refl
      by None e None f = refl
      by (Some p) e None f = let h : false ≡ true = sym (ap is_some f) ∙ so.reading.only q p e in cc
      by None e (Some r) f = let h = so.reading.each q r f in let bad : None ≡ Some h.0 = sym e ∙ h.1.0 in cc

-- one id more
pub counted : (at new : Kept) (q : NodeId) (p : Ptr) → get at q ≡ None → new ≡ insert at q p → len at < 2 ^ 64 → 2 ^ 64 - len new < 2 ^ 64 - len at
counted at new q p none e small =
    let more : len new ≡ len at + 1 = ap len e ∙ len-insert nodes_total at q p ∙ ap (λ o. cond (is_some o) (len at) (len at + 1)) none in
    omega arith

pub none_of : {A : Type 0} (o : Option A) → is_some o ≡ false → o ≡ None
none_of None e = refl
none_of (Some x) e = absurd (true≢false e)
