-- A tree that is read entry by entry.
use Rattle.std.proofs.Common.{◌≡◌, ◌≢◌, ℕ, ◌≤◌, Bool, true, false, not, nat_eq, ◌&&◌, List, [], ◌∷◌, ◌++◌, length, Option, Some, None, IsSome, is_some, refl, ap, sym, subst, ◌∙◌, arith, append-nil, inl, inr}
use mathlib.Core.Bool.{true≢false}
use borrow.Author.Tests.{eqb-true}
use Rattle.std.specs.Prelude.{◌⊎◌}
use Rattle.std.specs.FinMap.{get, insert}
use Rattle.kb_name.specs.declared.ids.NodeId.{NodeId}
use Rattle.kb_name.specs.Nodes.{root}
use Rattle.kb_ops.specs.declared.values.Kind.{Kind}
use Rattle.kb_ops.specs.declared.values.Kind.TheVariants.{Dir, File, Link}
use Rattle.kb_ops.specs.declared.rows.Row.{Row}
use Rattle.kb_ops.specs.Rows.{Look, is_dir_kind, IsPlain, FitsNew}
use Rattle.kb_ops.specs.Trees.{Tree, look, IsWellFormed}
use Rattle.kb_ops.proofs.Nodes.{node_cases}
use Rattle.kb_ops.proofs.Walks.{row_cases}
use Rattle.kb_ops.proofs.Kept.{Sets, some_and, dir_at, at_dir, set_cases}
use Rattle.kb_ops.proofs.Looks.{look-insert}
use Rattle.kb_ops.proofs.TreeKept.{new_kept}
use Rattle.kb_blocks.specs.declared.pointer.Ptr.{Ptr}
use Rattle.kb_files.specs.Files.{Vault, HoldsFile, IsFileOf}
use Rattle.kb_files.proofs.ReadParts.{IsSingle}
use Rattle.kb_dirs.specs.declared.entries.Entry.{Entry}
use Rattle.kb_dirs.specs.Dirs.{HoldsDir, IsEntry, is_plain}
use Rattle.kb_dirs.proofs.Once.{one_dir}
use Rattle.kb_snap.specs.declared.loading.Waiting.{Waiting}
use Rattle.kb_snap.specs.Holds.{IsOneOf, IsEntryOf, IsChild, Holds, HoldsKind, HoldsEach, HoldsTree}
use Rattle.kb_snap.specs.Pointers.{Kept, AllHold}
use Rattle.kb_snap.specs.Reads.{waits, stacked, row_of}
use Rattle.kb_snap.proofs.Among.{one_front, one_back, one_split, all_one}
use Rattle.kb_snap.proofs.HeldRows.{some_is, no_dir, same_named}
use Rattle.kb_snap.proofs.Forms.{each_holds}
use Rattle.kb_snap.proofs.Sealing.{set_here, set_other}
use Rattle.kb_snap.proofs.Stacks.{of_stacked, in_stacked}

-- the entry waits in a directory
abbrev pub IsAwaited : NodeId → Entry → List Waiting → Type 0
IsAwaited q e ws = (w : Waiting) × (IsOneOf w ws × ((w.parent ≡ q) × (w.entry ≡ e)))

-- the entry's row was read
pub record IsRead (l : Look) (at : NodeId → Option Ptr) (q : NodeId) (e : Entry) : Type 0 where
  pub child : IsChild l q e
  pub pointed : at e.id ≡ Some e.ptr

-- the row's entry is among these, with its pointer
pub record IsListed (at : NodeId → Option Ptr) (es : List Entry) (k : NodeId) (s : Row) : Type 0 where
  pub entry : Entry
  pub among : IsOneOf entry es
  pub fields : IsEntryOf entry s
  pub pointed : at k ≡ Some entry.ptr

-- the pointer holds the row, over entries that were read or wait
abbrev pub SoFar : Vault → Look → (NodeId → Option Ptr) → List Waiting → Kind → Row → Ptr → Type 0
SoFar vault l at ws Dir r p = (es : List Entry) × (HoldsDir vault p es × (((e : Entry) → IsOneOf e es → IsRead l at r.id e ⊎ IsAwaited r.id e ws) × ((k : NodeId) (s : Row) → l k ≡ Some s → k ≢ root → s.parent ≡ r.id → IsListed at es k s)))
SoFar vault l at ws File r p = HoldsFile vault p r.bytes
SoFar vault l at ws Link r p = HoldsFile vault p r.bytes

pub record IsReading (vault : Vault) (top : Ptr) (mtime : ℕ) (t : Tree) (at : Kept) (ws : List Waiting) : Type 0 where
  pub formed : IsWellFormed t
  pub timed : (r : Row) → look t root ≡ Some r → r.mtime ≡ mtime
  pub first : get at root ≡ Some top
  pub each : (q : NodeId) (r : Row) → look t q ≡ Some r → (p : Ptr) × ((get at q ≡ Some p) × SoFar vault (look t) (get at) ws r.kind r p)
  pub only : (q : NodeId) (p : Ptr) → get at q ≡ Some p → IsSome (look t q)
  pub wait : (w : Waiting) → IsOneOf w ws → (r : Row) × ((look t w.parent ≡ Some r) × ((r.kind ≡ Dir) × ((p : Ptr) (es : List Entry) → get at w.parent ≡ Some p → HoldsDir vault p es → IsOneOf w.entry es)))

-- ---- one entry more

plain_row : (k : Kind) (bytes : List ℕ) (exec : Bool) (size : ℕ) → is_plain k exec size ≡ true → length bytes ≤ 16777216 → (k ≡ Dir → bytes ≡ []) → IsPlain k bytes exec
plain_row Dir bytes exec size p small none = record { small = small; no_bytes = none; no_exec = λ _. first exec (nat_eq size 0) p }
  where
    first : (a b : Bool) → (not a && b) ≡ true → a ≡ false
    first true b h = absurd (true≢false (sym h))
    first false b h = refl
plain_row File bytes exec size p small none = record { small = small; no_bytes = none; no_exec = λ ne. absurd (ne refl) }
plain_row Link bytes exec size p small none = record { small = small; no_bytes = none; no_exec = λ _. first exec p }
  where
    first : (a : Bool) → not a ≡ true → a ≡ false
    first true h = absurd (true≢false (sym h))
    first false h = refl

dir_size : (k : Kind) (exec : Bool) (size : ℕ) → k ≡ Dir → is_plain k exec size ≡ true → size ≡ 0
dir_size Dir exec size e p = second exec size p
  where
    second : (a : Bool) (n : ℕ) → (not a && nat_eq n 0) ≡ true → n ≡ 0
    second true n h = absurd (true≢false (sym h))
    second false n h = eqb-true n 0 h
dir_size File exec size e p = let bad : File ≡ Dir = e in cc
dir_size Link exec size e p = let bad : Link ≡ Dir = e in cc

module _ (vault : Vault) (one : IsSingle vault) (top : Ptr) (mtime : ℕ) (t : Tree) (at : Kept) (ws rest : List Waiting) (w : Waiting) (popped : ws ≡ rest ++ w ∷ []) (so : IsReading vault top mtime t at ws) (new : get at w.entry.id ≡ None) where
  here : IsOneOf w ws
  here = subst (IsOneOf w) (sym popped) (one_back w rest (w ∷ []) (inl refl))

  fresh : look t w.entry.id ≡ None
  fresh = elim (row_cases (look t) w.entry.id) [
    | inl x ↦ let h = so.each w.entry.id x.0 x.1 in let bad : None ≡ Some h.0 = sym new ∙ h.1.0 in cc
    | inr none ↦ none
  ]

  off_root : w.entry.id ≢ root
  off_root e = let bad : None ≡ Some top = sym new ∙ ap (get at) e ∙ so.first in cc

  -- what is there isn't the new row
  other : (q : NodeId) (r : Row) → look t q ≡ Some r → q ≢ w.entry.id
  other q r is e = let bad : None ≡ Some r = sym fresh ∙ ap (look t) (sym e) ∙ is in cc

  -- the directory that the entry stands in
  record Above : Type 0 where
    dir : Row
    there : look t w.parent ≡ Some dir
    kind : dir.kind ≡ Dir
    ptr : Ptr
    pointed : get at w.parent ≡ Some ptr
    es : List Entry
    held : HoldsDir vault ptr es
    among : IsOneOf w.entry es
    listed : (k : NodeId) (s : Row) → look t k ≡ Some s → k ≢ root → s.parent ≡ w.parent → IsListed (get at) es k s

  above : Above
  above =
      let x = so.wait w here in
      let h = so.each w.parent x.0 x.1.0 in
      let d = subst (λ k. SoFar vault (look t) (get at) ws k x.0 h.0) x.1.1.0 h.1.1 in
      record {
        dir = x.0;
        there = x.1.0;
        kind = x.1.1.0;
        ptr = h.0;
        pointed = h.1.0;
        es = d.0;
        held = d.1.0;
        among = x.1.1.1 h.0 d.0 h.1.0 d.1.0;
        listed = λ k s is off up. d.1.1.1 k s is off (up ∙ sym (so.formed.keyed w.parent x.0 x.1.0));
      }

  pub entry_is : IsEntry w.entry
  entry_is = all_one IsEntry above.es above.held.0.each w.entry above.among

  parent_other : w.parent ≢ w.entry.id
  parent_other = other w.parent above.dir above.there

  module _ (bytes : List ℕ) (sized : w.entry.size ≡ length bytes) (small : length bytes ≤ 16777216) (none : w.entry.kind ≡ Dir → bytes ≡ []) where
    abbrev t' : Tree
    t' = insert t w.entry.id (row_of w bytes)

    abbrev at' : Kept
    at' = insert at w.entry.id w.entry.ptr

    fields : IsEntryOf w.entry (row_of w bytes)
    fields = record { id = refl; name = refl; kind = refl; exec = refl; mtime = refl; size = sized }

    fits : FitsNew (look t) (row_of w bytes)
    fits = record {
      new = fresh;
      dir = at_dir (look t) w.parent above.dir above.there (ap is_dir_kind above.kind);
      free = λ q r is off up name.
          let x = above.listed q r is off up in
          let same : x.entry ≡ w.entry = same_named above.es above.held.0.ordered x.entry w.entry x.among above.among (x.fields.name ∙ name) in
          other q r is (sym (so.formed.keyed q r is) ∙ sym x.fields.id ∙ ap (λ (e : Entry). e.id) same);
      named = entry_is.proper.named;
      plain = plain_row w.entry.kind bytes w.entry.exec w.entry.size entry_is.proper.plain small none;
    }

    sets : Sets (look t) (look t') w.entry.id (Some (row_of w bytes))
    sets = look-insert t w.entry.id (row_of w bytes)

    grows : (q : NodeId) (r : Row) → look t q ≡ Some r → look t' q ≡ Some r
    grows q r is = sets.others q (other q r is) ∙ is

    cases : (q : NodeId) (r : Row) → look t' q ≡ Some r → ((q ≡ w.entry.id) × (r ≡ row_of w bytes)) ⊎ ((q ≢ w.entry.id) × (look t q ≡ Some r))
    cases q r is = set_cases (look t) (look t') w.entry.id (row_of w bytes) sets q r is

    points : (q : NodeId) (p : Ptr) → get at q ≡ Some p → get at' q ≡ Some p
    points q p is = elim (node_cases q w.entry.id) [
      | inl e ↦ let bad : None ≡ Some p = sym new ∙ ap (get at) (sym e) ∙ is in cc
      | inr ne ↦ set_other at w.entry.id w.entry.ptr q ne ∙ is
    ]

    read_here : IsRead (look t') (get at') w.parent w.entry
    read_here = record {
      child = record { row = row_of w bytes; there = sets.here; not_root = off_root; below = refl; fields = fields };
      pointed = set_here at w.entry.id w.entry.ptr;
    }

    read_more : (q : NodeId) (e : Entry) → IsRead (look t) (get at) q e → IsRead (look t') (get at') q e
    read_more q e x = record {
      child = record { row = x.child.row; there = grows e.id x.child.row x.child.there; not_root = x.child.not_root; below = x.child.below; fields = x.child.fields };
      pointed = points e.id e.ptr x.pointed;
    }

    module _ (added : List Waiting) (mine : SoFar vault (look t') (get at') (rest ++ added) w.entry.kind (row_of w bytes) w.entry.ptr)
        (extra : (v : Waiting) → IsOneOf v added → (v.parent ≡ w.entry.id) × ((w.entry.kind ≡ Dir) × ((es : List Entry) → HoldsDir vault w.entry.ptr es → IsOneOf v.entry es))) where
      later : (q : NodeId) (e : Entry) → IsRead (look t) (get at) q e ⊎ IsAwaited q e ws → IsRead (look t') (get at') q e ⊎ IsAwaited q e (rest ++ added)
      later q e h = elim h [
        | inl done ↦ inl (read_more q e done)
        | inr waiting ↦ elim (one_split waiting.0 rest (w ∷ []) (subst (IsOneOf waiting.0) popped waiting.1.0)) [
          | inl still ↦ inr (waiting.0, (one_front waiting.0 rest added still, waiting.1.1))
          | inr now ↦ elim now [
            | inl is ↦
                let up : w.parent ≡ q = ap (λ (v : Waiting). v.parent) (sym is) ∙ waiting.1.1.0 in
                let entry : w.entry ≡ e = ap (λ (v : Waiting). v.entry) (sym is) ∙ waiting.1.1.1 in
                inl (subst (IsRead (look t') (get at') q) entry (subst (λ k. IsRead (look t') (get at') k w.entry) up read_here))
            | inr never ↦ absurd never
          ]
        ]
      ]

      kind_later : (k : Kind) (q : NodeId) (r : Row) (p : Ptr) → look t q ≡ Some r → get at q ≡ Some p → SoFar vault (look t) (get at) ws k r p → SoFar vault (look t') (get at') (rest ++ added) k r p
      kind_later Dir q r p is has x = (
        x.0,
        (
          x.1.0,
          (
            (λ e h. later r.id e (x.1.1.0 e h)),
            λ k s is' off up. elim (cases k s is') [
              | inl a ↦
                  let parent : w.parent ≡ r.id = ap (λ (y : Row). y.parent) (sym a.1) ∙ up in
                  let own : q ≡ w.parent = sym (so.formed.keyed q r is) ∙ sym parent in
                  let v = so.wait w here in
                  record {
                    entry = w.entry;
                    among = v.1.1.1 p x.0 (ap (get at) (sym own) ∙ has) x.1.0;
                    fields = subst (IsEntryOf w.entry) (sym a.1) fields;
                    pointed = ap (get at') a.0 ∙ set_here at w.entry.id w.entry.ptr;
                  }
              | inr b ↦ let y = x.1.1.1 k s b.1 off up in record { entry = y.entry; among = y.among; fields = y.fields; pointed = points k y.entry.ptr y.pointed }
            ],
          ),
        ),
      )
      kind_later File q r p is has x = x
      kind_later Link q r p is has x = x

      pub read_one : IsReading vault top mtime t' at' (rest ++ added)
      read_one = record {
        formed = new_kept t (row_of w bytes) so.formed fits;
        timed = λ r is. elim (cases root r is) [ inl a ↦ absurd (off_root (sym a.0)) | inr b ↦ so.timed r b.1 ];
        first = points root top so.first;
        each = λ q r is. elim (cases q r is) [
          | inl a ↦ (w.entry.ptr, (ap (get at') a.0 ∙ set_here at w.entry.id w.entry.ptr, subst (λ (y : Row). SoFar vault (look t') (get at') (rest ++ added) y.kind y w.entry.ptr) (sym a.1) mine))
          | inr b ↦ let h = so.each q r b.1 in (h.0, (points q h.0 h.1.0, kind_later r.kind q r h.0 b.1 h.1.0 h.1.1))
        ];
        only = λ q p is. elim (node_cases q w.entry.id) [
          | inl e ↦ ap (λ k. is_some (look t' k)) e ∙ ap is_some sets.here
          | inr ne ↦ ap is_some (sets.others q ne) ∙ so.only q p (sym (set_other at w.entry.id w.entry.ptr q ne) ∙ is)
        ];
        wait = λ v h. elim (one_split v rest added h) [
          | inl still ↦
              let x = so.wait v (subst (IsOneOf v) (sym popped) (one_front v rest (w ∷ []) still)) in
              (x.0, (grows v.parent x.0 x.1.0, (x.1.1.0, λ p es is held. x.1.1.1 p es (sym (set_other at w.entry.id w.entry.ptr v.parent (other v.parent x.0 x.1.0)) ∙ is) held)))
          | inr more ↦
              let x = extra v more in (
                row_of w bytes,
                (
                  ap (look t') x.0 ∙ sets.here,
                  (
                    x.1.0,
                    λ p es is held.
                        let same : w.entry.ptr ≡ p = some_is w.entry.ptr p (sym (set_here at w.entry.id w.entry.ptr) ∙ ap (get at') (sym x.0) ∙ is) in
                        x.1.1 es (subst (λ (y : Ptr). HoldsDir vault y es) (sym same) held),
                  ),
                ),
              )
        ];
      }

  -- a file or a link
  file_so_far : (k : Kind) (l : Look) (m : NodeId → Option Ptr) (vs : List Waiting) (r : Row) (p : Ptr) → is_dir_kind k ≡ false → HoldsFile vault p r.bytes → SoFar vault l m vs k r p
  file_so_far Dir l m vs r p off h = absurd (true≢false off)
  file_so_far File l m vs r p off h = h
  file_so_far Link l m vs r p off h = h

  pub read_file : (bytes : List ℕ) → is_dir_kind w.entry.kind ≡ false → IsFileOf vault w.entry.size w.entry.ptr bytes → IsReading vault top mtime (insert t w.entry.id (row_of w bytes)) (insert at w.entry.id w.entry.ptr) rest
  read_file bytes off file =
      let none = λ (e : w.entry.kind ≡ Dir). absurd (no_dir w.entry.kind e off) in
      subst (IsReading vault top mtime (insert t w.entry.id (row_of w bytes)) (insert at w.entry.id w.entry.ptr)) (append-nil rest)
      (read_one bytes (sym file.0) file.1.small none []
      (file_so_far w.entry.kind (look (insert t w.entry.id (row_of w bytes))) (get (insert at w.entry.id w.entry.ptr)) (rest ++ []) (row_of w bytes) w.entry.ptr off file.1)
      (λ v h. absurd h))

  -- a directory
  pub read_dir : (es : List Entry) → w.entry.kind ≡ Dir → HoldsDir vault w.entry.ptr es → IsReading vault top mtime (insert t w.entry.id (row_of w [])) (insert at w.entry.id w.entry.ptr) (rest ++ stacked w.entry.id w.entry.ptr.id es)
  read_dir es on_dir held =
      let t1 = insert t w.entry.id (row_of w []) in
      let at1 = insert at w.entry.id w.entry.ptr in
      let added = stacked w.entry.id w.entry.ptr.id es in
      let sized : w.entry.size ≡ length {A = ℕ} [] = dir_size w.entry.kind w.entry.exec w.entry.size on_dir entry_is.proper.plain in
      let small : length {A = ℕ} [] ≤ 16777216 = omega arith in
      let mine : SoFar vault (look t1) (get at1) (rest ++ added) Dir (row_of w []) w.entry.ptr = (
        es,
        (
          held,
          (
            (λ e h. inr (waits w.entry.id w.entry.ptr.id e, (one_back (waits w.entry.id w.entry.ptr.id e) rest added (in_stacked w.entry.id w.entry.ptr.id es e h), (refl, refl)))),
            λ k s is off up. elim (cases [] sized small (λ _. refl) k s is) [
              | inl a ↦ absurd (parent_other (ap (λ (y : Row). y.parent) (sym a.1) ∙ up))
              | inr b ↦ let d = dir_at (look t) s.parent (so.formed.parents k s b.1 off) in absurd (other s.parent d.0 d.1 up)
            ],
          ),
        ),
      ) in
      read_one [] sized small (λ _. refl) added (subst (λ k. SoFar vault (look t1) (get at1) (rest ++ added) k (row_of w []) w.entry.ptr) (sym on_dir) mine)
      (λ v h.
      let x = of_stacked w.entry.id w.entry.ptr.id es v h in (
        ap (λ (y : Waiting). y.parent) x.1.1,
        (
          on_dir,
          λ fs is.
              let same : fs ≡ es = one_dir vault one w.entry.ptr fs es is held in
              subst (IsOneOf v.entry) (sym same) (subst (λ (y : Waiting). IsOneOf y.entry es) (sym x.1.1) x.1.0),
        ),
      ))

-- ---- all is read

-- a row's own block
row_read : (vault : Vault) (top : Ptr) (mtime : ℕ) (t : Tree) (at : Kept) (ws : List Waiting) → ws ≡ [] → IsReading vault top mtime t at ws → (k : Kind) (r : Row) (p : Ptr) → SoFar vault (look t) (get at) ws k r p → HoldsKind vault (look t) (get at) k r p
row_read vault top mtime t at ws none so Dir r p x =
    let reads = λ (e : Entry) (h : IsOneOf e x.0). read e (x.1.1.0 e h) in
    (x.0, (x.1.0, (record { each = λ e h. (reads e h).child; all = λ q s is off up. let y = x.1.1.1 q s is off up in (y.entry, (y.among, y.fields.id ∙ so.formed.keyed q s is)) }, λ e h. (reads e h).pointed)))
  where
    read : (e : Entry) → IsRead (look t) (get at) r.id e ⊎ IsAwaited r.id e ws → IsRead (look t) (get at) r.id e
    read e h = elim h [ inl y ↦ y | inr y ↦ absurd (subst (IsOneOf y.0) none y.1.0) ]
row_read vault top mtime t at ws none so File r p x = x
row_read vault top mtime t at ws none so Link r p x = x

pub each_read : (vault : Vault) (top : Ptr) (mtime : ℕ) (t : Tree) (at : Kept) (ws : List Waiting) → ws ≡ [] → IsReading vault top mtime t at ws → HoldsEach vault (look t) top (get at)
each_read vault top mtime t at ws none so = record {
  top = so.first;
  each = λ k s there. let h = so.each k s there in (h.0, (h.1.0, row_read vault top mtime t at ws none so s.kind s h.0 h.1.1));
}

pub all_read : (vault : Vault) (top : Ptr) (mtime : ℕ) (t : Tree) (at : Kept) (ws : List Waiting) → ws ≡ [] → IsReading vault top mtime t at ws → HoldsTree vault top mtime t × AllHold vault (look t) at
all_read vault top mtime t at ws none so =
    let r = some_and _ (look t root) so.formed.rooted in (
      record { formed = so.formed; timed = so.timed; held = holds root top r.0 r.1 so.first },
      λ q p is. let h = row_cases (look t) q in elim h [
        | inl x ↦ holds q p x.0 x.1 is
        | inr never ↦ absurd (true≢false (sym (so.only q p is) ∙ ap is_some never))
      ],
    )
  where
    holds : (q : NodeId) (p : Ptr) (r : Row) → look t q ≡ Some r → get at q ≡ Some p → Holds vault (look t) q p
    holds q p r is has = each_holds vault t so.formed (get at) (each_read vault top mtime t at ws none so).each q r p is has
