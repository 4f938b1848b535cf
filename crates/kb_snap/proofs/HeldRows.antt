-- What a row's pointer holds, by the row's kind; and that a pointer holds one row.
use Rattle.std.proofs.Common.{◌≡◌, ℕ, true, false, List, [], ◌∷◌, length, Some, refl, ap, sym, subst, ◌∙◌, inl, inr}
use Rattle.std.specs.Prelude.{◌⊎◌}
use mathlib.Core.Bool.{true≢false}
use Rattle.std.specs.Ordering.{nat_cmp}
use Rattle.std.specs.Cmp.{tied_itself}
use Rattle.std.specs.Cmp.Lexicographic.{slice_cmp, nat_list_cmp_total}
use Rattle.std.specs.declared.cmp.Ordering.TheVariants.{Less, Equal}
use Rattle.kb_name.specs.declared.ids.NodeId.{NodeId}
use Rattle.kb_ops.specs.declared.values.Kind.{Kind}
use Rattle.kb_ops.specs.declared.values.Kind.TheVariants.{Dir, File, Link}
use Rattle.kb_ops.specs.declared.rows.Row.{Row}
use Rattle.kb_ops.specs.Rows.{Look, is_dir_kind}
use Rattle.kb_blocks.specs.declared.pointer.Ptr.{Ptr}
use Rattle.kb_files.specs.Files.{Vault, HoldsAt, HoldsFile, level_of}
use Rattle.kb_files.proofs.ReadParts.{IsSingle, holds_same}
use Rattle.kb_dirs.specs.declared.entries.Entry.{Entry}
use Rattle.kb_dirs.specs.Dirs.{HoldsDir, AreOrdered}
use Rattle.kb_snap.specs.Holds.{IsOneOf, AreChildren, IsEntryOf, Holds}
use Rattle.kb_snap.specs.Holds.Holds.{leaf, dir}

pub some_is : {A : Type 0} (x y : A) → Some x ≡ Some y → x ≡ y
some_is x y e = cc

pub kind_cases : (k : Kind) → (k ≡ Dir) ⊎ (is_dir_kind k ≡ false)
kind_cases Dir = inl refl
kind_cases File = inr refl
kind_cases Link = inr refl

pub dir_kind : (k : Kind) → is_dir_kind k ≡ true → k ≡ Dir
dir_kind Dir e = refl
dir_kind File e = cc
dir_kind Link e = cc

pub no_dir : (k : Kind) → k ≡ Dir → is_dir_kind k ≡ false → ⊥
no_dir k e h = true≢false (sym (ap is_dir_kind e) ∙ h)

-- ---- entries in order

pub ahead : (e : Entry) (es : List Entry) → AreOrdered (e ∷ es) → (f : Entry) → IsOneOf f es → slice_cmp nat_cmp e.name f.name ≡ Less
ahead e [] o f h = absurd h
ahead e (g ∷ es) o f h = elim h [
  | inl same ↦ ap (λ (x : Entry). slice_cmp nat_cmp e.name x.name) same ∙ o.0
  | inr there ↦ nat_list_cmp_total.trans e.name g.name f.name o.0 (ahead g es o.1 f there)
]

pub behind_all : (e : Entry) (es : List Entry) → AreOrdered (e ∷ es) → AreOrdered es
behind_all e [] o = tt
behind_all e (g ∷ es) o = o.1

pub not_less : (a b : List ℕ) → a ≡ b → slice_cmp nat_cmp a b ≡ Less → ⊥
not_less a b e h = let tie : slice_cmp nat_cmp a b ≡ Equal = ap (slice_cmp nat_cmp a) (sym e) ∙ tied_itself nat_list_cmp_total a in cc

-- entries in order have each name once
pub same_named : (es : List Entry) → AreOrdered es → (e f : Entry) → IsOneOf e es → IsOneOf f es → e.name ≡ f.name → e ≡ f
same_named [] o e f a b n = absurd a
same_named (g ∷ es) o e f a b n = elim a [
  | inl here ↦ elim b [
    | inl same ↦ here ∙ sym same
    | inr there ↦ absurd (not_less g.name f.name (ap (λ (x : Entry). x.name) (sym here) ∙ n) (ahead g es o f there))
  ]
  | inr there ↦ elim b [
    | inl same ↦ absurd (not_less g.name e.name (ap (λ (x : Entry). x.name) (sym same) ∙ sym n) (ahead g es o e there))
    | inr both ↦ same_named es (behind_all g es o) e f there both n
  ]
]

-- ---- what is held, by kind

pub as_file : (vault : Vault) (l : Look) (q : NodeId) (p : Ptr) → Holds vault l q p → (r : Row) → l q ≡ Some r → is_dir_kind r.kind ≡ false → HoldsFile vault p r.bytes
as_file vault l q p (leaf s is kind file) r at off_dir = subst (λ (x : Row). HoldsFile vault p x.bytes) (some_is s r (sym is ∙ at)) file
as_file vault l q p (dir s is kind es held children below) r at off_dir = absurd (no_dir r.kind (ap (λ (x : Row). x.kind) (sym (some_is s r (sym is ∙ at))) ∙ kind) off_dir)

pub record IsDirAt (vault : Vault) (l : Look) (q : NodeId) (p : Ptr) : Type 0 where
  pub es : List Entry
  pub held : HoldsDir vault p es
  pub children : AreChildren l q es
  pub below : (e : Entry) → IsOneOf e es → Holds vault l e.id e.ptr

pub as_dir : (vault : Vault) (l : Look) (q : NodeId) (p : Ptr) → Holds vault l q p → (r : Row) → l q ≡ Some r → r.kind ≡ Dir → IsDirAt vault l q p
as_dir vault l q p (leaf s is kind file) r at on_dir = absurd (no_dir s.kind (ap (λ (x : Row). x.kind) (some_is s r (sym is ∙ at)) ∙ on_dir) kind)
as_dir vault l q p (dir s is kind es held children below) r at on_dir = record { es = es; held = held; children = children; below = below }

pub row_there : (vault : Vault) (l : Look) (q : NodeId) (p : Ptr) → Holds vault l q p → (r : Row) × (l q ≡ Some r)
row_there vault l q p (leaf s is kind file) = (s, is)
row_there vault l q p (dir s is kind es held children below) = (s, is)

-- ---- one row

pub file_same : (vault : Vault) → IsSingle vault → (p : Ptr) (a b : List ℕ) → length a ≡ length b → HoldsFile vault p a → HoldsFile vault p b → a ≡ b
file_same vault one p a b size x y =
    holds_same vault one (level_of (length b)) p a b size (subst (λ n. HoldsAt vault (level_of n) p a) size x.held) y.held

pub same_row : (r s : Row) → r.id ≡ s.id → r.parent ≡ s.parent → r.name ≡ s.name → r.kind ≡ s.kind → r.bytes ≡ s.bytes → r.exec ≡ s.exec → r.mtime ≡ s.mtime → r ≡ s
same_row r s i p n k b x m = λ j. record { id = i j; parent = p j; name = n j; kind = k j; bytes = b j; exec = x j; mtime = m j }

-- two rows of one entry and one parent, with the same bytes
pub entry_row : (e : Entry) (r s : Row) → IsEntryOf e r → IsEntryOf e s → r.parent ≡ s.parent → r.bytes ≡ s.bytes → r ≡ s
entry_row e r s a b p bytes = same_row r s (sym a.id ∙ b.id) p (sym a.name ∙ b.name) (sym a.kind ∙ b.kind) bytes (sym a.exec ∙ b.exec) (sym a.mtime ∙ b.mtime)
