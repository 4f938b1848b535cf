-- The entries of listed children.
use Rattle.std.proofs.Common.{◌≡◌, ℕ, Bool, true, not, ◌&&◌, nat_eq, List, [], ◌∷◌, ◌++◌, length, map, Option, Some, IsSome, is_some, refl, ap, sym, subst, ◌∙◌, inl, inr}
use Rattle.std.specs.Option.{option_map_or}
use Rattle.std.specs.Ordering.{nat_cmp}
use Rattle.std.specs.Cmp.Lexicographic.{slice_cmp}
use Rattle.std.specs.declared.cmp.Ordering.TheVariants.{Less}
use Rattle.std.specs.FinMap.Entries as entries
use Rattle.kb_name.specs.declared.ids.NodeId.{NodeId}
use Rattle.kb_name.specs.Names.{is_name}
use Rattle.kb_ops.specs.declared.values.Kind.{Kind}
use Rattle.kb_ops.specs.declared.values.Kind.TheVariants.{Dir, File, Link}
use Rattle.kb_ops.specs.declared.rows.Row.{Row}
use Rattle.kb_ops.specs.Rows.{Look, IsPlain}
use Rattle.kb_ops.specs.Trees.{Tree, look, IsWellFormed}
use Rattle.kb_ops.proofs.Nodes.{and_first, and_second}
use Rattle.kb_ops.proofs.Lists.{less_is}
use Rattle.kb_tree.specs.Children.{IsChildren, named}
use Rattle.kb_blocks.specs.declared.pointer.Ptr.{Ptr}
use Rattle.kb_dirs.specs.declared.entries.Entry.{Entry}
use Rattle.kb_dirs.specs.Dirs.{IsProper, AreProper, AreOrdered, is_plain}
use Rattle.kb_snap.specs.Holds.{IsOneOf, AreChildren}
use Rattle.kb_snap.specs.Builds.{IsEntryAt, ArePointed}
use Rattle.kb_snap.proofs.HeldRows.{some_is}
use Rattle.kb_snap.proofs.Among.{one_all}
use Rattle.kb_snap.proofs.Listed.{child_there, children_all}

-- one entry for each id
abbrev pub AreEntriesAt : Look → (NodeId → Option Ptr) → List NodeId → List Entry → Type 0
AreEntriesAt l at [] [] = Unit {0}
AreEntriesAt l at [] (e ∷ es) = ⊥
AreEntriesAt l at (q ∷ ids) [] = ⊥
AreEntriesAt l at (q ∷ ids) (e ∷ es) = IsEntryAt l at q e × AreEntriesAt l at ids es

module _ (l : Look) (at : NodeId → Option Ptr) where
  pub entries_push : (ids : List NodeId) (es : List Entry) (q : NodeId) (e : Entry) → AreEntriesAt l at ids es → IsEntryAt l at q e → AreEntriesAt l at (ids ++ q ∷ []) (es ++ e ∷ [])
  entries_push [] [] q e a b = (b, tt)
  entries_push [] (f ∷ es) q e a b = absurd a
  entries_push (k ∷ ids) [] q e a b = absurd a
  entries_push (k ∷ ids) (f ∷ es) q e a b = (a.0, entries_push ids es q e a.1 b)

  of_entry : (ids : List NodeId) (es : List Entry) → AreEntriesAt l at ids es → (e : Entry) → IsOneOf e es → (q : NodeId) × (IsOneOf q ids × IsEntryAt l at q e)
  of_entry [] [] a e h = absurd h
  of_entry [] (f ∷ es) a e h = absurd a
  of_entry (q ∷ ids) [] a e h = absurd h
  of_entry (q ∷ ids) (f ∷ es) a e h = elim h [
    | inl here ↦ (q, (inl refl, subst (IsEntryAt l at q) (sym here) a.0))
    | inr there ↦ let x = of_entry ids es a.1 e there in (x.0, (inr x.1.0, x.1.1))
  ]

  of_id : (ids : List NodeId) (es : List Entry) → AreEntriesAt l at ids es → (q : NodeId) → IsOneOf q ids → (e : Entry) × (IsOneOf e es × IsEntryAt l at q e)
  of_id [] es a q h = absurd h
  of_id (k ∷ ids) [] a q h = absurd a
  of_id (k ∷ ids) (f ∷ es) a q h = elim h [
    | inl here ↦ (f, (inl refl, subst (λ x. IsEntryAt l at x f) (sym here) a.0))
    | inr there ↦ let x = of_id ids es a.1 q there in (x.0, (inr x.1.0, x.1.1))
  ]

plain_entry : (k : Kind) (bytes : List ℕ) (exec : Bool) → IsPlain k bytes exec → is_plain k exec (length bytes) ≡ true
plain_entry Dir bytes exec p = ap (λ b. not b && nat_eq (length bytes) 0) (p.no_exec (λ e. let h : Dir ≡ File = e in cc)) ∙ ap (λ b. nat_eq (length b) 0) (p.no_bytes refl)
plain_entry File bytes exec p = refl
plain_entry Link bytes exec p = ap not (p.no_exec (λ e. let h : Link ≡ File = e in cc))

module _ (t : Tree) (w : IsWellFormed t) (at : NodeId → Option Ptr) (parent : NodeId) (ids : List NodeId) (are : IsChildren t parent ids) where
  proper_one : (q : NodeId) → IsOneOf q ids → (e : Entry) → IsEntryAt (look t) at q e → IsProper e
  proper_one q h e is =
      let s = child_there t w parent ids are q h in
      record {
        named = ap is_name is.fields.name ∙ w.named q is.row is.there s.not_root;
        plain = (λ i. is_plain (is.fields.kind i) (is.fields.exec i) (is.fields.size i)) ∙ plain_entry is.row.kind is.row.bytes is.row.exec (w.plain q is.row is.there);
      }

  ordered : (xs : List NodeId) (es : List Entry) → AreEntriesAt (look t) at xs es → entries.is_sorted (slice_cmp nat_cmp) (map (named t) xs) ≡ true → AreOrdered es
  ordered [] [] a up = tt
  ordered [] (e ∷ es) a up = absurd a
  ordered (q ∷ xs) [] a up = absurd a
  ordered (q ∷ []) (e ∷ []) a up = tt
  ordered (q ∷ []) (e ∷ f ∷ es) a up = absurd a.1
  ordered (q ∷ k ∷ xs) (e ∷ []) a up = absurd a.1
  ordered (q ∷ k ∷ xs) (e ∷ f ∷ es) a up =
      let less : slice_cmp nat_cmp (named t q).0 (named t k).0 ≡ Less = less_is _ (and_first _ _ (and_first _ _ up)) in
      let first : (named t q).0 ≡ e.name = ap (λ o. option_map_or (λ (r : Row). r.name) o []) a.0.there ∙ sym a.0.fields.name in
      let second : (named t k).0 ≡ f.name = ap (λ o. option_map_or (λ (r : Row). r.name) o []) a.1.0.there ∙ sym a.1.0.fields.name in
      ((λ i. slice_cmp nat_cmp (sym first i) (sym second i)) ∙ less, ordered (k ∷ xs) (f ∷ es) a.1 (and_second _ _ up))

  pub entries_proper : (es : List Entry) → AreEntriesAt (look t) at ids es → AreProper es
  entries_proper es a = record {
    each = one_all IsProper es (λ e h. let x = of_entry (look t) at ids es a e h in proper_one x.0 x.1.0 e x.1.1);
    ordered = ordered ids es a are.rise;
  }

  pub entries_children : (es : List Entry) → AreEntriesAt (look t) at ids es → AreChildren (look t) parent es
  entries_children es a = record {
    each = λ e h.
        let x = of_entry (look t) at ids es a e h in
        let s = child_there t w parent ids are x.0 x.1.0 in
        let id : e.id ≡ x.0 = x.1.1.fields.id ∙ w.keyed x.0 x.1.1.row x.1.1.there in
        record {
          row = x.1.1.row;
          there = ap (look t) id ∙ x.1.1.there;
          not_root = λ p. s.not_root (sym id ∙ p);
          below = ap (λ (r : Row). r.parent) (some_is x.1.1.row s.row (sym x.1.1.there ∙ s.found)) ∙ s.parent_is;
          fields = x.1.1.fields;
        };
    all = λ q r is off up.
        let x = of_id (look t) at ids es a q (children_all t w parent ids are q r is off up) in
        (x.0, (x.1.0, x.1.1.fields.id ∙ w.keyed q x.1.1.row x.1.1.there));
  }

  pub entries_pointed : (es : List Entry) → AreEntriesAt (look t) at ids es → (e : Entry) → IsOneOf e es → at e.id ≡ Some e.ptr
  entries_pointed es a e h =
      let x = of_entry (look t) at ids es a e h in
      ap at (x.1.1.fields.id ∙ w.keyed x.0 x.1.1.row x.1.1.there) ∙ x.1.1.pointed

  -- each listed child has a row and a pointer
  pub child_some : (q : NodeId) → IsOneOf q ids → IsSome (look t q)
  child_some q h = ap is_some (child_there t w parent ids are q h).found

  pub child_pointed : ArePointed (look t) at parent → (q : NodeId) → IsOneOf q ids → IsSome (at q)
  child_pointed have q h = let s = child_there t w parent ids are q h in have q s.row s.found s.not_root s.parent_is
