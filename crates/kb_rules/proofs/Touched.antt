-- The result has merged's row at each id that neither side changed. So the edits of merged are at ids that a side changed, and those of copies.
use Rattle.std.proofs.Common.{◌≡◌, ℕ, Bool, true, false, not, length, inl, inr, cond, Option, Some, None, refl, sym, ap, ◌∙◌}
use borrow.Author.Tests.{eq-eqb}
use Rattle.std.specs.Option.{option_map, option_and_then}
use Rattle.kb_name.specs.declared.ids.NodeId.{NodeId}
use Rattle.kb_ops.specs.declared.rows.Row.{Row}
use Rattle.kb_ops.proofs.Walks.{row_cases}
use Rattle.kb_rules.specs.Three.{Three, fields_by, fields, mixed}
use Rattle.kb_rules.specs.Places.{is_moved_by, seat, on_ours}
use Rattle.kb_rules.specs.Joins.{into, is_left, standing}
use Rattle.kb_rules.specs.Names.{given, given_name, result}
use Rattle.kb_rules.specs.Ready.{CanMerge}
use Rattle.kb_rules.proofs.Ready.{CanName}
use Rattle.kb_rules.proofs.Basics.{no_first, no_second, when, bytes_self}
use Rattle.kb_rules.proofs.Reaching.{seat_merged, new_is_ours, seat_ours}
use Rattle.kb_rules.proofs.Keeps.{stays_kept, both_stay}
use Rattle.kb_rules.proofs.Joined.{merged_stays, into_merged, standing_row}
use Rattle.kb_rules.proofs.Formed.{name_kept}
use Rattle.kb_rules.proofs.Whole.{place_self, bool_self}
use Rattle.kb_rules.proofs.Unchanged.{tree_parent}

empty : (c : Bool) (f : Row → Row) → cond {A = Option Row} c (option_map f None) None ≡ None
empty true f = refl
empty false f = refl

module _ (n m : ℕ) (t : Three) (ready : CanName n m t) where
  abbrev can : CanMerge n m t
  can = ready.can

  pub untouched : (q : NodeId) → t.base q ≡ t.merged q → t.base q ≡ t.ours q → result t q ≡ t.merged q
  untouched q bm bu = elim (row_cases t.merged q) [
    | inr none ↦
        let seated : seat t q ≡ None = seat_ours t q (new_is_ours t q none) ∙ sym bu ∙ bm ∙ none in
        let gone : standing t q ≡ None = ap (λ o. cond (is_left t q) (option_map (λ (r : Row). record r { parent = into t r.parent }) o) None) seated ∙ empty (is_left t q) (λ (r : Row). record r { parent = into t r.parent }) in
        ap (option_and_then (λ (s : Row). option_map (λ (f : Row). record f { parent = s.parent; name = given_name (given t) q s.name }) (fields t q))) gone ∙ sym none
    | inl w ↦
        let r = w.0 in
        let at_u : t.ours q ≡ Some r = sym bu ∙ bm ∙ w.1 in
        let at_b : t.base q ≡ Some r = bm ∙ w.1 in
        let side : on_ours t q ≡ false = no_first _ _ ((λ i. is_moved_by (w.1 i) (at_u i) (at_b i)) ∙ no_second _ _ (ap not (place_self r r refl refl))) in
        let p = tree_parent n t.merged can.merged q r w.1 in
        let stands = standing_row t q r (stays_kept n m t can q (both_stay n m t can q r r w.1 at_u)) (merged_stays t (length t.ids) q r w.1) (seat_merged t q side ∙ w.1) in
        let parent : into t r.parent ≡ r.parent = into_merged t r.parent p.0 p.1 in
        let name : given_name (given t) q r.name ≡ r.name = name_kept n m t ready q r.name side in
        let bytes : (mixed r r r).bytes ≡ r.bytes = when _ r.bytes r.bytes (bytes_self r.bytes) in
        let exec : (mixed r r r).exec ≡ r.exec = when _ r.exec r.exec (bool_self r.exec) in
        let mtime : (mixed r r r).mtime ≡ r.mtime = when _ r.mtime _ (eq-eqb r.mtime r.mtime refl) in
        let is : ◌≡◌ {A = Row} (record (mixed r r r) { parent = into t r.parent; name = given_name (given t) q r.name }) r =
        λ i. record { id = r.id; parent = parent i; name = name i; kind = r.kind; bytes = bytes i; exec = exec i; mtime = mtime i } in
        ap (option_and_then (λ (s : Row). option_map (λ (f : Row). record f { parent = s.parent; name = given_name (given t) q s.name }) (fields t q))) stands
        ∙ ap (option_map (λ (f : Row). record f { parent = into t r.parent; name = given_name (given t) q r.name })) (λ i. fields_by (w.1 i) (at_u i) (at_b i))
        ∙ ap Some is ∙ sym w.1
  ]
