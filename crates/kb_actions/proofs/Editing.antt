-- What edits make of a tree.
use Rattle.std.proofs.Common.{◌≡◌, ◌≢◌, ℕ, ◌+◌, ◌<◌, Bool, true, false, List, [], ◌∷◌, ◌++◌, drop, get_or, length, append_assoc, add-one, drop-cons, inl, inr, ◌||◌, cond, if◌then◌else◌, Option, Some, None, refl, sym, ap, ◌∙◌}
use Rattle.kb_name.specs.declared.ids.NodeId.{NodeId}
use Rattle.kb_name.specs.Nodes.{same_node}
use Rattle.kb_ops.specs.declared.rows.Row.{Row}
use Rattle.kb_ops.specs.Rows.{Look}
use Rattle.kb_ops.specs.Trees.{Tree, look}
use Rattle.kb_ops.proofs.Nodes.{node_self, node_other, node_cases}
use Rattle.kb_ops.proofs.Looks.{look-insert, look-remove}
use Rattle.kb_rules.specs.Code.{above, ascend}
use Rattle.kb_rules.specs.Ready.{is_in}
use Rattle.kb_rules.proofs.Basics.{bool_cases, both, not_both, first_of_both, second_of_both}
use Rattle.kb_opchains.specs.declared.view.Edit.{Edit}
use Rattle.kb_opchains.specs.Edits.{with_row, edited, edits_above, edits_rise}
use Rattle.kb_opchains.specs.Nets.{same_rows}
use Rattle.kb_opchains.proofs.Alike.{alike}
use Rattle.kb_actions.specs.Edits.{edit_if, edits_in}
use Rattle.kb_actions.proofs.Ascend.{above_in, not_less}

pub row_here : (t : Tree) (q : NodeId) (o : Option Row) → look (with_row t q o) q ≡ o
row_here t q None = (look-remove t q).here
row_here t q (Some r) = (look-insert t q r).here

pub row_other : (t : Tree) (q : NodeId) (o : Option Row) (k : NodeId) → k ≢ q → look (with_row t q o) k ≡ look t k
row_other t q None k ne = (look-remove t q).others k ne
row_other t q (Some r) k ne = (look-insert t q r).others k ne

not_in : (q : NodeId) (ids : List NodeId) → above q ids ≡ true → is_in q ids ≡ false
not_in q ids up = elim (bool_cases (is_in q ids)) [ inl e ↦ absurd (not_less q (above_in q ids q up e)) | inr e ↦ e ]

-- each of the ids has its new row, and all others stay
pub edited_at : (t : Tree) (old new : Look) (ids : List NodeId) → ascend ids ≡ true → ((q : NodeId) → is_in q ids ≡ true → look t q ≡ old q) → (q : NodeId) → look (edited t (edits_in old new ids)) q ≡ cond (is_in q ids) (new q) (look t q)
edited_at t old new [] up same q = refl
edited_at t old new (x ∷ ids) up same q =
    let first = first_of_both (above x ids) (ascend ids) up in
    let rest = second_of_both (above x ids) (ascend ids) up in
    elim (bool_cases (same_rows (old x) (new x))) [
      | inl e ↦
          ap (λ (b : Bool). look (edited t ((if b then [] else (record { id = x; row = new x } ∷ [])) ++ edits_in old new ids)) q) e
          ∙ edited_at t old new ids rest (λ k h. same k (later (same_node k x) (is_in k ids) h)) q
          ∙ elim (node_cases q x) [
            | inl is ↦
                ap (λ b. cond b (new q) (look t q)) (ap (λ z. is_in z ids) is ∙ not_in x ids first)
                ∙ ap (look t) is ∙ same x (ap (λ b. b || is_in x ids) (node_self x)) ∙ alike (old x) (new x) e ∙ ap new (sym is)
                ∙ sym (ap (λ b. cond (b || is_in q ids) (new q) (look t q)) (ap (λ z. same_node z x) is ∙ node_self x))
            | inr ne ↦ sym (ap (λ b. cond (b || is_in q ids) (new q) (look t q)) (node_other q x ne))
          ]
      | inr e ↦
          ap (λ (b : Bool). look (edited t ((if b then [] else (record { id = x; row = new x } ∷ [])) ++ edits_in old new ids)) q) e
          ∙ edited_at (with_row t x (new x)) old new ids rest (λ k h. row_other t x (new x) k (λ is. not_both (is_in k ids) h (ap (λ z. is_in z ids) is ∙ not_in x ids first)) ∙ same k (later (same_node k x) (is_in k ids) h)) q
          ∙ elim (node_cases q x) [
            | inl is ↦
                ap (λ b. cond b (new q) (look (with_row t x (new x)) q)) (ap (λ z. is_in z ids) is ∙ not_in x ids first)
                ∙ ap (look (with_row t x (new x))) is ∙ row_here t x (new x) ∙ ap new (sym is)
                ∙ sym (ap (λ b. cond (b || is_in q ids) (new q) (look t q)) (ap (λ z. same_node z x) is ∙ node_self x))
            | inr ne ↦
                ap (cond (is_in q ids) (new q)) (row_other t x (new x) q ne)
                ∙ sym (ap (λ b. cond (b || is_in q ids) (new q) (look t q)) (node_other q x ne))
          ]
    ]
  where
    later : (a b : Bool) → b ≡ true → (a || b) ≡ true
    later true b h = refl
    later false b h = h

-- ---- in order

rise_above : (k : NodeId) (old new : Look) (ids : List NodeId) → above k ids ≡ true → ascend ids ≡ true → edits_above k (edits_in old new ids) ≡ true
rise_above k old new [] low up = refl
rise_above k old new (x ∷ ids) low up =
    elim (same_rows (old x) (new x)) as (λ (b : Bool). edits_above k ((if b then [] else (record { id = x; row = new x } ∷ [])) ++ edits_in old new ids) ≡ true) [
      | true ↦ rise_above k old new ids (second_of_both _ _ low) (second_of_both _ _ up)
      | false ↦ both _ _ (first_of_both _ _ low) (rise_above x old new ids (first_of_both _ _ up) (second_of_both _ _ up))
    ]

pub rise_all : (old new : Look) (ids : List NodeId) → ascend ids ≡ true → edits_rise (edits_in old new ids) ≡ true
rise_all old new [] up = refl
rise_all old new (x ∷ ids) up =
    elim (same_rows (old x) (new x)) as (λ (b : Bool). edits_rise ((if b then [] else (record { id = x; row = new x } ∷ [])) ++ edits_in old new ids) ≡ true) [
      | true ↦ rise_all old new ids (second_of_both _ _ up)
      | false ↦ rise_above x old new ids (first_of_both _ _ up) (second_of_both _ _ up)
    ]

-- ---- one by one

next_of : (ids : List NodeId) (i : ℕ) (d : NodeId) → i < length ids → drop i ids ≡ get_or ids i d ∷ drop (i + 1) ids
next_of ids i d lt = rw (add-one, drop-cons ids i d)

pub next_edit : (old new : Look) (ids : List NodeId) (i : ℕ) (d : NodeId) (edits more whole : List Edit) (was row : Option Row) → i < length ids → edits ++ edits_in old new (drop i ids) ≡ whole → was ≡ old (get_or ids i d) → row ≡ new (get_or ids i d) → more ≡ edits ++ edit_if (get_or ids i d) was row → more ++ edits_in old new (drop (i + 1) ids) ≡ whole
next_edit old new ids i d edits more whole was row lt all w r put =
    let q = get_or ids i d in
    let one : List Edit = edit_if q (old q) (new q) in
    let first : more ≡ edits ++ one = put ∙ (λ j. edits ++ edit_if q (w j) (r j)) in
    let rest : List Edit = edits_in old new (drop (i + 1) ids) in
    let turned : (edits ++ one) ++ rest ≡ edits ++ (one ++ rest) = simp append_assoc in
    let step : one ++ rest ≡ edits_in old new (drop i ids) = sym (ap (edits_in old new) (next_of ids i d lt)) in
    ap (λ x. x ++ rest) first ∙ turned ∙ ap (λ x. edits ++ x) step ∙ all
