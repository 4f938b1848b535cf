-- A result that is a given tree: each of its rows is kept at its place with its fields, and nothing is joined or renamed.
use Rattle.std.proofs.Common.{◌≡◌, ℕ, Bool, true, false, List, inl, inr, Some, None, refl, sym, ap, ◌∙◌}
use mathlib.Core.Bool.{true≢false, beq}
use borrow.Author.Tests.{eq-eqb}
use Rattle.std.specs.Option.{option_map, option_and_then, unwrap_or}
use Rattle.std.specs.Str.{bytes_eq}
use Rattle.kb_name.specs.declared.ids.NodeId.{NodeId}
use Rattle.kb_ops.specs.declared.rows.Row.{Row}
use Rattle.kb_name.specs.Nodes.{same_node}
use Rattle.kb_ops.specs.Rows.{Look}
use Rattle.kb_ops.proofs.Nodes.{node_self, node_is}
use Rattle.kb_ops.proofs.Walks.{row_cases}
use Rattle.kb_ops.specs.Codes.{kind_number}
use Rattle.kb_rules.specs.Three.{Three, same_place, same_content, same_row, fields}
use Rattle.kb_rules.specs.Places.{seat, is_kept}
use Rattle.kb_rules.specs.Joins.{into, joined, standing}
use Rattle.kb_rules.specs.Names.{clashes, given, given_name, result}
use Rattle.kb_rules.proofs.Ready.{CanName}
use Rattle.kb_rules.proofs.Basics.{not_both, both, first_of_both, second_of_both, no_first, unless, bytes_self, bytes_same}
use Rattle.kb_rules.proofs.Joined.{standing_row}
use Rattle.kb_rules.proofs.Named.{given_at, all_given, name_cases}

pub bool_self : (a : Bool) → beq a a ≡ true
bool_self true = refl
bool_self false = refl

pub bool_same : (a b : Bool) → beq a b ≡ true → a ≡ b
bool_same true true h = refl
bool_same true false h = absurd (true≢false (sym h))
bool_same false true h = absurd (true≢false (sym h))
bool_same false false h = refl

pub place_self : (r s : Row) → r.parent ≡ s.parent → r.name ≡ s.name → same_place r s ≡ true
place_self r s p n = both _ _ (ap (λ z. same_node z s.parent) p ∙ node_self s.parent) (ap (λ z. bytes_eq z s.name) n ∙ bytes_self s.name)

pub place_same : (r s : Row) → same_place r s ≡ true → (r.parent ≡ s.parent) × (r.name ≡ s.name)
place_same r s h = (node_is r.parent s.parent (first_of_both _ _ h), bytes_same r.name s.name (second_of_both _ _ h))

pub content_self : (r : Row) → same_content r r ≡ true
content_self r = both _ _ (eq-eqb (kind_number r.kind) (kind_number r.kind) refl) (both _ _ (bytes_self r.bytes) (both _ _ (bool_self r.exec) (eq-eqb r.mtime r.mtime refl)))

pub row_self : (r : Row) → same_row r r ≡ true
row_self r = both _ _ (node_self r.id) (both _ _ (place_self r r refl refl) (content_self r))

-- a row at its place with its fields
pub record HasRow (t : Three) (q : NodeId) (s : Row) : Type 0 where
  pub kept : is_kept t q ≡ true
  pub at : Row
  pub seat : seat t q ≡ Some at
  pub parent : at.parent ≡ s.parent
  pub name : at.name ≡ s.name
  pub of : Row
  pub fields : fields t q ≡ Some of
  pub id : of.id ≡ s.id
  pub kind : of.kind ≡ s.kind
  pub bytes : of.bytes ≡ s.bytes
  pub exec : of.exec ≡ s.exec
  pub mtime : of.mtime ≡ s.mtime

module _ (n m : ℕ) (t : Three) (ready : CanName n m t) (goal : Look)
    (has : (q : NodeId) (s : Row) → goal q ≡ Some s → HasRow t q s)
    (only : (q : NodeId) → goal q ≡ None → is_kept t q ≡ false)
    (apart : (q : NodeId) → joined t q ≡ None)
    (calm : (q : NodeId) → clashes t q ≡ false) where
  into_same : (q : NodeId) → into t q ≡ q
  into_same q = ap (λ o. unwrap_or o q) (apart q)

  name_same : (q : NodeId) (name : List ℕ) → given_name (given t) q name ≡ name
  name_same q name = elim (name_cases t (given t) q name) [
    | inl g ↦ let w = given_at t (given t) (all_given t ready.differ) q g.0 g.1 in not_both _ w.1.clash (calm g.0.id)
    | inr none ↦ none.1
  ]

  pub whole : (q : NodeId) → result t q ≡ goal q
  whole q = elim (row_cases goal q) [
    | inl w ↦
        let s = w.0 in
        let h = has q s w.1 in
        let stands : standing t q ≡ Some (record h.at { parent = into t h.at.parent }) = standing_row t q h.at h.kept (apart q) h.seat in
        let parent : into t h.at.parent ≡ s.parent = into_same h.at.parent ∙ h.parent in
        let name : given_name (given t) q h.at.name ≡ s.name = name_same q h.at.name ∙ h.name in
        let is : ◌≡◌ {A = Row} (record h.of { parent = into t h.at.parent; name = given_name (given t) q h.at.name }) s =
        λ i. record { id = h.id i; parent = parent i; name = name i; kind = h.kind i; bytes = h.bytes i; exec = h.exec i; mtime = h.mtime i } in
        ap (option_and_then (λ (s : Row). option_map (λ (f : Row). record f { parent = s.parent; name = given_name (given t) q s.name }) (fields t q))) stands
        ∙ ap (option_map (λ (f : Row). record f { parent = into t h.at.parent; name = given_name (given t) q h.at.name })) h.fields
        ∙ ap Some is ∙ sym w.1
    | inr none ↦
        let gone : standing t q ≡ None = unless _ _ None (no_first _ _ (only q none)) in
        ap (option_and_then (λ (s : Row). option_map (λ (f : Row). record f { parent = s.parent; name = given_name (given t) q s.name }) (fields t q))) gone ∙ sym none
  ]
