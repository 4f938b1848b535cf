-- The copies as rows, by their ids.
use Rattle.std.proofs.Common.{◌≡◌, ◌≢◌, ℕ, zero, suc, ◌+◌, ◌-◌, ◌≤◌, ◌<◌, Bool, true, not, List, [], ◌∷◌, length, cond, Option, Some, None, is_some, inl, inr, if◌then◌else◌, slice_get, refl, sym, ap, ◌∙◌, arith}
use Rattle.std.proofs.lemmas.Option.{slice_get_within}
use Rattle.std.specs.Option.{option_map, option_and_then}
use Rattle.std.specs.List.{list_any, cons_option}
use Rattle.kb_name.specs.declared.ids.NodeId.{NodeId}
use Rattle.kb_name.specs.Nodes.{same_node}
use Rattle.kb_ops.specs.declared.rows.Row.{Row}
use Rattle.kb_ops.specs.Rows.{Look}
use Rattle.kb_rules.specs.declared.stamp.Stamp.{Stamp}
use Rattle.kb_rules.specs.Merge.{copy_id, copied, with_copies}
use Rattle.kb_rules.specs.Code.{copies_of}
use Rattle.kb_rules.proofs.Basics.{not_true, both, when, none_some}
use borrow.Author.Tests.{eqb-true}
use Rattle.kb_ops.proofs.Nodes.{node_self}
use Rattle.kb_rules.proofs.Copies.{copied_cases, copied_is, with_copy, with_other}

copies_short : (stamp : Stamp) (j : ℕ) (splits : List NodeId) (u : Look) → length (copies_of stamp j splits u) ≤ length splits
copies_short stamp j [] u = omega arith
copies_short stamp j (s ∷ splits) u =
    let rest = copies_short stamp (j + 1) splits u in
    elim (u s) as (λ o. length (cons_option (option_map (λ (r : Row). record r { id = copy_id stamp j }) o) (copies_of stamp (j + 1) splits u)) ≤ suc (length splits)) [ None ↦ omega (arith, rest) | Some r ↦ omega (arith, rest) ]

-- where each split file has a row, its copy stands in its place
copy_got : (stamp : Stamp) (j : ℕ) (splits : List NodeId) (u : Look) → length (copies_of stamp j splits u) ≡ length splits → (i : ℕ)
    → slice_get (copies_of stamp j splits u) i ≡ option_and_then (λ s. option_map (λ (r : Row). record r { id = copy_id stamp (j + i) }) (u s)) (slice_get splits i)
copy_got stamp j [] u all i = refl
copy_got stamp j (s ∷ splits) u all i =
    elim (u s) as (λ o. u s ≡ o → length (cons_option (option_map (λ (r : Row). record r { id = copy_id stamp j }) o) (copies_of stamp (j + 1) splits u)) ≡ suc (length splits)
    → slice_get (cons_option (option_map (λ (r : Row). record r { id = copy_id stamp j }) o) (copies_of stamp (j + 1) splits u)) i ≡ option_and_then (λ s. option_map (λ (r : Row). record r { id = copy_id stamp (j + i) }) (u s)) (slice_get (s ∷ splits) i)) [
      | None ↦ λ e h. let short = copies_short stamp (j + 1) splits u in absurd (omega (arith, h, short))
      | Some r ↦ λ e h. at i r e (omega (arith, h)) (λ k g. copy_got stamp (j + 1) splits u g k)
    ] refl all
  where
    at : (i : ℕ) (r : Row) → u s ≡ Some r → length (copies_of stamp (j + 1) splits u) ≡ length splits
        → ((k : ℕ) → length (copies_of stamp (j + 1) splits u) ≡ length splits → slice_get (copies_of stamp (j + 1) splits u) k ≡ option_and_then (λ s. option_map (λ (r : Row). record r { id = copy_id stamp ((j + 1) + k) }) (u s)) (slice_get splits k))
        → slice_get (record r { id = copy_id stamp j } ∷ copies_of stamp (j + 1) splits u) i ≡ option_and_then (λ s. option_map (λ (r : Row). record r { id = copy_id stamp (j + i) }) (u s)) (slice_get (s ∷ splits) i)
    at zero r e h rest = let z : j ≡ j + 0 = omega arith in ap (λ k. Some (record r { id = copy_id stamp k })) z ∙ sym (ap (option_map (λ (r : Row). record r { id = copy_id stamp (j + 0) })) e)
    at (suc i) r e h rest =
        let z : (j + 1) + i ≡ j + suc i = omega arith in
        rest i h ∙ ap (λ k. option_and_then (λ s. option_map (λ (r : Row). record r { id = copy_id stamp k }) (u s)) (slice_get splits i)) z

module _ (stamp : Stamp) (splits : List NodeId) (u : Look) (all : length (copies_of stamp 1 splits u) ≡ length splits) where
  -- the copy of an id
  pub copy_is : (q s : NodeId) → q ≡ copy_id stamp q.part → q.part ≢ 0 → copied stamp splits q ≡ Some s → slice_get (copies_of stamp 1 splits u) (q.part - 1) ≡ with_copies stamp splits u q
  copy_is q s id off c =
      let back : 1 + (q.part - 1) ≡ q.part = raised q.part off in
      copy_got stamp 1 splits u all (q.part - 1)
      ∙ ap (λ k. option_and_then (λ s. option_map (λ (r : Row). record r { id = copy_id stamp k }) (u s)) (slice_get splits (q.part - 1))) back
      ∙ ap (option_and_then (λ s. option_map (λ (r : Row). record r { id = copy_id stamp q.part }) (u s))) got
      ∙ ap (λ k. option_map (λ (r : Row). record r { id = k }) (u s)) (sym id)
      ∙ sym (with_copy stamp splits u q s c)
    where
      raised : (i : ℕ) → i ≢ 0 → 1 + (i - 1) ≡ i
      raised i off = omega arith

      got : slice_get splits (q.part - 1) ≡ Some s
      got = (copied_is stamp splits u q s c).2

  pub copy_none : (q : NodeId) → q ≡ copy_id stamp q.part → q.part ≢ 0 → copied stamp splits q ≡ None → slice_get (copies_of stamp 1 splits u) (q.part - 1) ≡ None
  copy_none q id off c = copy_got stamp 1 splits u all (q.part - 1) ∙ ap (option_and_then (λ s. option_map (λ (r : Row). record r { id = copy_id stamp (1 + (q.part - 1)) }) (u s))) (sym (when _ (slice_get splits (q.part - 1)) None (both _ _ (ap (same_node q) (sym id) ∙ node_self q) (ap not (not_true _ (λ z. off (eqb-true q.part 0 z)))))) ∙ c)

-- an id with the device and the seq of copies
pub copy_like : (stamp : Stamp) (q : NodeId) → q.device ≡ stamp.device → q.seq ≡ stamp.last → q ≡ copy_id stamp q.part
copy_like stamp q d s = λ i. record { device = d i; seq = s i; part = q.part }

-- an id of a split file, or of none, is no copy
pub not_copy : (stamp : Stamp) (splits : List NodeId) (u : Look) (q : NodeId) → copied stamp splits q ≡ None → (b : Bool) → b ≡ list_any (same_node q) splits → with_copies stamp splits u q ≡ (if b then None else u q)
not_copy stamp splits u q c b e = with_other stamp splits u q c ∙ ap (λ z. cond z None (u q)) (sym e)

-- there is no copy where none was found
pub none_found : (stamp : Stamp) (splits : List NodeId) (u : Look) (copies : List Row) (q : NodeId) (o : Option Row) → copies ≡ copies_of stamp 1 splits u → length copies ≡ length splits
    → (is_some (copied stamp splits q) ≡ true → o ≡ with_copies stamp splits u q) → o ≡ None → copied stamp splits q ≡ None
none_found stamp splits u copies q o are all found none = elim (copied_cases stamp splits u q) [
  | inr e ↦ e
  | inl x ↦
      let c = copied_is stamp splits u q x.0 x.1 in
      let at : slice_get copies (q.part - 1) ≡ None = ap (λ rows. slice_get rows (q.part - 1)) are ∙ copy_is stamp splits u (sym (ap length are) ∙ all) q x.0 c.0 c.1 x.1 ∙ sym (found (ap is_some x.1)) ∙ none in
      let within : q.part - 1 < length splits = slice_get_within splits (q.part - 1) x.0 c.2 in
      absurd (missing copies (q.part - 1) at (omega (arith, within, all)))
]
  where
    missing : (xs : List Row) (i : ℕ) → slice_get xs i ≡ None → i < length xs → ⊥
    missing [] i h lt = omega (arith, lt)
    missing (x ∷ xs) zero h lt = none_some x (Some x) h refl
    missing (x ∷ xs) (suc i) h lt = missing xs i h (omega (arith, lt))
