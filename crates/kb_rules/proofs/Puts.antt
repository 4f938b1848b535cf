-- Ids put into their order, split files and copies, step by step.
use Rattle.std.proofs.Common.{◌≡◌, ℕ, zero, suc, ◌+◌, ◌<◌, ◌≤◌, Bool, true, false, List, [], ◌∷◌, ◌++◌, length, take, drop, map, get_or, cond, if◌then◌else◌, add-one, drop-cons, Option, Some, None, refl, sym, ap, ◌∙◌, arith}
use Rattle.std.specs.Prelude.{filter}
use Rattle.std.specs.List.{cons_option}
use Rattle.std.specs.Option.{option_map, option_to_list}
use Rattle.std.specs.BTreeSet.{insert_key}
use Rattle.std.specs.FinMap.Entries as entries
use Rattle.std.specs.FinMap as map
use Rattle.std.specs.Ordering.{ordering_reverse, match_ordering}
use Rattle.std.specs.declared.cmp.Ordering.TheVariants.{Less, Equal, Greater}
use Rattle.kb_name.specs.declared.ids.NodeId.{NodeId}
use Rattle.kb_name.specs.Nodes.{node_cmp}
use Rattle.kb_ops.specs.declared.rows.Row.{Row}
use Rattle.kb_ops.specs.Rows.{Look}
use Rattle.kb_ops.specs.Lists.{keyed, rises, tree_of}
use Rattle.kb_ops.proofs.Looks.{nodes_total}
use Rattle.kb_ops.proofs.Lists.{less_is, entries_of}
use Rattle.kb_rules.specs.declared.stamp.Stamp.{Stamp}
use Rattle.kb_rules.specs.Merge.{copy_id, copy_ids, put_id, put_ids}
use Rattle.kb_rules.specs.Code.{above, ascend, ids_of, copies_of}
use Rattle.kb_rules.proofs.Basics.{first_of_both, second_of_both}
use Rattle.kb_rules.proofs.Ids.{keys_rise}

pub put_is : (k : NodeId) (ids : List NodeId) → insert_key node_cmp ids k ≡ put_id k ids
put_is k [] = refl
put_is k (q ∷ ids) = elim (node_cmp k q) as (λ o. match_ordering o (k ∷ q ∷ ids) (q ∷ ids) (q ∷ insert_key node_cmp ids k) ≡ entries.by_order o (k ∷ q ∷ ids) (q ∷ ids) (q ∷ put_id k ids)) [
  | Less ↦ refl
  | Equal ↦ refl
  | Greater ↦ ap (λ l. q ∷ l) (put_is k ids)
]

-- a smaller id stays in front
put_behind : (k q : NodeId) (ids : List NodeId) → node_cmp q k ≡ Less → put_id k (q ∷ ids) ≡ q ∷ put_id k ids
put_behind k q ids l = ap (λ o. entries.by_order o (k ∷ q ∷ ids) (q ∷ ids) (q ∷ put_id k ids)) (nodes_total.antisymm k q ∙ ap ordering_reverse l)

puts_behind : (ks : List NodeId) (q : NodeId) (ids : List NodeId) → above q ks ≡ true → put_ids ks (q ∷ ids) ≡ q ∷ put_ids ks ids
puts_behind [] q ids h = refl
puts_behind (k ∷ ks) q ids h = ap (put_ids ks) (put_behind k q ids (less_is _ (first_of_both _ _ h))) ∙ puts_behind ks q (put_id k ids) (second_of_both _ _ h)

-- ids in ascending order, put one after another, are the list
pub put_all : (ids : List NodeId) → ascend ids ≡ true → put_ids ids [] ≡ ids
put_all [] h = refl
put_all (q ∷ ids) h = puts_behind ids q [] (first_of_both _ _ h) ∙ ap (λ l. q ∷ l) (put_all ids (second_of_both _ _ h))

first_of : (rows : List Row) → map (λ (e : NodeId × Row). e.0) (map keyed rows) ≡ ids_of rows
first_of [] = refl
first_of (r ∷ rows) = ap (λ xs. r.id ∷ xs) (first_of rows)

pub keys_of : (rows : List Row) → rises rows ≡ true → map.keys (tree_of rows) ≡ ids_of rows
keys_of rows h = ap (map (λ (e : NodeId × Row). e.0)) (entries_of rows h) ∙ first_of rows

pub ids_ascend : (rows : List Row) → rises rows ≡ true → ascend (ids_of rows) ≡ true
ids_ascend rows h = ap ascend (sym (keys_of rows h)) ∙ keys_rise (tree_of rows)

pub put_rows_all : (rows : List Row) → rises rows ≡ true → put_ids (ids_of rows) [] ≡ ids_of rows
put_rows_all rows h = put_all (ids_of rows) (ids_ascend rows h)

next_of : (xs : List NodeId) (i : ℕ) (d : NodeId) → i < length xs → drop i xs ≡ get_or xs i d ∷ drop (i + 1) xs
next_of xs i d lt = rw (add-one, drop-cons xs i d)

pub copies_step : (stamp : Stamp) (splits : List NodeId) (i : ℕ) (ids : List NodeId) → i < length splits
    → put_ids (copy_ids stamp (i + 1) (drop i splits)) ids ≡ put_ids (copy_ids stamp ((i + 1) + 1) (drop (i + 1) splits)) (put_id (copy_id stamp (i + 1)) ids)
copies_step stamp splits i ids lt = ap (λ xs. put_ids (copy_ids stamp (i + 1) xs) ids) (next_of splits i (copy_id stamp 0) lt)

one_more : (xs : List Row) (o : Option Row) (ys : List Row) → (xs ++ option_to_list o) ++ ys ≡ xs ++ cons_option o ys
one_more xs None ys = nothing xs
  where
    nothing : (xs : List Row) → (xs ++ []) ++ ys ≡ xs ++ ys
    nothing [] = refl
    nothing (x ∷ xs) = ap (λ l. x ∷ l) (nothing xs)
one_more xs (Some r) ys = one xs
  where
    one : (xs : List Row) → (xs ++ r ∷ []) ++ ys ≡ xs ++ (r ∷ ys)
    one [] = refl
    one (x ∷ xs) = ap (λ l. x ∷ l) (one xs)

pub rows_step : (stamp : Stamp) (splits : List NodeId) (i : ℕ) (d : NodeId) (u : Look) (rows new whole : List Row) → i < length splits → new ≡ rows ++ option_to_list (option_map (λ (r : Row). record r { id = copy_id stamp (i + 1) }) (u (get_or splits i d)))
    → rows ++ copies_of stamp (i + 1) (drop i splits) u ≡ whole → new ++ copies_of stamp ((i + 1) + 1) (drop (i + 1) splits) u ≡ whole
rows_step stamp splits i d u rows new whole lt e h =
    ap (λ xs. xs ++ copies_of stamp ((i + 1) + 1) (drop (i + 1) splits) u) e
    ∙ one_more rows (option_map (λ (r : Row). record r { id = copy_id stamp (i + 1) }) (u (get_or splits i d))) (copies_of stamp ((i + 1) + 1) (drop (i + 1) splits) u)
    ∙ ap (λ xs. rows ++ copies_of stamp (i + 1) xs u) (sym (next_of splits i d lt)) ∙ h

pub rows_end : (stamp : Stamp) (splits : List NodeId) (i : ℕ) (u : Look) (rows whole : List Row) → length splits ≤ i → rows ++ copies_of stamp (i + 1) (drop i splits) u ≡ whole → rows ≡ whole
rows_end stamp splits i u rows whole past h = sym (nothing rows) ∙ ap (λ xs. rows ++ copies_of stamp (i + 1) xs u) (sym (past_all splits i past)) ∙ h
  where
    nothing : (xs : List Row) → xs ++ [] ≡ xs
    nothing [] = refl
    nothing (x ∷ xs) = ap (λ l. x ∷ l) (nothing xs)

    past_all : (xs : List NodeId) (i : ℕ) → length xs ≤ i → drop i xs ≡ []
    past_all [] zero le = refl
    past_all [] (suc i) le = refl
    past_all (x ∷ xs) zero le = absurd (omega (arith, le))
    past_all (x ∷ xs) (suc i) le = past_all xs i (omega (arith, le))

filtered_behind : (p : NodeId → Bool) (xs : List NodeId) (q : NodeId) → filter p (xs ++ q ∷ []) ≡ filter p xs ++ (if p q then q ∷ [] else [])
filtered_behind p [] q = elim (p q) as (λ b. cond b (q ∷ []) [] ≡ (if b then q ∷ [] else [])) [ true ↦ refl | false ↦ refl ]
filtered_behind p (x ∷ xs) q = elim (p x) as (λ b. cond b (x ∷ filter p (xs ++ q ∷ [])) (filter p (xs ++ q ∷ [])) ≡ cond b (x ∷ filter p xs) (filter p xs) ++ (if p q then q ∷ [] else [])) [
  | true ↦ ap (λ l. x ∷ l) (filtered_behind p xs q)
  | false ↦ filtered_behind p xs q
]

ids_taken : (rows : List Row) (i : ℕ) (d : Row) → i < length rows → ids_of (take (i + 1) rows) ≡ ids_of (take i rows) ++ (get_or rows i d).id ∷ []
ids_taken [] i d lt = absurd (omega (arith, lt))
ids_taken (r ∷ rows) zero d lt = refl
ids_taken (r ∷ rows) (suc i) d lt = let z : suc i + 1 ≡ suc (i + 1) = omega arith in ap (λ k. ids_of (take k (r ∷ rows))) z ∙ ap (λ l. r.id ∷ l) (ids_taken rows i d (omega (arith, lt)))

pub splits_step : (p : NodeId → Bool) (rows : List Row) (i : ℕ) (d : Row) (splits new : List NodeId) (is : Bool) → i < length rows → is ≡ p (get_or rows i d).id → new ≡ splits ++ (if is then (get_or rows i d).id ∷ [] else []) → splits ≡ filter p (ids_of (take i rows))
    → new ≡ filter p (ids_of (take (i + 1) rows))
splits_step p rows i d splits new is lt same e h =
    let q = (get_or rows i d).id in
    e ∙ (λ j. h j ++ (if same j then q ∷ [] else [])) ∙ sym (filtered_behind p (ids_of (take i rows)) q) ∙ sym (ap (filter p) (ids_taken rows i d lt))
