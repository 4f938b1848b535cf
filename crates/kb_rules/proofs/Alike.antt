-- What rows have in common that may become one.
use Rattle.std.proofs.Common.{◌≡◌, ◌⊎◌, ℕ, Bool, true, false, not, is_some, ◌&&◌, ◌||◌, inl, inr, refl, sym, ap, ◌∙◌}
use Rattle.std.specs.Prelude.{nat_eq}
use Rattle.std.specs.Str.{bytes_eq}
use Rattle.kb_name.specs.declared.ids.NodeId.{NodeId}
use Rattle.kb_ops.specs.declared.values.Kind.{Kind}
use Rattle.kb_ops.specs.declared.values.Kind.TheVariants.{Dir, File, Link}
use Rattle.kb_ops.specs.declared.rows.Row.{Row}
use Rattle.kb_ops.specs.Rows.{Look, is_dir_row, is_dir_kind}
use Rattle.kb_ops.specs.Plan.{is_file_kind}
use Rattle.kb_rules.specs.Joins.{may_join}
use Rattle.kb_rules.specs.Merge.{are_alike, may_by}
use Rattle.kb_rules.proofs.Basics.{not_both, not_was, first_of_both, second_of_both, bytes_same}

file_is : (k : Kind) → is_file_kind k ≡ true → k ≡ File
file_is Dir h = cc
file_is File h = refl
file_is Link h = cc

either : (a b : Bool) → (a || b) ≡ true → (a ≡ true) ⊎ (b ≡ true)
either true b h = inl refl
either false b h = inr h

or_none : (b : Bool) → b ≡ (b || false)
or_none true = refl
or_none false = refl

-- the first rule
pub first_rule : (rule : ℕ) → rule ≡ 1 → (base : Look) (is_copy : NodeId → Bool) → may_join ≡ may_by rule base is_copy
first_rule rule e base is_copy = (λ i b a. or_none (may_join b a) i) ∙ ap (λ n. may_by n base is_copy) (sym e)

module _ (rule : ℕ) (base : Look) (is_copy : NodeId → Bool) (b a : Row) (h : may_by rule base is_copy b a ≡ true) where
  dirs_or : (may_join b a ≡ true) ⊎ ((nat_eq rule 2 && are_alike base is_copy b a) ≡ true)
  dirs_or = either _ _ h

  -- a file becomes one with a file alone, by the second rule
  pub second_rule : b.kind ≡ File → (nat_eq rule 2 ≡ true) × (are_alike base is_copy b a ≡ true)
  second_rule file = elim dirs_or [
    | inl dirs ↦ not_both (is_dir_row b) (first_of_both _ _ dirs) (ap is_dir_kind file)
    | inr files ↦ (first_of_both _ _ files, second_of_both _ _ files)
  ]

  pub may_kinds : is_dir_row b ≡ is_dir_row a
  may_kinds = elim dirs_or [
    | inl dirs ↦ first_of_both _ _ dirs ∙ sym (second_of_both _ _ dirs)
    | inr files ↦ (
        let alike = second_of_both _ _ files in
        ap is_dir_kind (file_is b.kind (first_of_both _ _ alike)) ∙ sym (ap is_dir_kind (file_is a.kind (first_of_both _ _ (second_of_both _ _ alike)))))
  ]

  pub may_files : b.kind ≡ File → (a.kind ≡ File) × (a.bytes ≡ b.bytes)
  may_files file =
      let kinds = second_of_both (is_file_kind b.kind) _ (second_rule file).1 in
      let new = second_of_both (is_file_kind a.kind) _ kinds in
      let free = second_of_both (not (is_some (base b.id))) _ new in
      let plain = second_of_both (not (is_some (base a.id))) _ free in
      let last = second_of_both (not (is_copy b.id)) _ plain in
      (file_is a.kind (first_of_both (is_file_kind a.kind) _ kinds), sym (bytes_same b.bytes a.bytes (first_of_both (bytes_eq b.bytes a.bytes) _ last)))

  -- and that file is no copy
  pub no_copy : b.kind ≡ File → is_copy b.id ≡ true → ⊥
  no_copy file copy =
      let kinds = second_of_both (is_file_kind b.kind) _ (second_rule file).1 in
      let new = second_of_both (is_file_kind a.kind) _ kinds in
      let free = second_of_both (not (is_some (base b.id))) _ new in
      let plain = second_of_both (not (is_some (base a.id))) _ free in
      not_both (is_copy b.id) copy (not_was (is_copy b.id) (first_of_both (not (is_copy b.id)) _ plain))
