-- What a table holds: its tree, and for how many more rows it has room.
use Rattle.std.specs.Prelude.{◌≡◌, ℕ, true, List, refl}
use Rattle.std.specs.Coded.{Coded, code_by, coded×, coded_ℕ}
use Rattle.kb_ops.specs.Trees.{Tree, IsWellFormed}
use Rattle.kb_ops.specs.Codes.{coded_tree}
use Rattle.kb_ops.specs.Lists.{rises, tree_of}
use Rattle.kb_ops.specs.declared.rows.Row.{Row}

pub record Held : Type 0 where
  pub tree : Tree
  pub room : ℕ

abbrev pub coded_held : Coded Held
coded_held = code_by (Tree × ℕ) (coded× coded_tree coded_ℕ) (λ h. (h.tree, h.room)) (λ p. record { tree = p.0; room = p.1 }) (λ _. refl)

-- rows in the order of their ids, of a well formed tree
pub record AreKept (rows : List Row) : Type 0 where
  pub rise : rises rows ≡ true
  pub formed : IsWellFormed (tree_of rows)
