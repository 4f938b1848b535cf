-- The ids of a tree's rows, each once, and each before those of its children.
use Rattle.std.specs.Prelude.{◌≡◌, ◌≢◌, List, [], ◌∷◌, ◌++◌, IsSome, Some}
use Rattle.std.specs.List.{AllByRecursion}
use Rattle.kb_name.specs.declared.ids.NodeId.{NodeId}
use Rattle.kb_name.specs.Nodes.{root}
use Rattle.kb_ops.specs.declared.rows.Row.{Row}
use Rattle.kb_ops.specs.Rows.{Look}
use Rattle.kb_ops.specs.Trees.{Tree}
use Rattle.kb_tree.specs.Children.{IsChildren}
use Rattle.kb_snap.specs.Holds.{IsOneOf}

-- the row's children are among the ids
abbrev pub HasChildren : Look → NodeId → List NodeId → Type 0
HasChildren look q ids = (k : NodeId) (r : Row) → look k ≡ Some r → k ≢ root → r.parent ≡ q → IsOneOf k ids

-- behind each id stand its children
abbrev pub AreAbove : Look → List NodeId → Type 0
AreAbove look [] = Unit {0}
AreAbove look (q ∷ ids) = HasChildren look q ids × AreAbove look ids

-- each id stands once
abbrev pub AreApart : List NodeId → Type 0
AreApart [] = Unit {0}
AreApart (q ∷ ids) = (IsOneOf q ids → ⊥) × AreApart ids

pub record IsTopDown (look : Look) (ids : List NodeId) : Type 0 where
  pub first : (rest : List NodeId) × (ids ≡ root ∷ rest)
  pub there : AllByRecursion (λ q. IsSome (look q)) ids
  pub above : AreAbove look ids
  pub apart : AreApart ids

-- the ids of the row's children stand behind those that were there
abbrev pub AddsChildren : Tree → NodeId → List NodeId → List NodeId → Type 0
AddsChildren t q old new = (added : List NodeId) × ((new ≡ old ++ added) × IsChildren t q added)
