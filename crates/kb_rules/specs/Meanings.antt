-- The words of the rules, as they are meant: what holds of places, of what is kept and joined, and of names given.
use Rattle.std.specs.Prelude.{◌≡◌, ℕ, ◌≤◌, ◌<◌, Bool, true, false, List, length, Some, None}
use Rattle.std.specs.List.{list_any}
use Rattle.std.specs.Str.{bytes_eq}
use Rattle.kb_name.specs.declared.ids.NodeId.{NodeId}
use Rattle.kb_name.specs.Nodes.{root}
use Rattle.kb_ops.specs.declared.rows.Row.{Row}
use Rattle.kb_ops.specs.Rows.{meets}
use Rattle.kb_rules.specs.Three.{Three, stays}
use Rattle.kb_rules.specs.Places.{seat, is_kept}
use Rattle.kb_rules.specs.Joins.{joined, into}
use Rattle.kb_rules.specs.Names.{Given, taken, free_name}

-- the walk of parents from each place reaches the root
abbrev pub PlacesReach : Three → Type 0
PlacesReach t = (q : NodeId) (r : Row) → seat t q ≡ Some r → meets (seat t) root (length t.ids) q ≡ true

-- what is kept is the least set that has what stays and, with each of its rows, the parent
pub record KeptIsLeast (t : Three) : Type 0 where
  pub has : (q : NodeId) → stays t q ≡ true → is_kept t q ≡ true
  pub parents : (q : NodeId) (r : Row) → seat t q ≡ Some r → is_kept t q ≡ true → is_kept t r.parent ≡ true
  pub least : (p : NodeId → Bool) → ((q : NodeId) → stays t q ≡ true → p q ≡ true) → ((q : NodeId) (r : Row) → seat t q ≡ Some r → p q ≡ true → p r.parent ≡ true)
      → (q : NodeId) → is_kept t q ≡ true → p q ≡ true

-- b and a are kept, merged lacks b and ours lacks a, they may become one and have one name, and a's parent is what b's parent is or is joined to
pub record AreOne (t : Three) (b a : NodeId) : Type 0 where
  pub kept : is_kept t b ≡ true
  pub new : t.merged b ≡ None
  pub row : Row
  pub found : t.ours b ≡ Some row
  pub host_kept : is_kept t a ≡ true
  pub host_new : t.ours a ≡ None
  pub host : Row
  pub host_found : t.merged a ≡ Some host
  pub may : t.may row host ≡ true
  pub parent : host.parent ≡ into t row.parent
  pub name : host.name ≡ row.name

-- b is joined to a exactly there
pub record JoinsAreOne (t : Three) : Type 0 where
  pub only : (b a : NodeId) → joined t b ≡ Some a → AreOne t b a
  pub all : (b a : NodeId) → AreOne t b a → joined t b ≡ Some a

-- the conflicted name of the least number that isn't taken
pub record IsLeastFree (conflicted : ℕ → List ℕ) (names : List (List ℕ)) (name : List ℕ) : Type 0 where
  pub k : ℕ
  pub from_one : 1 ≤ k
  pub is : name ≡ conflicted k
  pub free : list_any (bytes_eq name) names ≡ false
  pub least : (j : ℕ) → 1 ≤ j → j < k → list_any (bytes_eq (conflicted j)) names ≡ true

-- each name that is given is the least free one, beside those that rows have in the directory and those given there before
abbrev pub NamesAreLeast : Three → Type 0
NamesAreLeast t = (gs : List Given) (r : Row) → length gs ≤ length t.ids → IsLeastFree (t.conflicted r.name) (taken t gs r.parent) (free_name t gs r)

-- the words of the rules are as they are meant
pub record Meanings (t : Three) : Type 0 where
  pub places : PlacesReach t
  pub kept : KeptIsLeast t
  pub joined : JoinsAreOne t
  pub names : NamesAreLeast t
