-- The laws of a merge of lists of rows, by what lists and stamps can be.
use Rattle.std.proofs.Common.{◌≡◌, ℕ, ◌+◌, ◌*◌, ◌^◌, ◌≤◌, ◌<◌, true, List, length, arith}
use Rattle.std.specs.FinMap as map
use Rattle.kb_name.specs.Names.{is_name, is_kept_name, is_device_name}
use Rattle.kb_name.specs.Moments.{last_second}
use Rattle.kb_name.proofs.Named.{named}
use Rattle.kb_name.proofs.Apart.{differ}
use Rattle.kb_ops.specs.declared.rows.Row.{Row}
use Rattle.kb_ops.specs.Lists.{rises, tree_of}
use Rattle.kb_ops.proofs.Lists.{len_of}
use Rattle.kb_rules.specs.declared.stamp.Stamp.{Stamp}
use Rattle.kb_rules.specs.Merge.{conflicted, three}
use Rattle.kb_rules.specs.Meanings.{Meanings}
use Rattle.kb_rules.specs.Meet.{Meet}
use Rattle.kb_rules.specs.Laws.{Laws}
use Rattle.kb_rules.proofs.Named.{or_second}
use Rattle.kb_rules.proofs.Copies.{IsNaming}
use Rattle.kb_rules.proofs.Lawful.{lawful}
use Rattle.kb_rules.proofs.Meant.{trees_meant}

-- a stamp's conflicted names are names, and differ
pub naming : (stamp : Stamp) → is_device_name stamp.name ≡ true → stamp.moment ≤ last_second → IsNaming (conflicted stamp)
unfolding conflicted
naming stamp device moment = record {
  named = λ name k one small is. named name stamp.name stamp.moment k (kept name is) device moment small;
  differ = λ name j k oj ok sj sk e. differ name stamp.name stamp.moment j k oj ok sj sk e;
}
  where
    kept : (name : List ℕ) → is_name name ≡ true → is_kept_name name ≡ true
    kept name is = or_second _ _ is

pub few_rows : (m u : List Row) → rises m ≡ true → rises u ≡ true → length m < 2 ^ 57 → length u < 2 ^ 57 → 4 * (map.len (tree_of m) + map.len (tree_of u)) < 2 ^ 63
few_rows m u hm hu lm lu = let a = len_of m hm in let b = len_of u hu in omega (arith, a, b, lm, lu)

pub listed_laws : (b m u : List Row) (stamp : Stamp) → rises m ≡ true → rises u ≡ true → length m < 2 ^ 57 → length u < 2 ^ 57 → is_device_name stamp.name ≡ true → stamp.moment ≤ last_second
    → Meet (tree_of b) (tree_of m) (tree_of u) stamp → Laws (tree_of b) (tree_of m) (tree_of u) stamp
listed_laws b m u stamp hm hu lm lu device moment meet = lawful (tree_of b) (tree_of m) (tree_of u) stamp meet (naming stamp device moment) (few_rows m u hm hu lm lu)

pub listed_meanings : (b m u : List Row) (stamp : Stamp) → rises m ≡ true → rises u ≡ true → length m < 2 ^ 57 → length u < 2 ^ 57 → is_device_name stamp.name ≡ true → stamp.moment ≤ last_second
    → Meet (tree_of b) (tree_of m) (tree_of u) stamp → Meanings (three (tree_of b) (tree_of m) (tree_of u) stamp)
listed_meanings b m u stamp hm hu lm lu device moment meet = trees_meant (tree_of b) (tree_of m) (tree_of u) stamp meet (naming stamp device moment) (few_rows m u hm hu lm lu)
