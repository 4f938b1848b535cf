-- How a directory's block is spelled, and what a pointer to a directory holds.
use Rattle.std.specs.Prelude.{◌≡◌, ℕ, ◌≤◌, ◌<◌, ◌^◌, Bool, true, not, ◌&&◌, nat_eq, List, [], ◌∷◌, ◌++◌, length, map, Option, Vec}
use Rattle.std.specs.declared.alloc.Global.{Global}
use Rattle.std.specs.List.{flat_map, find, AllByRecursion}
use Rattle.std.specs.Str.{bytes_eq}
use Rattle.std.specs.Ordering.{nat_cmp}
use Rattle.std.specs.Cmp.Lexicographic.{slice_cmp}
use Rattle.std.specs.declared.cmp.Ordering.TheVariants.{Less}
use Rattle.kb_wire.specs.Fields.{u8_text, u32_text, u64_text}
use Rattle.kb_name.specs.Names.{is_name}
use Rattle.kb_name.specs.Moments.{last_second}
use Rattle.kb_ops.specs.declared.values.Kind.{Kind}
use Rattle.kb_ops.specs.declared.values.Kind.TheVariants.{Dir, File, Link}
use Rattle.kb_ops.specs.Grammar.{node_text, name_text, kind_text, flag_text, IsNode}
use Rattle.kb_blocks.specs.declared.pointer.Ptr.{Ptr}
use Rattle.kb_files.specs.Files.{Vault, pointer, IsFit}
use Rattle.kb_dirs.specs.declared.entries.Entry.{Entry}

-- ---- spelling

-- name, node id, kind, exec, mtime, size, pointer
abbrev pub entry_text : Entry → List ℕ
entry_text e = name_text e.name ++ (node_text e.id ++ (kind_text e.kind ++ (flag_text e.exec ++ (u64_text e.mtime ++ (u32_text e.size ++ pointer e.ptr)))))

abbrev pub entries_text : List Entry → List ℕ
entries_text es = flat_map entry_text es

-- `D`, the number of entries, and the entries
abbrev pub dir_text : List Entry → List ℕ
dir_text es = u8_text 0x44 ++ (u64_text (length es) ++ entries_text es)

-- ---- which entries are spelled

-- a Dir's size is 0, and only a File is executable
abbrev pub is_plain : Kind → Bool → ℕ → Bool
is_plain Dir exec size = not exec && nat_eq size 0
is_plain File exec size = true
is_plain Link exec size = not exec

-- the rules that are more than room in the fields
pub record IsProper (e : Entry) : Type 0 where
  pub named : is_name e.name ≡ true
  pub plain : is_plain e.kind e.exec e.size ≡ true

-- the numbers have room in their fields, as the values of the program always do
pub record IsEntry (e : Entry) : Type 0 where
  pub node : IsNode e.id
  pub timed : e.mtime ≤ last_second
  pub sized : e.size < 2 ^ 32
  pub fit : IsFit e.ptr
  pub proper : IsProper e

-- in ascending byte order of names, each name once
abbrev pub AreOrdered : List Entry → Type 0
AreOrdered [] = Unit {0}
AreOrdered (e ∷ []) = Unit {0}
AreOrdered (e ∷ f ∷ es) = (slice_cmp nat_cmp e.name f.name ≡ Less) × AreOrdered (f ∷ es)

pub record AreProper (es : List Entry) : Type 0 where
  pub each : AllByRecursion IsProper es
  pub ordered : AreOrdered es

pub record AreEntries (es : List Entry) : Type 0 where
  pub few : length es < 2 ^ 64
  pub each : AllByRecursion IsEntry es
  pub ordered : AreOrdered es

-- ---- what a pointer holds

-- the one sealed block of these entries, and its pointer
pub record IsDirMade (sealed : List ℕ → List ℕ → List ℕ) (hashed : List ℕ → List ℕ) (key : List ℕ) (generation : ℕ) (es : List Entry) (ptr : Ptr) (made : List (Vec ℕ Global)) : Type 0 where
  pub block : map (λ (b : Vec ℕ Global). b.items) made ≡ sealed key (dir_text es) ∷ []
  pub id : ptr.id ≡ hashed (sealed key (dir_text es))
  pub under : ptr.generation ≡ generation

-- the pointer's block opens to the directory of these entries
abbrev pub HoldsDir : Vault → Ptr → List Entry → Type 0
HoldsDir vault p es = AreEntries es × vault p (dir_text es)

abbrev pub is_named : List ℕ → Entry → Bool
is_named name e = bytes_eq e.name name

abbrev pub entry_named : List ℕ → List Entry → Option Entry
entry_named name es = find (is_named name) es

-- the entry of the name in the directory that the pointer holds, or none
abbrev pub HoldsNamed : Vault → Ptr → List ℕ → Option Entry → Type 0
HoldsNamed vault p name found = (es : List Entry) × HoldsDir vault p es × (found ≡ entry_named name es)
