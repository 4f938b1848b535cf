-- The first bytes of a file, as a part of a level.
use Rattle.std.proofs.Common.{◌≡◌, ℕ, suc, ◌+◌, ◌-◌, ◌<◌, ◌≤◌, inl, inr, min, List, [], ◌∷◌, length, take, get_or, ap, sym, subst, ◌∙◌, arith, Vec, Global}
use Rattle.std.proofs.lemmas.Bool.{cases_lt, cases_eq}
use Rattle.std.proofs.lemmas.Bool.Decides.{nat_tests}
use Rattle.std.proofs.lemmas.List.{take-take, take_all, length-take}
use Rattle.kb_blocks.specs.declared.pointer.Ptr.{Ptr}
use Rattle.kb_ops.specs.Trees.{patched}
use Rattle.kb_files.specs.Opens.{Blocks, Keys, Opens}
use Rattle.kb_files.specs.Files.{Vault, InOrder, HoldsAt, IsFileOf, AreFit, index_text, span, level_of}
use Rattle.kb_files.proofs.Kept.{IsWithin}
use Rattle.kb_files.proofs.ReadParts.{IsSingle}
use Rattle.kb_ranges.specs.Patches.{Covers, Patches, PatchesFile}
use Rattle.kb_ranges.proofs.Writes.{patched_front, length-patched}
use Rattle.kb_ranges.proofs.OldParts.{span_within, index_within}

pub level_spans : (size : ℕ) → size ≤ 16777216 → size ≤ span (level_of size)
level_spans size h = elim (cases_lt 4096 size) as (λ _. size ≤ span (level_of size)) [
  | inr leaf ↦ let e : level_of size ≡ 0 = grind (arith, nat_tests) in subst (λ n. size ≤ span n) (sym e) leaf
  | inl more ↦ elim (cases_lt 262144 size) as (λ _. size ≤ span (level_of size)) [
    | inr one ↦ let e : level_of size ≡ 1 = grind (arith, nat_tests) in subst (λ n. size ≤ span n) (sym e) one
    | inl two ↦ let e : level_of size ≡ 2 = grind (arith, nat_tests) in subst (λ n. size ≤ span n) (sym e) h
  ]
]

pub level_grows : (old new : ℕ) → level_of old < level_of new → old < new
level_grows old new h = elim (cases_lt old new) as (λ _. old < new) [
  | inl less ↦ less
  | inr most ↦ let below = level_within new old most in absurd (omega arith)
]
  where
    level_within : (a b : ℕ) → a ≤ b → level_of a ≤ level_of b
    level_within a b h = grind (arith, nat_tests)

pub level_some : (size : ℕ) → 0 < level_of size → 0 < size
level_some size h = level_grows 0 size h

pub level_small : (size : ℕ) → level_of size ≤ 2
level_small size = grind (arith, nat_tests)

-- the file's own block holds all of it
pub front_start : (vault : Vault) (p : Ptr) (size : ℕ) (old : List ℕ) → IsFileOf vault size p old → HoldsAt vault (level_of size) p (take (span (level_of size)) old)
front_start vault p size old h =
    let long = h.0 in
    let small = h.1.small in
    let held : HoldsAt vault (level_of size) p old = subst (λ n. HoldsAt vault (level_of n) p old) long h.1.held in
    let room = level_spans size (omega arith) in
    let all : length old ≤ span (level_of size) = omega arith in
    subst (HoldsAt vault (level_of size) p) (sym (take_all (span (level_of size)) old all)) held

first_held : (held : Vault) (each : ℕ) (ps : List Ptr) (d : Ptr) (bytes : List ℕ) → 0 < length ps → InOrder held each ps bytes → held (get_or ps 0 d) (take each bytes)
first_held held each [] d bytes some o = absurd (omega arith)
first_held held each (p ∷ ps) d bytes some o = o.1

-- the first block below holds the first bytes
pub front_below : (few store : Vault) → IsWithin few store → IsSingle store → (level n : ℕ) → level ≡ suc n → (p : Ptr) (ps : List Ptr) → AreFit ps → store p (index_text level ps) → (old : List ℕ) → HoldsAt few level p (take (span level) old) → (q d : Ptr) → q ≡ get_or ps 0 d → HoldsAt few n q (take (span n) old)
front_below few store within one level n e p ps fit text old held q d is =
    let order = index_within few store within one level n e p ps fit text (take (span level) old) held in
    let first = first_held (HoldsAt few n) (span n) ps d (take (span level) old) fit.some order in
    let wider : span n ≤ span level = subst (λ k. span n ≤ span k) (sym e) (omega arith) in
    subst (λ x. HoldsAt few n x (take (span n) old)) (sym is) (subst (HoldsAt few n (get_or ps 0 d)) (take-take (span n) (span level) old wider) first)

-- the block that was reached is the part
pub front_end : (vault : Vault) (level above size : ℕ) (p : Ptr) (old : List ℕ) → length old ≡ size → size ≤ 16777216 → above ≤ level → (above < level → above ≡ level_of size) → HoldsAt vault above p (take (span above) old)
    → (length (take (span level) old) ≡ min size (span level)) × HoldsAt vault above p (take (span level) old)
front_end vault level above size p old long small within own held = (
  length-take (span level) old ∙ omega arith,
  elim (cases_eq above level) as (λ _. HoldsAt vault above p (take (span level) old)) [
    | inl e ↦ subst (λ n. HoldsAt vault above p (take (span n) old)) e held
    | inr differs ↦
        let less : above < level = omega arith in
        let is = own less in
        let room = level_spans size small in
        let same = ap span is in
        let wider = span_within above level within in
        let all : length old ≤ span above = omega arith in
        let most : length old ≤ span level = omega arith in
        subst (HoldsAt vault above p) (take_all (span above) old all ∙ sym (take_all (span level) old most)) held
  ],
)

-- a write doesn't go past the first bytes
pub patched_first : (k : ℕ) (old : List ℕ) (offset : ℕ) (bytes : List ℕ) (size : ℕ) → offset + length bytes ≤ size → size ≤ k → patched (take k old) offset bytes size ≡ patched old offset bytes size
patched_first k old offset bytes size fits within =
    let long = length-patched old offset bytes size in
    let all : take k (patched old offset bytes size) ≡ patched old offset bytes size = take_all k (patched old offset bytes size) (omega arith) in
    let whole : take (k - offset) bytes ≡ bytes = take_all (k - offset) bytes (omega arith) in
    let least : min k size ≡ size = omega arith in
    sym (sym all ∙ patched_front k old offset bytes size ∙ ap (λ b. patched (take k old) offset b (min k size)) whole ∙ ap (patched (take k old) offset bytes) least)

pub covers_front : (size offset count long from to k : ℕ) → long ≤ k → Covers size offset count long from to → Covers (min size k) offset count long from to
covers_front size offset count long from to k h so = record {
  within = so.within;
  written = so.written;
  grown = λ more. let grown = so.grown (omega arith) in (omega (arith, grown.0), grown.1);
  cut = λ less. so.cut (omega arith);
}

-- what holds of the part holds of the file
pub patches_file : (hashed : List ℕ → List ℕ) (sealed : List ℕ → List ℕ → List ℕ) (store : Blocks) (ring : Keys) (size offset : ℕ) (bytes : List ℕ) (long : ℕ) (part : ℕ) (p : Ptr) (none made : List (Vec ℕ Global)) (old : List ℕ) → none ≡ [] → part ≡ min size (span (level_of long)) → offset + length bytes ≤ long → long ≤ 16777216
    → Patches hashed sealed store ring (level_of long) part offset bytes long none made p (take (span (level_of long)) old) → PatchesFile hashed sealed store ring size offset bytes long p made old
patches_file hashed sealed store ring size offset bytes long part p none made old empty is fits small so =
    let room = level_spans long small in
    let all = patched_first (span (level_of long)) old offset bytes long fits room in
    let size_is = length-patched old offset bytes long in
    record {
      holds = λ blocks keys a.
          let held = so.holds blocks keys a in
          record { small = omega arith; held = subst (λ n. HoldsAt (Opens sealed hashed blocks keys) n p (patched old offset bytes long)) (ap level_of (sym size_is)) (subst (HoldsAt (Opens sealed hashed blocks keys) (level_of long) p) all held) };
      count = λ from to covers.
          let few = so.count from to (subst (λ n. Covers n offset (length bytes) long from to) (sym is) (covers_front size offset (length bytes) long from to (span (level_of long)) room covers)) in
          let start = ap length empty in
          omega arith;
    }

-- where going down ends
pub least_level : (level above own : ℕ) → above ≤ own → (above < own → level ≤ above) → above ≤ level → above ≡ min level own
least_level level above own within down low = elim (cases_lt above own) as (λ _. above ≡ min level own) [
  | inl less ↦ let h = down less in omega arith
  | inr most ↦ omega arith
]

pub own_level : (level above own : ℕ) → above ≤ own → (above < own → level ≤ above) → above < level → above ≡ own
own_level level above own within down low = elim (cases_lt above own) as (λ _. above ≡ own) [
  | inl less ↦ let h = down less in absurd (omega arith)
  | inr most ↦ omega arith
]

pub less_by_one : (level above own : ℕ) → level < above → level ≤ above - 1
less_by_one level above own h = omega arith
