-- What the revisions behind a known one did, as it is read.
use Rattle.std.proofs.Common.{◌≡◌, ℕ, zero, suc, ◌+◌, ◌≤◌, Bool, true, false, not, cond, List, [], ◌∷◌, ◌++◌, length, take, drop, append_assoc, Option, Some, None, is_some, refl, sym, ap, subst, ◌∙◌, arith}
use Rattle.std.specs.Prelude.{◌&&◌, reverse}
use Rattle.std.proofs.lemmas.List.{take_all, length-reverse}
use Rattle.kb_ops.specs.declared.rows.Op.{Op}
use Rattle.kb_keys.specs.Rings.{Keys, key_at}
use Rattle.kb_keys.specs.Secrets.{folder_key}
use Rattle.kb_chain.specs.declared.revisions.Revision.{Revision}
use Rattle.kb_chain.specs.Privates.{private_text, IsPrivate}
use Rattle.kb_snap.specs.Chains as machine
use Rattle.kb_snap.specs.Chains.{Deed, Founded, Stepped, Merged, Rekeyed, Chain, ops_in}
use Rattle.kb_snap.specs.Members.{generation_at, generation_of, generation_from}
use Rattle.kb_snap.proofs.Lists.{append_none}
use Rattle.kb_folder.specs.Chains.{Plain, Back, Names, generation_in}
use Rattle.kb_folder.specs.Stands.{Revisions, Spells, base_of}
use Rattle.kb_device.specs.Behind.{behind, all_ops, is_no_merge, are_plain}
use Rattle.kb_device.specs.Stands.{RingStands}
use Rattle.kb_device.proofs.Rings.{in_range}

-- ---- one revision

unset : (b : Bool) → not b ≡ false → b ≡ true
unset true e = refl
unset false e = cc

set : (b : Bool) → not b ≡ true → b ≡ false
set true e = cc
set false e = refl

-- a revision has a base exactly where it is a merge
pub based : (deed : Deed) (base : Option ℕ) (plain : Bool) → base ≡ base_of deed → is_some base ≡ not plain → plain ≡ is_no_merge deed
based Founded base plain is none = unset plain (sym none ∙ ap is_some is)
based (Stepped ops) base plain is none = unset plain (sym none ∙ ap is_some is)
based (Merged from rule ops) base plain is none = set plain (sym none ∙ ap is_some is)
based (Rekeyed action d) base plain is none = unset plain (sym none ∙ ap is_some is)

-- under a ring that goes on behind its generation
module _ (sealed signed : List ℕ → List ℕ → List ℕ) (seed : List ℕ) (names : Names) (bs : Revisions) (c : Back) (bytes : List ℕ) (x : Plain) (w : Spells sealed signed seed names bs c bytes x)
    (ring : Keys) (top : ℕ) (stands : RingStands seed top ring) (upto : generation_in (x ∷ c) ≤ top) (read : Revision) (read_is : read ≡ w.revision) where
  generation_is : read.generation ≡ generation_in (x ∷ c)
  generation_is = ap (λ (r : Revision). r.generation) read_is ∙ w.generation

  low : 1 ≤ read.generation
  low = subst (λ (r : Revision). 1 ≤ r.generation) (sym read_is) w.is.rules.generation.0

  high : read.generation ≤ top
  high = subst (λ n. n ≤ top) (sym generation_is) upto

  key_there : key_at ring read.generation ≡ Some (folder_key seed read.generation)
  key_there = stands read.generation ∙ ap (λ b. cond b (Some (folder_key seed read.generation)) None) (in_range read.generation top low high)

  pub no_key_there : None ≡ key_at ring read.generation → ⊥
  no_key_there e = let bad : None ≡ Some (folder_key seed read.generation) = e ∙ key_there in cc

  pub private_there : IsPrivate read.kind w.private
  private_there = subst (λ (r : Revision). IsPrivate r.kind w.private) (sym read_is) w.is_private

  pub opens_there : (key : List ℕ) → Some key ≡ key_at ring read.generation → read.private ≡ sealed key (private_text read.kind w.private)
  opens_there key is =
      let same : Some key ≡ Some (folder_key seed read.generation) = is ∙ key_there in
      let key_is : key ≡ folder_key seed read.generation = cc in
      subst (λ k. read.private ≡ sealed k (private_text read.kind w.private)) (sym key_is)
      (subst (λ (r : Revision). r.private ≡ sealed (folder_key seed r.generation) (private_text r.kind w.private)) (sym read_is) w.opens)

-- ---- one after another

-- what was read, and what the rest of the revisions did, is what all of them did
pub record AreRead (ops : List Op) (plain : Bool) (rest all : Chain) : Type 0 where
  pub ops_are : ops ++ all_ops rest ≡ all_ops all
  pub plain_is : (plain && are_plain rest) ≡ are_plain all

pub read_first : (known : ℕ) (l : Chain) → AreRead [] true (drop (known + 0) l) (drop known l)
read_first known l = let e : known + 0 ≡ known = omega arith in record { ops_are = ap (λ n. all_ops (drop n l)) e; plain_is = ap (λ n. are_plain (drop n l)) e }

and_assoc : (a b c : Bool) → ((a && b) && c) ≡ (a && (b && c))
and_assoc true b c = refl
and_assoc false b c = refl

pub read_next : (ops new : List Op) (plain now : Bool) (x : Plain) (rest all : Chain) → AreRead ops plain (x ∷ rest) all → new ≡ ops ++ ops_in x.deed → now ≡ (plain && is_no_merge x.deed) → AreRead new now rest all
read_next ops new plain now x rest all h more is = record {
  ops_are = ap (λ l. l ++ all_ops rest) more ∙ append_assoc ops (ops_in x.deed) (all_ops rest) ∙ h.ops_are;
  plain_is = ap (λ b. b && are_plain rest) is ∙ and_assoc plain (is_no_merge x.deed) (are_plain rest) ∙ h.plain_is;
}

none_left : (l : Chain) (n : ℕ) → length l ≤ n → drop n l ≡ []
none_left [] zero le = refl
none_left [] (suc n) le = refl
none_left (x ∷ l) zero le = absurd (omega (arith, le))
none_left (x ∷ l) (suc n) le = none_left l n (omega (arith, le))

and_true : (b : Bool) → (b && true) ≡ b
and_true true = refl
and_true false = refl

pub read_last : (ops : List Op) (plain : Bool) (c : Back) (at : ℕ) (all : Chain) → length c ≤ at → AreRead ops plain (drop at (reverse c)) all → (ops ≡ all_ops all) × (plain ≡ are_plain all)
read_last ops plain c at all le h =
    let none : drop at (reverse c) ≡ [] = none_left (reverse c) at (let e = length-reverse c in omega (arith, e, le)) in
    (sym (append_none ops) ∙ ap (λ l. ops ++ all_ops l) (sym none) ∙ h.ops_are, sym (and_true plain) ∙ ap (λ l. plain && are_plain l) (sym none) ∙ h.plain_is)

-- ---- up to the last revision

whole : (c : Chain) (n : ℕ) → n ≡ length c → take n c ≡ c
whole c n e = take_all n c (omega (arith, e))

pub last_generation : (c : Chain) (back : Back) (n generation : ℕ) → c ≡ reverse back → n ≡ length c → generation ≡ generation_at c n → generation ≡ generation_in back
last_generation c back n generation turned e is = is ∙ ap (generation_from 0) (whole c n e) ∙ ap generation_of turned

pub behind_last : (c : Chain) (back : Back) (known n : ℕ) → c ≡ reverse back → n ≡ length c → drop known (reverse back) ≡ behind c known n
behind_last c back known n turned e = ap (drop known) (sym turned ∙ sym (whole c n e))
