-- From what is known of the revisions so far to what the audit tells.
use Rattle.std.proofs.Common.{◌≡◌, ℕ, suc, ◌+◌, ◌-◌, ◌^◌, ◌≤◌, ◌<◌, Bool, true, false, cond, List, [], ◌∷◌, ◌++◌, length, map, take, drop, get_or, replicate, Option, Some, None, Result, Ok, Err, refl, sym, ap, subst, ◌∙◌, arith, length-take}
use Rattle.std.specs.Prelude.{reverse, slice_get, slice_index, Vec, IsSome, nat_le, ◌&&◌}
use Rattle.std.proofs.lemmas.Bool.Decides.{nat_tests}
use Rattle.kb_keys.specs.Rings as rings
use Rattle.kb_keys.specs.Rings.{key_at}
use Rattle.kb_keys.specs.Secrets.{folder_key}
use Rattle.kb_audit.specs.declared.knowing.Root.{Root}
use Rattle.std.specs.declared.alloc.Global.{Global}
use Rattle.std.proofs.lemmas.List.{take_more, map-append, reverse-append, length-reverse, take_all, length-map}
use Rattle.std.proofs.Math.Seq.{drop-cons}
use Rattle.kb_ops.specs.Trees.{start}
use Rattle.kb_keys.specs.declared.halves.Half.{Half}
use Rattle.kb_files.specs.Opens.{Blocks}
use Rattle.kb_snap.proofs.Lists.{cut}
use Rattle.kb_folder.specs.Chains.{Plain, Back, Names, role_in}
use Rattle.kb_folder.specs.Stands.{Revisions, Stands, PolicyStands, HalvesStand, keys_to}
use Rattle.kb_folder.proofs.Beginning.{empty_stands}
use Rattle.kb_folder.proofs.Standing.{stands_length}
use Rattle.kb_folder.proofs.Readings.{chain_of}
use Rattle.kb_audit.proofs.Members.{members_few}
use Rattle.kb_audit.specs.declared.faults.AuditWhy.{AuditWhy}
use Rattle.kb_audit.specs.declared.faults.AuditWhy.TheVariants as why
use Rattle.kb_audit.specs.declared.faults.Bad.{Bad}
use Rattle.kb_audit.specs.declared.faults.Bad.TheVariants as bad
use Rattle.kb_audit.specs.declared.knowing.Known.{Known}
use Rattle.kb_audit.specs.Audits.{IsBad, IsBadAt, HasBadHalves, IsWhole, TellsAt, Audits}
use Rattle.kb_audit.specs.Halving.{HalvesMeet}
use Rattle.kb_audit.specs.Taking.{KnowsAll, IsNew, Goes, IsRefused}
use Rattle.kb_audit.specs.Told.{told}
use Rattle.kb_audit.proofs.Halved.{meets_stand, stand_meets}

abbrev pub Texts : Type 0
Texts = List (Vec ℕ Global)

abbrev pub text : Vec ℕ Global → List ℕ
text b = b.items

-- the bytes so far, the last first
abbrev pub so_far : Texts → ℕ → Revisions
so_far xs i = reverse (map text (take i xs))

pub so_far_more : (xs : Texts) (i : ℕ) (x : Vec ℕ Global) → i < length xs → x ≡ get_or xs i x → so_far xs (i + 1) ≡ text x ∷ so_far xs i
so_far_more xs i x lt is =
    ap (λ (l : Texts). reverse (map text l)) (take_more xs i x lt) ∙ ap reverse (map-append text (take i xs) (get_or xs i x ∷ []))
    ∙ reverse-append (map text (take i xs)) (text (get_or xs i x) ∷ []) ∙ ap (λ z. text z ∷ so_far xs i) (sym is)

all_split : (xs : Texts) (i : ℕ) (x : Vec ℕ Global) → i < length xs → x ≡ get_or xs i x → map text xs ≡ map text (take i xs) ++ text x ∷ map text (drop (suc i) xs)
all_split xs i x lt is =
    ap (map text) (cut i xs ∙ ap (λ l. take i xs ++ l) (drop-cons xs i x lt)) ∙ map-append text (take i xs) (get_or xs i x ∷ drop (suc i) xs) ∙ ap (λ z. map text (take i xs) ++ text z ∷ map text (drop (suc i) xs)) (sym is)

size_so_far : (xs : Texts) (i : ℕ) → i ≤ length xs → length (map text (take i xs)) ≡ i
size_so_far xs i le = length-map (take i xs) text ∙ (let h : length (take i xs) ≡ i = simp length-take (omega arith) in h)

module _ (sealed signed : List ℕ → List ℕ → List ℕ) (hashed : List ℕ → List ℕ) (seed : List ℕ) (names : Names) (registered : ℕ) (blocks : Blocks) where
  abbrev Known_of : Revisions → Back → Known → Type 0
  Known_of bs c k = KnowsAll sealed signed hashed seed names registered blocks bs c k

  pub begins : (k : Known) → IsNew registered k → Known_of [] [] k
  begins k new =
      let empty = empty_stands sealed signed hashed seed names 1 (omega arith) (omega arith) in
      record {
        stands = tt;
        chain = record {
          length_is = new.length_is;
          head = new.head;
          policy = subst (PolicyStands []) (sym new.policy) empty.policy;
          last = λ d. ap (λ (l : List ℕ). slice_index l d) new.last ∙ empty.last d;
          registered_is = new.registered_is;
        };
        tree = new.tree;
        ring = λ i. by_ring k i new.ring;
        roots = record { size = ap length new.roots; each = λ i root at. absurd (none_at k i root new.roots at) };
      }
    where
      by_ring : (k : Known) (i : ℕ) → k.ring ≡ [] → key_at k.ring i ≡ keys_to seed 0 i
      by_ring k i e = ap (λ (r : rings.Keys). key_at r i) e ∙ no_key i
        where
          no_key : (i : ℕ) → None ≡ keys_to seed 0 i
          no_key i = elim (nat_le 1 i && nat_le i 0) as (λ b. (nat_le 1 i && nat_le i 0) ≡ b → None ≡ cond b (Some (folder_key seed i)) None) [ true ↦ λ t. absurd (never i t) | false ↦ λ t. refl ] refl
            where
              never : (i : ℕ) → (nat_le 1 i && nat_le i 0) ≡ true → ⊥
              never i t = grind (arith, nat_tests)

      none_at : (k : Known) (i : ℕ) (root : Root) → k.roots.items ≡ [] → slice_get k.roots.items i ≡ Some root → ⊥
      none_at k i root e at = let no : None ≡ Some root = ap (λ (l : List Root). slice_get l i) (sym e) ∙ at in cc

  module _ (xs : Texts) (halves : List Half) (i : ℕ) (c : Back) (k : Known) (known : Known_of (so_far xs i) c k) (le : i ≤ length xs) where
    pub length_is : k.state.length ≡ i
    length_is = known.chain.length_is ∙ sym (stands_length sealed signed hashed seed names registered blocks (so_far xs i) c known.stands) ∙ length-reverse (map text (take i xs)) ∙ size_so_far xs i le

    -- a refused revision is the first bad one
    pub refused : (x : Vec ℕ Global) → i < length xs → x ≡ get_or xs i x → (number : ℕ) → number ≡ k.state.length + 1 → (e : Bad) → IsRefused sealed signed hashed seed names registered blocks (so_far xs i) c (text x) e
        → Audits sealed signed hashed seed names registered blocks (map text xs) halves (Err (told number e))
    refused x lt is number n bad.Memory h = tt
    refused x lt is number n (bad.Is w) h = by w h
      where
        at : (w : AuditWhy) → IsBad sealed signed hashed seed names registered blocks w (so_far xs i) c (text x) → IsBadAt sealed signed hashed seed names registered blocks (map text xs) number w
        at w h = record {
          front = map text (take i xs);
          bytes = text x;
          rest = map text (drop (suc i) xs);
          split = all_split xs i x lt is;
          place = n ∙ ap (λ m. m + 1) (length_is ∙ sym (size_so_far xs i le));
          chain = c;
          stands = known.stands;
          bad = h;
        }

        by : (w : AuditWhy) → IsBad sealed signed hashed seed names registered blocks w (so_far xs i) c (text x) → TellsAt sealed signed hashed seed names registered blocks (map text xs) halves number w
        by why.Form h = at why.Form h
        by why.Number h = at why.Number h
        by why.Previous h = at why.Previous h
        by why.Writer h = at why.Writer h
        by why.Signature h = at why.Signature h
        by why.Seq h = at why.Seq h
        by why.Fit h = at why.Fit h
        by why.Private h = at why.Private h
        by why.Operation h = at why.Operation h
        by why.Blocks h = at why.Blocks h
        by why.Halves h = absurd h

  module _ (top : registered ≤ 32) (xs : Texts) (halves : List Half) (i : ℕ) (c : Back) (k : Known) (known : Known_of (so_far xs i) c k) (all : i ≡ length xs) where
    whole_list : so_far xs i ≡ reverse (map text xs)
    whole_list = ap (λ (l : Texts). reverse (map text l)) (take_all i xs (omega (arith, all)))

    stands : Stands sealed signed hashed seed names registered blocks (reverse (map text xs)) c
    stands = subst (λ bs. Stands sealed signed hashed seed names registered blocks bs c) whole_list known.stands

    count : k.state.length ≡ length (map text xs)
    count = length_is xs halves i c k known (omega (arith, all)) ∙ all ∙ sym (length-map xs text)

    few : (d : ℕ) → IsSome (role_in c d) → (1 ≤ d) × (d ≤ 32)
    few = members_few registered top c (chain_of sealed signed hashed seed names registered blocks (so_far xs i) c known.stands)

    pub not_whole : (HalvesMeet seed k.state.policy halves → ⊥) → HasBadHalves sealed signed hashed seed names registered blocks (map text xs) halves k.state.length
    not_whole none = record { place = count; chain = c; stands = stands; bad = λ h. none (stand_meets seed c k.state.policy halves known.chain.policy few h) }

    pub whole : HalvesMeet seed k.state.policy halves → (k.state.length ≡ length (map text xs)) × IsWhole sealed signed hashed seed names registered blocks (map text xs) halves
    whole h = (count, record { chain = c; stands = stands; halves_stand = meets_stand seed c k.state.policy halves known.chain.policy few h })
