-- The lines of a folder's revisions are those of its chain.
use Rattle.std.proofs.Common.{◌≡◌, ℕ, zero, suc, ◌+◌, ◌-◌, ◌<◌, true, false, Bool, cond, List, [], ◌∷◌, ◌++◌, length, reverse, Some, inl, inr, refl, sym, ap, ◌∙◌, subst, arith}
use Rattle.std.specs.Prelude.{slice_get, nat_eq}
use Rattle.std.proofs.lemmas.Bool.{cases_lt}
use Rattle.std.proofs.lemmas.List.{reverse-append, length-reverse}
use Rattle.kb_ops.specs.declared.rows.Op.{Op}
use Rattle.kb_keys.specs.declared.policy.Action.{Action}
use Rattle.kb_keys.specs.declared.policy.Action.TheVariants as action
use Rattle.kb_lines.specs.declared.lines.Line.{Line}
use Rattle.kb_lines.specs.declared.lines.Line.TheVariants as line
use Rattle.kb_lines.specs.declared.lines.Did.TheVariants as did
use Rattle.kb_chain.specs.declared.revisions.Revision.{Revision}
use Rattle.kb_chain.specs.declared.revisions.RevisionKind.{RevisionKind}
use Rattle.kb_chain.specs.declared.revisions.RevisionKind.TheVariants as kind
use Rattle.kb_chain.specs.declared.bundles.BundlePart.{BundlePart}
use Rattle.kb_chain.specs.Revisions.{revision_text, IsRevision}
use Rattle.kb_snap.specs.Chains as plain
use Rattle.kb_snap.specs.Chains.{Deed, Founded, Stepped, Merged, Rekeyed, Chain, seq_of_last}
use Rattle.kb_snap.specs.Lawful.{CountsFrom}
use Rattle.kb_snap.specs.Members.{IsNamed}
use Rattle.kb_folder.specs.Chains.{Names, Back, Place, places_of}
use Rattle.kb_folder.specs.Stands.{Revisions, Stands, Spells, HaveSeqs, kind_of, bundle_for}
use Rattle.kb_files.specs.Opens.{Blocks}
use Rattle.kb_world.specs.Listing.{IsWithin, IsSpokenOf, HasNames, revision_did, kind_did, bundle_did, rekey_did, IsSpelled, AreDeclaredBy}
use Rattle.kb_world.specs.Printed.{deed_did, seq_of_first, revision_lines}

-- ---- lists

get_push : {A : Type 0} (xs : List A) (x : A) → slice_get (xs ++ x ∷ []) (length xs) ≡ Some x
get_push [] x = refl
get_push (y ∷ xs) x = get_push xs x

get_front : {A : Type 0} (xs : List A) (x y : A) (i : ℕ) → i < length xs → slice_get (xs ++ x ∷ []) i ≡ Some y → slice_get xs i ≡ Some y
get_front [] x y i lt e = absurd (omega (arith, lt))
get_front (z ∷ xs) x y zero lt e = e
get_front (z ∷ xs) x y (suc i) lt e = get_front xs x y i (omega (arith, lt)) e

front_get : {A : Type 0} (xs : List A) (x y : A) (i : ℕ) → slice_get xs i ≡ Some y → slice_get (xs ++ x ∷ []) i ≡ Some y
front_get [] x y i e = cc
front_get (z ∷ xs) x y zero e = e
front_get (z ∷ xs) x y (suc i) e = front_get xs x y i e

get_last : {A : Type 0} (xs : List A) (x y : A) (i : ℕ) → i ≡ length xs → slice_get (xs ++ x ∷ []) i ≡ Some y → x ≡ y
get_last xs x y i is e = let here : Some x ≡ Some y = sym (get_push xs x) ∙ ap (slice_get (xs ++ x ∷ [])) (sym is) ∙ e in cc

at_most : {A : Type 0} (xs : List A) (x y : A) (i : ℕ) → slice_get (xs ++ x ∷ []) i ≡ Some y → i < length xs + 1
at_most [] x y zero e = omega arith
at_most [] x y (suc i) e = cc
at_most (z ∷ xs) x y zero e = omega arith
at_most (z ∷ xs) x y (suc i) e = let lt = at_most xs x y i e in omega (arith, lt)

-- ---- one revision

-- the first and the last seq of operations
pub seqs_are : (first last : ℕ) (ops : List Op) → HaveSeqs first last ops → (first ≡ seq_of_first ops) × (last ≡ seq_of_last ops)
seqs_are first last [] h = (h.0, h.1)
seqs_are first last (op ∷ ops) h = (sym h.0.0, end first op ops h.0 h.1) where
  end : (first : ℕ) (op : Op) (ops : List Op) → CountsFrom first (op ∷ ops) → first + length (op ∷ ops) ≡ last + 1 → last ≡ seq_of_last (op ∷ ops)
  end first op [] counts size = let is = counts.0 in omega (arith, is, size)
  end first op (next ∷ ops) counts size = end (first + 1) next ops counts.1 (omega (arith, size))

module _ (sealed : List ℕ → List ℕ → List ℕ) (seed : List ℕ) where
  -- what a revision is shown as is what was done
  pub did_is : (names : Names) (r : Revision) (writer : ℕ) (deed : Deed) (ps : List Place) → r.writer ≡ writer → r.kind ≡ kind_of deed → HaveSeqs r.first r.last (plain.ops_in deed) → r.bundle ≡ bundle_for sealed seed writer deed ps → revision_did names r ≡ deed_did names writer deed
  did_is names r writer Founded ps by kind_is seqs bundle = ap (kind_did names r) kind_is ∙ ap (λ w. did.Found (names w)) by
  did_is names r writer (Stepped []) ps by kind_is seqs bundle = ap (kind_did names r) kind_is ∙ (λ i. did.Step (names (by i)) ((seqs_are r.first r.last [] seqs).1 i))
  did_is names r writer (Stepped (op ∷ [])) ps by kind_is seqs bundle = ap (kind_did names r) kind_is ∙ (λ i. did.Step (names (by i)) ((seqs_are r.first r.last (op ∷ []) seqs).1 i))
  did_is names r writer (Stepped (op ∷ next ∷ ops)) ps by kind_is seqs bundle = ap (kind_did names r) kind_is ∙ (λ i. did.Step (names (by i)) ((seqs_are r.first r.last (op ∷ next ∷ ops) seqs).1 i))
  did_is names r writer (Merged base rule ops) ps by kind_is seqs bundle = ap (kind_did names r) kind_is ∙ merged (nat_eq rule 1) ∙ (λ i. did.Merge (names (by i)) ((seqs_are r.first r.last ops seqs).0 i) ((seqs_are r.first r.last ops seqs).1 i)) where
    merged : (b : Bool) → kind_did names r (cond b kind.Merge kind.Join) ≡ did.Merge (names r.writer) r.first r.last
    merged true = refl
    merged false = refl
  did_is names r writer (Rekeyed act who) ps by kind_is seqs bundle = ap (kind_did names r) kind_is ∙ ap (bundle_did names r.writer) bundle ∙ ap (λ w. rekey_did (names w) (names who) act) by ∙ rekeyed act where
    rekeyed : (act : Action) → rekey_did (names writer) (names who) act ≡ deed_did names writer (Rekeyed act who)
    rekeyed action.Found = refl
    rekeyed action.GrantWriter = refl
    rekeyed action.GrantReader = refl
    rekeyed action.Revoke = refl

  -- and speaks of declared devices
  pub spoken_of : (n : ℕ) (r : Revision) (writer : ℕ) (deed : Deed) (ps : List Place) → r.kind ≡ kind_of deed → r.bundle ≡ bundle_for sealed seed writer deed ps → IsNamed n deed → IsSpokenOf n r.kind r.bundle
  spoken_of n r writer Founded ps kind_is bundle named = subst (λ k. IsSpokenOf n k r.bundle) (sym kind_is) tt
  spoken_of n r writer (Stepped []) ps kind_is bundle named = subst (λ k. IsSpokenOf n k r.bundle) (sym kind_is) tt
  spoken_of n r writer (Stepped (op ∷ [])) ps kind_is bundle named = subst (λ k. IsSpokenOf n k r.bundle) (sym kind_is) tt
  spoken_of n r writer (Stepped (op ∷ next ∷ ops)) ps kind_is bundle named = subst (λ k. IsSpokenOf n k r.bundle) (sym kind_is) tt
  spoken_of n r writer (Merged base rule ops) ps kind_is bundle named = subst (λ k. IsSpokenOf n k r.bundle) (sym kind_is) (merged (nat_eq rule 1)) where
    merged : (b : Bool) → IsSpokenOf n (cond b kind.Merge kind.Join) r.bundle
    merged true = tt
    merged false = tt
  spoken_of n r writer (Rekeyed act who) ps kind_is bundle named = subst (λ k. IsSpokenOf n k r.bundle) (sym kind_is) (subst (IsSpokenOf n kind.Rekey) (sym bundle) named)

-- ---- the revisions of a folder

-- the bytes of a revision at a place, and what they spell
pub record Told (sealed : List ℕ → List ℕ → List ℕ) (seed bytes : List ℕ) (x : plain.Revision) (i : ℕ) : Type 0 where
  pub revision : Revision
  pub is : IsRevision revision
  pub spelled : bytes ≡ revision_text revision
  pub number : revision.number ≡ i + 1
  pub kind_is : revision.kind ≡ kind_of x.deed
  pub writer : revision.writer ≡ x.writer
  pub seqs : HaveSeqs revision.first revision.last (plain.ops_in x.deed)
  pub places : List Place
  pub bundle : revision.bundle ≡ bundle_for sealed seed x.writer x.deed places

module _ (sealed signed : List ℕ → List ℕ → List ℕ) (hashed : List ℕ → List ℕ) (seed : List ℕ) (names : Names) (registered : ℕ) (blocks : Blocks) where
  pub as_many : (bs : Revisions) (c : Back) → Stands sealed signed hashed seed names registered blocks bs c → length bs ≡ length c
  as_many [] [] h = refl
  as_many [] (x ∷ c) h = absurd h
  as_many (b ∷ bs) [] h = absurd h
  as_many (b ∷ bs) (x ∷ c) h = ap suc (as_many bs c h.0)

  told : (b : List ℕ) (bs : Revisions) (c : Back) (x : plain.Revision) (i : ℕ) → Spells sealed signed seed names bs c b x → i ≡ length c → Told sealed seed b x i
  told b bs c x i h is = record { revision = h.revision; is = h.is; spelled = h.spelled; number = h.number ∙ ap (λ n. n + 1) (sym is); kind_is = h.kind; writer = h.writer; seqs = h.seqs; places = places_of (x ∷ c); bundle = h.bundle }

  pub each_told : (bs : Revisions) (c : Back) → Stands sealed signed hashed seed names registered blocks bs c → (i : ℕ) (y : plain.Revision) → slice_get (reverse c) i ≡ Some y → (b : List ℕ) × (slice_get (reverse bs) i ≡ Some b) × Told sealed seed b y i
  each_told [] [] h i y e = cc
  each_told [] (x ∷ c) h i y e = absurd h
  each_told (b ∷ bs) [] h i y e = absurd h
  each_told (b ∷ bs) (x ∷ c) h i y e =
      let at : slice_get (reverse c ++ x ∷ []) i ≡ Some y = ap (λ l. slice_get l i) (sym (reverse-append (x ∷ []) c)) ∙ e in
      elim (cases_lt i (length (reverse c))) [
        | inl lt ↦ (
            let r = each_told bs c h.0 i y (get_front (reverse c) x y i lt at) in
            (r.0, ap (λ l. slice_get l i) (reverse-append (b ∷ []) bs) ∙ front_get (reverse bs) b r.0 i r.1, r.2))
        | inr past ↦ (
            let most = at_most (reverse c) x y i at in
            let top : i ≡ length (reverse c) = omega (arith, past, most) in
            let same : x ≡ y = get_last (reverse c) x y i top at in
            let size : i ≡ length (reverse bs) = top ∙ length-reverse c ∙ sym (as_many bs c h.0) ∙ sym (length-reverse bs) in (
              b,
              ap (λ l. slice_get l i) (reverse-append (b ∷ []) bs) ∙ ap (slice_get (reverse bs ++ b ∷ [])) size ∙ get_push (reverse bs) b,
              subst (λ z. Told sealed seed b z i) same (told b bs c x i h.1.spells (top ∙ length-reverse c)),
            ))
      ]

-- ---- lines

pub lines_push : (names : Names) (n : ℕ) (c : Chain) (x : plain.Revision) → revision_lines names n (c ++ x ∷ []) ≡ revision_lines names n c ++ line.Revision (n + length c) (deed_did names x.writer x.deed) ∷ []
lines_push names n [] x = let same : n ≡ n + 0 = omega arith in ap (λ k. line.Revision k (deed_did names x.writer x.deed) ∷ []) same
lines_push names n (y ∷ c) x =
    let same : n + 1 + length c ≡ n + suc (length c) = omega arith in
    ap (λ l. line.Revision n (deed_did names y.writer y.deed) ∷ l) (lines_push names (n + 1) c x ∙ ap (λ k. revision_lines names (n + 1) c ++ line.Revision k (deed_did names x.writer x.deed) ∷ []) same)
