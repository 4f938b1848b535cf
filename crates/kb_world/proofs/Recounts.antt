-- The lines of a folder's chain, one revision after another.
use Rattle.std.proofs.Common.{◌≡◌, ◌⊎◌, ℕ, ◌+◌, ◌≤◌, ◌<◌, List, [], ◌∷◌, ◌++◌, length, take, reverse, Some, Err, inl, inr, sym, ap, ◌∙◌, subst, arith, add-one}
use Rattle.std.specs.Prelude.{slice_get}
use Rattle.std.specs.FinMap.{get}
use Rattle.std.proofs.Math.Seq.{take-suc}
use Rattle.std.proofs.lemmas.List.{length-reverse, length-take-le, take_all}
use Rattle.std.proofs.lemmas.Option.{get_or_from_slice_get}
use Rattle.kb_chain.specs.declared.faults.RevisionFault.{RevisionFault}
use Rattle.kb_chain.specs.declared.faults.RevisionFault.TheVariants.{BadRevision}
use Rattle.kb_chain.specs.declared.revisions.Revision.{Revision}
use Rattle.kb_chain.specs.declared.revisions.RevisionKind.TheVariants as kind
use Rattle.kb_chain.specs.Parses.{Decodes}
use Rattle.kb_chain.specs.Revisions.{revision_text, IsRevision}
use Rattle.kb_chain.proofs.InTurn.{once_revision}
use Rattle.kb_lines.specs.declared.lines.Line.{Line}
use Rattle.kb_lines.specs.declared.lines.Line.TheVariants as line
use Rattle.kb_lines.specs.declared.lines.Did.TheVariants as did
use Rattle.kb_snap.specs.Chains as plain
use Rattle.kb_snap.specs.Chains.{Chain}
use Rattle.kb_snap.specs.Members.{generation_of}
use Rattle.kb_snap.proofs.Lists.{get_there, member_at}
use Rattle.kb_folder.specs.Chains.{Names}
use Rattle.kb_folder.specs.Puts.{Held}
use Rattle.kb_folder.specs.Goes.{HasChain}
use Rattle.kb_world.specs.Listing.{IsWithin, HasNames, revision_did, kind_did, IsSpelled, AreDeclaredBy}
use Rattle.kb_world.specs.Printed.{deed_did, revision_lines}
use Rattle.kb_world.proofs.Listings.{Told, each_told, as_many, did_is, spoken_of, lines_push}

-- ---- one revision

pub step_did : (names : Names) (r : Revision) → (r.kind ≡ kind.Step) ⊎ (r.kind ≡ kind.Steps) → did.Step (names r.writer) r.last ≡ revision_did names r
step_did names r (inl e) = sym (ap (kind_did names r) e)
step_did names r (inr e) = sym (ap (kind_did names r) e)

pub merge_did : (names : Names) (r : Revision) → (r.kind ≡ kind.Merge) ⊎ (r.kind ≡ kind.Join) → did.Merge (names r.writer) r.first r.last ≡ revision_did names r
merge_did names r (inl e) = sym (ap (kind_did names r) e)
merge_did names r (inr e) = sym (ap (kind_did names r) e)

-- bytes spell one revision
pub same_spelled : (bytes : List ℕ) (r s : Revision) → IsRevision r → IsRevision s → bytes ≡ revision_text r → bytes ≡ revision_text s → r ≡ s
same_spelled bytes r s a b e f = (once_revision r s [] [] a b (ap (λ t. t ++ []) (sym e ∙ f))).0

-- bytes that spell one are read
pub not_refused : (n : ℕ) (bytes : List ℕ) (e : RevisionFault) → e ≡ BadRevision → Decodes {X = Revision} {Y = Revision} (λ r. r) revision_text IsRevision bytes (Err e) → IsSpelled n bytes → ⊥
not_refused n bytes e is h s =
    let never : Decodes {X = Revision} {Y = Revision} (λ r. r) revision_text IsRevision bytes (Err BadRevision) = subst (λ f. Decodes {X = Revision} {Y = Revision} (λ r. r) revision_text IsRevision bytes (Err f)) is h in
    never s.revision s.is s.spelled

pub named_as : (n : ℕ) (bytes : List ℕ) (r : Revision) → IsSpelled n bytes → IsRevision r → bytes ≡ revision_text r → HasNames n r
named_as n bytes r s is spelled = subst (HasNames n) (same_spelled bytes s.revision r s.is is s.spelled spelled) s.named

-- ---- one place of a chain

-- the lines up to a place, and the next
pub lines_more : (names : Names) (c : Chain) (i : ℕ) (x : plain.Revision) → slice_get c i ≡ Some x → revision_lines names 1 (take (i + 1) c) ≡ revision_lines names 1 (take i c) ++ line.Revision (i + 1) (deed_did names x.writer x.deed) ∷ []
lines_more names c i x at =
    let lt : i < length c = get_there c i x at in
    let more : take (i + 1) c ≡ take i c ++ x ∷ [] = ap (λ k. take k c) (add-one i) ∙ take-suc c i x lt ∙ ap (λ y. take i c ++ y ∷ []) (get_or_from_slice_get c i x x at) in
    let size : length (take i c) ≡ i = length-take-le i c (omega arith) in
    let number : 1 + length (take i c) ≡ i + 1 = omega arith in
    ap (revision_lines names 1) more ∙ lines_push names 1 (take i c) x ∙ ap (λ k. revision_lines names 1 (take i c) ++ line.Revision k (deed_did names x.writer x.deed) ∷ []) number

module _ (sealed signed : List ℕ → List ℕ → List ℕ) (hashed : List ℕ → List ℕ) (seed : List ℕ) (names : Names) (f : Held) (c : Chain) (has : HasChain sealed signed hashed seed names f c) where
  -- as many revisions as the chain has
  pub sizes : (length f.revisions ≡ length c) × (f.state.length ≡ length c)
  sizes =
      let many : length f.revisions ≡ length has.back = as_many sealed signed hashed seed names f.state.registered (get f.blocks) f.revisions has.back has.stands.stands in
      let turned : length c ≡ length has.back = ap length has.turned ∙ length-reverse has.back in
      (many ∙ sym turned, sym has.stands.sound.counted ∙ many ∙ sym turned)

  pub heads : (revisions generation : ℕ) → revisions ≡ f.state.length → generation ≡ f.state.policy.1 → line.Chain revisions generation ≡ line.Chain (length c) (generation_of c)
  heads revisions generation many last =
      let a : revisions ≡ length c = many ∙ sizes.1 in
      let b : generation ≡ generation_of c = last ∙ has.stands.policy.generation ∙ sym (ap generation_of has.turned) in
      (λ i. line.Chain (a i) (b i))

  -- what the bytes at a place tell
  pub told_at : (texts : List (List ℕ)) (i : ℕ) (bytes : List ℕ) → texts ≡ reverse f.revisions → slice_get texts i ≡ Some bytes → (x : plain.Revision) × (slice_get c i ≡ Some x) × Told sealed seed bytes x i
  told_at texts i bytes are at =
      let lt : i < length texts = get_there texts i bytes at in
      let size : length texts ≡ length c = ap length are ∙ length-reverse f.revisions ∙ sizes.0 in
      let here = member_at c i (omega arith) in
      let t = each_told sealed signed hashed seed names f.state.registered (get f.blocks) f.revisions has.back has.stands.stands i here.0 (ap (λ l. slice_get l i) (sym has.turned) ∙ here.1) in
      let both : Some t.0 ≡ Some bytes = sym t.1 ∙ ap (λ l. slice_get l i) (sym are) ∙ at in
      let same : t.0 ≡ bytes = cc in
      (here.0, here.1, subst (λ b. Told sealed seed b here.0 i) same t.2)

  -- they spell a revision that speaks of declared devices
  pub spelled_at : (n : ℕ) (texts : List (List ℕ)) (i : ℕ) (bytes : List ℕ) → texts ≡ reverse f.revisions → slice_get texts i ≡ Some bytes → AreDeclaredBy n c → IsSpelled n bytes
  spelled_at n texts i bytes are at declared =
      let t = told_at texts i bytes are at in
      let by = declared i t.0 t.1 in
      let r = t.2.revision in
      record {
        revision = r;
        is = t.2.is;
        spelled = t.2.spelled;
        named = (subst (IsWithin n) (sym t.2.writer) by.0, spoken_of sealed seed n r t.0.writer t.0.deed t.2.places t.2.kind_is t.2.bundle by.1);
      }

  -- and are shown as the chain's revision there
  pub next_line : (texts : List (List ℕ)) (i : ℕ) (bytes : List ℕ) → texts ≡ reverse f.revisions → slice_get texts i ≡ Some bytes → (l : Line) → ((r : Revision) → IsRevision r → bytes ≡ revision_text r → l ≡ line.Revision r.number (revision_did names r))
      → (head : Line) (old new : List Line) → old ≡ head ∷ revision_lines names 1 (take i c) → new ≡ old ++ l ∷ [] → new ≡ head ∷ revision_lines names 1 (take (i + 1) c)
  next_line texts i bytes are at l is head old new so pushed =
      let t = told_at texts i bytes are at in
      let r = t.2.revision in
      let shown : l ≡ line.Revision (i + 1) (deed_did names t.0.writer t.0.deed) =
      is r t.2.is t.2.spelled ∙ (λ j. line.Revision (t.2.number j) (did_is sealed seed names r t.0.writer t.0.deed t.2.places t.2.writer t.2.kind_is t.2.seqs t.2.bundle j)) in
      pushed ∙ (λ j. so j ++ shown j ∷ []) ∙ ap (λ ls. head ∷ ls) (sym (lines_more names c i t.0 t.1))

  pub all_lines : (texts : List (List ℕ)) (i : ℕ) → texts ≡ reverse f.revisions → length texts ≤ i → (head : Line) (lines : List Line) → lines ≡ head ∷ revision_lines names 1 (take i c) → lines ≡ head ∷ revision_lines names 1 c
  all_lines texts i are past head lines so =
      let size : length texts ≡ length c = ap length are ∙ length-reverse f.revisions ∙ sizes.0 in
      so ∙ ap (λ d. head ∷ revision_lines names 1 d) (take_all i c (omega arith))
