-- Revisions stand for one chain.
use Rattle.std.proofs.Common.{◌≡◌, ◌⊎◌, ℕ, zero, suc, ◌≤◌, inl, inr, arith, List, [], ◌∷◌, ◌++◌, Option, Some, None, refl, sym, ap, subst, ◌∙◌}
use Rattle.std.specs.Prelude.{reverse}
use Rattle.kb_keys.specs.declared.policy.Action.{Action}
use Rattle.kb_keys.specs.Secrets.{folder_key}
use Rattle.kb_files.specs.Opens.{Blocks}
use Rattle.kb_chain.specs.declared.revisions.RevisionKind.{RevisionKind}
use Rattle.kb_chain.specs.declared.revisions.RevisionKind.TheVariants.{Merge, Join}
use Rattle.kb_chain.specs.declared.bundles.BundlePart.{BundlePart}
use Rattle.kb_chain.specs.declared.revisions.Revision.{Revision}
use Rattle.kb_chain.specs.declared.privates.Private.{Private}
use Rattle.kb_chain.specs.Privates.{private_text, IsPrivate}
use Rattle.kb_chain.proofs.InTurn.{once_revision}
use Rattle.kb_chain.proofs.PrivateParts.{once_private}
use Rattle.kb_snap.specs.Chains.{Deed, Chain, ops_in}
use Rattle.kb_snap.specs.Lawful.{IsRule, FitsDeed}
use Rattle.kb_folder.specs.Chains.{Plain, Back, Names, Place}
use Rattle.kb_snap.specs.Chains.Deed.{Founded, Stepped, Merged, Rekeyed}
use Rattle.kb_folder.specs.Stands.{Stands, Spells, kind_of, merge_kind, base_of, bundle_for}

action_in : Action → Option BundlePart → Action
action_in a None = a
action_in a (Some p) = p.action

device_in : ℕ → Option BundlePart → ℕ
device_in d None = d
device_in d (Some p) = p.device

base_in : ℕ → Option ℕ → ℕ
base_in b None = b
base_in b (Some n) = n

apart : (a b : RevisionKind) → a ≡ b → RevisionKind
apart a b e = a

-- the rule of a merge is one of the two
abbrev IsRuled : Deed → Type 0
IsRuled (Merged base rule ops) = IsRule rule
IsRuled deed = Unit {0}

ruled : (c : Chain) (x : Plain) (deed : Deed) → FitsDeed c x deed → IsRuled deed
ruled c x (Merged base rule ops) fits = fits.ruled
ruled c x Founded fits = tt
ruled c x (Stepped ops) fits = tt
ruled c x (Rekeyed act who) fits = tt

one_of_two : (rule : ℕ) → IsRule rule → (rule ≡ 1) ⊎ (rule ≡ 2)
one_of_two zero is = (let low = is.0 in absurd (omega (arith, low)))
one_of_two (suc zero) is = inl (omega arith)
one_of_two (suc (suc zero)) is = inr (omega arith)
one_of_two (suc (suc (suc n))) is = (let top = is.1 in absurd (omega (arith, top)))

not_joined : Merge ≡ Join → ⊥
not_joined e = cc

-- the kind tells the rule
rule_told : (a b : ℕ) → IsRule a → IsRule b → merge_kind a ≡ merge_kind b → a ≡ b
rule_told a b p q e = elim (one_of_two a p) [
  | inl x ↦ elim (one_of_two b q) [ inl y ↦ x ∙ sym y | inr y ↦ absurd (not_joined (sym (ap merge_kind x) ∙ e ∙ ap merge_kind y)) ]
  | inr x ↦ elim (one_of_two b q) [ inl y ↦ absurd (not_joined (sym (ap merge_kind y) ∙ sym e ∙ ap merge_kind x)) | inr y ↦ x ∙ sym y ]
]

-- what was done is told by the kind, the bundle, the base and the operations
same_deed : (sealed : List ℕ → List ℕ → List ℕ) (seed : List ℕ) (w v : ℕ) (a b : Deed) (ps qs : List Place) → kind_of a ≡ kind_of b → bundle_for sealed seed w a ps ≡ bundle_for sealed seed v b qs → base_of a ≡ base_of b → ops_in a ≡ ops_in b → IsRuled a → IsRuled b → a ≡ b
unfolding action_in device_in base_in
same_deed sealed seed w v Founded Founded ps qs k t e o p q = refl
same_deed sealed seed w v Founded (Stepped more) ps qs k t e o p q = cc
same_deed sealed seed w v Founded (Merged base rule more) ps qs k t e o p q = cc
same_deed sealed seed w v Founded (Rekeyed act who) ps qs k t e o p q = cc
same_deed sealed seed w v (Stepped ops) Founded ps qs k t e o p q = cc
same_deed sealed seed w v (Stepped ops) (Stepped more) ps qs k t e o p q = ap (λ z. Stepped z) o
same_deed sealed seed w v (Stepped ops) (Merged base rule more) ps qs k t e o p q = cc
same_deed sealed seed w v (Stepped ops) (Rekeyed act who) ps qs k t e o p q = cc
same_deed sealed seed w v (Merged base rule ops) Founded ps qs k t e o p q = cc
same_deed sealed seed w v (Merged base rule ops) (Stepped more) ps qs k t e o p q = cc
same_deed sealed seed w v (Merged base rule ops) (Merged from law more) ps qs k t e o p q = let h : base ≡ from = ap (base_in base) e in let r = rule_told rule law p q k in λ i. Merged (h i) (r i) (o i)
same_deed sealed seed w v (Merged base rule ops) (Rekeyed act who) ps qs k t e o p q = cc
same_deed sealed seed w v (Rekeyed act who) Founded ps qs k t e o p q = cc
same_deed sealed seed w v (Rekeyed act who) (Stepped more) ps qs k t e o p q = cc
same_deed sealed seed w v (Rekeyed act who) (Merged base rule more) ps qs k t e o p q = cc
same_deed sealed seed w v (Rekeyed act who) (Rekeyed does whom) ps qs k t e o p q =
    let a : act ≡ does = ap (action_in act) t in
    let d : who ≡ whom = ap (device_in who) t in
    λ i. Rekeyed (a i) (d i)

same_plain : (x y : Plain) → x.writer ≡ y.writer → x.name ≡ y.name → x.moment ≡ y.moment → x.deed ≡ y.deed → x ≡ y
same_plain x y w n m d = λ i. record { writer = w i; name = n i; moment = m i; deed = d i }

module _ (sealed signed : List ℕ → List ℕ → List ℕ) (hashed : List ℕ → List ℕ) (one_plain : (k p q : List ℕ) → sealed k p ≡ sealed k q → p ≡ q) (seed : List ℕ) (names : Names) where
  once_spelled : (bs : List (List ℕ)) (c d : Back) (b : List ℕ) (x y : Plain) → Spells sealed signed seed names bs c b x → Spells sealed signed seed names bs d b y → IsRuled x.deed → IsRuled y.deed → x ≡ y
  once_spelled bs c d b x y s t u v =
      let r : s.revision ≡ t.revision = (once_revision s.revision t.revision [] [] s.is t.is (ap (λ z. z ++ []) (sym s.spelled ∙ t.spelled))).0 in
      let kind : s.revision.kind ≡ t.revision.kind = ap (λ (z : Revision). z.kind) r in
      let texts : private_text s.revision.kind s.private ≡ private_text t.revision.kind t.private = one_plain (folder_key seed s.revision.generation) _ _ (sym s.opens ∙ ap (λ (z : Revision). z.private) r ∙ t.opens ∙ ap (λ (z : Revision). sealed (folder_key seed z.generation) (private_text t.revision.kind t.private)) (sym r)) in
      let p : s.private ≡ t.private = (once_private s.revision.kind s.private t.private [] [] s.is_private (kept (sym kind) t.is_private) (ap (λ z. z ++ []) (texts ∙ ap (λ (k : RevisionKind). private_text k t.private) (sym kind)))).0 in
      let writers : x.writer ≡ y.writer = sym s.writer ∙ ap (λ (z : Revision). z.writer) r ∙ t.writer in
      same_plain x y writers (s.name ∙ ap names writers ∙ sym t.name) (sym s.moment ∙ ap (λ (z : Revision). z.moment) r ∙ t.moment)
      (same_deed sealed seed x.writer y.writer x.deed y.deed _ _ (sym s.kind ∙ kind ∙ t.kind) (sym s.bundle ∙ ap (λ (z : Revision). z.bundle) r ∙ t.bundle) (sym s.base ∙ ap (λ (z : Private). z.base) p ∙ t.base) (sym s.ops ∙ ap (λ (z : Private). z.ops) p ∙ t.ops) u v)
    where
      kept : {k l : RevisionKind} {p : Private} → k ≡ l → IsPrivate k p → IsPrivate l p
      kept {p = p} e h = subst (λ (k : RevisionKind). IsPrivate k p) e h

  pub once : (registered : ℕ) (blocks : Blocks) (bs : List (List ℕ)) (c d : Back) → Stands sealed signed hashed seed names registered blocks bs c → Stands sealed signed hashed seed names registered blocks bs d → c ≡ d
  once registered blocks [] [] [] h k = refl
  once registered blocks [] [] (y ∷ d) h k = absurd k
  once registered blocks [] (x ∷ c) d h k = absurd h
  once registered blocks (b ∷ bs) [] d h k = absurd h
  once registered blocks (b ∷ bs) (x ∷ c) [] h k = absurd k
  once registered blocks (b ∷ bs) (x ∷ c) (y ∷ d) h k =
      let first = once_spelled bs c d b x y h.1.spells k.1.spells (ruled (reverse c) x x.deed h.2.fits) (ruled (reverse d) y y.deed k.2.fits) in
      let rest = once registered blocks bs c d h.0 k.0 in
      λ i. first i ∷ rest i
