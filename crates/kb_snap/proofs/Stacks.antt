-- Entries that wait.
use Rattle.std.proofs.Common.{◌≡◌, ℕ, List, [], ◌∷◌, ◌++◌, refl, ap, sym, ◌∙◌, append_assoc, inl, inr}
use Rattle.kb_name.specs.declared.ids.NodeId.{NodeId}
use Rattle.kb_dirs.specs.declared.entries.Entry.{Entry}
use Rattle.kb_snap.specs.declared.loading.Waiting.{Waiting}
use Rattle.kb_snap.specs.Holds.{IsOneOf}
use Rattle.kb_snap.specs.Reads.{waits, stacked}
use Rattle.kb_snap.proofs.Among.{one_split, one_front, one_back}

module _ (q : NodeId) (b : List ℕ) where
  -- the last entry waits first
  pub stacked_last : (es : List Entry) (e : Entry) → stacked q b (es ++ e ∷ []) ≡ waits q b e ∷ stacked q b es
  stacked_last [] e = refl
  stacked_last (f ∷ es) e = ap (λ ws. ws ++ waits q b f ∷ []) (stacked_last es e)

  -- one entry more waits
  pub stacked_more : (ws new old all : List Waiting) (left es : List Entry) (e : Entry) → left ≡ es ++ e ∷ [] → new ≡ ws ++ waits q b e ∷ [] → ws ++ stacked q b left ≡ old ++ all → new ++ stacked q b es ≡ old ++ all
  stacked_more ws new old all left es e popped pushed so =
      ap (λ xs. xs ++ stacked q b es) pushed ∙ append_assoc ws (waits q b e ∷ []) (stacked q b es) ∙ ap (λ xs. ws ++ xs) (sym (stacked_last es e) ∙ ap (stacked q b) (sym popped)) ∙ so

  -- what waits is an entry
  pub of_stacked : (es : List Entry) (w : Waiting) → IsOneOf w (stacked q b es) → (e : Entry) × (IsOneOf e es × (w ≡ waits q b e))
  of_stacked [] w h = absurd h
  of_stacked (f ∷ es) w h = elim (one_split w (stacked q b es) (waits q b f ∷ []) h) [
    | inl l ↦ let x = of_stacked es w l in (x.0, (inr x.1.0, x.1.1))
    | inr r ↦ elim r [ inl here ↦ (f, (inl refl, here)) | inr never ↦ absurd never ]
  ]

  pub in_stacked : (es : List Entry) (e : Entry) → IsOneOf e es → IsOneOf (waits q b e) (stacked q b es)
  in_stacked [] e h = absurd h
  in_stacked (f ∷ es) e h = elim h [
    | inl here ↦ one_back (waits q b e) (stacked q b es) (waits q b f ∷ []) (inl (ap (waits q b) here))
    | inr there ↦ one_front (waits q b e) (stacked q b es) (waits q b f ∷ []) (in_stacked es e there)
  ]
