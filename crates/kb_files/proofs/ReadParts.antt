-- What was read is what is held.
use Rattle.std.proofs.Common.{◌≡◌, ℕ, zero, suc, ◌+◌, ◌-◌, ◌<◌, ◌≤◌, min, List, [], ◌∷◌, ◌++◌, length, take, drop, get_or, refl, ap, sym, subst, ◌∙◌, arith, append_assoc, append-nil, length-append, add-one, drop-cons}
use Rattle.std.proofs.lemmas.List.{take-append-drop, length-take, length-drop, take_all, take_at, drop_at, drop_min, drop-drop}
use Rattle.std.proofs.Math.ListN.{drop_of_length-le}
use Rattle.kb_blocks.specs.declared.pointer.Ptr.{Ptr}
use Rattle.kb_files.specs.Files.{Vault, InOrder, HoldsAt, AreFit, index_text, leaf_text, pointers, ptrs_of, span}
use Rattle.kb_files.proofs.Indexes.{ptrs_of-pointers}

-- the parts read so far are those in front
pub record Progress (held : Vault) (each : ℕ) (ps : List Ptr) (size i : ℕ) (out : List ℕ) : Type 0 where
  pub within : length out ≤ size
  pub forward : (rest : List ℕ) → length out + length rest ≡ size → InOrder held each (drop i ps) rest → InOrder held each ps (out ++ rest)
  pub back : (bytes : List ℕ) → length bytes ≡ size → InOrder held each ps bytes → (bytes ≡ out ++ drop (length out) bytes) × InOrder held each (drop i ps) (drop (length out) bytes)

-- one text at a pointer
abbrev pub IsSingle : Vault → Type 0
IsSingle vault = (p : Ptr) (a b : List ℕ) → vault p a → vault p b → a ≡ b

-- of one length, it holds one text
abbrev pub IsSized : Vault → Type 0
IsSized held = (p : Ptr) (a b : List ℕ) → length a ≡ length b → held p a → held p b → a ≡ b

pub in_order_same : (held : Vault) → IsSized held → (each : ℕ) (ps : List Ptr) (a b : List ℕ) → length a ≡ length b → InOrder held each ps a → InOrder held each ps b → a ≡ b
in_order_same held one each [] a b size x y = x ∙ sym y
in_order_same held one each (p ∷ ps) a b size x y =
    let fronts : length (take each a) ≡ length (take each b) = length-take each a ∙ ap (min each) size ∙ sym (length-take each b) in
    let backs : length (drop each a) ≡ length (drop each b) = length-drop each a ∙ ap (λ n. n - each) size ∙ sym (length-drop each b) in
    let front = one p (take each a) (take each b) fronts x.1 y.1 in
    let back = in_order_same held one each ps (drop each a) (drop each b) backs x.2 y.2 in
    sym (take-append-drop each a) ∙ ap (λ t. t ++ drop each a) front ∙ ap (λ t. take each b ++ t) back ∙ take-append-drop each b

pub same_index : (level : ℕ) (ps qs : List Ptr) → AreFit ps → AreFit qs → index_text level ps ≡ index_text level qs → ps ≡ qs
same_index level ps qs f h e =
    let size : length ps ≡ length qs = ap (λ t. get_or t 2 0) e in
    let body : pointers ps ≡ pointers qs = ap (drop 3) e in
    sym (ptrs_of-pointers ps f.each) ∙ ap (λ n. ptrs_of n (pointers ps)) size ∙ ap (ptrs_of (length qs)) body ∙ ptrs_of-pointers qs h.each

pub holds_same : (vault : Vault) → IsSingle vault → (n : ℕ) → IsSized (HoldsAt vault n)
holds_same vault one zero p a b size x y = ap (drop 1) (one p (leaf_text a) (leaf_text b) x y)
holds_same vault one (suc n) p a b size x y =
    let ps : x.0 ≡ y.0 = same_index (suc n) x.0 y.0 x.1 y.1 (one p _ _ x.2 y.2) in
    in_order_same (HoldsAt vault n) (holds_same vault one n) (span n) y.0 a b size (subst (λ qs. InOrder (HoldsAt vault n) (span n) qs a) ps x.3) y.3

-- the pointers of the one block hold the bytes
pub index_held : (vault : Vault) → IsSingle vault → (level n : ℕ) → level ≡ suc n → (p : Ptr) (ps : List Ptr) → AreFit ps → vault p (index_text level ps) → (bytes : List ℕ) → HoldsAt vault level p bytes → InOrder (HoldsAt vault n) (span n) ps bytes
index_held vault one level n e p ps fit text bytes held =
    let h = subst (λ k. HoldsAt vault k p bytes) e held in
    let same : h.0 ≡ ps = same_index (suc n) h.0 ps h.1 fit (one p _ _ h.2 (subst (λ k. vault p (index_text k ps)) e text)) in
    subst (λ qs. InOrder (HoldsAt vault n) (span n) qs bytes) same h.3

-- there is such a block
pub has_index : (vault : Vault) (level n : ℕ) → level ≡ suc n → (p : Ptr) (bytes : List ℕ) → HoldsAt vault level p bytes → (ps : List Ptr) × (AreFit ps × vault p (index_text level ps))
has_index vault level n e p bytes held =
    let h = subst (λ k. HoldsAt vault k p bytes) e held in
    (h.0, (h.1, subst (λ k. vault p (index_text k h.0)) (sym e) h.2))

fronts : (each left : ℕ) (part rest : List ℕ) → length part ≡ min each left → length part + length rest ≡ left → (take each (part ++ rest) ≡ part) × (drop each (part ++ rest) ≡ rest)
fronts each left part [] size whole =
    let all : length (part ++ []) ≤ each = omega (arith, length-append part []) in
    (take_all each (part ++ []) all ∙ append-nil part, drop_of_length-le (part ++ []) all)
fronts each left part (b ∷ rest) size whole =
    let full : length part ≡ each = omega arith in
    (take_at part (b ∷ rest) each full, drop_at part (b ∷ rest) each full)

pub progress_start : (held : Vault) (each : ℕ) (ps : List Ptr) (size : ℕ) → Progress held each ps size 0 []
progress_start held each ps size = record { within = omega arith; forward = λ rest _ o. o; back = λ bytes _ o. (refl, o) }

pub progress_more : (held : Vault) → IsSized held → (each : ℕ) (ps : List Ptr) (size i : ℕ) (out : List ℕ) (p : Ptr) (part : List ℕ) → Progress held each ps size i out → drop i ps ≡ p ∷ drop (i + 1) ps
    → length part ≡ min each (size - length out) → held p part → 0 < size - length out → Progress held each ps size (i + 1) (out ++ part)
progress_more held one each ps size i out p part so next sized here left = record {
  within = omega (arith, length-append out part, so.within);
  forward = λ rest whole o.
      let lengths : length part + length rest ≡ size - length out = omega (arith, length-append out part, so.within) in
      let both = fronts each (size - length out) part rest sized lengths in
      let some : 0 < length (part ++ rest) = omega (arith, length-append part rest) in
      let whole' : length out + length (part ++ rest) ≡ size = omega (arith, length-append part rest, length-append out part) in
      let order : InOrder held each (p ∷ drop (i + 1) ps) (part ++ rest) = (some, subst (held p) (sym both.0) here, subst (InOrder held each (drop (i + 1) ps)) (sym both.1) o) in
      subst (InOrder held each ps) (sym (append_assoc out part rest)) (so.forward (part ++ rest) whole' (subst (λ qs. InOrder held each qs (part ++ rest)) (sym next) order));
  back = λ bytes whole o.
      let b = drop (length out) bytes in
      let was = so.back bytes whole o in
      let order : InOrder held each (p ∷ drop (i + 1) ps) b = subst (λ qs. InOrder held each qs b) next was.1 in
      let size_b : length b ≡ size - length out = length-drop (length out) bytes ∙ ap (λ n. n - length out) whole in
      let front : take each b ≡ part = one p (take each b) part (length-take each b ∙ ap (min each) size_b ∙ sym sized) order.1 here in
      let end : drop (length (out ++ part)) bytes ≡ drop each b =
      ap (λ n. drop n bytes) (length-append out part) ∙ sym (drop-drop (length part) (length out) bytes) ∙ ap (λ n. drop n b) (sized ∙ ap (min each) (sym size_b)) ∙ drop_min each b in (
        was.0 ∙ ap (λ t. out ++ t) (sym (take-append-drop each b) ∙ ap (λ t. t ++ drop each b) front ∙ ap (λ t. part ++ t) (sym end)) ∙ sym (append_assoc out part (drop (length (out ++ part)) bytes)),
        subst (InOrder held each (drop (i + 1) ps)) (sym end) order.2,
      );
}

pub progress_full : (held : Vault) (each : ℕ) (ps : List Ptr) (size i : ℕ) (out : List ℕ) (p : Ptr) → Progress held each ps size i out → drop i ps ≡ p ∷ drop (i + 1) ps → size - length out ≡ 0
    → (bytes : List ℕ) → length bytes ≡ size → InOrder held each ps bytes → ⊥
progress_full held each ps size i out p so next none bytes whole o =
    let was = so.back bytes whole o in
    let order : InOrder held each (p ∷ drop (i + 1) ps) (drop (length out) bytes) = subst (λ qs. InOrder held each qs (drop (length out) bytes)) next was.1 in
    let some = order.0 in
    let size_b : length (drop (length out) bytes) ≡ size - length out = length-drop (length out) bytes ∙ ap (λ n. n - length out) whole in
    absurd (omega arith)

pub progress_part : (held : Vault) (each : ℕ) (ps : List Ptr) (size i : ℕ) (out : List ℕ) (p : Ptr) → Progress held each ps size i out → drop i ps ≡ p ∷ drop (i + 1) ps
    → (bytes : List ℕ) → length bytes ≡ size → InOrder held each ps bytes → (part : List ℕ) × ((length part ≡ min each (size - length out)) × held p part)
progress_part held each ps size i out p so next bytes whole o =
    let was = so.back bytes whole o in
    let order : InOrder held each (p ∷ drop (i + 1) ps) (drop (length out) bytes) = subst (λ qs. InOrder held each qs (drop (length out) bytes)) next was.1 in
    let size_b : length (drop (length out) bytes) ≡ size - length out = length-drop (length out) bytes ∙ ap (λ n. n - length out) whole in
    (take each (drop (length out) bytes), (length-take each (drop (length out) bytes) ∙ ap (min each) size_b, order.1))

pub progress_end : (held : Vault) (each : ℕ) (ps : List Ptr) (size i : ℕ) (out : List ℕ) → Progress held each ps size i out → drop i ps ≡ [] → length out ≡ size → InOrder held each ps out
progress_end held each ps size i out so last whole =
    let e : length out + 0 ≡ size = omega arith in
    subst (InOrder held each ps) (append-nil out) (so.forward [] e (subst (λ qs. InOrder held each qs []) (sym last) refl))

pub progress_short : (held : Vault) (each : ℕ) (ps : List Ptr) (size i : ℕ) (out : List ℕ) → Progress held each ps size i out → drop i ps ≡ [] → (length out ≡ size → ⊥)
    → (bytes : List ℕ) → length bytes ≡ size → InOrder held each ps bytes → ⊥
progress_short held each ps size i out so last short bytes whole o =
    let was = so.back bytes whole o in
    let none : drop (length out) bytes ≡ [] = subst (λ qs. InOrder held each qs (drop (length out) bytes)) last was.1 in
    let size_b = sym (length-drop (length out) bytes) ∙ ap length none in
    let within = so.within in
    let reached : length out ≡ size = omega arith in
    short reached

-- the place of a part, and what is behind it
pub at_part : (ps : List Ptr) (i : ℕ) (d : Ptr) → i < length ps → drop i ps ≡ get_or ps i d ∷ drop (i + 1) ps
at_part ps i d h = rw add-one (drop-cons ps i d h)

pub past_parts : (ps : List Ptr) (i : ℕ) → length ps ≤ i → drop i ps ≡ []
past_parts ps i h = drop_of_length-le ps h
