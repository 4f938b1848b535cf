-- How far a reading came before it stopped.
use Rattle.std.proofs.Common.{◌≡◌, inl, inr, ℕ, zero, suc, ◌+◌, ◌-◌, ◌<◌, ◌≤◌, min, List, [], ◌∷◌, ◌++◌, Result, Ok, Err, length, drop, refl, ap, sym, subst, ◌∙◌, arith, length-append}
use Rattle.kb_blocks.specs.declared.pointer.Ptr.{Ptr}
use Rattle.kb_files.specs.declared.loading.LoadFault.{LoadFault}
use Rattle.kb_files.specs.declared.loading.LoadFault.TheVariants.{BadBlock}
use Rattle.kb_files.specs.Opens.{Blocks, Reads, RefusalNames}
use Rattle.kb_files.specs.Files.{Vault, HoldsSized, IsLeafOf, IsIndexOf, span}
use Rattle.kb_files.specs.Stops.{IsBad, StopsAmong, StopsAt, Stops}

module _ (H : ℕ → Ptr → List ℕ → Type 0) (S : ℕ → Ptr → LoadFault → Type 0) (each : ℕ) (ps : List Ptr) (size : ℕ) where
  -- what stops among the parts that are left stops the whole
  abbrev pub Passed : ℕ → List ℕ → Type 0
  Passed i out = (id : List ℕ) (fault : LoadFault) → StopsAmong H S each id fault (drop i ps) (size - length out) → StopsAmong H S each id fault ps size

  pub passed_start : Passed 0 []
  passed_start = λ id fault s. let all : size - 0 ≡ size = omega arith in subst (StopsAmong H S each id fault ps) all s

  pub passed_more : (i : ℕ) (out : List ℕ) (p : Ptr) (part : List ℕ) → Passed i out → drop i ps ≡ p ∷ drop (i + 1) ps → 0 < size - length out → length part ≡ min each (size - length out)
      → H (min each (size - length out)) p part → Passed (i + 1) (out ++ part)
  passed_more i out p part so next some sized here = λ id fault s.
      let less : size - (length out + length part) ≡ (size - length out) - length part = omega arith in
      let left : size - length (out ++ part) ≡ (size - length out) - min each (size - length out) = ap (λ n. size - n) (length-append out part) ∙ less ∙ ap (λ n. (size - length out) - n) sized in
      so id fault (subst (λ qs. StopsAmong H S each id fault qs (size - length out)) (sym next) (inr (some, inr (part, (here, subst (StopsAmong H S each id fault (drop (i + 1) ps)) left s)))))

  pub passed_full : (i : ℕ) (out : List ℕ) (p : Ptr) → Passed i out → drop i ps ≡ p ∷ drop (i + 1) ps → size - length out ≡ 0 → (id : List ℕ) → StopsAmong H S each id (BadBlock id) ps size
  passed_full i out p so next none id = so id (BadBlock id) (subst (λ qs. StopsAmong H S each id (BadBlock id) qs (size - length out)) (sym next) (inl (none, refl)))

  pub passed_part : (i : ℕ) (out : List ℕ) (p : Ptr) → Passed i out → drop i ps ≡ p ∷ drop (i + 1) ps → 0 < size - length out → (id : List ℕ) (fault : LoadFault) → S (min each (size - length out)) p fault → StopsAmong H S each id fault ps size
  passed_part i out p so next some id fault stop = so id fault (subst (λ qs. StopsAmong H S each id fault qs (size - length out)) (sym next) (inr (some, inl stop)))

  pub passed_short : (i : ℕ) (out : List ℕ) → Passed i out → drop i ps ≡ [] → 0 < size - length out → (id : List ℕ) → StopsAmong H S each id (BadBlock id) ps size
  passed_short i out so last short id = so id (BadBlock id) (subst (λ qs. StopsAmong H S each id (BadBlock id) qs (size - length out)) (sym last) (short, refl))

-- a leaf that isn't right stops the reading
pub leaf_stops : {X : Type 0} (vault : Vault) (blocks : Blocks) (level size : ℕ) (p : Ptr) (view : X → List ℕ) (r : Result X LoadFault) → level ≡ 0 → Reads blocks view (IsLeafOf vault size p) r → RefusalNames p.id r → Stops vault blocks level size p r
leaf_stops vault blocks level size p view (Ok x) e reads names = tt
leaf_stops vault blocks level size p view (Err fault) e reads names = subst (λ k. StopsAt vault blocks k size p fault) (sym e) (reads, names)

-- so does a block of pointers
pub index_stops : (vault : Vault) (blocks : Blocks) (level n size : ℕ) (p : Ptr) (fault : LoadFault) → level ≡ suc n → IsBad blocks (IsIndexOf vault level p) p.id fault → StopsAt vault blocks level size p fault
index_stops vault blocks level n size p fault e bad = subst (λ k. StopsAt vault blocks k size p fault) (sym e) (inl (subst (λ k. IsBad blocks (IsIndexOf vault k p) p.id fault) e bad))

-- and what stops among its parts
pub among_stops : (vault : Vault) (blocks : Blocks) (level n size each : ℕ) (p : Ptr) (ps qs : List Ptr) (fault : LoadFault) → level ≡ suc n → each ≡ span n → qs ≡ ps → IsIndexOf vault level p ps
    → StopsAmong (HoldsSized vault n) (StopsAt vault blocks n) each p.id fault qs size → StopsAt vault blocks level size p fault
among_stops vault blocks level n size each p ps qs fault e spanned same index s =
    let s' = subst (λ k. StopsAmong (HoldsSized vault n) (StopsAt vault blocks n) k p.id fault ps size) spanned (subst (λ rs. StopsAmong (HoldsSized vault n) (StopsAt vault blocks n) each p.id fault rs size) same s) in
    subst (λ k. StopsAt vault blocks k size p fault) (sym e) (inr (ps, (subst (λ k. IsIndexOf vault k p ps) e index, s')))

-- fewer than all
pub left_over : (n m : ℕ) → n ≤ m → (n ≡ m → ⊥) → 0 < m - n
left_over zero zero h other = absurd (other refl)
left_over zero (suc m) h other = omega arith
left_over (suc n) zero h other = absurd (omega arith)
left_over (suc n) (suc m) h other =
    let r = left_over n m (omega arith) (λ e. other (ap suc e)) in
    let e : suc m - suc n ≡ m - n = omega arith in
    omega arith
