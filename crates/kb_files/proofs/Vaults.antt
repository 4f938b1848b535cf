-- What a pointer opens to is one text, and more blocks keep it.
use Rattle.std.proofs.Common.{◌≡◌, ℕ, List, Some, true, ap, sym, ◌∙◌}
use Rattle.std.specs.Option.{is_some}
use Rattle.kb_blocks.specs.declared.pointer.Ptr.{Ptr}
use Rattle.kb_files.specs.Opens.{Blocks, Keys, Opens, Refuses}
use Rattle.kb_files.specs.declared.loading.LoadFault.{LoadFault}
use Rattle.kb_files.specs.declared.loading.LoadFault.TheVariants.{Missing, BadBlock, Memory}

pub opens_same : (sealed : List ℕ → List ℕ → List ℕ) (hashed : List ℕ → List ℕ) (blocks : Blocks) (keys : Keys) → ((k p q : List ℕ) → sealed k p ≡ sealed k q → p ≡ q)
    → (ptr : Ptr) (a b : List ℕ) → Opens sealed hashed blocks keys ptr a → Opens sealed hashed blocks keys ptr b → a ≡ b
opens_same sealed hashed blocks keys one_plain ptr a b x y =
    let k : Some x.key ≡ Some y.key = sym x.known ∙ y.known in
    let key : x.key ≡ y.key = cc in
    let t : Some (sealed x.key a) ≡ Some (sealed y.key b) = sym x.stored ∙ y.stored in
    let same : sealed x.key a ≡ sealed y.key b = cc in
    one_plain x.key a b (same ∙ ap (λ k. sealed k b) (sym key))

pub opens_kept : (sealed : List ℕ → List ℕ → List ℕ) (hashed : List ℕ → List ℕ) (old new : Blocks) (keys : Keys) → ((q b : List ℕ) → old q ≡ Some b → new q ≡ Some b)
    → (ptr : Ptr) (text : List ℕ) → Opens sealed hashed old keys ptr text → Opens sealed hashed new keys ptr text
opens_kept sealed hashed old new keys kept ptr text x = record { key = x.key; known = x.known; stored = kept ptr.id _ x.stored; hash = x.hash }

-- what needs a fact that nothing meets is met by nothing
pub refuses_weaker : {X Y : Type 0} (blocks : Blocks) (P : X → Type 0) (Q : Y → Type 0) → ((y : Y) → Q y → (x : X) × P x) → (e : LoadFault) → Refuses blocks P e → Refuses blocks Q e
refuses_weaker blocks P Q needs Memory r = tt
refuses_weaker blocks P Q needs (Missing id) r = (r.0, λ y q. let h = needs y q in r.1 h.0 h.1)
refuses_weaker blocks P Q needs (BadBlock id) r = (r.0, λ y q. let h = needs y q in r.1 h.0 h.1)

pub is_stored : (sealed : List ℕ → List ℕ → List ℕ) (hashed : List ℕ → List ℕ) (blocks : Blocks) (keys : Keys) (ptr : Ptr) (text : List ℕ) → Opens sealed hashed blocks keys ptr text → is_some (blocks ptr.id) ≡ true
is_stored sealed hashed blocks keys ptr text x = ap is_some x.stored
