-- A put keeps a folder sound.
use Rattle.std.proofs.Common.{◌≡◌, ℕ, suc, ◌+◌, ◌*◌, ◌<◌, ◌≤◌, Bool, true, false, cond, List, [], ◌∷◌, ◌++◌, length, map, reverse, Option, Some, None, Result, Ok, Err, refl, sym, ap, subst, ◌∙◌, arith, Vec, Global}
use Rattle.std.specs.Prelude.{nat_eq, slice_index, IsSome}
use Rattle.std.proofs.lemmas.Bool.{eqb-true}
use Rattle.std.proofs.lemmas.List.{map-append, reverse-append}
use Rattle.kb_keys.specs.declared.policy.Role.{Role}
use Rattle.kb_keys.specs.Policies.{role_at, role_after}
use Rattle.kb_chain.specs.declared.revisions.RevisionKind.{RevisionKind}
use Rattle.kb_chain.specs.declared.revisions.RevisionKind.TheVariants.{Found, Step, Steps, Merge, Join, Rekey}
use Rattle.kb_chain.specs.declared.bundles.BundlePart.{BundlePart}
use Rattle.kb_chain.specs.declared.revisions.Revision.{Revision}
use Rattle.kb_chain.specs.declared.states.FolderRequest.{FolderRequest}
use Rattle.kb_chain.specs.declared.states.PutRefusal.{PutRefusal}
use Rattle.kb_chain.specs.Revisions.{AreSeqs}
use Rattle.kb_chain.specs.Checks.{Roles, goes_on, last_of}
use Rattle.kb_folder.specs.Puts.{Held, Adds, Puts, Judges, StateAfter, IsSound, RolesAfter, generation_with, seq_after}
use Rattle.kb_folder.proofs.Verdicts.{passes, Applicable, applicable}

-- a text that stands behind others is the first of them from the end
pub from_the_end : (xs ys : List (Vec ℕ Global)) (copy : Vec ℕ Global) (text : List ℕ) → ys ≡ xs ++ copy ∷ [] → copy.items ≡ text → reverse (map (λ (b : Vec ℕ Global). b.items) ys) ≡ text ∷ reverse (map (λ (b : Vec ℕ Global). b.items) xs)
from_the_end xs ys copy text e same =
    ap (λ zs. reverse (map (λ (b : Vec ℕ Global). b.items) zs)) e
    ∙ ap reverse (map-append (λ (b : Vec ℕ Global). b.items) xs (copy ∷ []))
    ∙ reverse-append (map (λ (b : Vec ℕ Global). b.items) xs) (copy.items ∷ [])
    ∙ ap (λ t. t ∷ reverse (map (λ (b : Vec ℕ Global). b.items) xs)) same

members_after : (registered g : ℕ) (o : Option BundlePart) (old new : Roles) → Applicable registered g o → RolesAfter o old new → ((d : ℕ) → IsSome (role_at old d) → (1 ≤ d) × (d ≤ registered)) → (d : ℕ) → IsSome (role_at new d) → (1 ≤ d) × (d ≤ registered)
members_after registered g None old new a same few d some = few d (subst (λ (rs : Roles). IsSome (role_at rs d)) same some)
members_after registered g (Some p) old new a applies few d some =
    elim (nat_eq d p.device) as (λ b. nat_eq d p.device ≡ b → IsSome (cond b (role_after p.action) (role_at old d)) → (1 ≤ d) × (d ≤ registered)) [
      | true ↦ λ e k. let here : d ≡ p.device = eqb-true d p.device e in (subst (λ n. 1 ≤ n) (sym here) a.0, subst (λ n. n ≤ registered) (sym here) a.1)
      | false ↦ λ e k. few d k
    ] refl (subst (λ (o : Option Role). IsSome o) (applies d) some)

generation_kept : (registered g : ℕ) (o : Option BundlePart) → Applicable registered g o → g ≤ 64 → generation_with o g ≤ 64
generation_kept registered g None a h = h
generation_kept registered g (Some p) a h = a.2

seq_last : (k : RevisionKind) (r : Revision) (d len old : ℕ) (last : List ℕ) → (b : Bool) → AreSeqs k r.first r.last → r.last < last_of last r.writer + 1 + 4096 → last_of last r.writer ≤ 4096 * len → old ≤ 4096 * len → cond b r.last old ≤ 4096 * (len + 1)
seq_last k r d len old last true s h few most = omega (arith, h, few)
seq_last k r d len old last false s h few most = omega (arith, most)

last_kept : (f : Held) (r : Revision) (k : RevisionKind) → AreSeqs k r.first r.last → goes_on f.state r k ≡ true → ((d : ℕ) → slice_index f.state.last d ≤ 4096 * f.state.length) → (d : ℕ) → seq_after k r d (slice_index f.state.last d) ≤ 4096 * (f.state.length + 1)
last_kept f r Found s h few d = let most = few d in omega (arith, most)
last_kept f r Rekey s h few d = let most = few d in omega (arith, most)
last_kept f r Step s h few d =
    let first : r.first ≡ last_of f.state.last r.writer + 1 = eqb-true r.first (last_of f.state.last r.writer + 1) h in
    let last = s.1 in
    seq_last Step r d f.state.length (slice_index f.state.last d) f.state.last (nat_eq d r.writer) s (omega (arith, first, last)) (few r.writer) (few d)
last_kept f r Steps s h few d =
    let first : r.first ≡ last_of f.state.last r.writer + 1 = eqb-true r.first (last_of f.state.last r.writer + 1) h in
    let last = s.2 in
    seq_last Steps r d f.state.length (slice_index f.state.last d) f.state.last (nat_eq d r.writer) s (omega (arith, first, last)) (few r.writer) (few d)
last_kept f r Join s h few d =
    let first : r.first ≡ last_of f.state.last r.writer + 1 = eqb-true r.first (last_of f.state.last r.writer + 1) h in
    let last = s.2 in
    seq_last Join r d f.state.length (slice_index f.state.last d) f.state.last (nat_eq d r.writer) s (omega (arith, first, last)) (few r.writer) (few d)
last_kept f r Merge s h few d =
    let first : r.first ≡ last_of f.state.last r.writer + 1 = eqb-true r.first (last_of f.state.last r.writer + 1) h in
    let last = s.2 in
    seq_last Merge r d f.state.length (slice_index f.state.last d) f.state.last (nat_eq d r.writer) s (omega (arith, first, last)) (few r.writer) (few d)

module _ (signed : List ℕ → List ℕ → List ℕ) (hashed : List ℕ → List ℕ) where
  -- one revision stands behind the others, which was judged
  pub sound_grown : (old new : Held) (request : FolderRequest) (r : Revision) → IsSound old → Judges signed hashed old request r (Ok tt) → old.state.length < old.limit → new.revisions ≡ request.revision ∷ old.revisions → StateAfter r request.revision old.state new.state → new.secrets ≡ old.secrets → new.limit ≡ old.limit → IsSound new
  sound_grown old new request r sound judged room longer s kept same =
      let passed = passes signed hashed old request r judged.verdict_is in
      let a = applicable signed old request r sound judged.is passed in
      let len = s.length in
      record {
        limit = subst (λ n. n ≤ 1000000) (sym same) sound.limit;
        some = subst (λ n. 1 ≤ n) (sym same) sound.some;
        bare = λ none. absurd (omega (arith, none, len));
        within = omega (arith, room, same, len);
        counted = ap length longer ∙ ap suc sound.counted ∙ (let h : suc old.state.length ≡ old.state.length + 1 = omega arith in h) ∙ sym len;
        registered = s.registered ∙ sound.registered ∙ ap length (sym kept);
        few = subst (λ n. n ≤ 32) (sym s.registered) sound.few;
        members = λ d some. subst (λ n. (1 ≤ d) × (d ≤ n)) (sym s.registered) (members_after old.state.registered old.state.policy.1 r.bundle old.state.policy.0 new.state.policy.0 a s.roles sound.members d some);
        generation = subst (λ n. n ≤ 64) (sym s.generation) (generation_kept old.state.registered old.state.policy.1 r.bundle a sound.generation);
        begins = λ none. absurd (omega (arith, none, len));
        last = λ d. subst (λ n. slice_index new.state.last d ≤ 4096 * n) (sym len) (subst (λ n. n ≤ 4096 * (old.state.length + 1)) (sym (s.last d)) (last_kept old r r.kind judged.is.rules.seqs passed.seqs sound.last d));
      }

  pub sound_added : (old new : Held) (request : FolderRequest) (n : ℕ) → IsSound old → Adds signed hashed old request new n → IsSound new
  sound_added old new request n sound added = sound_grown old new request added.revision sound added.judged added.room added.revisions added.state added.secrets added.limit

  pub sound_after : (old new : Held) (request : FolderRequest) (result : Result ℕ PutRefusal) → IsSound old → Puts signed hashed old request new result → IsSound new
  sound_after old new request (Ok n) sound p = sound_added old new request n sound p
  sound_after old new request (Err e) sound p = subst IsSound (sym p.1) sound
