-- A world whose parts stay stands for what it stood for, and the worlds that stand for the first state.
use Rattle.std.proofs.Common.{◌≡◌, ℕ, ◌+◌, Bool, true, false, not, List, [], ◌∷◌, length, replicate, Result, Ok, Err, refl, sym, ap, ◌∙◌, subst, arith}
use Rattle.std.specs.Prelude.{slice_get, OnErr}
use Rattle.std.proofs.lemmas.List.{length-map}
use Rattle.sha2.specs.Sha256.{sha256}
use Rattle.kb_edge.specs.declared.disk.Disk.{Ghosts}
use Rattle.kb_seal.specs.Sealing.{seal_by_hmac, sign_by_hmac}
use Rattle.kb_rekey.specs.Founding.{any_names}
use Rattle.kb_world.specs.Machine.{State, new_state}
use Rattle.kb_world.specs.Good.{names_of}
use Rattle.kb_world.proofs.Machine.{new_good}
use Rattle.kb_folder.specs.Chains.{Names}
use Rattle.kb_folder.specs.Puts.{Held}
use Rattle.kb_folder.specs.Held.{held}
use Rattle.kb_folder.specs.Goes.{HasChain}
use Rattle.kb_world.specs.Doing.{GoesOn}
use Rattle.kb_world.specs.Standing.{DeclaredStands, WorldStands, IsStanding}
use Rattle.kb_world.specs.declared.world.World.{World}
use Rattle.kb_world.proofs.Founding.{no_chain, renamed}

pub none_left : {A : Type 0} (xs : List A) → length xs ≡ 0 → xs ≡ []
none_left [] none = refl
none_left (x ∷ xs) none = absurd (omega (arith, none))

pub is_not : (b : Bool) → true ≡ not b → false ≡ b
is_not true e = sym e
is_not false e = refl

pub is_so : (b : Bool) → false ≡ not b → true ≡ b
is_so true e = refl
is_so false e = sym e

pub on_err : {X E : Type 0} (r : Result X E) (P : Type 0) → P → OnErr r P
on_err (Ok x) P p = tt
on_err (Err e) P p = p

module _ {M D : Type 0} {disks : Ghosts D} (w v : World M D disks) (seed : v.seed ≡ w.seed) (moment : v.moment ≡ w.moment) (folder : held v.folder ≡ held w.folder) (devices : v.devices.items ≡ w.devices.items) where
  pub stays : GoesOn w v (λ names s t. t ≡ s)
  stays names s h = (
    s,
    refl,
    record {
      seed = h.seed ∙ sym seed;
      moment = h.moment ∙ sym moment;
      rule = h.rule;
      folder = subst (λ f. HasChain seal_by_hmac sign_by_hmac sha256 s.seed names f s.chain) (sym folder) h.folder;
      fresh = λ none. folder ∙ h.fresh none;
      registered = ap (λ (f : Held). f.state.registered) folder ∙ h.registered;
      count = ap length devices ∙ h.count;
      members = λ i x m at there. subst (λ f. DeclaredStands s.seed names (i + 1) f s.chain x m) (sym folder) (h.members i x m (ap (λ l. slice_get l i) (sym devices) ∙ at) there);
      good = h.good;
    },
  )

module _ {M D : Type 0} {disks : Ghosts D} (w : World M D disks) where
  -- without devices, it stands for the first state under whatever names
  pub still_new : w.seed ≡ replicate 32 0 → w.moment ≡ 0 → w.devices.items ≡ [] → IsStanding w → (names : Names) → WorldStands names w new_state
  still_new seed moment none stands names =
      let s : State = stands.1 in
      let h = stands.2 in
      let nobody : length s.members ≡ 0 = sym h.count ∙ ap length none in
      let empty : s.chain ≡ [] = no_chain s.chain (names_of s.members) (length-map s.members _ ∙ nobody) h.good.declared in
      let has : HasChain seal_by_hmac sign_by_hmac sha256 (replicate 32 0) stands.0 (held w.folder) [] =
      subst (λ k. HasChain seal_by_hmac sign_by_hmac sha256 k stands.0 (held w.folder) []) (h.seed ∙ seed) (subst (HasChain seal_by_hmac sign_by_hmac sha256 s.seed stands.0 (held w.folder)) empty h.folder) in
      record {
        seed = sym seed;
        moment = sym moment;
        rule = refl;
        folder = record { back = []; turned = refl; stands = renamed (replicate 32 0) stands.0 names (held w.folder) has; limit = has.limit };
        fresh = λ e. h.fresh nobody;
        registered = h.registered ∙ nobody;
        count = ap length none;
        members = λ i x m at there. cc;
        good = new_good;
      }

  pub starts_at : ((names : Names) → WorldStands names w new_state) → (w.moment ≡ 0) × (w.seed ≡ replicate 32 0) × (length w.devices.items ≡ 0)
  starts_at new = let h = new any_names in (sym h.moment, sym h.seed, h.count)
