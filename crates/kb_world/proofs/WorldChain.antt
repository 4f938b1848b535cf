-- What a world's chain is listed from: its devices wrote it, under their names.
use Rattle.std.proofs.Common.{◌≡◌, ℕ, zero, suc, ◌+◌, ◌-◌, ◌≤◌, ◌<◌, List, [], ◌∷◌, length, Some, refl, sym, ap, ◌∙◌, subst, arith}
use Rattle.std.specs.Prelude.{slice_get, All}
use Rattle.std.proofs.lemmas.List.Elements.{All-get_or}
use Rattle.std.proofs.lemmas.Option.{slice_get_within, get_or_from_slice_get}
use Rattle.sha2.specs.Sha256.{sha256}
use Rattle.kb_edge.specs.declared.disk.Disk.{Ghosts}
use Rattle.kb_seal.specs.Sealing.{seal_by_hmac, sign_by_hmac}
use Rattle.kb_snap.specs.Chains.{Chain, Revision}
use Rattle.kb_snap.specs.Members.{IsDeclared, IsNamed}
use Rattle.kb_world.specs.Machine.{State}
use Rattle.kb_world.specs.Good.{names_of}
use Rattle.kb_world.proofs.Machine.{length-names}
use Rattle.kb_snap.proofs.Lists.{get_there, member_at}
use Rattle.kb_folder.specs.Chains.{Names}
use Rattle.kb_folder.specs.Held.{held}
use Rattle.kb_folder.specs.Goes.{HasChain}
use Rattle.kb_world.specs.Listing.{AreNamed, AreDeclaredBy}
use Rattle.kb_world.specs.Standing.{WorldStands, IsStanding}
use Rattle.kb_world.specs.declared.declared.Declared.{Declared}
use Rattle.kb_world.specs.declared.world.World.{World}

-- who wrote the revisions is one of the devices
pub declared_by : (names : List (List ℕ)) (n : ℕ) (c : Chain) → length names ≡ n → All (IsDeclared names) c → AreDeclaredBy n c
declared_by names n c size all i x at =
    let d : IsDeclared names x = subst (IsDeclared names) (get_or_from_slice_get c i x x at) (All-get_or (IsDeclared names) c i x (slice_get_within c i x at) all) in
    ((d.numbered, let lt = slice_get_within names (x.writer - 1) x.name d.named in let from = d.numbered in omega (arith, lt, from, size)), subst (λ k. IsNamed k x.deed) size d.who)

module _ {M D : Type 0} {disks : Ghosts D} (w : World M D disks) (devices : List (Declared D _ _ disks _ _)) (is : devices ≡ w.devices.items) where
  -- a world has a chain that its devices wrote
  pub has_chain : IsStanding w → (seed : List ℕ) × (names : Names) × (c : Chain) × HasChain seal_by_hmac sign_by_hmac sha256 seed names (held w.folder) c × AreDeclaredBy (length devices) c
  has_chain stands =
      let names = stands.0 in
      let s = stands.1 in
      let h = stands.2 in
      (s.seed, names, s.chain, h.folder, declared_by (names_of s.members) (length devices) s.chain (length-names s.members ∙ sym h.count ∙ sym (ap length is)) h.good.declared)

  -- and its devices have their names
  pub are_named : (names : Names) (s : State) → WorldStands names w s → AreNamed names devices
  are_named names s h i x at =
      let here : slice_get w.devices.items i ≡ Some x = ap (λ l. slice_get l i) (sym is) ∙ at in
      let m = member_at s.members i (let lt = get_there w.devices.items i x here in let e = h.count in omega (arith, lt, e)) in
      (h.members i x m.0 here m.1).name
