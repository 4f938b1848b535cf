-- More registered devices and more blocks keep what stands.
use Rattle.std.proofs.Common.{◌≡◌, ℕ, ◌≤◌, List, [], ◌∷◌, Some, arith}
use Rattle.kb_keys.specs.declared.policy.Action.TheVariants as action
use Rattle.kb_files.specs.Opens.{Blocks}
use Rattle.kb_snap.specs.Chains.{Deed}
use Rattle.kb_folder.specs.Chains.{Plain, Back, Names, Suits, Follows}
use Rattle.kb_snap.specs.Chains.Deed.{Founded, Stepped, Merged, Rekeyed}
use Rattle.kb_folder.specs.Stands.{Stands}
use Rattle.kb_folder.proofs.Standing.{stands_kept}

module _ (registered more : ℕ) (le : registered ≤ more) where
  suits_more : (c : Back) (w : ℕ) (deed : Deed) → Suits registered c w deed → Suits more c w deed
  suits_more c w Founded h = let top = h.1 in (h.0, omega (arith, le, top))
  suits_more c w (Stepped ops) h = h
  suits_more c w (Merged base rule ops) h = h
  suits_more c w (Rekeyed action.Found who) h = h
  suits_more c w (Rekeyed action.GrantWriter who) h = let top = h.1 in (h.0, omega (arith, le, top))
  suits_more c w (Rekeyed action.GrantReader who) h = let top = h.1 in (h.0, omega (arith, le, top))
  suits_more c w (Rekeyed action.Revoke who) h = h

  follows_more : (c : Back) (x : Plain) → Follows registered c x → Follows more c x
  follows_more c x f = record { allowed = f.allowed; own = f.own; counts = f.counts; fits = f.fits; suits = suits_more c x.writer x.deed f.suits }

module _ (sealed signed : List ℕ → List ℕ → List ℕ) (hashed : List ℕ → List ℕ) (seed : List ℕ) (names : Names) where
  pub registering : (registered more : ℕ) (blocks : Blocks) (bs : List (List ℕ)) (c : Back) → registered ≤ more → Stands sealed signed hashed seed names registered blocks bs c → Stands sealed signed hashed seed names more blocks bs c
  registering registered more blocks [] [] le h = tt
  registering registered more blocks [] (x ∷ c) le h = absurd h
  registering registered more blocks (b ∷ bs) [] le h = absurd h
  registering registered more blocks (b ∷ bs) (x ∷ c) le h = (registering registered more blocks bs c le h.0, h.1, follows_more registered more le c x h.2)

  pub standing : (registered more : ℕ) (old new : Blocks) (bs : List (List ℕ)) (c : Back) → registered ≤ more → ((id b : List ℕ) → old id ≡ Some b → new id ≡ Some b) → Stands sealed signed hashed seed names registered old bs c → Stands sealed signed hashed seed names more new bs c
  standing registered more old new bs c le kept h = registering registered more new bs c le (stands_kept sealed signed hashed seed names registered old new kept bs c h)
