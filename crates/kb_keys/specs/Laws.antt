-- What the entries of a bundle hold.
use Rattle.std.specs.Prelude.{◌≡◌, ℕ, true, nat_eq, List, ◌++◌, map, Some, None, Ok}
use Rattle.std.specs.List.{list_any}
use Rattle.kb_keys.specs.Secrets.{device_secret, folder_key, server_half, xored}
use Rattle.kb_keys.specs.Bundles.{made_entry, sealed_at, Rotates}
use Rattle.kb_keys.specs.Rings.{Keys, key_at}
use Rattle.kb_keys.specs.declared.entries.Entry.{Entry}

module _ (sealed : List ℕ → List ℕ → List ℕ) where
  -- the device's entry of the generation gives this key with the half that the server keeps for both
  abbrev pub HasKey : List ℕ → ℕ → ℕ → List ℕ → List Entry → Type 0
  HasKey seed d g key es = sealed_at d g es ≡ Some (sealed (device_secret seed d) (xored key (server_half seed d g)))

  -- after a rotation each member's entry of the new generation gives the folder key of that generation
  abbrev pub RotatedGive : Type 0
  RotatedGive = (seed members : List ℕ) (old new : List Entry) (d g : ℕ) → Rotates sealed seed members old new (Ok g) → list_any (nat_eq d) members ≡ true → HasKey seed d g (folder_key seed g) new

  -- after the entries of a ring were added, the device's entry of a generation that had none gives the ring's key
  abbrev pub AddedGive : Type 0
  AddedGive = (seed : List ℕ) (ring : Keys) (old : List Entry) (d g : ℕ) (key : List ℕ) → sealed_at d g old ≡ None → key_at ring g ≡ Some key → HasKey seed d g key (old ++ map (λ k. made_entry sealed seed d k.0 k.1) ring)
