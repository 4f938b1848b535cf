-- What a folder keeps, as its fields tell it.
use Rattle.std.specs.Prelude.{◌≡◌, ℕ, ◌+◌, Bool, true, false, List, [], ◌∷◌, ◌++◌, map, reverse, replicate, None, Some, is_some, Result, Ok, Err}
use Rattle.std.specs.FinMap.{empty}
use Rattle.kb_keys.specs.Policies.{role_at}
use Rattle.kb_keys.specs.Halves.{half_at}
use Rattle.kb_chain.specs.Revisions.{no_hash}
use Rattle.kb_folder.specs.declared.folder.HalfFault.{HalfFault}
use Rattle.kb_folder.specs.declared.folder.HalfFault.TheVariants.{NotMember, NoHalf}
use Rattle.kb_seal.specs.declared.sealer.Sealer as Sealer
use Rattle.kb_blocks.specs.declared.hashing.BlockHash as BlockHash
use Rattle.kb_folder.specs.declared.folder.Folder.{Folder}
use Rattle.kb_folder.specs.Puts.{Held}

abbrev pub held : {S H : Type 0} {seals : Sealer.Ghosts S} {hashes : BlockHash.Ghosts H} → Folder S H seals hashes → Held
held f = record { revisions = reverse (map (λ b. b.items) f.revisions.items); blocks = f.store; halves = f.halves.0; secrets = f.secrets.items; state = f.state; limit = f.limit }

-- no revision, no block and no device yet
abbrev pub empty_folder : ℕ → Held
empty_folder limit = record { revisions = []; blocks = empty; halves = []; secrets = []; state = record { length = 0; head = no_hash; policy = (replicate 33 None, 0); registered = 0; last = replicate 33 0 }; limit = limit }

-- one device more is registered, with this secret
abbrev pub registered_with : Held → List ℕ → Held
registered_with f secret = record f { secrets = f.secrets ++ secret ∷ []; state = record f.state { registered = f.state.registered + 1 } }

-- the device is a member
abbrev pub is_member : Held → ℕ → Bool
is_member f d = is_some (role_at f.state.policy.0 d)

-- the half that is told
abbrev pub TellsHalf : Held → ℕ → ℕ → Result (List ℕ) HalfFault → Type 0
TellsHalf f d g (Ok half) = (is_member f d ≡ true) × (half_at f.halves d g ≡ Some half)
TellsHalf f d g (Err NoHalf) = (is_member f d ≡ true) × (half_at f.halves d g ≡ None)
TellsHalf f d g (Err NotMember) = is_member f d ≡ false
