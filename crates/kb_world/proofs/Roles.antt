-- The members are declared devices.
use Rattle.std.proofs.Common.{◌≡◌, ◌≢◌, ◌⊎◌, ℕ, ◌+◌, ◌-◌, ◌≤◌, ◌<◌, ◌==◌, Bool, true, false, [], ◌∷◌, length, inl, inr, refl, sym, ◌∙◌, arith}
use Rattle.kb_keys.specs.Members.{nobody, is_writer, IsLastWriter}
use Rattle.kb_snap.specs.Members.{roles_of}
use Rattle.kb_world.specs.Machine.{State}
use Rattle.kb_world.specs.Good.{names_of, IsGood}
use Rattle.kb_world.specs.RunLaws.{MembersAreDeclared}
use Rattle.kb_world.proofs.Machine.{length-names}
use Rattle.kb_snap.proofs.Roles.{after_within, another, some_writer}

pub members_declared : MembersAreDeclared
members_declared s d good some =
    let at = after_within (names_of s.members) s.chain nobody good.declared (λ q h. cc) d some in
    (at.0, (let e = length-names s.members in let le = at.1 in omega arith))

-- a writer is the only one, or it isn't
pub last_writer : (s : State) (who : ℕ) → IsGood s → (IsLastWriter (roles_of s.chain) who) ⊎ (IsLastWriter (roles_of s.chain) who → ⊥)
last_writer s who good = elim (another (roles_of s.chain) who (length s.members + 1)) [
  | inl other ↦ inr (λ last. other.2 (last.alone other.0 other.1))
  | inr none ↦ by_role (is_writer (roles_of s.chain who)) refl none
]
  where
    by_role : (b : Bool) → is_writer (roles_of s.chain who) ≡ b → ((q : ℕ) → q < length s.members + 1 → is_writer (roles_of s.chain q) ≡ true → q ≡ who) → (IsLastWriter (roles_of s.chain) who) ⊎ (IsLastWriter (roles_of s.chain) who → ⊥)
    by_role true e none = inl (record { writes = e; alone = λ q writes. none q (let within = members_declared s q good (some_writer (roles_of s.chain q) writes) in let le = within.1 in omega arith) writes })
    by_role false e none = inr (λ last. let no : true ≡ false = sym last.writes ∙ e in cc)
