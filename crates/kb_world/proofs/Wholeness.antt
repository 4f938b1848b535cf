-- A folder with a chain is whole under the names of its devices, so an audit says so.
use Rattle.std.proofs.Common.{◌≡◌, ◌⊎◌, ℕ, ◌+◌, ◌-◌, ◌^◌, ◌≤◌, ◌<◌, List, [], ◌∷◌, length, map, Some, Result, Ok, Err, inl, inr, refl, sym, ap, ◌∙◌, subst, arith}
use Rattle.std.specs.Prelude.{reverse, slice_get}
use Rattle.std.specs.FinMap as fin
use Rattle.std.specs.Option.{option_map}
use Rattle.std.proofs.lemmas.List.{length-map, length-reverse, reverse-reverse}
use Rattle.std.proofs.lemmas.Option.{slice_get-map}
use Rattle.sha2.specs.Sha256.{sha256}
use Rattle.kb_edge.specs.declared.disk.Disk.{Ghosts}
use Rattle.kb_seal.specs.declared.sealer.Sealer.{Ghosts as Seals}
use Rattle.kb_seal.specs.Sealing.{seal_by_hmac, sign_by_hmac}
use Rattle.kb_blocks.specs.declared.hashing.BlockHash.{Ghosts as Hashes}
use Rattle.kb_blocks.specs.Entries.{id_cmp}
use Rattle.kb_keys.specs.declared.halves.Half.{Half}
use Rattle.kb_files.specs.Opens.{Blocks}
use Rattle.kb_snap.specs.Chains.{Chain}
use Rattle.kb_snap.proofs.Lists.{member_at}
use Rattle.kb_folder.specs.Chains.{Plain, Back, Names, Follows}
use Rattle.kb_folder.specs.Stands.{Revisions, Stands, IsWritten, HalvesStand}
use Rattle.kb_folder.specs.Puts.{Held}
use Rattle.kb_folder.specs.Held.{held}
use Rattle.kb_folder.specs.Goes.{HasChain}
use Rattle.kb_folder.proofs.Behind.{may_follow}
use Rattle.kb_folder.proofs.Readings.{chain_of}
use Rattle.kb_folder.proofs.Standing.{stands_length}
use Rattle.kb_audit.specs.declared.faults.AuditWhy.{AuditWhy}
use Rattle.kb_audit.specs.declared.faults.AuditFault.{AuditFault}
use Rattle.kb_audit.specs.declared.faults.AuditFault.TheVariants.{At, Memory}
use Rattle.kb_audit.specs.Audits.{IsWhole, Audits}
use Rattle.kb_audit.specs.Laws.{WholeIsTold}
use Rattle.kb_audit.specs.Stepping.{name_in, name_at}
use Rattle.kb_audit.proofs.Members.{writer_from}
use Rattle.kb_lines.specs.declared.lines.Line.{Line}
use Rattle.kb_lines.specs.declared.lines.Line.TheVariants as line
use Rattle.kb_world.specs.Statements.{Audited, AuditChain}
use Rattle.kb_world.specs.Machine.{State}
use Rattle.kb_world.specs.Doing.{Tells}
use Rattle.kb_world.specs.Listing.{AreNamed}
use Rattle.kb_world.specs.Standing.{WorldStands, IsStanding}
use Rattle.kb_world.specs.declared.declared.Declared.{Declared}
use Rattle.kb_world.specs.declared.world.World.{World}
use Rattle.kb_world.proofs.WorldChain.{are_named}

-- the devices up to this number have the same names
abbrev Agree : ℕ → Names → Names → Type 0
Agree n names other = (d : ℕ) → 1 ≤ d → d ≤ n → names d ≡ other d

module _ (sealed signed : List ℕ → List ℕ → List ℕ) (hashed : List ℕ → List ℕ) (seed : List ℕ) where
  -- revisions stand under other names of the registered devices too, since only these write
  renamed : (names other : Names) (registered : ℕ) → registered ≤ 32 → (blocks : Blocks) → Agree registered names other → (bs : Revisions) (c : Back) → Stands sealed signed hashed seed names registered blocks bs c → Stands sealed signed hashed seed other registered blocks bs c
  renamed names other registered top blocks agree [] [] h = tt
  renamed names other registered top blocks agree [] (x ∷ c) h = absurd h
  renamed names other registered top blocks agree (b ∷ bs) [] h = absurd h
  renamed names other registered top blocks agree (b ∷ bs) (x ∷ c) h = (renamed names other registered top blocks agree bs c h.0, written h.1, h.2)
    where
      by : names x.writer ≡ other x.writer
      by = let w = writer_from registered top c (chain_of sealed signed hashed seed names registered blocks bs c h.0) x.writer (may_follow registered c x h.2) in agree x.writer w.1 w.2

      written : IsWritten sealed signed hashed seed names blocks bs c b x → IsWritten sealed signed hashed seed other blocks bs c b x
      written w =
          let s = w.spells in
          record {
            spells = record {
              revision = s.revision;
              is = s.is;
              spelled = s.spelled;
              number = s.number;
              previous = s.previous;
              kind = s.kind;
              writer = s.writer;
              name = s.name ∙ by;
              moment = s.moment;
              generation = s.generation;
              seqs = s.seqs;
              bundle = s.bundle;
              signature = s.signature;
              private = s.private;
              is_private = s.is_private;
              opens = s.opens;
              base = s.base;
              ops = s.ops;
            };
            held = w.held;
          }

  module _ (names : Names) (f : Held) (c : Chain) (h : HasChain sealed signed hashed seed names f c) where
    -- the chain is as long as the revisions are many
    pub as_many : (texts : List (List ℕ)) → texts ≡ reverse f.revisions → length texts ≡ length c
    as_many texts are = ap length are ∙ length-reverse f.revisions ∙ stands_length sealed signed hashed seed names f.state.registered (fin.get f.blocks) f.revisions h.back h.stands.stands ∙ sym (length-reverse h.back) ∙ sym (ap length h.turned)

    pub few_named : (n : ℕ) → f.state.registered ≡ n → n ≤ 32
    few_named n is = subst (λ k. k ≤ 32) is h.stands.sound.few

    pub few_revisions : (texts : List (List ℕ)) → texts ≡ reverse f.revisions → length texts < 2 ^ 32
    few_revisions texts are =
        let n : length texts ≡ length f.revisions = ap length are ∙ length-reverse f.revisions in
        let sound = h.stands.sound in
        let a = sound.counted in
        let b = sound.within in
        let most = sound.limit in
        omega (arith, n, a, b, most)

    module _ (own : List (List ℕ)) (registered : f.state.registered ≡ length own) (agree : Agree (length own) names (name_at own)) (texts : List (List ℕ)) (texts_are : texts ≡ reverse f.revisions) (store : fin.FinMap id_cmp (List ℕ)) (store_is : store ≡ f.blocks) (halves : List Half) (halves_are : halves ≡ f.halves) where
      whole : IsWhole sealed signed hashed seed (name_at own) (length own) (fin.get store) texts halves
      whole =
          let top = few_named (length own) registered in
          let as_registered = subst (λ n. Stands sealed signed hashed seed names n (fin.get f.blocks) f.revisions h.back) registered h.stands.stands in
          let under = renamed names (name_at own) (length own) top (fin.get f.blocks) agree f.revisions h.back as_registered in
          let stored = subst (λ (m : fin.FinMap id_cmp (List ℕ)). Stands sealed signed hashed seed (name_at own) (length own) (fin.get m) f.revisions h.back) (sym store_is) under in
          record {
            chain = h.back;
            stands = subst (λ bs. Stands sealed signed hashed seed (name_at own) (length own) (fin.get store) bs h.back) (sym (ap reverse texts_are ∙ reverse-reverse f.revisions)) stored;
            halves_stand = subst (HalvesStand seed h.back) (sym halves_are) h.stands.halves;
          }

      -- so no audit tells a reason
      pub never_bad : WholeIsTold sealed signed hashed → (fault : AuditFault) (number : ℕ) (why : AuditWhy) → fault ≡ At number why → Audits sealed signed hashed seed (name_at own) (length own) (fin.get store) texts halves (Err fault) → ⊥
      never_bad law fault number why is told = elim (law seed (name_at own) (length own) (fin.get store) texts halves (Err fault) (few_named (length own) registered) whole told) [ inl e ↦ cc | inr e ↦ cc ]

module _ {D S H : Type 0} {disks : Ghosts D} {sealers : Seals S} {hashes : Hashes H} where
  pub sized : (devices : List (Declared D S H disks sealers hashes)) (own : List (List ℕ)) → own ≡ map (λ x. x.name) devices → length own ≡ length devices
  sized devices own are = ap length are ∙ length-map devices (λ x. x.name)

  -- the names in their order are those of the devices
  pub named_so : (names : Names) (devices : List (Declared D S H disks sealers hashes)) (own : List (List ℕ)) → own ≡ map (λ x. x.name) devices → AreNamed names devices → Agree (length own) names (name_at own)
  named_so names devices own are named d low high =
      let size = sized devices own are in
      let m = member_at devices (d - 1) (omega (arith, low, high, size)) in
      let here : slice_get own (d - 1) ≡ Some m.0.name = ap (λ l. slice_get l (d - 1)) are ∙ slice_get-map (λ x. x.name) devices (d - 1) ∙ ap (option_map (λ x. x.name)) m.1 in
      let back : d - 1 + 1 ≡ d = omega (arith, low) in
      ap names (sym back) ∙ sym (named (d - 1) m.0 m.1) ∙ sym (ap name_in here)

module _ {M D : Type 0} {disks : Ghosts D} (w : World M D disks) where
  -- what an audit of the world's folder asks
  pub can_audit : (devices : List (Declared D _ _ disks _ _)) → devices ≡ w.devices.items → (secrets : List ℕ) → secrets ≡ w.seed → IsStanding w
      → (names : Names) × (c : Chain) × HasChain seal_by_hmac sign_by_hmac sha256 secrets names (held w.folder) c × AreNamed names devices × ((held w.folder).state.registered ≡ length devices)
  can_audit devices is secrets are stands =
      let names = stands.0 in
      let s = stands.1 in
      let h = stands.2 in
      (names, s.chain, subst (λ k. HasChain seal_by_hmac sign_by_hmac sha256 k names (held w.folder) s.chain) (h.seed ∙ sym are) h.folder, are_named w devices is names s h, h.registered ∙ sym h.count ∙ sym (ap length is))

  -- and what its line tells
  pub tells_whole : (l : Line) → ((seed : List ℕ) (names : Names) (c : Chain) → HasChain seal_by_hmac sign_by_hmac sha256 seed names (held w.folder) c → l ≡ line.Whole (length c)) → (names : Names) (s : State) → WorldStands names w s
      → Tells names 0 s AuditChain l (λ reply. Unit {0}) s
  tells_whole l is names s h = record { reply = Audited (length s.chain); step = (refl, refl); line_is = ap (λ x. x ∷ []) (sym (is s.seed names s.chain h.folder)); so = tt }
