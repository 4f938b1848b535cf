-- A device stands for its part while the folder goes on.
use Rattle.std.proofs.Common.{◌≡◌, ℕ, zero, suc, ◌≤◌, ◌<◌, false, List, [], ◌∷◌, ◌++◌, length, map, drop, reverse, Option, None, Some, MatchOption, inl, inr, refl, sym, ap, subst, ◌∙◌, arith}
use Rattle.std.specs.Prelude.{slice_index_or}
use Rattle.std.specs.FinMap.{get}
use Rattle.std.proofs.lemmas.List.{length-map, length-reverse, reverse-append, map-append, take-append-le}
use Rattle.std.proofs.lemmas.List.Elements.{All-contains}
use Rattle.sha2.specs.Sha256.{sha256}
use Rattle.kb_ops.specs.Trees.{look}
use Rattle.kb_ranges.specs.Patches.{StaysIn}
use Rattle.kb_device.specs.Caches.{Cache, known_in}
use Rattle.kb_device.proofs.Shared.{known_longer, all_within}
use Rattle.kb_device.proofs.OldFiles.{old_within}
use Rattle.kb_snap.specs.Chains.{Chain}
use Rattle.kb_device.specs.Journals.{plain}
use Rattle.kb_device.specs.Parts.{Part, closed}
use Rattle.kb_device.specs.Meets.{Meets, PartMeets}
use Rattle.kb_device.specs.Disks.{hash_at, IsKept}
use Rattle.kb_snap.proofs.Chains.{tree_longer}
use Rattle.kb_folder.specs.Chains.{Names}
use Rattle.kb_folder.specs.Stands.{Revisions, keys_to}
use Rattle.kb_folder.specs.Puts.{Held}
use Rattle.kb_folder.specs.Goes.{HasChain, Grows}
use Rattle.kb_folder.proofs.Standing.{stands_length}
use Rattle.kb_device.proofs.Remember.{longer}
use Rattle.kb_device.specs.Inside.{Inside}
use Rattle.kb_device.specs.Behind.{all_ops, are_plain}
use Rattle.kb_device.specs.Stands.{Platter, Member, hashes_of, DiskStands, SessionStands, DeviceStands}
use Rattle.kb_device.specs.Forms.{StandsLonger}

-- ---- the hashes of a longer chain

front : (hs xs : List (List ℕ)) (r : ℕ) → r < length hs → slice_index_or (hs ++ xs) r [] ≡ slice_index_or hs r []
front [] xs r lt = absurd (omega arith)
front (h ∷ hs) xs zero lt = refl
front (h ∷ hs) xs (suc r) lt = front hs xs r (omega arith)

hash_more : (hs xs : List (List ℕ)) (k : ℕ) → k ≤ length hs → hash_at (hs ++ xs) k ≡ hash_at hs k
hash_more hs xs zero le = refl
hash_more hs xs (suc r) le = front hs xs r (omega arith)

pub hashes_push : (b : List ℕ) (bs : Revisions) → hashes_of (b ∷ bs) ≡ hashes_of bs ++ sha256 b ∷ []
hashes_push b bs = ap (map sha256) (reverse-append (b ∷ []) bs) ∙ map-append sha256 (reverse bs) (b ∷ [])

pub length-hashes : (bs : Revisions) → length (hashes_of bs) ≡ length bs
length-hashes bs = length-map (reverse bs) sha256 ∙ length-reverse bs

pub hash_longer : (b : List ℕ) (bs : Revisions) (k : ℕ) → k ≤ length bs → hash_at (hashes_of (b ∷ bs)) k ≡ hash_at (hashes_of bs) k
hash_longer b bs k le =
    ap (λ hs. hash_at hs k) (hashes_push b bs)
    ∙ hash_more (hashes_of bs) (sha256 b ∷ []) k (let e = length-hashes bs in omega (arith, le, e))

pub hash_grown : (f new : Held) → Grows f new → (k : ℕ) → k ≤ length f.revisions → hash_at (hashes_of new.revisions) k ≡ hash_at (hashes_of f.revisions) k
hash_grown f new (inl e) k le = ap (λ (g : Held). hash_at (hashes_of g.revisions) k) e
hash_grown f new (inr p) k le = ap (λ bs. hash_at (hashes_of bs) k) p.revisions ∙ hash_longer p.bytes f.revisions k le

pub blocks_grown : (f new : Held) → Grows f new → (id b : List ℕ) → get f.blocks id ≡ Some b → get new.blocks id ≡ Some b
blocks_grown f new (inl e) id b at = ap (λ (g : Held). get g.blocks id) e ∙ at
blocks_grown f new (inr p) id b at = p.blocks id b at

registered_grown : (f new : Held) → Grows f new → new.state.registered ≡ f.state.registered
registered_grown f new (inl e) = ap (λ (g : Held). g.state.registered) e
registered_grown f new (inr p) = p.registered

module _ (sealed signed : List ℕ → List ℕ → List ℕ) (hashed : List ℕ → List ℕ) (seed : List ℕ) (names : Names) where
  pub chain_length : (f : Held) (c : Chain) → HasChain sealed signed hashed seed names f c → length c ≡ length f.revisions
  chain_length f c has = ap length has.turned ∙ length-reverse has.back ∙ sym (stands_length sealed signed hashed seed names f.state.registered (get f.blocks) f.revisions has.back has.stands.stands)

  module _ (d : ℕ) (f new : Held) (c more : Chain) (p : Part) (grows : Grows f new) (has : HasChain sealed signed hashed seed names f c) (part : PartMeets d c p) where
    kept_longer : (image : List ℕ) → IsKept (hashes_of f.revisions) p.may image → IsKept (hashes_of new.revisions) p.may image
    kept_longer image k =
        let m = All-contains (Meets d c) p.may (plain k.state) part.may k.one_of in
        record {
          state = k.state;
          has = k.has;
          one_of = k.one_of;
          hash = k.hash ∙ sym (hash_grown f new grows k.state.known (let le = m.within in let e = chain_length f c has in omega (arith, le, e)));
        }

    pub disk_longer : (disk : Platter) → DiskStands f.revisions disk p → DiskStands new.revisions disk p
    disk_longer disk h = record { images = λ image may. kept_longer image (h.images image may); area = h.area; left = h.left }

    known_grown : (cache : Cache) → StaysIn (known_in cache (get f.blocks)) (known_in cache (get new.blocks))
    known_grown cache = known_longer cache (get f.blocks) (get new.blocks) (blocks_grown f new grows)

    pub session_longer : (s : Inside) → SessionStands sealed signed hashed seed names f c s p → SessionStands sealed signed hashed seed names new (c ++ more) s p
    session_longer s h = record {
      at = h.at;
      running = h.running;
      base = h.base;
      shown = h.shown;
      role = h.role;
      remembers = longer sealed signed hashed seed names f new c more s.journal.known s.journal.hash s.generation s.kept s.cache has h.remembers grows;
      held = all_within sealed hashed (known_in s.cache (get f.blocks)) (known_in s.cache (get new.blocks)) (keys_to seed s.generation) (look s.base) s.kept (known_grown s.cache) h.held;
      written = λ op rest old queue one is. (let was = h.written op rest old queue one is in (old_within sealed hashed (known_in s.cache (get f.blocks)) (known_in s.cache (get new.blocks)) (keys_to seed s.generation) s.base op.change old (known_grown s.cache) was.0, was.1));
      ring = h.ring;
      flight = h.flight;
      plan = h.plan;
      planned = λ x is.
          let y = h.planned x is in
          record {
            merged = y.merged ∙ sym (tree_longer c more x.number y.remembers.within);
            remembers = longer sealed signed hashed seed names f new c more x.number x.hash x.generation x.kept x.cache has y.remembers grows;
            ring = y.ring;
            base = y.base ∙ sym (tree_longer c more s.journal.known h.remembers.within);
            ops = y.ops ∙ ap (λ l. all_ops (drop s.journal.known l)) (sym (take-append-le x.number c more y.remembers.within));
            plain = y.plain ∙ ap (λ l. are_plain (drop s.journal.known l)) (sym (take-append-le x.number c more y.remembers.within));
          };
    }

    inside_longer : (o : Option Inside) → MatchOption o (p.is_open ≡ false) (λ s. SessionStands sealed signed hashed seed names f c s p) → MatchOption o (p.is_open ≡ false) (λ s. SessionStands sealed signed hashed seed names new (c ++ more) s p)
    inside_longer None h = h
    inside_longer (Some s) h = session_longer s h

    pub device_longer : (v : Member) → DeviceStands sealed signed hashed seed names d f c v p → DeviceStands sealed signed hashed seed names d new (c ++ more) v p
    device_longer v h = record {
      number = h.number;
      name = h.name;
      secret = h.secret;
      registered = (h.registered.0, subst (λ n. d ≤ n) (sym (registered_grown f new grows)) h.registered.1);
      disk = disk_longer v.disk h.disk;
      session = inside_longer v.inside h.session;
    }

    -- and once its session has ended, on the same disk, it stands for the closed part under any chain
    pub closed_longer : (c' : Chain) (v : Member) (now : Platter) → now ≡ v.disk → DeviceStands sealed signed hashed seed names d f c v p → DeviceStands sealed signed hashed seed names d new c' (record v { disk = now; inside = None }) (closed p)
    closed_longer c' v now same h =
        let disk = disk_longer v.disk h.disk in
        record {
          number = h.number;
          name = h.name;
          secret = h.secret;
          registered = (h.registered.0, subst (λ n. d ≤ n) (sym (registered_grown f new grows)) h.registered.1);
          disk = subst (λ (x : Platter). DiskStands new.revisions x (closed p)) (sym same) (record { images = disk.images; area = disk.area; left = disk.left });
          session = refl;
        }

  pub stands_longer : StandsLonger sealed signed hashed seed names
  stands_longer d f new c more v p grows has has' part h = device_longer d f new c more p grows has part v h
