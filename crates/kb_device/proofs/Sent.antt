-- A flight that lands, and what stays of it.
use Rattle.std.proofs.Common.{◌≡◌, ℕ, suc, ◌≤◌, List, [], ◌∷◌, length, Some, inl, inr, sym, ap, subst, ◌∙◌, arith}
use Rattle.std.specs.List.{AllByRecursion}
use Rattle.std.specs.FinMap.{get}
use Rattle.sha2.specs.Sha256.{sha256}
use Rattle.kb_ops.specs.Trees.{look}
use Rattle.kb_files.proofs.Kept.{all_stored}
use Rattle.kb_chain.specs.declared.states.FolderRequest.{FolderRequest}
use Rattle.kb_snap.specs.Chains.{Chain}
use Rattle.kb_device.specs.Parts.{Part}
use Rattle.kb_folder.specs.Chains.{Names}
use Rattle.kb_folder.specs.Stands.{keys_to}
use Rattle.kb_folder.specs.Puts.{Held, Puts, Adds}
use Rattle.kb_folder.specs.Goes.{HasChain, Grows}
use Rattle.kb_device.specs.Remembering.{hash_at}
use Rattle.kb_device.specs.Inside.{Aloft, Inside}
use Rattle.kb_device.specs.Stands.{Member, DeviceStands}
use Rattle.kb_device.specs.Noting.{HasLanded, Sent}
use Rattle.kb_device.specs.Caches.{known_in}
use Rattle.kb_device.proofs.Shared.{known_longer, known_all, all_within}
use Rattle.kb_device.specs.Answering.{SentLands, AnswersStay}
use Rattle.kb_device.proofs.Longer.{blocks_grown, chain_length}
use Rattle.kb_device.proofs.Hashes.{back_longer, last_back}

module _ (sealed signed : List ℕ → List ℕ → List ℕ) (hashed : List ℕ → List ℕ) (seed : List ℕ) (names : Names) where
  grown_hash : (f new : Held) → Grows f new → (k : ℕ) → k ≤ length f.revisions → hash_at new.revisions k ≡ hash_at f.revisions k
  grown_hash f new (inl e) k le = ap (λ (g : Held). hash_at g.revisions k) e
  grown_hash f new (inr p) k le = ap (λ bs. hash_at bs k) p.revisions ∙ back_longer p.bytes f.revisions k le

  module _ (d : ℕ) (f new : Held) (c : Chain) (v : Member) (p : Part) (request : FolderRequest) (has : HasChain sealed signed hashed seed names f c) (h : DeviceStands sealed signed hashed seed names d f c v p) (sent : Sent sealed hashed seed f request v) where
    lands : (n : ℕ) → Adds signed hashed f request new n → (s : Inside) (a : Aloft) → v.inside ≡ Some s → s.aloft ≡ Some a → n ≡ a.flight.number → HasLanded sealed hashed seed new s a (sha256 request.revision)
    lands n added s a was flies is =
        let stored : AllByRecursion (λ b. get new.blocks (hashed b) ≡ Some b) request.blocks = subst (λ m. AllByRecursion (λ b. get m (hashed b) ≡ Some b) request.blocks) (sym added.blocks) (all_stored hashed f.blocks [] request.blocks added.free) in
        let here : a.flight.number ≡ suc (length f.revisions) = sym is ∙ added.number_is ∙ (let e = has.stands.sound.counted in omega (arith, e)) in
        record {
          hash_is = sym (ap (λ bs. hash_at bs a.flight.number) added.revisions ∙ ap (hash_at (request.revision ∷ f.revisions)) here ∙ last_back request.revision f.revisions);
          held =
              let r = sent s a was flies in
              r.holds (known_in s.cache (get new.blocks)) (keys_to seed s.generation) (λ id b at. known_longer s.cache (get f.blocks) (get new.blocks) added.kept id b (r.within id b at)) (λ n key at. at) (known_all hashed s.cache (get new.blocks) request.blocks r.cached stored);
        }

  pub sent_lands : SentLands sealed signed hashed seed names
  sent_lands d f new c v p request answer has h sent puts hash numbers = λ s a n was flies ok.
      subst (HasLanded sealed hashed seed new s a) (sym hash)
      (lands d f new c v p request has h sent n (subst (Puts signed hashed f request new) ok puts) s a was flies (numbers s a n was flies ok))

  -- what was sent stays so
  pub sent_stays : (f new : Held) (v : Member) (request : FolderRequest) → Grows f new → Sent sealed hashed seed f request v → Sent sealed hashed seed new request v
  sent_stays f new v request grows sent = λ s a was flies.
      let r = sent s a was flies in
      record { few = r.few; within = λ id b at. known_longer s.cache (get f.blocks) (get new.blocks) (blocks_grown f new grows) id b (r.within id b at); cached = r.cached; holds = r.holds }

  pub answers_stay : AnswersStay sealed signed hashed seed names
  answers_stay f new c v answer grows has stands within = λ s a n was flies ok.
      let h = stands s a n was flies ok in
      record {
        hash_is = h.hash_is ∙ sym (grown_hash f new grows a.flight.number (let le = within s a was flies in let e = chain_length sealed signed hashed seed names f c has in omega (arith, le, e)));
        held = all_within sealed hashed (known_in s.cache (get f.blocks)) (known_in s.cache (get new.blocks)) (keys_to seed s.generation) (look s.base) a.kept (known_longer s.cache (get f.blocks) (get new.blocks) (blocks_grown f new grows)) h.held;
      }
