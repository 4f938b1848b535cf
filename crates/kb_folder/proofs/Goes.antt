-- A put as the plain machine's step.
use Rattle.std.proofs.Common.{◌≡◌, ◌≢◌, ℕ, suc, ◌+◌, ◌≤◌, Bool, true, false, List, [], ◌∷◌, ◌++◌, length, Result, Ok, Err, inl, inr, refl, sym, ap, subst, ◌∙◌, arith}
use Rattle.std.specs.Prelude.{reverse}
use Rattle.std.specs.FinMap.{get}
use Rattle.std.proofs.lemmas.List.{length-reverse}
use Rattle.kb_blocks.specs.Stores.{Collides}
use Rattle.kb_snap.specs.Chains.{Chain, most_revisions}
use Rattle.kb_snap.specs.Answers.{PutFault}
use Rattle.kb_snap.specs.Answers as says
use Rattle.kb_snap.specs.Members.{is_allowed}
use Rattle.kb_snap.specs.Puts.{Ask, IsNext, PutStep}
use Rattle.kb_snap.specs.Lawful.{IsLawful, Follows}
use Rattle.kb_snap.specs.PutForms.{PutGoes}
use Rattle.kb_snap.proofs.Lawful.{lawful_push}
use Rattle.kb_chain.specs.declared.states.FolderRequest.{FolderRequest}
use Rattle.kb_chain.specs.declared.states.PutRefusal.{PutRefusal}
use Rattle.kb_chain.specs.declared.states.PutRefusal.TheVariants as why
use Rattle.kb_folder.specs.Chains.{Back, Names}
use Rattle.kb_folder.specs.Reading.{IsChain}
use Rattle.kb_folder.specs.Puts.{Held, Puts}
use Rattle.kb_folder.specs.Lands.{FolderStands, FolderStep, chain_after}
use Rattle.kb_folder.specs.Goes.{Grows, Means, HasChain, IsFor}
use Rattle.kb_folder.proofs.Turning.{turned}
use Rattle.kb_folder.proofs.Standing.{stands_length}
use Rattle.kb_folder.proofs.Readings.{chain_of}
use Rattle.kb_folder.proofs.Stepping.{answers}

not_true : (b : Bool) → (b ≡ true → ⊥) → b ≡ false
not_true true h = absurd (h refl)
not_true false h = refl

-- where each revision may follow and there was room for it, the machine's chain is lawful
pub lawful_back : (registered : ℕ) (c : Back) → IsChain registered c → length c ≤ most_revisions → IsLawful (reverse c)
lawful_back registered [] h few = tt
lawful_back registered (x ∷ c) h few =
    let size : length (reverse c) ≡ length c = length-reverse c in
    let f = h.1 in
    let next : Follows (reverse c) x = record { allowed = f.allowed; room = omega (arith, size, few); own = f.own; counts = f.counts; fits = f.fits } in
    subst IsLawful (sym (turned x c)) (lawful_push [] (reverse c) x (lawful_back registered c h.0 (omega (arith, few))) next)

module _ (sealed signed : List ℕ → List ℕ → List ℕ) (hashed : List ℕ → List ℕ) (seed : List ℕ) (names : Names) where
  pub lawful_chain : (f : Held) (c : Chain) → HasChain sealed signed hashed seed names f c → IsLawful c
  lawful_chain f c h =
      let s = h.stands in
      let size : length f.revisions ≡ length h.back = stands_length sealed signed hashed seed names f.state.registered (get f.blocks) f.revisions h.back s.stands in
      let counted = s.sound.counted in let within = s.sound.within in let limit = h.limit in
      subst IsLawful (sym h.turned) (lawful_back f.state.registered h.back (chain_of sealed signed hashed seed names f.state.registered (get f.blocks) f.revisions h.back s.stands) (omega (arith, size, counted, within, limit)))

  module _ (f new : Held) (request : FolderRequest) (c : Chain) (ask : Ask) (has : HasChain sealed signed hashed seed names f c) (own : IsFor sealed signed hashed seed names f request ask) where
    led : (result : Result ℕ PutRefusal) → Puts signed hashed f request new result → result ≢ Err why.Memory
        → FolderStep f.limit has.back ask.revision.writer ask.number (Collides hashed f.blocks request.blocks) result × FolderStands sealed signed hashed seed names new (chain_after has.back ask.revision result)
    led result p some = answers sealed signed hashed seed names f new has.back request ask.revision ask.number has.stands (own.own has.back has.stands) result p some

    size : length c ≡ length has.back
    size = ap length has.turned ∙ length-reverse has.back

    may : is_allowed (reverse has.back) ask.revision.writer ≡ true → is_allowed c ask.revision.writer ≡ true
    may h = ap (λ l. is_allowed l ask.revision.writer) has.turned ∙ h

    is_next : is_allowed (reverse has.back) ask.revision.writer ≡ true → ask.number ≡ length has.back + 1 → IsNext c ask
    is_next h n = record { allowed = may h; number = n ∙ ap (λ k. k + 1) (sym size) }

    stay : new ≡ f → HasChain sealed signed hashed seed names new c
    stay e = subst (λ (g : Held). HasChain sealed signed hashed seed names g c) (sym e) has

    -- the machine goes on by this answer
    abbrev Led : Result ℕ PutFault → Type 0
    Led answer = (c' : Chain) × PutStep c ask answer c' × HasChain sealed signed hashed seed names new c'

    pub goes : (result : Result ℕ PutRefusal) (answer : Result ℕ PutFault) → Puts signed hashed f request new result → Means result answer → Led answer
    goes (Ok n) answer p is =
        let to = led (Ok n) p (λ e. cc) in
        let room = to.0.2 in let limit = has.limit in let len = size in
        subst Led (sym is) (
          c ++ ask.revision ∷ [],
          (is_next to.0.0 to.0.1, omega (arith, room, limit, len), to.0.3, refl),
          record { back = ask.revision ∷ has.back; turned = ap (λ l. l ++ ask.revision ∷ []) has.turned ∙ sym (turned ask.revision has.back); stands = to.1; limit = p.limit ∙ has.limit },
        )
    goes (Err why.NotWriter) answer p is =
        let to = led (Err why.NotWriter) p (λ e. cc) in
        subst Led (sym is) (c, (not_true (is_allowed c ask.revision.writer) (λ h. to.0 (ap (λ l. is_allowed l ask.revision.writer) (sym has.turned) ∙ h)), refl), stay p.1)
    goes (Err (why.Stale len head)) answer p is =
        let to = led (Err (why.Stale len head)) p (λ e. cc) in
        subst Led (sym is) (c, (may to.0.0, (λ e. to.0.1 (e ∙ ap (λ k. k + 1) size)), to.0.2 ∙ sym size, refl), stay p.1)
    goes (Err why.ChainEnd) answer p is =
        let to = led (Err why.ChainEnd) p (λ e. cc) in
        let end = to.0.2 in let limit = has.limit in let len = size in
        subst Led (sym is) (c, (is_next to.0.0 to.0.1, omega (arith, end, limit, len), refl), stay p.1)
    goes (Err (why.Collision id)) answer p is =
        let to = led (Err (why.Collision id)) p (λ e. cc) in
        let room = to.0.2 in let limit = has.limit in let len = size in
        subst Led (sym is) (c, (is_next to.0.0 to.0.1, omega (arith, room, limit, len), refl), stay p.1)
    goes (Err why.BadRevision) answer p is = absurd is
    goes (Err why.BadSignature) answer p is = absurd is
    goes (Err (why.SeqGap expected)) answer p is = absurd is
    goes (Err why.BadFit) answer p is = absurd is
    goes (Err why.Memory) answer p is = absurd is

    pub means : (result : Result ℕ PutRefusal) → Puts signed hashed f request new result → result ≢ Err why.Memory → (answer : Result ℕ PutFault) × Means result answer
    means (Ok n) p some = (Ok n, refl)
    means (Err why.NotWriter) p some = (Err says.PutFault.NotWriter, refl)
    means (Err (why.Stale len head)) p some = (Err (says.PutFault.Stale len), refl)
    means (Err why.ChainEnd) p some = (Err says.PutFault.ChainEnd, refl)
    means (Err (why.Collision id)) p some = (Err (says.PutFault.Collision id), refl)
    means (Err why.Memory) p some = absurd (some refl)
    means (Err why.BadRevision) p some = absurd (led (Err why.BadRevision) p some).0
    means (Err why.BadSignature) p some = absurd (led (Err why.BadSignature) p some).0
    means (Err (why.SeqGap expected)) p some = absurd (led (Err (why.SeqGap expected)) p some).0
    means (Err why.BadFit) p some = absurd (led (Err why.BadFit) p some).0

  grown : (f new : Held) (request : FolderRequest) (result : Result ℕ PutRefusal) → Puts signed hashed f request new result → Grows f new
  grown f new request (Ok n) p = inr (record { bytes = request.revision; revisions = p.revisions; blocks = p.kept; registered = p.state.registered })
  grown f new request (Err e) p = inl p.1

  -- a request for an earlier revision extends nothing
  pub requests_stay : (f new : Held) (c more : Chain) (request : FolderRequest) (ask : Ask) → Grows f new → HasChain sealed signed hashed seed names f c → HasChain sealed signed hashed seed names new (c ++ more)
      → IsFor sealed signed hashed seed names f request ask → IsFor sealed signed hashed seed names new request ask
  requests_stay f new c more request ask (inl e) has has_more own = subst (λ (g : Held). IsFor sealed signed hashed seed names g request ask) (sym e) own
  requests_stay f new c more request ask (inr p) has has_more own =
      let one : length new.revisions ≡ suc (length f.revisions) = ap length p.revisions in
      let most = own.within in
      record {
        within = omega (arith, one, most);
        own = λ back stands.
            let was = own.own has.back has.stands in
            let size : length new.revisions ≡ length back = stands_length sealed signed hashed seed names new.state.registered (get new.blocks) new.revisions back stands.stands in
            record {
              revision = was.revision;
              is = was.is;
              spelled = was.spelled;
              writer = was.writer;
              number_is = was.number_is;
              registered = (was.registered.0, subst (λ k. ask.revision.writer ≤ k) (sym p.registered) was.registered.1);
              signature = was.signature;
              extends = λ allowed next. absurd (omega (arith, one, most, size, next));
            };
      }

  pub put_goes : (f new : Held) (request : FolderRequest) (result : Result ℕ PutRefusal) (answer : Result ℕ PutFault) → Puts signed hashed f request new result → Means result answer
      → PutGoes Grows (HasChain sealed signed hashed seed names) (IsFor sealed signed hashed seed names) f new request answer
  put_goes f new request result answer p is c ask lawful extends has own =
      let to = goes f new request c ask has own result answer p is in
      (to.0, to.1, grown f new request result p, to.2)
