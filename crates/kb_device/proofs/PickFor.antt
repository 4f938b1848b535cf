-- The request of a pick is for the machine's ask.
use Rattle.std.proofs.Common.{◌≡◌, ◌≢◌, ℕ, ◌+◌, ◌≤◌, Option, List, [], ◌∷◌, length, take, drop, min, sym, ap, subst, ◌∙◌, arith}
use Rattle.kb_ops.specs.declared.rows.Op.{Op}
use Rattle.kb_ops.specs.Trees.{Tree, fold_ops, FitAll}
use Rattle.kb_keys.specs.Secrets.{device_secret, folder_key}
use Rattle.kb_snap.specs.Pointers.{Kept}
use Rattle.kb_snap.specs.Chains.{Stepped, Chain, ops_of, tree_at, moment_of_last}
use Rattle.kb_snap.specs.Puts.{Ask}
use Rattle.kb_device.specs.Journals.{Journal}
use Rattle.kb_snap.specs.Lawful.{AreOf, CountsFrom}
use Rattle.kb_device.specs.Parts.{Flight, Part, Picks}
use Rattle.kb_device.specs.Meets.{NoneOf, Meets, FlightMeets, SessionMeets, PartMeets}
use Rattle.kb_device.proofs.PartSteps.{at_session, at_journal}
use Rattle.kb_device.proofs.Puts.{base_all}
use Rattle.kb_snap.proofs.Counts.{fit_take}
use Rattle.kb_chain.specs.declared.states.FolderRequest.{FolderRequest}
use Rattle.kb_folder.specs.Chains.{Names}
use Rattle.kb_folder.specs.Puts.{Held}
use Rattle.kb_folder.specs.Goes.{HasChain, IsFor}
use Rattle.kb_device.specs.Stepping.{step_ask, IsStepRequest, IsKnown}
use Rattle.kb_folder.specs.Stands.{keys_to}
use Rattle.kb_device.specs.Caches.{Cache}
use Rattle.kb_device.specs.declared.patching.OldFile.{OldFile}
use Rattle.kb_device.specs.Knowing.{KnowsStep}
use Rattle.kb_device.proofs.Step.{for}

first_one : (op : Op) (rest queue : List Op) → queue ≡ op ∷ rest → take (min 1 (length queue)) queue ≡ op ∷ []
first_one op rest queue e = subst (λ l. take (min 1 (length l)) l ≡ op ∷ []) (sym e) (ap (λ n. take n (op ∷ rest)) (let one : min 1 (length (op ∷ rest)) ≡ 1 = omega arith in one))

not_none : (c : Chain) → 1 ≤ length c → c ≢ []
not_none c some e = let none : length c ≡ 0 = ap length e in omega (arith, some, none)

module _ (sealed signed : List ℕ → List ℕ → List ℕ) (hashed : List ℕ → List ℕ) (one_plain : (k p q : List ℕ) → sealed k p ≡ sealed k q → p ≡ q) (seed : List ℕ) (names : Names) (f : Held) (c : Chain) (d : ℕ) (p q : Part) (flight : Flight) (ask : Ask)
    (op : Op) (rest : List Op) (part : PartMeets d c p) (step : Picks 1 d (names d) p flight ask q) (queue : step.journal.queue ≡ op ∷ rest) where
  abbrev j : Journal
  j = step.journal

  s : SessionMeets d c p j
  s = at_session d c p j part step.at

  m : Meets d c j
  m = at_journal d c p j part step.at.journal_is

  device_is : op.device ≡ d
  device_is = (subst (AreOf d) queue m.own).0

  number_is : flight.number ≡ j.known + 1
  number_is = ap (λ (k : Flight). k.number) step.flight_is

  -- what is asked for is a step of the first operation
  ask_is : ask ≡ step_ask flight.number (names op.device) op
  ask_is =
      let ops : take flight.count j.queue ≡ op ∷ [] = ap (λ (k : Flight). take k.count j.queue) step.flight_is ∙ first_one op rest j.queue queue in
      step.ask_is ∙ (λ i. record { number = flight.number; revision = record { writer = sym device_is i; name = names (sym device_is i); moment = moment_of_last (ops i); deed = Stepped (ops i) } })

  none : NoneOf d (drop j.known c)
  none = subst (FlightMeets d c j) step.free s.flight

  known : (generation : ℕ) (head : List ℕ) (t : Tree) (left : Kept) (cache : Cache) (old : Option OldFile) → t ≡ fold_ops (op ∷ []) p.base → flight.number ≡ length c + 1 → KnowsStep sealed hashed seed f c generation head t left op.change cache old → IsKnown sealed hashed seed f c generation head op t left cache old
  known generation head t left cache old tree next k =
      let last : j.known ≡ length c = (let e = number_is in omega (arith, e, next)) in
      let at : j.known ≡ length c → tree_at c j.known ≡ tree_at c (length c) = ap (tree_at c) in
      record {
        some = not_none c (let low = s.known in omega (arith, low, last));
        head_is = k.head_is;
        generation_is = k.generation_is;
        fits = subst (FitAll (op ∷ [])) (at last) (fit_take 1 (op ∷ rest) (tree_at c j.known) (subst (λ l. FitAll l (tree_at c j.known)) queue m.fit));
        tree = tree ∙ ap (fold_ops (op ∷ [])) (s.base ∙ at last);
        seq = (subst (CountsFrom (j.base + 1)) queue m.counts).0 ∙ ap (λ n. n + 1) (sym (base_all d c j m none)) ∙ ap (λ e. length (ops_of e c) + 1) (sym device_is);
        few = k.few;
        cached = k.cached;
        within = k.within;
        grounds = k.grounds;
      }

  pub picked : (generation : ℕ) (head : List ℕ) (t : Tree) (left : Kept) (cache : Cache) (old : Option OldFile) (request : FolderRequest) → HasChain sealed signed hashed seed names f c → t ≡ fold_ops (op ∷ []) p.base → (1 ≤ d) × (d ≤ f.state.registered)
      → (flight.number ≡ length c + 1 → KnowsStep sealed hashed seed f c generation head t left op.change cache old)
      → IsStepRequest sealed signed hashed (device_secret seed d) (folder_key seed generation) generation flight.number head op t left cache (keys_to seed generation) old request → IsFor sealed signed hashed seed names f request ask
  picked generation head t left cache old request has tree registered knows made =
      let within = m.within in let number = number_is in
      subst (λ (a : Ask). IsFor sealed signed hashed seed names f request a) (sym ask_is)
      (for sealed signed hashed one_plain seed names f generation flight.number head op t left cache old request
      (subst (λ e. IsStepRequest sealed signed hashed (device_secret seed e) (folder_key seed generation) generation flight.number head op t left cache (keys_to seed generation) old request) (sym device_is) made)
      c has (subst (λ e. (1 ≤ e) × (e ≤ f.state.registered)) (sym device_is) registered) (omega (arith, within, number)) (λ next. known generation head t left cache old tree next (knows next)))
