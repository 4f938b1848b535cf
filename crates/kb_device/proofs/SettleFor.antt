-- The request of a settle is for the machine's merge.
use Rattle.std.proofs.Common.{◌≡◌, ℕ, ◌+◌, ◌≤◌, ◌<◌, true, false, List, length, drop, Option, Some, None, refl, sym, ap, subst, ◌∙◌, arith}
use Rattle.kb_name.specs.Names.{is_device_name}
use Rattle.kb_name.specs.Moments.{last_second}
use Rattle.kb_ops.specs.Trees.{Tree, fold_ops}
use Rattle.kb_keys.specs.Secrets.{device_secret, folder_key}
use Rattle.kb_snap.specs.Pointers.{Kept}
use Rattle.kb_snap.specs.Chains.{Chain, tree_at, merged_tree, stamp_of}
use Rattle.kb_device.specs.Journals.{Journal}
use Rattle.kb_snap.specs.Lawful.{AreFew, FitsMerge, IsLawful}
use Rattle.kb_device.specs.Parts.{Flight, Part, HasPlan, tree_shown, merge_ask}
use Rattle.kb_device.specs.Meets.{NoneOf, Meets, FlightMeets, SessionMeets, PartMeets}
use Rattle.kb_device.proofs.PartSteps.{at_session, at_journal}
use Rattle.kb_device.proofs.Puts.{base_all}
use Rattle.kb_snap.proofs.MadeIds.{last_counts}
use Rattle.kb_device.proofs.Merging.{branch_meets}
use Rattle.kb_chain.specs.declared.states.FolderRequest.{FolderRequest}
use Rattle.kb_folder.specs.Chains.{Names}
use Rattle.kb_folder.specs.Puts.{Held}
use Rattle.kb_folder.specs.Goes.{HasChain, IsFor}
use Rattle.kb_folder.proofs.Goes.{lawful_chain}
use Rattle.kb_device.specs.Merging.{merge_plain, IsMergeRequest, IsMerging}
use Rattle.kb_device.specs.Knowing.{KnowsFolder}
use Rattle.kb_device.specs.SettlesFor.{branch_at}
use Rattle.kb_device.proofs.Merge.{for_merge}

module _ (sealed signed : List ℕ → List ℕ → List ℕ) (hashed : List ℕ → List ℕ) (one_plain : (k p q : List ℕ) → sealed k p ≡ sealed k q → p ≡ q) (seed : List ℕ) (names : Names) (f : Held) (c : Chain) (d moment plan : ℕ) (p : Part) (j : Journal)
    (part : PartMeets d c p) (has_plan : HasPlan p j plan) (named : is_device_name (names d) ≡ true) (timed : moment ≤ last_second) (few : AreFew (tree_at c plan) (tree_shown p j)) where
  s : SessionMeets d c p j
  s = at_session d c p j part has_plan.at

  m : Meets d c j
  m = at_journal d c p j part has_plan.at.journal_is

  marked : j.mark ≡ true
  marked = (s.plan plan has_plan.plan_is).0

  some : 0 < length j.queue
  some = m.marked marked

  -- a branch has no flight
  none : NoneOf d (drop j.known c)
  none = idle p.flight s.flight
    where
      idle : (o : Option Flight) → FlightMeets d c j o → NoneOf d (drop j.known c)
      idle None h = h
      idle (Some flight) h = absurd (let no : true ≡ false = sym marked ∙ h.clear in cc)

  fits : IsLawful c → plan ≡ length c → FitsMerge c (merge_plain (names d) (branch_at d moment j)) j.known 1 j.queue
  fits lawful end =
      let stamp = stamp_of (merge_plain (names d) (branch_at d moment j)) 1 j.queue in
      let last : stamp.last ≡ j.base + length j.queue = (let e = last_counts (j.base + 1) j.queue some m.counts in omega (arith, e)) in
      record {
        from = s.known;
        within = m.within;
        name = named;
        time = timed;
        ruled = (omega arith, omega arith);
        some = some;
        fit = m.fit;
        few = subst (λ t. AreFew (tree_at c (length c)) (fold_ops j.queue t)) s.base (subst (λ n. AreFew (tree_at c n) (tree_shown p j)) end few);
        meet = branch_meets d c j lawful m none some (length c) (omega arith) stamp refl last;
      }

  merging : IsLawful c → (generation : ℕ) (head : List ℕ) (t : Tree) (left : Kept) → t ≡ merged_tree p.base (tree_at c plan) (tree_shown p j) (stamp_of (merge_plain (names d) (branch_at d moment j)) 1 j.queue) → plan ≡ length c
      → KnowsFolder sealed hashed seed f c generation head t left → IsMerging sealed hashed seed f c generation head (names d) (branch_at d moment j) t left
  merging lawful generation head t left tree end k = record {
    head_is = k.head_is;
    generation_is = k.generation_is;
    fits = fits lawful end;
    few = m.few;
    own = m.own;
    counts = m.counts;
    first = ap (λ n. n + 1) (sym (base_all d c j m none));
    last = omega arith;
    tree = tree ∙ (λ i. merged_tree (s.base i) (tree_at c (end i)) (fold_ops j.queue (s.base i)) (stamp_of (merge_plain (names d) (branch_at d moment j)) 1 j.queue));
    held = k.held;
  }

  pub settled : (generation : ℕ) (head : List ℕ) (t : Tree) (left : Kept) (request : FolderRequest) → HasChain sealed signed hashed seed names f c → (1 ≤ d) × (d ≤ f.state.registered)
      → t ≡ merged_tree p.base (tree_at c plan) (tree_shown p j) (stamp_of (merge_plain (names d) (branch_at d moment j)) 1 j.queue) → (plan ≡ length c → KnowsFolder sealed hashed seed f c generation head t left)
      → IsMergeRequest sealed signed hashed (device_secret seed d) (folder_key seed generation) generation (plan + 1) head (branch_at d moment j) t left request → IsFor sealed signed hashed seed names f request (merge_ask d (record { name = names d; moment = moment; rule = 1 }) j plan)
  settled generation head t left request has registered tree knows made =
      let within = (s.plan plan has_plan.plan_is).2 in
      for_merge sealed signed hashed one_plain seed names f generation (plan + 1) head (branch_at d moment j) t left request made c has registered (omega (arith, within))
      (λ next. let end : plan ≡ length c = omega (arith, next) in merging (lawful_chain sealed signed hashed seed names f c has) generation head t left tree end (knows end))
