-- What a settle does to a session.
use Rattle.std.proofs.Common.{◌≡◌, ℕ, ◌+◌, ◌≤◌, ◌<◌, true, false, Bool, List, [], ◌∷◌, length, drop, Option, Some, Result, Ok, Err, IfOk, refl, sym, ap, subst, ◌∙◌, arith}
use Rattle.std.specs.Prelude.{◌&&◌, nat_le, nat_lt}
use Rattle.std.specs.List.{AllByRecursion}
use Rattle.std.proofs.lemmas.Bool.Decides.{nat_tests}
use Rattle.kb_keys.specs.declared.policy.Role.{Role}
use Rattle.kb_keys.specs.Rings.{key_at}
use Rattle.kb_ops.specs.Grammar.{IsProper}
use Rattle.kb_ops.specs.Trees.{Tree, look, fold_ops, FitAll}
use Rattle.kb_snap.specs.Pointers.{Kept, AllHold}
use Rattle.kb_device.specs.Inside.{Plan, Inside, IsRunning}
use Rattle.kb_device.specs.Left.{LeavesSame, PointsAll}
use Rattle.kb_device.specs.Links.{Answers}
use Rattle.sha2.specs.Sha256.{sha256}
use Rattle.kb_keys.specs.Policies.{role_at}
use Rattle.kb_snap.specs.Builds.{OnceAllStored}
use Rattle.kb_chain.specs.declared.states.FolderRequest.{FolderRequest}
use Rattle.kb_chain.specs.declared.states.PutRefusal.{PutRefusal}
use Rattle.kb_device.specs.Journals.{plain}
use Rattle.kb_folder.specs.Puts.{Held}
use Rattle.kb_device.specs.Merging.{Branch, IsMergeRequest}
use Rattle.kb_device.specs.SettlesFor.{branch_at}
use Rattle.kb_device.specs.Noting.{Writes, Stops}
use Rattle.kb_device.specs.Stands.{Platter}
use Rattle.kb_device.specs.declared.settled.SettleFault.{SettleFault}
use Rattle.kb_device.specs.declared.settled.SettleFault.TheVariants as fault
use Rattle.kb_device.specs.Caches.{Cache, Takes}
use Rattle.kb_device.specs.Settling.{CanSettle, can_settle, grown, with_merge, resolved, IsAsked, Asks, Settles, SettleBreaks}

drop_all : {A : Type 0} (xs : List A) → drop (length xs) xs ≡ []
drop_all [] = refl
drop_all (x ∷ xs) = drop_all xs

merged_runs : (s : Inside) (x : Plan) (t : Tree) (pointers : Kept) (hash : List ℕ) (role : Option Role) → CanSettle s x → PointsAll t pointers → IsRunning (with_merge s x t pointers hash role)
merged_runs s x t pointers hash role c all =
    let gone = drop_all s.journal.queue in record {
      known = omega arith;
      proper = subst (AllByRecursion IsProper) (sym gone) tt;
      few = omega arith;
      ahead = omega arith;
      fit = subst (λ l. FitAll (drop 0 l) t) (sym gone) tt;
      shown = ap (λ l. fold_ops (drop 0 l) t) (sym gone);
      pointed = record { all = λ _. all; beside = λ op rest queue one. cc };
      first = c.first;
      last = c.last;
      keyed = c.keyed;
      aloft = λ a is. cc;
    }

-- a session after a merge goes on
pub running_merged : (s u : Inside) (x : Plan) (t : Tree) (pointers : Kept) (hash : List ℕ) (role : Option Role) → CanSettle s x → PointsAll t pointers → u ≡ with_merge s x t pointers hash role → IsRunning u
running_merged s u x t pointers hash role c all same = subst IsRunning (sym same) (merged_runs s x t pointers hash role c all)

-- and one whose plan is another
pub runs_unplanned : (s : Inside) (o : Option Plan) → IsRunning s → IsRunning (record s { plan = o })
runs_unplanned s o r = record {
  known = r.known;
  proper = r.proper;
  few = r.few;
  ahead = r.ahead;
  fit = r.fit;
  shown = r.shown;
  pointed = r.pointed;
  first = r.first;
  last = r.last;
  keyed = r.keyed;
  aloft = λ a is. (let f = r.aloft a is in record { number = f.number; count = f.count; ahead = f.ahead; clear = f.clear; all = f.all });
}

test_le : (a b : ℕ) → nat_le a b ≡ true → a ≤ b
test_le a b h = grind (arith, nat_tests, h)

test_lt : (a b : ℕ) → nat_lt a b ≡ true → a < b
test_lt a b h = grind (arith, nat_tests, h)

one_so : (a b : Bool) → (a && b) ≡ true → a ≡ true
one_so true b h = refl
one_so false b h = cc

rest_so : (a b : Bool) → (a && b) ≡ true → b ≡ true
rest_so true b h = h
rest_so false b h = cc

pub can_be : (s : Inside) (x : Plan) → can_settle s x ≡ true → CanSettle s x
can_be s x h =
    let q = length s.journal.queue in
    let h2 = rest_so (nat_le 1 q) _ h in
    let h3 = rest_so (nat_le q 4096) _ h2 in
    let h4 = rest_so (nat_le 1 x.number) _ h3 in
    let h5 = rest_so (nat_le s.journal.known x.number) _ h4 in
    let h6 = rest_so (nat_lt x.number 4294967295) _ h5 in
    let h7 = rest_so (nat_le 1 x.generation) _ h6 in
    record {
      some = test_le 1 q (one_so (nat_le 1 q) _ h);
      few = test_le q 4096 (one_so (nat_le q 4096) _ h2);
      from = test_le 1 x.number (one_so (nat_le 1 x.number) _ h3);
      behind = test_le s.journal.known x.number (one_so (nat_le s.journal.known x.number) _ h4);
      next = test_lt x.number 4294967295 (one_so (nat_lt x.number 4294967295) _ h5);
      first = test_le 1 x.generation (one_so (nat_le 1 x.generation) _ h6);
      last = test_le x.generation 64 (one_so (nat_le x.generation 64) _ h7);
      keyed = rest_so (nat_le x.generation 64) _ h7;
    }

-- so it is of a plan whose cache took more blocks
pub can_grown : (s : Inside) (x : Plan) (cache : Cache) → CanSettle s x → CanSettle s (grown x cache)
can_grown s x cache h = record { some = h.some; few = h.few; from = h.from; behind = h.behind; next = h.next; first = h.first; last = h.last; keyed = h.keyed }

-- two facts of what was made give a third
pub both : {A E : Type 0} (r : Result A E) (P Q R : A → Type 0) → ((a : A) → P a → Q a → R a) → IfOk r P → IfOk r Q → IfOk r R
both (Ok a) P Q R f p q = f a p q
both (Err e) P Q R f p q = tt

-- a refusal of the folder is no stop
pub no_stop : {A : Type 0} (r : PutRefusal) → (let x : Result ℕ SettleFault = Err (fault.ByPut r) in x ≡ Err fault.Stopped) → A
no_stop r is = cc

-- a request that was made of what a session has
pub asked : (sealed signed : List ℕ → List ℕ → List ℕ) (hashed : List ℕ → List ℕ) (d : ℕ) (secret key : List ℕ) (moment : ℕ) (s : Inside) (x : Plan) (t : Tree) (request : FolderRequest) (pointers left : Kept) (b : Branch)
    → key_at x.ring x.generation ≡ Some key → b ≡ branch_at d moment (plain s.journal) → LeavesSame x.merged t x.kept left → IsMergeRequest sealed signed hashed secret key x.generation (x.number + 1) x.hash b t left request
    → OnceAllStored hashed sealed x.generation key request.blocks (λ vault. AllHold vault (look t) left → AllHold vault (look t) pointers) → IsAsked sealed signed hashed d secret moment s x t request pointers
asked sealed signed hashed d secret key moment s x t request pointers left b keyed branch leaves made holds = record {
  key = key;
  keyed = keyed;
  left = left;
  leaves = leaves;
  made = subst (λ a. IsMergeRequest sealed signed hashed secret key x.generation (x.number + 1) x.hash a t left request) branch made;
  holds = holds;
}

-- it was put
abbrev pub asks_by : (sealed signed : List ℕ → List ℕ → List ℕ) (hashed : List ℕ → List ℕ) (f g : Held) (d : ℕ) (secret : List ℕ) (moment : ℕ) (tree : Tree) (s : Inside) (was : Platter) (t : Inside) (now : Platter) (o : Option Plan) (x : Plan) (request : FolderRequest) (pointers : Kept) (cache : Cache) (answer : Result ℕ PutRefusal)
    → s.plan ≡ Some x → IsAsked sealed signed hashed d secret moment (record s { plan = o }) x tree request pointers → Takes hashed x.cache request.blocks cache → Answers signed hashed f request g answer → Asks sealed signed hashed f g d secret moment tree s was t now answer
asks_by sealed signed hashed f g d secret moment tree s was t now o x request pointers cache answer planned a takes put = record {
  plan = x;
  planned = planned;
  request = request;
  pointers = pointers;
  asked = record { key = a.key; keyed = a.keyed; left = a.left; leaves = a.leaves; made = a.made; holds = a.holds };
  cache = cache;
  takes = takes;
  put = put;
}

module _ (sealed signed : List ℕ → List ℕ → List ℕ) (hashed : List ℕ → List ℕ) (f g : Held) (d : ℕ) (secret : List ℕ) (moment : ℕ) (tree : Tree) (s : Inside) (was : Platter) (t : Inside) (now : Platter) (number : ℕ) (a : Asks sealed signed hashed f g d secret moment tree s was t now (Ok number)) (hash : List ℕ)
    (hash_is : hash ≡ sha256 a.request.revision) where
  -- it landed
  pub settles : (n : ℕ) (role : Option Role) → n ≡ a.plan.number + 1 → role ≡ role_at g.state.policy.0 d → t ≡ with_merge s (grown a.plan a.cache) tree a.pointers hash role → Writes (resolved s.journal (a.plan.number + 1) hash) was now → Settles sealed signed hashed f g d secret moment tree s was t now n
  settles n role n_is role_is session writes = record {
    number = number;
    asks = a;
    n_is = n_is;
    session = session ∙ (λ i. with_merge s (grown a.plan a.cache) tree a.pointers (hash_is i) (role_is i));
    disk = subst (λ k. Writes (resolved s.journal k (sha256 a.request.revision)) was now) (sym n_is) (subst (λ h. Writes (resolved s.journal (a.plan.number + 1) h) was now) hash_is writes);
  }

  -- and the disk stopped
  pub settle_stops : Stops s.journal (resolved s.journal (a.plan.number + 1) hash) was now → SettleBreaks sealed signed hashed f g d secret moment tree s was t now
  settle_stops stops = record { number = number; asks = a; disk = subst (λ h. Stops s.journal (resolved s.journal (a.plan.number + 1) h) was now) hash_is stops }
