-- How many rows the trees of a chain have: each row is the root's, or was made by an operation, or is a copy of a merge, of
-- which there are no more than rows that the merge's operations touch.
use Rattle.std.proofs.Common.{◌≡◌, ◌⊎◌, ℕ, ◌+◌, ◌-◌, ◌*◌, ◌^◌, ◌≤◌, ◌<◌, ◌&&◌, ◌||◌, List, [], ◌∷◌, ◌++◌, length, map, slice_get, All, Some, refl, sym, ap, ◌∙◌, subst, arith, length-append}
use Rattle.std.proofs.lemmas.List.{length-map}
use Rattle.std.proofs.lemmas.List.Elements.{All-head, All-tail}
use Rattle.kb_ops.specs.Trees.{new_id, fold_ops}
use Rattle.kb_snap.specs.Chains.{Chain, ops_by, ops_of, tree_at}
use Rattle.kb_snap.specs.Lawful.{AreFew}
use Rattle.kb_device.specs.Journals.{Journal}
use Rattle.kb_device.specs.Parts.{HasPlan, tree_shown}
use Rattle.kb_device.specs.Meets.{Meets, PartMeets}
use Rattle.kb_world.specs.Machine.{Member, State}
use Rattle.kb_world.specs.Good.{names_of, IsGood}
use Rattle.kb_snap.specs.Members.{IsDeclared}
use Rattle.kb_world.specs.RunReplies.{HasFew, FewRows}
use Rattle.kb_snap.proofs.Lists.{get_there, member_at}
use Rattle.kb_snap.proofs.Chains.{by_writer}
use Rattle.kb_device.proofs.Owned.{landed_length}
use Rattle.kb_device.proofs.PartSteps.{at_session, at_journal}
use Rattle.kb_snap.proofs.RowCounts.{AllIn, fold_in, ids_few, ids_of, rows_few, sum_add, sum_most, sum_one, sum_to, total, trees_in}

length-names : (members : List Member) → length (names_of members) ≡ length members
length-names members = length-map members _

total_most : (names : List (List ℕ)) (c : Chain) → All (IsDeclared names) c → total c ≤ sum_to (length names) (λ d. length (ops_of d c))
total_most names [] all = omega arith
total_most names (x ∷ c) all =
    let first = All-head (IsDeclared names) x c all in
    let within = get_there names (x.writer - 1) x.name first.named in
    let from = first.numbered in
    let one = sum_one (length names) x.writer (λ d. length (ops_by d x)) from (omega arith) in
    let own = ap length (by_writer x.writer x refl) in
    let rest = total_most names c (All-tail (IsDeclared names) x c all) in
    let sum = sum_add (length names) (λ d. length (ops_by d x)) (λ d. length (ops_of d c)) (λ d. length (ops_of d (x ∷ c))) (λ d. length-append (ops_by d x) (ops_of d c)) in
    omega (arith, one, own, rest, sum)

module _ (s : State) (good : IsGood s) where
  meets_at : (d : ℕ) (m : Member) → 1 ≤ d → slice_get s.members (d - 1) ≡ Some m → PartMeets d s.chain m.part
  meets_at d m numbered found = subst (λ k. PartMeets k s.chain m.part) (let e : d - 1 + 1 ≡ d = omega arith in e) (good.members (d - 1) m found).part

  ops_few : (d : ℕ) → 1 ≤ d → d ≤ length (names_of s.members) → length (ops_of d s.chain) ≤ 4294967296
  ops_few d from to =
      let same = length-names s.members in
      let m = member_at s.members (d - 1) (omega arith) in
      let meets = meets_at d m.0 from m.1 in
      of_part m.0.part.may meets.some meets.may
    where
      of_part : (may : List Journal) → 0 < length may → All (Meets d s.chain) may → length (ops_of d s.chain) ≤ 4294967296
      of_part [] some all = absurd (omega arith)
      of_part (j ∷ may) some all =
          let h = All-head (Meets d s.chain) j may all in
          let most = landed_length d s.chain j h in
          let low = h.small in
          omega arith

  ids_bound : length (ids_of s.chain) ≤ 412316860416
  ids_bound =
      let ids = ids_few s.chain in
      let sum = total_most (names_of s.members) s.chain good.declared in
      let most = sum_most (length (names_of s.members)) (λ d. length (ops_of d s.chain)) ops_few in
      let same = length-names s.members in
      let small = good.devices in
      omega (arith, ids, sum, most, same, small)

  pub rows_bound : HasFew s
  rows_bound d m j r device at le =
      let meets = meets_at d m device.numbered device.found in
      let session = at_session d s.chain m.part j meets at in
      let journal = at_journal d s.chain m.part j meets at.journal_is in
      let all = trees_in s.chain good.chain in
      let left = rows_few (ids_of s.chain) (tree_at s.chain r) (all r le) in
      let shown : AllIn (ids_of s.chain ++ map new_id j.queue) (tree_shown m.part j) =
      subst (λ t. AllIn (ids_of s.chain ++ map new_id j.queue) (fold_ops j.queue t)) (sym session.base) (fold_in (ids_of s.chain) j.queue (tree_at s.chain j.known) (all j.known journal.within) journal.fit)
      in
      let right = rows_few (ids_of s.chain ++ map new_id j.queue) (tree_shown m.part j) shown in
      let a = length-append (ids_of s.chain) (map new_id j.queue) in
      let b = length-map j.queue new_id in
      let bound = ids_bound in
      let few = journal.few in
      omega (arith, left, right, a, b, bound, few)

  -- also where a device has a plan
  pub plan_few : (d : ℕ) (m : Member) → 1 ≤ d → slice_get s.members (d - 1) ≡ Some m → PartMeets d s.chain m.part → (j : Journal) (plan : ℕ) → HasPlan m.part j plan → AreFew (tree_at s.chain plan) (tree_shown m.part j)
  plan_few d m numbered found meets j plan planned =
      let session = at_session d s.chain m.part j meets planned.at in
      rows_bound d m j plan (record { numbered = numbered; found = found }) planned.at (session.plan plan planned.plan_is).2

pub few_rows : FewRows
few_rows s good = rows_bound s good
