-- What holds of each revision of a chain that a run makes.
use Rattle.std.specs.Prelude.{◌≡◌, ◌≢◌, ℕ, ◌+◌, ◌*◌, ◌^◌, ◌≤◌, ◌<◌, true, List, [], ◌∷◌, ◌++◌, length}
use Rattle.std.specs.FinMap.{len}
use Rattle.kb_name.specs.Names.{is_device_name}
use Rattle.kb_name.specs.Moments.{last_second}
use Rattle.kb_ops.specs.declared.rows.Op.{Op}
use Rattle.kb_ops.specs.Trees.{Tree, fold_ops, FitAll}
use Rattle.kb_rules.specs.Meet.{Meet}
use Rattle.kb_snap.specs.Chains.{Deed, Founded, Stepped, Merged, Rekeyed, Revision, Chain, ops_in, ops_of, most_revisions, most_in_step, moment_of_last, tree_at, stamp_of}
use Rattle.kb_snap.specs.Puts.{Ask, IsNext}
use Rattle.kb_snap.specs.Members.{is_allowed, FitsAction}

-- all are operations of the device with this number
abbrev pub AreOf : ℕ → List Op → Type 0
AreOf d [] = Unit {0}
AreOf d (op ∷ ops) = (op.device ≡ d) × AreOf d ops

-- the seqs count up from this one
abbrev pub CountsFrom : ℕ → List Op → Type 0
CountsFrom n [] = Unit {0}
CountsFrom n (op ∷ ops) = (op.seq ≡ n) × CountsFrom (n + 1) ops

-- the two trees have so few rows that every conflicted name is a name
abbrev pub AreFew : Tree → Tree → Type 0
AreFew merged ours = 4 * (len merged + len ours) < 2 ^ 63

-- there are two rules
abbrev pub IsRule : ℕ → Type 0
IsRule rule = (1 ≤ rule) × (rule ≤ 2)

-- operations fit the tree of an earlier revision, and can be merged into that of the last
pub record FitsMerge (before : Chain) (revision : Revision) (base rule : ℕ) (ops : List Op) : Type 0 where
  pub from : 1 ≤ base
  pub within : base ≤ length before
  pub name : is_device_name revision.name ≡ true
  pub time : revision.moment ≤ last_second
  pub ruled : IsRule rule
  pub some : 0 < length ops
  pub fit : FitAll ops (tree_at before base)
  pub few : AreFew (tree_at before (length before)) (fold_ops ops (tree_at before base))
  pub meet : Meet (tree_at before base) (tree_at before (length before)) (fold_ops ops (tree_at before base)) (stamp_of revision rule ops)

abbrev pub FitsDeed : Chain → Revision → Deed → Type 0
FitsDeed before revision Founded = before ≡ []
FitsDeed before revision (Stepped ops) = (0 < length ops) × FitAll ops (tree_at before (length before)) × (revision.moment ≡ moment_of_last ops) × (length ops ≤ most_in_step)
FitsDeed before revision (Merged base rule ops) = FitsMerge before revision base rule ops
FitsDeed before revision (Rekeyed action who) = (before ≢ []) × FitsAction before action who

-- The revision may come next: its writer may write, the folder has room, its operations are the writer's with the next
-- seqs, and it fits.
pub record Follows (before : Chain) (revision : Revision) : Type 0 where
  pub allowed : is_allowed before revision.writer ≡ true
  pub room : length before < most_revisions
  pub own : AreOf revision.writer (ops_in revision.deed)
  pub counts : CountsFrom (length (ops_of revision.writer before) + 1) (ops_in revision.deed)
  pub fits : FitsDeed before revision revision.deed

-- where the folder takes the request, its revision may come next
abbrev pub Extends : Chain → Ask → Type 0
Extends c ask = IsNext c ask → length c < most_revisions → Follows c ask.revision

abbrev pub LawfulFrom : Chain → Chain → Type 0
LawfulFrom before [] = Unit {0}
LawfulFrom before (revision ∷ c) = Follows before revision × LawfulFrom (before ++ revision ∷ []) c

-- each revision may come after those before it
abbrev pub IsLawful : Chain → Type 0
IsLawful c = LawfulFrom [] c
