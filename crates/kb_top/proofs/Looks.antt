-- What `folder` and `tree` tell of a state, which they leave as it is.
use Rattle.std.proofs.Common.{◌≡◌, ℕ, ◌+◌, ◌-◌, true, false, List, [], ◌∷◌, ◌++◌, length, Option, Some, None, Ok, Err, Result, inl, inr, refl, sym, ap, ◌∙◌, subst}
use Rattle.std.specs.Prelude.{slice_get, if◌then◌else◌}
use Rattle.kb_ops.specs.declared.requests.Show.TheVariants as asks
use Rattle.kb_ops.specs.declared.requests.Shown.{Shown}
use Rattle.kb_ops.specs.declared.requests.Shown.TheVariants as tells
use Rattle.kb_apply.specs.Shows.{rows_of}
use Rattle.kb_script.specs.declared.statements.Statement.TheVariants as said
use Rattle.kb_lines.specs.declared.lines.Line.{Line}
use Rattle.kb_device.specs.Answers.{LookFault}
use Rattle.kb_device.specs.Answers as answers
use Rattle.kb_device.specs.Journals.{Journal}
use Rattle.kb_device.specs.Parts.{Part, IsOpenAt, LookStep, tree_shown}
use Rattle.kb_folder.specs.Chains.{Names}
use Rattle.kb_world.specs.Statements.{Reply, Act, See, On, ListChain, ByLook, Lists}
use Rattle.kb_world.specs.Statements as machine
use Rattle.kb_world.specs.Machine.{Member, State, ActStep, Progress, Lacks, Ends, next}
use Rattle.kb_world.specs.Doing.{Does}
use Rattle.kb_world.specs.Printed.{printed, all_printed, shown_line}
use Rattle.kb_top.specs.Summaries.{rows_on, rows_seen, laptop_rows, revisions_told, rows_told}
use Rattle.kb_top.proofs.Fits.{once}

-- ---- they change nothing, also where memory runs out

-- a part that changes nothing, and is no opening
record Still (s : State) (act : Act) : Type 0 where
  stays : (reply : Reply) (t : State) → ActStep s act reply t → t ≡ s
  other : (d : ℕ) → act ≡ On d machine.Open → ⊥

lacks_still : (s t : State) (act : Act) → Still s act → Lacks (Some act) s t → t ≡ s
lacks_still s t act still (inl same) = same
lacks_still s t act still (inr opens) = absurd (still.other opens.0 (let e = opens.1 in cc))

lacks_none : (s t : State) → Lacks None s t → t ≡ s
lacks_none s t (inl same) = same
lacks_none s t (inr opens) = (let e = opens.1 in cc)

parts_still : (s t : State) (act : Act) → Still s act → (replies : List Reply) (mid : State) → Progress (machine.Do act) [] s replies mid → Lacks (next (machine.Do act) replies) mid t → t ≡ s
parts_still s t act still [] mid part lacks = lacks_still s t act still (subst (λ u. Lacks (Some act) u t) part lacks)
parts_still s t act still (reply ∷ []) mid part lacks =
    let same : act ≡ part.0 = (let e = part.2 in cc) in
    lacks_none mid t lacks ∙ part.4 ∙ still.stays reply part.1 (subst (λ a. ActStep s a reply part.1) (sym same) part.3)
parts_still s t act still (reply ∷ more ∷ replies) mid part lacks = (let e = part.4.2 in cc)

ends_still : (s t : State) (act : Act) → Still s act → Ends s (machine.Do act) t → t ≡ s
ends_still s t act still h = parts_still s t act still h.0 h.1 h.2 h.3

list_still : (s : State) → Still s ListChain
list_still s = record { stays = λ reply t step. step.1; other = λ d e. cc }

pub folder_still : (s t : State) → Ends s (machine.Do ListChain) t → t ≡ s
folder_still s t h = ends_still s t ListChain (list_still s) h

look_still : (s : State) → Still s (See 1 (machine.Look asks.Tree))
look_still s = record { stays = λ reply t step. step.state; other = λ d e. cc }

pub tree_still : (s t : State) → Ends s (machine.Do (See 1 (machine.Look asks.Tree))) t → t ≡ s
tree_still s t h = ends_still s t (See 1 (machine.Look asks.Tree)) (look_still s) h

-- ---- what they tell

-- the rows of a device's tree
abbrev part_rows : Part → ℕ
part_rows p = if p.is_open then rows_on p p.may else 0

rows_open : (p : Part) (j : Journal) → IsOpenAt p j → part_rows p ≡ length (rows_of (tree_shown p j)) + 1
rows_open p j at = ap (λ b. if b then rows_on p p.may else 0) at.session ∙ ap (rows_on p) at.journal_is

rows_closed : (p : Part) → p.is_open ≡ false → part_rows p ≡ 0
rows_closed p closed = ap (λ b. if b then rows_on p p.may else 0) closed

look_rows : (p : Part) (name : List ℕ) (answer : Result Shown LookFault) → LookStep p asks.Tree answer → rows_told (shown_line name answer ∷ []) ≡ part_rows p
look_rows p name (Ok shown) h =
    let is : tells.Tree h.0.known (length h.0.queue) (rows_of (tree_shown p h.0)) ≡ shown = (let e = h.2 in cc) in
    ap (λ x. rows_told (shown_line name (Ok x) ∷ [])) (sym is) ∙ sym (rows_open p h.0 h.1)
look_rows p name (Err answers.LookFault.Closed) h = sym (rows_closed p h)
look_rows p name (Err (answers.ByShow fault)) h = (let e = h.2 in cc)

first_rows : (s : State) (m : Member) → slice_get s.members 0 ≡ Some m → part_rows m.part ≡ laptop_rows s
first_rows s m e = ap rows_seen (sym e)

one_line : (names : Names) (d : ℕ) (reply : Reply) (replies : List Reply) → replies ≡ reply ∷ [] → all_printed names d replies ≡ printed names d reply ++ []
one_line names d reply replies e = ap (all_printed names d) e

pub folder_tells : (names : Names) (s t : State) (lines : List Line) → Does names s said.Folder lines t → (t ≡ s) × (revisions_told lines ≡ length s.chain)
folder_tells names s t lines does =
    let one = once s ListChain does.replies t does.steps in (
      one.step.1,
      ap revisions_told (does.lines_are ∙ one_line names 0 one.reply does.replies one.replies_are ∙ ap (λ reply. printed names 0 reply ++ []) one.step.0),
    )

pub tree_tells : (names : Names) (s t : State) (lines : List Line) → Does names s (said.Look 1 asks.Tree) lines t → (t ≡ s) × (rows_told lines ≡ laptop_rows s)
tree_tells names s t lines does =
    let one = once s (See 1 (machine.Look asks.Tree)) does.replies t does.steps in
    let shows = one.step.shows in (
      one.step.state,
      ap rows_told (does.lines_are ∙ one_line names 1 one.reply does.replies one.replies_are ∙ ap (λ reply. printed names 1 reply ++ []) shows.2)
          ∙ look_rows one.step.member.part (names 1) shows.0 shows.1
          ∙ first_rows s one.step.member one.step.found,
    )
