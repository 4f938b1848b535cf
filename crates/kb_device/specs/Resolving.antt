-- A settle of a device over a link, as the machine's.
use Rattle.std.specs.Prelude.{◌≡◌, ℕ, List, Option, Some, Result, Ok, Err}
use Rattle.kb_edge.specs.declared.link.Side.{Side}
use Rattle.kb_ops.specs.Trees.{Tree}
use Rattle.kb_rules.specs.declared.report.Report.{Report}
use Rattle.kb_chain.specs.declared.states.PutRefusal.{PutRefusal}
use Rattle.kb_snap.specs.Answers.{PutFault}
use Rattle.kb_snap.specs.Chains.{Chain, tree_at}
use Rattle.kb_snap.specs.Lawful.{IsLawful, AreFew}
use Rattle.kb_folder.specs.Chains.{Names}
use Rattle.kb_folder.specs.Puts.{Held}
use Rattle.kb_folder.specs.Goes.{HasChain, Grows, Means}
use Rattle.kb_device.specs.Answers as says
use Rattle.kb_device.specs.Journals.{Journal}
use Rattle.kb_device.specs.Meets.{PartMeets}
use Rattle.kb_device.specs.Parts.{Merger, IsMerger, Part, HasPlan, SettleStep, tree_shown}
use Rattle.kb_device.specs.Fresh.{IsOwned}
use Rattle.kb_device.specs.Inside.{Plan, Inside}
use Rattle.kb_device.specs.Links.{WhereTold, Spares, LinkAfter}
use Rattle.kb_device.specs.Settling.{IsMergeOf, report_of}
use Rattle.kb_device.specs.Stands.{Member, DeviceStands}
use Rattle.kb_device.specs.declared.settled.SettleFault.{SettleFault}
use Rattle.kb_device.specs.declared.settled.SettleFault.TheVariants as fault

-- the device merges at this moment, by the first rule
abbrev pub merger_of : Member → ℕ → Merger
merger_of v moment = record { name = v.name; moment = moment; rule = 1 }

module _ (sealed signed : List ℕ → List ℕ → List ℕ) (hashed : List ℕ → List ℕ) (seed : List ℕ) (names : Names) (moment : ℕ) (f : Held) (old : Member) (tree : Tree) where
  -- The device is at a part that meets the folder's chain, its name and the moment can stand in a merge, the rows are few, and the
  -- table is the rules' merge of what was fetched.
  pub record MaySettle (c : Chain) (p : Part) : Type 0 where
    pub lawful : IsLawful c
    pub part : PartMeets old.number c p
    pub has : HasChain sealed signed hashed seed names f c
    pub stands : DeviceStands sealed signed hashed seed names old.number f c old p
    pub merger : IsMerger (merger_of old moment)
    pub few : (j : Journal) (n : ℕ) → HasPlan p j n → AreFew (tree_at c n) (tree_shown p j)
    pub merges : (s : Inside) (x : Plan) → old.inside ≡ Some s → s.plan ≡ Some x → IsMergeOf old.number old.name moment s x tree

  -- what is armed of the link, where it tells that, before and after
  module _ (g : Held) (new : Member) (armed armed' : Option (Option Side)) where
    -- the machine's settle that tells this
    abbrev pub SettleGoes : (Result (ℕ × Report) says.SettleFault → Type 0) → Type 0
    SettleGoes Tells = (c : Chain) (p : Part) → MaySettle c p
        → (answer : Result (ℕ × Report) says.SettleFault) × (c' : Chain) × (q : Part) × Tells answer × SettleStep old.number (merger_of old moment) c p answer c' q × Grows f g × HasChain sealed signed hashed seed names g c'
        × DeviceStands sealed signed hashed seed names old.number g c' new q × WhereTold armed armed' (λ was is. LinkAfter was answer is)

    -- the machine's answer: the number, with the report of the plan's merge, and with a lost reply what the folder answered
    abbrev pub Tells : Result ℕ SettleFault → Result (ℕ × Report) says.SettleFault → Type 0
    Tells (Ok n) answer = (s : Inside) × (x : Plan) × (old.inside ≡ Some s) × (s.plan ≡ Some x) × (answer ≡ Ok (n, report_of old.number old.name moment s x))
    Tells (Err fault.Closed) answer = answer ≡ Err says.SettleFault.Closed
    Tells (Err fault.NoPlan) answer = answer ≡ Err says.NoPlan
    Tells (Err fault.Memory) answer = ⊥
    Tells (Err fault.LinkFault) answer = (lost : Option (Result ℕ PutFault)) × (answer ≡ Err (says.LinkFault lost))
    Tells (Err (fault.ByPut refusal)) answer = (why : PutFault) × (let r : Result ℕ PutRefusal = Err refusal in Means r (Err why)) × (answer ≡ Err (says.SettleFault.ByPut why))
    Tells (Err fault.Stopped) answer = answer ≡ Err says.SettleFault.Stopped

    -- What a settle that gives this answer is in the machine. Want of memory changes neither the folder, nor what the device stands
    -- for, nor the side that is armed.
    abbrev pub SettleAnswers : Result ℕ SettleFault → Type 0
    SettleAnswers (Err fault.Memory) = (g ≡ f) × ((c : Chain) (p : Part) → DeviceStands sealed signed hashed seed names old.number f c old p → DeviceStands sealed signed hashed seed names old.number f c new p) × Spares armed armed'
    SettleAnswers r = SettleGoes (Tells r)

    -- where the device's session owned its queue, it still does
    abbrev pub StaysOwned : Type 0
    StaysOwned = (c : Chain) (p : Part) → MaySettle c p → ((s : Inside) → old.inside ≡ Some s → IsOwned old.number s) → (t : Inside) → new.inside ≡ Some t → IsOwned old.number t
