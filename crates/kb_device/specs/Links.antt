-- Puts over a link that may lose the request or the reply, and what they leave of the side that is armed.
use Rattle.std.specs.Prelude.{◌≡◌, ◌≢◌, ◌⊎◌, ℕ, List, Option, None, Some, IfSome, IsSomeAnd, Result, Ok, Err}
use Rattle.kb_edge.specs.declared.link.Side.{Side}
use Rattle.kb_edge.specs.declared.link.Side.TheVariants.{Request, Reply}
use Rattle.kb_rules.specs.declared.report.Report.{Report}
use Rattle.kb_chain.specs.declared.states.FolderRequest.{FolderRequest}
use Rattle.kb_chain.specs.declared.states.PutRefusal.{PutRefusal}
use Rattle.kb_chain.specs.declared.states.PutRefusal.TheVariants as why
use Rattle.kb_snap.specs.Answers.{PutFault}
use Rattle.kb_folder.specs.Puts.{Held, Puts}
use Rattle.kb_device.specs.Answers as says
use Rattle.kb_device.specs.declared.linked.CarryFault.{CarryFault}
use Rattle.kb_device.specs.declared.linked.CarryFault.TheVariants as carry

-- where a link tells which side is armed, it tells it afterwards too, and this holds of the two
abbrev pub WhereTold : Option (Option Side) → Option (Option Side) → (Option Side → Option Side → Type 0) → Type 0
WhereTold old new P = IfSome old (λ was. IsSomeAnd new (λ is. P was is))

-- the side is as it was
abbrev pub Spares : Option (Option Side) → Option (Option Side) → Type 0
Spares old new = WhereTold old new (λ was is. is ≡ was)

-- no side was armed, and none is
abbrev pub Carries : Option (Option Side) → Option (Option Side) → Type 0
Carries old new = WhereTold old new (λ was is. (was ≡ None) × (is ≡ None))

-- this side was armed, and none is
abbrev pub Loses : Side → Option (Option Side) → Option (Option Side) → Type 0
Loses side old new = WhereTold old new (λ was is. (was ≡ Some side) × (is ≡ None))

-- the folder gave this answer, and didn't lack memory
abbrev pub Answers : (List ℕ → List ℕ → List ℕ) → (List ℕ → List ℕ) → Held → FolderRequest → Held → Result ℕ PutRefusal → Type 0
Answers signed hashed f request g answer = Puts signed hashed f request g answer × (answer ≢ Err why.Memory)

-- A put over a link. A folder that lacked memory did nothing, and nothing was lost; where the request was lost nothing was
-- put; and a reply that was lost hides an answer of the folder.
abbrev pub PutsOver : (List ℕ → List ℕ → List ℕ) → (List ℕ → List ℕ) → Held → FolderRequest → Held → Option (Option Side) → Option (Option Side) → Result (Result ℕ PutRefusal) CarryFault → Type 0
PutsOver signed hashed f request g old new (Ok answer) = Answers signed hashed f request g answer × Carries old new
PutsOver signed hashed f request g old new (Err carry.Memory) = (g ≡ f) × Spares old new
PutsOver signed hashed f request g old new (Err carry.Lost) = ((g ≡ f) × Loses Request old new) ⊎ ((answer : Result ℕ PutRefusal) × Answers signed hashed f request g answer × Loses Reply old new)

-- the side that was lost where this is what the folder answered
abbrev pub lost_side : Option (Result ℕ PutFault) → Side
lost_side None = Request
lost_side (Some answer) = Reply

-- What a settle leaves of the side that is armed. Where it comes to a put, the request goes over the link and then the
-- reply, and a side that is lost is disarmed.
abbrev pub LinkAfter : Option Side → Result (ℕ × Report) says.SettleFault → Option Side → Type 0
LinkAfter was (Err says.SettleFault.Closed) is = is ≡ was
LinkAfter was (Err says.NoPlan) is = is ≡ was
LinkAfter was (Err (says.LinkFault lost)) is = (was ≡ Some (lost_side lost)) × (is ≡ None)
LinkAfter was answer is = (was ≡ None) × (is ≡ None)
