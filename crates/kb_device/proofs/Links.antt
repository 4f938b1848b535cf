-- What a link tells, and what is known of a put that failed over it.
use Rattle.std.proofs.Common.{◌≡◌, ◌⊎◌, inl, inr, ℕ, List, Option, None, Some, Result, Ok, Err, refl, sym, subst}
use Rattle.kb_edge.specs.declared.link.Side.{Side}
use Rattle.kb_edge.specs.declared.link.Side.TheVariants.{Request, Reply}
use Rattle.kb_ops.specs.Trees.{Tree}
use Rattle.kb_snap.specs.Pointers.{Kept}
use Rattle.kb_chain.specs.declared.states.FolderRequest.{FolderRequest}
use Rattle.kb_chain.specs.declared.states.PutRefusal.{PutRefusal}
use Rattle.kb_folder.specs.Puts.{Held}
use Rattle.kb_device.specs.Caches.{Cache, Takes}
use Rattle.kb_device.specs.Inside.{Plan, Inside}
use Rattle.kb_device.specs.Stands.{Platter}
use Rattle.kb_device.specs.Settling.{IsAsked, Asks, RequestLost, ReplyLost}
use Rattle.kb_device.specs.Links.{WhereTold, Spares, Loses, Answers, PutsOver}
use Rattle.kb_device.specs.declared.linked.CarryFault.{CarryFault}
use Rattle.kb_device.specs.declared.linked.CarryFault.TheVariants as carry
use Rattle.kb_device.proofs.Settlings.{asks_by}

-- a link that is the same tells the same
pub told_same : (armed armed' : Option (Option Side)) → armed' ≡ armed → WhereTold armed armed' (λ was is. is ≡ was)
told_same None armed' same = tt
told_same (Some was) armed' same = subst (λ o. WhereTold (Some was) o (λ a b. b ≡ a)) (sym same) refl

pub spares : (armed : Option (Option Side)) → Spares armed armed
spares armed = told_same armed armed refl

-- an answer of the folder, matched
pub answers_as : (signed : List ℕ → List ℕ → List ℕ) (hashed : List ℕ → List ℕ) (f g : Held) (request : FolderRequest) (a b : Result ℕ PutRefusal) → a ≡ b → Answers signed hashed f request g a → Answers signed hashed f request g b
answers_as signed hashed f g request a b same put = subst (λ x. Answers signed hashed f request g x) same put

-- a folder that lacked memory did nothing
pub memory_over : (signed : List ℕ → List ℕ → List ℕ) (hashed : List ℕ → List ℕ) (f g : Held) (request : FolderRequest) (armed armed' : Option (Option Side)) (fault : CarryFault) → fault ≡ carry.Memory → PutsOver signed hashed f request g armed armed' (Err fault) → (g ≡ f) × Spares armed armed'
memory_over signed hashed f g request armed armed' fault is over = subst (λ x. PutsOver signed hashed f request g armed armed' (Err x)) is over

module _ (sealed signed : List ℕ → List ℕ → List ℕ) (hashed : List ℕ → List ℕ) (f g : Held) (d : ℕ) (secret : List ℕ) (moment : ℕ) (tree : Tree) (s : Inside) (was : Platter) (t : Inside) (now : Platter) (o : Option Plan) (x : Plan) (request : FolderRequest) (pointers : Kept) (cache : Cache) (armed armed' : Option (Option Side)) (fault : CarryFault) where
  -- and where something was lost, it was the request, or the reply to what was asked
  pub lost_over : s.plan ≡ Some x → IsAsked sealed signed hashed d secret moment (record s { plan = o }) x tree request pointers → Takes hashed x.cache request.blocks cache → now ≡ was → fault ≡ carry.Lost → PutsOver signed hashed f request g armed armed' (Err fault)
      → (RequestLost sealed signed hashed f g d secret moment tree s was t now × Loses Request armed armed') ⊎ (ReplyLost sealed signed hashed f g d secret moment tree s was t now × Loses Reply armed armed')
  lost_over planned asked takes disk is over = by (subst (λ y. PutsOver signed hashed f request g armed armed' (Err y)) is over)
    where
      by : PutsOver signed hashed f request g armed armed' (Err carry.Lost)
          → (RequestLost sealed signed hashed f g d secret moment tree s was t now × Loses Request armed armed') ⊎ (ReplyLost sealed signed hashed f g d secret moment tree s was t now × Loses Reply armed armed')
      by (inl (same, loses)) = inl (record { plan = x; planned = planned; folder = same; disk = disk }, loses)
      by (inr (answer, put, loses)) = inr (record { answer = answer; asks = asks_by sealed signed hashed f g d secret moment tree s was t now o x request pointers cache answer planned asked takes put; disk = disk }, loses)
