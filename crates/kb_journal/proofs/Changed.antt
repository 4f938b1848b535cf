-- A change that is written, seen from the state before it.
use Rattle.std.proofs.Common.{◌≡◌, ◌⊎◌, inl, inr, ℕ, ◌+◌, ◌-◌, ◌<◌, true, eqb, ltb, List, [], ◌∷◌, ◌++◌, length, Option, Some, refl, sym, ap, subst, ◌∙◌, arith, length-append}
use Rattle.std.specs.Prelude.{slice_get}
use Rattle.std.proofs.lemmas.Bool.Decides.{nat_tests}
use Rattle.kb_ops.specs.declared.rows.Op.{Op as Operation}
use Rattle.kb_ops.specs.Grammar.{IsOp}
use Rattle.kb_log.specs.Images.{HasList}
use Rattle.kb_log.specs.LogList.{area_size}
use Rattle.kb_journal.specs.declared.entries.Entry.TheVariants.{Op}
use Rattle.kb_journal.specs.State.{State, Leads, HasState, empty, is_whole, allows, done, takes_device, last_seq, queued_text}
use Rattle.kb_journal.proofs.Compacting.{image_state}
use Rattle.kb_journal.proofs.Leading.{leads_push}

get_last : {A : Type 0} (xs : List A) (x : A) (n : ℕ) → n ≡ length xs → slice_get (xs ++ x ∷ []) n ≡ Some x
get_last [] x n is = rw is refl
get_last (y ∷ ys) x n is = rw is (get_last ys x (length ys) refl)

some_same : {A : Type 0} (x y : A) → ◌≡◌ {A = Option A} (Some x) (Some y) → x ≡ y
some_same x y e = cc

-- the last of a list that was pushed to
pub last_is : {A : Type 0} (xs all : List A) (x y : A) → all ≡ xs ++ x ∷ [] → ◌≡◌ {A = Option A} (Some y) (slice_get all (length all - 1)) → y ≡ x
last_is xs all x y is e =
    let at : length all - 1 ≡ length xs = omega (arith, ap length is, length-append xs (x ∷ [])) in
    some_same y x (e ∙ rw is (get_last xs x _ (let k : length (xs ++ x ∷ []) - 1 ≡ length xs = omega (arith, length-append xs (x ∷ [])) in k)))

may_queue : (s : State) (op : Operation) → op.seq ≡ last_seq s + 1 → length s.queue < 4096 → takes_device s.queue op.device ≡ true → allows s (Op op) ≡ true
may_queue s op next few takes =
    let same : eqb op.seq (s.base + length s.queue + 1) ≡ true = grind (arith, nat_tests) in
    let room : ltb (length s.queue) 4096 ≡ true = grind (arith, nat_tests) in
    rw (same, room, takes) refl

-- a queued operation leads on
pub queue_leads : (s t : State) (ps : List (List ℕ)) (op : Operation) (payload : List ℕ) → Leads empty ps s → IsOp op → op.seq ≡ last_seq s + 1 → length s.queue < 4096 → takes_device s.queue op.device ≡ true → payload ≡ queued_text op → t ≡ done s (Op op) → Leads empty (ps ++ payload ∷ []) t
queue_leads s t ps op payload leads is next few takes spelled after =
    leads_push empty s t ps payload leads (record { entry = Op op; is = is; spelled = spelled; allowed = may_queue s op next few takes; after = sym after })

-- every image, seen as a state
pub either_state : (s t u : State) (n : ℕ) (image : List ℕ) (ps : List (List ℕ)) → Leads empty ps s → is_whole (area_size n) s ≡ true → length image ≡ n → t ≡ u → HasList ps image ⊎ HasState t image → HasState s image ⊎ HasState u image
either_state s t u n image ps leads whole size same (inl list) = inl (image_state s n image ps list leads size whole)
either_state s t u n image ps leads whole size same (inr found) = inr (subst (λ (x : State). HasState x image) same found)
