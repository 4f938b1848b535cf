-- What a note does to a session, from what its parts do.
use Rattle.std.proofs.Common.{◌≡◌, ℕ, List, Some, None, Result, Ok, Err, IfOk, OnOk, OnErr, inl, inr, refl, sym, subst}
use Rattle.kb_chain.specs.declared.states.PutRefusal.TheVariants as why
use Rattle.kb_device.specs.Inside.{Aloft, Inside}
use Rattle.kb_device.specs.Stands.{Platter}
use Rattle.kb_device.specs.Noting.{Writes, Stops, landed, parted, with_landed, NoteDoes}
use Rattle.kb_device.specs.declared.answers.PutAnswer.{PutAnswer}
use Rattle.kb_device.specs.declared.answers.Noted.{Noted}
use Rattle.kb_device.specs.declared.answers.Noted.TheVariants as noted
use Rattle.kb_device.specs.declared.answers.NoteFault.{NoteFault}
use Rattle.kb_device.specs.declared.answers.NoteFault.TheVariants as fault

stopped_is : (r : Result Noted NoteFault) (e : NoteFault) → r ≡ Err e → r ≡ Err fault.Stopped → e ≡ fault.Stopped
stopped_is r e is stopped = cc

module _ (old new : Inside) (was now : Platter) (answer : PutAnswer) (a : Aloft) (flies : old.aloft ≡ Some a) where
  pub land_does : (number : ℕ) (r : Result Noted NoteFault) → answer.number ≡ Ok number → IfOk r (λ x. x ≡ noted.Landed a.flight.number) → OnErr r (r ≡ Err fault.Stopped) → OnOk r (new ≡ with_landed old a answer.hash)
      → OnOk r (Writes (landed old.journal a answer.hash) was now) → OnErr r (Stops old.journal (landed old.journal a answer.hash) was now) → NoteDoes old was answer new now r
  land_does number (Ok x) put is err session writes stops =
      subst (λ y. NoteDoes old was answer new now (Ok y)) (sym is) (record { aloft = a; flies = flies; number = number; put = put; n_is = refl; session = session; disk = writes })
  land_does number (Err e) put is err session writes stops =
      subst (λ y. NoteDoes old was answer new now (Err y)) (sym (stopped_is (Err e) e refl err)) (inl (record { aloft = a; flies = flies; number = number; put = put; disk = stops }))

  pub part_does : (len : ℕ) (head : List ℕ) (r : Result Noted NoteFault) → answer.number ≡ Err (why.Stale len head) → IfOk r (λ x. x ≡ noted.Branched old.journal.known) → OnErr r (r ≡ Err fault.Stopped) → OnOk r (new ≡ record old { journal = parted old.journal; aloft = None })
      → OnOk r (Writes (parted old.journal) was now) → OnErr r (Stops old.journal (parted old.journal) was now) → NoteDoes old was answer new now r
  part_does len head (Ok x) put is err session writes stops =
      subst (λ y. NoteDoes old was answer new now (Ok y)) (sym is) (record { aloft = a; flies = flies; len = len; head = head; put = put; at_is = refl; session = session; disk = writes })
  part_does len head (Err e) put is err session writes stops =
      subst (λ y. NoteDoes old was answer new now (Err y)) (sym (stopped_is (Err e) e refl err)) (inr (record { aloft = a; flies = flies; len = len; head = head; put = put; disk = stops }))
