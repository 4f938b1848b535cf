-- What a device knows of its chain survives a revision without its operations: one of another device, or a change of the
-- members.
use Rattle.std.proofs.Common.{◌≡◌, ℕ, ◌≤◌, List, [], ◌∷◌, ◌++◌, length, All, Option, Some, None, Result, Ok, Err, inl, inr, sym, ap, ◌∙◌, arith, length-append, ◌+◌, ◌-◌}
use Rattle.std.proofs.lemmas.List.Elements.{All-weaker, All-nil, All-cons, All-head, All-tail}
use Rattle.kb_snap.specs.Chains.{Revision, Chain, ops_by}
use Rattle.kb_keys.specs.Members.{Roles}
use Rattle.kb_snap.specs.Answers.{PutFault}
use Rattle.kb_device.specs.Journals.{Journal}
use Rattle.kb_device.specs.Parts.{Flight, Part}
use Rattle.kb_device.specs.Meets.{Meets, Flying, FlightMeets, SessionMeets, PartMeets, AnswerMeets}
use Rattle.kb_device.specs.Waits.{Waiting, Nothing, Asked, Answered, WaitingMeets}
use Rattle.kb_snap.proofs.Chains.{tree_longer, roles_longer}
use Rattle.kb_device.proofs.Meets.{meets_longer, none_longer, is_step_longer}
use Rattle.kb_device.proofs.PartSteps.{Stands, at_journal, acknowledges_longer}
use Rattle.kb_device.specs.PartLaws.{OthersKeep}

pub all_both : {A : Type 0} (P Q : A → Type 0) (xs : List A) → All P xs → All Q xs → All (λ x. P x × Q x) xs
all_both P Q [] h k = All-nil (λ x. P x × Q x)
all_both P Q (x ∷ xs) h k = All-cons (λ x. P x × Q x) x xs (All-head P x xs h, All-head Q x xs k) (all_both P Q xs (All-tail P x xs h) (All-tail Q x xs k))

module _ (d : ℕ) (c : Chain) (x : Revision) (other : ops_by d x ≡ []) where
  flying_longer : (j : Journal) (f : Flight) → j.known ≤ length c → Flying d c j f → Flying d (c ++ x ∷ []) j f
  flying_longer j f within h = record {
    first = h.first;
    number = h.number;
    some = h.some;
    few = h.few;
    most = h.most;
    clear = h.clear;
    landed = elim h.landed [ inl none ↦ inl (none_longer d c x j within other none) | inr s ↦ inr (is_step_longer d c x j within f.count other s) ];
  }

  flight_longer : (j : Journal) (o : Option Flight) → j.known ≤ length c → FlightMeets d c j o → FlightMeets d (c ++ x ∷ []) j o
  flight_longer j None within h = none_longer d c x j within other h
  flight_longer j (Some f) within h = flying_longer j f within h

  session_longer : (p : Part) (j : Journal) → j.known ≤ length c → SessionMeets d c p j → SessionMeets d (c ++ x ∷ []) p j
  session_longer p j within s = record {
    journal_is = s.journal_is;
    known = s.known;
    base = s.base ∙ sym (tree_longer c (x ∷ []) j.known within);
    role = s.role ∙ ap (λ (roles : Roles). roles d) (sym (roles_longer c (x ∷ []) j.known within));
    flight = flight_longer j p.flight within s.flight;
    plan = λ n e. ((s.plan n e).0, (s.plan n e).1, (let le = (s.plan n e).2 in let e = length-append c (x ∷ []) in omega arith));
  }

  pub part_longer : (p : Part) → PartMeets d c p → PartMeets d (c ++ x ∷ []) p
  part_longer p h = record {
    some = h.some;
    may = All-weaker (Meets d c) (Meets d (c ++ x ∷ [])) (λ j m. meets_longer d c x j other m) p.may h.may;
    areas = h.areas;
    session = λ is. (let s = h.session is in (s.0, session_longer p s.0 (at_journal d c p s.0 h s.1.journal_is).within s.1));
    none = h.none;
  }

  answer_longer : (j : Journal) (f : Flight) (answer : Result ℕ PutFault) → j.known ≤ length c → AnswerMeets d c j f answer → AnswerMeets d (c ++ x ∷ []) j f answer
  answer_longer j f (Ok n) within h = (h.0, is_step_longer d c x j within f.count other h.1)
  answer_longer j f (Err fault) within h = none_longer d c x j within other h

  pub waiting_longer : (name : List ℕ) (p : Part) (w : Waiting) → PartMeets d c p → WaitingMeets d c name p w → WaitingMeets d (c ++ x ∷ []) name p w
  waiting_longer name p Nothing h m = tt
  waiting_longer name p (Asked ask) h m = record {
    journal = m.journal;
    flight = m.flight;
    at = m.at;
    flight_is = m.flight_is;
    ask_is = m.ask_is;
    none = none_longer d c x m.journal (at_journal d c p m.journal h m.at.journal_is).within other m.none;
  }
  waiting_longer name p (Answered answer) h m = record {
    journal = m.journal;
    flight = m.flight;
    at = m.at;
    flight_is = m.flight_is;
    answers = answer_longer m.journal m.flight answer (at_journal d c p m.journal h m.at.journal_is).within m.answers;
  }

  pub stands_longer : (name : List ℕ) (p : Part) (w : Waiting) → Stands d c name p w → Stands d (c ++ x ∷ []) name p w
  stands_longer name p w h = record {
    part = part_longer p h.part;
    acknowledged = acknowledges_longer d c x p h.part h.acknowledged;
    waiting = waiting_longer name p w h.part h.waiting;
  }

pub others_keep : OthersKeep
others_keep d c x p other h = part_longer d c x other p h
