-- A late put keeps what a closed device knows.
use Rattle.std.proofs.Common.{◌≡◌, ℕ, true, false, List, [], ◌∷◌, ◌++◌, length, take, Some, sym, ap, ◌∙◌, arith, length-append}
use Rattle.std.proofs.lemmas.List.{take-append-le}
use Rattle.std.proofs.lemmas.List.Elements.{All-weaker}
use Rattle.kb_ops.specs.declared.rows.Op.{Op}
use Rattle.kb_snap.specs.Chains.{Stepped, Chain, moment_of_last}
use Rattle.kb_snap.specs.Puts.{Ask, IsNext}
use Rattle.kb_device.specs.Journals.{Journal, queued}
use Rattle.kb_device.specs.Parts.{Part, ended}
use Rattle.kb_device.specs.Meets.{Meets, PartMeets, AskMeets}
use Rattle.kb_device.specs.Late.{IsOut, AskIsOut}
use Rattle.kb_device.proofs.Meets.{put_step, meets_step}
use Rattle.kb_device.proofs.PartSteps.{all_two, at_session, flight_there}
use Rattle.kb_device.proofs.PartLonger.{all_both}

-- the request that waited as a call was stopped
pub out_broken : (d : ℕ) (c : Chain) (name : List ℕ) (p : Part) (ask : Ask) (op : Op) → PartMeets d c p → (w : AskMeets d c name p ask)
    → AskIsOut d w.flight.count c (record (ended p) { may = w.journal ∷ queued op w.journal ∷ []; stopped = Some op }) ask
out_broken d c name p ask op part w = all_two (IsOut d w.flight.count c ask) w.journal (queued op w.journal) first second where
  j : Journal
  j = w.journal

  first : IsOut d w.flight.count c ask w.journal
  first =
      let s = at_session d c p w.journal part w.at in
      let fly = flight_there d c w.journal p.flight w.flight w.flight_is s.flight in
      record {
        number = ap (λ (a : Ask). a.number) w.ask_is ∙ fly.number;
        writer = ap (λ (a : Ask). a.revision.writer) w.ask_is;
        deed = ap (λ (a : Ask). a.revision.deed) w.ask_is;
        moment = ap (λ (a : Ask). a.revision.moment) w.ask_is;
        some = fly.some;
        few = fly.few;
        none = w.none;
      }

  second : IsOut d w.flight.count c ask (queued op w.journal)
  second =
      let same : take w.flight.count w.journal.queue ≡ take w.flight.count (queued op w.journal).queue = sym (take-append-le w.flight.count w.journal.queue (op ∷ []) first.few) in
      record {
        number = first.number;
        writer = first.writer;
        deed = first.deed ∙ ap Stepped same;
        moment = first.moment ∙ ap moment_of_last same;
        some = first.some;
        few = (let few = first.few in let e = length-append w.journal.queue (op ∷ []) in omega arith);
        none = first.none;
      }

-- it is put
pub late_put : (d count : ℕ) (c : Chain) (p : Part) (ask : Ask) → PartMeets d c p → p.is_open ≡ false → AskIsOut d count c p ask → IsNext c ask → PartMeets d (c ++ ask.revision ∷ []) p
late_put d count c p ask h shut out next = record {
  some = h.some;
  may = All-weaker (λ j. Meets d c j × IsOut d count c ask j) (Meets d (c ++ ask.revision ∷ []))
      (λ j m.
      let known : j.known ≡ length c = (let a = m.1.number in let b = next.number in omega arith) in
      meets_step d c ask.revision j count m.0 (put_step d c ask.revision j count m.0 known m.1.writer m.1.deed m.1.some m.1.few))
      p.may (all_both (Meets d c) (IsOut d count c ask) p.may h.may out);
  areas = h.areas;
  session = λ is. absurd (let no : true ≡ false = sym is ∙ shut in cc);
  none = h.none;
}
