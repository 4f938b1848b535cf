use Rattle.std.proofs.Common.{◌≡◌, ℕ, List, Some, take, drop, refl, sym, ap, subst, ◌∙◌, arith}
use Rattle.std.specs.Option.{option_map}
use Rattle.kb_log.specs.LogList.{list_of, used_of}
use Rattle.kb_log.specs.State.{IsRead}
use Rattle.kb_log.proofs.Opened.{uncounted, read_front}
use Rattle.kb_log.proofs.Records.{list_none}
use Rattle.kb_log.proofs.area.read_records.Goals as goal

pub loop-most-init : goal.loop-most-init
loop-most-init g c = record { within = omega arith; none = list_none; room = omega arith; content = refl; dirty = λ _. refl; left = refl; later = omega arith }

pub loop-most-preserved : goal.loop-most-preserved
loop-most-preserved g c =
    let i = c.loop-most.invariant in
    let e = c.in_ok-read_part.ensures in
    let shown : c.deref.result.now ≡ take c.min-most.result (drop c.args.start (g.D.Disk.content c.args.disk.now)) =
    c.deref.ensures.value ∙ e.text ∙ ap (λ (l : List ℕ). take c.min-most.result (drop c.args.start l)) i.content in
    record {
      within = omega arith;
      none = ap list_of (sym shown) ∙ uncounted (list_of c.deref.result.now) (sym c.used_in.ensures.used ∙ c.in_default.is);
      room = omega (arith, i.room, e.room);
      content = e.content ∙ i.content;
      dirty = λ place. e.dirty place ∙ i.dirty place;
      left = e.left ∙ i.left;
      later = omega (arith, i.later, e.later);
    }

pub returns-in-Some-clause-read : goal.returns-in-Some-clause-read
returns-in-Some-clause-read g c =
    let behind = drop c.args.start (g.D.Disk.content c.args.disk.now) in
    let text = c.read_part.new.text.items in
    let shown : text ≡ take c.min-most.result behind = c.in_ok-read_part.ensures.text ∙ ap (λ (l : List ℕ). take c.min-most.result (drop c.args.start l)) c.loop-most.invariant.content in
    let count : option_map used_of (list_of text) ≡ Some c.in-Some.used =
    ap (λ (l : List ℕ). option_map used_of (list_of l)) (sym c.deref.ensures.value) ∙ sym c.used_in.ensures.used ∙ c.in-Some.is in
    subst (λ (l : List ℕ). IsRead (take c.args.size behind) l) (sym c.truncate.ensures.items) (read_front behind text c.args.size c.min-most.result c.in-Some.used (omega arith) shown count)
