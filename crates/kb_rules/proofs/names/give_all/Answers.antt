use Rattle.std.proofs.Common.{◌≡◌, ◌<◌, [], take, length, refl, ap, ◌∙◌, arith}
use Rattle.std.proofs.lemmas.List.{take_all}
use Rattle.kb_rules.specs.Names.{give_all}
use Rattle.kb_rules.specs.Naming.{named_three, given_to}
use Rattle.kb_rules.proofs.NamingFacts.{none_given, one_turn, count_more}
use Rattle.kb_rules.proofs.names.give_all.Goals as goal

pub loop-q-init : goal.loop-q-init
loop-q-init c = record {
  few = omega arith;
  given = none_given c.args.seats.now.sides.now c.in_ok-all_places.field-0 c.new.result 0 c.in_ok-all_places.ensures c.new.ensures.empty refl;
}

pub loop-q-preserved : goal.loop-q-preserved
loop-q-preserved c =
    let s = c.args.seats.now.sides.now in
    let within : c.loop-q.q-index < length s.ids.now = omega arith in
    record {
      few = count_more _ c.loop-q.naming.count c.give.new.naming.count c.loop-q.q-index c.in_ok-give.ensures.count c.loop-q.invariant.few;
      given = one_turn s c.loop-q.q-index (record { device = 0; seq = 0; part = 0 }) c.in_ok-merged.merged c.loop-q.naming.taken c.give.new.naming.taken c.loop-q.naming.names c.give.new.naming.names c.loop-q.naming.count c.give.new.naming.count
          within c.in_ok-merged.ensures c.loop-q.invariant.given c.in_ok-give.ensures.taken c.in_ok-give.ensures.names c.in_ok-give.ensures.count;
    }

pub returns-clause-names : goal.returns-clause-names
returns-clause-names c =
    let s = c.args.seats.now.sides.now in
    let all : take c.loop-q.q-index s.ids.now ≡ s.ids.now = take_all c.loop-q.q-index s.ids.now c.loop-q-test.false in
    λ k. c.loop-q.invariant.given.are_named k ∙ ap (λ ids. given_to (give_all (named_three s) ids []) k) all

pub returns-clause-count : goal.returns-clause-count
returns-clause-count c =
    let s = c.args.seats.now.sides.now in
    let all : take c.loop-q.q-index s.ids.now ≡ s.ids.now = take_all c.loop-q.q-index s.ids.now c.loop-q-test.false in
    c.loop-q.invariant.given.counted ∙ ap (λ ids. length (give_all (named_three s) ids [])) all
