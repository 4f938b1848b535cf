use Rattle.std.proofs.Common.{◌≡◌, ◌≤◌, true, false, length, map, drop, sym, ap, subst, ◌∙◌, arith}
use Rattle.std.specs.Prelude.{reverse}
use Rattle.std.proofs.lemmas.List.{length-map, length-reverse}
use Rattle.kb_snap.specs.Chains.{ops_of, seq_of_last}
use Rattle.kb_device.specs.Journals.{last_seq}
use Rattle.kb_folder.specs.Held.{held}
use Rattle.kb_folder.proofs.Goes.{lawful_chain}
use Rattle.kb_device.specs.Past.{IsFirstOwn}
use Rattle.kb_device.specs.Opening.{meets}
use Rattle.kb_device.proofs.Pasts.{clash}
use Rattle.kb_device.proofs.Fronts.{lent_length}
use Rattle.kb_device.proofs.Meeting.{chain_last, meets_so, so_meets, is_sound, fault_started, map_behind}
use Rattle.kb_device.proofs.opening.find_met.Goals as goal

pub returns-in-Err-clause-finds : goal.returns-in-Err-clause-finds
returns-in-Err-clause-finds g c seed names chain j has is known_is base_is end_is =
    let f = held c.args.folder.now in
    let lent = map (λ b. b.items) c.args.lent.now in
    let mapped = length-map c.args.lent.now (λ b. b.items) in
    let size : length lent ≡ length has.back = lent_length g.S.Sealer.sealed g.S.Sealer.signed g.H.BlockHash.hashed seed names f has.back has.stands lent is in
    let bound = c.requires in
    let within : c.args.known ≤ length has.back = omega (arith, mapped, size, bound) in
    let cut : map (λ b. b.items) c.behind.result.now ≡ drop c.args.known (reverse f.revisions) = ap (map (λ b. b.items)) c.behind.ensures ∙ map_behind (λ b. b.items) c.args.known c.args.lent.now ∙ ap (drop c.args.known) is in
    fault_started c.in-Err.fault c.args.known c.fault_of.result _ _ _ c.fault_of.ensures (c.in-Err.ensures seed names c.args.known has.back has.stands within cut)

pub returns-then-not-may_be_taken-clause-finds : goal.returns-then-not-may_be_taken-clause-finds
returns-then-not-may_be_taken-clause-finds g c seed names chain j has is known_is base_is end_is =
    let f = held c.args.folder.now in
    let lent = map (λ b. b.items) c.args.lent.now in
    let mapped = length-map c.args.lent.now (λ b. b.items) in
    let size : length lent ≡ length has.back = lent_length g.S.Sealer.sealed g.S.Sealer.signed g.H.BlockHash.hashed seed names f has.back has.stands lent is in
    let bound = c.requires in
    let within : c.args.known ≤ length has.back = omega (arith, mapped, size, bound) in
    let cut : map (λ b. b.items) c.behind.result.now ≡ drop c.args.known (reverse f.revisions) = ap (map (λ b. b.items)) c.behind.ensures ∙ map_behind (λ b. b.items) c.args.known c.args.lent.now ∙ ap (drop c.args.known) is in
    let found = subst (λ l. IsFirstOwn c.args.d c.args.known (drop c.args.known l) c.in-Ok.own) (sym has.turned) (c.in-Ok.ensures seed names c.args.known has.back has.stands within cut) in
    let there = subst (λ n. IsFirstOwn c.args.d n (drop n chain) c.in-Ok.own) known_is found in
    let all = ap length has.turned in
    let turned = length-reverse has.back in
    let sound = is_sound c.args.d c.args.known (length c.args.lent.now) chain c.in-Ok.own bound (omega (arith, mapped, size, all, turned)) found in
    absurd (clash (sym (c.if-not-may_be_taken.ensures.1 sound)))

pub returns-then-not-meets-clause-finds : goal.returns-then-not-meets-clause-finds
returns-then-not-meets-clause-finds g c seed names chain j has is known_is base_is end_is =
    let f = held c.args.folder.now in
    let lent = map (λ b. b.items) c.args.lent.now in
    let mapped = length-map c.args.lent.now (λ b. b.items) in
    let size : length lent ≡ length has.back = lent_length g.S.Sealer.sealed g.S.Sealer.signed g.H.BlockHash.hashed seed names f has.back has.stands lent is in
    let bound = c.requires in
    let within : c.args.known ≤ length has.back = omega (arith, mapped, size, bound) in
    let cut : map (λ b. b.items) c.behind.result.now ≡ drop c.args.known (reverse f.revisions) = ap (map (λ b. b.items)) c.behind.ensures ∙ map_behind (λ b. b.items) c.args.known c.args.lent.now ∙ ap (drop c.args.known) is in
    let found = subst (λ l. IsFirstOwn c.args.d c.args.known (drop c.args.known l) c.in-Ok.own) (sym has.turned) (c.in-Ok.ensures seed names c.args.known has.back has.stands within cut) in
    let there = subst (λ n. IsFirstOwn c.args.d n (drop n chain) c.in-Ok.own) known_is found in
    let last_is : c.last.result ≡ seq_of_last (ops_of c.args.d chain) = c.last.ensures ∙ has.stands.last c.args.d ∙ ap (λ l. length (ops_of c.args.d l)) (sym has.turned) ∙ sym (chain_last c.args.d chain (lawful_chain g.S.Sealer.sealed g.S.Sealer.signed g.H.BlockHash.hashed seed names f chain has)) in
    let test : c.meets.result ≡ meets c.in-Ok.own c.last.result j.base (last_seq j) = c.meets.ensures ∙ (λ i. meets c.in-Ok.own c.last.result (base_is i) (end_is i)) in
    λ met. (let no : false ≡ true = sym c.if-not-meets.true ∙ test ∙ so_meets c.args.d chain j c.in-Ok.own c.last.result there last_is met in absurd (clash (sym no)))

pub returns-clause-finds : goal.returns-clause-finds
returns-clause-finds g c seed names chain j has is known_is base_is end_is =
    let f = held c.args.folder.now in
    let lent = map (λ b. b.items) c.args.lent.now in
    let mapped = length-map c.args.lent.now (λ b. b.items) in
    let size : length lent ≡ length has.back = lent_length g.S.Sealer.sealed g.S.Sealer.signed g.H.BlockHash.hashed seed names f has.back has.stands lent is in
    let bound = c.requires in
    let within : c.args.known ≤ length has.back = omega (arith, mapped, size, bound) in
    let cut : map (λ b. b.items) c.behind.result.now ≡ drop c.args.known (reverse f.revisions) = ap (map (λ b. b.items)) c.behind.ensures ∙ map_behind (λ b. b.items) c.args.known c.args.lent.now ∙ ap (drop c.args.known) is in
    let found = subst (λ l. IsFirstOwn c.args.d c.args.known (drop c.args.known l) c.in-Ok.own) (sym has.turned) (c.in-Ok.ensures seed names c.args.known has.back has.stands within cut) in
    let there = subst (λ n. IsFirstOwn c.args.d n (drop n chain) c.in-Ok.own) known_is found in
    let last_is : c.last.result ≡ seq_of_last (ops_of c.args.d chain) = c.last.ensures ∙ has.stands.last c.args.d ∙ ap (λ l. length (ops_of c.args.d l)) (sym has.turned) ∙ sym (chain_last c.args.d chain (lawful_chain g.S.Sealer.sealed g.S.Sealer.signed g.H.BlockHash.hashed seed names f chain has)) in
    let test : c.meets.result ≡ meets c.in-Ok.own c.last.result j.base (last_seq j) = c.meets.ensures ∙ (λ i. meets c.in-Ok.own c.last.result (base_is i) (end_is i)) in
    (there, meets_so c.args.d chain j c.in-Ok.own c.last.result there last_is (sym test ∙ c.if-not-meets.false))
