use Rattle.std.proofs.Common.{◌≡◌, ℕ, Bool, Some, None, Option, List, ◌+◌, ◌-◌, ◌<◌, ◌≤◌, map, ap, sym, subst, ◌∙◌, arith}
use Rattle.std.specs.List.{range_with_len, filter}
use Rattle.kb_keys.specs.declared.entries.Entry.{Entry}
use Rattle.kb_chain.specs.Checks.{are_at, stripped, stays, remaining}
use Rattle.kb_chain.proofs.Places.{next_range, no_range, kept_some, kept_none}
use Rattle.kb_audit.proofs.fitting.are_remaining.Goals as goal

pub devices-preserved : goal.devices-preserved
devices-preserved c =
    let d = c.devices.device in
    let f : ℕ → ℕ × ℕ = λ d. (d, c.args.generation) in
    let p : ℕ → Bool = stays c.args.policy.now.0 c.args.gone in
    let here = next_range d 33 c.devices-test.true in
    sym (kept_some p f c.devices.rest.now c.in-Some.more.now d (range_with_len (d + 1) (33 - (d + 1))) (c.in-Some.ensures ∙ ap (λ b. stripped c.devices.rest.now b d c.args.generation) c.stays.ensures))
    ∙ ap (λ xs. are_at c.devices.rest.now (map f (filter p xs))) (sym here) ∙ c.devices.invariant

pub returns-in-None : goal.returns-in-None
returns-in-None c =
    let d = c.devices.device in
    let f : ℕ → ℕ × ℕ = λ d. (d, c.args.generation) in
    let p : ℕ → Bool = stays c.args.policy.now.0 c.args.gone in
    let here = next_range d 33 c.devices-test.true in
    sym (kept_none p f c.devices.rest.now d (range_with_len (d + 1) (33 - (d + 1))) (c.in-None.ensures ∙ ap (λ b. stripped c.devices.rest.now b d c.args.generation) c.stays.ensures))
    ∙ ap (λ xs. are_at c.devices.rest.now (map f (filter p xs))) (sym here) ∙ c.devices.invariant

pub returns : goal.returns
returns c =
    let f : ℕ → ℕ × ℕ = λ d. (d, c.args.generation) in
    let p : ℕ → Bool = stays c.args.policy.now.0 c.args.gone in
    c.is_done.ensures ∙ ap (λ xs. are_at c.devices.rest.now (map f (filter p xs))) (sym (no_range c.devices.device 33 c.devices-test.false)) ∙ c.devices.invariant
