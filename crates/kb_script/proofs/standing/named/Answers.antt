use Rattle.std.proofs.Common.{◌≡◌, Some, None, Option, ℕ, position, subst}
use Rattle.std.specs.Str.{bytes_eq}
use Rattle.kb_script.proofs.DevicesNamed.{named_yes, named_no}
use Rattle.kb_script.proofs.standing.named.Goals as goal

pub returns-in-Some-clause-value : goal.returns-in-Some-clause-value
returns-in-Some-clause-value c =
    let keys = c.args.seen.now.devices.keys in
    named_yes (λ name. name.items) c.args.word.now keys c.in-Some.place
    (subst (λ w. Some c.in-Some.place ≡ position (λ name. bytes_eq w name.items) keys) c.as_bytes.ensures.value c.in-Some.ensures.index)

pub returns-in-None-clause-value : goal.returns-in-None-clause-value
returns-in-None-clause-value c =
    let keys = c.args.seen.now.devices.keys in
    named_no (λ name. name.items) c.args.word.now keys
    (subst (λ w. None ≡ position (λ name. bytes_eq w name.items) keys) c.as_bytes.ensures.value c.in-None.ensures.index)
