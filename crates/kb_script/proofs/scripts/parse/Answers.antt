use Rattle.std.proofs.Common.{subst, arith, Vec, Global, List, ℕ, ◌∙◌, sym}
use Rattle.kb_script.specs.declared.statements.Statement.{Statement}
use Rattle.kb_script.specs.Scripts.{ReadsLines}
use Rattle.kb_script.proofs.LinesRead.{few_ended, lines_split}
use Rattle.kb_script.proofs.ScriptsRead.{script_read, one_reading}
use Rattle.kb_script.proofs.scripts.parse.Goals as goal

pub returns-in_err-parts-clause-one_reading : goal.returns-in_err-parts-clause-one_reading
returns-in_err-parts-clause-one_reading c = one_reading c.args.live c.args.bytes.now

pub returns-in_default-clause-one_reading : goal.returns-in_default-clause-one_reading
returns-in_default-clause-one_reading c = one_reading c.args.live c.args.bytes.now

pub read_parts-requires : goal.read_parts-requires
read_parts-requires c = omega (arith, few_ended c.args.bytes.now c.in_ok-parts.parts.items c.in-Some.ended.now c.in-Some.last.now c.in_ok-parts.ensures (sym c.deref.ensures.value ∙ c.in-Some.ensures.cases.0))

pub returns-clause-value : goal.returns-clause-value
returns-clause-value c =
    let same = lines_split c.args.bytes.now c.in_ok-parts.parts.items c.in-Some.ended.now c.in-Some.last.now c.in_ok-parts.ensures (sym c.deref.ensures.value ∙ c.in-Some.ensures.cases.0) in
    let P : List (List ℕ) → Type 0 = λ l. ReadsLines {X = Vec Statement Global} (λ v. v.items) c.args.live l c.read_parts.result in
    script_read {X = Vec Statement Global} (λ v. v.items) c.args.live c.args.bytes.now c.read_parts.result (omega arith) (subst P same c.read_parts.ensures.value)

pub returns-clause-one_reading : goal.returns-clause-one_reading
returns-clause-one_reading c = one_reading c.args.live c.args.bytes.now
