-- A line read step by step is read as the table has it.
use Rattle.std.proofs.Common.{◌≡◌, Bool, true, false, not, cond, ◌&&◌, List, ℕ, ◌∷◌, Option, Some, None, Result, Ok, Err, refl, ◌∙◌, ap}
use Rattle.std.specs.Prelude.{find, is_none}
use Rattle.std.specs.Option.{option_map_or}
use Rattle.std.specs.Str.{is_utf8}
use Rattle.kb_script.specs.declared.faults.Why.{Why}
use Rattle.kb_script.specs.declared.faults.Why.TheVariants as why
use Rattle.kb_script.specs.declared.statements.Statement.{Statement}
use Rattle.kb_script.specs.declared.verbs.Verb.{Verb}
use Rattle.kb_script.specs.Lines.{word, words_of, is_comment}
use Rattle.kb_script.specs.Table.{verb_of, is_later_word}
use Rattle.kb_script.specs.Seen.{Known}
use Rattle.kb_script.specs.Reasons.{answer, applies, reason, reasons, said}
use Rattle.kb_script.specs.Answers.{with_statement, verb_answer, line_answer, why_bad, said_by}

-- whether a reason applies, by what was found out of the line
fits : Bool → Bool → Bool → Option Verb → Known → List (List ℕ) → Why → Bool
fits text comment later o k ws why.Text = not text
fits text comment later o k ws why.Word = not comment && (is_none o && not later)
fits text comment later o k ws why.Later = not comment && (is_none o && later)
fits text comment later o k ws r = not comment && option_map_or (λ v. applies k v ws r) o false

with_statement_is : (o : Option Why) (s : Statement) → with_statement (option_map_or (λ r. Err r) o (Ok s)) ≡ option_map_or (λ r. Err r) o (Ok (Some s))
with_statement_is None s = refl
with_statement_is (Some r) s = refl

abbrev verb_read : Bool → Known → Option Verb → List (List ℕ) → Result (Option Statement) Why
verb_read later k None ws = Err (cond later why.Later why.Word)
verb_read later k (Some v) ws = with_statement (answer k v ws)

in_table : (text comment later : Bool) (o : Option Verb) (k : Known) (ws : List (List ℕ))
    → cond text (cond comment (Ok None) (verb_read later k o ws)) (Err why.Text) ≡ option_map_or (λ r. Err r) (find (fits text comment later o k ws) (why.Text ∷ why.Word ∷ why.Later ∷ reasons)) (Ok (cond comment None (option_map_or (λ v. Some (said k v ws)) o None)))
unfolding fits
in_table false comment later o k ws = refl
in_table true true later o k ws = refl
in_table true false true None k ws = refl
in_table true false false None k ws = refl
in_table true false later (Some v) k ws = with_statement_is (reason k v ws) (said k v ws)

as_read : (live : Bool) (k : Known) (o : Option Verb) (ws : List (List ℕ)) → verb_answer live k o ws ≡ verb_read (is_later_word live (word ws 0)) k o ws
as_read live k None ws = refl
as_read live k (Some v) ws = refl

pub line_in_table : (live : Bool) (k : Known) (line : List ℕ) → line_answer live k line ≡ option_map_or (λ r. Err r) (why_bad live k line) (Ok (said_by k line))
unfolding fits
line_in_table live k line =
    ap (λ r. cond (is_utf8 line) (cond (is_comment (words_of line)) (Ok None) r) (Err why.Text)) (as_read live k (verb_of (word (words_of line) 0)) (words_of line))
    ∙ in_table (is_utf8 line) (is_comment (words_of line)) (is_later_word live (word (words_of line) 0)) (verb_of (word (words_of line) 0)) k (words_of line)
