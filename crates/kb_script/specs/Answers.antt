-- What a line is read as.
use Rattle.std.specs.Prelude.{ℕ, Bool, false, not, ◌&&◌, List, ◌∷◌, find, Option, Some, None, is_none, if◌then◌else◌, Result, Ok, Err}
use Rattle.std.specs.Option.{option_map_or}
use Rattle.std.specs.Str.{is_utf8}
use Rattle.kb_script.specs.declared.faults.Why.{Why}
use Rattle.kb_script.specs.declared.faults.Why.TheVariants as why
use Rattle.kb_script.specs.declared.statements.Statement.{Statement}
use Rattle.kb_script.specs.declared.verbs.Verb.{Verb}
use Rattle.kb_script.specs.Lines.{word, words_of, is_comment}
use Rattle.kb_script.specs.Table.{verb_of, is_later_word}
use Rattle.kb_script.specs.Seen.{Known}
use Rattle.kb_script.specs.Reasons.{answer, applies, reasons, said}

-- whether a reason applies to words of which the first is this statement's, if it is one's
abbrev pub applies_to_words : Bool → Known → Option Verb → List (List ℕ) → Why → Bool
applies_to_words live k v ws why.Text = false
applies_to_words live k v ws why.Word = is_none v && not (is_later_word live (word ws 0))
applies_to_words live k v ws why.Later = is_none v && is_later_word live (word ws 0)
applies_to_words live k v ws r = option_map_or (λ v. applies k v ws r) v false

-- whether a reason applies to a line: Text to each line, the others to one with a statement's words
abbrev pub applies_to : Bool → Known → List ℕ → Why → Bool
applies_to live k line why.Text = not (is_utf8 line)
applies_to live k line r = not (is_comment (words_of line)) && applies_to_words live k (verb_of (word (words_of line) 0)) (words_of line) r

-- the first reason of the list that applies
abbrev pub why_bad : Bool → Known → List ℕ → Option Why
why_bad live k line = find (applies_to live k line) (why.Text ∷ why.Word ∷ why.Later ∷ reasons)

-- what a line says that no reason applies to
abbrev pub said_by : Known → List ℕ → Option Statement
said_by k line = if is_comment (words_of line) then None else option_map_or (λ v. Some (said k v (words_of line))) (verb_of (word (words_of line) 0)) None

-- the same, step by step
abbrev pub with_statement : Result Statement Why → Result (Option Statement) Why
with_statement (Ok s) = Ok (Some s)
with_statement (Err r) = Err r

abbrev pub verb_answer : Bool → Known → Option Verb → List (List ℕ) → Result (Option Statement) Why
verb_answer live k None ws = Err (if is_later_word live (word ws 0) then why.Later else why.Word)
verb_answer live k (Some v) ws = with_statement (answer k v ws)

abbrev pub worded_answer : Bool → Known → List (List ℕ) → Result (Option Statement) Why
worded_answer live k ws = if is_comment ws then Ok None else verb_answer live k (verb_of (word ws 0)) ws

abbrev pub line_answer : Bool → Known → List ℕ → Result (Option Statement) Why
line_answer live k line = if is_utf8 line then worded_answer live k (words_of line) else Err why.Text
