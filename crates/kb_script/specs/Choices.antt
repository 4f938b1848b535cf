-- What the words with a choice are read as.
use Rattle.std.specs.Prelude.{ℕ, Bool, List, [], ◌∷◌, codes, if◌then◌else◌, Result, Ok, Err}
use Rattle.std.specs.List.{list_any}
use Rattle.std.specs.Str.{bytes_eq}
use Rattle.kb_edge.specs.declared.disk.Pick.{Pick}
use Rattle.kb_edge.specs.declared.link.Side.{Side}
use Rattle.kb_keys.specs.declared.policy.Role.{Role}
use Rattle.kb_name.specs.Names.{is_device_name}
use Rattle.kb_script.specs.declared.faults.Why.{Why}
use Rattle.kb_script.specs.declared.faults.Why.TheVariants as why
use Rattle.kb_script.specs.Seen.{Known, is_declared}
use Rattle.kb_script.specs.Table.{pick_words, side_words, role_words}
use Rattle.kb_script.specs.Words.{pick_of, side_of, role_of}

abbrev pub fresh_answer : Known → List ℕ → Result (List ℕ) Why
fresh_answer k w = if is_device_name w then (if is_declared k w then Err why.Device else Ok w) else Err why.Name

abbrev pub exec_answer : List ℕ → Result Bool Why
exec_answer w = if list_any (bytes_eq w) (codes "x" ∷ codes "-" ∷ []) then Ok (bytes_eq w (codes "x")) else Err why.Choice

abbrev pub pick_answer : List ℕ → Result Pick Why
pick_answer w = if list_any (bytes_eq w) pick_words then Ok (pick_of w) else Err why.Choice

abbrev pub role_answer : List ℕ → Result Role Why
role_answer w = if list_any (bytes_eq w) role_words then Ok (role_of w) else Err why.Choice

abbrev pub side_answer : List ℕ → Result Side Why
side_answer w = if list_any (bytes_eq w) side_words then Ok (side_of w) else Err why.Choice
