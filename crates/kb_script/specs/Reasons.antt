-- Why a statement's words are bad, and what they say where they aren't.
use Rattle.std.specs.Prelude.{ℕ, ◌+◌, Bool, false, not, ◌||◌, ◌==◌, List, [], ◌∷◌, length, find, Option, Some, None, is_none, codes, if◌then◌else◌, Result, Ok, Err}
use Rattle.std.specs.List.{list_any}
use Rattle.std.specs.Option.{option_map_or, unwrap_or}
use Rattle.std.specs.Str.{bytes_eq}
use Rattle.kb_name.specs.Names.{is_device_name}
use Rattle.kb_ops.specs.declared.requests.Request.TheVariants as request
use Rattle.kb_ops.specs.declared.requests.Show.TheVariants as show
use Rattle.kb_script.specs.declared.faults.Why.{Why}
use Rattle.kb_script.specs.declared.faults.Why.TheVariants as why
use Rattle.kb_script.specs.declared.verbs.Verb.{Verb}
use Rattle.kb_script.specs.declared.verbs.Verb.TheVariants as verb
use Rattle.kb_script.specs.declared.statements.Statement.{Statement}
use Rattle.kb_script.specs.declared.statements.Statement.TheVariants as statement
use Rattle.kb_script.specs.Lines.{word}
use Rattle.kb_script.specs.Words.{is_number_in, value, is_data, bytes_in, is_seed, seed_in, pick_of, side_of, role_of}
use Rattle.kb_script.specs.Table.{Want, Number, SeedWord, NewDevice, OldDevice, DataWord, OneOf, forms}
use Rattle.kb_script.specs.Seen.{Known, is_declared, number_of, may_stand}

-- whether a word at such a place is refused for a reason
abbrev pub refuses : Known → Why → Want → List ℕ → Bool
refuses k why.Number (Number low high) w = not (is_number_in low high w)
refuses k why.Hex SeedWord w = not (is_seed w)
refuses k why.Name NewDevice w = not (is_device_name w)
refuses k why.Choice DataWord w = not (is_data w)
refuses k why.Choice (OneOf choices) w = not (list_any (bytes_eq w) choices)
refuses k why.Device NewDevice w = is_declared k w
refuses k why.Device OldDevice w = not (is_declared k w)
refuses k r want w = false

-- whether a word from place i on is
abbrev pub some_refused : (Want → List ℕ → Bool) → List Want → ℕ → List (List ℕ) → Bool
some_refused refused [] i ws = false
some_refused refused (want ∷ wants) i ws = refused want (word ws i) || some_refused refused wants (i + 1) ws

-- the form with as many words
abbrev pub form_of : Verb → List (List ℕ) → Option (List Want)
form_of v ws = find (λ form. length ws == length form + 1) (forms v)

-- whether a reason applies to a statement's words
abbrev pub applies : Known → Verb → List (List ℕ) → Why → Bool
applies k v ws why.Count = is_none (form_of v ws)
applies k v ws why.Order = not (may_stand k v)
applies k v ws r = some_refused (refuses k r) (unwrap_or (form_of v ws) []) 1 ws

-- the reasons in the order in which they are given, behind those that say that there is no statement
abbrev pub reasons : List Why
reasons = why.Count ∷ why.Number ∷ why.Hex ∷ why.Name ∷ why.Choice ∷ why.Device ∷ why.Order ∷ []

abbrev pub reason : Known → Verb → List (List ℕ) → Option Why
reason k v ws = find (applies k v ws) reasons

abbrev pub range_in : List (List ℕ) → Option (ℕ × ℕ)
range_in ws = if length ws == 5 then Some (value (word ws 3), value (word ws 4)) else None

-- what a statement's words say
abbrev pub said : Known → Verb → List (List ℕ) → Statement
said k verb.Seed ws = statement.Seed (seed_in (word ws 1))
said k verb.Device ws = statement.Device (word ws 1) (value (word ws 2))
said k verb.Found ws = statement.Found (number_of k (word ws 1))
said k verb.Grant ws = statement.Grant (number_of k (word ws 1)) (number_of k (word ws 2)) (role_of (word ws 3))
said k verb.Revoke ws = statement.Revoke (number_of k (word ws 1)) (number_of k (word ws 2))
said k verb.At ws = statement.At (value (word ws 1))
said k verb.Open ws = statement.Open (number_of k (word ws 1))
said k verb.Pick ws = statement.Pick (number_of k (word ws 1))
said k verb.Land ws = statement.Land (number_of k (word ws 1))
said k verb.Note ws = statement.Note (number_of k (word ws 1))
said k verb.Flush ws = statement.Flush (number_of k (word ws 1))
said k verb.Drain ws = statement.Drain (number_of k (word ws 1))
said k verb.Pull ws = statement.Pull (number_of k (word ws 1))
said k verb.Fetch ws = statement.Fetch (number_of k (word ws 1))
said k verb.Settle ws = statement.Settle (number_of k (word ws 1))
said k verb.Resolve ws = statement.Resolve (number_of k (word ws 1))
said k verb.Status ws = statement.Status (number_of k (word ws 1))
said k verb.Fuse ws = statement.Fuse (number_of k (word ws 1)) (value (word ws 2))
said k verb.Lose ws = statement.Lose (number_of k (word ws 1)) (side_of (word ws 2))
said k verb.Power ws = statement.Power (number_of k (word ws 1)) (pick_of (word ws 2))
said k verb.Folder ws = statement.Folder
said k verb.Verify ws = statement.Verify
said k verb.Mkdir ws = statement.File (number_of k (word ws 1)) (request.Mkdir (word ws 2))
said k verb.Mkfile ws = statement.File (number_of k (word ws 1)) (request.Mkfile (word ws 2))
said k verb.Link ws = statement.File (number_of k (word ws 1)) (request.Link (word ws 2) (bytes_in (word ws 3)))
said k verb.Remove ws = statement.File (number_of k (word ws 1)) (request.Remove (word ws 2))
said k verb.Move ws = statement.File (number_of k (word ws 1)) (request.Move (word ws 2) (word ws 3))
said k verb.Write ws = statement.File (number_of k (word ws 1)) (request.Write (word ws 2) (value (word ws 3)) (bytes_in (word ws 4)))
said k verb.Cut ws = statement.File (number_of k (word ws 1)) (request.Cut (word ws 2) (value (word ws 3)))
said k verb.Chmod ws = statement.File (number_of k (word ws 1)) (request.Exec (word ws 2) (bytes_eq (word ws 3) (codes "x")))
said k verb.Touch ws = statement.File (number_of k (word ws 1)) (request.Touch (word ws 2) (value (word ws 3)))
said k verb.Cat ws = statement.Look (number_of k (word ws 1)) (show.Cat (word ws 2) (range_in ws))
said k verb.Ls ws = statement.Look (number_of k (word ws 1)) (show.Ls (word ws 2))
said k verb.Tree ws = statement.Look (number_of k (word ws 1)) show.Tree
said k verb.Stat ws = statement.Look (number_of k (word ws 1)) (show.Stat (word ws 2))

-- what a statement's words are read as
abbrev pub answer : Known → Verb → List (List ℕ) → Result Statement Why
answer k v ws = option_map_or (λ r. Err r) (reason k v ws) (Ok (said k v ws))
