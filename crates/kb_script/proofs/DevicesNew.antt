-- A device that a line declares has a new name, and goes last in the index.
use Rattle.std.proofs.Common.{◌≡◌, ℕ, Bool, true, false, not, cond, ◌||◌, eqb, List, [], ◌∷◌, ◌++◌, length, map, Option, Some, None, Result, Ok, Err, refl, sym, ap, ◌∙◌, subst}
use Rattle.std.specs.Prelude.{find, is_none}
use Rattle.std.specs.Option.{option_map_or, unwrap_or}
use Rattle.std.specs.List.{list_any}
use Rattle.std.specs.Str.{is_utf8, bytes_eq}
use Rattle.kb_script.specs.declared.faults.Why.{Why}
use Rattle.kb_script.specs.declared.faults.Why.TheVariants as why
use Rattle.kb_script.specs.declared.statements.Statement.{Statement}
use Rattle.kb_script.specs.declared.verbs.Verb.{Verb}
use Rattle.kb_script.specs.declared.verbs.Verb.TheVariants as verb
use Rattle.kb_script.specs.Lines.{word, words_of, is_comment}
use Rattle.kb_script.specs.Table.{Want, NewDevice, Number, verb_of}
use Rattle.kb_script.specs.Seen.{Known, is_declared, may_stand, IsNew}
use Rattle.kb_script.specs.Earlier.{after}
use Rattle.kb_script.specs.declared.statements.Statement.TheVariants as statement
use Rattle.kb_script.specs.Reasons.{answer, reason, reasons, refuses, said, some_refused}
use Rattle.kb_script.specs.Answers.{with_statement, verb_answer, line_answer}

abbrev wants : List Want
wants = NewDevice ∷ Number 4096 16777216 ∷ []

-- whether a reason applies to a device's words, of which there are three or not
abbrev applied : Known → List (List ℕ) → Bool → Why → Bool
applied k ws three why.Count = is_none (cond three (Some wants) None)
applied k ws three why.Order = not (may_stand k verb.Device)
applied k ws three r = some_refused (refuses k r) (unwrap_or (cond three (Some wants) None) []) 1 ws

chain : (number name device order : Bool) → cond (number || false) (Some why.Number) (cond (name || false) (Some why.Name) (cond (device || false) (Some why.Device) (cond order (Some why.Order) None))) ≡ None → device ≡ false
chain true name device order h = cc
chain false true device order h = cc
chain false false true order h = cc
chain false false false order h = refl

by_count : (k : Known) (ws : List (List ℕ)) (three : Bool) → find (applied k ws three) reasons ≡ None → is_declared k (word ws 1) ≡ false
by_count k ws false h = cc
by_count k ws true h = chain _ _ (is_declared k (word ws 1)) _ h

said_new : (k : Known) (v : Verb) (ws : List (List ℕ)) → reason k v ws ≡ None → IsNew k (said k v ws)
said_new k verb.Device ws h = by_count k ws (eqb (length ws) 3) h
said_new k v ws h = tt

part_of : {A E : Type 0} (o : Option E) (q x : A) → option_map_or (λ e. Err e) o (Ok q) ≡ Ok x → (o ≡ None) × (x ≡ q)
part_of None q x h = (refl, cc)
part_of (Some e) q x h = cc

answer_new : (k : Known) (v : Verb) (ws : List (List ℕ)) (s : Statement) → answer k v ws ≡ Ok s → IsNew k s
answer_new k v ws s h = let told = part_of (reason k v ws) (said k v ws) s h in subst (IsNew k) (sym told.1) (said_new k v ws told.0)

in_text : {A E : Type 0} (text : Bool) (r : Result A E) (e : E) (x : A) → cond text r (Err e) ≡ Ok x → r ≡ Ok x
in_text true r e x h = h
in_text false r e x h = cc

in_words : {A E : Type 0} (comment : Bool) (r : Result (Option A) E) (x : A) → cond comment (Ok None) r ≡ Ok (Some x) → r ≡ Ok (Some x)
in_words true r x h = cc
in_words false r x h = h

in_answer : (r : Result Statement Why) (s : Statement) → with_statement r ≡ Ok (Some s) → r ≡ Ok s
in_answer (Ok t) s h = cc
in_answer (Err r) s h = cc

verb_new : (live : Bool) (k : Known) (o : Option Verb) (ws : List (List ℕ)) (s : Statement) → verb_answer live k o ws ≡ Ok (Some s) → IsNew k s
verb_new live k None ws s h = cc
verb_new live k (Some v) ws s h = answer_new k v ws s (in_answer (answer k v ws) s h)

pub line_new : (live : Bool) (k : Known) (line : List ℕ) (s : Statement) → line_answer live k line ≡ Ok (Some s) → IsNew k s
line_new live k line s h = verb_new live k (verb_of (word (words_of line) 0)) (words_of line) s (in_words (is_comment (words_of line)) _ s (in_text (is_utf8 line) _ why.Text (Some s) h))

none_is : {X : Type 0} (f : X → List ℕ) (eq : X → X → Bool) (v : X) (name : List ℕ) → ((x : X) → eq v x ≡ bytes_eq name (f x)) → (xs : List X) → list_any (eq v) xs ≡ list_any (bytes_eq name) (map f xs)
none_is f eq v name same [] = refl
none_is f eq v name same (x ∷ xs) = ap (λ b. b || list_any (eq v) xs) (same x) ∙ ap (λ b. bytes_eq name (f x) || b) (none_is f eq v name same xs)

map_push : {X : Type 0} (f : X → List ℕ) (xs : List X) (v : X) → map f (xs ++ v ∷ []) ≡ map f xs ++ f v ∷ []
map_push f [] v = refl
map_push f (x ∷ xs) v = ap (λ l. f x ∷ l) (map_push f xs v)

-- a name that none has goes last
pub goes_last : {X : Type 0} (f : X → List ℕ) (eq : X → X → Bool) (v : X) (name : List ℕ) (xs new : List X) → f v ≡ name → ((x : X) → eq v x ≡ bytes_eq name (f x)) → list_any (bytes_eq name) (map f xs) ≡ false → new ≡ cond (list_any (eq v) xs) xs (xs ++ v ∷ []) → map f new ≡ map f xs ++ name ∷ []
goes_last f eq v name xs new is same none put =
    ap (map f) (put ∙ ap (λ b. cond b xs (xs ++ v ∷ [])) (none_is f eq v name same xs ∙ none))
    ∙ map_push f xs v ∙ ap (λ n. map f xs ++ n ∷ []) is

-- so the line's statement is taken note of
pub noted_last : (k : Known) (s : Statement) (name : List ℕ) (size : ℕ) (devices : List (List ℕ)) → s ≡ statement.Device name size → devices ≡ k.devices ++ name ∷ [] → record { devices = devices; found = k.found; begun = true } ≡ after k s
noted_last k s name size devices is last = subst (λ t. record { devices = devices; found = k.found; begun = true } ≡ after k t) (sym is) (ap (λ d. record { devices = d; found = k.found; begun = true }) last)
