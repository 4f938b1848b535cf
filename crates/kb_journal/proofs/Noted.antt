-- A note that is written.
use Rattle.std.proofs.Common.{◌≡◌, ℕ, zero, suc, ◌+◌, ◌≤◌, Bool, true, false, ◌&&◌, ◌||◌, not, eqb, ltb, leb, List, [], ◌∷◌, ◌++◌, length, drop, refl, sym, ap, subst, ◌∙◌, arith}
use Rattle.std.specs.Prelude.{sum_by}
use Rattle.std.proofs.lemmas.Bool.Decides.{nat_tests}
use Rattle.std.proofs.lemmas.Bool.{eqb-true, leb-true}
use Rattle.std.proofs.lemmas.List.Sums.{sum_by-cons}
use Rattle.kb_ops.specs.declared.rows.Op.{Op as Operation}
use Rattle.kb_ops.specs.Grammar.{op_text}
use Rattle.kb_journal.specs.declared.entries.Entry.{Entry}
use Rattle.kb_journal.specs.declared.entries.Note.{Note}
use Rattle.kb_journal.specs.declared.entries.Note.TheVariants as notes
use Rattle.kb_journal.specs.Entries.{entry_text, IsEntry}
use Rattle.kb_journal.specs.Notes.{entry_with, entry_of}
use Rattle.kb_journal.specs.State.{State, Leads, empty, use_of, is_whole, allows, done, last_seq}
use Rattle.kb_journal.proofs.Good.{both}
use Rattle.kb_journal.proofs.Leading.{leads_push}

pub note_leads : (s t : State) (ps : List (List ℕ)) (last : ℕ) (note : Note) (payload : List ℕ) → Leads empty ps s → last ≡ last_seq s → IsEntry (entry_with last s.mark note) → payload ≡ entry_text (entry_with last s.mark note) → allows s (entry_of s note) ≡ true → t ≡ done s (entry_of s note)
    → Leads empty (ps ++ payload ∷ []) t
note_leads s t ps last note payload leads at is spelled allowed after =
    let same : entry_with last s.mark note ≡ entry_of s note = ap (λ (n : ℕ). entry_with n s.mark note) at in
    leads_push empty s t ps payload leads (record { entry = entry_of s note; is = subst (λ (e : Entry). IsEntry e) same is; spelled = spelled ∙ ap entry_text same; allowed = allowed; after = sym after })

sum_drop : (n : ℕ) (q : List Operation) → sum_by (λ (o : Operation). 6 + length (op_text o)) (drop n q) ≤ sum_by (λ (o : Operation). 6 + length (op_text o)) q
sum_drop zero q = omega arith
sum_drop (suc n) [] = omega arith
sum_drop (suc n) (o ∷ q) = omega (arith, sum_drop n q, sum_by-cons (λ (o : Operation). 6 + length (op_text o)) o q)

fits : (area a b : ℕ) → leb a area ≡ true → b ≤ a → leb b area ≡ true
fits area a b le less = let at = leb-true a area le in grind (arith, nat_tests)

and_true : (a b : Bool) → a ≡ true → b ≡ true → (a && b) ≡ true
and_true a b x y = rw (x, y) refl

unmarked : (m b : Bool) → not m ≡ true → (not m || b) ≡ true
unmarked true b e = absurd cc
unmarked false b e = refl

queued : (m b : Bool) → b ≡ true → (not m || b) ≡ true
queued true b e = e
queued false b e = refl

none_queued : (m b c : Bool) → (not m || b) ≡ true → b ≡ false → (not m || c) ≡ true
none_queued true b c e f = absurd cc
none_queued false b c e f = refl

-- a note is never full, and a mark that it leaves has a queue
pub whole_note : (area : ℕ) (s : State) (note : Note) → is_whole area s ≡ true → allows s (entry_of s note) ≡ true → is_whole area (done s (entry_of s note)) ≡ true
whole_note area s (notes.Landed number hash) whole may =
    let w = both (leb (use_of s.queue) area) _ whole in
    let a = both (ltb 0 (length s.queue)) _ may in
    let b = both (not s.mark) _ a.1 in
    and_true _ _ (fits area (use_of s.queue) (use_of (drop 1 s.queue)) w.0 (omega (arith, sum_drop 1 s.queue))) (unmarked s.mark _ b.0)
whole_note area s notes.Branched whole may =
    let w = both (leb (use_of s.queue) area) _ whole in
    let a = both (ltb 0 (length s.queue)) _ may in
    and_true _ _ w.0 a.0
whole_note area s (notes.Merged number hash count) whole may =
    let w = both (leb (use_of s.queue) area) _ whole in
    and_true _ _ (fits area (use_of s.queue) (use_of (drop count s.queue)) w.0 (omega (arith, sum_drop count s.queue))) refl
whole_note area s (notes.Head number hash) whole may =
    let w = both (leb (use_of s.queue) area) _ whole in
    let a = both (eqb (length s.queue) 0) _ may in
    let none : ltb 0 (length s.queue) ≡ false = let e = eqb-true (length s.queue) 0 a.0 in grind (arith, nat_tests) in
    and_true _ _ (fits area (use_of s.queue) (use_of []) w.0 (omega arith)) (none_queued s.mark (ltb 0 (length s.queue)) _ w.1 none)
