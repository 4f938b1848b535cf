-- The loop over the lines of a script.
use Rattle.std.proofs.Common.{◌≡◌, ℕ, zero, suc, ◌+◌, ◌<◌, ◌≤◌, ◌⊎◌, inl, inr, Bool, List, [], ◌∷◌, ◌++◌, reverse, length, Option, Some, None, Result, Ok, Err, refl, sym, ◌∙◌, ap, ⊎_elim, arith, add-one}
use Rattle.std.specs.Prelude.{option_to_list}
use Rattle.std.specs.Str.Lines.{lines}
use Rattle.std.specs.Option.{option_map_or}
use Rattle.std.proofs.lemmas.Bool.{cases_lt}
use Rattle.std.proofs.lemmas.List.{append-nil, reverse-append, reverse-reverse}
use Rattle.kb_script.specs.declared.faults.Why.{Why}
use Rattle.kb_script.specs.declared.faults.ScriptFault.{ScriptFault}
use Rattle.kb_script.specs.declared.faults.ScriptFault.TheVariants.{TooLong, BadLine}
use Rattle.kb_script.specs.declared.faults.ScriptFault.TheVariants as fault
use Rattle.kb_script.specs.declared.faults.LineFault.{LineFault}
use Rattle.kb_script.specs.declared.faults.LineFault.TheVariants.{Bad, Memory}
use Rattle.kb_script.specs.declared.statements.Statement.{Statement}
use Rattle.kb_script.specs.Answers.{line_answer, said_by}
use Rattle.kb_script.specs.Earlier.{known_of}
use Rattle.kb_script.specs.Scripts.{Adds, Refuses, fault_at, line_at, statements_before, why_at, AllGood, ReadsLines, ReadsScript, IsScript, IsFirstBad, HasOneReading}
use Rattle.kb_script.proofs.AnswersRead.{line_in_table}

-- ---- one line more

part_of : {A E : Type 0} (o : Option E) (q x : A) → option_map_or (λ e. Err e) o (Ok q) ≡ Ok x → (o ≡ None) × (x ≡ q)
part_of None q x h = (refl, cc)
part_of (Some e) q x h = cc

why_of : {A E : Type 0} (o : Option E) (q : A) (e : E) → option_map_or (λ e. Err e) o (Ok q) ≡ Err e → o ≡ Some e
why_of None q e h = cc
why_of (Some d) q e h = cc

-- what the loop keeps
pub record IsRead (live : Bool) (lines : List (List ℕ)) (i : ℕ) (statements : List Statement) : Type 0 where
  pub earlier : reverse statements ≡ statements_before lines i
  pub good : (j : ℕ) → j < i → why_at live lines j ≡ None

pub none_read : (live : Bool) (lines : List (List ℕ)) (statements : List Statement) → statements ≡ [] → IsRead live lines 0 statements
none_read live lines statements none = record { earlier = ap reverse none; good = λ j h. absurd (omega arith) }

front_step : (old new : List Statement) (said : Option Statement) → new ≡ old ++ option_to_list said → reverse new ≡ option_to_list said ++ reverse old
front_step old new None now = ap reverse (now ∙ append-nil old)
front_step old new (Some s) now = ap reverse now ∙ reverse-append old (s ∷ [])

read_at : Bool → List Statement → List ℕ → Result (Option Statement) Why
read_at live old line = line_answer live (known_of (reverse old)) line

in_table : (live : Bool) (lines : List (List ℕ)) (i : ℕ) (old : List Statement) (line : List ℕ) → IsRead live lines i old → line ≡ line_at lines i
    → read_at live old line ≡ option_map_or (λ r. Err r) (why_at live lines i) (Ok (said_by (known_of (statements_before lines i)) (line_at lines i)))
unfolding read_at
in_table live lines i old line read is =
    ap (λ l. line_answer live (known_of (reverse old)) l) is
    ∙ ap (λ e. line_answer live (known_of e) (line_at lines i)) read.earlier
    ∙ line_in_table live (known_of (statements_before lines i)) (line_at lines i)

pub line_more : (live : Bool) (lines : List (List ℕ)) (line : List ℕ) (i : ℕ) (old new : List Statement) → line ≡ line_at lines i → IsRead live lines i old
    → Adds (line_answer live (known_of (reverse old)) line) old new
    → IsRead live lines (i + 1) new
unfolding read_at
line_more live lines line i old new is read adds =
    let told = part_of (why_at live lines i) (said_by (known_of (statements_before lines i)) (line_at lines i)) adds.0 (sym (in_table live lines i old line read is) ∙ adds.1) in
    record {
      earlier = front_step old new adds.0 adds.2 ∙ ap (λ s. option_to_list s ++ reverse old) told.1
          ∙ ap (λ e. option_to_list (said_by (known_of (statements_before lines i)) (line_at lines i)) ++ e) read.earlier
          ∙ ap (statements_before lines) (sym (add-one i));
      good = λ j h. ⊎_elim (λ below. read.good j below) (λ above. let same : j ≡ i = omega arith in rw same told.0) (cases_lt j i);
    }

pub line_refused : {X : Type 0} (view : X → List Statement) (live : Bool) (lines : List (List ℕ)) (line : List ℕ) (i : ℕ) (old : List Statement) (f : LineFault) → i < length lines → line ≡ line_at lines i → IsRead live lines i old
    → Refuses (line_answer live (known_of (reverse old)) line) f
    → ReadsLines view live lines (Err (fault_at (i + 1) f))
unfolding read_at
line_refused view live lines line i old (Bad why) h is read bad =
    record {
      place = i;
      number = refl;
      within = h;
      here = why_of (why_at live lines i) (said_by (known_of (statements_before lines i)) (line_at lines i)) why (sym (in_table live lines i old line read is) ∙ bad);
      before = read.good;
    }
line_refused view live lines line i old Memory h is read bad = tt

pub lines_end : (live : Bool) (lines : List (List ℕ)) (i : ℕ) (old : List Statement) → length lines ≡ i → IsRead live lines i old → AllGood live lines old
lines_end live lines i old h read = record {
  good = λ j l. read.good j (omega arith);
  said = sym (reverse-reverse old) ∙ ap reverse (read.earlier ∙ ap (statements_before lines) (sym h));
}

-- ---- the whole script

pub script_read : {X : Type 0} (view : X → List Statement) (live : Bool) (bytes : List ℕ) (r : Result X ScriptFault) → length bytes ≤ 1048576 → ReadsLines view live (lines bytes) r → ReadsScript view live bytes r
script_read view live bytes (Ok x) short read = record { short = short; good = read.good; said = read.said }
script_read view live bytes (Err TooLong) short read = absurd read
script_read view live bytes (Err (BadLine n why)) short read = record { short = short; place = read.place; number = read.number; within = read.within; here = read.here; before = read.before }
script_read view live bytes (Err fault.Memory) short read = tt

pub not_too_long : {X : Type 0} (view : X → List Statement) (live : Bool) (lines : List (List ℕ)) (r : Result X ScriptFault) → ReadsLines view live lines r → r ≡ Err TooLong → ⊥
not_too_long view live lines (Ok x) read is = cc
not_too_long view live lines (Err TooLong) read is = read
not_too_long view live lines (Err (BadLine n why)) read is = cc
not_too_long view live lines (Err fault.Memory) read is = cc

-- ---- a text has one reading

abbrev FirstOf : (ℕ → Option Why) → ℕ → Type 0
FirstOf at n = ((i : ℕ) → i < n → at i ≡ None) ⊎ ((p : ℕ) × (why : Why) × (p < n) × (at p ≡ Some why) × ((i : ℕ) → i < p → at i ≡ None))

one_past : (at : ℕ → Option Why) (n : ℕ) (o : Option Why) → at n ≡ o → ((i : ℕ) → i < n → at i ≡ None) → FirstOf at (suc n)
one_past at n None here before = inl (λ i h. ⊎_elim (λ below. before i below) (λ above. let same : i ≡ n = omega arith in rw same here) (cases_lt i n))
one_past at n (Some why) here before = inr (n, why, omega arith, here, before)

first_of_all : (at : ℕ → Option Why) (n : ℕ) → FirstOf at n
first_of_all at zero = inl (λ i h. absurd (omega arith))
first_of_all at (suc n) = ⊎_elim (λ before. one_past at n (at n) refl before) (λ b. inr (b.0, b.1, omega arith, b.3, b.4)) (first_of_all at n)

reading_of : (live : Bool) (bytes : List ℕ) → length bytes ≤ 1048576 → FirstOf (why_at live (lines bytes)) (length (lines bytes)) → ((ss : List Statement) × IsScript live bytes ss) ⊎ ((n : ℕ) × (why : Why) × IsFirstBad live bytes n why)
reading_of live bytes short first =
    ⊎_elim
    (λ good. inl (reverse (statements_before (lines bytes) (length (lines bytes))), record { short = short; good = good; said = refl }))
    (λ b. inr (b.0 + 1, b.1, record { short = short; place = b.0; number = refl; within = b.2; here = b.3; before = b.4 }))
    first

none_some : (o : Option Why) (why : Why) → o ≡ None → o ≡ Some why → ⊥
none_some o why none some = cc

some_same : (o : Option Why) (why reason : Why) → o ≡ Some why → o ≡ Some reason → why ≡ reason
some_same o why reason a b = cc

same_place : (live : Bool) (bytes : List ℕ) (m n : ℕ) (why reason : Why) (a : IsFirstBad live bytes m why) (b : IsFirstBad live bytes n reason) → a.place ≡ b.place
same_place live bytes m n why reason a b =
    ⊎_elim
    (λ below. absurd (none_some _ why (b.before a.place below) a.here))
    (λ above. ⊎_elim (λ below. absurd (none_some _ reason (a.before b.place below) b.here)) (λ same. omega arith) (cases_lt b.place a.place))
    (cases_lt a.place b.place)

pub one_reading : (live : Bool) (bytes : List ℕ) → HasOneReading live bytes
one_reading live bytes = record {
  some = λ short. reading_of live bytes short (first_of_all (why_at live (lines bytes)) (length (lines bytes)));
  not_both = λ ss n why s b. none_some (why_at live (lines bytes) b.place) why (s.good b.place b.within) b.here;
  one_script = λ ss ts s t. s.said ∙ sym t.said;
  one_line = λ m n why reason a b.
      let same = same_place live bytes m n why reason a b in
      (a.number ∙ ap (λ p. p + 1) same ∙ sym b.number, some_same (why_at live (lines bytes) b.place) why reason (rw same at a.here) b.here);
}
