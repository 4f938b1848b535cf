-- The lines in the parts between line feeds.
use Rattle.std.proofs.Common.{◌≡◌, ℕ, zero, suc, ◌+◌, ◌<◌, ◌≤◌, true, false, cond, eqb, List, [], ◌∷◌, ◌++◌, map, length, get_or, refl, sym, ◌∙◌, ap, arith}
use Rattle.std.specs.Borrow.{Bor}
use Rattle.std.specs.Str.Lines.{strip_carriage_return, lines_of_parts, lines}
use Rattle.std.specs.List.{slice_split, onto_first}
use Rattle.kb_name.specs.Texts.{texts}

texts-append : (xs ys : List (Bor (List ℕ))) → texts (xs ++ ys) ≡ texts xs ++ texts ys
texts-append [] ys = refl
texts-append (x ∷ xs) ys = ap (λ l. x.now ∷ l) (texts-append xs ys)

-- the last part is a line where it isn't empty
lines_of_parts-last : (front : List (List ℕ)) (last : List ℕ) → lines_of_parts (front ++ last ∷ []) ≡ map strip_carriage_return front ++ (cond (eqb (length last) 0) [] (last ∷ []))
lines_of_parts-last [] last = refl
lines_of_parts-last (x ∷ []) last = refl
lines_of_parts-last (x ∷ y ∷ more) last = ap (λ l. strip_carriage_return x ∷ l) (lines_of_parts-last (y ∷ more) last)

abbrev pub lines_in : List (Bor (List ℕ)) → List ℕ → List (List ℕ)
lines_in ended last = lines_of_parts (texts ended ++ last ∷ [])

front_at : (f : List ℕ → List ℕ) (ts : List (Bor (List ℕ))) (tail : List (List ℕ)) (i : ℕ) (d : Bor (List ℕ)) → i < length ts → get_or (map f (texts ts) ++ tail) i [] ≡ f (get_or ts i d).now
front_at f [] tail i d h = absurd (omega arith)
front_at f (t ∷ ts) tail zero d h = refl
front_at f (t ∷ ts) tail (suc i) d h = front_at f ts tail i d (omega arith)

last_at : (f : List ℕ → List ℕ) (ts : List (Bor (List ℕ))) (last : List ℕ) → get_or (map f (texts ts) ++ last ∷ []) (length ts) [] ≡ last
last_at f [] last = refl
last_at f (t ∷ ts) last = last_at f ts last

front_len : (f : List ℕ → List ℕ) (ts : List (Bor (List ℕ))) (tail : List (List ℕ)) → length (map f (texts ts) ++ tail) ≡ length ts + length tail
front_len f [] tail = omega arith
front_len f (t ∷ ts) tail = ap suc (front_len f ts tail) ∙ omega arith

-- ---- a line of a script by its place

pub line_of_ended : (ended : List (Bor (List ℕ))) (last : List ℕ) (i : ℕ) (d : Bor (List ℕ)) → i < length ended → get_or (lines_in ended last) i [] ≡ strip_carriage_return (get_or ended i d).now
line_of_ended ended last i d h = ap (λ l. get_or l i []) (lines_of_parts-last (texts ended) last) ∙ front_at strip_carriage_return ended _ i d h

pub line_of_last : (ended : List (Bor (List ℕ))) (last : List ℕ) → eqb (length last) 0 ≡ false → get_or (lines_in ended last) (length ended) [] ≡ last
line_of_last ended last full =
    ap (λ l. get_or l (length ended) []) (lines_of_parts-last (texts ended) last)
    ∙ ap (λ b. get_or (map strip_carriage_return (texts ended) ++ (cond b [] (last ∷ []))) (length ended) []) full
    ∙ last_at strip_carriage_return ended last

-- ---- how many lines there are

pub some_lines : (ended : List (Bor (List ℕ))) (last : List ℕ) (i : ℕ) → i < length ended → i < length (lines_in ended last)
some_lines ended last i h = omega (arith, ap length (lines_of_parts-last (texts ended) last), front_len strip_carriage_return ended (cond (eqb (length last) 0) [] (last ∷ [])))

pub all_ended : (ended : List (Bor (List ℕ))) (last : List ℕ) → eqb (length last) 0 ≡ true → length (lines_in ended last) ≡ length ended
all_ended ended last empty =
    ap length (lines_of_parts-last (texts ended) last)
    ∙ ap (λ b. length (map strip_carriage_return (texts ended) ++ (cond b [] (last ∷ [])))) empty
    ∙ omega (arith, front_len strip_carriage_return ended [])

pub one_more : (ended : List (Bor (List ℕ))) (last : List ℕ) → eqb (length last) 0 ≡ false → length (lines_in ended last) ≡ length ended + 1
one_more ended last full =
    ap length (lines_of_parts-last (texts ended) last)
    ∙ ap (λ b. length (map strip_carriage_return (texts ended) ++ (cond b [] (last ∷ [])))) full
    ∙ front_len strip_carriage_return ended (last ∷ [])

-- ---- the parts of a script

onto_one : (x : ℕ) (parts : List (List ℕ)) (n : ℕ) → length parts ≤ n + 1 → length (onto_first x parts) ≤ n + 1
onto_one x [] n h = omega arith
onto_one x (part ∷ more) n h = h

few_parts : (bs : List ℕ) → length (slice_split (λ c. eqb c 10) bs) ≤ length bs + 1
few_parts [] = omega arith
few_parts (b ∷ bs) =
    let parts = slice_split (λ c. eqb c 10) bs in
    elim (eqb b 10) as (λ t. length (cond t ([] ∷ parts) (onto_first b parts)) ≤ length (b ∷ bs) + 1) [
      | true ↦ omega (arith, few_parts bs)
      | false ↦ omega (arith, onto_one b parts (length bs) (few_parts bs))
    ]

length-texts : (ts : List (Bor (List ℕ))) → length (texts ts) ≡ length ts
length-texts [] = refl
length-texts (t ∷ ts) = ap suc (length-texts ts)

length-push : (xs : List (Bor (List ℕ))) (x : Bor (List ℕ)) → length (xs ++ x ∷ []) ≡ length xs + 1
length-push [] x = refl
length-push (y ∷ xs) x = ap suc (length-push xs x) ∙ omega arith

pub few_ended : (script : List ℕ) (parts ended : List (Bor (List ℕ))) (last : Bor (List ℕ)) → texts parts ≡ slice_split (λ b. eqb b 10) script → parts ≡ ended ++ last ∷ [] → length ended ≤ length script
few_ended script parts ended last split whole = omega (arith, length-texts parts, ap length split, ap length whole, length-push ended last, few_parts script)

pub lines_split : (script : List ℕ) (parts ended : List (Bor (List ℕ))) (last : Bor (List ℕ)) → texts parts ≡ slice_split (λ b. eqb b 10) script → parts ≡ ended ++ last ∷ [] → lines_in ended last.now ≡ lines script
lines_split script parts ended last split whole = ap lines_of_parts (sym (texts-append ended (last ∷ [])) ∙ sym (ap texts whole) ∙ split)
