-- Which parts of the machine are a device's events, and which are puts.
use Rattle.std.proofs.Common.{◌≡◌, ℕ, ◌+◌, ◌<◌, ◌==◌, true, false, cond, List, [], ◌∷◌, ◌++◌, map, All, inr, refl, ap, ◌∙◌}
use borrow.Author.Tests.{eq-eqb}
use Rattle.std.proofs.lemmas.List.Elements.{filter-append, All-nil, All-cons}
use Rattle.kb_world.specs.Statements.{Act, Reply}
use Rattle.kb_world.specs.Live.{Event, Calls, Looks, Tells, Picks, Notes, Put, event_act, event_part, put_act, is_of, is_landing, events_in, puts_in, IsOne}

event_is : (d : ℕ) (e : Event) → is_of d (event_act d e) ≡ true
event_is d (Calls request answer) = eq-eqb d d refl
event_is d (Looks show answer) = eq-eqb d d refl
event_is d (Tells answer) = eq-eqb d d refl
event_is d (Picks answer) = eq-eqb d d refl
event_is d (Notes put answer) = eq-eqb d d refl

event_not : (d k : ℕ) (e : Event) → (d == k) ≡ false → is_of k (event_act d e) ≡ false
event_not d k (Calls request answer) off = off
event_not d k (Looks show answer) off = off
event_not d k (Tells answer) off = off
event_not d k (Picks answer) off = off
event_not d k (Notes put answer) off = off

not_landing : (d : ℕ) (e : Event) → is_landing (event_act d e) ≡ false
not_landing d (Calls request answer) = refl
not_landing d (Looks show answer) = refl
not_landing d (Tells answer) = refl
not_landing d (Picks answer) = refl
not_landing d (Notes put answer) = refl

-- ---- the parts of one device's events

own_events : (d : ℕ) (es : List Event) → events_in d (map (event_part d) es) ≡ map (event_part d) es
own_events d [] = refl
own_events d (e ∷ es) =
    let rest = events_in d (map (event_part d) es) in
    ap (λ b. cond b (event_part d e ∷ rest) rest) (event_is d e) ∙ ap (λ l. event_part d e ∷ l) (own_events d es)

other_events : (d k : ℕ) (es : List Event) → (d == k) ≡ false → events_in k (map (event_part d) es) ≡ []
other_events d k [] off = refl
other_events d k (e ∷ es) off =
    let rest = events_in k (map (event_part d) es) in
    ap (λ b. cond b (event_part d e ∷ rest) rest) (event_not d k e off) ∙ other_events d k es off

no_puts : (d : ℕ) (es : List Event) → puts_in (map (event_part d) es) ≡ []
no_puts d [] = refl
no_puts d (e ∷ es) =
    let rest = puts_in (map (event_part d) es) in
    ap (λ b. cond b (event_part d e ∷ rest) rest) (not_landing d e) ∙ no_puts d es

pub only_events : (count i : ℕ) (es : List Event) → i < count → All (IsOne count) (map (event_part (i + 1)) es)
only_events count i [] lt = All-nil (IsOne count)
only_events count i (e ∷ es) lt = All-cons (IsOne count) (event_part (i + 1) e) (map (event_part (i + 1)) es) (inr (i, lt, event_is (i + 1) e)) (only_events count i es lt)

pub append_none : {A : Type 0} (xs ys : List A) → ys ≡ [] → xs ++ ys ≡ xs
append_none [] ys e = e
append_none (x ∷ xs) ys e = ap (λ l. x ∷ l) (append_none xs ys e)

-- ---- parts behind others

pub own_more : (d : ℕ) (xs : List (Act × Reply)) (es : List Event) → events_in d (xs ++ map (event_part d) es) ≡ events_in d xs ++ map (event_part d) es
own_more d xs es = filter-append (λ (x : Act × Reply). is_of d x.0) xs (map (event_part d) es) ∙ ap (λ l. events_in d xs ++ l) (own_events d es)

pub other_more : (d k : ℕ) (xs : List (Act × Reply)) (es : List Event) → (d == k) ≡ false → events_in k (xs ++ map (event_part d) es) ≡ events_in k xs
other_more d k xs es off = filter-append (λ (x : Act × Reply). is_of k x.0) xs (map (event_part d) es) ∙ append_none (events_in k xs) (events_in k (map (event_part d) es)) (other_events d k es off)

pub puts_stay : (d : ℕ) (xs : List (Act × Reply)) (es : List Event) → puts_in (xs ++ map (event_part d) es) ≡ puts_in xs
puts_stay d xs es = filter-append (λ (x : Act × Reply). is_landing x.0) xs (map (event_part d) es) ∙ append_none (puts_in xs) (puts_in (map (event_part d) es)) (no_puts d es)

pub put_is_none : (k : ℕ) (xs : List (Act × Reply)) (f : Put) → events_in k (xs ++ put_act f ∷ []) ≡ events_in k xs
put_is_none k xs f = filter-append (λ (x : Act × Reply). is_of k x.0) xs (put_act f ∷ []) ∙ append_none (events_in k xs) [] refl

pub put_more : (xs : List (Act × Reply)) (f : Put) → puts_in (xs ++ put_act f ∷ []) ≡ puts_in xs ++ put_act f ∷ []
put_more xs f = filter-append (λ (x : Act × Reply). is_landing x.0) xs (put_act f ∷ [])
