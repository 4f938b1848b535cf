-- Halves at a device and a generation.
use Rattle.std.proofs.Common.{◌≡◌, ℕ, suc, ◌+◌, ◌<◌, ◌≤◌, Bool, true, false, cond, ltb, List, [], ◌∷◌, ◌++◌, length, refl, ap, sym, subst, ◌∙◌, arith, Option, Some, None}
use Rattle.std.specs.Prelude.{nat_eq, ◌&&◌, not}
use Rattle.std.proofs.lemmas.Bool.{eqb-true, eq-eqb}
use borrow.Author.Tests.{ltb-true, ltb-false}
use Rattle.std.proofs.Math.ListN.{set}
use Rattle.std.specs.List.{find, filter, position, position_or_len}
use Rattle.std.specs.Option.{option_map}
use Rattle.kb_keys.specs.declared.halves.Half.{Half}
use Rattle.kb_keys.specs.Halves.{is_half, half_at, HasOnly, HasNone}

both : (a b : Bool) → (a && b) ≡ true → (a ≡ true) × (b ≡ true)
both true b h = (refl, h)
both false b h = cc

same_place : (d g : ℕ) (h : Half) → is_half d g h ≡ true → (h.device ≡ d) × (h.generation ≡ g)
same_place d g h e = let b = both _ _ e in (eqb-true _ _ b.0, eqb-true _ _ b.1)

-- what is found where one half takes another's place, or stands in front of others
in_front : (x h : Bool) (a b : Half) (o : Option Half) → x ≡ h → cond h (Some a) o ≡ cond h (Some a) (cond x (Some b) o)
in_front x true a b o e = refl
in_front x false a b o e = ap (λ c. cond c (Some b) o) (sym e)

passed_by : (x h : Bool) (a b : Half) (o : Option Half) → (x ≡ true → h ≡ true → ⊥) → cond x (Some b) (cond h (Some a) o) ≡ cond h (Some a) (cond x (Some b) o)
passed_by true true a b o differ = absurd (differ refl refl)
passed_by true false a b o differ = refl
passed_by false true a b o differ = refl
passed_by false false a b o differ = refl

alike : (d g : ℕ) (x h : Half) → is_half h.device h.generation x ≡ true → is_half d g x ≡ is_half d g h
alike d g x h e = let s = same_place h.device h.generation x e in ap (λ n. nat_eq n d && nat_eq x.generation g) s.0 ∙ ap (λ n. nat_eq h.device d && nat_eq n g) s.1

apart : (d g : ℕ) (x h : Half) → is_half h.device h.generation x ≡ false → is_half d g x ≡ true → is_half d g h ≡ true → ⊥
apart d g x h differs ex eh =
    let a = same_place d g x ex in
    let b = same_place d g h eh in
    let dev : nat_eq x.device h.device ≡ true = eq-eqb _ _ (a.0 ∙ sym b.0) in
    let gen : nat_eq x.generation h.generation ≡ true = eq-eqb _ _ (a.1 ∙ sym b.1) in
    let yes : is_half h.device h.generation x ≡ true = ap (λ c. c && nat_eq x.generation h.generation) dev ∙ gen in
    let bad : true ≡ false = sym yes ∙ differs in
    cc

module _ (d g : ℕ) (h : Half) where
  abbrev found : List Half → Option Half
  found hs = find (is_half d g) hs

  abbrev place : List Half → ℕ
  place hs = position_or_len (is_half h.device h.generation) hs

  put_first : (x : Half) (xs : List Half) (b : Bool) → is_half h.device h.generation x ≡ b → cond (not b) (suc (place xs)) 0 < suc (length xs)
      → (place xs < length xs → found (set xs (place xs) h) ≡ cond (is_half d g h) (Some h) (found xs))
      → found (set (x ∷ xs) (cond (not b) (suc (place xs)) 0) h) ≡ cond (is_half d g h) (Some h) (cond (is_half d g x) (Some x) (found xs))
  put_first x xs true e lt later = in_front (is_half d g x) (is_half d g h) h x (found xs) (alike d g x h e)
  put_first x xs false e lt later = ap (cond (is_half d g x) (Some x)) (later (omega arith)) ∙ passed_by (is_half d g x) (is_half d g h) h x (found xs) (apart d g x h e)

  find_put : (hs : List Half) → place hs < length hs → found (set hs (place hs) h) ≡ cond (is_half d g h) (Some h) (found hs)
  find_put [] lt = absurd (omega arith)
  find_put (x ∷ xs) lt =
      let b = is_half h.device h.generation x in
      let e : 1 + place xs ≡ suc (place xs) = omega arith in
      subst (λ n. found (set (x ∷ xs) (cond (not b) n 0) h) ≡ cond (is_half d g h) (Some h) (found (x ∷ xs))) (sym e)
      (put_first x xs b refl (subst (λ n. cond (not b) n 0 < suc (length xs)) e lt) (find_put xs))

  push_last : (x : Half) (xs : List Half) (b : Bool) → is_half h.device h.generation x ≡ b → suc (length xs) ≤ cond (not b) (suc (place xs)) 0
      → (length xs ≤ place xs → found (xs ++ h ∷ []) ≡ cond (is_half d g h) (Some h) (found xs))
      → found (x ∷ (xs ++ h ∷ [])) ≡ cond (is_half d g h) (Some h) (cond (is_half d g x) (Some x) (found xs))
  push_last x xs true e le later = absurd (omega arith)
  push_last x xs false e le later = ap (cond (is_half d g x) (Some x)) (later (omega arith)) ∙ passed_by (is_half d g x) (is_half d g h) h x (found xs) (apart d g x h e)

  find_push : (hs : List Half) → length hs ≤ place hs → found (hs ++ h ∷ []) ≡ cond (is_half d g h) (Some h) (found hs)
  find_push [] le = refl
  find_push (x ∷ xs) le =
      let b = is_half h.device h.generation x in
      let e : 1 + place xs ≡ suc (place xs) = omega arith in
      push_last x xs b refl (subst (λ n. suc (length xs) ≤ cond (not b) n 0) e le) (find_push xs)

outside : (b : Bool) (h : Half) (o : Option Half) → option_map (λ k. k.half) (cond b (Some h) o) ≡ cond b (Some h.half) (option_map (λ k. k.half) o)
outside true h o = refl
outside false h o = refl

position_some : (n len i : ℕ) (b : Bool) → ltb n len ≡ b → cond b (Some n) None ≡ Some i → (n < len) × (n ≡ i)
position_some n len i true e is = (ltb-true n len e, cc)
position_some n len i false e is = cc

position_none : (n len : ℕ) (b : Bool) → ltb n len ≡ b → cond b (Some n) None ≡ None → len ≤ n
position_none n len true e is = cc
position_none n len false e is = ltb-false n len e

pub has_put : (h : Half) (old new : List Half) (i : ℕ) → position (is_half h.device h.generation) old ≡ Some i → new ≡ set old i h → HasOnly h old new
has_put h old new i is e d g =
    let at = position_some (place 0 0 h old) (length old) i _ refl is in
    ap (λ l. half_at l d g) (e ∙ ap (λ k. set old k h) (sym at.1)) ∙ ap (option_map (λ k. k.half)) (find_put d g h old at.0) ∙ outside (is_half d g h) h (find (is_half d g) old)

pub has_push : (h : Half) (old new : List Half) → position (is_half h.device h.generation) old ≡ None → new ≡ old ++ h ∷ [] → HasOnly h old new
has_push h old new is e d g =
    ap (λ l. half_at l d g) e ∙ ap (option_map (λ k. k.half)) (find_push d g h old (position_none (place 0 0 h old) (length old) _ refl is)) ∙ outside (is_half d g h) h (find (is_half d g) old)

abbrev pub stays : ℕ → Half → Bool
stays gone h = not (nat_eq h.device gone)

module _ (gone d g : ℕ) where
  abbrev left : List Half → Option Half
  left hs = find (is_half d g) (filter (stays gone) hs)

  none_left : (b : Bool) → None ≡ cond b None (find (is_half d g) [])
  none_left true = refl
  none_left false = refl

  one_device : (x : Half) → is_half d g x ≡ true → nat_eq x.device gone ≡ nat_eq d gone
  one_device x e = ap (λ n. nat_eq n gone) (same_place d g x e).0

  one_kept : (x : Half) (xs : List Half) (a b c : Bool) → nat_eq x.device gone ≡ a → nat_eq d gone ≡ b → is_half d g x ≡ c → left xs ≡ cond b None (find (is_half d g) xs)
      → find (is_half d g) (cond (not a) (x ∷ filter (stays gone) xs) (filter (stays gone) xs)) ≡ cond b None (cond c (Some x) (find (is_half d g) xs))
  one_kept x xs true true c ea eb ec rest = rest
  one_kept x xs true false true ea eb ec rest = let bad = one_device x ec in let worse : true ≡ false = sym ea ∙ bad ∙ eb in cc
  one_kept x xs true false false ea eb ec rest = rest
  one_kept x xs false true true ea eb ec rest = let bad = one_device x ec in let worse : false ≡ true = sym ea ∙ bad ∙ eb in cc
  one_kept x xs false true false ea eb ec rest = ap (λ z. cond z (Some x) (left xs)) ec ∙ rest
  one_kept x xs false false c ea eb ec rest = ap (λ z. cond z (Some x) (left xs)) ec ∙ ap (cond c (Some x)) rest

  find_kept : (hs : List Half) → left hs ≡ cond (nat_eq d gone) None (find (is_half d g) hs)
  find_kept [] = none_left (nat_eq d gone)
  find_kept (x ∷ xs) = one_kept x xs (nat_eq x.device gone) (nat_eq d gone) (is_half d g x) refl refl refl (find_kept xs)

gone_or : (b : Bool) (o : Option Half) → option_map (λ k. k.half) (cond b None o) ≡ cond b None (option_map (λ k. k.half) o)
gone_or true o = refl
gone_or false o = refl

pub has_none : (gone : ℕ) (old new : List Half) → new ≡ filter (stays gone) old → HasNone gone old new
has_none gone old new e d g = ap (λ l. half_at l d g) e ∙ ap (option_map (λ k. k.half)) (find_kept gone d g old) ∙ gone_or (nat_eq d gone) (find (is_half d g) old)
