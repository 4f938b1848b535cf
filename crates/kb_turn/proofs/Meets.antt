-- What two views know once they are joined and the count was loaded.
use Rattle.std.proofs.Common.{◌≡◌, ◌≢◌, ◌⊎◌, ⊎_elim, ℕ, suc, ◌+◌, ◌-◌, ◌*◌, ◌^◌, ◌<◌, ◌≤◌, true, false, List, [], ◌∷◌, ◌++◌, length, get_or, refl, ap, sym, ◌∙◌, subst, arith, le_refl}
use Rattle.std.specs.Prelude.{All, Option, Some, None}
use mathlib.Core.Option.{some, none, some-injective}
use mathlib.Core.Option as maybe
use lib.ListN.{get_elem?}
use Rattle.atomic_table.specs.Table.{State, Final, Seen}
use Rattle.kb_turn.specs.declared.view.View.{View}
use Rattle.kb_turn.specs.Views.{numbers_of, joining, loading, Weighed, weight}
use Rattle.kb_turn.specs.Rule.{AreNumbered, Phase, home, out, word_of, home_of, Kept, Turned, Rule, Whole}
use Rattle.kb_turn.specs.Steps.{Follows, Leads}
use Rattle.kb_turn.specs.Passes.{IsSum, AreDealt, AreAll, callers_of, total_of, view}
use Rattle.kb_turn.specs.declared.told.Told.{Ghosts}
use Rattle.kb_turn.specs.declared.turn.Turn.{Turn}
use Rattle.kb_turn.specs.declared.pass.Pass.{Pass}
use Rattle.kb_turn.proofs.Weights.{weight_joined, no_other}
use Rattle.kb_turn.proofs.Lists.{prefix_self, prefix_trans, among_left, among_right}

module _ {E : Type 0} (number_of : E → ℕ) where
  pub leads_self : (v : View E) → Leads number_of v v
  leads_self v = record { begins = prefix_self v.seen; mine = λ k p m. refl; numbers = λ k m. m; loaded = le_refl v.loaded }

  pub leads_trans : (u v w : View E) → Leads number_of u v → Leads number_of v w → Leads number_of u w
  leads_trans u v w a b = record { begins = prefix_trans u.seen v.seen w.seen a.begins b.begins; mine = λ k p m. b.mine k p (a.numbers k m) ∙ a.mine k p m; numbers = λ k m. b.numbers k (a.numbers k m); loaded = let x = a.loaded in let y = b.loaded in omega arith }

  -- the view after the load leads on from both
  pub meets : (v w u x : View E) (r : ℕ) → u ≡ joining v w → x ≡ loading u r → All (Kept number_of u) u.kept → Leads number_of v x × Leads number_of w x × IsSum v w x
  meets v w u x r joined loaded kept = let j : View E = joining v w in
      let told : All (Kept number_of j) j.kept = subst (λ (z : View E). All (Kept number_of z) z.kept) joined kept in
      let p : List ℕ × List E = (numbers_of v, v.seen) in let first = told 0 p (omega arith) in let second = told 1 p (omega arith) in
      let end : x ≡ loading j r = loaded ∙ ap (λ (z : View E). loading z r) joined in
      let F : View E → Type 0 = λ z. Leads number_of v z × Leads number_of w z × IsSum v w z in
      subst F (sym end) (
        record { begins = first.0; mine = first.1; numbers = λ k m. among_left k (numbers_of v) (numbers_of w) m; loaded = omega arith },
        record { begins = second.0; mine = second.1; numbers = λ k m. among_right k (numbers_of v) (numbers_of w) m; loaded = omega arith },
        λ e a b. (omega arith, weight_joined e v w a b),
      )

module _ {T E : Type 0} (told : T → List E) (number_of : E → ℕ) where
  -- what follows a later view follows an earlier one
  pub leads_follow : (v w : View E) (xs : List E) → Leads number_of v w → Follows number_of w xs → Follows number_of v xs
  leads_follow v w xs a f = record { begins = prefix_trans v.seen w.seen xs a.begins f.begins; reaches = let x = a.loaded in let y = f.reaches in omega arith; mine = λ k p m. f.mine k p (a.numbers k m) ∙ a.mine k p m }

  home_at : (list : List E) (views : List (View E)) (xs : List (Option T)) (y : Option T) → get_elem? xs 0 ≡ some y
      → (p : Phase T) → Turned told number_of list views p → word_of p ≡ 0 → ((z : Option T) → home_of p ≡ some z → get_elem? xs 0 ≡ some z) → (x : T) × (y ≡ Some x) × (told x ≡ list)
  home_at list views xs y at (home x) turn zero_at there = (x, some-injective y (Some x) (sym at ∙ there (Some x) refl), turn.0)
  home_at list views xs y at (out i) turn zero_at there = absurd (omega arith)

  -- at the end, where word 1 is 0, the value stands for the list
  is_home : (callers : ℕ) (s : State (Option T) (View E)) (r : Rule told number_of callers s) (ws : List ℕ) (xs : List (Option T)) → s.words ≡ ws → ((j : ℕ) (z : Option T) → get_elem? s.homes j ≡ some (some z) → get_elem? xs j ≡ some z)
      → (n : ℕ) (y : Option T) → get_elem? ws 1 ≡ some n → get_elem? xs 0 ≡ some y → n ≡ 0 → (x : T) × (y ≡ Some x) × (told x ≡ r.list)
  is_home callers s r ws xs words there n y at at' zero =
      let word : word_of r.phase ≡ 0 = some-injective (word_of r.phase) 0 (ap (λ (l : List ℕ). get_elem? l 1) (sym r.words ∙ words) ∙ (at ∙ ap some zero)) in
      home_at r.list s.views xs y at' r.phase r.turn word (λ z e. there 0 z (ap (λ (l : List (maybe.Option (Option T))). get_elem? l 0) r.homes ∙ ap some e))

  -- at the end, where word 1 is 0, each entry carries a number of a caller
  pub closes_alone : (callers : ℕ) (ws : List ℕ) (xs : List (Option T)) → Final (Whole told number_of callers) ws xs → (n : ℕ) (y : Option T) → get_elem? ws 1 ≡ some n → get_elem? xs 0 ≡ some y → n ≡ 0
      → (x : T) × (y ≡ Some x) × AreNumbered number_of callers (told x)
  closes_alone callers ws xs final n y at at' zero = let r = final.1.rule in let h = is_home callers final.0 r ws xs final.2 final.4 n y at at' zero in
      (h.0, h.1, subst (AreNumbered number_of callers) (sym h.2) r.marked)

  -- the same, and what a view knows leads on to the list
  pub closes : (callers : ℕ) (ws : List ℕ) (xs : List (Option T)) (id : ℕ) (v : View E) → Final (Seen (Whole told number_of callers) id v) ws xs → (n : ℕ) (y : Option T) → get_elem? ws 1 ≡ some n → get_elem? xs 0 ≡ some y → n ≡ 0
      → (x : T) × (y ≡ Some x) × Follows number_of v (told x) × AreNumbered number_of callers (told x)
  closes callers ws xs id v final n y at at' zero = let r = final.1.0.rule in let f = r.fits id v final.1.1 in let h = is_home callers final.0 r ws xs final.2 final.4 n y at at' zero in
      (h.0, h.1, subst (Follows number_of v) (sym h.2) record { begins = f.begins; reaches = f.below; mine = f.mine }, subst (AreNumbered number_of callers) (sym h.2) r.marked)

  -- where the turn was out, the seat has not all shares
  out_at : (callers : ℕ) (list : List E) (views : List (View E)) (xs : List (Option T)) (id : ℕ) (v : View E) → get_elem? views id ≡ some v → v.holds ≡ false → Weighed callers views → ((j : ℕ) (u : View E) → get_elem? views j ≡ some u → u.holds ≡ true → 0 < u.parts)
      → (n : ℕ) (y : Option T) → get_elem? xs 0 ≡ some y → (p : Phase T) → Turned told number_of list views p → word_of p ≡ n → ((z : Option T) → home_of p ≡ some z → get_elem? xs 0 ≡ some z) → (0 < n) ⊎ (y ≡ None)
      → (e : ℕ) → v.halvings ≤ e → weight e v ≡ callers * 2 ^ e → ⊥
  out_at callers list views xs id v here free shares alive n y at (home x) turn word there missing e le all = ⊎_elim (λ z. absurd (omega arith)) (λ z. let found : y ≡ Some x = some-injective y (Some x) (sym at ∙ there (Some x) refl) in absurd cc) missing
  out_at callers list views xs id v here free shares alive n y at (out i) turn word there missing e le all =
      let z = turn.0.0 in
      let ne : id ≢ i = λ same. let e' : z ≡ v = some-injective z v (sym turn.0.1 ∙ (ap (get_elem? views) (sym same) ∙ here)) in let h : z.holds ≡ true = turn.0.2 in let no : z.holds ≡ false = ap (λ (u : View E). u.holds) e' ∙ free in absurd cc in
      no_other callers e views id i v z shares ne here turn.0.1 le all (alive i z turn.0.1 turn.0.2)

  pub ends_out : (callers : ℕ) (ws : List ℕ) (xs : List (Option T)) (id : ℕ) (v : View E) → Final (Seen (Whole told number_of callers) id v) ws xs → v.holds ≡ false → (n : ℕ) (y : Option T) → get_elem? ws 1 ≡ some n → get_elem? xs 0 ≡ some y → (0 < n) ⊎ (y ≡ None)
      → (e : ℕ) → v.halvings ≤ e → weight e v ≡ callers * 2 ^ e → ⊥
  ends_out callers ws xs id v final free n y at at' missing e le all = let s = final.0 in let h = final.1.0 in let r = h.rule in
      let word : word_of r.phase ≡ n = some-injective (word_of r.phase) n (ap (λ (l : List ℕ). get_elem? l 1) (sym r.words ∙ final.2) ∙ at) in
      out_at callers r.list s.views xs id v final.1.1 free h.shares h.alive n y at' r.phase r.turn word (λ z e'. final.4 0 z (ap (λ (l : List (maybe.Option (Option T))). get_elem? l 0) r.homes ∙ ap some e')) missing e le all

module _ {T E : Type 0} {g : Ghosts T E} where
  pub total_of_snoc : (e : ℕ) (ps : List (Pass T E g)) (p : Pass T E g) → total_of e (ps ++ p ∷ []) ≡ total_of e ps + weight e (view p)
  total_of_snoc e [] p = omega arith
  total_of_snoc e (x ∷ xs) p = let h = total_of_snoc e xs p in omega arith

  total_ones : (ps : List (Pass T E g)) → All (λ p. ((view p).parts ≡ 1) × ((view p).halvings ≡ 0)) ps → total_of 0 ps ≡ length ps
  total_ones [] h = refl
  total_ones (p ∷ ps) h = let a = h 0 p (omega arith) in let one : weight 0 (view p) ≡ 1 = (λ i. a.0 i * 2 ^ (0 - a.1 i)) in let b = total_ones ps (λ k d lt. h (suc k) d (omega arith)) in omega arith

  -- the passes of a new turn have all shares
  pub dealt_are_all : (t : Turn T E) (xs : List E) (ps : List (Pass T E g)) → length ps ≡ callers_of t → AreDealt t xs ps → AreAll t ps
  dealt_are_all t xs ps count h = (0, (λ k d lt. let e : (view (get_or ps k d)).halvings ≡ 0 = ap (λ (v : View E). v.halvings) (h k d lt).1 in omega arith), total_ones ps (λ k d lt. (ap (λ (v : View E). v.parts) (h k d lt).1, ap (λ (v : View E). v.halvings) (h k d lt).1)) ∙ (let n : ℕ = length ps in let m : ℕ = callers_of t in let same : n ≡ m = count in omega arith))
