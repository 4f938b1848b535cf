-- Members are declared devices, and a writer is the only one or isn't.
use Rattle.std.proofs.Common.{◌≡◌, ◌≢◌, ◌⊎◌, ℕ, zero, suc, ◌+◌, ◌-◌, ◌≤◌, ◌<◌, ◌==◌, Bool, true, false, cond, List, [], ◌∷◌, length, All, Option, Some, None, IsSome, inl, inr, refl, sym, ap, ◌∙◌, arith}
use Rattle.std.proofs.lemmas.List.Elements.{All-head, All-tail}
use Rattle.std.proofs.lemmas.Bool.Decides.{nat_tests}
use Rattle.kb_keys.specs.declared.policy.Role.{Role}
use Rattle.kb_keys.specs.declared.policy.Action.{Action}
use Rattle.kb_keys.specs.declared.policy.Action.TheVariants as action
use Rattle.kb_keys.specs.Policies.{role_after}
use Rattle.kb_snap.specs.Chains.{Deed, Founded, Stepped, Merged, Rekeyed, Chain}
use Rattle.kb_keys.specs.Members.{Roles, given_role, is_writer}
use Rattle.kb_snap.specs.Members.{roles_by, roles_after, IsNamed, IsDeclared}
use Rattle.kb_snap.proofs.Lists.{get_there}

abbrev Within : ℕ → Roles → Type 0
Within n roles = (q : ℕ) → IsSome (roles q) → (1 ≤ q) × (q ≤ n)

given_within : (n : ℕ) (a : Action) (d : ℕ) (roles : Roles) → 1 ≤ d → d ≤ n → Within n roles → Within n (given_role a d roles)
given_within n a d roles from to old q some = by_test (q == d) refl some where
  by_test : (b : Bool) → (q == d) ≡ b → IsSome (cond b (role_after a) (roles q)) → (1 ≤ q) × (q ≤ n)
  by_test true e some = (let is : q ≡ d = grind (arith, nat_tests) in ((omega arith), (omega arith)))
  by_test false e some = old q some

by_within : (n writer : ℕ) (deed : Deed) (roles : Roles) → 1 ≤ writer → writer ≤ n → IsNamed n deed → Within n roles → Within n (roles_by writer deed roles)
by_within n writer Founded roles from to who old = given_within n action.Found writer roles from to old
by_within n writer (Stepped ops) roles from to who old = old
by_within n writer (Merged base rule ops) roles from to who old = old
by_within n writer (Rekeyed a d) roles from to who old = given_within n a d roles who.0 who.1 old

pub after_within : (names : List (List ℕ)) (c : Chain) (roles : Roles) → All (IsDeclared names) c → Within (length names) roles → Within (length names) (roles_after roles c)
after_within names [] roles all old = old
after_within names (x ∷ c) roles all old =
    let first = All-head (IsDeclared names) x c all in
    let within = get_there names (x.writer - 1) x.name first.named in
    let from = first.numbered in
    after_within names c (roles_by x.writer x.deed roles) (All-tail (IsDeclared names) x c all) (by_within (length names) x.writer x.deed roles from (omega arith) first.who old)

-- whether there is another writer
pub another : (roles : Roles) (who n : ℕ) → ((q : ℕ) × (is_writer (roles q) ≡ true) × (q ≢ who)) ⊎ ((q : ℕ) → q < n → is_writer (roles q) ≡ true → q ≡ who)
another roles who zero = inr (λ q lt writes. absurd (omega arith))
another roles who (suc n) = elim (another roles who n) [
  | inl other ↦ inl other
  | inr none ↦ elim (bool_cases (is_writer (roles n))) [
    | inr reads ↦ inr (λ q lt writes. elim (at_most q n lt) [ inl below ↦ none q below writes | inr same ↦ absurd (let no : true ≡ false = sym writes ∙ ap (λ k. is_writer (roles k)) same ∙ reads in cc) ])
    | inl writes ↦ elim (bool_cases (n == who)) [
      | inl e ↦ (let is : n ≡ who = grind (arith, nat_tests) in inr (λ q lt w. elim (at_most q n lt) [ inl below ↦ none q below w | inr same ↦ same ∙ is ]))
      | inr e ↦ inl (n, writes, (λ is. let same : (n == who) ≡ true = grind (arith, nat_tests) in cc))
    ]
  ]
]
  where
    bool_cases : (b : Bool) → (b ≡ true) ⊎ (b ≡ false)
    bool_cases true = inl refl
    bool_cases false = inr refl

    at_most : (q n : ℕ) → q < suc n → (q < n) ⊎ (q ≡ n)
    at_most zero zero lt = inr refl
    at_most zero (suc n) lt = inl (omega arith)
    at_most (suc q) zero lt = absurd (omega arith)
    at_most (suc q) (suc n) lt = elim (at_most q n (omega arith)) [ inl less ↦ inl (omega arith) | inr same ↦ inr (omega arith) ]

pub some_writer : (o : Option Role) → is_writer o ≡ true → IsSome o
some_writer (Some role) e = refl
some_writer None e = cc
