-- Which revisions may follow a chain, case by case from its end.
use Rattle.std.proofs.Common.{◌≡◌, ◌≢◌, ℕ, zero, suc, ◌+◌, ◌≤◌, ◌<◌, Bool, true, false, [], ◌∷◌, length, Option, Some, None, inl, inr, refl, sym, ap, subst, ◌∙◌, arith}
use Rattle.std.specs.Prelude.{◌⊎◌, ◌||◌, nat_eq, reverse, IsSome}
use Rattle.std.proofs.lemmas.Bool.Decides.{nat_tests}
use Rattle.std.proofs.lemmas.List.{length-reverse}
use Rattle.kb_ops.specs.Trees.{FitAll}
use Rattle.kb_keys.specs.declared.policy.Role.{Role}
use Rattle.kb_keys.specs.declared.policy.Role.TheVariants.{Writer, Reader}
use Rattle.kb_keys.specs.declared.policy.Action.{Action}
use Rattle.kb_keys.specs.declared.policy.Action.TheVariants as action
use Rattle.kb_snap.specs.Chains.{Deed, Founded, Stepped, Merged, Rekeyed, moment_of_last}
use Rattle.kb_keys.specs.Members.{is_writer, IsLastWriter}
use Rattle.kb_snap.specs.Lawful.{FitsDeed}
use Rattle.kb_folder.specs.Chains.{Plain, Back, tree_at, role_in, generation_in, IsAllowed, Suits, Follows}

-- the first revision is by a registered device, and each other one by a writer
abbrev pub MayWrite : ℕ → Back → ℕ → Type 0
MayWrite registered [] writer = (1 ≤ writer) × (writer ≤ registered)
MayWrite registered (x ∷ c) writer = role_in (x ∷ c) writer ≡ Some Writer

-- another device than this one is a writer
abbrev pub HasOtherWriter : Back → ℕ → Type 0
HasOtherWriter c who = (d : ℕ) × ((d ≢ who) × (role_in c d ≡ Some Writer))

abbrev pub IsRekey : ℕ → Back → Action → ℕ → Type 0
IsRekey registered c action.Found who = ⊥
IsRekey registered c action.GrantWriter who = (1 ≤ who) × (who ≤ registered) × (role_in c who ≡ None)
IsRekey registered c action.GrantReader who = (1 ≤ who) × (who ≤ registered) × (role_in c who ≡ None)
IsRekey registered c action.Revoke who = IsSome (role_in c who) × HasOtherWriter c who × (generation_in c + 1 ≤ 64)

module _ (registered : ℕ) where
  -- A founding comes first and only there. A step lands up to 32 operations at the moment of the last; they fit the last tree, and those of a branch fit that of the revision that it comes from.
  abbrev pub FitsBehind : Back → ℕ → Deed → Type 0
  FitsBehind [] moment Founded = Unit {0}
  FitsBehind [] moment deed = ⊥
  FitsBehind (y ∷ c) moment Founded = ⊥
  FitsBehind (y ∷ c) moment (Stepped ops) = (1 ≤ length ops) × (length ops ≤ 32) × (moment ≡ moment_of_last ops) × FitAll ops (tree_at (y ∷ c) (length (y ∷ c)))
  FitsBehind (y ∷ c) moment (Merged base rule ops) = (1 ≤ base) × (base ≤ length (y ∷ c)) × (1 ≤ length ops) × (length ops ≤ 4096) × FitAll ops (tree_at (y ∷ c) base)
  FitsBehind (y ∷ c) moment (Rekeyed a who) = IsRekey registered (y ∷ c) a who

writer_told : (o : Option Role) → is_writer o ≡ true → o ≡ Some Writer
writer_told (Some Writer) h = refl
writer_told (Some Reader) h = cc
writer_told None h = cc

bool_cases : (b : Bool) → (b ≡ true) ⊎ (b ≡ false)
bool_cases true = inl refl
bool_cases false = inr refl

or_second : (a b : Bool) → a ≡ false → (a || b) ≡ true → b ≡ true
or_second true b e h = cc
or_second false b e h = h

not_first : (n : ℕ) (c : Back) (y : Plain) → n ≡ length (reverse (y ∷ c)) → nat_eq n 0 ≡ false
not_first n c y e = let size : length (reverse (y ∷ c)) ≡ suc (length c) = length-reverse (y ∷ c) in grind (arith, nat_tests, e, size)

writes : (y : Plain) (c : Back) (w : ℕ) → IsAllowed (y ∷ c) w → is_writer (role_in (y ∷ c) w) ≡ true
writes y c w h = or_second (nat_eq (length (reverse (y ∷ c))) 0) (is_writer (role_in (y ∷ c) w)) (not_first (length (reverse (y ∷ c))) c y refl) h

-- a device that may write is a writer, or the first
pub may_of : (registered : ℕ) (c : Back) (w : ℕ) → IsAllowed c w → (1 ≤ w) × (w ≤ registered) → MayWrite registered c w
may_of registered [] w h within = within
may_of registered (y ∷ c) w h within = writer_told (role_in (y ∷ c) w) (writes y c w h)

or_so : (a b : Bool) → b ≡ true → (a || b) ≡ true
or_so true b e = refl
or_so false b e = e

pub allowed_of : (registered : ℕ) (c : Back) (w : ℕ) → MayWrite registered c w → IsAllowed c w
allowed_of registered [] w h = refl
allowed_of registered (y ∷ c) w h = or_so (nat_eq (length (reverse (y ∷ c))) 0) (is_writer (role_in (y ∷ c) w)) (ap is_writer h)

-- another writer, or none below a number
another : (role : ℕ → Option Role) (who n : ℕ) → ((d : ℕ) × ((d ≢ who) × (role d ≡ Some Writer))) ⊎ ((q : ℕ) → q < n → is_writer (role q) ≡ true → q ≡ who)
another role who zero = inr (λ q lt h. absurd (omega arith))
another role who (suc n) = elim (another role who n) [
  | inl other ↦ inl other
  | inr none ↦ elim (bool_cases (is_writer (role n))) [
    | inr reads ↦ inr (λ q lt h. elim (at_most q n lt) [ inl below ↦ none q below h | inr same ↦ absurd (let no : true ≡ false = sym h ∙ ap (λ k. is_writer (role k)) same ∙ reads in cc) ])
    | inl it ↦ elim (bool_cases (nat_eq n who)) [
      | inl e ↦ (let is : n ≡ who = grind (arith, nat_tests) in inr (λ q lt h. elim (at_most q n lt) [ inl below ↦ none q below h | inr same ↦ same ∙ is ]))
      | inr e ↦ inl (n, ((λ is. let same : nat_eq n who ≡ true = grind (arith, nat_tests) in let no : true ≡ false = sym same ∙ e in cc), writer_told (role n) it))
    ]
  ]
]
  where
    at_most : (q n : ℕ) → q < suc n → (q < n) ⊎ (q ≡ n)
    at_most zero zero lt = inr refl
    at_most zero (suc n) lt = inl (omega arith)
    at_most (suc q) zero lt = absurd (omega arith)
    at_most (suc q) (suc n) lt = elim (at_most q n (omega arith)) [ inl less ↦ inl (omega arith) | inr same ↦ inr (omega arith) ]

some_writer : (o : Option Role) → is_writer o ≡ true → IsSome o
some_writer (Some role) e = refl
some_writer None e = cc

-- where a member isn't the only writer, another is one
other_writes : (c : Back) (w who : ℕ) → ((d : ℕ) → IsSome (role_in c d) → (1 ≤ d) × (d ≤ 32)) → is_writer (role_in c w) ≡ true → (IsLastWriter (role_in c) who → ⊥) → HasOtherWriter c who
other_writes c w who few by none_alone = elim (another (role_in c) who 33) [
  | inl other ↦ other
  | inr none ↦ by_role (is_writer (role_in c who)) refl none
]
  where
    by_role : (b : Bool) → is_writer (role_in c who) ≡ b → ((q : ℕ) → q < 33 → is_writer (role_in c q) ≡ true → q ≡ who) → HasOtherWriter c who
    by_role true e none = absurd (none_alone (record { writes = e; alone = λ q h. none q (let top = (few q (some_writer (role_in c q) h)).1 in omega (arith, top)) h }))
    by_role false e none = (w, ((λ same. let no : true ≡ false = sym by ∙ ap (λ k. is_writer (role_in c k)) same ∙ e in cc), writer_told (role_in c w) by))

by_deed : (registered : ℕ) (c : Back) (x : Plain) → ((d : ℕ) → IsSome (role_in c d) → (1 ≤ d) × (d ≤ 32)) → (deed : Deed) → FitsDeed (reverse c) x deed → Suits registered c x.writer deed → IsAllowed c x.writer → FitsBehind registered c x.moment deed
by_deed registered [] x few Founded fits suits a = tt
by_deed registered (y ∷ c) x few Founded fits suits a = let size : length (reverse (y ∷ c)) ≡ suc (length c) = length-reverse (y ∷ c) in let none : length (reverse (y ∷ c)) ≡ 0 = ap length fits in absurd (omega (arith, size, none))
by_deed registered [] x few (Stepped ops) fits suits a = absurd (suits refl)
by_deed registered (y ∷ c) x few (Stepped ops) fits suits a = ((let some = fits.0 in omega (arith, some)), fits.3, fits.2, subst (λ n. FitAll ops (tree_at (y ∷ c) n)) (length-reverse (y ∷ c)) fits.1)
by_deed registered [] x few (Merged base rule ops) fits suits a = let low = fits.from in let high = fits.within in absurd (omega (arith, low, high))
by_deed registered (y ∷ c) x few (Merged base rule ops) fits suits a = (fits.from, subst (λ n. base ≤ n) (length-reverse (y ∷ c)) fits.within, (let some = fits.some in omega (arith, some)), suits, fits.fit)
by_deed registered [] x few (Rekeyed act who) fits suits a = absurd (fits.0 refl)
by_deed registered (y ∷ c) x few (Rekeyed action.Found who) fits suits a = absurd fits.1
by_deed registered (y ∷ c) x few (Rekeyed action.GrantWriter who) fits suits a = (suits.0, suits.1, fits.1)
by_deed registered (y ∷ c) x few (Rekeyed action.GrantReader who) fits suits a = (suits.0, suits.1, fits.1)
by_deed registered (y ∷ c) x few (Rekeyed action.Revoke who) fits suits a =
    (fits.1.0, other_writes (y ∷ c) x.writer who few (writes y c x.writer a) fits.1.1, (let left = fits.1.2 in omega (arith, left)))

pub fits_behind : (registered : ℕ) (c : Back) (x : Plain) → ((d : ℕ) → IsSome (role_in c d) → (1 ≤ d) × (d ≤ 32)) → Follows registered c x → FitsBehind registered c x.moment x.deed
fits_behind registered c x few f = by_deed registered c x few x.deed f.fits f.suits f.allowed

-- the writer of what may follow
pub may_follow : (registered : ℕ) (c : Back) (x : Plain) → Follows registered c x → MayWrite registered c x.writer
may_follow registered [] x f = first x.deed f.fits f.suits
  where
    first : (deed : Deed) → FitsDeed [] x deed → Suits registered [] x.writer deed → (1 ≤ x.writer) × (x.writer ≤ registered)
    first Founded fits suits = suits
    first (Stepped ops) fits suits = absurd (suits refl)
    first (Merged base rule ops) fits suits = let low = fits.from in let high = fits.within in absurd (omega (arith, low, high))
    first (Rekeyed act who) fits suits = absurd (fits.0 refl)
may_follow registered (y ∷ c) x f = writer_told (role_in (y ∷ c) x.writer) (writes y c x.writer f.allowed)
