-- What one revision more changes.
use Rattle.std.proofs.Common.{◌≡◌, ℕ, suc, ◌≤◌, ◌<◌, Bool, true, false, cond, take, [], ◌∷◌, ◌++◌, length, Option, Some, refl, sym, ap, ◌∙◌, arith}
use Rattle.std.specs.Prelude.{nat_eq, nat_le, reverse}
use Rattle.std.proofs.lemmas.List.{reverse-append, length-reverse, take-append-le, take_all}
use Rattle.std.proofs.lemmas.Bool.Decides.{nat_tests}
use Rattle.kb_keys.specs.declared.policy.Role.{Role}
use Rattle.kb_keys.specs.declared.policy.Role.TheVariants.{Writer}
use Rattle.kb_keys.specs.Policies.{role_after}
use Rattle.kb_snap.specs.Chains.{Deed, Founded, Stepped, Merged, Rekeyed, ops_in}
use Rattle.kb_snap.specs.Chains as plain
use Rattle.kb_keys.specs.Members.{Roles, nobody}
use Rattle.kb_snap.specs.Members.{roles_by, roles_of, generation_by, generation_from, generation_of}
use Rattle.kb_snap.proofs.Chains.{ops_push, roles_append, tree_longer}
use Rattle.kb_folder.specs.Chains.{Plain, Back, ops_of, tree_at, role_in, generation_in, places_of, places_by}
use Rattle.kb_folder.specs.Reading.{generation_at}

pub turned : (x : Plain) (c : Back) → reverse (x ∷ c) ≡ reverse c ++ x ∷ []
turned x c = reverse-append (x ∷ []) c

pub ops_next : (d : ℕ) (x : Plain) (c : Back) → ops_of d (x ∷ c) ≡ ops_of d c ++ cond (nat_eq x.writer d) (ops_in x.deed) []
ops_next d x c = ap (plain.ops_of d) (turned x c) ∙ ops_push d (reverse c) x

-- the role of a device after a deed
abbrev pub role_by : ℕ → Deed → ℕ → Option Role → Option Role
role_by writer Founded d old = cond (nat_eq d writer) (Some Writer) old
role_by writer (Stepped ops) d old = old
role_by writer (Merged base rule ops) d old = old
role_by writer (Rekeyed a who) d old = cond (nat_eq d who) (role_after a) old

by_deed : (w : ℕ) (deed : Deed) (roles : Roles) (d : ℕ) → roles_by w deed roles d ≡ role_by w deed d (roles d)
by_deed w Founded roles d = refl
by_deed w (Stepped ops) roles d = refl
by_deed w (Merged base rule ops) roles d = refl
by_deed w (Rekeyed a who) roles d = refl

pub role_next : (x : Plain) (c : Back) (d : ℕ) → role_in (x ∷ c) d ≡ role_by x.writer x.deed d (role_in c d)
role_next x c d = ap (λ l. roles_of l d) (turned x c) ∙ ap (λ (roles : Roles). roles d) (roles_append nobody (reverse c) (x ∷ [])) ∙ by_deed x.writer x.deed (roles_of (reverse c)) d

generation_append : (g : ℕ) (c : plain.Chain) (x : Plain) → generation_from g (c ++ x ∷ []) ≡ generation_by x.deed (generation_from g c)
generation_append g [] x = refl
generation_append g (r ∷ c) x = generation_append (generation_by r.deed g) c x

pub gen_next : (x : Plain) (c : Back) → generation_in (x ∷ c) ≡ generation_by x.deed (generation_in c)
gen_next x c = ap generation_of (turned x c) ∙ generation_append 0 (reverse c) x

pub gen_at_next : (n : ℕ) (x : Plain) (c : Back) → generation_at n (x ∷ c) ≡ cond (nat_le n (length c)) (generation_at n c) (generation_in (x ∷ c))
gen_at_next n x c = by (nat_le n (length c)) refl
  where
    size : length (reverse c) ≡ length c
    size = length-reverse c

    by : (b : Bool) → nat_le n (length c) ≡ b → generation_at n (x ∷ c) ≡ cond b (generation_at n c) (generation_in (x ∷ c))
    by true e = ap (λ l. generation_from 0 (take n l)) (turned x c) ∙ ap (generation_from 0) (take-append-le n (reverse c) (x ∷ []) (let le : n ≤ length c = grind (arith, nat_tests) in omega (arith, le, size)))
    by false e = ap (generation_from 0) (take_all n (reverse (x ∷ c)) (let more : length c < n = grind (arith, nat_tests) in let all : length (reverse (x ∷ c)) ≡ suc (length c) = length-reverse (x ∷ c) in omega (arith, more, all)))

pub places_next : (x : Plain) (c : Back) → places_of (x ∷ c) ≡ places_by (λ q. role_by x.writer x.deed q (role_in c q)) (generation_by x.deed (generation_in c)) x.writer x.deed
places_next x c = λ i. places_by (λ q. role_next x c q i) (gen_next x c i) x.writer x.deed

pub older_tree : (x : Plain) (c : Back) (k : ℕ) → k ≤ length c → tree_at (x ∷ c) k ≡ tree_at c k
older_tree x c k le = ap (λ l. plain.tree_at l k) (turned x c) ∙ tree_longer (reverse c) (x ∷ []) k (le_size k (length c) (length (reverse c)) (sym (length-reverse c)) le)
  where
    le_size : (k n m : ℕ) → n ≡ m → k ≤ n → k ≤ m
    le_size k n m e h = omega (arith, e, h)
