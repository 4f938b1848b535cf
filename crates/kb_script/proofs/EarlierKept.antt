-- One statement more among those before, and that it fits behind them.
use Rattle.std.proofs.Common.{◌≡◌, ℕ, Bool, List, [], ◌∷◌, ◌++◌, length, reverse, refl, sym, ◌∙◌, ap, subst, length-append, append_assoc, append-nil}
use Rattle.std.specs.List.{list_any}
use Rattle.std.proofs.lemmas.List.{reverse-append}
use Rattle.kb_script.specs.declared.statements.Statement.{Statement}
use Rattle.kb_script.specs.declared.statements.Statement.TheVariants.{Seed, Device, Found, Grant, Revoke, At, Open, Pick, Land, Note, Flush, Drain, Pull, Fetch, Settle, Resolve, Status, Fuse, Lose, Power, Folder, Verify, File, Look}
use Rattle.kb_script.specs.Fit.{IsFit, AllFit, AllFitFrom, declared_after, found_after}
use Rattle.kb_script.specs.Seen.{Known}
use Rattle.kb_script.specs.Earlier.{known_of, after, declared, is_found, AllFitBack}

pub known_step : (earlier : List Statement) (s : Statement) → after (known_of earlier) s ≡ known_of (s ∷ earlier)
known_step earlier (Seed k) = refl
known_step earlier (Device name size) = refl
known_step earlier (Found d) = refl
known_step earlier (Grant by d r) = refl
known_step earlier (Revoke by d) = refl
known_step earlier (At m) = refl
known_step earlier (Open d) = refl
known_step earlier (Pick d) = refl
known_step earlier (Land d) = refl
known_step earlier (Note d) = refl
known_step earlier (Flush d) = refl
known_step earlier (Drain d) = refl
known_step earlier (Pull d) = refl
known_step earlier (Fetch d) = refl
known_step earlier (Settle d) = refl
known_step earlier (Resolve d) = refl
known_step earlier (Status d) = refl
known_step earlier (Fuse d n) = refl
known_step earlier (Lose d side) = refl
known_step earlier (Power d p) = refl
known_step earlier Folder = refl
known_step earlier Verify = refl
known_step earlier (File d r) = refl
known_step earlier (Look d r) = refl

pub back_push : (old new : List Statement) (s : Statement) → new ≡ old ++ s ∷ [] → reverse new ≡ s ∷ reverse old
back_push old new s now = ap reverse now ∙ reverse-append old (s ∷ [])

pub known_kept : (old new : List Statement) (k l : Known) (s : Statement) → k ≡ known_of (reverse old) → l ≡ after k s → new ≡ old ++ s ∷ [] → l ≡ known_of (reverse new)
known_kept old new k l s was now pushed = now ∙ ap (λ m. after m s) was ∙ known_step (reverse old) s ∙ ap known_of (sym (back_push old new s pushed))

pub fit_kept : (old new : List Statement) (k : Known) (n : ℕ) (s : Statement) → k ≡ known_of (reverse old) → n ≡ length k.devices → IsFit n k.found s → AllFitBack (reverse old) → new ≡ old ++ s ∷ [] → AllFitBack (reverse new)
fit_kept old new k n s was is fits fit pushed =
    let P : Known → Type 0 = λ m. IsFit (length m.devices) m.found s in
    let Q : ℕ → Type 0 = λ m. IsFit m k.found s in
    subst AllFitBack (sym (back_push old new s pushed)) (subst P was (subst Q is fits), fit)

-- ---- from latest first to their order

counted : (s : Statement) (earlier : List Statement) → length (declared (s ∷ earlier)) ≡ declared_after (length (declared earlier)) s
counted (Seed k) earlier = refl
counted (Device name size) earlier = length-append (declared earlier) (name ∷ [])
counted (Found d) earlier = refl
counted (Grant by d r) earlier = refl
counted (Revoke by d) earlier = refl
counted (At m) earlier = refl
counted (Open d) earlier = refl
counted (Pick d) earlier = refl
counted (Land d) earlier = refl
counted (Note d) earlier = refl
counted (Flush d) earlier = refl
counted (Drain d) earlier = refl
counted (Pull d) earlier = refl
counted (Fetch d) earlier = refl
counted (Settle d) earlier = refl
counted (Resolve d) earlier = refl
counted (Status d) earlier = refl
counted (Fuse d n) earlier = refl
counted (Lose d side) earlier = refl
counted (Power d p) earlier = refl
counted Folder earlier = refl
counted Verify earlier = refl
counted (File d r) earlier = refl
counted (Look d r) earlier = refl

founded : (s : Statement) (earlier : List Statement) → list_any is_found (s ∷ earlier) ≡ found_after (list_any is_found earlier) s
founded (Seed k) earlier = refl
founded (Device name size) earlier = refl
founded (Found d) earlier = refl
founded (Grant by d r) earlier = refl
founded (Revoke by d) earlier = refl
founded (At m) earlier = refl
founded (Open d) earlier = refl
founded (Pick d) earlier = refl
founded (Land d) earlier = refl
founded (Note d) earlier = refl
founded (Flush d) earlier = refl
founded (Drain d) earlier = refl
founded (Pull d) earlier = refl
founded (Fetch d) earlier = refl
founded (Settle d) earlier = refl
founded (Resolve d) earlier = refl
founded (Status d) earlier = refl
founded (Fuse d n) earlier = refl
founded (Lose d side) earlier = refl
founded (Power d p) earlier = refl
founded Folder earlier = refl
founded Verify earlier = refl
founded (File d r) earlier = refl
founded (Look d r) earlier = refl

turned : (s : Statement) (rest earlier : List Statement) → reverse (s ∷ rest) ++ earlier ≡ reverse rest ++ (s ∷ earlier)
turned s rest earlier = ap (λ l. l ++ earlier) (reverse-append (s ∷ []) rest) ∙ append_assoc (reverse rest) (s ∷ []) earlier

in_order : (rest earlier : List Statement) → AllFitBack (reverse rest ++ earlier) → AllFitFrom (length (declared earlier)) (list_any is_found earlier) rest × AllFitBack earlier
in_order [] earlier fit = (tt, fit)
in_order (s ∷ rest) earlier fit =
    let more = in_order rest (s ∷ earlier) (subst AllFitBack (turned s rest earlier) fit) in
    let P : ℕ → Type 0 = λ n. AllFitFrom n (list_any is_found (s ∷ earlier)) rest in
    let Q : Bool → Type 0 = λ b. AllFitFrom (declared_after (length (declared earlier)) s) b rest in
    ((more.1.0, subst Q (founded s earlier) (subst P (counted s earlier) more.0)), more.1.1)

pub all_fit : (statements : List Statement) → AllFitBack (reverse statements) → AllFit statements
all_fit statements fit = (in_order statements [] (subst AllFitBack (sym (append-nil (reverse statements))) fit)).0
