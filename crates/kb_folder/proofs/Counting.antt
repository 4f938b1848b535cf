-- The operations of a device in a chain.
use Rattle.std.proofs.Common.{◌≡◌, ℕ, suc, ◌+◌, true, false, cond, List, [], ◌∷◌, ◌++◌, length, refl, sym, subst, arith, append-nil}
use Rattle.std.specs.Prelude.{nat_eq}
use Rattle.std.proofs.lemmas.Bool.{eqb-true}
use Rattle.kb_ops.specs.declared.rows.Op.{Op}
use Rattle.kb_snap.specs.Chains.{ops_in}
use Rattle.kb_snap.specs.Lawful.{AreOf, CountsFrom}
use Rattle.kb_folder.specs.Chains.{Back, ops_of}
use Rattle.kb_folder.proofs.Turning.{ops_next}
use Rattle.kb_folder.specs.Reading.{IsChain}

counts_join : (n : ℕ) (xs ys : List Op) → CountsFrom n xs → CountsFrom (length xs + n) ys → CountsFrom n (xs ++ ys)
counts_join n [] ys a b = subst (λ k. CountsFrom k ys) (let e : 0 + n ≡ n = omega arith in e) b
counts_join n (x ∷ xs) ys a b = (a.0, counts_join (n + 1) xs ys a.1 (subst (λ k. CountsFrom k ys) (let e : suc (length xs) + n ≡ length xs + (n + 1) = omega arith in e) b))

own_join : (d : ℕ) (xs ys : List Op) → AreOf d xs → AreOf d ys → AreOf d (xs ++ ys)
own_join d [] ys a b = b
own_join d (x ∷ xs) ys a b = (a.0, own_join d xs ys a.1 b)

-- They are its own, and their seqs count from 1.
pub counted : (registered : ℕ) (c : Back) → IsChain registered c → (d : ℕ) → CountsFrom 1 (ops_of d c) × AreOf d (ops_of d c)
counted registered [] h d = (tt, tt)
counted registered (x ∷ c) h d =
    let older = counted registered c h.0 d in
    subst (λ ops. CountsFrom 1 ops × AreOf d ops) (sym (ops_next d x c)) (elim (nat_eq x.writer d) as (λ b. nat_eq x.writer d ≡ b → CountsFrom 1 (ops_of d c ++ cond b (ops_in x.deed) []) × AreOf d (ops_of d c ++ cond b (ops_in x.deed) [])) [
      | true ↦ λ e.
          let same : x.writer ≡ d = eqb-true x.writer d e in (
            counts_join 1 (ops_of d c) (ops_in x.deed) older.0 (subst (λ w. CountsFrom (length (ops_of w c) + 1) (ops_in x.deed)) same h.1.counts),
            own_join d (ops_of d c) (ops_in x.deed) older.1 (subst (λ w. AreOf w (ops_in x.deed)) same h.1.own),
          )
      | false ↦ λ e. (subst (CountsFrom 1) (sym (append-nil (ops_of d c))) older.0, subst (AreOf d) (sym (append-nil (ops_of d c))) older.1)
    ] refl)
