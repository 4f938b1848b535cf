-- A pick, from what its parts did.
use Rattle.std.proofs.Common.{◌≡◌, ℕ, false, List, ◌∷◌, Option, None, Some, inl, inr, refl, sym, ap, subst, ◌∙◌}
use Rattle.std.specs.FinMap.{get}
use Rattle.kb_ops.specs.declared.rows.Op.{Op}
use Rattle.kb_ops.specs.Trees.{Tree}
use Rattle.kb_journal.specs.State.{State, last_seq}
use Rattle.kb_snap.specs.Lawful.{AreOf as AreBy}
use Rattle.kb_snap.specs.Pointers.{Kept}
use Rattle.kb_device.specs.Left.{AreOf, KeepsBeside}
use Rattle.kb_device.proofs.Beside.{beside_twice}
use Rattle.kb_device.specs.Caches.{Takes}
use Rattle.kb_device.specs.Inside.{Aloft, Inside, HasDone}
use Rattle.kb_device.specs.Fresh.{IdsEndAt, IsOwned}
use Rattle.kb_device.specs.Picking.{Picks, GoesAhead, MayGoAhead, IsMade, with_flight, with_left}
use Rattle.kb_device.specs.declared.answers.Picked.{Picked}
use Rattle.kb_device.specs.declared.patching.OldFile.{OldFile}

-- pointers that are some of those that the operation left
pub fewer_left : (op : Op) (ahead ahead' : ℕ) (base base' : Tree) (kept left kept' : Kept) (written written' : Option OldFile) → HasDone op ahead ahead' base base' kept left written written' → AreOf kept' left → KeepsBeside base' op.change left kept' → HasDone op ahead ahead' base base' kept kept' written written'
fewer_left op ahead ahead' base base' kept left kept' written written' d fewer beside = record {
  ahead_is = d.ahead_is;
  does = elim d.does [
    | inl (one, same, stay, still) ↦ inl (one, same, (λ q p at. stay q p (fewer q p at)), still)
    | inr (none, fits, does, leaves, at) ↦ inr (none, fits, does, (λ q p is. leaves q p (fewer q p is)), at)
  ];
  beside = beside_twice base' op.change kept left kept' d.beside beside;
  finds = d.finds;
}

-- The session went ahead, a request was made of it, and its flight is kept.
pub picks_made : (sealed signed : List ℕ → List ℕ → List ℕ) (hashed : List ℕ → List ℕ) (secret : List ℕ) (s u t : Inside) (picked : Picked) (a : Aloft) (op : Op) (rest : List Op) → s.aloft ≡ None → s.journal.mark ≡ false → s.journal.queue ≡ op ∷ rest
    → HasDone op s.ahead u.ahead s.base u.base s.kept u.kept s.written u.written → t ≡ with_left u t → AreOf t.kept u.kept → KeepsBeside u.base op.change u.kept t.kept → u ≡ record s { base = u.base; ahead = u.ahead; kept = u.kept; written = u.written }
    → IsMade sealed signed hashed secret t op u.kept u.cache picked a → Takes hashed u.cache picked.request.blocks t.cache → (let new : Inside = record t { aloft = Some a } in Picks sealed signed hashed secret s picked new)
picks_made sealed signed hashed secret s u t picked a op rest free clear queue done same fewer beside went made takes =
    let cache : u.cache ≡ s.cache = ap (λ (x : Inside). x.cache) went in
    let ahead : t.ahead ≡ u.ahead = ap (λ (x : Inside). x.ahead) same in
    let base : t.base ≡ u.base = ap (λ (x : Inside). x.base) same in
    let written : t.written ≡ u.written = ap (λ (x : Inside). x.written) same in
    let left = subst (λ n. HasDone op s.ahead n s.base t.base s.kept u.kept s.written t.written) (sym ahead) (subst (λ b. HasDone op s.ahead u.ahead s.base b s.kept u.kept s.written t.written) (sym base) (subst (λ w. HasDone op s.ahead u.ahead s.base u.base s.kept u.kept s.written w) (sym written) done)) in
    record {
      free = free;
      clear = clear;
      ahead = record { op = op; rest = rest; queue = queue; done = fewer_left op s.ahead t.ahead s.base t.base s.kept u.kept t.kept s.written t.written left fewer (subst (λ b. KeepsBeside b op.change u.kept t.kept) (sym base) beside) };
      aloft = a;
      session =
          ap (λ (x : Inside). (let y : Inside = record x { aloft = Some a } in y)) same
          ∙ ap (λ (x : Inside). (let y : Inside = record x { kept = t.kept; cache = t.cache; aloft = Some a } in y)) went
          ∙ (λ i. (let y : Inside = record s { base = sym base i; ahead = sym ahead i; kept = t.kept; cache = t.cache; written = sym written i; aloft = Some a } in y));
      left = u.kept;
      leaves = left;
      made = subst (λ m. IsMade sealed signed hashed secret (record t { aloft = Some a }) op u.kept m picked a) cache (record { seq = made.seq; number = made.number; flight = made.flight; key = made.key; keyed = made.keyed; made = made.made; pointers = made.pointers; all = made.all; few = made.few });
      takes = subst (λ m. Takes hashed m picked.request.blocks t.cache) cache takes;
    }

-- The session went ahead, and no request was made.
pub goes_only : (s u t : Inside) (op : Op) (rest : List Op) → s.journal.queue ≡ op ∷ rest → HasDone op s.ahead u.ahead s.base u.base s.kept u.kept s.written u.written → t ≡ with_left u t → AreOf t.kept u.kept → KeepsBeside u.base op.change u.kept t.kept → t.cache ≡ u.cache
    → u ≡ record s { base = u.base; ahead = u.ahead; kept = u.kept; written = u.written } → MayGoAhead s t
goes_only s u t op rest queue done same fewer beside still went =
    let ahead : t.ahead ≡ u.ahead = ap (λ (x : Inside). x.ahead) same in
    let base : t.base ≡ u.base = ap (λ (x : Inside). x.base) same in
    let written : t.written ≡ u.written = ap (λ (x : Inside). x.written) same in
    let left = subst (λ n. HasDone op s.ahead n s.base t.base s.kept u.kept s.written t.written) (sym ahead) (subst (λ b. HasDone op s.ahead u.ahead s.base b s.kept u.kept s.written t.written) (sym base) (subst (λ w. HasDone op s.ahead u.ahead s.base u.base s.kept u.kept s.written w) (sym written) done)) in
    let goes : GoesAhead s t = record { op = op; rest = rest; queue = queue; done = fewer_left op s.ahead t.ahead s.base t.base s.kept u.kept t.kept s.written t.written left fewer (subst (λ b. KeepsBeside b op.change u.kept t.kept) (sym base) beside) } in
    let session : t ≡ with_flight s t s.aloft =
    same
    ∙ ap (λ (x : Inside). (let y : Inside = record x { kept = t.kept; cache = t.cache } in y)) went
    ∙ (λ i. (let y : Inside = record s { base = sym base i; ahead = sym ahead i; kept = t.kept; cache = t.cache; written = sym written i } in y)) in
    inr (goes, session, still ∙ ap (λ (x : Inside). x.cache) went)

-- A session with the same queue and the same table shown is owned as before.
pub owned_on : (d : ℕ) (s t : Inside) → t.journal ≡ s.journal → t.shown ≡ s.shown → IsOwned d s → IsOwned d t
owned_on d s t journal shown h = record {
  own = subst (λ (j : State). AreBy d j.queue) (sym journal) h.own;
  fresh = subst (λ (j : State). IdsEndAt d (last_seq j) t.shown) (sym journal) (subst (IdsEndAt d (last_seq s.journal)) (sym shown) h.fresh);
}
