-- What a restore makes of a kept journal meets the chain, and holds what was acknowledged.
use Rattle.std.proofs.Common.{◌≡◌, ◌⊎◌, ℕ, zero, suc, ◌+◌, ◌-◌, ◌≤◌, ◌<◌, true, false, cond, List, [], ◌∷◌, ◌++◌, length, take, drop, Some, None, inl, inr, refl, sym, ap, ◌∙◌, subst, arith, append_assoc, length-append}
use Rattle.std.specs.Prelude.{filter, max, nat_lt}
use Rattle.std.specs.Option.{option_map_or, unwrap_or}
use Rattle.std.proofs.Math.Seq.{drop-append-add}
use Rattle.std.proofs.lemmas.List.{length-take-le}
use Rattle.std.proofs.lemmas.List.Elements.{All-contains}
use Rattle.std.proofs.lemmas.Bool.Decides.{nat_tests}
use Rattle.kb_ops.specs.declared.rows.Op.{Op}
use Rattle.kb_ops.specs.Trees.{FitAll}
use Rattle.kb_log.specs.LogList.{area_size}
use Rattle.kb_journal.specs.State.{use_of}
use Rattle.kb_snap.specs.Chains.{Revision, Chain, ops_by, ops_of, seq_of_last, own_last, last_own, tree_at}
use Rattle.kb_device.specs.Journals.{Journal, last_seq, taken_over, returned}
use Rattle.kb_device.specs.Parts.{Part, acknowledged_at, last_acknowledged, restored}
use Rattle.kb_snap.specs.Lawful.{CountsFrom, IsLawful}
use Rattle.kb_device.specs.Meets.{NoneOf, Meets, GoesOn, ShelfMeets, FitsArea, PartMeets, held, Acknowledges}
use Rattle.kb_device.specs.Waits.{Nothing}
use Rattle.kb_snap.proofs.Lists.{append_none, drop_front, cut, none_length}
use Rattle.kb_snap.proofs.Chains.{ops_append, none_left, none_right}
use Rattle.kb_snap.proofs.Lawful.{ordered}
use Rattle.kb_snap.proofs.MadeIds.{last_counts}
use Rattle.kb_device.proofs.Meets.{Knows, met, held_length, goes_on, over_known}
use Rattle.kb_snap.proofs.Counts.{counts_append}
use Rattle.kb_device.proofs.PartSteps.{Stands, all_one, there, same_last, shelf_last}

-- ---- later operations

below : (a b : ℕ) → a < b → nat_lt a b ≡ true
below a b h = grind (arith, nat_tests)

not_below : (a b : ℕ) → b ≤ a → nat_lt a b ≡ false
not_below a b h = grind (arith, nat_tests)

abbrev later : ℕ → List Op → List Op
later last ops = filter (λ (op : Op). nat_lt last op.seq) ops

all_later : (last n : ℕ) (ops : List Op) → CountsFrom (n + 1) ops → last ≤ n → later last ops ≡ ops
all_later last n [] h le = refl
all_later last n (op ∷ ops) h le =
    let yes = below last op.seq (let e = h.0 in omega arith) in
    (λ i. cond (yes i) (op ∷ later last ops) (later last ops)) ∙ ap (λ l. op ∷ l) (all_later last (n + 1) ops h.1 (omega arith))

some_later : (last n : ℕ) (ops : List Op) → CountsFrom (n + 1) ops → n ≤ last → later last ops ≡ drop (last - n) ops
some_later last n [] h le = sym (nothing (last - n)) where
  nothing : (m : ℕ) → drop {A = Op} m [] ≡ []
  nothing zero = refl
  nothing (suc m) = refl
some_later last n (op ∷ ops) h le = by (λ less. some_later last (n + 1) ops h.1 less) (last - n) refl where
  by : (n + 1 ≤ last → later last ops ≡ drop (last - (n + 1)) ops) → (m : ℕ) → last - n ≡ m → later last (op ∷ ops) ≡ drop m (op ∷ ops)
  by rest zero e = all_later last n (op ∷ ops) h (omega arith)
  by rest (suc m) e =
      let no = not_below last op.seq (let seq = h.0 in omega arith) in
      (λ i. cond (no i) (op ∷ later last ops) (later last ops)) ∙ rest (omega arith) ∙ ap (λ k. drop k ops) (let same : last - (n + 1) ≡ m = omega arith in same)

last_is : (ops : List Op) → CountsFrom 1 ops → seq_of_last ops ≡ length ops
last_is [] h = refl
last_is (op ∷ ops) h = (let e = last_counts 1 (op ∷ ops) (omega arith) h in omega arith)

-- ---- a device's last revision

-- it is the last of its own
record Last (d n : ℕ) (c : Chain) : Type 0 where
  front : Chain
  revision : Revision
  rest : Chain
  split : c ≡ front ++ revision ∷ rest
  last : last_own d n c ≡ Some (n + length front + 1)
  own : 0 < length (ops_by d revision)
  none : NoneOf d rest

list_cases : {A : Type 0} (xs : List A) → (0 < length xs) ⊎ (xs ≡ [])
list_cases [] = inr refl
list_cases (x ∷ xs) = inl (omega arith)

own_here : (n : ℕ) (ops : List Op) → 0 < length ops → own_last n ops None ≡ Some n
own_here n [] some = absurd (omega arith)
own_here n (op ∷ ops) some = refl

last_cases : (d n : ℕ) (c : Chain) → Last d n c ⊎ ((last_own d n c ≡ None) × NoneOf d c)
last_cases d n [] = inr (refl, refl)
last_cases d n (x ∷ c) = elim (last_cases d (n + 1) c) [
  | inl l ↦ inl (record {
    front = x ∷ l.front;
    revision = l.revision;
    rest = l.rest;
    split = ap (λ r. x ∷ r) l.split;
    last = ap (own_last (n + 1) (ops_by d x)) l.last ∙ ap Some (let e : n + 1 + length l.front + 1 ≡ n + length (x ∷ l.front) + 1 = omega arith in e);
    own = l.own;
    none = l.none;
  })
  | inr none ↦ elim (list_cases (ops_by d x)) [
    | inl some ↦ inl (record {
      front = [];
      revision = x;
      rest = c;
      split = refl;
      last = ap (own_last (n + 1) (ops_by d x)) none.0 ∙ own_here (n + 1) (ops_by d x) some ∙ ap Some (let e : n + 1 ≡ n + 0 + 1 = omega arith in e);
      own = some;
      none = none.1;
    })
    | inr empty ↦ inr ((λ i. own_last (n + 1) (empty i) (none.0 i)), (λ i. empty i ++ none.1 i))
  ]
]

tail_is : {A : Type 0} (x y : A) (xs ys : List A) → x ∷ xs ≡ y ∷ ys → xs ≡ ys
tail_is x y xs ys e = cc

not_there : (d : ℕ) (front : Chain) (x : Revision) (rest : Chain) → 0 < length (ops_by d x) → NoneOf d (front ++ x ∷ rest) → ⊥
not_there d [] x rest own none = (let e = ap length (none_left (ops_by d x) (ops_of d rest) none) in omega arith)
not_there d (y ∷ front) x rest own none = not_there d front x rest own (none_right (ops_by d y) (ops_of d (front ++ x ∷ rest)) none)

-- there is one last revision
last_once : (d : ℕ) (front : Chain) (x : Revision) (rest other : Chain) (y : Revision) (more : Chain) → front ++ x ∷ rest ≡ other ++ y ∷ more → 0 < length (ops_by d x) → 0 < length (ops_by d y) → NoneOf d rest → NoneOf d more → length front ≡ length other
last_once d [] x rest [] y more e ox oy nx ny = refl
last_once d [] x rest (z ∷ other) y more e ox oy nx ny = absurd (not_there d other y more oy (subst (NoneOf d) (tail_is x z rest (other ++ y ∷ more) e) nx))
last_once d (z ∷ front) x rest [] y more e ox oy nx ny = absurd (not_there d front x rest ox (subst (NoneOf d) (sym (tail_is z y (front ++ x ∷ rest) more e)) ny))
last_once d (z ∷ front) x rest (w ∷ other) y more e ox oy nx ny = ap suc (last_once d front x rest other y more (tail_is z w (front ++ x ∷ rest) (other ++ y ∷ more) e) ox oy nx ny)

behind : (c front : Chain) (x : Revision) (rest : Chain) (n : ℕ) → c ≡ front ++ x ∷ rest → n ≡ length front + 1 → drop n c ≡ rest
behind c front x rest n split number =
    ap (drop n) (split ∙ sym (append_assoc front (x ∷ []) rest)) ∙ drop_front (front ++ x ∷ []) rest n (let e = length-append front (x ∷ []) in omega arith)

all_at : (d : ℕ) (c : Chain) (n : ℕ) → NoneOf d (drop n c) → ops_of d c ≡ ops_of d (take n c)
all_at d c n none = ap (ops_of d) (cut n c) ∙ ops_append d (take n c) (drop n c) ∙ ap (λ l. ops_of d (take n c) ++ l) none ∙ append_none (ops_of d (take n c))

-- ---- what is made of the kept journal

module _ (d : ℕ) (c : Chain) (p : Part) (kept : Journal) (lawful : IsLawful c) (part : PartMeets d c p) (acked : Acknowledges d c p) (shelved : p.shelved ≡ Some kept) where
  s : ShelfMeets d c p.acknowledged p.may kept
  s = acked.shelf kept shelved

  -- a journal that holds what was acknowledged alone, once an opening took over what landed
  abbrev j : Journal
  j = acked.without.0

  abbrev k : Journal
  k = taken_over d c j

  mj : Meets d c j
  mj = All-contains (Meets d c) p.may j part.may acked.without.1

  hj : held d c j ≡ acknowledged_at p j
  hj = All-contains (λ j. held d c j ≡ acknowledged_at p j) p.may j acked.held acked.without.1

  known : Knows d c j k
  known = over_known d c j mj

  goes : GoesOn d c kept k
  goes = goes_on d c kept j k (shelf_last d c p kept j s mj hj) (All-contains (GoesOn d c kept) p.may j s.goes acked.without.1) known.onward

  count : length (ops_of d c) ≡ k.base
  count = ap length (all_at d c k.known known.none) ∙ sym known.meets.base

  acknowledged_is : p.acknowledged ≡ ops_of d c ++ k.queue
  acknowledged_is = sym (known.held ∙ hj ∙ acked.without.2) ∙ ap (λ l. l ++ k.queue) (sym (all_at d c k.known known.none))

  counts : CountsFrom 1 p.acknowledged
  counts = subst (CountsFrom 1) (sym acknowledged_is)
      (counts_append 1 (ops_of d c) k.queue (ordered d c lawful).counts (subst (λ n. CountsFrom n k.queue) (let n = count in let e : k.base + 1 ≡ 1 + length (ops_of d c) = omega arith in e) known.meets.counts))

  pub shelf_is_old : last_seq kept ≤ last_acknowledged p
  shelf_is_old =
      let a = last_is p.acknowledged counts in
      let b = held_length d c kept s.met in
      let e = ap length s.front in
      let l = length-append (held d c kept) s.more in
      omega arith

  -- a journal that is the one made
  pub record Made : Type 0 where
    pub to : Journal
    pub is : returned d c kept ≡ to
    pub meets : Meets d c to
    pub held_is : held d c to ≡ p.acknowledged
    pub goes : GoesOn d c kept to

  module _ (far : last_acknowledged p ≤ last_seq kept) where
    whole : held d c kept ≡ p.acknowledged
    whole = sym (s.front ∙ ap (λ l. held d c kept ++ l) (none_length s.more rest) ∙ append_none (held d c kept)) where
      rest : length s.more ≡ 0
      rest =
          let a = last_is p.acknowledged counts in
          let b = held_length d c kept s.met in
          let e = ap length s.front in
          let l = length-append (held d c kept) s.more in
          omega arith

    size : last_seq kept ≡ k.base + length k.queue
    size = sym (held_length d c kept s.met) ∙ ap length (whole ∙ acknowledged_is) ∙ length-append (ops_of d c) k.queue ∙ ap (λ n. n + length k.queue) count

    rest_is : kept.base ≤ k.base → drop (k.base - kept.base) kept.queue ≡ k.queue
    rest_is le =
        let front = ops_of d (take kept.known c) in
        let both : front ++ kept.queue ≡ ops_of d c ++ k.queue = whole ∙ acknowledged_is in
        let at : length front + (k.base - kept.base) ≡ k.base = (let b = s.met.base in omega arith) in
        sym (drop-append-add front kept.queue (k.base - kept.base)) ∙ (λ i. drop (at i) (both i)) ∙ drop_front (ops_of d c) k.queue k.base count

    last : seq_of_last (ops_of d c) ≡ k.base
    last = last_is (ops_of d c) (ordered d c lawful).counts ∙ count

    -- nothing landed since
    unlanded : last_own d kept.known (drop kept.known c) ≡ None → NoneOf d (drop kept.known c) → Made
    unlanded own none =
        let base : k.base ≡ kept.base = sym count ∙ ap length (all_at d c kept.known none) ∙ sym s.met.base in
        let at = last ∙ base in
        let greater : max kept.base kept.base ≡ kept.base = omega arith in
        let queue = all_later kept.base kept.base kept.queue s.met.counts (omega arith) in
        record {
          to = kept;
          is = (λ i. record { known = unwrap_or (own i) kept.known; base = max (at i) kept.base; mark = option_map_or (λ (n : ℕ). false) (own i) kept.mark; queue = later (at i) kept.queue })
              ∙ (λ i. record { known = kept.known; base = greater i; mark = kept.mark; queue = queue i });
          meets = record {
            within = s.met.within;
            base = s.met.base;
            counts = s.met.counts;
            own = s.met.own;
            fit = s.met.fit;
            proper = s.met.proper;
            small = s.met.small;
            few = s.met.few;
            marked = s.met.marked;
            started = s.met.started;
            beyond = inl (inl none);
          };
          held_is = whole;
          goes = inr (inl refl);
        }

    -- or operations of the device did, the last ones by this revision
    module _ (l : Last d kept.known (drop kept.known c)) where
      abbrev number : ℕ
      number = kept.known + length l.front + 1

      front : Chain
      front = take kept.known c ++ l.front

      split : c ≡ front ++ l.revision ∷ l.rest
      unfolding front
      split = cut kept.known c ∙ ap (λ r. take kept.known c ++ r) l.split ∙ sym (append_assoc (take kept.known c) l.front (l.revision ∷ l.rest))

      number_is : number ≡ length front + 1
      unfolding front
      number_is = (let a = length-append (take kept.known c) l.front in let e = length-take-le kept.known c s.met.within in omega arith)

      none : NoneOf d (drop number c)
      none = ap (ops_of d) (behind c front l.revision l.rest number split number_is) ∙ l.none

      more : kept.base ≤ k.base
      more =
          let a = ap length (ap (ops_of d) (cut kept.known c) ∙ ops_append d (take kept.known c) (drop kept.known c)) in
          let e = length-append (ops_of d (take kept.known c)) (ops_of d (drop kept.known c)) in
          let b = s.met.base in
          let n = count in
          omega arith

      -- what is left fits its tree
      fit : GoesOn d c kept k → FitAll k.queue (tree_at c number)
      fit (inl out) = subst (λ q. FitAll q (tree_at c number)) (sym (none_length k.queue (let e = size in omega arith))) tt
      fit (inr (inl at)) = absurd (not_there d l.front l.revision l.rest l.own (subst (NoneOf d) l.split (subst (λ n. NoneOf d (drop n c)) at known.none)))
      fit (inr (inr (later, o))) =
          let rest : NoneOf d o.rest = sym (ap (ops_of d) (behind c o.front o.revision o.rest k.known o.split o.number)) ∙ known.none in
          let same = last_once d front l.revision l.rest o.front o.revision o.rest (sym split ∙ o.split) l.own o.own l.none rest in
          subst (λ n. FitAll k.queue (tree_at c n)) (let a = number_is in let b = o.number in let e : k.known ≡ number = omega arith in e) known.meets.fit

      landed : Made
      landed =
          let to : Journal = record { known = number; base = k.base; mark = false; queue = k.queue } in
          let greater : max k.base kept.base ≡ k.base = (let le = more in omega arith) in
          let queue = some_later k.base kept.base kept.queue s.met.counts more ∙ rest_is more in
          let own = l.last in
          let at = last in
          record {
            to = to;
            is = (λ i. record { known = unwrap_or (own i) kept.known; base = max (at i) kept.base; mark = option_map_or (λ (n : ℕ). false) (own i) kept.mark; queue = later (at i) kept.queue })
                ∙ (λ i. record { known = number; base = greater i; mark = false; queue = queue i });
            meets = record {
              within = (let e = ap length split in let a = length-append front (l.revision ∷ l.rest) in let n = number_is in omega arith);
              base = sym count ∙ ap length (all_at d c number none);
              counts = known.meets.counts;
              own = known.meets.own;
              fit = fit goes;
              proper = known.meets.proper;
              small = known.meets.small;
              few = known.meets.few;
              marked = λ e. cc;
              started = λ _. omega arith;
              beyond = inl (inl none);
            };
            held_is = ap (λ r. r ++ k.queue) (sym (all_at d c number none)) ∙ sym acknowledged_is;
            goes = inr (inr ((omega arith), record { front = front; revision = l.revision; rest = l.rest; split = split; number = number_is; own = l.own }));
          }

    pub made : Made
    made = elim (last_cases d kept.known (drop kept.known c)) [ inl l ↦ landed l | inr none ↦ unlanded none.0 none.1 ]

    pub returned_meets : Meets d c (returned d c kept)
    returned_meets = subst (Meets d c) (sym made.is) made.meets

    pub returned_held : held d c (returned d c kept) ≡ p.acknowledged
    returned_held = ap (held d c) made.is ∙ made.held_is

    pub returned_goes : GoesOn d c kept (returned d c kept)
    returned_goes = subst (GoesOn d c kept) (sym made.is) made.goes

    -- it isn't taken for one that has the operation whose call was stopped
    pub returned_acknowledged : acknowledged_at p (returned d c kept) ≡ p.acknowledged
    returned_acknowledged =
        let a = held_length d c (returned d c kept) (met d c (returned d c kept) returned_meets) in
        let b = held_length d c j (met d c j mj) in
        let e = ap length (returned_held ∙ sym acked.without.2 ∙ sym hj) in
        same_last p j (returned d c kept) (sym a ∙ e ∙ b) ∙ acked.without.2

    -- the part with it alone
    pub restored_part : (size : ℕ) → p.is_open ≡ false → use_of (returned d c kept).queue ≤ area_size size → PartMeets d c (restored size (returned d c kept) p)
    restored_part size shut fits = record {
      some = omega arith;
      may = all_one (Meets d c) (returned d c kept) returned_meets;
      areas = all_one (FitsArea (area_size size)) (returned d c kept) fits;
      session = λ is. absurd (let no : true ≡ false = sym is ∙ shut in cc);
      none = part.none;
    }

    pub restored_keeps : (name : List ℕ) (size : ℕ) → p.is_open ≡ false → use_of (returned d c kept).queue ≤ area_size size → Stands d c name (restored size (returned d c kept) p) Nothing
    restored_keeps name size shut fits =
        let shelf : ShelfMeets d c p.acknowledged (returned d c kept ∷ []) kept = record { met = s.met; more = s.more; front = s.front; goes = all_one (GoesOn d c kept) (returned d c kept) returned_goes } in
        record {
          part = restored_part size shut fits;
          acknowledged = record {
            settled = λ is. absurd (let no : true ≡ false = sym is ∙ shut in cc);
            held = all_one (λ j. held d c j ≡ acknowledged_at p j) (returned d c kept) (returned_held ∙ sym returned_acknowledged);
            without = (returned d c kept, there d c (returned d c kept) [], returned_acknowledged);
            shelf = λ x is. (let same : kept ≡ x = (let e = shelved in cc) in subst (ShelfMeets d c p.acknowledged (returned d c kept ∷ [])) same shelf);
          };
          waiting = tt;
        }
