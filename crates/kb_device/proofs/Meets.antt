-- How a device goes on meeting the chain: as the chain grows, as revisions become known, and as its queue grows.
use Rattle.std.proofs.Common.{◌≡◌, ◌⊎◌, ℕ, ◌+◌, ◌^◌, ◌≤◌, ◌<◌, ◌==◌, Bool, true, false, cond, List, [], ◌∷◌, ◌++◌, length, take, drop, Option, Some, None, inl, inr, refl, sym, ap, ◌∙◌, subst, arith, append_assoc, length-append}
use Rattle.std.specs.Option.{option_map_or}
use Rattle.std.proofs.lemmas.List.{take-append-drop, length-take-le, take_all, take-append-le, drop-append-le, length-drop}
use Rattle.std.proofs.lemmas.Bool.Decides.{nat_tests}
use Rattle.kb_ops.specs.declared.rows.Op.{Op}
use Rattle.kb_ops.specs.Trees.{fold_ops, Fits, FitAll}
use Rattle.kb_ops.specs.Grammar.{op_text, IsProper}
use Rattle.kb_journal.specs.State.{use_of}
use Rattle.std.proofs.lemmas.List.Sums.{sum_by-take-drop}
use Rattle.std.proofs.lemmas.List.Elements.{All-append, All-drop, All-nil, All-cons}
use Rattle.kb_snap.specs.Chains.{Stepped, Merged, Revision, Chain, ops_in, ops_by, ops_of, tree_at, first_own}
use Rattle.kb_device.specs.Journals.{Journal, last_seq, queued, taken, branched, taken_over, caught_up, resumed}
use Rattle.kb_snap.specs.Lawful.{CountsFrom}
use Rattle.kb_keys.specs.Members.{nobody}
use Rattle.kb_snap.specs.Members.{roles_by, roles_after, roles_at}
use Rattle.kb_device.specs.Meets.{NoneOf, IsStep, IsMerge, StepOrNone, Beyond, Meets, held, Met, IsOwnAt, GoesOn, Onward}
use Rattle.kb_snap.proofs.Lists.{append_none, take_front, drop_front, cut, none_length}
use Rattle.kb_snap.proofs.Chains.{ops_append, ops_push, by_writer, none_push, no_own, own_at, tree_longer, tree_step, roles_append}
use Rattle.kb_snap.proofs.Counts.{counts_drop, counts_push, fit_drop, fit_push, own_drop, own_push}

-- ---- a journal that the device had

pub met : (d : ℕ) (c : Chain) (j : Journal) → Meets d c j → Met d c j
met d c j h = record { within = h.within; base = h.base; counts = h.counts; own = h.own; fit = h.fit; proper = h.proper; small = h.small; few = h.few; marked = h.marked; started = h.started }

pub held_length : (d : ℕ) (c : Chain) (j : Journal) → Met d c j → length (held d c j) ≡ last_seq j
held_length d c j h = (let e = length-append (ops_of d (take j.known c)) j.queue in let base = h.base in omega arith)

pub goes_on : (d : ℕ) (c : Chain) (kept j k : Journal) → last_seq kept ≤ last_seq j → GoesOn d c kept j → Onward d c j k → GoesOn d c kept k
goes_on d c kept j k le h (inl all) = inl (omega arith)
goes_on d c kept j k le (inl out) (inr (inl (same, more))) = inl (omega arith)
goes_on d c kept j k le (inl out) (inr (inr (later, own, more))) = inl (omega arith)
goes_on d c kept j k le (inr (inl at)) (inr (inl (same, more))) = inr (inl (same ∙ at))
goes_on d c kept j k le (inr (inl at)) (inr (inr (later, own, more))) = inr (inr ((omega arith), own))
goes_on d c kept j k le (inr (inr (far, was))) (inr (inl (same, more))) = inr (inr ((omega arith), subst (IsOwnAt d c) (sym same) was))
goes_on d c kept j k le (inr (inr (far, was))) (inr (inr (later, own, more))) = inr (inr ((omega arith), own))

-- ---- a revision of another, or one without operations

step_longer : (d : ℕ) (queue : List Op) (count : ℕ) (c : Chain) (x : Revision) → ops_by d x ≡ [] → IsStep d queue count c → IsStep d queue count (c ++ x ∷ [])
step_longer d queue count c x other s = record {
  revision = s.revision;
  rest = s.rest ++ x ∷ [];
  split = ap (λ l. l ++ x ∷ []) s.split;
  writer = s.writer;
  deed = s.deed;
  some = s.some;
  few = s.few;
  none = none_push d s.rest x s.none other;
}

merge_longer : (d : ℕ) (queue : List Op) (c : Chain) (x : Revision) → ops_by d x ≡ [] → IsMerge d queue c → IsMerge d queue (c ++ x ∷ [])
merge_longer d queue c x other s = record {
  front = s.front;
  revision = s.revision;
  rest = s.rest ++ x ∷ [];
  base = s.base;
  rule = s.rule;
  split = ap (λ l. l ++ x ∷ []) s.split ∙ append_assoc s.front (s.revision ∷ s.rest) (x ∷ []);
  writer = s.writer;
  deed = s.deed;
  some = s.some;
  before = s.before;
  none = none_push d s.rest x s.none other;
}

beyond_longer : (d : ℕ) (queue : List Op) (c : Chain) (x : Revision) → ops_by d x ≡ [] → Beyond d queue c → Beyond d queue (c ++ x ∷ [])
beyond_longer d queue c x other (inl (inl none)) = inl (inl (none_push d c x none other))
beyond_longer d queue c x other (inl (inr (count, s))) = inl (inr (count, step_longer d queue count c x other s))
beyond_longer d queue c x other (inr s) = inr (merge_longer d queue c x other s)

module _ (d : ℕ) (c : Chain) (x : Revision) (j : Journal) (within : j.known ≤ length c) where
  pub take_longer : take j.known (c ++ x ∷ []) ≡ take j.known c
  take_longer = take-append-le j.known c (x ∷ []) within

  pub drop_longer : drop j.known (c ++ x ∷ []) ≡ drop j.known c ++ x ∷ []
  drop_longer = drop-append-le j.known c (x ∷ []) within

  pub held_longer : held d (c ++ x ∷ []) j ≡ held d c j
  held_longer = ap (λ l. ops_of d l ++ j.queue) take_longer

  pub none_longer : ops_by d x ≡ [] → NoneOf d (drop j.known c) → NoneOf d (drop j.known (c ++ x ∷ []))
  none_longer other none = subst (NoneOf d) (sym drop_longer) (none_push d (drop j.known c) x none other)

  pub is_step_longer : (count : ℕ) → ops_by d x ≡ [] → IsStep d j.queue count (drop j.known c) → IsStep d j.queue count (drop j.known (c ++ x ∷ []))
  is_step_longer count other s = subst (IsStep d j.queue count) (sym drop_longer) (step_longer d j.queue count (drop j.known c) x other s)

-- all but what stands beyond the known revision is kept by any revision
meets_with : (d : ℕ) (c : Chain) (x : Revision) (j : Journal) → Meets d c j → Beyond d j.queue (drop j.known (c ++ x ∷ [])) → Meets d (c ++ x ∷ []) j
meets_with d c x j h beyond = record {
  within = (let w = h.within in let e = length-append c (x ∷ []) in omega arith);
  base = h.base ∙ ap (λ l. length (ops_of d l)) (sym (take_longer d c x j h.within));
  counts = h.counts;
  own = h.own;
  fit = subst (FitAll j.queue) (sym (tree_longer c (x ∷ []) j.known h.within)) h.fit;
  proper = h.proper;
  small = h.small;
  few = h.few;
  marked = h.marked;
  started = h.started;
  beyond = beyond;
}

pub met_longer : (d : ℕ) (c : Chain) (x : Revision) (j : Journal) → Met d c j → Met d (c ++ x ∷ []) j
met_longer d c x j h = record {
  within = (let w = h.within in let e = length-append c (x ∷ []) in omega arith);
  base = h.base ∙ ap (λ l. length (ops_of d l)) (sym (take_longer d c x j h.within));
  counts = h.counts;
  own = h.own;
  fit = subst (FitAll j.queue) (sym (tree_longer c (x ∷ []) j.known h.within)) h.fit;
  proper = h.proper;
  small = h.small;
  few = h.few;
  marked = h.marked;
  started = h.started;
}

pub goes_longer : (d : ℕ) (c : Chain) (x : Revision) (kept j : Journal) → GoesOn d c kept j → GoesOn d (c ++ x ∷ []) kept j
goes_longer d c x kept j (inl out) = inl out
goes_longer d c x kept j (inr (inl at)) = inr (inl at)
goes_longer d c x kept j (inr (inr (later, o))) =
    inr (inr (later, record { front = o.front; revision = o.revision; rest = o.rest ++ x ∷ []; split = ap (λ l. l ++ x ∷ []) o.split ∙ append_assoc o.front (o.revision ∷ o.rest) (x ∷ []); number = o.number; own = o.own }))

pub meets_longer : (d : ℕ) (c : Chain) (x : Revision) (j : Journal) → ops_by d x ≡ [] → Meets d c j → Meets d (c ++ x ∷ []) j
meets_longer d c x j other h = meets_with d c x j h (subst (Beyond d j.queue) (sym (drop_longer d c x j h.within)) (beyond_longer d j.queue (drop j.known c) x other h.beyond))

-- ---- the device's own revisions

-- a step with the first of the queue is put behind the known revision
pub put_step : (d : ℕ) (c : Chain) (x : Revision) (j : Journal) (count : ℕ) → Meets d c j → j.known ≡ length c → x.writer ≡ d → x.deed ≡ Stepped (take count j.queue) → 0 < count → count ≤ length j.queue
    → IsStep d j.queue count (drop j.known (c ++ x ∷ []))
put_step d c x j count h known writer deed some few = record {
  revision = x;
  rest = [];
  split = drop_front c (x ∷ []) j.known (sym known);
  writer = writer;
  deed = deed;
  some = some;
  few = few;
  none = refl;
}

pub meets_step : (d : ℕ) (c : Chain) (x : Revision) (j : Journal) (count : ℕ) → Meets d c j → IsStep d j.queue count (drop j.known (c ++ x ∷ [])) → Meets d (c ++ x ∷ []) j
meets_step d c x j count h s = meets_with d c x j h (inl (inr (count, s)))

-- a merge of the queue is put
abbrev pub put_merge : (d : ℕ) (c : Chain) (x : Revision) (j : Journal) (base rule : ℕ) → Meets d c j → NoneOf d (drop j.known c) → x.writer ≡ d → x.deed ≡ Merged base rule j.queue → 0 < length j.queue
    → IsMerge d j.queue (drop j.known (c ++ x ∷ []))
put_merge d c x j base rule h none writer deed some = record {
  front = drop j.known c;
  revision = x;
  rest = [];
  base = base;
  rule = rule;
  split = drop_longer d c x j h.within;
  writer = writer;
  deed = deed;
  some = some;
  before = none;
  none = refl;
}

pub meets_merge : (d : ℕ) (c : Chain) (x : Revision) (j : Journal) → Meets d c j → IsMerge d j.queue (drop j.known (c ++ x ∷ [])) → Meets d (c ++ x ∷ []) j
meets_merge d c x j h s = meets_with d c x j h (inr s)

-- ---- the queue grows, and a branch is marked

step_queued : (d : ℕ) (queue : List Op) (op : Op) (count : ℕ) (c : Chain) → IsStep d queue count c → IsStep d (queue ++ op ∷ []) count c
step_queued d queue op count c s = record {
  revision = s.revision;
  rest = s.rest;
  split = s.split;
  writer = s.writer;
  deed = s.deed ∙ ap Stepped (sym (take-append-le count queue (op ∷ []) s.few));
  some = s.some;
  few = (let few = s.few in let e = length-append queue (op ∷ []) in omega arith);
  none = s.none;
}

beyond_queued : (d : ℕ) (queue : List Op) (op : Op) (c : Chain) → StepOrNone d queue c → StepOrNone d (queue ++ op ∷ []) c
beyond_queued d queue op c (inl none) = inl none
beyond_queued d queue op c (inr (count, s)) = inr (count, step_queued d queue op count c s)

pub is_step_queued : (d : ℕ) (c : Chain) (j : Journal) (op : Op) (count : ℕ) → IsStep d j.queue count (drop j.known c) → IsStep d (queued op j).queue count (drop j.known c)
is_step_queued d c j op count s = step_queued d j.queue op count (drop j.known c) s

pub meets_queued : (d : ℕ) (c : Chain) (j : Journal) (op : Op) → Meets d c j → StepOrNone d j.queue (drop j.known c) → 1 ≤ j.known → op.device ≡ d → op.seq ≡ last_seq j + 1
    → last_seq j + 1 < 2 ^ 32 → length j.queue < 4096 → Fits op (fold_ops j.queue (tree_at c j.known)) → IsProper op → Meets d c (queued op j)
meets_queued d c j op h beyond known device seq small few fits proper = record {
  within = h.within;
  base = h.base;
  counts = counts_push (j.base + 1) j.queue op h.counts (omega (arith, seq));
  own = own_push d j.queue op h.own device;
  fit = fit_push j.queue op (tree_at c j.known) h.fit fits;
  proper = All-append IsProper j.queue (op ∷ []) h.proper (All-cons IsProper op [] proper (All-nil IsProper));
  small = (let e = length-append j.queue (op ∷ []) in omega arith);
  few = (let e = length-append j.queue (op ∷ []) in omega arith);
  marked = λ _. (let e = length-append j.queue (op ∷ []) in omega arith);
  started = λ _. known;
  beyond = inl (beyond_queued d j.queue op (drop j.known c) beyond);
}

pub held_queued : (d : ℕ) (c : Chain) (j : Journal) (op : Op) → held d c (queued op j) ≡ held d c j ++ op ∷ []
held_queued d c j op = sym (append_assoc (ops_of d (take j.known c)) j.queue (op ∷ []))

pub meets_branched : (d : ℕ) (c : Chain) (j : Journal) → Meets d c j → 0 < length j.queue → Meets d c (branched j)
meets_branched d c j h some = record {
  within = h.within;
  base = h.base;
  counts = h.counts;
  own = h.own;
  fit = h.fit;
  proper = h.proper;
  small = h.small;
  few = h.few;
  marked = λ _. some;
  started = h.started;
  beyond = h.beyond;
}

-- ---- a revision of the device becomes known

-- the first of the queue stands in this revision, and no other beyond the known one is the device's
module _ (d : ℕ) (c : Chain) (j : Journal) (mid : Chain) (x : Revision) (rest : Chain) (count : ℕ) (h : Meets d c j) (split : drop j.known c ≡ mid ++ x ∷ rest)
    (before : NoneOf d mid) (none : NoneOf d rest) (holds : ops_by d x ≡ take count j.queue) (few : count ≤ length j.queue) where
  abbrev number : ℕ
  number = j.known + length mid + 1

  front : Chain
  front = take j.known c ++ (mid ++ x ∷ [])

  whole : c ≡ front ++ rest
  unfolding front
  whole =
      cut j.known c ∙ ap (λ l. take j.known c ++ l) (split ∙ sym (append_assoc mid (x ∷ []) rest))
      ∙ sym (append_assoc (take j.known c) (mid ++ x ∷ []) rest)

  length-front : length front ≡ number
  unfolding front
  length-front =
      let w = h.within in
      let a = length-take-le j.known c w in
      let b = length-append (take j.known c) (mid ++ x ∷ []) in
      let e = length-append mid (x ∷ []) in
      omega arith

  taken_front : take number c ≡ front
  taken_front = ap (take number) whole ∙ take_front front rest number length-front

  rest_is : drop number c ≡ rest
  rest_is = ap (drop number) whole ∙ drop_front front rest number length-front

  front_ops : ops_of d front ≡ ops_of d (take j.known c) ++ take count j.queue
  unfolding front
  front_ops =
      ops_append d (take j.known c) (mid ++ x ∷ [])
      ∙ ap (λ l. ops_of d (take j.known c) ++ l) (ops_push d mid x ∙ (λ i. before i ++ holds i))

  pub taken_none : NoneOf d (drop number c)
  taken_none = ap (ops_of d) rest_is ∙ none

  pub taken_onward : 0 < count → Onward d c j (taken number count j)
  taken_onward some = inr (inr (
    (omega arith),
    record {
      front = take j.known c ++ mid;
      revision = x;
      rest = rest;
      split = cut j.known c ∙ ap (λ l. take j.known c ++ l) split ∙ sym (append_assoc (take j.known c) mid (x ∷ rest));
      number = (let a = length-append (take j.known c) mid in let e = length-take-le j.known c h.within in omega arith);
      own = (let e = ap length holds in let b = length-take-le count j.queue few in omega arith);
    },
    (omega arith),
  ))

  pub taken_held : held d c (taken number count j) ≡ held d c j
  taken_held =
      ap (λ l. l ++ drop count j.queue) (ap (ops_of d) taken_front ∙ front_ops)
      ∙ append_assoc (ops_of d (take j.known c)) (take count j.queue) (drop count j.queue)
      ∙ ap (λ l. ops_of d (take j.known c) ++ l) (take-append-drop count j.queue)

  pub taken_last : last_seq (taken number count j) ≡ last_seq j
  taken_last = (let e = length-drop count j.queue in omega (arith, few))

  pub taken_meets : FitAll (drop count j.queue) (tree_at c number) → Meets d c (taken number count j)
  taken_meets fit = record {
    within = (let e = ap length whole in let a = length-append front rest in let b = length-front in omega arith);
    base =
        let ops = ap (ops_of d) taken_front ∙ front_ops in
        let e = ap length ops in
        let a = length-append (ops_of d (take j.known c)) (take count j.queue) in
        let b = length-take-le count j.queue few in
        let base = h.base in
        omega arith;
    counts = subst (λ n. CountsFrom n (drop count j.queue)) (let e : j.base + 1 + count ≡ j.base + count + 1 = omega arith in e) (counts_drop (j.base + 1) count j.queue h.counts);
    own = own_drop d count j.queue h.own;
    fit = fit;
    proper = All-drop IsProper count j.queue h.proper;
    small = (let e = taken_last in let s = h.small in omega arith);
    few = (let e = length-drop count j.queue in let f = h.few in omega arith);
    marked = λ e. cc;
    started = λ _. omega arith;
    beyond = inl (inl taken_none);
  }

-- the tree of a step, which the rest of the queue fits
step_fit : (d : ℕ) (c : Chain) (j : Journal) (count : ℕ) → Meets d c j → IsStep d j.queue count (drop j.known c)
    → (tree_at c (j.known + 1) ≡ fold_ops (take count j.queue) (tree_at c j.known)) × FitAll (drop count j.queue) (tree_at c (j.known + 1))
step_fit d c j count h s =
    let front = take j.known c in
    let length-front : length front ≡ j.known = length-take-le j.known c h.within in
    let whole : c ≡ front ++ s.revision ∷ s.rest = cut j.known c ∙ ap (λ l. front ++ l) s.split in
    let there : tree_at c (length front + 1) ≡ fold_ops (take count j.queue) (tree_at c (length front)) =
    subst (λ x. tree_at x (length front + 1) ≡ fold_ops (take count j.queue) (tree_at x (length front))) (sym whole) (tree_step front s.revision s.rest (take count j.queue) s.deed) in
    let at : tree_at c (j.known + 1) ≡ fold_ops (take count j.queue) (tree_at c j.known) = subst (λ n. tree_at c (n + 1) ≡ fold_ops (take count j.queue) (tree_at c n)) length-front there in
    (at, subst (FitAll (drop count j.queue)) (sym at) (fit_drop count j.queue (tree_at c j.known) h.fit))

-- a journal goes on from itself
pub stays : (d : ℕ) (c : Chain) (j : Journal) → Onward d c j j
stays d c j = inr (inl (refl, (omega arith)))

-- a journal for another, which knows more of the chain and holds the same
pub record Knows (d : ℕ) (c : Chain) (j k : Journal) : Type 0 where
  pub meets : Meets d c k
  pub none : NoneOf d (drop k.known c)
  pub held : held d c k ≡ held d c j
  pub last : last_seq k ≡ last_seq j
  pub onward : Onward d c j k

pub step_known : (d : ℕ) (c : Chain) (j : Journal) (count : ℕ) → Meets d c j → IsStep d j.queue count (drop j.known c) → Knows d c j (taken (j.known + 1) count j)
step_known d c j count h s =
    let holds : ops_by d s.revision ≡ take count j.queue = by_writer d s.revision s.writer ∙ ap ops_in s.deed in
    let same : j.known + length {A = Revision} [] + 1 ≡ j.known + 1 = omega arith in
    subst (λ n. Knows d c j (taken n count j)) same (record {
      meets = taken_meets d c j [] s.revision s.rest count h s.split refl s.none holds s.few (subst (λ n. FitAll (drop count j.queue) (tree_at c n)) (sym same) (step_fit d c j count h s).1);
      none = taken_none d c j [] s.revision s.rest count h s.split refl s.none holds s.few;
      held = taken_held d c j [] s.revision s.rest count h s.split refl s.none holds s.few;
      last = taken_last d c j [] s.revision s.rest count h s.split refl s.none holds s.few;
      onward = taken_onward d c j [] s.revision s.rest count h s.split refl s.none holds s.few s.some;
    })

pub step_tree : (d : ℕ) (c : Chain) (j : Journal) (count : ℕ) → Meets d c j → IsStep d j.queue count (drop j.known c) → tree_at c (j.known + 1) ≡ fold_ops (take count j.queue) (tree_at c j.known)
step_tree d c j count h s = (step_fit d c j count h s).0

-- a step changes no member
pub step_roles : (d : ℕ) (c : Chain) (j : Journal) (count : ℕ) → j.known ≤ length c → IsStep d j.queue count (drop j.known c) → roles_at c (j.known + 1) ≡ roles_at c j.known
step_roles d c j count within s =
    let front = take j.known c in
    let length-front : length front ≡ j.known = length-take-le j.known c within in
    let whole : c ≡ (front ++ s.revision ∷ []) ++ s.rest = cut j.known c ∙ ap (λ l. front ++ l) s.split ∙ sym (append_assoc front (s.revision ∷ []) s.rest) in
    let next : take (j.known + 1) c ≡ front ++ s.revision ∷ [] = ap (take (j.known + 1)) whole ∙ take_front (front ++ s.revision ∷ []) s.rest (j.known + 1) (let e = length-append front (s.revision ∷ []) in omega arith) in
    ap (roles_after nobody) next ∙ roles_append nobody front (s.revision ∷ []) ∙ ap (λ deed. roles_by s.revision.writer deed (roles_after nobody front)) s.deed

drop_whole : (ops : List Op) → drop (length ops) ops ≡ []
drop_whole ops = ap (drop (length ops)) (sym (append_none ops)) ∙ drop_front ops [] (length ops) refl

pub merge_known : (d : ℕ) (c : Chain) (j : Journal) → Meets d c j → (s : IsMerge d j.queue (drop j.known c)) → Knows d c j (taken (j.known + length s.front + 1) (length j.queue) j)
merge_known d c j h s =
    let n = length j.queue in
    let holds : ops_by d s.revision ≡ take n j.queue = by_writer d s.revision s.writer ∙ ap ops_in s.deed ∙ sym (take_all n j.queue (omega arith)) in
    let few : n ≤ length j.queue = omega arith in
    record {
      meets = taken_meets d c j s.front s.revision s.rest n h s.split s.before s.none holds few (subst (λ l. FitAll l (tree_at c (j.known + length s.front + 1))) (sym (drop_whole j.queue)) tt);
      none = taken_none d c j s.front s.revision s.rest n h s.split s.before s.none holds few;
      held = taken_held d c j s.front s.revision s.rest n h s.split s.before s.none holds few;
      last = taken_last d c j s.front s.revision s.rest n h s.split s.before s.none holds few;
      onward = taken_onward d c j s.front s.revision s.rest n h s.split s.before s.none holds few s.some;
    }

-- ---- openings

over_with : (d : ℕ) (c : Chain) (j : Journal) (own : Option (ℕ × ℕ)) → first_own d j.known (drop j.known c) ≡ own → taken_over d c j ≡ option_map_or (λ (o : ℕ × ℕ). taken o.0 o.1 j) own j
over_with d c j own e = ap (λ (o : Option (ℕ × ℕ)). option_map_or (λ (o : ℕ × ℕ). taken o.0 o.1 j) o j) e

own_is : (d : ℕ) (c : Chain) (j : Journal) (mid : Chain) (x : Revision) (rest : Chain) (count : ℕ) → drop j.known c ≡ mid ++ x ∷ rest → NoneOf d mid → ops_by d x ≡ take count j.queue → 0 < count → count ≤ length j.queue
    → taken_over d c j ≡ taken (j.known + length mid + 1) count j
own_is d c j mid x rest count split before holds some few =
    let size : length (ops_by d x) ≡ count = ap length holds ∙ length-take-le count j.queue few in
    over_with d c j (Some (j.known + length mid + 1, count))
    (ap (first_own d j.known) split ∙ own_at d j.known mid x rest before (omega arith) ∙ ap (λ n. Some (j.known + length mid + 1, n)) size)

-- what an opening takes over
pub over_known : (d : ℕ) (c : Chain) (j : Journal) → Meets d c j → Knows d c j (taken_over d c j)
over_known d c j h = over d c j h h.beyond where
  over : (d : ℕ) (c : Chain) (j : Journal) → Meets d c j → Beyond d j.queue (drop j.known c) → Knows d c j (taken_over d c j)
  over d c j h (inl (inl none)) = subst (Knows d c j) (sym (over_with d c j None (no_own d j.known (drop j.known c) none))) (record { meets = h; none = none; held = refl; last = refl; onward = stays d c j })
  over d c j h (inl (inr (count, s))) =
      let holds : ops_by d s.revision ≡ take count j.queue = by_writer d s.revision s.writer ∙ ap ops_in s.deed in
      let same : j.known + length {A = Revision} [] + 1 ≡ j.known + 1 = omega arith in
      subst (Knows d c j) (sym (own_is d c j [] s.revision s.rest count s.split refl holds s.some s.few ∙ ap (λ n. taken n count j) same)) (step_known d c j count h s)
  over d c j h (inr s) =
      let n = length j.queue in
      let holds : ops_by d s.revision ≡ take n j.queue = by_writer d s.revision s.writer ∙ ap ops_in s.deed ∙ sym (take_all n j.queue (omega arith)) in
      subst (Knows d c j) (sym (own_is d c j s.front s.revision s.rest n s.split s.before holds s.some (omega arith))) (merge_known d c j h s)

-- the head becomes known where nothing waits
pub head_known : (d : ℕ) (c : Chain) (j k : Journal) → Knows d c j k → k.queue ≡ [] → Knows d c j (record k { known = length c })
head_known d c j k h empty =
    let all : take (length c) c ≡ c = take_all (length c) c (omega arith) in
    let none_left : drop (length c) c ≡ [] = ap (drop (length c)) (sym (append_none c)) ∙ drop_front c [] (length c) refl in
    let same : ops_of d (take k.known c) ≡ ops_of d (take (length c) c) =
    sym (append_none (ops_of d (take k.known c))) ∙ ap (λ l. ops_of d (take k.known c) ++ l) (sym h.none) ∙ sym (ops_append d (take k.known c) (drop k.known c)) ∙ ap (ops_of d) (take-append-drop k.known c ∙ sym all) in
    let none : NoneOf d (drop (length c) c) = ap (ops_of d) none_left in
    let zero_long : length k.queue ≡ 0 = ap length empty in
    record {
      meets = record {
        within = omega arith;
        base = h.meets.base ∙ ap length same;
        counts = h.meets.counts;
        own = h.meets.own;
        fit = subst (λ q. FitAll q (tree_at c (length c))) (sym empty) tt;
        proper = h.meets.proper;
        small = h.meets.small;
        few = h.meets.few;
        marked = h.meets.marked;
        started = λ some. absurd (omega arith);
        beyond = inl (inl none);
      };
      none = none;
      held = ap (λ l. l ++ k.queue) (sym same) ∙ h.held;
      last = h.last;
      onward = inl (let last = h.last in omega arith);
    }

bool_cases : (b : Bool) → (b ≡ true) ⊎ (b ≡ false)
bool_cases true = inl refl
bool_cases false = inr refl

pub caught_known : (d : ℕ) (c : Chain) (j k : Journal) → Knows d c j k → Knows d c j (caught_up c k)
caught_known d c j k h = elim (bool_cases (length k.queue == 0)) [
  | inl e ↦ (
      let empty : length k.queue ≡ 0 = grind (arith, nat_tests) in
      subst (Knows d c j) (λ i. cond (sym e i) (record k { known = length c }) k) (head_known d c j k h (none_length k.queue empty)))
  | inr e ↦ subst (Knows d c j) (λ i. cond (sym e i) (record k { known = length c }) k) h
]

pub resumed_known : (d : ℕ) (c : Chain) (j : Journal) → Meets d c j → Knows d c j (resumed d c j)
resumed_known d c j h = caught_known d c j (taken_over d c j) (over_known d c j h)

-- an open device knows a revision, once its folder has one
pub resumed_from : (d : ℕ) (c : Chain) (j : Journal) → Meets d c j → 1 ≤ length c → 1 ≤ (resumed d c j).known
resumed_from d c j h some = elim (bool_cases (length (taken_over d c j).queue == 0)) [
  | inl e ↦ subst (λ (k : Journal). 1 ≤ k.known) (λ i. cond (sym e i) (record (taken_over d c j) { known = length c }) (taken_over d c j)) some
  | inr e ↦ (
      let long : 0 < length (taken_over d c j).queue = grind (arith, nat_tests) in
      subst (λ (k : Journal). 1 ≤ k.known) (λ i. cond (sym e i) (record (taken_over d c j) { known = length c }) (taken_over d c j)) ((over_known d c j h).meets.started long))
]

-- ---- what a journal takes of an area

pub use_drop : (n : ℕ) (queue : List Op) → use_of (drop n queue) ≤ use_of queue
use_drop n queue = (let e = sum_by-take-drop (λ (op : Op). 6 + length (op_text op)) queue n in omega (arith, e))

pub over_use : (d : ℕ) (c : Chain) (j : Journal) → use_of (taken_over d c j).queue ≤ use_of j.queue
over_use d c j = by (first_own d j.known (drop j.known c)) where
  by : (own : Option (ℕ × ℕ)) → use_of (option_map_or (λ (o : ℕ × ℕ). taken o.0 o.1 j) own j).queue ≤ use_of j.queue
  by None = omega arith
  by (Some own) = use_drop own.1 j.queue

caught_queue : (c : Chain) (j : Journal) → (caught_up c j).queue ≡ j.queue
caught_queue c j = by (length j.queue == 0) where
  by : (b : Bool) → (cond b (record j { known = length c }) j).queue ≡ j.queue
  by true = refl
  by false = refl

pub resumed_use : (d : ℕ) (c : Chain) (j : Journal) → use_of (resumed d c j).queue ≤ use_of j.queue
resumed_use d c j = subst (λ q. use_of q ≤ use_of j.queue) (sym (caught_queue c (taken_over d c j))) (over_use d c j)
