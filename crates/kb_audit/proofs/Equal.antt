-- The facts hold of a revision's bytes exactly where these stand behind those before them.
use Rattle.std.proofs.Common.{◌≡◌, ◌≢◌, ℕ, zero, suc, ◌+◌, ◌≤◌, ◌<◌, Bool, true, false, List, [], ◌∷◌, length, Option, Some, None, refl, sym, ap, subst, ◌∙◌, arith}
use Rattle.std.specs.Prelude.{reverse, IsSome}
use Rattle.std.proofs.lemmas.List.{length-reverse}
use Rattle.kb_name.specs.Names.{is_device_name}
use Rattle.kb_name.specs.Moments.{last_second}
use Rattle.kb_ops.specs.declared.rows.Op.{Op}
use Rattle.kb_ops.specs.Trees.{fold_ops, FitAll}
use Rattle.kb_rules.specs.Meet.{Meet}
use Rattle.kb_keys.specs.declared.policy.Role.{Role}
use Rattle.kb_keys.specs.declared.policy.Role.TheVariants.{Writer}
use Rattle.kb_keys.specs.declared.policy.Action.{Action}
use Rattle.kb_keys.specs.declared.policy.Action.TheVariants as action
use Rattle.kb_keys.specs.Secrets.{device_secret, folder_key}
use Rattle.kb_files.specs.Opens.{Blocks}
use Rattle.kb_chain.specs.declared.revisions.RevisionKind.{RevisionKind}
use Rattle.kb_chain.specs.declared.revisions.RevisionKind.TheVariants.{Found, Step, Steps, Merge, Join, Rekey}
use Rattle.kb_chain.specs.declared.bundles.BundlePart.{BundlePart}
use Rattle.kb_chain.specs.declared.revisions.Revision.{Revision}
use Rattle.kb_chain.specs.declared.privates.Private.{Private}
use Rattle.kb_chain.specs.Revisions.{revision_text, signed_text, IsRevision, IsBundleOf, AreSeqs}
use Rattle.kb_chain.specs.Privates.{private_text, IsPrivate, IsBaseOf, IsCountOf}
use Rattle.kb_snap.specs.Chains.{Deed, ops_in, moment_of_last, stamp_of}
use Rattle.kb_snap.specs.Chains.Deed.{Founded, Stepped, Merged, Rekeyed}
use Rattle.kb_snap.specs.Members.{generation_by}
use Rattle.kb_snap.specs.Lawful.{AreOf, CountsFrom, FitsDeed, AreFew, IsRule}
use Rattle.kb_snap.proofs.Lists.{none_length}
use Rattle.kb_folder.specs.Chains.{Plain, Back, Names, Place, tree_at, role_in, generation_in, places_by, places_of, ops_of, Suits, Follows}
use Rattle.kb_folder.specs.Stands.{Revisions, HaveSeqs, HoldsAfter, IsWritten, Spells, step_kind, merge_kind, kind_of, base_of, bundle_for, head_of}
use Rattle.kb_folder.specs.Reading.{IsChain}
use Rattle.kb_folder.proofs.Behind.{FitsBehind, fits_behind, may_follow}
use Rattle.kb_folder.proofs.KindCases.{by_step, by_rule}
use Rattle.kb_folder.proofs.Turning.{role_by, gen_next, places_next}
use Rattle.kb_audit.proofs.Members.{members_few, writer_from, not_none, rekey_told}
use Rattle.kb_audit.specs.Facts.{base_or, rekeyed_by, deed_by, plain_by, plain_of, outline_of, HasForm, HasWriter, HasSeq, MayDo, HasFit, IsBelow, HasMoment, HasPrivate, HasOperation, HasRoom, IsGood, told_by}

same_plain : (x y : Plain) → x.writer ≡ y.writer → x.name ≡ y.name → x.moment ≡ y.moment → x.deed ≡ y.deed → x ≡ y
same_plain x y w n m d = λ i. record { writer = w i; name = n i; moment = m i; deed = d i }

-- ---- what the private part doesn't change

generation_outlined : (k : RevisionKind) (part : Option BundlePart) (base g : ℕ) (ops : List Op) → generation_by (deed_by k part base ops) g ≡ generation_by (deed_by k part 0 []) g
generation_outlined Found part base g ops = refl
generation_outlined Step part base g ops = refl
generation_outlined Steps part base g ops = refl
generation_outlined Merge part base g ops = refl
generation_outlined Join part base g ops = refl
generation_outlined Rekey part base g ops = refl

abbrev pub places_then : Back → ℕ → Deed → List Place
places_then c w deed = places_by (λ q. role_by w deed q (role_in c q)) (generation_by deed (generation_in c)) w deed

places_outlined : (k : RevisionKind) (part : Option BundlePart) (base w : ℕ) (c : Back) (ops : List Op) → places_then c w (deed_by k part base ops) ≡ places_then c w (deed_by k part 0 [])
places_outlined Found part base w c ops = refl
places_outlined Step part base w c ops = refl
places_outlined Steps part base w c ops = refl
places_outlined Merge part base w c ops = refl
places_outlined Join part base w c ops = refl
places_outlined Rekey part base w c ops = refl

bundle_outlined : (sealed : List ℕ → List ℕ → List ℕ) (seed : List ℕ) (k : RevisionKind) (part : Option BundlePart) (base w : ℕ) (ops : List Op) (ps : List Place) → bundle_for sealed seed w (deed_by k part base ops) ps ≡ bundle_for sealed seed w (deed_by k part 0 []) ps
bundle_outlined sealed seed Found part base w ops ps = refl
bundle_outlined sealed seed Step part base w ops ps = refl
bundle_outlined sealed seed Steps part base w ops ps = refl
bundle_outlined sealed seed Merge part base w ops ps = refl
bundle_outlined sealed seed Join part base w ops ps = refl
bundle_outlined sealed seed Rekey part base w ops ps = refl

module _ (names : Names) (r : Revision) (base : ℕ) (ops : List Op) (c : Back) where
  pub same_generation : generation_in (plain_by names r base ops ∷ c) ≡ generation_in (outline_of names r ∷ c)
  same_generation = gen_next (plain_by names r base ops) c ∙ generation_outlined r.kind r.bundle base (generation_in c) ops ∙ sym (gen_next (outline_of names r) c)

  pub same_places : places_of (plain_by names r base ops ∷ c) ≡ places_of (outline_of names r ∷ c)
  same_places = places_next (plain_by names r base ops) c ∙ places_outlined r.kind r.bundle base r.writer c ops ∙ sym (places_next (outline_of names r) c)

  pub same_bundle : (sealed : List ℕ → List ℕ → List ℕ) (seed : List ℕ) → bundle_for sealed seed r.writer (plain_by names r base ops).deed (places_of (plain_by names r base ops ∷ c)) ≡ bundle_for sealed seed r.writer (outline_of names r).deed (places_of (outline_of names r ∷ c))
  same_bundle sealed seed = bundle_outlined sealed seed r.kind r.bundle base r.writer ops (places_of (plain_by names r base ops ∷ c)) ∙ ap (bundle_for sealed seed r.writer (outline_of names r).deed) same_places

may_outlined : (registered : ℕ) (c : Back) (w : ℕ) (k : RevisionKind) (part : Option BundlePart) (base : ℕ) (ops : List Op) → MayDo registered c w (deed_by k part base ops) → MayDo registered c w (deed_by k part 0 [])
may_outlined registered c w Found part base ops h = h
may_outlined registered c w Step part base ops h = h
may_outlined registered c w Steps part base ops h = h
may_outlined registered c w Merge part base ops h = h
may_outlined registered c w Join part base ops h = h
may_outlined registered c w Rekey part base ops h = h

-- ---- from what stands to the facts

may_behind : (registered : ℕ) (c : Back) (w m : ℕ) (deed : Deed) → FitsBehind registered c m deed → MayDo registered c w deed
may_behind registered [] w m Founded f = refl
may_behind registered [] w m (Stepped ops) f = absurd f
may_behind registered [] w m (Merged base rule ops) f = absurd f
may_behind registered [] w m (Rekeyed a who) f = absurd f
may_behind registered (y ∷ c) w m Founded f = absurd f
may_behind registered (y ∷ c) w m (Stepped ops) f = λ e. cc
may_behind registered (y ∷ c) w m (Merged base rule ops) f = λ e. cc
may_behind registered (y ∷ c) w m (Rekeyed a who) f = rekey_told registered (y ∷ c) w a who (λ e. cc) f

-- the rule of a merge is one of the two
abbrev IsRuled : Deed → Type 0
IsRuled Founded = Unit {0}
IsRuled (Stepped ops) = Unit {0}
IsRuled (Merged base rule ops) = IsRule rule
IsRuled (Rekeyed a who) = Unit {0}

ruled : (c : Back) (x : Plain) (deed : Deed) → FitsDeed (reverse c) x deed → IsRuled deed
ruled c x Founded f = tt
ruled c x (Stepped ops) f = tt
ruled c x (Merged base rule ops) f = f.ruled
ruled c x (Rekeyed a who) f = tt

-- which its kind tells
rule_told : (part : Option BundlePart) (base rule : ℕ) (ops : List Op) → IsRule rule → deed_by (merge_kind rule) part base ops ≡ Merged base rule ops
rule_told part base zero ops is = (let low = is.0 in absurd (omega (arith, low)))
rule_told part base (suc zero) ops is = refl
rule_told part base (suc (suc zero)) ops is = refl
rule_told part base (suc (suc (suc n))) ops is = (let top = is.1 in absurd (omega (arith, top)))

deed_told : (sealed : List ℕ → List ℕ → List ℕ) (seed : List ℕ) (w : ℕ) (ps : List Place) (deed : Deed) → IsRuled deed → deed_by (kind_of deed) (bundle_for sealed seed w deed ps) (base_or (base_of deed)) (ops_in deed) ≡ deed
deed_told sealed seed w ps Founded is = refl
deed_told sealed seed w ps (Stepped ops) is = by_step (λ k. deed_by k None 0 ops ≡ Stepped ops) ops refl refl
deed_told sealed seed w ps (Merged base rule ops) is = rule_told None base rule ops is
deed_told sealed seed w ps (Rekeyed a who) is = refl

first_is : (first last n : ℕ) (ops : List Op) → 0 < length ops → HaveSeqs first last ops → CountsFrom n ops → first ≡ n
first_is first last n [] some h k = absurd (omega arith)
first_is first last n (op ∷ ops) some h k = sym h.0.0 ∙ k.0

seq_from : (c : Back) (x : Plain) (r : Revision) (deed : Deed) → r.writer ≡ x.writer → FitsDeed (reverse c) x deed → HaveSeqs r.first r.last (ops_in deed) → CountsFrom (length (ops_of x.writer c) + 1) (ops_in deed) → HasSeq c r (kind_of deed)
seq_from c x r Founded w f h k = tt
seq_from c x r (Stepped ops) w f h k = let next = first_is r.first r.last (length (ops_of x.writer c) + 1) ops f.0 h k ∙ ap (λ d. length (ops_of d c) + 1) (sym w) in by_step (HasSeq c r) ops next next
seq_from c x r (Merged base rule ops) w f h k = let next = first_is r.first r.last (length (ops_of x.writer c) + 1) ops f.some h k ∙ ap (λ d. length (ops_of d c) + 1) (sym w) in by_rule (HasSeq c r) rule next next
seq_from c x r (Rekeyed a who) w f h k = tt

below_from : (c : Back) (x : Plain) (number : ℕ) (deed : Deed) → number ≡ length c + 1 → FitsDeed (reverse c) x deed → IsBelow (base_of deed) number
below_from c x number Founded n f = tt
below_from c x number (Stepped ops) n f = tt
below_from c x number (Merged base rule ops) n f = let within = f.within in let size = length-reverse c in omega (arith, n, within, size)
below_from c x number (Rekeyed a who) n f = tt

moment_from : (c : Back) (x : Plain) (deed : Deed) → FitsDeed (reverse c) x deed → HasMoment (kind_of deed) x.moment (ops_in deed)
moment_from c x Founded f = tt
moment_from c x (Stepped ops) f = by_step (λ k. HasMoment k x.moment ops) ops f.2 f.2
moment_from c x (Merged base rule ops) f = by_rule (λ k. HasMoment k x.moment ops) rule tt tt
moment_from c x (Rekeyed a who) f = tt

operation_from : (c : Back) (x : Plain) (deed : Deed) → FitsDeed (reverse c) x deed → HasOperation c x deed × HasRoom c deed
operation_from c x Founded f = (tt, tt)
operation_from c x (Stepped ops) f = (subst (λ n. FitAll ops (tree_at c n)) (length-reverse c) f.1, tt)
operation_from c x (Merged base rule ops) f =
    let t = tree_at c base in
    ((f.fit, subst (λ n. Meet t (tree_at c n) (fold_ops ops t) (stamp_of x rule ops)) (length-reverse c) f.meet), subst (λ n. AreFew (tree_at c n) (fold_ops ops t)) (length-reverse c) f.few)
operation_from c x (Rekeyed a who) f = (tt, tt)

module _ (sealed signed : List ℕ → List ℕ → List ℕ) (hashed : List ℕ → List ℕ) (seed : List ℕ) (names : Names) (registered : ℕ) (blocks : Blocks) where
  -- The revision that stands is the one that its bytes tell.
  told_same : (bs : Revisions) (c : Back) (b : List ℕ) (x : Plain) → (w : IsWritten sealed signed hashed seed names blocks bs c b x) → Follows registered c x → plain_of names w.spells.revision w.spells.private ≡ x
  told_same bs c b x w f =
      let s = w.spells in
      same_plain (plain_of names s.revision s.private) x s.writer (ap names s.writer ∙ sym s.name) s.moment
      (ap (λ k. deed_by k s.revision.bundle (base_or s.private.base) s.private.ops) s.kind ∙ ap (λ o. deed_by (kind_of x.deed) o (base_or s.private.base) s.private.ops) s.bundle
      ∙ ap (λ o. deed_by (kind_of x.deed) (bundle_for sealed seed x.writer x.deed (places_of (x ∷ c))) (base_or o) s.private.ops) s.base
      ∙ ap (λ ops. deed_by (kind_of x.deed) (bundle_for sealed seed x.writer x.deed (places_of (x ∷ c))) (base_or (base_of x.deed)) ops) s.ops
      ∙ deed_told sealed seed x.writer (places_of (x ∷ c)) x.deed (ruled c x x.deed f.fits))

  pub good_from : registered ≤ 32 → (bs : Revisions) (c : Back) (b : List ℕ) (x : Plain) → IsChain registered c → IsWritten sealed signed hashed seed names blocks bs c b x → Follows registered c x → IsGood sealed signed hashed seed names registered blocks bs c b
  good_from top bs c b x chain w f =
      let s = w.spells in
      let r = s.revision in
      let p = s.private in
      let same : plain_of names r p ≡ x = told_same bs c b x w f in
      let behind : FitsBehind registered c x.moment x.deed = fits_behind registered c x (members_few registered top c chain) f in
      let ops_are : ops_in x.deed ≡ p.ops = sym s.ops in
      record {
        form = record { revision = r; is = s.is; spelled = s.spelled };
        number = s.number;
        previous = s.previous;
        writer = subst (HasWriter registered c) (sym s.writer) (writer_from registered top c chain x.writer (may_follow registered c x f));
        signature = s.signature ∙ ap (λ d. signed (device_secret seed d) (signed_text r)) (sym s.writer);
        seq = subst (HasSeq c r) (sym s.kind) (seq_from c x r x.deed s.writer f.fits s.seqs f.counts);
        fit = record {
          may = may_outlined registered c r.writer r.kind r.bundle (base_or p.base) p.ops (subst (λ (z : Plain). MayDo registered c z.writer z.deed) (sym same) (may_behind registered c x.writer x.moment x.deed behind));
          generation = s.generation ∙ ap (λ (z : Plain). generation_in (z ∷ c)) (sym same) ∙ same_generation names r (base_or p.base) p.ops c;
          bundle = s.bundle ∙ ap (λ (z : Plain). bundle_for sealed seed z.writer z.deed (places_of (z ∷ c))) (sym same) ∙ same_bundle names r (base_or p.base) p.ops c sealed seed;
        };
        private = record {
          part = p;
          of = record {
            is = s.is_private;
            opens = s.opens;
            own = record {
              own = subst (λ d. AreOf d p.ops) (sym s.writer) (subst (AreOf x.writer) ops_are f.own);
              seqs = subst (HaveSeqs r.first r.last) ops_are s.seqs;
              base = subst (λ o. IsBelow o r.number) (sym s.base) (below_from c x r.number x.deed s.number f.fits);
              moment = subst (λ k. HasMoment k r.moment p.ops) (sym s.kind) (subst (λ m. HasMoment (kind_of x.deed) m p.ops) (sym s.moment) (subst (HasMoment (kind_of x.deed) x.moment) ops_are (moment_from c x x.deed f.fits)));
            };
          };
        };
        operation = subst (λ (z : Plain). HasOperation c z z.deed) (sym same) (operation_from c x x.deed f.fits).0;
        room = subst (λ (z : Plain). HasRoom c z.deed) (sym same) (operation_from c x x.deed f.fits).1;
        held = subst (λ (z : Plain). HoldsAfter sealed hashed seed blocks (z ∷ c) r.generation p) (sym same) w.held;
      }

-- ---- from the facts to what stands

one_op : (first last : ℕ) (ops : List Op) → last ≡ first → HaveSeqs first last ops → 1 ≤ first → length ops ≡ 1
one_op first last [] e h low = let none = h.0 in absurd (omega (arith, none, low))
one_op first last (op ∷ ops) e h low = let size = h.1 in omega (arith, size, e)

more_ops : (first last : ℕ) (ops : List Op) → first < last → HaveSeqs first last ops → 2 ≤ length ops
more_ops first last [] lt h = let a = h.0 in let z = h.1 in absurd (omega (arith, a, z, lt))
more_ops first last (op ∷ ops) lt h = let size = h.1 in omega (arith, size, lt)

one_step : (ops : List Op) → length ops ≡ 1 → Step ≡ step_kind ops
one_step [] n = refl
one_step (op ∷ []) n = refl
one_step (op ∷ next ∷ ops) n = absurd (omega (arith, n))

several_steps : (ops : List Op) → 2 ≤ length ops → Steps ≡ step_kind ops
several_steps [] n = absurd (omega (arith, n))
several_steps (op ∷ []) n = absurd (omega (arith, n))
several_steps (op ∷ next ∷ ops) n = refl

pub kind_told : (first last : ℕ) (k : RevisionKind) (part : Option BundlePart) (base : ℕ) (ops : List Op) → IsBundleOf k part → AreSeqs k first last → HaveSeqs first last ops → k ≡ kind_of (deed_by k part base ops)
kind_told first last Found part base ops b s h = refl
kind_told first last Step part base ops b s h = one_step ops (one_op first last ops s.1 h s.0)
kind_told first last Steps part base ops b s h = several_steps ops (more_ops first last ops s.1 h)
kind_told first last Merge part base ops b s h = refl
kind_told first last Join part base ops b s h = refl
kind_told first last Rekey (Some p) base ops b s h = refl
kind_told first last Rekey None base ops b s h = absurd b

pub ops_told : (k : RevisionKind) (part : Option BundlePart) (base : ℕ) (ops : List Op) → IsBundleOf k part → IsCountOf k (length ops) → ops ≡ ops_in (deed_by k part base ops)
ops_told Found part base ops h n = none_length ops n
ops_told Step part base ops h n = refl
ops_told Steps part base ops h n = refl
ops_told Merge part base ops h n = refl
ops_told Join part base ops h n = refl
ops_told Rekey (Some p) base ops h n = none_length ops n
ops_told Rekey None base ops h n = absurd h

pub base_told : (k : RevisionKind) (part : Option BundlePart) (base : Option ℕ) (ops : List Op) → IsBundleOf k part → IsBaseOf k base → base ≡ base_of (deed_by k part (base_or base) ops)
base_told Found part base ops h e = e
base_told Step part base ops h e = e
base_told Steps part base ops h e = e
base_told Merge part (Some b) ops h e = refl
base_told Merge part None ops h e = absurd e
base_told Join part (Some b) ops h e = refl
base_told Join part None ops h e = absurd e
base_told Rekey (Some p) base ops h e = e
base_told Rekey None base ops h e = absurd h

counts_on : (first last n : ℕ) (ops : List Op) → first ≡ n → HaveSeqs first last ops → CountsFrom n ops
counts_on first last n [] e h = tt
counts_on first last n (op ∷ ops) e h = subst (λ m. CountsFrom m (op ∷ ops)) e h.0

counts_told : (c : Back) (r : Revision) (k : RevisionKind) (part : Option BundlePart) (base : ℕ) (ops : List Op) → IsBundleOf k part → HasSeq c r k → HaveSeqs r.first r.last ops → CountsFrom (length (ops_of r.writer c) + 1) (ops_in (deed_by k part base ops))
counts_told c r Found part base ops b s h = tt
counts_told c r Step part base ops b s h = counts_on r.first r.last (length (ops_of r.writer c) + 1) ops s h
counts_told c r Steps part base ops b s h = counts_on r.first r.last (length (ops_of r.writer c) + 1) ops s h
counts_told c r Merge part base ops b s h = counts_on r.first r.last (length (ops_of r.writer c) + 1) ops s h
counts_told c r Join part base ops b s h = counts_on r.first r.last (length (ops_of r.writer c) + 1) ops s h
counts_told c r Rekey (Some p) base ops b s h = tt
counts_told c r Rekey None base ops b s h = absurd b

-- the first seq is at least 1 where there are operations to come
some_ops : (first last : ℕ) (ops : List Op) → 1 ≤ first → HaveSeqs first last ops → 0 < length ops
some_ops first last [] low h = let e = h.0 in absurd (omega (arith, e, low))
some_ops first last (op ∷ ops) low h = omega arith

-- and there are at most so many
pub few_ops : (most first last : ℕ) (ops : List Op) → last < first + most → HaveSeqs first last ops → length ops ≤ most
few_ops most first last [] low h = omega arith
few_ops most first last (op ∷ ops) low h = let e = h.1 in omega (arith, e, low)

module _ (registered : ℕ) (c : Back) (x : Plain) (first last number : ℕ) where
  merge_told : (rule base : ℕ) (ops : List Op) → IsRule rule → 0 < length ops → 1 ≤ base → base + 1 ≤ number → number ≡ length c + 1 → is_device_name x.name ≡ true → x.moment ≤ last_second
      → HasOperation c x (Merged base rule ops) → HasRoom c (Merged base rule ops) → FitsDeed (reverse c) x (Merged base rule ops)
  merge_told rule base ops is some from low n name time op room =
      let t = tree_at c base in
      record {
        from = from;
        within = let size = length-reverse c in omega (arith, low, n, size);
        name = name;
        time = time;
        ruled = is;
        some = some;
        fit = op.0;
        few = subst (λ n. AreFew (tree_at c n) (fold_ops ops t)) (sym (length-reverse c)) room;
        meet = subst (λ n. Meet t (tree_at c n) (fold_ops ops t) (stamp_of x rule ops)) (sym (length-reverse c)) op.1;
      }

  fits_told : (k : RevisionKind) (part : Option BundlePart) (base : Option ℕ) (ops : List Op) → IsBundleOf k part → AreSeqs k first last → HaveSeqs first last ops → IsBaseOf k base → IsBelow base number → number ≡ length c + 1 → HasMoment k x.moment ops
      → is_device_name x.name ≡ true → x.moment ≤ last_second → MayDo registered c x.writer (deed_by k part 0 []) → HasOperation c x (deed_by k part (base_or base) ops) → HasRoom c (deed_by k part (base_or base) ops) → FitsDeed (reverse c) x (deed_by k part (base_or base) ops)
  fits_told Found part base ops b s h e low n m name time may op room = ap reverse may
  fits_told Step part base ops b s h e low n m name time may op room =
      (some_ops first last ops s.0 h, subst (λ n. FitAll ops (tree_at c n)) (sym (length-reverse c)) op, m, (let one = one_op first last ops s.1 h s.0 in omega (arith, one)))
  fits_told Steps part base ops b s h e low n m name time may op room = (some_ops first last ops s.0 h, subst (λ n. FitAll ops (tree_at c n)) (sym (length-reverse c)) op, m, few_ops 32 first last ops s.2 h)
  fits_told Merge part None ops b s h e low n m name time may op room = absurd e
  fits_told Merge part (Some base) ops b s h e low n m name time may op room = merge_told 1 base ops (omega arith, omega arith) (some_ops first last ops s.0 h) e.0 low n name time op room
  fits_told Join part None ops b s h e low n m name time may op room = absurd e
  fits_told Join part (Some base) ops b s h e low n m name time may op room = merge_told 2 base ops (omega arith, omega arith) (some_ops first last ops s.0 h) e.0 low n name time op room
  fits_told Rekey (Some p) base ops b s h e low n m name time may op room = (not_none c may.0, may.1)
  fits_told Rekey None base ops b s h e low n m name time may op room = absurd b

  suits_told : (k : RevisionKind) (part : Option BundlePart) (base : ℕ) (ops : List Op) → IsBundleOf k part → AreSeqs k first last → HaveSeqs first last ops → HasWriter registered c x.writer → MayDo registered c x.writer (deed_by k part 0 []) → Suits registered c x.writer (deed_by k part base ops)
  suits_told Found part base ops b s h w may = (w.1, w.2)
  suits_told Step part base ops b s h w may = may
  suits_told Steps part base ops b s h w may = may
  suits_told Merge part base ops b s h w may = few_ops 4096 first last ops s.2 h
  suits_told Join part base ops b s h w may = few_ops 4096 first last ops s.2 h
  suits_told Rekey (Some p) base ops b s h w may = may.2
  suits_told Rekey None base ops b s h w may = absurd b

module _ (sealed signed : List ℕ → List ℕ → List ℕ) (hashed : List ℕ → List ℕ) (seed : List ℕ) (names : Names) (registered : ℕ) (blocks : Blocks) where
  abbrev pub spells_from : (bs : Revisions) (c : Back) (b : List ℕ) → (g : IsGood sealed signed hashed seed names registered blocks bs c b) → Spells sealed signed seed names bs c b (told_by sealed signed hashed seed names registered blocks bs c b g)
  spells_from bs c b g =
      let r = g.form.revision in
      let rules = g.form.is.rules in
      let p = g.private.part in
      let ops_are : p.ops ≡ ops_in (deed_by r.kind r.bundle (base_or p.base) p.ops) = ops_told r.kind r.bundle (base_or p.base) p.ops rules.bundle g.private.of.is.count in
      record {
        revision = r;
        is = g.form.is;
        spelled = g.form.spelled;
        number = g.number;
        previous = g.previous;
        kind = kind_told r.first r.last r.kind r.bundle (base_or p.base) p.ops rules.bundle rules.seqs g.private.of.own.seqs;
        writer = refl;
        name = refl;
        moment = refl;
        generation = g.fit.generation ∙ sym (same_generation names r (base_or p.base) p.ops c);
        seqs = subst (HaveSeqs r.first r.last) ops_are g.private.of.own.seqs;
        bundle = g.fit.bundle ∙ sym (same_bundle names r (base_or p.base) p.ops c sealed seed);
        signature = g.signature;
        private = p;
        is_private = g.private.of.is;
        opens = g.private.of.opens;
        base = base_told r.kind r.bundle p.base p.ops rules.bundle g.private.of.is.base;
        ops = ops_are;
      }

  pub stands_from : ((d : ℕ) → 1 ≤ d → d ≤ registered → is_device_name (names d) ≡ true) → (bs : Revisions) (c : Back) (b : List ℕ) → (g : IsGood sealed signed hashed seed names registered blocks bs c b)
      → IsWritten sealed signed hashed seed names blocks bs c b (told_by sealed signed hashed seed names registered blocks bs c b g) × Follows registered c (told_by sealed signed hashed seed names registered blocks bs c b g)
  stands_from named bs c b g =
      let r = g.form.revision in
      let rules = g.form.is.rules in
      let p = g.private.part in
      let ops_are : p.ops ≡ ops_in (deed_by r.kind r.bundle (base_or p.base) p.ops) = ops_told r.kind r.bundle (base_or p.base) p.ops rules.bundle g.private.of.is.count in (
        record {
          spells = spells_from bs c b g;
          held = g.held;
        },
        record {
          allowed = g.writer.0;
          own = subst (AreOf r.writer) ops_are g.private.of.own.own;
          counts = counts_told c r r.kind r.bundle (base_or p.base) p.ops rules.bundle g.seq g.private.of.own.seqs;
          fits = fits_told registered c (plain_of names r p) r.first r.last r.number r.kind r.bundle p.base p.ops rules.bundle rules.seqs g.private.of.own.seqs g.private.of.is.base g.private.of.own.base g.number g.private.of.own.moment
              (named r.writer g.writer.1 g.writer.2) g.form.is.room.moment g.fit.may g.operation g.room;
          suits = suits_told registered c (plain_of names r p) r.first r.last r.number r.kind r.bundle (base_or p.base) p.ops rules.bundle rules.seqs g.private.of.own.seqs g.writer g.fit.may;
        },
      )
