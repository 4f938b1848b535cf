-- Runs go on, statement by statement.
use Rattle.std.proofs.Common.{◌≡◌, ◌≤◌, ℕ, zero, suc, ◌+◌, false, List, [], ◌∷◌, ◌++◌, take, Option, Some, None, Result, Ok, Err, inl, refl, sym, ap, ◌∙◌, subst, append_assoc, append-nil, add-one, arith}
use Rattle.std.specs.Prelude.{OnErr, slice_get, map, All}
use Rattle.std.specs.List.{fold}
use Rattle.std.specs.Io.KnownBytes.{Appends}
use Rattle.std.proofs.lemmas.List.{map-append}
use Rattle.std.proofs.lemmas.List.Elements.{All-take}
use Rattle.kb_script.specs.declared.statements.Statement.{Statement}
use Rattle.kb_script.specs.Fit.{IsFit, AllFit, found_after}
use Rattle.kb_lines.specs.declared.lines.Line.{Line}
use Rattle.kb_lines.specs.LineTexts.{text_of_all}
use Rattle.kb_world.specs.Statements.{Reply}
use Rattle.kb_world.specs.Statements as machine
use Rattle.kb_world.specs.Machine.{State, new_state, Progress, Run, Steps, Ends}
use Rattle.kb_world.specs.Good.{IsGood}
use Rattle.kb_world.specs.RunLaws.{ArmsNone, LosesNone}
use Rattle.kb_world.specs.RunReplies.{Begun}
use Rattle.kb_world.proofs.Machine.{ends_keep}
use Rattle.kb_world.proofs.GoodStates.{runs_good, good_owned, shows_known}
use Rattle.kb_world.proofs.Linked.{unlost}
use Rattle.kb_world.proofs.Unfused.{unfused}
use Rattle.kb_world.proofs.Determined.{runs_begin}
use Rattle.kb_world.proofs.Begins.{scripts_answered}
use Rattle.kb_folder.specs.Chains.{Names}
use Rattle.kb_world.specs.Spoken.{statement_of, device_of}
use Rattle.kb_world.specs.Doing.{MayDo, Does}
use Rattle.kb_top.specs.Replies.{names_in, plain, text_of_replies, text_of_each, AllOwned, AllAgree, IsAnswered}
use Rattle.kb_top.specs.Outcomes.{Ran, RanWhole, Ended, Cut}
use Rattle.kb_top.specs.Summaries.{names_given, names_told}
use Rattle.kb_top.proofs.Told.{one_told}
use Rattle.kb_top.proofs.Fits.{declared_after_all, found_after_all, declared_push, found_push, fit_at, names_next, After, after, may_do, may_follow}

-- ---- bytes that were written

pub Appends-none : (a : Option (List ℕ)) → Appends a a []
Appends-none None = tt
Appends-none (Some x) = sym (append-nil x)

pub Appends-both : (a b c : Option (List ℕ)) (bs cs : List ℕ) → Appends a b bs → Appends b c cs → Appends a c (bs ++ cs)
Appends-both None b c bs cs p q = tt
Appends-both (Some x) None c bs cs p q = absurd p
Appends-both (Some x) (Some y) None bs cs p q = absurd q
Appends-both (Some x) (Some y) (Some z) bs cs p q = q ∙ ap (λ l. l ++ cs) p ∙ append_assoc x bs cs

-- ---- an answer that is an error

pub on_err : {A E : Type 0} (r : Result A E) (P : Type 0) → P → OnErr r P
on_err (Ok x) P p = tt
on_err (Err e) P p = p

-- ---- one statement more

take_more' : {A : Type 0} (xs : List A) (n : ℕ) (x : A) → slice_get xs n ≡ Some x → take (suc n) xs ≡ take n xs ++ x ∷ []
take_more' [] n x e = cc
take_more' (y ∷ xs) zero x e = let same : y ≡ x = cc in ap (λ z. z ∷ []) same
take_more' (y ∷ xs) (suc n) x e = ap (λ l. y ∷ l) (take_more' xs n x e)

pub take_more : {A : Type 0} (xs : List A) (n : ℕ) (x : A) → slice_get xs n ≡ Some x → take (n + 1) xs ≡ take n xs ++ x ∷ []
take_more xs n x e = rw add-one (take_more' xs n x e)

split : {A : Type 0} (xs : List A) (n : ℕ) (x : A) → slice_get xs n ≡ Some x → (rest : List A) × (xs ≡ take n xs ++ x ∷ rest)
split [] n x e = cc
split (y ∷ xs) zero x e = (xs, let same : y ≡ x = cc in ap (λ z. z ∷ xs) same)
split (y ∷ xs) (suc n) x e = let rest = split xs n x e in (rest.0, ap (λ l. y ∷ l) rest.1)

map_take : {A B : Type 0} (f : A → B) (n : ℕ) (xs : List A) → map f (take n xs) ≡ take n (map f xs)
map_take f zero [] = refl
map_take f (suc n) [] = refl
map_take f zero (x ∷ xs) = refl
map_take f (suc n) (x ∷ xs) = ap (λ l. f x ∷ l) (map_take f n xs)

Run-more : (s : State) (statements : List machine.Statement) (each : List (List Reply)) (mid : State) (statement : machine.Statement) (replies : List Reply) (t : State)
    → Run s statements each mid → Steps mid statement replies t → Run s (statements ++ statement ∷ []) (each ++ replies ∷ []) t
Run-more s [] [] mid statement replies t run step = (t, subst (λ u. Steps u statement replies t) run step, refl)
Run-more s (first ∷ statements) (l ∷ each) mid statement replies t run step = (run.0, run.1, Run-more run.0 statements each mid statement replies t run.2 step)
Run-more s [] (l ∷ each) mid statement replies t run step = absurd run
Run-more s (first ∷ statements) [] mid statement replies t run step = absurd run

run_more : (all : List Statement) (n : ℕ) (statement : Statement) (each : List (List Reply)) (mid : State) (replies : List Reply) (t : State)
    → slice_get all n ≡ Some statement → Run new_state (plain (take n all)) each mid → Steps mid (statement_of statement) replies t → Run new_state (plain (take (n + 1) all)) (each ++ replies ∷ []) t
run_more all n statement each mid replies t next run step =
    subst (λ l. Run new_state l (each ++ replies ∷ []) t)
    (sym (ap plain (take_more all n statement next) ∙ map-append statement_of (take n all) (statement ∷ [])))
    (Run-more new_state (plain (take n all)) each mid (statement_of statement) replies t run step)

text_more : (names : Names) (s : State) (statements : List Statement) (each : List (List Reply)) (mid : State) (statement : Statement) (replies : List Reply)
    → Run s (plain statements) each mid → text_of_each names (statements ++ statement ∷ []) (each ++ replies ∷ []) ≡ text_of_each names statements each ++ text_of_replies names statement replies
text_more names s [] [] mid statement replies run = append-nil (text_of_replies names statement replies)
text_more names s (first ∷ statements) (l ∷ each) mid statement replies run =
    ap (λ t. text_of_replies names first l ++ t) (text_more names run.0 statements each mid statement replies run.2)
    ∙ sym (append_assoc (text_of_replies names first l) (text_of_each names statements each) (text_of_replies names statement replies))
text_more names s [] (l ∷ each) mid statement replies run = absurd run
text_more names s (first ∷ statements) [] mid statement replies run = absurd run

-- ---- what holds of each run

owned_by : (s : State) → IsGood s → AllOwned s
owned_by s good d m is = good_owned s d m good is

agree_by : (s : State) → IsGood s → AllAgree s
agree_by s good d m j is at empty = shows_known s d m j good is at empty

answers : (statements : List Statement) (each : List (List Reply)) (t : State) → AllFit statements → Begun new_state (plain statements) each t → IsAnswered (plain statements) each
answers statements each t fit begun = let all = scripts_answered (plain statements) (may_follow 0 false statements fit) in record { all = all.0; are = all.1; first = all.1.begun each t begun }

-- the first statements ran, and some parts of the next one were done
part_begun : (all : List Statement) (n : ℕ) (statement : Statement) (each : List (List Reply)) (mid : State) (replies : List Reply) (t : State)
    → slice_get all n ≡ Some statement → Run new_state (plain (take n all)) each mid → Progress (statement_of statement) [] mid replies t → Begun new_state (plain all) (each ++ replies ∷ []) t
part_begun all n statement each mid replies t next run part =
    let cut = split all n statement next in
    subst (λ l. Begun new_state l (each ++ replies ∷ []) t)
    (sym (ap plain cut.1 ∙ map-append statement_of (take n all) (statement ∷ cut.0)))
    ((runs_begin (plain (take n all)) each mid run).more (statement_of statement) (plain cut.0) replies t part)

arms_first : (all : List Statement) (n : ℕ) → All ArmsNone (plain all) → All ArmsNone (plain (take n all))
arms_first all n none = subst (λ l. All ArmsNone l) (sym (map_take statement_of n all)) (All-take ArmsNone n (plain all) none)

loses_first : (all : List Statement) (n : ℕ) → All LosesNone (plain all) → All LosesNone (plain (take n all))
loses_first all n none = subst (λ l. All LosesNone l) (sym (map_take statement_of n all)) (All-take LosesNone n (plain all) none)

-- these statements ran, under these names
pub record HasRun {W : Type 0} (stands : Names → W → State → Type 0) (names : Names) (world : W) (statements : List Statement) : Type 0 where
  pub each : List (List Reply)
  pub state : State
  pub run : Run new_state (plain statements) each state
  pub stands_for : stands names world state
  pub after : After (declared_after_all 0 statements) (found_after_all false statements) state

-- and put their lines
pub record IsRunning {W : Type 0} (stands : Names → W → State → Type 0) (names : Names) (world : W) (before now : Option (List ℕ)) (faults_before faults_now : ℕ) (statements : List Statement) : Type 0 where
  pub ran : HasRun stands names world statements
  pub bytes : Appends before now (text_of_each names statements ran.each)
  pub later : faults_before ≤ faults_now

-- Whatever state the world stood for, in which the statement might be done, it goes on to one that it stands for now.
abbrev pub Moves : {W : Type 0} → (Names → W → State → Type 0) → W → W → Statement → (Names → State → State → Type 0) → Type 0
Moves {W} stands old new statement P = (names : Names) (s : State) → stands names old s → MayDo names s statement → (t : State) × P names s t × stands names new t

module _ {W : Type 0} (stands : Names → W → State → Type 0) where
  pub new_run : (world : W) (names : Names) → ((names : Names) → stands names world new_state) → HasRun stands names world []
  new_run world names is = record { each = []; state = new_state; run = refl; stands_for = is names; after = (refl, λ none. refl) }

  -- and no names were given
  pub new_untold : (world : W) (names : Names) → ((names : Names) → stands names world new_state) → (ran : HasRun stands names world []) × (0 ≡ names_given ran.each)
  unfolding new_run
  new_untold world names is = (new_run world names is, refl)

  pub none_ran : (world : W) (names : Names) (held : Option (List ℕ)) (faults : ℕ) → ((names : Names) → stands names world new_state) → IsRunning stands names world held held faults faults []
  none_ran world names held faults is = record { ran = new_run world names is; bytes = Appends-none held; later = omega arith }

  -- they all ran, and these bytes were written
  pub all_ran : (world : W) (before now : Option (List ℕ)) (statements some : List Statement) → some ≡ statements → AllFit statements → (ran : HasRun stands (names_in statements) world some)
      → (written : State → List (List Reply) → List ℕ) → Appends before now (written ran.state ran.each) → Ran stands world before now statements written
  all_ran world before now statements some same fit ran written bytes =
      let run : Run new_state (plain statements) ran.each ran.state = subst (λ l. Run new_state (plain l) ran.each ran.state) same ran.run in
      let all = answers statements ran.each ran.state fit (runs_begin (plain statements) ran.each ran.state run).whole in
      record {
        each = ran.each;
        state = ran.state;
        run = run;
        stands_for = ran.stands_for;
        owned = owned_by ran.state (runs_good (plain statements) ran.each ran.state run);
        agree = agree_by ran.state (runs_good (plain statements) ran.each ran.state run);
        unfused = λ none. unfused (plain statements) ran.each ran.state none run;
        unlost = λ none. unlost (plain statements) ran.each ran.state none run;
        answered = all;
        same = λ plain. (all.are.only ran.each (record { state = ran.state; run = run; plain = plain })).0;
        bytes = bytes;
      }

  -- and put nothing
  pub all_untold : (world : W) (statements some : List Statement) → some ≡ statements → AllFit statements → (ran : HasRun stands (names_in statements) world some)
      → (n : ℕ) → n ≡ names_given ran.each → (all : Ran stands world None None statements (λ state each. [])) × (n ≡ names_given all.each)
  unfolding all_ran
  all_untold world statements some same fit ran n e = (all_ran world None None statements some same fit ran (λ state each. []) tt, e)

  -- and put their lines
  pub all_put : (world : W) (before now : Option (List ℕ)) (first second : ℕ) (statements some : List Statement) → some ≡ statements → AllFit statements → IsRunning stands (names_in statements) world before now first second some → RanWhole stands world before now statements
  all_put world before now first second statements some same fit running =
      all_ran world before now statements some same fit running.ran (λ state each. text_of_each (names_in statements) statements each)
      (subst (λ l. Appends before now (text_of_each (names_in statements) l running.ran.each)) same running.bytes)

  -- the world stands for the last state still, and these bytes were written
  pub ran_still : (old new : W) (before was first now : Option (List ℕ)) (statements : List Statement) (nothing written : State → List (List Reply) → List ℕ) → (ran : Ran stands old before was statements nothing)
      → stands (names_in statements) new ran.state → Appends first now (written ran.state ran.each) → Ran stands new first now statements written
  ran_still old new before was first now statements nothing written ran is bytes = record {
    each = ran.each;
    state = ran.state;
    run = ran.run;
    stands_for = is;
    owned = ran.owned;
    agree = ran.agree;
    unfused = ran.unfused;
    unlost = ran.unlost;
    answered = ran.answered;
    same = ran.same;
    bytes = bytes;
  }

  -- the first ones ran, and these bytes were written
  pub ended_still : (world : W) (before was first now : Option (List ℕ)) (statements : List Statement) (nothing written : List Statement → List (List Reply) → List ℕ) → (ended : Ended stands world before was statements nothing)
      → Appends first now (written (take ended.count statements) ended.each) → Ended stands world first now statements written
  ended_still world before was first now statements nothing written ended bytes = record {
    count = ended.count;
    statement = ended.statement;
    next = ended.next;
    each = ended.each;
    middle = ended.middle;
    run = ended.run;
    state = ended.state;
    ended = ended.ended;
    stands_for = ended.stands_for;
    owned = ended.owned;
    agree = ended.agree;
    unfused = ended.unfused;
    unlost = ended.unlost;
    answered = ended.answered;
    bytes = bytes;
  }

  module _ (mid world : W) (statements : List Statement) (fit : AllFit statements) (n : ℕ) (statement : Statement) (next : slice_get statements n ≡ Some statement)
      (ran : HasRun stands (names_in statements) mid (take n statements)) where
    abbrev pub names : Names
    names = names_in statements

    fits : IsFit (declared_after_all 0 (take n statements)) (found_after_all false (take n statements)) statement
    fits = fit_at 0 false statements n statement fit next

    -- it may be done
    pub may_be_done : MayDo names ran.state statement
    may_be_done = may_do names ran.state _ _ statement ran.after fits (names_next statements n statement next)

    -- it was done
    module _ (lines : List Line) (goes : Moves stands mid world statement (λ names s t. Does names s statement lines t)) where
      moved : (t : State) × Does names ran.state statement lines t × stands names world t
      moved = goes names ran.state ran.stands_for may_be_done

      run : Run new_state (plain (take (n + 1) statements)) (ran.each ++ moved.1.replies ∷ []) moved.0
      run = run_more statements n statement ran.each ran.state moved.1.replies moved.0 next ran.run moved.1.steps

      text : text_of_all lines ≡ text_of_replies names statement moved.1.replies
      text = ap text_of_all moved.1.lines_are

      pub one_ran : HasRun stands (names_in statements) world (take (n + 1) statements)
      one_ran =
          let all = take_more statements n statement next in
          record {
            each = ran.each ++ moved.1.replies ∷ [];
            state = moved.0;
            run = run;
            stands_for = moved.2;
            after = subst (λ l. After (declared_after_all 0 l) (found_after_all false l) moved.0) (sym all)
                (subst (λ b. After (declared_after_all 0 (take n statements ++ statement ∷ [])) b moved.0) (sym (found_push false (take n statements) statement))
                (subst (λ k. After k (found_after (found_after_all false (take n statements)) statement) moved.0) (sym (declared_push 0 (take n statements) statement))
                (after ran.state moved.0 _ _ moved.1.replies ran.after statement fits moved.1.steps)));
          }

      -- and so many names were given then
      pub one_untold : (before : ℕ) → before ≡ names_given ran.each → (now : ℕ) → now ≡ fold names_told before lines → (more : HasRun stands (names_in statements) world (take (n + 1) statements)) × (now ≡ names_given more.each)
      unfolding one_ran
      one_untold before e now told = (one_ran, told ∙ ap (fold names_told before) moved.1.lines_are ∙ one_told names (device_of statement) before ran.each moved.1.replies e)

      -- its lines were put behind those before
      put_more : (before held now : Option (List ℕ)) → Appends before held (text_of_each names (take n statements) ran.each) → Appends held now (text_of_all lines) → Appends before now (text_of_each names (take (n + 1) statements) (ran.each ++ moved.1.replies ∷ []))
      put_more before held now was put =
          subst (λ l. Appends before now (text_of_each names l (ran.each ++ moved.1.replies ∷ []))) (sym (take_more statements n statement next))
          (subst (λ l. Appends before now l) (sym (text_more names new_state (take n statements) ran.each ran.state statement moved.1.replies ran.run))
          (Appends-both before held now _ _ was (subst (λ l. Appends held now l) text put)))

      -- a beginning of its lines was put
      pub cut : (before held now : Option (List ℕ)) → Appends before held (text_of_each names (take n statements) ran.each) → (put : ℕ) → Appends held now (take put (text_of_all lines)) → Cut stands world before now statements
      cut before held now was put bytes = record {
        count = n;
        statement = statement;
        next = next;
        each = ran.each;
        middle = ran.state;
        run = ran.run;
        replies = moved.1.replies;
        state = moved.0;
        step = moved.1.steps;
        stands_for = moved.2;
        owned = owned_by moved.0 (runs_good _ _ moved.0 run);
        agree = agree_by moved.0 (runs_good _ _ moved.0 run);
        unfused = λ none. unfused (plain (take (n + 1) statements)) (ran.each ++ moved.1.replies ∷ []) moved.0 (arms_first statements (n + 1) none) run;
        unlost = λ none. unlost (plain (take (n + 1) statements)) (ran.each ++ moved.1.replies ∷ []) moved.0 (loses_first statements (n + 1) none) run;
        answered = answers statements (ran.each ++ moved.1.replies ∷ []) moved.0 fit (part_begun statements n statement ran.each ran.state moved.1.replies moved.0 next ran.run moved.1.steps.0);
        put = put;
        bytes = Appends-both before held now _ _ was (subst (λ l. Appends held now (take put l)) text bytes);
      }

    -- want of memory ended it
    pub ended : (before held : Option (List ℕ)) (written : List Statement → List (List Reply) → List ℕ) → Appends before held (written (take n statements) ran.each)
        → Moves stands mid world statement (λ names s t. Ends s (statement_of statement) t) → Ended stands world before held statements written
    ended before held written was goes =
        let moved = goes names ran.state ran.stands_for may_be_done in
        record {
          count = n;
          statement = statement;
          next = next;
          each = ran.each;
          middle = ran.state;
          run = ran.run;
          state = moved.0;
          ended = moved.1;
          stands_for = moved.2;
          owned = owned_by moved.0 (ends_keep ran.state (statement_of statement) moved.0 moved.1 (runs_good _ _ ran.state ran.run));
          agree = agree_by moved.0 (ends_keep ran.state (statement_of statement) moved.0 moved.1 (runs_good _ _ ran.state ran.run));
          unfused = λ none. unfused (plain (take n statements)) ran.each ran.state (arms_first statements n none) ran.run;
          unlost = λ none. unlost (plain (take n statements)) ran.each ran.state (loses_first statements n none) ran.run;
          answered = answers statements (ran.each ++ moved.1.0 ∷ []) moved.1.1 fit (part_begun statements n statement ran.each ran.state moved.1.0 moved.1.1 next ran.run moved.1.2);
          bytes = was;
        }

    -- or the text of its lines
    pub ended_after : (before held : Option (List ℕ)) (written : List Statement → List (List Reply) → List ℕ) → Appends before held (written (take n statements) ran.each)
        → (lines : List Line) → Moves stands mid world statement (λ names s t. Does names s statement lines t) → Ended stands world before held statements written
    ended_after before held written was lines goes = ended before held written was (λ names s h may. let moved = goes names s h may in (moved.0, (moved.1.replies, moved.0, moved.1.steps.0, inl refl), moved.2))

  -- it was done, and its lines were put
  pub one_more : (mid world : W) (before held now : Option (List ℕ)) (first second third : ℕ) (statements : List Statement) (fit : AllFit statements) (n : ℕ) (statement : Statement) (next : slice_get statements n ≡ Some statement)
      → IsRunning stands (names_in statements) mid before held first second (take n statements) → (lines : List Line) → Moves stands mid world statement (λ names s t. Does names s statement lines t)
      → Appends held now (text_of_all lines) → second ≤ third → IsRunning stands (names_in statements) world before now first third (take (n + 1) statements)
  unfolding one_ran
  one_more mid world before held now first second third statements fit n statement next running lines goes put later = record {
    ran = one_ran mid world statements fit n statement next running.ran lines goes;
    bytes = put_more mid world statements fit n statement next running.ran lines goes before held now running.bytes put;
    later = omega (arith, running.later, later);
  }
