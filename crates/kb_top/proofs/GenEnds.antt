-- How a call ends that runs generated statements.
use Rattle.std.proofs.Common.{◌≡◌, ◌≤◌, ◌+◌, ℕ, false, List, [], ◌++◌, length, take, Option, None, inl, inr, refl, sym, ap, ◌∙◌, subst, arith}
use Rattle.std.specs.Prelude.{codes}
use Rattle.std.specs.Io.KnownBytes.{Appends}
use Rattle.kb_edge.specs.declared.disk.Disk.{Ghosts}
use Rattle.kb_script.specs.declared.statements.Statement.{Statement}
use Rattle.kb_script.specs.Fit.{AllFit}
use Rattle.kb_gen.specs.Generated.{generated, laptop, phone, files, ending}
use Rattle.kb_folder.specs.Chains.{Names}
use Rattle.kb_world.specs.Statements.{Reply}
use Rattle.kb_world.specs.Machine.{State, new_state, Run}
use Rattle.kb_world.specs.Standing.{WorldStands, device_count}
use Rattle.kb_world.specs.declared.world.World.{World}
use Rattle.kb_top.specs.Replies.{names_in, plain}
use Rattle.kb_top.specs.Summaries.{summary, summary_of, laptop_rows, names_given}
use Rattle.kb_top.specs.Outcomes.{NothingRan, Ran, Ended, GenEnd}
use Rattle.kb_top.specs.declared.status.Status.{Status}
use Rattle.kb_top.specs.declared.status.Status.TheVariants.{Done, Usage, Script, ReadFault, WriteFault, Memory}
use Rattle.kb_top.proofs.Fits.{declared_after_all, all_after, declared_grows}
use Rattle.kb_top.proofs.Runs.{Appends-none, ran_still, ended_still}
use Rattle.kb_top.proofs.Ends.{none_new}

-- ---- the laptop is declared

two_declared : (number : ℕ) → 2 ≤ declared_after_all 0 (generated number)
two_declared number = declared_grows 2 (files laptop (codes "l") number ++ files phone (codes "p") number ++ ending)

pub laptop_declared : {M D : Type 0} {disks : Ghosts D} (names : Names) (world : World M D disks) (s : State) (number : ℕ) (each : List (List Reply)) → AllFit (generated number) → WorldStands names world s → Run new_state (plain (generated number)) each s → 1 ≤ device_count world
laptop_declared names world s number each fit stands run =
    let after = all_after 0 false (generated number) each new_state s fit (refl, λ none. refl) run in
    let two = two_declared number in
    omega (arith, after.0, stands.count, two)

-- ---- the ends

module _ {M D : Type 0} {disks : Ghosts D} (number : ℕ) where
  pub gen_nothing : (world : World M D disks) (held : Option (List ℕ)) → ((names : Names) → WorldStands names world new_state) → GenEnd WorldStands world held held number Memory
  gen_nothing world held new = inl (none_new world held new)

  pub gen_ended : (world : World M D disks) (held : Option (List ℕ)) → Ended WorldStands world None None (generated number) (λ first each. []) → GenEnd WorldStands world held held number Memory
  gen_ended world held ended = inr (inl (ended_still WorldStands world None None held held (generated number) (λ first each. []) (λ first each. []) ended (Appends-none held)))

  module _ (old new : World M D disks) (n : ℕ) (untold : (ran : Ran WorldStands old None None (generated number) (λ state each. [])) × (n ≡ names_given ran.each))
      (stays : (under : Names) (s : State) → WorldStands under old s → WorldStands under new s) where
    abbrev names : Names
    names = names_in (generated number)

    still : WorldStands names new untold.0.state
    still = stays names untold.0.state untold.0.stands_for

    pub gen_untold : (held : Option (List ℕ)) → GenEnd WorldStands new held held number Memory
    gen_untold held = inr (inr (ran_still WorldStands old new None None held held (generated number) (λ state each. []) (λ state each. []) untold.0 still (Appends-none held)))

    module _ (before now : Option (List ℕ)) (text : List ℕ) (tells : (under : Names) (s : State) → WorldStands under old s → text ≡ summary_of number (length s.chain) (laptop_rows s) n) where
      is : text ≡ summary number untold.0.state untold.0.each
      is = tells names untold.0.state untold.0.stands_for ∙ ap (λ m. summary_of number (length untold.0.state.chain) (laptop_rows untold.0.state) m) untold.1

      pub gen_put : Appends before now text → GenEnd WorldStands new before now number Done
      gen_put put = ran_still WorldStands old new None None before now (generated number) (λ state each. []) (summary number) untold.0 still (subst (λ l. Appends before now l) is put)

      pub gen_cut : (count : ℕ) → Appends before now (take count text) → GenEnd WorldStands new before now number WriteFault
      gen_cut count put = (count, ran_still WorldStands old new None None before now (generated number) (λ state each. []) (λ state each. take count (summary number state each)) untold.0 still (subst (λ l. Appends before now (take count l)) is put))

-- it never ends in a failed source
pub gen_not_read : {W : Type 0} (stands : Names → W → State → Type 0) (world : W) (before now : Option (List ℕ)) (number : ℕ) (status : Status) (P : Type 0) → GenEnd stands world before now number status → status ≡ ReadFault → P
gen_not_read stands world before now number Done P h e = cc
gen_not_read stands world before now number Usage P h e = absurd h
gen_not_read stands world before now number ReadFault P h e = absurd h
gen_not_read stands world before now number Script P h e = absurd h
gen_not_read stands world before now number WriteFault P h e = cc
gen_not_read stands world before now number Memory P h e = cc
