-- How the calls end in which nothing runs, and that they are complete.
use Rattle.std.proofs.Common.{◌≡◌, ◌≤◌, ◌+◌, Vec, Global, ℕ, false, List, [], length, take, min, Option, Some, None, Err, inl, inr, refl, sym, ap, ◌∙◌, subst, arith}
use Rattle.std.proofs.lemmas.List.{take_all}
use Rattle.std.proofs.Math.ListN.{length-take}
use Rattle.kb_edge.specs.Causes.{Rose}
use Rattle.kb_edge.specs.declared.disk.Disk.{Ghosts}
use Rattle.kb_script.specs.declared.statements.Statement.{Statement}
use Rattle.kb_script.specs.declared.faults.ScriptFault.{ScriptFault}
use Rattle.kb_script.specs.declared.faults.ScriptFault.TheVariants as fault
use Rattle.kb_script.specs.Scripts.{IsScript, ReadsScript}
use Rattle.kb_script.proofs.ScriptsRead.{one_reading}
use Rattle.kb_world.specs.Machine.{State, new_state}
use Rattle.kb_folder.specs.Chains.{Names}
use Rattle.kb_world.specs.Standing.{WorldStands}
use Rattle.kb_world.specs.declared.world.World.{World}
use Rattle.kb_top.specs.Inputs.{IsInput, HasFault, fault_text, TellsScript, TellsNoScript}
use Rattle.kb_top.specs.Outcomes.{NothingRan, RanWhole, RunsTo, OfScript, OfNoScript, Headline, IsTold, IsComplete}
use Rattle.kb_top.specs.declared.input.TheConstants.{SCRIPT_LIMIT}
use Rattle.kb_top.specs.declared.status.Status.{Status}
use Rattle.kb_top.specs.declared.status.Status.TheVariants.{Done, Usage, Script, ReadFault, WriteFault, Memory}
use Rattle.kb_top.proofs.Runs.{Appends-none}

-- nothing ran, and nothing was written
pub none_new : {M D : Type 0} {disks : Ghosts D} (world : World M D disks) (held : Option (List ℕ)) → ((names : Names) → WorldStands names world new_state) → NothingRan WorldStands world held held []
none_new world held h = record { stands_for = h; bytes = Appends-none held }

-- want of memory before anything ran
pub ended_new : {M D : Type 0} {disks : Ghosts D} (world : World M D disks) (held : Option (List ℕ)) → ((names : Names) → WorldStands names world new_state) → (source : Option (List ℕ)) → Headline WorldStands world held held source Memory
ended_new world held h source = inl (record { stands_for = h; bytes = Appends-none held })

-- that the bytes are no script was told, or a beginning of it, or memory ran out
told_headline : {M D : Type 0} {disks : Ghosts D} (world : World M D disks) (before now source : Option (List ℕ)) (bytes : List ℕ) (f : ScriptFault) (status : Status) → ((names : Names) → WorldStands names world new_state) → IsInput source bytes → HasFault bytes f
    → IsTold before now (fault_text f) status → Headline WorldStands world before now source status
told_headline world before now source bytes f Done h input has told = absurd told
told_headline world before now source bytes f Usage h input has told = absurd told
told_headline world before now source bytes f ReadFault h input has told = absurd told
told_headline world before now source bytes f Script h input has told = (bytes, f, input, has, record { stands_for = h; bytes = told })
told_headline world before now source bytes f WriteFault h input has told = inl (bytes, f, input, has, (told.0, record { stands_for = h; bytes = told.1 }))
told_headline world before now source bytes f Memory h input has told = inl (record { stands_for = h; bytes = told })

pub tells_headline : {M D : Type 0} {disks : Ghosts D} (world : World M D disks) (before now source : Option (List ℕ)) (bytes text : List ℕ) (f : ScriptFault) (status : Status) → ((names : Names) → WorldStands names world new_state) → IsInput source bytes → text ≡ bytes
    → ReadsScript {X = Vec Statement Global} (λ v. v.items) false text (Err f) → IsTold before now (fault_text f) status → (f ≡ fault.Memory → status ≡ Memory) → Headline WorldStands world before now source status
tells_headline world before now source bytes text fault.TooLong status h input same has told memory =
    told_headline world before now source bytes fault.TooLong status h input (subst (λ l. HasFault l fault.TooLong) same has) told
tells_headline world before now source bytes text (fault.BadLine line why) status h input same has told memory =
    told_headline world before now source bytes (fault.BadLine line why) status h input (subst (λ l. HasFault l (fault.BadLine line why)) same has) told
tells_headline world before now source bytes text fault.Memory status h input same has told memory =
    let none : IsTold before now [] Memory = subst (IsTold before now []) (memory refl) told in
    subst (λ s. Headline WorldStands world before now source s) (sym (memory refl)) (inl (record { stands_for = h; bytes = none }))

-- a run of the source's script
run_headline : {W : Type 0} (stands : Names → W → State → Type 0) (world : W) (before now source : Option (List ℕ)) (bytes : List ℕ) (statements : List Statement) (status : Status) → IsInput source bytes → IsScript false bytes statements
    → RunsTo stands world before now statements status → Headline stands world before now source status
run_headline stands world before now source bytes statements Done input is runs = (bytes, statements, input, is, runs)
run_headline stands world before now source bytes statements Memory input is runs = inr (bytes, statements, input, is, runs)
run_headline stands world before now source bytes statements WriteFault input is runs = inr (bytes, statements, input, is, runs)
run_headline stands world before now source bytes statements Usage input is runs = absurd runs
run_headline stands world before now source bytes statements Script input is runs = absurd runs
run_headline stands world before now source bytes statements ReadFault input is runs = absurd runs

pub ran_headline : {W : Type 0} (stands : Names → W → State → Type 0) (world : W) (before now source : Option (List ℕ)) (bytes text : List ℕ) (statements some : List Statement) (status : Status) → IsInput source bytes → text ≡ bytes → some ≡ statements
    → IsScript false text statements → RunsTo stands world before now some status → Headline stands world before now source status
ran_headline stands world before now source bytes text statements some status input same all is runs =
    run_headline stands world before now source bytes statements status input (subst (λ l. IsScript false l statements) same is) (subst (λ l. RunsTo stands world before now l status) all runs)

pub told_not_read : (before now : Option (List ℕ)) (text : List ℕ) (status : Status) (P : Type 0) → IsTold before now text status → status ≡ ReadFault → P
told_not_read before now text Done P told e = absurd told
told_not_read before now text Usage P told e = absurd told
told_not_read before now text ReadFault P told e = absurd told
told_not_read before now text Script P told e = cc
told_not_read before now text WriteFault P told e = cc
told_not_read before now text Memory P told e = cc

-- the input of a source that tells a script is that script
input_whole : (all bytes : List ℕ) → IsInput (Some all) bytes → length all ≤ 1048576 → bytes ≡ all
input_whole all bytes input short = input ∙ take_all (SCRIPT_LIMIT + 1) all (omega arith)

not_both : (bytes : List ℕ) (statements : List Statement) (f : ScriptFault) → IsScript false bytes statements → HasFault bytes f → ⊥
not_both bytes statements fault.TooLong is has = (let s = is.short in absurd (omega arith))
not_both bytes statements (fault.BadLine line why) is has = (one_reading false bytes).not_both statements line why is has
not_both bytes statements fault.Memory is has = has

refused : {W : Type 0} (stands : Names → W → State → Type 0) (world : W) (before now source : Option (List ℕ)) (P : List ℕ → Type 0) → OfNoScript stands world before now source P → TellsScript source → ⊥
refused stands world before now None P h tells = tells
refused stands world before now (Some all) P h tells =
    let same : h.0 ≡ all = input_whole all h.0 h.2 tells.1.short in
    not_both all tells.0 h.1 tells.1 (subst (λ bytes. HasFault bytes h.1) same h.3)

short_whole : (all bytes : List ℕ) → bytes ≡ take (SCRIPT_LIMIT + 1) all → length bytes ≤ 1048576 → bytes ≡ all
short_whole all bytes input short =
    let size : length bytes ≡ min (SCRIPT_LIMIT + 1) (length all) = ap length input ∙ length-take (SCRIPT_LIMIT + 1) all in
    input ∙ take_all (SCRIPT_LIMIT + 1) all (omega arith)

taken : {W : Type 0} (stands : Names → W → State → Type 0) (world : W) (before now source : Option (List ℕ)) (P : List Statement → Type 0) → OfScript stands world before now source P → TellsNoScript source → ⊥
taken stands world before now None P h tells = tells
taken stands world before now (Some all) P h tells =
    tells h.1 (subst (λ bytes. IsScript false bytes h.1) (short_whole all h.0 h.2 h.3.short) h.3)

-- a call is complete, since every other end has a cause
pub complete : {W : Type 0} (stands : Names → W → State → Type 0) (world : W) (before now source : Option (List ℕ)) (read_before read_now put_before put_now : ℕ) (status : Status)
    → Headline stands world before now source status → (status ≡ ReadFault → Rose read_before read_now) → (status ≡ WriteFault → Rose put_before put_now)
    → IsComplete source read_before read_now put_before put_now status
complete stands world before now source rb rn pb pn Done h read write = record { runs = λ r p tells. inl refl; tells = λ r p tells. absurd (taken stands world before now source (λ statements. RanWhole stands world before now statements) h tells) }
complete stands world before now source rb rn pb pn Memory h read write = record { runs = λ r p tells. inr refl; tells = λ r p tells. inr refl }
complete stands world before now source rb rn pb pn Script h read write = record { runs = λ r p tells. absurd (refused stands world before now source (λ text. NothingRan stands world before now text) h tells); tells = λ r p tells. inl refl }
complete stands world before now source rb rn pb pn ReadFault h read write = record { runs = λ r p tells. absurd (r (read refl)); tells = λ r p tells. absurd (r (read refl)) }
complete stands world before now source rb rn pb pn WriteFault h read write = record { runs = λ r p tells. absurd (p (write refl)); tells = λ r p tells. absurd (p (write refl)) }
complete stands world before now source rb rn pb pn Usage h read write = absurd h
