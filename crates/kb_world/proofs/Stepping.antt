-- What a statement that may be done asks of the world.
use Rattle.std.proofs.Common.{◌≡◌, ℕ, Bool, List, length, [], ◌∷◌, ◌++◌, Vec, Global, Result, Ok, Err, IfOk, OnErr, refl, sym, ap, ◌∙◌, subst, append-nil}
use Rattle.kb_edge.specs.declared.disk.Disk.{Ghosts}
use Rattle.kb_script.specs.declared.statements.Statement as script
use Rattle.kb_script.specs.declared.statements.Statement.TheVariants as said
use Rattle.kb_lines.specs.declared.lines.Line.{Line}
use Rattle.kb_world.specs.Statements as statements
use Rattle.kb_world.specs.Machine.{State, Ends}
use Rattle.kb_folder.specs.Chains.{Names}
use Rattle.kb_world.specs.Standing.{WorldStands, IsStanding, device_count}
use Rattle.kb_world.specs.Spoken.{statement_of, device_of}
use Rattle.kb_world.specs.Printed.{printed, all_printed}
use Rattle.kb_world.specs.Doing.{MayDo, IsOneOf, Does, DoesOn, GoesOn, Flushes}
use Rattle.kb_world.proofs.Rounds.{as_given, lacks_first}
use Rattle.kb_world.specs.declared.world.World.{World}

abbrev pub Asks : {M D : Type 0} {disks : Ghosts D} → World M D disks → script.Statement → Type 0
Asks w given = (names : Names) × (s : State) × WorldStands names w s × MayDo names s given

module _ {M D : Type 0} {disks : Ghosts D} (w : World M D disks) (given statement : script.Statement) (is : given ≡ statement) (asks : Asks w given) where
  pub stands_then : IsStanding w
  stands_then = (asks.0, asks.1, asks.2)

  pub may_then : MayDo asks.0 asks.1 statement
  may_then = subst (λ st. MayDo asks.0 asks.1 st) is asks.3

  pub declared_then : (d : ℕ) → (MayDo asks.0 asks.1 statement → IsOneOf (length asks.1.members) d) → IsOneOf (device_count w) d
  declared_then d one = subst (λ n. IsOneOf n d) (sym asks.2.count) (one may_then)

module _ {M D : Type 0} {disks : Ghosts D} (w v : World M D disks) (given : script.Statement) where
  pub along_ends : (statement : script.Statement) → given ≡ statement → GoesOn w v (λ names s t. Ends s (statement_of statement) t) → DoesOn w v given (λ names s t. Ends s (statement_of given) t)
  along_ends statement is goes = as_given w v given statement is (λ st names s t. Ends s (statement_of st) t) (λ names s h may. goes names s h)

  pub flush_does : (d : ℕ) → given ≡ said.Flush d → (noted : Bool) (old new : List Line) → old ≡ [] → GoesOn w v (λ names s t. Flushes names d s noted old new t) → DoesOn w v given (λ names s t. Does names s given new t)
  flush_does d is noted old new none goes = as_given w v given (said.Flush d) is (λ st names s t. Does names s st new t) (λ names s h may.
      let to = goes names s h in
      let flush = to.1 in (
        to.0,
        record {
          replies = flush.replies;
          steps = flush.steps;
          lines_are = flush.lines_are ∙ ap (λ l. l ++ all_printed names d flush.replies) none;
        },
        to.2,
      ))

  pub drain_does : (d : ℕ) → given ≡ said.Drain d → {E : Type 0} (r : Result (Vec Line Global) E) → IfOk r (λ lines. GoesOn w v (λ names s t. Does names s (said.Drain d) lines.items t)) → IfOk r (λ lines. DoesOn w v given (λ names s t. Does names s given lines.items t))
  drain_does d is (Ok lines) goes = as_given w v given (said.Drain d) is (λ st names s t. Does names s st lines.items t) (λ names s h may. goes names s h)
  drain_does d is (Err e) goes = goes

  pub drain_ends : (d : ℕ) → given ≡ said.Drain d → {T E : Type 0} (r : Result T E) → OnErr r (GoesOn w v (λ names s t. Ends s (statements.Drain d) t)) → OnErr r (DoesOn w v given (λ names s t. Ends s (statement_of given) t))
  drain_ends d is (Ok lines) goes = goes
  drain_ends d is (Err e) goes = along_ends (said.Drain d) is goes

  pub resolve_does : (d : ℕ) → given ≡ said.Resolve d → {E : Type 0} (r : Result (Vec Line Global) E) → IfOk r (λ lines. GoesOn w v (λ names s t. Does names s (said.Resolve d) lines.items t)) → IfOk r (λ lines. DoesOn w v given (λ names s t. Does names s given lines.items t))
  resolve_does d is (Ok lines) goes = as_given w v given (said.Resolve d) is (λ st names s t. Does names s st lines.items t) (λ names s h may. goes names s h)
  resolve_does d is (Err e) goes = goes

  pub resolve_ends : (d : ℕ) → given ≡ said.Resolve d → {T E : Type 0} (r : Result T E) → OnErr r (GoesOn w v (λ names s t. Ends s (statements.Resolve d) t)) → OnErr r (DoesOn w v given (λ names s t. Ends s (statement_of given) t))
  resolve_ends d is (Ok lines) goes = goes
  resolve_ends d is (Err e) goes = along_ends (said.Resolve d) is goes

module _ {M D : Type 0} {disks : Ghosts D} (w : World M D disks) (given : script.Statement) where
  pub folder_does : given ≡ said.Folder → {E : Type 0} (r : Result (Vec Line Global) E) → IfOk r (λ lines. (names : Names) (s : State) → WorldStands names w s → lines.items ≡ printed names 0 (statements.Lists s.chain)) → IfOk r (λ lines. DoesOn w w given (λ names s t. Does names s given lines.items t))
  folder_does is (Ok lines) lists = as_given w w given said.Folder is (λ st names s t. Does names s st lines.items t) (λ names s h may. (
    s,
    record {
      replies = statements.Lists s.chain ∷ [];
      steps = ((statements.ListChain, s, refl, (refl, refl), refl), refl);
      lines_are = lists names s h ∙ sym (append-nil (printed names 0 (statements.Lists s.chain)));
    },
    h,
  ))
  folder_does is (Err e) lists = lists

  pub folder_ends : {T E : Type 0} (r : Result T E) → OnErr r (DoesOn w w given (λ names s t. Ends s (statement_of given) t))
  folder_ends (Ok lines) = tt
  folder_ends (Err e) = λ names s h may. (s, lacks_first (statement_of given) s s refl, h)
