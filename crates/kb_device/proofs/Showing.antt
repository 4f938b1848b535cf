-- What a session shows is of the kind that was asked for.
use Rattle.std.proofs.Common.{◌≡◌, ℕ, List, Option, Result, Ok, Err, IfOk, subst}
use Rattle.kb_ops.specs.declared.rows.Row.{Row}
use Rattle.kb_ops.specs.Trees.{Tree}
use Rattle.kb_ops.specs.Plan.{◌>>=◌}
use Rattle.kb_ops.specs.declared.requests.Show.{Show}
use Rattle.kb_ops.specs.declared.requests.Show.TheVariants as asks
use Rattle.kb_ops.specs.declared.requests.Shown.{Shown}
use Rattle.kb_ops.specs.declared.requests.Shown.TheVariants as shown
use Rattle.kb_apply.specs.declared.shows.ShowFault.{ShowFault}
use Rattle.kb_apply.specs.Shows.{row_at, bytes_of, children_of, rows_of, shown_of}
use Rattle.kb_device.specs.Telling.{IsShown, IsShownFor}
use Rattle.kb_device.specs.declared.called.LookFault.{LookFault}

-- what is made of what was found is of this kind
made_of : {A : Type 0} (P : Shown → Type 0) (make : A → Shown) → ((x : A) → P (make x)) → (r : Result A ShowFault) (x : Shown) → (r >>= λ (y : A). Ok (make y)) ≡ Ok x → P x
made_of P make h (Ok y) x is = let same : Ok (make y) ≡ Ok x = is in let made : make y ≡ x = cc same in subst P made (h y)
made_of P make h (Err e) x is = let bad : Err e ≡ Ok x = is in absurd (cc bad)

found_of : {A : Type 0} (P : Shown → Type 0) (get : Row → Result A ShowFault) (make : A → Shown) → ((x : A) → P (make x)) → (r : Result Row ShowFault) (x : Shown) → (r >>= λ (row : Row). get row >>= λ (y : A). Ok (make y)) ≡ Ok x → P x
found_of P get make h (Ok row) x is = made_of P make h (get row) x is
found_of P get make h (Err e) x is = let bad : Err e ≡ Ok x = is in absurd (cc bad)

shown_kind : (t : Tree) (show : Show) (at queue : ℕ) (x : Shown) → shown_of t show at queue ≡ Ok x → IsShownFor show x
shown_kind t (asks.Cat path range) at queue x is = found_of (IsShownFor (asks.Cat path range)) (bytes_of range) (λ b. shown.Cat b) (λ b. tt) (row_at t path) x is
shown_kind t (asks.Ls path) at queue x is = found_of (IsShownFor (asks.Ls path)) (children_of t) (λ rows. shown.Ls rows) (λ rows. tt) (row_at t path) x is
shown_kind t asks.Tree at queue x is = let same : Ok (shown.Tree at queue (rows_of t)) ≡ Ok x = is in let made : shown.Tree at queue (rows_of t) ≡ x = cc same in subst (IsShownFor asks.Tree) made tt
shown_kind t (asks.Stat path) at queue x is = made_of (IsShownFor (asks.Stat path)) (λ r. shown.Stat r) (λ r. tt) (row_at t path) x is

pub shows_kind : (t : Tree) (show : Show) (at queue : ℕ) (r : Result Shown LookFault) → IsShown (shown_of t show at queue) r → IfOk r (IsShownFor show)
shows_kind t show at queue (Ok x) is = shown_kind t show at queue x is
shows_kind t show at queue (Err e) is = tt
