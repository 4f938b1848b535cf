-- A queue in memory: its items, and for how many more it has room.
use Rattle.std.specs.Prelude.{ℕ, List, refl}
use Rattle.std.specs.Coded.{Coded, code_by, coded×, coded_ℕ, coded_list}

pub record Queued (T : Type 0) : Type 0 where
  pub items : List T
  pub room : ℕ

-- it is stored as the pair of its fields
abbrev pub queued_code : {T : Type 0} → Coded T → Coded (Queued T)
queued_code {T} code = code_by (List T × ℕ) (coded× (coded_list code) coded_ℕ) (λ q. (q.items, q.room)) (λ p. record { items = p.0; room = p.1 }) (λ _. refl)
