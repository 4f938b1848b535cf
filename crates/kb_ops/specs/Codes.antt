-- A tree is data: how its parts are stored as numbers, lists and pairs.
use Rattle.std.specs.Prelude.{◌≡◌, ℕ, zero, suc, Bool, List, refl}
use Rattle.std.specs.Coded.{Coded, code_by, coded×, coded_ℕ, coded_bool, coded_list}
use Rattle.std.specs.FinMap as map
use Rattle.kb_name.specs.declared.ids.NodeId.{NodeId}
use Rattle.kb_ops.specs.declared.values.Kind.{Kind}
use Rattle.kb_ops.specs.declared.values.Kind.TheVariants.{Dir, File, Link}
use Rattle.kb_ops.specs.declared.rows.Row.{Row}
use Rattle.kb_ops.specs.Trees.{Tree}

abbrev pub coded_node : Coded NodeId
coded_node = code_by (ℕ × (ℕ × ℕ)) (coded× coded_ℕ (coded× coded_ℕ coded_ℕ)) (λ n. (n.device, (n.seq, n.part))) (λ p. record { device = p.0; seq = p.1.0; part = p.1.1 }) (λ _. refl)

abbrev pub kind_number : Kind → ℕ
kind_number Dir = 0
kind_number File = 1
kind_number Link = 2

abbrev pub kind_numbered : ℕ → Kind
kind_numbered zero = Dir
kind_numbered (suc zero) = File
kind_numbered (suc (suc n)) = Link

abbrev pub kind_again : (k : Kind) → kind_numbered (kind_number k) ≡ k
kind_again Dir = refl
kind_again File = refl
kind_again Link = refl

abbrev pub coded_kind : Coded Kind
coded_kind = code_by ℕ coded_ℕ kind_number kind_numbered kind_again

abbrev pub Stored : Type 0
Stored = NodeId × (NodeId × (List ℕ × (Kind × (List ℕ × (Bool × ℕ)))))

abbrev pub coded_row : Coded Row
coded_row = code_by Stored
    (coded× coded_node (coded× coded_node (coded× (coded_list coded_ℕ) (coded× coded_kind (coded× (coded_list coded_ℕ) (coded× coded_bool coded_ℕ))))))
    (λ r. (r.id, (r.parent, (r.name, (r.kind, (r.bytes, (r.exec, r.mtime)))))))
    (λ p. record { id = p.0; parent = p.1.0; name = p.1.1.0; kind = p.1.1.1.0; bytes = p.1.1.1.1.0; exec = p.1.1.1.1.1.0; mtime = p.1.1.1.1.1.1 })
    (λ _. refl)

abbrev pub coded_tree : Coded Tree
coded_tree = map.code coded_node coded_row
