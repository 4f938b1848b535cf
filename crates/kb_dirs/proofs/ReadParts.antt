-- Where a field further on is refused, the entry is.
use Rattle.std.proofs.Common.{◌≡◌, ℕ, ◌<◌, ◌≤◌, ◌^◌, Bool, true, false, List, ◌++◌, length, Result, Ok, Err, ap, sym, subst, ◌∙◌, append_assoc}
use Rattle.std.specs.Prelude.{IsErrAnd, ⊤}
use Rattle.kb_name.specs.declared.ids.NodeId.{NodeId}
use Rattle.kb_name.specs.Moments.{last_second}
use Rattle.kb_wire.specs.Fields.{u32_text, u64_text}
use Rattle.kb_ops.specs.declared.values.Kind.{Kind}
use Rattle.kb_ops.specs.Grammar.{node_text, name_text, kind_text, flag_text, IsNode}
use Rattle.kb_ops.proofs.Spelled.{four, eight, sized, names, nodes, kinds, flags}
use Rattle.kb_blocks.specs.declared.pointer.Ptr.{Ptr}
use Rattle.kb_files.specs.Files.{pointer, IsFit}
use Rattle.kb_dirs.specs.declared.entries.Entry.{Entry}
use Rattle.kb_dirs.specs.declared.faults.DirFault.{DirFault}
use Rattle.kb_dirs.specs.declared.faults.DirFault.TheVariants.{BadDir, Memory}
use Rattle.kb_dirs.specs.Dirs.{entry_text, is_plain, IsEntry}
use Rattle.kb_dirs.specs.Parses.{Parses, Refused}

-- a refusal that is passed on
pub passed : {X Y : Type 0} (value : Y → X) (text : X → List ℕ) (Is : X → Type 0) (old new : List ℕ) (r : Result Y DirFault) (e : DirFault) → IsErrAnd r (λ f. f ≡ e) → Refused text Is old e → Parses value text Is old new r
passed value text Is old new (Ok y) e h k = absurd h
passed value text Is old new (Err f) e h k = subst (Refused text Is old) (sym h) k

-- what the whole needs in front of the rest, no field gave
pub refused_by : {X Z : Type 0} (text : X → List ℕ) (Is : X → Type 0) (old : List ℕ) (field : Z → List ℕ) (IsField : Z → Type 0) (mid : List ℕ)
    → ((x : X) (rest : List ℕ) → Is x → old ≡ text x ++ rest → (z : Z) × (more : List ℕ) × IsField z × (mid ≡ field z ++ more))
    → (e : DirFault) → Refused field IsField mid e → Refused text Is old e
refused_by text Is old field IsField mid needs Memory r = tt
refused_by text Is old field IsField mid needs BadDir r = λ x rest is e. let h = needs x rest is e in r h.0 h.1 h.2 h.3

pub behind_id : (old id left : List ℕ) (p : Ptr) (rest : List ℕ) → IsFit p → length id ≡ 32 → old ≡ id ++ left → old ≡ pointer p ++ rest → left ≡ u32_text p.generation ++ rest
behind_id old id left p rest fit size read e =
    (sized id p.id left (u32_text p.generation ++ rest) (size ∙ sym fit.id) (sym read ∙ e ∙ append_assoc p.id (u32_text p.generation) rest)).1

-- ---- what stands behind each field of an entry

abbrev pub from_ptr : Entry → List ℕ → List ℕ
from_ptr e x = pointer e.ptr ++ x

abbrev pub from_size : Entry → List ℕ → List ℕ
from_size e x = u32_text e.size ++ from_ptr e x

abbrev pub from_mtime : Entry → List ℕ → List ℕ
from_mtime e x = u64_text e.mtime ++ from_size e x

abbrev pub from_exec : Entry → List ℕ → List ℕ
from_exec e x = flag_text e.exec ++ from_mtime e x

abbrev pub from_kind : Entry → List ℕ → List ℕ
from_kind e x = kind_text e.kind ++ from_exec e x

abbrev pub from_id : Entry → List ℕ → List ℕ
from_id e x = node_text e.id ++ from_kind e x

pub entry_in : (e : Entry) (x : List ℕ) → entry_text e ++ x ≡ name_text e.name ++ from_id e x
entry_in e x =
    append_assoc (name_text e.name) (node_text e.id ++ (kind_text e.kind ++ (flag_text e.exec ++ (u64_text e.mtime ++ (u32_text e.size ++ pointer e.ptr))))) x
    ∙ ap (λ t. name_text e.name ++ (node_text e.id ++ (kind_text e.kind ++ t))) (append_assoc (flag_text e.exec) (u64_text e.mtime ++ (u32_text e.size ++ pointer e.ptr)) x)

pub to_id : (old a n : List ℕ) → old ≡ name_text n ++ a → (e : Entry) (x : List ℕ) → old ≡ entry_text e ++ x → (n ≡ e.name) × (a ≡ from_id e x)
to_id old a n r e x w = names n e.name a (from_id e x) (sym r ∙ w ∙ entry_in e x)

pub to_kind : (old a b n : List ℕ) (i : NodeId) → old ≡ name_text n ++ a → IsNode i → a ≡ node_text i ++ b → (e : Entry) (x : List ℕ) → IsEntry e → old ≡ entry_text e ++ x → (i ≡ e.id) × (b ≡ from_kind e x)
to_kind old a b n i r node s e x is w = nodes i e.id b (from_kind e x) node is.node (sym s ∙ (to_id old a n r e x w).1)

pub to_exec : (old a b d n : List ℕ) (i : NodeId) (k : Kind) → old ≡ name_text n ++ a → IsNode i → a ≡ node_text i ++ b → b ≡ kind_text k ++ d → (e : Entry) (x : List ℕ) → IsEntry e → old ≡ entry_text e ++ x → (k ≡ e.kind) × (d ≡ from_exec e x)
to_exec old a b d n i k r node s t e x is w = kinds k e.kind d (from_exec e x) (sym t ∙ (to_kind old a b n i r node s e x is w).1)

pub to_mtime : (old a b d f n : List ℕ) (i : NodeId) (k : Kind) (o : Bool) → old ≡ name_text n ++ a → IsNode i → a ≡ node_text i ++ b → b ≡ kind_text k ++ d → d ≡ flag_text o ++ f
    → (e : Entry) (x : List ℕ) → IsEntry e → old ≡ entry_text e ++ x → (o ≡ e.exec) × (f ≡ from_mtime e x)
to_mtime old a b d f n i k o r node s t u e x is w = flags o e.exec f (from_mtime e x) (sym u ∙ (to_exec old a b d n i k r node s t e x is w).1)

pub to_size : (old a b d f g n : List ℕ) (i : NodeId) (k : Kind) (o : Bool) (m : ℕ) → old ≡ name_text n ++ a → IsNode i → a ≡ node_text i ++ b → b ≡ kind_text k ++ d → d ≡ flag_text o ++ f → m ≤ last_second → f ≡ u64_text m ++ g
    → (e : Entry) (x : List ℕ) → IsEntry e → old ≡ entry_text e ++ x → (m ≡ e.mtime) × (g ≡ from_size e x)
to_size old a b d f g n i k o m r node s t u timed v e x is w = eight m e.mtime g (from_size e x) timed is.timed (sym v ∙ (to_mtime old a b d f n i k o r node s t u e x is w).1)

pub to_ptr : (old a b d f g h n : List ℕ) (i : NodeId) (k : Kind) (o : Bool) (m z : ℕ) → old ≡ name_text n ++ a → IsNode i → a ≡ node_text i ++ b → b ≡ kind_text k ++ d → d ≡ flag_text o ++ f → m ≤ last_second → f ≡ u64_text m ++ g → z < 2 ^ 32 → g ≡ u32_text z ++ h
    → (e : Entry) (x : List ℕ) → IsEntry e → old ≡ entry_text e ++ x → (z ≡ e.size) × (h ≡ from_ptr e x)
to_ptr old a b d f g h n i k o m z r node s t u timed v room q e x is w = four z e.size h (from_ptr e x) room is.sized (sym q ∙ (to_size old a b d f g n i k o m r node s t u timed v e x is w).1)

-- ---- refusals

pub no_id : (old a n : List ℕ) → old ≡ name_text n ++ a → (e : DirFault) → Refused node_text IsNode a e → Refused entry_text IsEntry old e
no_id old a n r = refused_by entry_text IsEntry old node_text IsNode a (λ e x is w. (e.id, from_kind e x, is.node, (to_id old a n r e x w).1))

pub no_kind : (old a b n : List ℕ) (i : NodeId) → old ≡ name_text n ++ a → IsNode i → a ≡ node_text i ++ b → (e : DirFault) → Refused kind_text (λ _. ⊤) b e → Refused entry_text IsEntry old e
no_kind old a b n i r node s = refused_by entry_text IsEntry old kind_text (λ _. ⊤) b (λ e x is w. (e.kind, from_exec e x, tt, (to_kind old a b n i r node s e x is w).1))

pub no_exec : (old a b d n : List ℕ) (i : NodeId) (k : Kind) → old ≡ name_text n ++ a → IsNode i → a ≡ node_text i ++ b → b ≡ kind_text k ++ d → (e : DirFault) → Refused flag_text (λ _. ⊤) d e → Refused entry_text IsEntry old e
no_exec old a b d n i k r node s t = refused_by entry_text IsEntry old flag_text (λ _. ⊤) d (λ e x is w. (e.exec, from_mtime e x, tt, (to_exec old a b d n i k r node s t e x is w).1))

pub no_mtime : (old a b d f n : List ℕ) (i : NodeId) (k : Kind) (o : Bool) → old ≡ name_text n ++ a → IsNode i → a ≡ node_text i ++ b → b ≡ kind_text k ++ d → d ≡ flag_text o ++ f
    → (e : DirFault) → Refused u64_text (λ m. m ≤ last_second) f e → Refused entry_text IsEntry old e
no_mtime old a b d f n i k o r node s t u = refused_by entry_text IsEntry old u64_text (λ m. m ≤ last_second) f (λ e x is w. (e.mtime, from_size e x, is.timed, (to_mtime old a b d f n i k o r node s t u e x is w).1))

pub no_size : (old a b d f g n : List ℕ) (i : NodeId) (k : Kind) (o : Bool) (m : ℕ) → old ≡ name_text n ++ a → IsNode i → a ≡ node_text i ++ b → b ≡ kind_text k ++ d → d ≡ flag_text o ++ f → m ≤ last_second → f ≡ u64_text m ++ g
    → (e : DirFault) → Refused u32_text (λ z. z < 2 ^ 32) g e → Refused entry_text IsEntry old e
no_size old a b d f g n i k o m r node s t u timed v = refused_by entry_text IsEntry old u32_text (λ z. z < 2 ^ 32) g (λ e x is w. (e.size, from_ptr e x, is.sized, (to_size old a b d f g n i k o m r node s t u timed v e x is w).1))

pub no_ptr : (old a b d f g h n : List ℕ) (i : NodeId) (k : Kind) (o : Bool) (m z : ℕ) → old ≡ name_text n ++ a → IsNode i → a ≡ node_text i ++ b → b ≡ kind_text k ++ d → d ≡ flag_text o ++ f → m ≤ last_second → f ≡ u64_text m ++ g → z < 2 ^ 32 → g ≡ u32_text z ++ h
    → (e : DirFault) → Refused pointer IsFit h e → Refused entry_text IsEntry old e
no_ptr old a b d f g h n i k o m z r node s t u timed v room q = refused_by entry_text IsEntry old pointer IsFit h (λ e x is w. (e.ptr, x, is.fit, (to_ptr old a b d f g h n i k o m z r node s t u timed v room q e x is w).1))

pub not_plain : (old a b d f g h n : List ℕ) (i : NodeId) (k : Kind) (o : Bool) (m z : ℕ) → old ≡ name_text n ++ a → IsNode i → a ≡ node_text i ++ b → b ≡ kind_text k ++ d → d ≡ flag_text o ++ f → m ≤ last_second → f ≡ u64_text m ++ g → z < 2 ^ 32 → g ≡ u32_text z ++ h
    → is_plain k o z ≡ false → (e : Entry) (x : List ℕ) → IsEntry e → old ≡ entry_text e ++ x → ⊥
not_plain old a b d f g h n i k o m z r node s t u timed v room q never e x is w =
    let kind = (to_exec old a b d n i k r node s t e x is w).0 in
    let exec = (to_mtime old a b d f n i k o r node s t u e x is w).0 in
    let size = (to_ptr old a b d f g h n i k o m z r node s t u timed v room q e x is w).0 in
    let plain : is_plain k o z ≡ true = ap (λ (y : Kind). is_plain y o z) kind ∙ ap (λ (y : Bool). is_plain e.kind y z) exec ∙ ap (λ (y : ℕ). is_plain e.kind e.exec y) size ∙ is.proper.plain in
    let bad : true ≡ false = sym plain ∙ never in
    cc

-- ---- a whole entry

pub read_whole : (old a b d f g h j : List ℕ) (e : Entry) → old ≡ name_text e.name ++ a → a ≡ node_text e.id ++ b → b ≡ kind_text e.kind ++ d → d ≡ flag_text e.exec ++ f → f ≡ u64_text e.mtime ++ g → g ≡ u32_text e.size ++ h → h ≡ pointer e.ptr ++ j → old ≡ entry_text e ++ j
read_whole old a b d f g h j e r s t u v q p =
    r ∙ ap (λ y. name_text e.name ++ y) (s ∙ ap (λ y. node_text e.id ++ y) (t ∙ ap (λ y. kind_text e.kind ++ y) (u ∙ ap (λ y. flag_text e.exec ++ y) (v ∙ ap (λ y. u64_text e.mtime ++ y) (q ∙ ap (λ y. u32_text e.size ++ y) p)))))
    ∙ sym (entry_in e j)
