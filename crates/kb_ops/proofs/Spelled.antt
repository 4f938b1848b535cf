-- One text is that of one field, and of one operation, also with more behind it.
use Rattle.std.proofs.Common.{◌≡◌, ℕ, ◌<◌, ◌≤◌, ◌^◌, Bool, true, false, List, [], ◌∷◌, ◌++◌, length, Option, Some, None, refl, ap, sym, ◌∙◌, arith, append_assoc, append-nil, Result, Ok, Err, IfOk}
use Rattle.kb_name.specs.declared.ids.NodeId.{NodeId}
use Rattle.kb_name.specs.Moments.{last_second}
use Rattle.kb_wire.specs.Fields.{u16_text, u32_text, u64_text}
use Rattle.kb_wire.proofs.Fronts.{same_front, same_rest, same_u16, same_u32, same_u64}
use Rattle.kb_ops.specs.declared.values.Kind.{Kind}
use Rattle.kb_ops.specs.declared.faults.OpFault.{OpFault}
use Rattle.kb_ops.specs.declared.faults.OpFault.TheVariants.{BadOp, Memory}
use Rattle.kb_ops.specs.declared.rows.Op.{Op}
use Rattle.kb_ops.specs.declared.rows.Change.{Change}
use Rattle.kb_ops.specs.declared.rows.Change.TheVariants.{Create, Remove, Rename, Sync, Exec, Touch}
use Rattle.kb_ops.specs.Codes.{kind_number, kind_numbered, kind_again}
use Rattle.kb_ops.specs.Trees.{IsWrite}
use Rattle.kb_ops.specs.Grammar.{node_text, name_text, bytes_text, kind_text, flag_text, replaced_text, tag_of, fields_text, change_text, op_text, IsNode, MayBeNode, IsChange, IsOp, IsNoOp, ReadsBack}

pub two : (a b : ℕ) (x y : List ℕ) → a < 2 ^ 16 → b < 2 ^ 16 → u16_text a ++ x ≡ u16_text b ++ y → (a ≡ b) × (x ≡ y)
two a b x y f g e = (same_u16 a b f g (same_front (u16_text a) (u16_text b) x y refl e), same_rest (u16_text a) (u16_text b) x y refl e)

pub four : (a b : ℕ) (x y : List ℕ) → a < 2 ^ 32 → b < 2 ^ 32 → u32_text a ++ x ≡ u32_text b ++ y → (a ≡ b) × (x ≡ y)
four a b x y f g e = (same_u32 a b f g (same_front (u32_text a) (u32_text b) x y refl e), same_rest (u32_text a) (u32_text b) x y refl e)

pub timed : (m : ℕ) → m ≤ last_second → m < 2 ^ 64
timed m h = omega arith

pub eight : (a b : ℕ) (x y : List ℕ) → a ≤ last_second → b ≤ last_second → u64_text a ++ x ≡ u64_text b ++ y → (a ≡ b) × (x ≡ y)
eight a b x y f g e = (same_u64 a b (timed a f) (timed b g) (same_front (u64_text a) (u64_text b) x y refl e), same_rest (u64_text a) (u64_text b) x y refl e)

pub heads : (a b : ℕ) (x y : List ℕ) → a ∷ x ≡ b ∷ y → (a ≡ b) × (x ≡ y)
heads a b x y e = (cc, cc)

pub sized : (a b x y : List ℕ) → length a ≡ length b → a ++ x ≡ b ++ y → (a ≡ b) × (x ≡ y)
sized a b x y l e = (same_front a b x y l e, same_rest a b x y l e)

pub names : (m n x y : List ℕ) → name_text m ++ x ≡ name_text n ++ y → (m ≡ n) × (x ≡ y)
names m n x y e = let both = heads (length m) (length n) (m ++ x) (n ++ y) e in sized m n x y both.0 both.1

pub bytes_in : (b x : List ℕ) → bytes_text b ++ x ≡ u32_text (length b) ++ (b ++ x)
bytes_in b x = append_assoc (u32_text (length b)) b x

pub many : (a b x y : List ℕ) → length a < 2 ^ 32 → length b < 2 ^ 32 → bytes_text a ++ x ≡ bytes_text b ++ y → (a ≡ b) × (x ≡ y)
many a b x y f g e =
    let both = four (length a) (length b) (a ++ x) (b ++ y) f g (sym (bytes_in a x) ∙ e ∙ bytes_in b y) in
    sized a b x y both.0 both.1

same_id : (a b : NodeId) → a.device ≡ b.device → a.seq ≡ b.seq → a.part ≡ b.part → a ≡ b
same_id a b d s p = λ i. record { device = d i; seq = s i; part = p i }

pub node_in : (n : NodeId) (x : List ℕ) → node_text n ++ x ≡ u16_text n.device ++ (u32_text n.seq ++ (u16_text n.part ++ x))
node_in n x = refl

pub nodes : (a b : NodeId) (x y : List ℕ) → IsNode a → IsNode b → node_text a ++ x ≡ node_text b ++ y → (a ≡ b) × (x ≡ y)
nodes a b x y f g e =
    let d = two a.device b.device (u32_text a.seq ++ (u16_text a.part ++ x)) (u32_text b.seq ++ (u16_text b.part ++ y)) f.device g.device e in
    let s = four a.seq b.seq (u16_text a.part ++ x) (u16_text b.part ++ y) f.seq g.seq d.1 in
    let p = two a.part b.part x y f.part g.part s.1 in
    (same_id a b d.0 s.0 p.0, p.1)

pub kinds : (a b : Kind) (x y : List ℕ) → kind_text a ++ x ≡ kind_text b ++ y → (a ≡ b) × (x ≡ y)
kinds a b x y e = let both = heads (kind_number a) (kind_number b) x y e in (sym (kind_again a) ∙ ap kind_numbered both.0 ∙ kind_again b, both.1)

pub flags : (a b : Bool) (x y : List ℕ) → flag_text a ++ x ≡ flag_text b ++ y → (a ≡ b) × (x ≡ y)
flags true true x y e = (refl, (heads 1 1 x y e).1)
flags false false x y e = (refl, (heads 0 0 x y e).1)
flags true false x y e = cc
flags false true x y e = cc

pub replacements : (a b : Option NodeId) (x y : List ℕ) → MayBeNode a → MayBeNode b → replaced_text a ++ x ≡ replaced_text b ++ y → (a ≡ b) × (x ≡ y)
replacements None None x y f g e = (refl, (heads 0 0 x y e).1)
replacements (Some a) (Some b) x y f g e = let n = nodes a b x y f g (heads 1 1 (node_text a ++ x) (node_text b ++ y) e).1 in (ap (λ (k : NodeId). Some k) n.0, n.1)
replacements None (Some b) x y f g e = cc
replacements (Some a) None x y f g e = cc

-- ---- what stands behind a tag, field by field

pub create_in : (parent : NodeId) (name : List ℕ) (kind : Kind) (bytes x : List ℕ) → fields_text (Create parent name kind bytes) ++ x ≡ node_text parent ++ (name_text name ++ (kind_text kind ++ (bytes_text bytes ++ x)))
create_in parent name kind bytes x =
    append_assoc (node_text parent) (name_text name ++ (kind_text kind ++ bytes_text bytes)) x
    ∙ ap (λ t. node_text parent ++ t) (append_assoc (name_text name) (kind_text kind ++ bytes_text bytes) x ∙ ap (λ t. name_text name ++ t) (append_assoc (kind_text kind) (bytes_text bytes) x))

pub rename_in : (node parent : NodeId) (name : List ℕ) (replaced : Option NodeId) (x : List ℕ) → fields_text (Rename node parent name replaced) ++ x ≡ node_text node ++ (node_text parent ++ (name_text name ++ (replaced_text replaced ++ x)))
rename_in node parent name replaced x =
    append_assoc (node_text node) (node_text parent ++ (name_text name ++ replaced_text replaced)) x
    ∙ ap (λ t. node_text node ++ t) (append_assoc (node_text parent) (name_text name ++ replaced_text replaced) x ∙ ap (λ t. node_text parent ++ t) (append_assoc (name_text name) (replaced_text replaced) x))

pub sync_in : (node : NodeId) (offset : ℕ) (bytes : List ℕ) (size : ℕ) (x : List ℕ) → fields_text (Sync node offset bytes size) ++ x ≡ node_text node ++ (u32_text offset ++ (bytes_text bytes ++ (u32_text size ++ x)))
sync_in node offset bytes size x =
    append_assoc (node_text node) (u32_text offset ++ (bytes_text bytes ++ u32_text size)) x
    ∙ ap (λ t. node_text node ++ t) (append_assoc (u32_text offset) (bytes_text bytes ++ u32_text size) x ∙ ap (λ t. u32_text offset ++ t) (append_assoc (bytes_text bytes) (u32_text size) x))

pub few_small : (bytes : List ℕ) → length bytes ≤ 1024 → length bytes < 2 ^ 32
few_small bytes h = omega arith

pub write_small : (offset : ℕ) (bytes : List ℕ) (size : ℕ) → IsWrite offset bytes size → (offset < 2 ^ 32) × (length bytes < 2 ^ 32) × (size < 2 ^ 32)
write_small offset bytes size w = (omega (arith, w.within, w.small), omega (arith, w.few), omega (arith, w.small))

-- ---- changes and operations

tags : (a b : Change) (x y : List ℕ) → change_text a ++ x ≡ change_text b ++ y → (tag_of a ≡ tag_of b) × (fields_text a ++ x ≡ fields_text b ++ y)
tags a b x y e = heads (tag_of a) (tag_of b) (fields_text a ++ x) (fields_text b ++ y) e

pub changes : (a b : Change) (x y : List ℕ) → IsChange a → IsChange b → change_text a ++ x ≡ change_text b ++ y → (a ≡ b) × (x ≡ y)
changes (Create p n k t) (Create p' n' k' t') x y f g e =
    let first = nodes p p' (name_text n ++ (kind_text k ++ (bytes_text t ++ x))) (name_text n' ++ (kind_text k' ++ (bytes_text t' ++ y))) f.0 g.0 (sym (create_in p n k t x) ∙ (tags (Create p n k t) (Create p' n' k' t') x y e).1 ∙ create_in p' n' k' t' y) in
    let second = names n n' (kind_text k ++ (bytes_text t ++ x)) (kind_text k' ++ (bytes_text t' ++ y)) first.1 in
    let third = kinds k k' (bytes_text t ++ x) (bytes_text t' ++ y) second.1 in
    let fourth = many t t' x y (few_small t f.1.1.few) (few_small t' g.1.1.few) third.1 in
    (λ i. Create (first.0 i) (second.0 i) (third.0 i) (fourth.0 i), fourth.1)
changes (Create p n k t) b x y f g e = absurd (omega (arith, (tags (Create p n k t) b x y e).0))
changes (Remove q) (Remove q') x y f g e = let first = nodes q q' x y f.0 g.0 (tags (Remove q) (Remove q') x y e).1 in (λ i. Remove (first.0 i), first.1)
changes (Remove q) b x y f g e = absurd (omega (arith, (tags (Remove q) b x y e).0))
changes (Rename q p n r) (Rename q' p' n' r') x y f g e =
    let first = nodes q q' (node_text p ++ (name_text n ++ (replaced_text r ++ x))) (node_text p' ++ (name_text n' ++ (replaced_text r' ++ y))) f.0.0 g.0.0 (sym (rename_in q p n r x) ∙ (tags (Rename q p n r) (Rename q' p' n' r') x y e).1 ∙ rename_in q' p' n' r' y) in
    let second = nodes p p' (name_text n ++ (replaced_text r ++ x)) (name_text n' ++ (replaced_text r' ++ y)) f.0.1 g.0.1 first.1 in
    let third = names n n' (replaced_text r ++ x) (replaced_text r' ++ y) second.1 in
    let fourth = replacements r r' x y f.0.2 g.0.2 third.1 in
    (λ i. Rename (first.0 i) (second.0 i) (third.0 i) (fourth.0 i), fourth.1)
changes (Rename q p n r) b x y f g e = absurd (omega (arith, (tags (Rename q p n r) b x y e).0))
changes (Sync q o t s) (Sync q' o' t' s') x y f g e =
    let room = write_small o t s f.1 in
    let room' = write_small o' t' s' g.1 in
    let first = nodes q q' (u32_text o ++ (bytes_text t ++ (u32_text s ++ x))) (u32_text o' ++ (bytes_text t' ++ (u32_text s' ++ y))) f.0 g.0 (sym (sync_in q o t s x) ∙ (tags (Sync q o t s) (Sync q' o' t' s') x y e).1 ∙ sync_in q' o' t' s' y) in
    let second = four o o' (bytes_text t ++ (u32_text s ++ x)) (bytes_text t' ++ (u32_text s' ++ y)) room.0 room'.0 first.1 in
    let third = many t t' (u32_text s ++ x) (u32_text s' ++ y) room.1 room'.1 second.1 in
    let fourth = four s s' x y room.2 room'.2 third.1 in
    (λ i. Sync (first.0 i) (second.0 i) (third.0 i) (fourth.0 i), fourth.1)
changes (Sync q o t s) b x y f g e = absurd (omega (arith, (tags (Sync q o t s) b x y e).0))
changes (Exec q on) (Exec q' on') x y f g e =
    let first = nodes q q' (flag_text on ++ x) (flag_text on' ++ y) f.0 g.0 (sym (append_assoc (node_text q) (flag_text on) x) ∙ (tags (Exec q on) (Exec q' on') x y e).1 ∙ append_assoc (node_text q') (flag_text on') y) in
    let second = flags on on' x y first.1 in
    (λ i. Exec (first.0 i) (second.0 i), second.1)
changes (Exec q on) b x y f g e = absurd (omega (arith, (tags (Exec q on) b x y e).0))
changes (Touch q m) (Touch q' m') x y f g e =
    let first = nodes q q' (u64_text m ++ x) (u64_text m' ++ y) f.0.0 g.0.0 (sym (append_assoc (node_text q) (u64_text m) x) ∙ (tags (Touch q m) (Touch q' m') x y e).1 ∙ append_assoc (node_text q') (u64_text m') y) in
    let second = eight m m' x y f.0.1 g.0.1 first.1 in
    (λ i. Touch (first.0 i) (second.0 i), second.1)
changes (Touch q m) b x y f g e = absurd (omega (arith, (tags (Touch q m) b x y e).0))

op_in : (op : Op) (x : List ℕ) → op_text op ++ x ≡ u16_text op.device ++ (u32_text op.seq ++ (u64_text op.moment ++ (change_text op.change ++ x)))
op_in op x = refl

same_op : (a b : Op) → a.device ≡ b.device → a.seq ≡ b.seq → a.moment ≡ b.moment → a.change ≡ b.change → a ≡ b
same_op a b d s m c = λ i. record { device = d i; seq = s i; moment = m i; change = c i }

pub spelled_apart : (a b : Op) (x y : List ℕ) → IsOp a → IsOp b → op_text a ++ x ≡ op_text b ++ y → (a ≡ b) × (x ≡ y)
spelled_apart a b x y f g e =
    let d = two a.device b.device (u32_text a.seq ++ (u64_text a.moment ++ (change_text a.change ++ x))) (u32_text b.seq ++ (u64_text b.moment ++ (change_text b.change ++ y))) f.device g.device e in
    let s = four a.seq b.seq (u64_text a.moment ++ (change_text a.change ++ x)) (u64_text b.moment ++ (change_text b.change ++ y)) f.seq g.seq d.1 in
    let m = eight a.moment b.moment (change_text a.change ++ x) (change_text b.change ++ y) f.moment g.moment s.1 in
    let c = changes a.change b.change x y (f.change, f.proper.change) (g.change, g.proper.change) m.1 in
    (same_op a b d.0 s.0 m.0 c.0, c.1)

pub spelled_once : (a b : Op) → IsOp a → IsOp b → op_text a ≡ op_text b → a ≡ b
spelled_once a b f g e = (spelled_apart a b [] [] f g (ap (λ t. t ++ []) e)).0

-- where an operation is spelled and something stands behind it, no operation is spelled
pub more_behind : (bytes new : List ℕ) (op : Op) → IsOp op → bytes ≡ op_text op ++ new → 0 < length new → IsNoOp bytes
more_behind bytes new op is e more = λ other fine at.
    let h = spelled_apart op other new [] is fine (sym e ∙ at ∙ sym (append-nil (op_text other))) in
    let none : length new ≡ 0 = ap length h.1 in omega (arith, none, more)

-- an operation that is refused in front is refused
pub none_front : (bytes : List ℕ) → ((x : Op) (rest : List ℕ) → IsOp x → bytes ≡ op_text x ++ rest → ⊥) → IsNoOp bytes
none_front bytes never = λ op is at. never op [] is (at ∙ sym (append-nil (op_text op)))

-- what was encoded decodes to itself
pub reads_back : (bytes : List ℕ) (r : Result Op OpFault) → IfOk r (λ op. (bytes ≡ op_text op) × IsOp op) → (r ≡ Err BadOp → IsNoOp bytes) → ReadsBack bytes r
reads_back bytes (Ok read) h none = λ op is at. spelled_once read op h.1 is (sym h.0 ∙ at)
reads_back bytes (Err Memory) h none = λ op is at. tt
reads_back bytes (Err BadOp) h none = λ op is at. none refl op is at
