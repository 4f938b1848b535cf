-- Where a field further on is refused, the whole is.
use Rattle.std.proofs.Common.{◌≡◌, ℕ, ◌<◌, ◌^◌, Bool, false, List, ◌++◌, length, Option, Result, Ok, Err, sym, subst, ◌∙◌, arith}
use Rattle.std.specs.Prelude.{IsErrAnd, IsTrue, ⊤}
use Rattle.kb_name.specs.declared.ids.NodeId.{NodeId}
use Rattle.kb_wire.specs.Fields.{u32_text}
use Rattle.kb_ops.specs.declared.faults.OpFault.{OpFault}
use Rattle.kb_ops.specs.declared.faults.OpFault.TheVariants.{BadOp, Memory}
use Rattle.kb_ops.specs.declared.values.Kind.{Kind}
use Rattle.kb_ops.specs.declared.rows.Change.{Change}
use Rattle.kb_ops.specs.declared.rows.Change.TheVariants.{Create, Rename, Sync}
use Rattle.kb_ops.specs.Trees.{IsWrite}
use Rattle.kb_ops.specs.Grammar.{node_text, name_text, bytes_text, kind_text, replaced_text, fields_text, IsNode, MayBeNode, IsNew, IsMove, HasTag}
use Rattle.kb_ops.specs.Parses.{Parses, Refused}
use Rattle.kb_ops.proofs.Spelled.{four, names, many, nodes, kinds, replacements, create_in, rename_in, sync_in, few_small, write_small}

-- a refusal that is passed on
pub passed : {X Y : Type 0} (value : Y → X) (text : X → List ℕ) (Is : X → Type 0) (old new : List ℕ) (r : Result Y OpFault) (e : OpFault) → IsErrAnd r (λ f. f ≡ e) → Refused text Is old e → Parses value text Is old new r
passed value text Is old new (Ok y) e h k = absurd h
passed value text Is old new (Err f) e h k = subst (Refused text Is old) (sym h) k

-- what the whole needs in front of the rest, no field gave
pub refused_by : {X Z : Type 0} (text : X → List ℕ) (Is : X → Type 0) (old : List ℕ) (field : Z → List ℕ) (IsField : Z → Type 0) (mid : List ℕ)
    → ((x : X) (rest : List ℕ) → Is x → old ≡ text x ++ rest → (z : Z) × (more : List ℕ) × IsField z × (mid ≡ field z ++ more))
    → (e : OpFault) → Refused field IsField mid e → Refused text Is old e
refused_by text Is old field IsField mid needs Memory r = tt
refused_by text Is old field IsField mid needs BadOp r = λ x rest is e. let h = needs x rest is e in r h.0 h.1 h.2 h.3

-- what a test that failed would have told
pub untrue : {P : Type 0} (b : Bool) → b ≡ false → (P → IsTrue b) → P → ⊥
untrue b e f p = let F : Bool → Type 0 = λ x. IsTrue x in let h : IsTrue false = subst F e (f p) in cc

-- ---- a create

-- behind the parent and the name that were read
pub record CreateBehind (name mid rest : List ℕ) (x : Change) : Type 0 where
  pub kind : Kind
  pub bytes : List ℕ
  pub new : IsNew kind bytes
  pub small : length bytes < 2 ^ 32
  pub behind : mid ≡ kind_text kind ++ (bytes_text bytes ++ rest)

pub create_behind : (old a b : List ℕ) (p : NodeId) (n : List ℕ) → IsNode p → old ≡ node_text p ++ a → a ≡ name_text n ++ b → (x : Change) (rest : List ℕ) → HasTag 1 x → old ≡ fields_text x ++ rest → CreateBehind n b rest x
create_behind old a b p n node front then (Create parent name kind bytes) rest is e =
    let first = nodes p parent a (name_text name ++ (kind_text kind ++ (bytes_text bytes ++ rest))) node is.0.0 (sym front ∙ e ∙ create_in parent name kind bytes rest) in
    let second = names n name b (kind_text kind ++ (bytes_text bytes ++ rest)) (sym then ∙ first.1) in
    record { kind = kind; bytes = bytes; new = is.0.1.1; small = few_small bytes is.0.1.1.few; behind = second.1 }
create_behind old a b p n node front then x rest is e = absurd (omega (arith, is.1))

pub no_kind : (old a b : List ℕ) (p : NodeId) (n : List ℕ) → IsNode p → old ≡ node_text p ++ a → a ≡ name_text n ++ b → (e : OpFault) → Refused kind_text (λ _. ⊤) b e → Refused fields_text (HasTag 1) old e
no_kind old a b p n node front then = refused_by fields_text (HasTag 1) old kind_text (λ _. ⊤) b (λ x rest is e.
    let h = create_behind old a b p n node front then x rest is e in (h.kind, bytes_text h.bytes ++ rest, tt, h.behind))

pub no_bytes : (old a b d : List ℕ) (p : NodeId) (n : List ℕ) (k : Kind) → IsNode p → old ≡ node_text p ++ a → a ≡ name_text n ++ b → b ≡ kind_text k ++ d → (e : OpFault) → Refused bytes_text (λ t. length t < 2 ^ 32) d e → Refused fields_text (HasTag 1) old e
no_bytes old a b d p n k node front then third = refused_by fields_text (HasTag 1) old bytes_text (λ t. length t < 2 ^ 32) d (λ x rest is e.
    let h = create_behind old a b p n node front then x rest is e in (h.bytes, rest, h.small, (kinds k h.kind d (bytes_text h.bytes ++ rest) (sym third ∙ h.behind)).1))

pub not_new : (old a b d new : List ℕ) (p : NodeId) (n : List ℕ) (k : Kind) (t : List ℕ) → IsNode p → old ≡ node_text p ++ a → a ≡ name_text n ++ b → b ≡ kind_text k ++ d → length t < 2 ^ 32 → d ≡ bytes_text t ++ new → (IsNew k t → ⊥) → (x : Change) (rest : List ℕ) → HasTag 1 x → old ≡ fields_text x ++ rest → ⊥
not_new old a b d new p n k t node front then third small fourth never x rest is e =
    let h = create_behind old a b p n node front then x rest is e in
    let kind = kinds k h.kind d (bytes_text h.bytes ++ rest) (sym third ∙ h.behind) in
    let bytes = many t h.bytes new rest small h.small (sym fourth ∙ kind.1) in
    never (subst (λ (y : Kind). IsNew y t) (sym kind.0) (subst (λ (y : List ℕ). IsNew h.kind y) (sym bytes.0) h.new))

-- ---- a rename

-- behind the node, the parent and the name that were read
pub record RenameBehind (node : NodeId) (mid rest : List ℕ) : Type 0 where
  pub replaced : Option NodeId
  pub move : IsMove node replaced
  pub fits : MayBeNode replaced
  pub behind : mid ≡ replaced_text replaced ++ rest

pub rename_behind : (old a b d : List ℕ) (q p : NodeId) (n : List ℕ) → IsNode q → old ≡ node_text q ++ a → IsNode p → a ≡ node_text p ++ b → b ≡ name_text n ++ d
    → (x : Change) (rest : List ℕ) → HasTag 3 x → old ≡ fields_text x ++ rest → RenameBehind q d rest
rename_behind old a b d q p n fits front fits' then third (Rename node parent name replaced) rest is e =
    let first = nodes q node a (node_text parent ++ (name_text name ++ (replaced_text replaced ++ rest))) fits is.0.0.0 (sym front ∙ e ∙ rename_in node parent name replaced rest) in
    let second = nodes p parent b (name_text name ++ (replaced_text replaced ++ rest)) fits' is.0.0.1 (sym then ∙ first.1) in
    let named = names n name d (replaced_text replaced ++ rest) (sym third ∙ second.1) in
    record {
      replaced = replaced;
      move = subst (λ (y : NodeId). IsMove y replaced) (sym first.0) is.0.1.1;
      fits = is.0.0.2;
      behind = named.1;
    }
rename_behind old a b d q p n fits front fits' then third x rest is e = absurd (omega (arith, is.1))

pub no_replaced : (old a b d : List ℕ) (q p : NodeId) (n : List ℕ) → IsNode q → old ≡ node_text q ++ a → IsNode p → a ≡ node_text p ++ b → b ≡ name_text n ++ d
    → (e : OpFault) → Refused replaced_text MayBeNode d e → Refused fields_text (HasTag 3) old e
no_replaced old a b d q p n fits front fits' then third = refused_by fields_text (HasTag 3) old replaced_text MayBeNode d (λ x rest is e.
    let h = rename_behind old a b d q p n fits front fits' then third x rest is e in (h.replaced, rest, h.fits, h.behind))

pub no_move : (old a b d new : List ℕ) (q p : NodeId) (n : List ℕ) (r : Option NodeId) → IsNode q → old ≡ node_text q ++ a → IsNode p → a ≡ node_text p ++ b → b ≡ name_text n ++ d → MayBeNode r → d ≡ replaced_text r ++ new
    → (IsMove q r → ⊥) → (x : Change) (rest : List ℕ) → HasTag 3 x → old ≡ fields_text x ++ rest → ⊥
no_move old a b d new q p n r fits front fits' then third fits'' fourth never x rest is e =
    let h = rename_behind old a b d q p n fits front fits' then third x rest is e in
    let same = replacements r h.replaced new rest fits'' h.fits (sym fourth ∙ h.behind) in
    never (subst (λ (y : Option NodeId). IsMove q y) (sym same.0) h.move)

-- ---- a sync

-- behind the node, the offset and the bytes that were read
pub record SyncBehind (offset : ℕ) (bytes mid rest : List ℕ) : Type 0 where
  pub size : ℕ
  pub write : IsWrite offset bytes size
  pub behind : mid ≡ u32_text size ++ rest

pub sync_behind : (old a b d : List ℕ) (q : NodeId) (o : ℕ) (t : List ℕ) → IsNode q → old ≡ node_text q ++ a → o < 2 ^ 32 → a ≡ u32_text o ++ b → length t < 2 ^ 32 → b ≡ bytes_text t ++ d
    → (x : Change) (rest : List ℕ) → HasTag 4 x → old ≡ fields_text x ++ rest → SyncBehind o t d rest
sync_behind old a b d q o t fits front low then small third (Sync node offset bytes size) rest is e =
    let room = write_small offset bytes size is.0.1 in
    let first = nodes q node a (u32_text offset ++ (bytes_text bytes ++ (u32_text size ++ rest))) fits is.0.0 (sym front ∙ e ∙ sync_in node offset bytes size rest) in
    let second = four o offset b (bytes_text bytes ++ (u32_text size ++ rest)) low room.0 (sym then ∙ first.1) in
    let many_are = many t bytes d (u32_text size ++ rest) small room.1 (sym third ∙ second.1) in
    record {
      size = size;
      write = subst (λ (y : ℕ). IsWrite y t size) (sym second.0) (subst (λ (y : List ℕ). IsWrite offset y size) (sym many_are.0) is.0.1);
      behind = many_are.1;
    }
sync_behind old a b d q o t fits front low then small third x rest is e = absurd (omega (arith, is.1))

write_top : (offset : ℕ) (bytes : List ℕ) (size : ℕ) → IsWrite offset bytes size → size < 2 ^ 32
write_top offset bytes size w = (write_small offset bytes size w).2

pub no_length : (old a b d : List ℕ) (q : NodeId) (o : ℕ) (t : List ℕ) → IsNode q → old ≡ node_text q ++ a → o < 2 ^ 32 → a ≡ u32_text o ++ b → length t < 2 ^ 32 → b ≡ bytes_text t ++ d
    → (e : OpFault) → Refused u32_text (λ n. n < 2 ^ 32) d e → Refused fields_text (HasTag 4) old e
no_length old a b d q o t fits front low then small third = refused_by fields_text (HasTag 4) old u32_text (λ n. n < 2 ^ 32) d (λ x rest is e.
    let h = sync_behind old a b d q o t fits front low then small third x rest is e in (h.size, rest, write_top o t h.size h.write, h.behind))

pub no_write : (old a b d new : List ℕ) (q : NodeId) (o : ℕ) (t : List ℕ) (size : ℕ) → IsNode q → old ≡ node_text q ++ a → o < 2 ^ 32 → a ≡ u32_text o ++ b → length t < 2 ^ 32 → b ≡ bytes_text t ++ d → size < 2 ^ 32 → d ≡ u32_text size ++ new
    → (IsWrite o t size → ⊥) → (x : Change) (rest : List ℕ) → HasTag 4 x → old ≡ fields_text x ++ rest → ⊥
no_write old a b d new q o t size fits front low then small third top fourth never x rest is e =
    let h = sync_behind old a b d q o t fits front low then small third x rest is e in
    let same = four size h.size new rest top (write_top o t h.size h.write) (sym fourth ∙ h.behind) in
    never (subst (λ (y : ℕ). IsWrite o t y) (sym same.0) h.write)
