-- One text is that of one directory, also with more behind it, and a pointer holds one directory.
use Rattle.std.proofs.Common.{◌≡◌, ℕ, ◌<◌, ◌≤◌, true, false, List, [], ◌∷◌, ◌++◌, length, Some, refl, ap, sym, subst, ◌∙◌, arith, append_assoc, append-nil, Result, Ok, Err, Vec, Global}
use Rattle.std.specs.Prelude.{IsErrAnd}
use Rattle.std.specs.List.{AllByRecursion}
use Rattle.kb_wire.specs.Fields.{u32_text, u64_text}
use Rattle.kb_wire.proofs.Fronts.{same_front, same_rest, same_u64}
use Rattle.kb_ops.proofs.Spelled.{four, sized, heads, eight, names, nodes, kinds, flags}
use Rattle.kb_blocks.specs.declared.pointer.Ptr.{Ptr}
use Rattle.kb_files.specs.Files.{Vault, pointer, IsFit}
use Rattle.kb_files.specs.Opens.{Blocks, Keys, Opens}
use Rattle.kb_files.proofs.Vaults.{opens_kept}
use Rattle.kb_dirs.specs.declared.entries.Entry.{Entry}
use Rattle.kb_dirs.specs.declared.faults.DirFault.{DirFault}
use Rattle.kb_dirs.specs.declared.faults.DirFault.TheVariants.{BadDir, Memory}
use Rattle.kb_dirs.specs.Dirs.{entry_text, entries_text, dir_text, IsEntry, AreEntries, AreOrdered, HoldsDir}
use Rattle.kb_dirs.specs.Parses.{Refused, ReadsDir, AreMany, is_above}
use Rattle.kb_dirs.proofs.Orders.{ordered_at}
use Rattle.kb_dirs.proofs.ReadParts.{refused_by, entry_in, from_id, from_kind, from_exec, from_mtime, from_size, from_ptr}

same_ptr : (p q : Ptr) → p.id ≡ q.id → p.generation ≡ q.generation → p ≡ q
same_ptr p q i g = λ k. record { id = i k; generation = g k }

pub pointers : (p q : Ptr) (x y : List ℕ) → IsFit p → IsFit q → pointer p ++ x ≡ pointer q ++ y → (p ≡ q) × (x ≡ y)
pointers p q x y a b e =
    let whole : p.id ++ (u32_text p.generation ++ x) ≡ q.id ++ (u32_text q.generation ++ y) = sym (append_assoc p.id (u32_text p.generation) x) ∙ e ∙ append_assoc q.id (u32_text q.generation) y in
    let id = sized p.id q.id (u32_text p.generation ++ x) (u32_text q.generation ++ y) (a.id ∙ sym b.id) whole in
    let number = four p.generation q.generation x y a.generation b.generation id.1 in
    (same_ptr p q id.0 number.0, number.1)

same_entry : (e f : Entry) → e.name ≡ f.name → e.id ≡ f.id → e.kind ≡ f.kind → e.exec ≡ f.exec → e.mtime ≡ f.mtime → e.size ≡ f.size → e.ptr ≡ f.ptr → e ≡ f
same_entry e f n i k o m s p = λ j. record { name = n j; id = i j; kind = k j; exec = o j; mtime = m j; size = s j; ptr = p j }

pub entries : (e f : Entry) (x y : List ℕ) → IsEntry e → IsEntry f → entry_text e ++ x ≡ entry_text f ++ y → (e ≡ f) × (x ≡ y)
entries e f x y a b same =
    let n = names e.name f.name (from_id e x) (from_id f y) (sym (entry_in e x) ∙ same ∙ entry_in f y) in
    let i = nodes e.id f.id (from_kind e x) (from_kind f y) a.node b.node n.1 in
    let k = kinds e.kind f.kind (from_exec e x) (from_exec f y) i.1 in
    let o = flags e.exec f.exec (from_mtime e x) (from_mtime f y) k.1 in
    let m = eight e.mtime f.mtime (from_size e x) (from_size f y) a.timed b.timed o.1 in
    let s = four e.size f.size (from_ptr e x) (from_ptr f y) a.sized b.sized m.1 in
    let p = pointers e.ptr f.ptr x y a.fit b.fit s.1 in
    (same_entry e f n.0 i.0 k.0 o.0 m.0 s.0 p.0, p.1)

-- ---- entries of which the first were read

-- what stands behind the first entries
pub record Behind (done es : List Entry) (mid rest : List ℕ) : Type 0 where
  pub more : List Entry
  pub whole : es ≡ done ++ more
  pub each : AllByRecursion IsEntry more
  pub text : mid ≡ entries_text more ++ rest

pub behind : (done es : List Entry) (mid rest : List ℕ) → AllByRecursion IsEntry done → AllByRecursion IsEntry es → length done ≤ length es → entries_text done ++ mid ≡ entries_text es ++ rest → Behind done es mid rest
behind [] es mid rest a b short e = record { more = es; whole = refl; each = b; text = e }
behind (d ∷ done) [] mid rest a b short e = absurd (omega arith)
behind (d ∷ done) (f ∷ es) mid rest a b short e =
    let first = entries d f (entries_text done ++ mid) (entries_text es ++ rest) a.0 b.0 (sym (append_assoc (entry_text d) (entries_text done) mid) ∙ e ∙ append_assoc (entry_text f) (entries_text es) rest) in
    let h = behind done es mid rest a.1 b.1 (omega arith) first.1 in
    record { more = h.more; whole = ap (λ (y : Entry). y ∷ es) (sym first.0) ∙ ap (λ t. d ∷ t) h.whole; each = h.each; text = h.text }

-- the entry behind the first ones, where there are more
pub record Next (done es : List Entry) (mid rest : List ℕ) : Type 0 where
  pub entry : Entry
  pub more : List Entry
  pub whole : es ≡ done ++ entry ∷ more
  pub is : IsEntry entry
  pub text : mid ≡ entry_text entry ++ (entries_text more ++ rest)

pub next : (done es : List Entry) (mid rest : List ℕ) → length done < length es → Behind done es mid rest → Next done es mid rest
next done es mid rest short h = by h.more h.whole h.each h.text
  where
    by : (more : List Entry) → es ≡ done ++ more → AllByRecursion IsEntry more → mid ≡ entries_text more ++ rest → Next done es mid rest
    by [] whole each text = let all : length es ≡ length done = ap length (whole ∙ append-nil done) in absurd (omega arith)
    by (e ∷ more) whole each text = record { entry = e; more = more; whole = whole; is = each.0; text = text ∙ append_assoc (entry_text e) (entries_text more) rest }

next_of : (count : ℕ) (done : List Entry) (old mid : List ℕ) → AllByRecursion IsEntry done → length done < count → old ≡ entries_text done ++ mid → (es : List Entry) (rest : List ℕ) → AreMany count es → old ≡ entries_text es ++ rest → Next done es mid rest
next_of count done old mid a short read es rest many w =
    let size = many.size in
    next done es mid rest (omega arith) (behind done es mid rest a many.each (omega arith) (sym read ∙ w))

-- where no entry stands behind those that were read, there are no such entries
pub no_next : (count : ℕ) (done : List Entry) (old mid : List ℕ) → AllByRecursion IsEntry done → length done < count → old ≡ entries_text done ++ mid → (e : DirFault) → Refused entry_text IsEntry mid e → Refused entries_text (AreMany count) old e
no_next count done old mid a short read = refused_by entries_text (AreMany count) old entry_text IsEntry mid (λ es rest many w.
    let h = next_of count done old mid a short read es rest many w in (h.entry, entries_text h.more ++ rest, h.is, h.text))

-- the name of the entry that was read doesn't stand behind the last one
pub not_above : (count : ℕ) (done : List Entry) (old mid new : List ℕ) (e : Entry) → AllByRecursion IsEntry done → length done < count → old ≡ entries_text done ++ mid → IsEntry e → mid ≡ entry_text e ++ new → is_above done e.name ≡ false
    → (es : List Entry) (rest : List ℕ) → AreMany count es → old ≡ entries_text es ++ rest → ⊥
not_above count done old mid new e a short read is front never es rest many w =
    let h = next_of count done old mid a short read es rest many w in
    let same = (entries e h.entry new (entries_text h.more ++ rest) is h.is (sym front ∙ h.text)).0 in
    let above = ordered_at done h.entry h.more (subst AreOrdered h.whole many.ordered) in
    let bad : true ≡ false = sym above ∙ ap (λ (y : Entry). is_above done y.name) (sym same) ∙ never in
    cc

-- one entry more was read
pub read_more : (done : List Entry) (e : Entry) (new : List ℕ) → entries_text done ++ (entry_text e ++ new) ≡ entries_text (done ++ e ∷ []) ++ new
read_more [] e new = sym (ap (λ t. t ++ new) (append-nil (entry_text e)))
read_more (d ∷ done) e new = append_assoc (entry_text d) (entries_text done) (entry_text e ++ new) ∙ ap (λ t. entry_text d ++ t) (read_more done e new) ∙ sym (append_assoc (entry_text d) (entries_text (done ++ e ∷ [])) new)

-- ---- directories

-- a refusal that is passed on
pub passed_dir : (text : List ℕ) (r : Result (Vec Entry Global) DirFault) (e : DirFault) → IsErrAnd r (λ f. f ≡ e) → Refused dir_text AreEntries text e → ReadsDir text r
passed_dir text (Ok es) e h k = absurd h
passed_dir text (Err Memory) e h k = tt
passed_dir text (Err BadDir) e h k = λ es is at. (subst (Refused dir_text AreEntries text) (sym h) k) es [] is (at ∙ sym (append-nil (dir_text es)))

pub same_entries : (es fs : List Entry) (x y : List ℕ) → AllByRecursion IsEntry es → AllByRecursion IsEntry fs → length es ≡ length fs → entries_text es ++ x ≡ entries_text fs ++ y → (es ≡ fs) × (x ≡ y)
same_entries [] [] x y a b l e = (refl, e)
same_entries [] (f ∷ fs) x y a b l e = absurd (omega arith)
same_entries (g ∷ es) [] x y a b l e = absurd (omega arith)
same_entries (g ∷ es) (f ∷ fs) x y a b l e =
    let first = entries g f (entries_text es ++ x) (entries_text fs ++ y) a.0 b.0 (sym (append_assoc (entry_text g) (entries_text es) x) ∙ e ∙ append_assoc (entry_text f) (entries_text fs) y) in
    let rest = same_entries es fs x y a.1 b.1 (omega arith) first.1 in
    (ap (λ (h : Entry). h ∷ es) first.0 ∙ ap (λ t. f ∷ t) rest.0, rest.1)

pub dirs_apart : (es fs : List Entry) (x y : List ℕ) → AreEntries es → AreEntries fs → dir_text es ++ x ≡ dir_text fs ++ y → (es ≡ fs) × (x ≡ y)
dirs_apart es fs x y a b e =
    let tag = heads 0x44 0x44 (u64_text (length es) ++ (entries_text es ++ x)) (u64_text (length fs) ++ (entries_text fs ++ y)) e in
    let count : length es ≡ length fs = same_u64 (length es) (length fs) a.few b.few (same_front (u64_text (length es)) (u64_text (length fs)) (entries_text es ++ x) (entries_text fs ++ y) refl tag.1) in
    same_entries es fs x y a.each b.each count (same_rest (u64_text (length es)) (u64_text (length fs)) (entries_text es ++ x) (entries_text fs ++ y) refl tag.1)

-- where a directory is spelled and something stands behind it, no directory is spelled
pub more_behind : (text new : List ℕ) (es : List Entry) → AreEntries es → text ≡ dir_text es ++ new → 0 < length new → (fs : List Entry) → AreEntries fs → text ≡ dir_text fs → ⊥
more_behind text new es is w more fs fine at =
    let h = dirs_apart es fs new [] is fine (sym w ∙ at ∙ sym (append-nil (dir_text fs))) in
    let none : length new ≡ 0 = ap length h.1 in omega (arith, none, more)

-- a pointer holds one directory
pub one_dir : (vault : Vault) → ((p : Ptr) (a b : List ℕ) → vault p a → vault p b → a ≡ b) → (p : Ptr) (es fs : List Entry) → HoldsDir vault p es → HoldsDir vault p fs → es ≡ fs
one_dir vault one p es fs a b = (dirs_apart es fs [] [] a.0 b.0 (ap (λ t. t ++ []) (one p (dir_text es) (dir_text fs) a.1 b.1))).0

-- more blocks keep it
pub dir_kept : (sealed : List ℕ → List ℕ → List ℕ) (hashed : List ℕ → List ℕ) (old new : Blocks) (keys : Keys) → ((q b : List ℕ) → old q ≡ Some b → new q ≡ Some b)
    → (p : Ptr) (es : List Entry) → HoldsDir (Opens sealed hashed old keys) p es → HoldsDir (Opens sealed hashed new keys) p es
dir_kept sealed hashed old new keys kept p es h = (h.0, opens_kept sealed hashed old new keys kept p (dir_text es) h.1)
