-- One text is that of one payload.
use Rattle.std.proofs.Common.{◌≡◌, ℕ, List, [], ◌∷◌, ◌++◌, refl, ap, sym, ◌∙◌, arith, append-nil}
use Rattle.kb_wire.specs.Fields.{u32_text}
use Rattle.kb_wire.proofs.Fronts.{same_u32}
use Rattle.kb_ops.specs.declared.rows.Op.{Op as Operation}
use Rattle.kb_ops.specs.Grammar.{op_text, flag_text}
use Rattle.kb_ops.proofs.Spelled.{heads, four, sized, flags, spelled_once}
use Rattle.kb_journal.specs.declared.entries.Entry.{Entry}
use Rattle.kb_journal.specs.declared.entries.Entry.TheVariants.{Op, Landed, Branched, Merged, Head}
use Rattle.kb_journal.specs.Entries.{entry_text, IsEntry, IsRevision}

-- a number and a hash in front of one text are one revision
revisions : (m n : ℕ) (h k x y : List ℕ) → IsRevision m h → IsRevision n k → u32_text m ++ (h ++ x) ≡ u32_text n ++ (k ++ y) → (m ≡ n) × (h ≡ k) × (x ≡ y)
revisions m n h k x y f g e =
    let number = four m n (h ++ x) (k ++ y) f.fits g.fits e in
    let hash = sized h k x y (f.size ∙ sym g.size) number.1 in
    (number.0, hash.0, hash.1)

alone : (m n : ℕ) (h k : List ℕ) → IsRevision m h → IsRevision n k → u32_text m ++ h ≡ u32_text n ++ k → (m ≡ n) × (h ≡ k)
alone m n h k f g e = four m n h k f.fits g.fits e

tags : (a b : ℕ) (x y : List ℕ) → a ∷ x ≡ b ∷ y → a ≡ b
tags a b x y e = (heads a b x y e).0

behind : (a b : ℕ) (x y : List ℕ) → a ∷ x ≡ b ∷ y → x ≡ y
behind a b x y e = (heads a b x y e).1

pub same_entry : (a b : Entry) → IsEntry a → IsEntry b → entry_text a ≡ entry_text b → a ≡ b
same_entry (Op x1) (Op x2) f g e = ap (λ (o : Operation). Op o) (spelled_once x1 x2 f g (behind 1 1 (op_text x1) (op_text x2) e))
same_entry (Op x1) (Landed m2 h2) f g e = let t : ◌≡◌ {A = ℕ} 1 2 = tags 1 2 (op_text x1) (u32_text m2 ++ h2) e in absurd (omega arith)
same_entry (Op x1) Branched f g e = let t : ◌≡◌ {A = ℕ} 1 3 = tags 1 3 (op_text x1) ([]) e in absurd (omega arith)
same_entry (Op x1) (Merged m2 h2 c2) f g e = let t : ◌≡◌ {A = ℕ} 1 4 = tags 1 4 (op_text x1) (u32_text m2 ++ (h2 ++ u32_text c2)) e in absurd (omega arith)
same_entry (Op x1) (Head m2 h2 s2 f2) f g e = let t : ◌≡◌ {A = ℕ} 1 5 = tags 1 5 (op_text x1) (u32_text m2 ++ (h2 ++ (u32_text s2 ++ flag_text f2))) e in absurd (omega arith)
same_entry (Landed m1 h1) (Op x2) f g e = let t : ◌≡◌ {A = ℕ} 2 1 = tags 2 1 (u32_text m1 ++ h1) (op_text x2) e in absurd (omega arith)
same_entry (Landed m1 h1) (Landed m2 h2) f g e = let p = alone m1 m2 h1 h2 f g (behind 2 2 (u32_text m1 ++ h1) (u32_text m2 ++ h2) e) in cc
same_entry (Landed m1 h1) Branched f g e = let t : ◌≡◌ {A = ℕ} 2 3 = tags 2 3 (u32_text m1 ++ h1) ([]) e in absurd (omega arith)
same_entry (Landed m1 h1) (Merged m2 h2 c2) f g e = let t : ◌≡◌ {A = ℕ} 2 4 = tags 2 4 (u32_text m1 ++ h1) (u32_text m2 ++ (h2 ++ u32_text c2)) e in absurd (omega arith)
same_entry (Landed m1 h1) (Head m2 h2 s2 f2) f g e = let t : ◌≡◌ {A = ℕ} 2 5 = tags 2 5 (u32_text m1 ++ h1) (u32_text m2 ++ (h2 ++ (u32_text s2 ++ flag_text f2))) e in absurd (omega arith)
same_entry Branched (Op x2) f g e = let t : ◌≡◌ {A = ℕ} 3 1 = tags 3 1 ([]) (op_text x2) e in absurd (omega arith)
same_entry Branched (Landed m2 h2) f g e = let t : ◌≡◌ {A = ℕ} 3 2 = tags 3 2 ([]) (u32_text m2 ++ h2) e in absurd (omega arith)
same_entry Branched Branched f g e = refl
same_entry Branched (Merged m2 h2 c2) f g e = let t : ◌≡◌ {A = ℕ} 3 4 = tags 3 4 ([]) (u32_text m2 ++ (h2 ++ u32_text c2)) e in absurd (omega arith)
same_entry Branched (Head m2 h2 s2 f2) f g e = let t : ◌≡◌ {A = ℕ} 3 5 = tags 3 5 ([]) (u32_text m2 ++ (h2 ++ (u32_text s2 ++ flag_text f2))) e in absurd (omega arith)
same_entry (Merged m1 h1 c1) (Op x2) f g e = let t : ◌≡◌ {A = ℕ} 4 1 = tags 4 1 (u32_text m1 ++ (h1 ++ u32_text c1)) (op_text x2) e in absurd (omega arith)
same_entry (Merged m1 h1 c1) (Landed m2 h2) f g e = let t : ◌≡◌ {A = ℕ} 4 2 = tags 4 2 (u32_text m1 ++ (h1 ++ u32_text c1)) (u32_text m2 ++ h2) e in absurd (omega arith)
same_entry (Merged m1 h1 c1) Branched f g e = let t : ◌≡◌ {A = ℕ} 4 3 = tags 4 3 (u32_text m1 ++ (h1 ++ u32_text c1)) ([]) e in absurd (omega arith)
same_entry (Merged m1 h1 c1) (Merged m2 h2 c2) f g e = let p = revisions m1 m2 h1 h2 (u32_text c1) (u32_text c2) f.0 g.0 (behind 4 4 (u32_text m1 ++ (h1 ++ u32_text c1)) (u32_text m2 ++ (h2 ++ u32_text c2)) e) in let q : c1 ≡ c2 = same_u32 c1 c2 f.1 g.1 p.2 in cc
same_entry (Merged m1 h1 c1) (Head m2 h2 s2 f2) f g e = let t : ◌≡◌ {A = ℕ} 4 5 = tags 4 5 (u32_text m1 ++ (h1 ++ u32_text c1)) (u32_text m2 ++ (h2 ++ (u32_text s2 ++ flag_text f2))) e in absurd (omega arith)
same_entry (Head m1 h1 s1 f1) (Op x2) f g e = let t : ◌≡◌ {A = ℕ} 5 1 = tags 5 1 (u32_text m1 ++ (h1 ++ (u32_text s1 ++ flag_text f1))) (op_text x2) e in absurd (omega arith)
same_entry (Head m1 h1 s1 f1) (Landed m2 h2) f g e = let t : ◌≡◌ {A = ℕ} 5 2 = tags 5 2 (u32_text m1 ++ (h1 ++ (u32_text s1 ++ flag_text f1))) (u32_text m2 ++ h2) e in absurd (omega arith)
same_entry (Head m1 h1 s1 f1) Branched f g e = let t : ◌≡◌ {A = ℕ} 5 3 = tags 5 3 (u32_text m1 ++ (h1 ++ (u32_text s1 ++ flag_text f1))) ([]) e in absurd (omega arith)
same_entry (Head m1 h1 s1 f1) (Merged m2 h2 c2) f g e = let t : ◌≡◌ {A = ℕ} 5 4 = tags 5 4 (u32_text m1 ++ (h1 ++ (u32_text s1 ++ flag_text f1))) (u32_text m2 ++ (h2 ++ u32_text c2)) e in absurd (omega arith)
same_entry (Head m1 h1 s1 f1) (Head m2 h2 s2 f2) f g e = let p = revisions m1 m2 h1 h2 (u32_text s1 ++ flag_text f1) (u32_text s2 ++ flag_text f2) f.0 g.0 (behind 5 5 (u32_text m1 ++ (h1 ++ (u32_text s1 ++ flag_text f1))) (u32_text m2 ++ (h2 ++ (u32_text s2 ++ flag_text f2))) e) in let q = four s1 s2 (flag_text f1) (flag_text f2) f.1 g.1 p.2 in let r = flags f1 f2 [] [] (append-nil (flag_text f1) ∙ q.1 ∙ sym (append-nil (flag_text f2))) in cc
