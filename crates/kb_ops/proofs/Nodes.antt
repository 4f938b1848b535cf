-- Two ids are the same exactly where their fields are.
use Rattle.std.proofs.Common.{◌≡◌, ◌≢◌, Bool, true, false, ◌⊎◌, inl, inr, ◌&&◌, refl, sym, ap, ◌∙◌, arith}
use mathlib.Core.Bool.{true≢false}
use borrow.Author.Tests.{eqb-true}
use Rattle.std.proofs.lemmas.Bool.Decides.{nat_tests}
use Rattle.kb_name.specs.declared.ids.NodeId.{NodeId}
use Rattle.kb_name.specs.Nodes.{same_node}

pub and_first : (a b : Bool) → (a && b) ≡ true → a ≡ true
and_first true b h = refl
and_first false b h = h

pub and_second : (a b : Bool) → (a && b) ≡ true → b ≡ true
and_second true b h = h
and_second false b h = absurd (true≢false (sym h))

pub node_is : (a b : NodeId) → same_node a b ≡ true → a ≡ b
node_is a b h =
    let d : a.device ≡ b.device = eqb-true a.device b.device (and_first _ _ h) in
    let rest = and_second _ _ h in
    let s : a.seq ≡ b.seq = eqb-true a.seq b.seq (and_first _ _ rest) in
    let p : a.part ≡ b.part = eqb-true a.part b.part (and_second _ _ rest) in
    λ i. record { device = d i; seq = s i; part = p i }

pub node_self : (a : NodeId) → same_node a a ≡ true
node_self a = grind (arith, nat_tests)

pub node_other : (a b : NodeId) → a ≢ b → same_node a b ≡ false
node_other a b h = elim (same_node a b) as (λ t. same_node a b ≡ t → same_node a b ≡ false) [ true ↦ λ e. absurd (h (node_is a b e)) | false ↦ λ e. e ] refl

pub node_cases : (a b : NodeId) → (a ≡ b) ⊎ (a ≢ b)
node_cases a b = elim (same_node a b) as (λ t. same_node a b ≡ t → (a ≡ b) ⊎ (a ≢ b)) [ true ↦ λ e. inl (node_is a b e) | false ↦ λ e. inr (λ p. true≢false (sym (node_self a) ∙ ap (same_node a) p ∙ e)) ] refl

pub apart : (a b : NodeId) → same_node a b ≡ false → a ≢ b
apart a b h p = true≢false (sym (node_self a) ∙ ap (same_node a) p ∙ h)
