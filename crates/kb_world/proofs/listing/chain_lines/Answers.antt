use Rattle.std.proofs.Common.{◌≡◌, ◌∷◌, ◌++◌, [], List, ℕ, ◌≤◌, ◌<◌, map, length, get_or, slice_get, Some, sym, ap, ◌∙◌, refl, arith}
use Rattle.std.specs.Option.{option_map}
use Rattle.std.proofs.lemmas.List.{length-map}
use Rattle.std.proofs.lemmas.Option.{slice_get_read, slice_get-map}
use Rattle.kb_lines.specs.declared.lines.Line.TheVariants as line
use Rattle.kb_folder.specs.Held.{held}
use Rattle.kb_world.proofs.Recounts.{heads, spelled_at, next_line, all_lines}
use Rattle.kb_world.proofs.listing.chain_lines.Goals as goal

-- what is read of an element at a place
text_at : {X : Type 0} (text : X → List ℕ) (all : List X) (i : ℕ) (x : X) → i < length all → x ≡ get_or all i x → slice_get (map text all) i ≡ Some (text x)
text_at text all i x lt is = slice_get-map text all i ∙ ap (option_map text) (slice_get_read all (length all) i x refl lt is)

pub loop-bytes-init : goal.loop-bytes-init
loop-bytes-init g c seed names chain has named =
    c.in_ok-push.ensures.items ∙ ap (λ ls. ls ++ line.Chain c.length-revisions.result c.generation-generation.result ∷ []) c.new-lines.ensures.items
    ∙ ap (λ l. l ∷ []) (heads g.S.Sealer.sealed g.S.Sealer.signed g.H.BlockHash.hashed seed names (held c.args.folder.now) chain has _ _ c.length-revisions.ensures (c.generation-generation.ensures ∙ ap (λ p. p.1) c.policy.ensures))

pub revision_line-requires : goal.revision_line-requires
revision_line-requires g c =
    let h = c.requires in
    spelled_at g.S.Sealer.sealed g.S.Sealer.signed g.H.BlockHash.hashed h.0 h.1 (held c.args.folder.now) h.2 h.3 (length c.args.devices.now) (map (λ b. b.items) c.revisions-all.result.now) c.loop-bytes.bytes-index c.deref.result.now
    c.revisions-all.ensures (text_at (λ b. b.items) c.revisions-all.result.now c.loop-bytes.bytes-index c.bytes-item.result c.loop-bytes-test.true c.bytes-item.is ∙ ap (λ b. Some b) (sym c.deref.ensures.value)) h.4

pub loop-bytes-preserved : goal.loop-bytes-preserved
loop-bytes-preserved g c seed names chain has named =
    next_line g.S.Sealer.sealed g.S.Sealer.signed g.H.BlockHash.hashed seed names (held c.args.folder.now) chain has (map (λ b. b.items) c.revisions-all.result.now) c.loop-bytes.bytes-index c.deref.result.now
    c.revisions-all.ensures (text_at (λ b. b.items) c.revisions-all.result.now c.loop-bytes.bytes-index c.bytes-item.result c.loop-bytes-test.true c.bytes-item.is ∙ ap (λ b. Some b) (sym c.deref.ensures.value))
    c.in_ok-line.line (λ r is spelled. c.in_ok-line.ensures names r named is spelled) _ _ _ (c.loop-bytes.invariant seed names chain has named) c.in_ok-push-2.ensures.items

pub returns : goal.returns
returns g c seed names chain has named =
    let past : length (map (λ b. b.items) c.revisions-all.result.now) ≤ c.loop-bytes.bytes-index = (let n = length-map c.revisions-all.result.now (λ b. b.items) in let e = c.loop-bytes-test.false in omega (arith, n, e)) in
    all_lines g.S.Sealer.sealed g.S.Sealer.signed g.H.BlockHash.hashed seed names (held c.args.folder.now) chain has (map (λ b. b.items) c.revisions-all.result.now) c.loop-bytes.bytes-index c.revisions-all.ensures past _ _ (c.loop-bytes.invariant seed names chain has named)
