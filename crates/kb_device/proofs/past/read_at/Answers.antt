use Rattle.std.proofs.Common.{◌≡◌, ℕ, ◌+◌, ◌-◌, ◌<◌, ◌≤◌, true, false, length, map, sym, ap, subst, ◌∙◌, arith}
use Rattle.std.specs.FinMap.{get}
use Rattle.std.proofs.lemmas.List.{length-map}
use Rattle.sha2.specs.Sha256.{sha256}
use Rattle.kb_folder.specs.Held.{held}
use Rattle.kb_folder.specs.Stands.{Spells, IsWritten}
use Rattle.kb_folder.specs.Reading.{places_behind}
use Rattle.kb_device.specs.Heads.{Read, ReadStands}
use Rattle.kb_device.specs.Filling.{HasKeysOf}
use Rattle.kb_device.specs.Pulling.{is_readable}
use Rattle.kb_device.proofs.Keys.{refused}
use Rattle.kb_device.proofs.Placed.{index_map}
use Rattle.kb_device.proofs.Fronts.{whole_placed, lent_length}
use Rattle.kb_device.proofs.Pasts.{clash}
use Rattle.kb_device.proofs.PastRead.{served, ring_is, ring_there, role_is_there, read_stands, readable}
use Rattle.kb_device.proofs.past.read_at.Goals as goal

pub returns-in-Err-clause-stands : goal.returns-in-Err-clause-stands
returns-in-Err-clause-stands g c seed names chain has secret_is member is =
    let f = held c.args.folder.now in
    let lent = map (λ b. b.items) c.args.lent.now in
    let i : ℕ = c.args.number - 1 in
    let bounds = c.requires in
    let mapped = length-map c.args.lent.now (λ b. b.items) in
    let lt : i < length lent = omega (arith, bounds.0, bounds.1, mapped) in
    let e : c.args.number ≡ i + 1 = omega (arith, bounds.0) in
    let at = index_map (λ b. b.items) c.args.lent.now i c.index-lent-number.result ∙ ap (λ b. b.items) (sym c.index-lent-number.is) in
    let placed = whole_placed g.S.Sealer.sealed g.S.Sealer.signed g.H.BlockHash.hashed seed names f has.back has.stands lent is i c.index-lent-number.result.items lt at in
    let p = placed.0 in
    let item_is = placed.1 ∙ sym c.deref.ensures.value in
    let spells = subst (λ b. Spells g.S.Sealer.sealed g.S.Sealer.signed seed names p.older_bytes p.older b p.plain) item_is p.written.spells in
    refused c.in-Err.fault _ _ (c.in-Err.ensures p.written.spells.revision p.written.spells.is (sym item_is ∙ p.written.spells.spelled))

pub returns-in-Err-fill-clause-stands : goal.returns-in-Err-fill-clause-stands
returns-in-Err-fill-clause-stands g c seed names chain has secret_is member is =
    let f = held c.args.folder.now in
    let lent = map (λ b. b.items) c.args.lent.now in
    let i : ℕ = c.args.number - 1 in
    let bounds = c.requires in
    let mapped = length-map c.args.lent.now (λ b. b.items) in
    let lt : i < length lent = omega (arith, bounds.0, bounds.1, mapped) in
    let e : c.args.number ≡ i + 1 = omega (arith, bounds.0) in
    let at = index_map (λ b. b.items) c.args.lent.now i c.index-lent-number.result ∙ ap (λ b. b.items) (sym c.index-lent-number.is) in
    let placed = whole_placed g.S.Sealer.sealed g.S.Sealer.signed g.H.BlockHash.hashed seed names f has.back has.stands lent is i c.index-lent-number.result.items lt at in
    let p = placed.0 in
    let item_is = placed.1 ∙ sym c.deref.ensures.value in
    let spells = subst (λ b. Spells g.S.Sealer.sealed g.S.Sealer.signed seed names p.older_bytes p.older b p.plain) item_is p.written.spells in
    let read_is = c.in-Ok.ensures p.written.spells.revision p.written.spells.is (sym item_is ∙ p.written.spells.spelled) in
    let serves = served g.S.Sealer.sealed g.S.Sealer.signed g.H.BlockHash.hashed seed names f chain c.args.d c.args.secret.now has secret_is member i p c.in-Ok.revision read_is in
    refused c.in-Err-fill.fault _ _ (c.in-Err-fill.ensures seed names 0 has.back serves has.stands (let z : 0 ≤ length has.back = omega arith in z) is)

pub returns-in-Err-read_tree-clause-stands : goal.returns-in-Err-read_tree-clause-stands
returns-in-Err-read_tree-clause-stands g c seed names chain has secret_is member is =
    let f = held c.args.folder.now in
    let lent = map (λ b. b.items) c.args.lent.now in
    let i : ℕ = c.args.number - 1 in
    let bounds = c.requires in
    let mapped = length-map c.args.lent.now (λ b. b.items) in
    let lt : i < length lent = omega (arith, bounds.0, bounds.1, mapped) in
    let e : c.args.number ≡ i + 1 = omega (arith, bounds.0) in
    let at = index_map (λ b. b.items) c.args.lent.now i c.index-lent-number.result ∙ ap (λ b. b.items) (sym c.index-lent-number.is) in
    let placed = whole_placed g.S.Sealer.sealed g.S.Sealer.signed g.H.BlockHash.hashed seed names f has.back has.stands lent is i c.index-lent-number.result.items lt at in
    let p = placed.0 in
    let item_is = placed.1 ∙ sym c.deref.ensures.value in
    let spells = subst (λ b. Spells g.S.Sealer.sealed g.S.Sealer.signed seed names p.older_bytes p.older b p.plain) item_is p.written.spells in
    let read_is = c.in-Ok.ensures p.written.spells.revision p.written.spells.is (sym item_is ∙ p.written.spells.spelled) in
    let serves = served g.S.Sealer.sealed g.S.Sealer.signed g.H.BlockHash.hashed seed names f chain c.args.d c.args.secret.now has secret_is member i p c.in-Ok.revision read_is in
    let filled = c.in-Ok-fill.ensures seed names 0 has.back serves has.stands (let z : 0 ≤ length has.back = omega arith in z) is in
    let ring0 = ring_is g.S.Sealer.sealed g.S.Sealer.signed g.H.BlockHash.hashed seed names f chain c.args.d c.args.secret.now has secret_is member i p c.in-Ok.revision read_is c.fill.new.ring
    (subst (λ old. HasKeysOf seed c.args.d c.in-Ok.revision.generation (places_behind 0 has.back) old c.fill.new.ring) c.new-ring.ensures filled) in
    let ring = ring_there g.S.Sealer.sealed g.S.Sealer.signed g.H.BlockHash.hashed seed names f chain c.args.d c.args.secret.now has secret_is member i p c.in-Ok.revision read_is c.fill.new.ring ring0 in
    let written = subst (λ b. IsWritten g.S.Sealer.sealed g.S.Sealer.signed g.H.BlockHash.hashed seed names (get f.blocks) p.older_bytes p.older b p.plain) (placed.1 ∙ sym c.deref-2.ensures.value) p.written in
    refused c.in-Err-read_tree.fault _ _ (c.in-Err-read_tree.ensures.read seed names p.older_bytes p.older p.plain written ring)

pub returns-then-is_readable-clause-stands : goal.returns-then-is_readable-clause-stands
returns-then-is_readable-clause-stands g c seed names chain has secret_is member is =
    let f = held c.args.folder.now in
    let lent = map (λ b. b.items) c.args.lent.now in
    let i : ℕ = c.args.number - 1 in
    let bounds = c.requires in
    let mapped = length-map c.args.lent.now (λ b. b.items) in
    let lt : i < length lent = omega (arith, bounds.0, bounds.1, mapped) in
    let e : c.args.number ≡ i + 1 = omega (arith, bounds.0) in
    let at = index_map (λ b. b.items) c.args.lent.now i c.index-lent-number.result ∙ ap (λ b. b.items) (sym c.index-lent-number.is) in
    let placed = whole_placed g.S.Sealer.sealed g.S.Sealer.signed g.H.BlockHash.hashed seed names f has.back has.stands lent is i c.index-lent-number.result.items lt at in
    let p = placed.0 in
    let item_is = placed.1 ∙ sym c.deref.ensures.value in
    let spells = subst (λ b. Spells g.S.Sealer.sealed g.S.Sealer.signed seed names p.older_bytes p.older b p.plain) item_is p.written.spells in
    let read_is = c.in-Ok.ensures p.written.spells.revision p.written.spells.is (sym item_is ∙ p.written.spells.spelled) in
    let serves = served g.S.Sealer.sealed g.S.Sealer.signed g.H.BlockHash.hashed seed names f chain c.args.d c.args.secret.now has secret_is member i p c.in-Ok.revision read_is in
    let filled = c.in-Ok-fill.ensures seed names 0 has.back serves has.stands (let z : 0 ≤ length has.back = omega arith in z) is in
    let ring0 = ring_is g.S.Sealer.sealed g.S.Sealer.signed g.H.BlockHash.hashed seed names f chain c.args.d c.args.secret.now has secret_is member i p c.in-Ok.revision read_is c.fill.new.ring
    (subst (λ old. HasKeysOf seed c.args.d c.in-Ok.revision.generation (places_behind 0 has.back) old c.fill.new.ring) c.new-ring.ensures filled) in
    let ring = ring_there g.S.Sealer.sealed g.S.Sealer.signed g.H.BlockHash.hashed seed names f chain c.args.d c.args.secret.now has secret_is member i p c.in-Ok.revision read_is c.fill.new.ring ring0 in
    let written = subst (λ b. IsWritten g.S.Sealer.sealed g.S.Sealer.signed g.H.BlockHash.hashed seed names (get f.blocks) p.older_bytes p.older b p.plain) (placed.1 ∙ sym c.deref-2.ensures.value) p.written in
    let tree = c.in-Ok-read_tree.ensures.read seed names p.older_bytes p.older p.plain written ring in
    let below : i < length has.back = subst (λ n. i < n) (lent_length g.S.Sealer.sealed g.S.Sealer.signed g.H.BlockHash.hashed seed names f has.back has.stands lent is) lt in
    let hash_is : c.hash_of-hash.result ≡ sha256 c.index-lent-number.result.items = c.hash_of-hash.ensures ∙ ap sha256 c.deref-3.ensures.value in (
      subst (λ h. (let r : Read = record { number = c.args.number; hash = h; tree = c.in-Ok-read_tree.made.0.tree; kept = c.in-Ok-read_tree.made.1; cache = c.in-Ok-read_tree.made.2; ring = c.fill.new.ring; generation = c.in-Ok.revision.generation } in ReadStands g.S.Sealer.sealed g.H.BlockHash.hashed seed f chain r)) (sym hash_is)
          (read_stands g.S.Sealer.sealed g.S.Sealer.signed g.H.BlockHash.hashed seed names f chain c.args.d c.args.secret.now has secret_is member i p c.in-Ok.revision read_is c.args.number e c.index-lent-number.result.items placed.1 below c.in-Ok-read_tree.made.0.tree c.in-Ok-read_tree.made.1 c.in-Ok-read_tree.made.2 c.fill.new.ring ring0 tree.0 tree.1),
      role_is_there g.S.Sealer.sealed g.S.Sealer.signed g.H.BlockHash.hashed seed names f chain c.args.d c.args.secret.now has secret_is member i p c.in-Ok.revision read_is c.in-Ok-read_role.role c.args.number e (c.in-Ok-read_role.ensures seed names has.back has.stands is),
    )

pub returns-clause-stands : goal.returns-clause-stands
returns-clause-stands g c seed names chain has secret_is member is =
    let f = held c.args.folder.now in
    let lent = map (λ b. b.items) c.args.lent.now in
    let i : ℕ = c.args.number - 1 in
    let bounds = c.requires in
    let mapped = length-map c.args.lent.now (λ b. b.items) in
    let lt : i < length lent = omega (arith, bounds.0, bounds.1, mapped) in
    let e : c.args.number ≡ i + 1 = omega (arith, bounds.0) in
    let at = index_map (λ b. b.items) c.args.lent.now i c.index-lent-number.result ∙ ap (λ b. b.items) (sym c.index-lent-number.is) in
    let placed = whole_placed g.S.Sealer.sealed g.S.Sealer.signed g.H.BlockHash.hashed seed names f has.back has.stands lent is i c.index-lent-number.result.items lt at in
    let p = placed.0 in
    let item_is = placed.1 ∙ sym c.deref.ensures.value in
    let spells = subst (λ b. Spells g.S.Sealer.sealed g.S.Sealer.signed seed names p.older_bytes p.older b p.plain) item_is p.written.spells in
    let read_is = c.in-Ok.ensures p.written.spells.revision p.written.spells.is (sym item_is ∙ p.written.spells.spelled) in
    let serves = served g.S.Sealer.sealed g.S.Sealer.signed g.H.BlockHash.hashed seed names f chain c.args.d c.args.secret.now has secret_is member i p c.in-Ok.revision read_is in
    let filled = c.in-Ok-fill.ensures seed names 0 has.back serves has.stands (let z : 0 ≤ length has.back = omega arith in z) is in
    let ring0 = ring_is g.S.Sealer.sealed g.S.Sealer.signed g.H.BlockHash.hashed seed names f chain c.args.d c.args.secret.now has secret_is member i p c.in-Ok.revision read_is c.fill.new.ring
    (subst (λ old. HasKeysOf seed c.args.d c.in-Ok.revision.generation (places_behind 0 has.back) old c.fill.new.ring) c.new-ring.ensures filled) in
    let ring = ring_there g.S.Sealer.sealed g.S.Sealer.signed g.H.BlockHash.hashed seed names f chain c.args.d c.args.secret.now has secret_is member i p c.in-Ok.revision read_is c.fill.new.ring ring0 in
    let written = subst (λ b. IsWritten g.S.Sealer.sealed g.S.Sealer.signed g.H.BlockHash.hashed seed names (get f.blocks) p.older_bytes p.older b p.plain) (placed.1 ∙ sym c.deref-2.ensures.value) p.written in
    let tree = c.in-Ok-read_tree.ensures.read seed names p.older_bytes p.older p.plain written ring in
    let below : i < length has.back = subst (λ n. i < n) (lent_length g.S.Sealer.sealed g.S.Sealer.signed g.H.BlockHash.hashed seed names f has.back has.stands lent is) lt in
    let hash_is : c.hash_of-hash.result ≡ sha256 c.index-lent-number.result.items = c.hash_of-hash.ensures ∙ ap sha256 c.deref-3.ensures.value in
    let yes = subst (λ h. (let r : Read = record { number = c.args.number; hash = h; tree = c.in-Ok-read_tree.made.0.tree; kept = c.in-Ok-read_tree.made.1; cache = c.in-Ok-read_tree.made.2; ring = c.fill.new.ring; generation = c.in-Ok.revision.generation } in is_readable 0 r ≡ true)) (sym hash_is)
    (readable g.S.Sealer.sealed g.S.Sealer.signed g.H.BlockHash.hashed seed names f chain c.args.d c.args.secret.now has secret_is member i p c.in-Ok.revision read_is c.args.number e c.index-lent-number.result.items placed.1 below c.in-Ok-read_tree.made.0.tree c.in-Ok-read_tree.made.1 c.in-Ok-read_tree.made.2 c.fill.new.ring ring0 tree.0 tree.1) in
    let no : true ≡ false = sym yes ∙ sym c.is_readable.ensures ∙ c.if-is_readable.false in
    absurd (clash no)
