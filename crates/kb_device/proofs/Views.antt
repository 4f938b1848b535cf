-- A device as plain values, whose session changes.
use Rattle.std.proofs.Common.{◌≡◌, None, Some, refl, sym, ap, ◌∙◌}
use Rattle.std.specs.Option.{option_map}
use Rattle.kb_edge.specs.declared.disk.Disk.{Ghosts}
use Rattle.kb_seal.specs.declared.sealer.Sealer.{Ghosts as Seals}
use Rattle.kb_blocks.specs.declared.hashing.BlockHash.{Ghosts as Hashes}
use Rattle.kb_device.specs.Stands.{Member}
use Rattle.kb_device.specs.Views.{inside, platter}
use Rattle.kb_device.specs.declared.session.Session.{Session}
use Rattle.kb_device.specs.declared.device.Device.{Device}
use Rattle.kb_device.specs.Devices.{disk_in, IsView}

module _ {D S H : Type 0} {disks : Ghosts D} {sealers : Seals S} {hashes : Hashes H} (old : Device D S H disks sealers hashes) where
  pub inside_of : (v : Member) (s : Session D H) → IsView old v → old.session ≡ Some s → v.inside ≡ Some (inside s)
  inside_of v s view some = view.inside_is ∙ ap (option_map inside) some

  pub outside_of : (v : Member) → IsView old v → old.session ≡ None → v.inside ≡ None
  outside_of v view none = view.inside_is ∙ ap (option_map inside) none

  pub disk_of : (v : Member) (s : Session D H) → IsView old v → old.resting ≡ None → old.session ≡ Some s → v.disk ≡ platter disks s.journal.disk
  disk_of v s view rests some =
      let same : Some view.held ≡ Some s.journal.disk = sym view.has ∙ (λ i. disk_in (rests i) (some i)) in
      let is : view.held ≡ s.journal.disk = cc in
      view.disk ∙ ap (platter disks) is

  -- a device that is as it was
  pub same_view : (new : Device D S H disks sealers hashes) (v : Member) → new.number ≡ old.number → new.name ≡ old.name → new.secret ≡ old.secret → new.resting ≡ old.resting → new.session ≡ old.session → IsView old v → IsView new v
  same_view new v number name secret resting session view = record {
    number = view.number ∙ sym number;
    name = view.name ∙ sym name;
    secret = view.secret ∙ sym secret;
    held = view.held;
    has = (λ i. disk_in (resting i) (session i)) ∙ view.has;
    disk = view.disk;
    inside_is = view.inside_is ∙ ap (option_map inside) (sym session);
  }

  -- a device whose session is another
  pub next_view : (new : Device D S H disks sealers hashes) (v : Member) (t : Session D H) → new.number ≡ old.number → new.name ≡ old.name → new.secret ≡ old.secret → new.resting ≡ None → new.session ≡ Some t → IsView old v
      → IsView new (record v { disk = platter disks t.journal.disk; inside = Some (inside t) })
  next_view new v t number name secret resting session view = record {
    number = view.number ∙ sym number;
    name = view.name ∙ sym name;
    secret = view.secret ∙ sym secret;
    held = t.journal.disk;
    has = λ i. disk_in (resting i) (session i);
    disk = refl;
    inside_is = ap (option_map inside) (sym session);
  }

  -- a device whose session has ended
  pub rest_view : (new : Device D S H disks sealers hashes) (v : Member) (disk : D) → new.number ≡ old.number → new.name ≡ old.name → new.secret ≡ old.secret → new.resting ≡ Some disk → new.session ≡ None → IsView old v
      → IsView new (record v { disk = platter disks disk; inside = None })
  rest_view new v disk number name secret resting session view = record {
    number = view.number ∙ sym number;
    name = view.name ∙ sym name;
    secret = view.secret ∙ sym secret;
    held = disk;
    has = λ i. disk_in (resting i) (session i);
    disk = refl;
    inside_is = ap (option_map inside) (sym session);
  }

  -- a device whose session is another, on the same disk
  pub kept_view : (new : Device D S H disks sealers hashes) (v : Member) (t : Session D H) → new.number ≡ old.number → new.name ≡ old.name → new.secret ≡ old.secret → new.resting ≡ None → new.session ≡ Some t → v.disk ≡ platter disks t.journal.disk → IsView old v
      → IsView new (record v { inside = Some (inside t) })
  kept_view new v t number name secret resting session disk view = record {
    number = view.number ∙ sym number;
    name = view.name ∙ sym name;
    secret = view.secret ∙ sym secret;
    held = t.journal.disk;
    has = λ i. disk_in (resting i) (session i);
    disk = disk;
    inside_is = ap (option_map inside) (sym session);
  }
