-- A device's opening, from that of its session.
use Rattle.std.proofs.Common.{◌≡◌, ℕ, true, List, Option, None, Some, is_some, Ok, Err, refl, sym, ap, subst, ◌∙◌}
use Rattle.std.specs.Prelude.{IsSome}
use Rattle.std.specs.Option.{option_map}
use Rattle.kb_edge.specs.declared.disk.Disk.{Ghosts}
use Rattle.kb_seal.specs.declared.sealer.Sealer.{Ghosts as Seals}
use Rattle.kb_blocks.specs.declared.hashing.BlockHash.{Ghosts as Hashes}
use Rattle.kb_folder.specs.Chains.{Names}
use Rattle.kb_folder.specs.Puts.{Held}
use Rattle.kb_folder.specs.Held.{is_member}
use Rattle.kb_device.specs.Inside.{Inside}
use Rattle.kb_device.specs.Stands.{Platter, Member}
use Rattle.kb_device.specs.Views.{inside, platter}
use Rattle.kb_device.specs.Devices.{disk_in, IsView}
use Rattle.kb_device.specs.Telling.{told_status, status_in}
use Rattle.kb_device.specs.Opened.{Begins, OpenFails, OpenDoes, OpenAnswers}
use Rattle.kb_device.specs.declared.called.Status.{Status}
use Rattle.kb_device.specs.declared.answers.OpenFault.{OpenFault}
use Rattle.kb_device.specs.declared.answers.OpenFault.TheVariants as fault
use Rattle.kb_device.specs.declared.device.Device.{Device}
use Rattle.kb_device.proofs.Openings.{open_goes, open_fails}
use Rattle.kb_device.proofs.Picks.{inside_at}

some_mapped : {A B : Type 0} (f : A → B) (o : Option A) → is_some o ≡ true → IsSome (option_map f o)
some_mapped f (Some x) h = refl
some_mapped f None h = cc

the_some : {A : Type 0} (o : Option A) → IsSome o → (x : A) × (o ≡ Some x)
the_some (Some x) h = (x, refl)
the_some None h = cc

module _ {D S H : Type 0} {disks : Ghosts D} {sealers : Seals S} {hashes : Hashes H} (device : Device D S H disks sealers hashes) (v : Member) (view : IsView device v) where
  pub rest_disk : (disk : D) → device.resting ≡ Some disk → v.disk ≡ platter disks disk
  rest_disk disk rests =
      let same : Some view.held ≡ Some disk = sym view.has ∙ ap (λ o. disk_in o device.session) rests in
      let is : view.held ≡ disk = cc in
      view.disk ∙ ap (platter disks) is

  pub has_inside : is_some device.session ≡ true → IsSome v.inside
  has_inside some = subst IsSome (sym view.inside_is) (some_mapped inside device.session some)

module _ (sealed signed : List ℕ → List ℕ → List ℕ) (hashed : List ℕ → List ℕ) (f : Held) (v : Member) where
  -- a device of this number and secret, on this disk, that is closed
  module _ (d : ℕ) (secret : List ℕ) (disk now : Platter) (number_is : v.number ≡ d) (secret_is : v.secret ≡ secret) (disk_is : v.disk ≡ disk) (none : v.inside ≡ None) where
    began : (s : Inside) → Begins sealed signed hashed f d secret disk now s → Begins sealed signed hashed f v.number v.secret v.disk now s
    began s b = subst (λ n. Begins sealed signed hashed f n v.secret v.disk now s) (sym number_is) (subst (λ k. Begins sealed signed hashed f d k v.disk now s) (sym secret_is) (subst (λ (x : Platter). Begins sealed signed hashed f d secret x now s) (sym disk_is) b))

    failed : (why : OpenFault) → OpenFails sealed signed hashed f d secret disk now why → OpenFails sealed signed hashed f v.number v.secret v.disk now why
    failed why b = subst (λ n. OpenFails sealed signed hashed f n v.secret v.disk now why) (sym number_is) (subst (λ k. OpenFails sealed signed hashed f d k v.disk now why) (sym secret_is) (subst (λ (x : Platter). OpenFails sealed signed hashed f d secret x now why) (sym disk_is) b))

    pub begins_does : (s : Inside) (status : Status) → is_member f d ≡ true → Begins sealed signed hashed f d secret disk now s → told_status status ≡ status_in s → OpenDoes sealed signed hashed f v (record v { disk = now; inside = Some s }) (Ok status)
    begins_does s status member b told = (none, subst (λ n. is_member f n ≡ true) (sym number_is) member, (s, record { inside_is = refl; status_is = told }, began s b))

    pub begins_goes : (seed : List ℕ) (names : Names) (s : Inside) (status : Status) → is_member f d ≡ true → Begins sealed signed hashed f d secret disk now s → told_status status ≡ status_in s → OpenAnswers sealed signed hashed seed names f v (record v { disk = now; inside = Some s }) (Ok status)
    begins_goes seed names s status member b told = open_goes sealed signed hashed seed names f v none now s status (subst (λ n. is_member f n ≡ true) (sym number_is) member) (began s b) told

    by_fault : (why : OpenFault) → OpenFails sealed signed hashed f v.number v.secret v.disk now why → OpenDoes sealed signed hashed f v (record v { disk = now; inside = None }) (Err why)
    by_fault fault.AlreadyOpen b = absurd b
    by_fault fault.NotMember b = (none, refl, b)
    by_fault fault.Stopped b = (none, refl, b)
    by_fault fault.BadDisk b = (none, refl, b)
    by_fault (fault.Foreign known) b = (none, refl, b)
    by_fault (fault.BadFolder number) b = (none, refl, b)
    by_fault fault.Memory b = (none, refl, b)

    pub fails_does : (why : OpenFault) → OpenFails sealed signed hashed f d secret disk now why → OpenDoes sealed signed hashed f v (record v { disk = now; inside = None }) (Err why)
    fails_does why b = by_fault why (failed why b)

    pub fails_goes : (seed : List ℕ) (names : Names) (why : OpenFault) → OpenFails sealed signed hashed f d secret disk now why → OpenAnswers sealed signed hashed seed names f v (record v { disk = now; inside = None }) (Err why)
    fails_goes seed names why b = open_fails sealed signed hashed seed names f v none now why (failed why b)

  pub already_goes : (seed : List ℕ) (names : Names) → IsSome v.inside → OpenAnswers sealed signed hashed seed names f v v (Err fault.AlreadyOpen)
  already_goes seed names some = λ c p lawful part has h.
      let s = the_some v.inside some in
      (p, (refl, (inside_at sealed signed hashed seed names v.number f c v p s.0 s.1 h).at.session), h)
