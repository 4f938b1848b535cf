-- How a device's calls go on, for devices as plain values.
use Rattle.std.specs.Prelude.{ℕ, List}
use Rattle.kb_chain.specs.declared.states.FolderRequest.{FolderRequest}
use Rattle.kb_snap.specs.Chains.{Chain}
use Rattle.kb_device.specs.Parts.{Flight, Part}
use Rattle.kb_device.specs.CallForms as forms
use Rattle.kb_folder.specs.Chains.{Names}
use Rattle.kb_folder.specs.Puts.{Held}
use Rattle.kb_folder.specs.Goes.{HasChain, IsFor, Grows}
use Rattle.kb_device.specs.Stands.{Member, DeviceStands}

module _ (sealed signed : List ℕ → List ℕ → List ℕ) (hashed : List ℕ → List ℕ) (seed : List ℕ) (names : Names) where
  -- A device stands for its part while the folder goes on.
  abbrev pub StandsLonger : Type 0
  StandsLonger = forms.StandsLonger Grows (DeviceStands sealed signed hashed seed names) (HasChain sealed signed hashed seed names) (IsFor sealed signed hashed seed names)

  -- a call of a device, whatever the folder
  abbrev pub DeviceGoes : ℕ → Member → Member → (Part → Part → Type 0) → Type 0
  DeviceGoes = forms.DeviceGoes Grows (DeviceStands sealed signed hashed seed names) (HasChain sealed signed hashed seed names) (IsFor sealed signed hashed seed names)

  -- a pick that gives a request
  abbrev pub PickGoes : ℕ → List ℕ → Member → Member → Flight → FolderRequest → Type 0
  PickGoes = forms.PickGoes Grows (DeviceStands sealed signed hashed seed names) (HasChain sealed signed hashed seed names) (IsFor sealed signed hashed seed names) 1

  -- it stands for the part that it stood for
  abbrev pub DeviceStays : ℕ → Member → Member → Type 0
  DeviceStays d old new = (f : Held) (c : Chain) (p : Part) → DeviceStands sealed signed hashed seed names d f c old p → DeviceStands sealed signed hashed seed names d f c new p
