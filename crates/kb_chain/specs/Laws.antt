-- Laws of how revisions are spelled.
use Rattle.std.specs.Prelude.{◌≡◌, ℕ, List, ◌++◌}
use Rattle.kb_chain.specs.declared.revisions.RevisionKind.{RevisionKind}
use Rattle.kb_chain.specs.declared.revisions.Revision.{Revision}
use Rattle.kb_chain.specs.declared.privates.Private.{Private}
use Rattle.kb_chain.specs.Revisions.{revision_text, IsRevision, IsProper}
use Rattle.kb_chain.specs.Privates.{private_text, IsPrivate, IsProperPrivate}

-- bytes spell one revision at most, and so do the bytes at the front of others
abbrev pub RevisionsApart : Type 0
RevisionsApart = (r s : Revision) (rest more : List ℕ) → IsRevision r → IsRevision s → revision_text r ++ rest ≡ revision_text s ++ more → (r ≡ s) × (rest ≡ more)

-- a text spells one private part of a kind at most
abbrev pub PrivatesApart : Type 0
PrivatesApart = (kind : RevisionKind) (p q : Private) (rest more : List ℕ) → IsPrivate kind p → IsPrivate kind q → private_text kind p ++ rest ≡ private_text kind q ++ more → (p ≡ q) × (rest ≡ more)

-- what was read can be written
abbrev pub RevisionIsProper : Type 0
RevisionIsProper = (r : Revision) → IsRevision r → IsProper r

abbrev pub PrivateIsProper : Type 0
PrivateIsProper = (kind : RevisionKind) (p : Private) → IsPrivate kind p → IsProperPrivate kind p
