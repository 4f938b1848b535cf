-- What is asked of one revision's bytes behind those before it, fact by fact, in the order in which they are told.
use Rattle.std.specs.Prelude.{◌≡◌, ◌≢◌, ℕ, ◌+◌, ◌≤◌, List, [], ◌∷◌, length, reverse, Option, Some, None}
use Rattle.kb_ops.specs.declared.rows.Op.{Op}
use Rattle.kb_ops.specs.Trees.{fold_ops, FitAll}
use Rattle.kb_keys.specs.Secrets.{device_secret, folder_key}
use Rattle.kb_files.specs.Opens.{Blocks}
use Rattle.kb_chain.specs.declared.revisions.RevisionKind.{RevisionKind}
use Rattle.kb_chain.specs.declared.revisions.RevisionKind.TheVariants.{Found, Step, Steps, Merge, Join, Rekey}
use Rattle.kb_chain.specs.declared.bundles.BundlePart.{BundlePart}
use Rattle.kb_chain.specs.declared.revisions.Revision.{Revision}
use Rattle.kb_chain.specs.declared.privates.Private.{Private}
use Rattle.kb_chain.specs.Revisions.{revision_text, signed_text, IsRevision}
use Rattle.kb_chain.specs.Privates.{private_text, IsPrivate}
use Rattle.kb_rules.specs.Meet.{Meet}
use Rattle.kb_snap.specs.Chains.{Deed, Founded, Stepped, Merged, Rekeyed, moment_of_last, stamp_of}
use Rattle.kb_snap.specs.Lawful.{AreOf, AreFew}
use Rattle.kb_snap.specs.Members.{FitsAction}
use Rattle.kb_folder.specs.Chains.{Plain, Back, Names, tree_at, generation_in, places_of, ops_of, IsAllowed, Suits}
use Rattle.kb_folder.specs.Stands.{Revisions, HaveSeqs, HoldsAfter, bundle_for, head_of}

-- ---- what a revision says in plain words

abbrev pub base_or : Option ℕ → ℕ
base_or None = 0
base_or (Some base) = base

abbrev pub rekeyed_by : Option BundlePart → Deed
rekeyed_by None = Founded
rekeyed_by (Some p) = Rekeyed p.action p.device

-- what it did, where its operations branched from this base. The kind of a merge tells its rule
abbrev pub deed_by : RevisionKind → Option BundlePart → ℕ → List Op → Deed
deed_by Found part base ops = Founded
deed_by Step part base ops = Stepped ops
deed_by Steps part base ops = Stepped ops
deed_by Merge part base ops = Merged base 1 ops
deed_by Join part base ops = Merged base 2 ops
deed_by Rekey part base ops = rekeyed_by part

abbrev pub plain_by : Names → Revision → ℕ → List Op → Plain
plain_by names r base ops = record { writer = r.writer; name = names r.writer; moment = r.moment; deed = deed_by r.kind r.bundle base ops }

-- the plain revision
abbrev pub plain_of : Names → Revision → Private → Plain
plain_of names r p = plain_by names r (base_or p.base) p.ops

-- and without what its private part says, which changes no member and no key
abbrev pub outline_of : Names → Revision → Plain
outline_of names r = plain_by names r 0 []

-- ---- the facts

-- Form: the bytes spell a revision
pub record HasForm (b : List ℕ) : Type 0 where
  pub revision : Revision
  pub is : IsRevision revision
  pub spelled : b ≡ revision_text revision

-- Writer: the device is registered, and is a writer where there are revisions before
abbrev pub HasWriter : ℕ → Back → ℕ → Type 0
HasWriter registered c writer = IsAllowed c writer × (1 ≤ writer) × (writer ≤ registered)

-- Seq: the operations go on where those of the writer ended
abbrev pub HasSeq : Back → Revision → RevisionKind → Type 0
HasSeq c r Found = Unit {0}
HasSeq c r Step = r.first ≡ length (ops_of r.writer c) + 1
HasSeq c r Steps = r.first ≡ length (ops_of r.writer c) + 1
HasSeq c r Merge = r.first ≡ length (ops_of r.writer c) + 1
HasSeq c r Join = r.first ≡ length (ops_of r.writer c) + 1
HasSeq c r Rekey = Unit {0}

-- a founding comes first and only there, and a change of the members is one that may be made
abbrev pub MayDo : ℕ → Back → ℕ → Deed → Type 0
MayDo registered c writer Founded = c ≡ []
MayDo registered c writer (Stepped ops) = c ≢ []
MayDo registered c writer (Merged base rule ops) = c ≢ []
MayDo registered c writer (Rekeyed action who) = (c ≢ []) × FitsAction (reverse c) action who × Suits registered c writer (Rekeyed action who)

-- Fit: it may be done, and the generation and the entries are those that follow from it
pub record HasFit (sealed : List ℕ → List ℕ → List ℕ) (seed : List ℕ) (names : Names) (registered : ℕ) (c : Back) (r : Revision) : Type 0 where
  pub may : MayDo registered c r.writer (outline_of names r).deed
  pub generation : r.generation ≡ generation_in (outline_of names r ∷ c)
  pub bundle : r.bundle ≡ bundle_for sealed seed r.writer (outline_of names r).deed (places_of (outline_of names r ∷ c))

abbrev pub IsBelow : Option ℕ → ℕ → Type 0
IsBelow None number = Unit {0}
IsBelow (Some base) number = base + 1 ≤ number

abbrev pub HasMoment : RevisionKind → ℕ → List Op → Type 0
HasMoment Found moment ops = Unit {0}
HasMoment Step moment ops = moment ≡ moment_of_last ops
HasMoment Steps moment ops = moment ≡ moment_of_last ops
HasMoment Merge moment ops = Unit {0}
HasMoment Join moment ops = Unit {0}
HasMoment Rekey moment ops = Unit {0}

-- the operations are the writer's from the first seq to the last, the base is below the number, and a step is at its last operation's moment
pub record IsOwn (r : Revision) (part : Private) : Type 0 where
  pub own : AreOf r.writer part.ops
  pub seqs : HaveSeqs r.first r.last part.ops
  pub base : IsBelow part.base r.number
  pub moment : HasMoment r.kind r.moment part.ops

-- what the private part opens to
pub record IsPrivateOf (sealed : List ℕ → List ℕ → List ℕ) (seed : List ℕ) (r : Revision) (part : Private) : Type 0 where
  pub is : IsPrivate r.kind part
  pub opens : r.private ≡ sealed (folder_key seed r.generation) (private_text r.kind part)
  pub own : IsOwn r part

-- Private: the private part opens to one of the revision
pub record HasPrivate (sealed : List ℕ → List ℕ → List ℕ) (seed : List ℕ) (r : Revision) : Type 0 where
  pub part : Private
  pub of : IsPrivateOf sealed seed r part

-- Operation: each fits where it is folded, and the trees of a merge can be merged
abbrev pub HasOperation : Back → Plain → Deed → Type 0
HasOperation c x Founded = Unit {0}
HasOperation c x (Stepped ops) = FitAll ops (tree_at c (length c))
HasOperation c x (Merged base rule ops) = FitAll ops (tree_at c base) × Meet (tree_at c base) (tree_at c (length c)) (fold_ops ops (tree_at c base)) (stamp_of x rule ops)
HasOperation c x (Rekeyed action who) = Unit {0}

-- The trees of a merge have so few rows as trees in memory have, which no reason tells.
abbrev pub HasRoom : Back → Deed → Type 0
HasRoom c Founded = Unit {0}
HasRoom c (Stepped ops) = Unit {0}
HasRoom c (Merged base rule ops) = AreFew (tree_at c (length c)) (fold_ops ops (tree_at c base))
HasRoom c (Rekeyed action who) = Unit {0}

module _ (sealed signed : List ℕ → List ℕ → List ℕ) (hashed : List ℕ → List ℕ) (seed : List ℕ) (names : Names) (registered : ℕ) (blocks : Blocks) where
  -- Signature: it is the writer's
  abbrev pub HasSignature : Revision → Type 0
  HasSignature r = r.signature ≡ signed (device_secret seed r.writer) (signed_text r)

  -- Blocks: the pointer holds the tree after it, by blocks of no later generation, and the root has that tree's mtime
  abbrev pub HasBlocks : Back → Revision → Private → Type 0
  HasBlocks c r p = HoldsAfter sealed hashed seed blocks (plain_of names r p ∷ c) r.generation p

  -- All facts hold of the bytes behind those that stand for the chain.
  pub record IsGood (bs : Revisions) (c : Back) (b : List ℕ) : Type 0 where
    pub form : HasForm b
    pub number : form.revision.number ≡ length c + 1
    pub previous : form.revision.previous ≡ head_of bs
    pub writer : HasWriter registered c form.revision.writer
    pub signature : HasSignature form.revision
    pub seq : HasSeq c form.revision form.revision.kind
    pub fit : HasFit sealed seed names registered c form.revision
    pub private : HasPrivate sealed seed form.revision
    pub operation : HasOperation c (plain_of names form.revision private.part) (plain_of names form.revision private.part).deed
    pub room : HasRoom c (plain_of names form.revision private.part).deed
    pub held : HasBlocks c form.revision private.part

  -- what the good bytes say
  abbrev pub told_by : (bs : Revisions) (c : Back) (b : List ℕ) → IsGood bs c b → Plain
  told_by bs c b g = plain_of names g.form.revision g.private.part
