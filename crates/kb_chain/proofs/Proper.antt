-- What was read can be written.
use Rattle.std.proofs.Common.{◌≡◌, ℕ, List, [], ◌∷◌, Option, Some, None}
use Rattle.std.specs.List.{AllByRecursion}
use Rattle.kb_ops.specs.declared.rows.Op.{Op}
use Rattle.kb_ops.specs.Grammar as grammar
use Rattle.kb_chain.specs.declared.revisions.RevisionKind.{RevisionKind}
use Rattle.kb_chain.specs.declared.revisions.Revision.{Revision}
use Rattle.kb_chain.specs.declared.privates.Private.{Private}
use Rattle.kb_chain.specs.declared.bundles.BundlePart.{BundlePart}
use Rattle.kb_chain.specs.Revisions.{MayBePart, MayBeProper, IsRevision, IsProper}
use Rattle.kb_chain.specs.Privates.{IsPrivate, IsProperPrivate}

proper_bundle : (o : Option BundlePart) → MayBePart o → MayBeProper o
proper_bundle None h = tt
proper_bundle (Some p) h = record { few = h.few; rising = h.rising }

pub proper : (r : Revision) → IsRevision r → IsProper r
proper r is = record { rules = is.rules; bundle = proper_bundle r.bundle is.room.bundle; private = is.room.private }

proper_ops : (ops : List Op) → AllByRecursion grammar.IsOp ops → AllByRecursion grammar.IsProper ops
proper_ops [] all = tt
proper_ops (op ∷ ops) all = (all.0.proper, proper_ops ops all.1)

pub proper_private : (kind : RevisionKind) (p : Private) → IsPrivate kind p → IsProperPrivate kind p
proper_private kind p is = record { base = is.base; count = is.count; ops = proper_ops p.ops is.ops }
