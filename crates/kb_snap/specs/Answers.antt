-- What the folder answers, as plain values.
use Rattle.std.specs.Prelude.{ℕ, List}

-- why the folder doesn't take a revision. Of a collision it tells the block's id, of a late number its length
pub data PutFault : Type 0 where
  NotWriter : PutFault
  Stale : ℕ → PutFault
  ChainEnd : PutFault
  Collision : List ℕ → PutFault

-- why no blocks are taken out of the warm ones. Of a number past the end the chain's length is told
pub data ReclaimFault : Type 0 where
  NotWriter : ReclaimFault
  Past : ℕ → ReclaimFault

-- why the tree of a revision isn't shown
pub data PastFault : Type 0 where
  NotMember : PastFault
  NoRevision : ℕ → PastFault

-- why the members don't change
pub data RekeyFault : Type 0 where
  NotWriter : RekeyFault
  Known : RekeyFault
  NotMember : RekeyFault
  LastWriter : RekeyFault
  GenEnd : RekeyFault
  ChainEnd : RekeyFault
