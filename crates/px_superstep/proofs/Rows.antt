-- Rows of what plans need, and of how frames are shared out.
use Rattle.std.proofs.Common.{◌≡◌, ℕ, refl}
use Rattle.px_superstep.specs.declared.plan.JoinKind.{JoinKind}
use Rattle.px_superstep.specs.declared.plan.GroupKind.{GroupKind}
use Rattle.px_superstep.specs.declared.plan.ConnectorKind.{ConnectorKind}
use Rattle.px_superstep.specs.declared.plan.Plan.{Plan}
use Rattle.px_superstep.specs.declared.plan.StoreKind.TheVariants.{BTree, Lsm}
use Rattle.px_superstep.specs.Plans.{needed, shared}

module _ (j : JoinKind) (g : GroupKind) (c : ConnectorKind) where
  abbrev btree : Plan
  btree = record { join = j; group = g; connector = c; store = BTree }

  abbrev lsm : Plan
  lsm = record { join = j; group = g; connector = c; store = Lsm }

  pub need-values-1 : needed btree 1 ≡ 24
  need-values-1 = refl

  pub need-values-4 : needed btree 4 ≡ 30
  need-values-4 = refl

  pub need-values-16 : needed btree 16 ≡ 54
  need-values-16 = refl

  pub shares-btree : shared btree 4 64 ≡ record { work = 4; streams = 6; out = 8; group = 24; cache = 22; lsm = 0 }
  shares-btree = refl

  pub shares-lsm : shared lsm 4 64 ≡ record { work = 4; streams = 6; out = 8; group = 20; cache = 16; lsm = 10 }
  shares-lsm = refl
