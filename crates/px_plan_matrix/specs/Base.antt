-- The plan that runs.
use Rattle.std.specs.Prelude.{◌≡◌}
use Rattle.px_superstep.specs.declared.plan.Plan.{Plan}
use Rattle.px_superstep.specs.declared.plan.JoinKind.TheVariants.{Full}
use Rattle.px_superstep.specs.declared.plan.GroupKind.TheVariants.{Sort}
use Rattle.px_superstep.specs.declared.plan.ConnectorKind.TheVariants.{Plain}
use Rattle.px_superstep.specs.declared.plan.StoreKind.TheVariants.{BTree}

-- all vertices are scanned, messages sorted and sent as they come, and vertices lie in trees
pub record IsBasePlan (plan : Plan) : Type 0 where
  pub join : plan.join ≡ Full
  pub group : plan.group ≡ Sort
  pub connector : plan.connector ≡ Plain
  pub store : plan.store ≡ BTree
