-- The tops of an open pool are so few, and so large, as the engine asks.
use Rattle.std.proofs.Common.{◌≡◌, ◌≤◌, List, [], ◌∷◌, length, map, refl, ap, subst, arith}
use Rattle.std.specs.List.{AllByRecursion}
use Rattle.std.proofs.lemmas.List.Elements.{recursion_from_All, All-from_recursion}
use Rattle.block_map.specs.Places.{AreTops}
use Rattle.vdev_tree.specs.declared.top.Top.{Top}
use Rattle.dtl_rules.specs.Widening.{sectors_of}
use Rattle.pool_config.specs.Seen.{top_seen}
use Rattle.pool_config.specs.Validity.{IsTop}
use Rattle.txg_engine.specs.Frozen.{FrozenGroup}
use Rattle.open_pool.specs.Form.{IsPool}
use Rattle.open_pool.specs.Parts.{PoolParts}
use Rattle.open_pool.proofs.TurnSteps.{going}
use Rattle.open_pool.proofs.RecordKept.{tops_seen}

sized : (trees : List Top) → AllByRecursion IsTop (map top_seen trees) → AllByRecursion (λ s. s ≤ 1048320) (sectors_of trees)
sized [] all = tt
sized (top ∷ trees) all = (all.0.sectors.1, sized trees all.1)

pub as_many : (trees : List Top) → length (sectors_of trees) ≡ length (map top_seen trees)
as_many [] = refl
as_many (top ∷ trees) = let rest = as_many trees in omega (arith, rest)

pub tops_sized : (b : PoolParts) (group : FrozenGroup) (trees : List Top) → IsPool (going b group trees) → AreTops (sectors_of trees)
tops_sized b group trees pool =
    let few = pool.recordable.few_tops in
    let long = as_many trees in
    let seen = ap length (tops_seen trees) in
    record {
      some = omega (arith, few, long, seen);
      most = omega (arith, few, long, seen);
      sizes = All-from_recursion (λ s. s ≤ 1048320) (sectors_of trees)
          (sized trees (subst (AllByRecursion IsTop) (tops_seen trees) (recursion_from_All IsTop _ pool.recordable.tops)));
    }
