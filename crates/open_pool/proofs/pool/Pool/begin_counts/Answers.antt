use Rattle.std.proofs.Common.{◌≡◌, ◌++◌, List, length, map, take, drop, None, is_some, sym, ap, ◌∙◌, subst}
use Rattle.vdev_tree.specs.declared.top.Top.{Top}
use Rattle.vdev_tree.specs.declared.vdev.LeafVdev.{LeafVdev}
use Rattle.vdev_tree.proofs.Lists.{AllZip-mapped}
use Rattle.dtl_rules.specs.Widening.{leaves_of, marks_of, sectors_of}
use Rattle.pool_moves.specs.CommitRows.{uncounts}
use Rattle.pool_moves.specs.Moves.{steps}
use Rattle.open_pool.specs.contracts.pool.Pool.{the_view}
use Rattle.open_pool.specs.Form.{IsPool}
use Rattle.open_pool.specs.Here.{AreHere}
use Rattle.open_pool.specs.Parts.{PoolParts, all_parts}
use Rattle.open_pool.specs.Resuming.{uncounted}
use Rattle.open_pool.specs.State.{Stands}
use Rattle.open_pool.proofs.BoardLeft.{items_back}
use Rattle.open_pool.proofs.CountsBegin.{Uncounts, here_then, none_frozen, pool_then, stands_then}
use Rattle.open_pool.proofs.SetsOffline.{with_trees}
use Rattle.open_pool.proofs.pool.Pool.begin_counts.Goals as goal

begun : (c : goal.After-self-1) → Uncounts c.self.inside.tops.items c.change_tops.new.tops
begun c =
    let was = c.deref_mut.ensures.value in
    record {
      leaves = AllZip-mapped LeafVdev uncounted _ _ c.change_tops.ensures.leaves ∙ ap (λ (ts : List Top). map uncounted (leaves_of ts)) was;
      built = c.change_tops.ensures.built ∙ ap marks_of was;
      sectors = c.change_tops.ensures.sectors ∙ ap sectors_of was;
    }

back : (c : goal.After-self-1) (P : PoolParts → Type 0) → P (with_trees (the_view c.self.inside) c.change_tops.new.tops)
    → P (record (the_view c.self.inside) {
      tops = all_parts (take c.self.inside.tops.len (c.change_tops.new.tops ++ drop (length c.change_tops.new.tops) c.self.inside.tops.items));
    })
back c P has = subst (λ (ts : List Top). P (with_trees (the_view c.self.inside) ts))
    (sym (items_back c.self.inside.tops.len c.deref_mut.result.now c.change_tops.new.tops c.self.inside.tops.items c.deref_mut.ensures.len c.change_tops.ensures.built)) has

idle : (c : goal.After-self-1) → (the_view c.self.inside).frozen ≡ None
idle c = none_frozen _ (ap (λ (q : PoolParts). is_some q.frozen) c.self.view_is ∙ c.requires)

pub invariant_of-self : goal.invariant_of-self
invariant_of-self c = (
  back c IsPool (pool_then (the_view c.self.inside) _ _ (begun c) (idle c) c.self.invariant.0),
  c.self.invariant.1,
)

pub returns-clause-counts : goal.returns-clause-counts
returns-clause-counts c = λ s stands.
    back c (λ q. Stands q (steps (uncounts s.core.leaves) s))
    (stands_then (the_view c.self.inside) _ _ (begun c) c.self.invariant.0 s (subst (λ q. Stands q s) (sym c.self.view_is) stands))

pub returns-clause-here : goal.returns-clause-here
returns-clause-here c = λ size here.
    back c (λ q. AreHere size q.tops)
    (here_then (the_view c.self.inside) _ _ (begun c) size (subst (λ (q : PoolParts). AreHere size q.tops) (sym c.self.view_is) here))
