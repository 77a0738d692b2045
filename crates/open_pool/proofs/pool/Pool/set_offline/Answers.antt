use Rattle.std.proofs.Common.{refl}
use Rattle.open_pool.proofs.SetsOffline.{sets_off}
use Rattle.open_pool.proofs.pool.Pool.set_offline.Goals as goal

pub invariant_of-self : goal.invariant_of-self
invariant_of-self c = (
  (sets_off c.args.at c.args.temporary _ c.args.self.now c.self.view_is c.self.inside.tops.items refl c.self.invariant.0
      c.args.top c.requires.inside c.requires.there c.requires.off c.index_mut.result.now c.set_state.new.self
      c.index_mut.ensures.value c.set_state.ensures.leaves c.set_state.ensures.built c.set_state.ensures.sectors).pool,
  c.self.invariant.1,
)

pub returns : goal.returns
returns c = record {
  set = (sets_off c.args.at c.args.temporary _ c.args.self.now c.self.view_is c.self.inside.tops.items refl c.self.invariant.0
      c.args.top c.requires.inside c.requires.there c.requires.off c.index_mut.result.now c.set_state.new.self
      c.index_mut.ensures.value c.set_state.ensures.leaves c.set_state.ensures.built c.set_state.ensures.sectors).stands;
}
