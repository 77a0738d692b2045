use Rattle.std.proofs.Common.{◌≤◌, length, refl, sym, ◌∙◌, arith}
use Rattle.vdev_tree.specs.Tree.{leaves}
use Rattle.vdev_tree.specs.declared.vdev.LeafVdev.{LeafVdev}
use Rattle.pool_codec.specs.Tops.{LiesWithin}
use Rattle.txg_engine.proofs.Seating.{got_inside}
use Rattle.open_pool.proofs.LeavesPut.{none_placed, none_left, same_leaf, put_more, put_all, tells_more, tells_all}
use Rattle.open_pool.proofs.placing.place_under.Goals as goal

abbrev lies : LeafVdev → Type 0
lies leaf = LiesWithin leaf.log

pub loop-place-init : goal.loop-place-init
loop-place-init c = record {
  inside = omega arith;
  put = sym (none_placed (leaves c.args.top.now.mirror));
  built = refl;
  sectors = refl;
  lie = λ k leaf lt is. absurd (omega (arith, lt));
}

past : (c : goal.In_default) → length (leaves c.args.top.now.mirror) ≤ c.loop-place.place
past c = none_left (leaves c.args.top.now.mirror) c.args.devs.now c.args.at c.loop-place.place (leaves c.loop-place.top.mirror) c.loop-place.invariant.put
    (sym c.in_default.ensures)

pub returns-in_default-clause-behind : goal.returns-in_default-clause-behind
returns-in_default-clause-behind c = let end = past c in let inside = c.loop-place.invariant.inside in omega (arith, end, inside)

pub returns-in_default-clause-leaves : goal.returns-in_default-clause-leaves
returns-in_default-clause-leaves c =
    put_all (leaves c.args.top.now.mirror) c.args.devs.now c.args.at c.loop-place.place (leaves c.loop-place.top.mirror) (past c) c.loop-place.invariant.put

pub returns-in_default-clause-lie : goal.returns-in_default-clause-lie
returns-in_default-clause-lie c =
    tells_all (leaves c.args.top.now.mirror) c.args.devs.now c.args.at lies c.loop-place.place (past c) c.loop-place.invariant.lie

pub bounds-devs-at : goal.bounds-devs-at
bounds-devs-at c =
    let under = leaves c.args.top.now.mirror in
    let inside = got_inside under c.loop-place.place c.in-Some.leaf.now (same_leaf under c.args.devs.now c.args.at c.loop-place.place
    (leaves c.loop-place.top.mirror) c.in-Some.leaf.now c.loop-place.invariant.put (sym c.in-Some.ensures)) in
    omega (arith, inside, c.requires.paired)

pub loop-place-preserved : goal.loop-place-preserved
loop-place-preserved c =
    let under = leaves c.args.top.now.mirror in
    let leaf = c.in-Some.leaf.now in
    let now = leaves c.loop-place.top.mirror in
    let is = same_leaf under c.args.devs.now c.args.at c.loop-place.place now leaf c.loop-place.invariant.put (sym c.in-Some.ensures) in
    record {
      inside = let inside = got_inside under c.loop-place.place leaf is in omega (arith, inside);
      put = put_more under c.args.devs.now c.args.at c.loop-place.place now (leaves c.change.new.self.mirror) leaf _ c.requires.numbered c.requires.paired
          c.loop-place.invariant.put (sym c.in-Some.ensures) c.change.ensures.leaves;
      built = c.change.ensures.built ∙ c.loop-place.invariant.built;
      sectors = c.change.ensures.sectors ∙ c.loop-place.invariant.sectors;
      lie = tells_more under c.args.devs.now c.args.at lies c.loop-place.place leaf c.loop-place.invariant.lie is c.lies_within.ensures;
    }

pub returns-clause-leaves : goal.returns-clause-leaves
returns-clause-leaves c =
    put_all (leaves c.args.top.now.mirror) c.args.devs.now c.args.at c.loop-place.place (leaves c.loop-place.top.mirror)
    (omega (arith, c.requires.few, c.loop-place-test.false)) c.loop-place.invariant.put

pub returns-clause-lie : goal.returns-clause-lie
returns-clause-lie c =
    tells_all (leaves c.args.top.now.mirror) c.args.devs.now c.args.at lies c.loop-place.place (omega (arith, c.requires.few, c.loop-place-test.false))
    c.loop-place.invariant.lie
