use Rattle.std.proofs.Common.{◌+◌, sym, length-set, ◌∙◌, arith}
use Rattle.vdev_tree.specs.Tree.{leaves}
use Rattle.txg_engine.proofs.Seating.{got_inside, got_none}
use Rattle.open_pool.proofs.LeavesSought.{finds_next, finds_under}
use Rattle.open_pool.proofs.finding.find_under.Goals as goal

pub returns-in_default-clause-on : goal.returns-in_default-clause-on
returns-in_default-clause-on g c = λ room handed number done left start sectors count so_far.
    finds_under c.args.pool room handed number done (leaves c.args.top.now.mirror) left c.loop-place.place c.loop-place.devs start
    (g.B.Bank.view c.loop-place.bank) (got_none (leaves c.args.top.now.mirror) c.loop-place.place (sym c.in_default.ensures))
    (c.loop-place.invariant.found room handed number done left start sectors count so_far)

pub slice_copy_out-dev : goal.slice_copy_out-dev
slice_copy_out-dev g c =
    let inside = got_inside (leaves c.args.top.now.mirror) c.loop-place.place c.in-Some.leaf.now (sym c.in-Some.ensures) in
    omega (arith, inside, c.loop-place.invariant.long, c.requires.paired)

pub bounds-devs-at : goal.bounds-devs-at
bounds-devs-at g c =
    let inside = got_inside (leaves c.args.top.now.mirror) c.loop-place.place c.in-Some.leaf.now (sym c.in-Some.ensures) in
    omega (arith, inside, c.loop-place.invariant.long, c.requires.paired)

pub loop-place-preserved : goal.loop-place-preserved
loop-place-preserved g c =
    let under = leaves c.args.top.now.mirror in
    let leaf = c.in-Some.leaf.now in
    record {
      inside = let inside = got_inside under c.loop-place.place leaf (sym c.in-Some.ensures) in omega (arith, inside);
      long = length-set c.loop-place.devs (c.args.at + c.loop-place.place) c.find_device.result ∙ c.loop-place.invariant.long;
      found = λ room handed number done left start sectors count so_far.
          finds_next c.args.pool room handed number done under left c.loop-place.place c.args.at c.args.top.now.sectors leaf c.loop-place.devs
          c.find_device.result _ start (g.B.Bank.view c.loop-place.bank) (g.B.Bank.view c.find_device.new.bank) (sym c.in-Some.ensures) sectors count
          (c.loop-place.invariant.found room handed number done left start sectors count so_far) c.find_device.ensures;
    }

pub returns-clause-on : goal.returns-clause-on
returns-clause-on g c = λ room handed number done left start sectors count so_far.
    finds_under c.args.pool room handed number done (leaves c.args.top.now.mirror) left c.loop-place.place c.loop-place.devs start
    (g.B.Bank.view c.loop-place.bank) (omega (arith, c.requires.few, c.loop-place-test.false))
    (c.loop-place.invariant.found room handed number done left start sectors count so_far)
