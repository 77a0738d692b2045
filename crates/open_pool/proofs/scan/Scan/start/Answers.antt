use Rattle.std.proofs.Common.{◌++◌, Some, sym, ap, ◌∙◌}
use Rattle.std.proofs.lemmas.Option.{slice_get-get_or}
use Rattle.vdev_tree.specs.Tree.{leaves}
use Rattle.vdev_tree.specs.declared.top.Top.{Top}
use Rattle.open_pool.specs.Scanning.{scan_leaves}
use Rattle.open_pool.proofs.ScansStart.{room_pushed, top_pushed}
use Rattle.open_pool.proofs.scan.Scan.start.Goals as goal

pub push_under-requires : goal.push_under-requires
push_under-requires c =
    let tops = c.args.tops.now in
    let top = c.index-tops-i.result in
    room_pushed tops c.loop-i.i top c.loop-i.leaves
    (slice_get-get_or tops c.loop-i.i top c.loop-i-test.true ∙ ap (λ (t : Top). Some t) (sym c.index-tops-i.is)) c.loop-i.invariant c.requires

pub loop-i-preserved : goal.loop-i-preserved
loop-i-preserved c =
    top_pushed c.args.tops.now c.loop-i.i c.index-tops-i.result c.loop-i.leaves c.push_under.new.list c.loop-i-test.true c.loop-i.invariant
    (c.push_under.ensures ∙ ap (λ (t : Top). c.loop-i.leaves ++ scan_leaves (leaves t.mirror)) c.index-tops-i.is)
