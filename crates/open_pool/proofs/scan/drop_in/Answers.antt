use Rattle.std.proofs.Common.{◌<◌, false, length, set, get_or, ap, ◌∙◌, arith}
use Rattle.std.proofs.lemmas.List.Edits.{map_over_more}
use Rattle.open_pool.specs.declared.scan.ScanLeaf.{ScanLeaf}
use Rattle.open_pool.specs.Scanning.{dropped}
use Rattle.open_pool.proofs.ScansStart.{got_any}
use Rattle.open_pool.proofs.scan.drop_in.Goals as goal

pub loop-i-preserved : goal.loop-i-preserved
loop-i-preserved c =
    let here : ScanLeaf = get_or c.loop-i.leaves c.loop-i.i (record { dev = 0; eligible = false }) in
    let inside : c.loop-i.i < length c.args.leaves.now = c.loop-i-test.true in
    ap (λ y. set c.loop-i.leaves c.loop-i.i y) c.dropped.ensures
    ∙ map_over_more (dropped c.args.dev) c.args.leaves.now c.loop-i.leaves c.loop-i.i here inside c.loop-i.invariant
    (got_any c.loop-i.leaves c.loop-i.i _ here (omega arith))
