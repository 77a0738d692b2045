use Rattle.std.proofs.Common.{◌≡◌, ◌+◌, drop, Some, sym, ap, ◌∙◌, subst, arith}
use Rattle.std.proofs.lemmas.List.{get_or-map, length-map}
use Rattle.pool_moves.specs.StampRow.{least_with}
use Rattle.open_pool.specs.Creating.{least_room, member_of, members_in}
use Rattle.open_pool.proofs.NewTopsBuilt.{least_more}
use Rattle.open_pool.proofs.new_tops.least_sectors.Goals as goal

pub loop-i-preserved : goal.loop-i-preserved
loop-i-preserved g c =
    let leaves = c.args.leaves.now in
    let i = c.loop-i.i in
    let leaf = c.index-leaves-i.result in
    let size = (g.B.Bank.view c.args.bank.now).size in
    let long = length-map leaves member_of in
    record {
      least = subst (λ n. least_room size (members_in leaves) ≡ Some (least_with n (least_room size (drop (i + 1) (members_in leaves))))) (sym c.min-least.ensures)
          (least_more size (members_in leaves) i (member_of leaf) c.loop-i.least c.data_sectors.result (omega (arith, long, c.loop-i-test.true))
          (ap member_of c.index-leaves-i.is ∙ sym (get_or-map member_of leaves i leaf (member_of leaf) c.loop-i-test.true)) c.loop-i.invariant.least
          c.data_sectors.ensures);
    }
