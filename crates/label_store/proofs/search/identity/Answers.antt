use Rattle.std.proofs.Common.{◌∙◌, arith, ap, ◌<◌, ◌≤◌, length}
use Rattle.label_store.specs.Layout.{labels_of}
use Rattle.label_store.proofs.Searching.{misses_as, searches_as, misses_more, search_hit, search_missed}
use Rattle.label_store.proofs.search.identity.Goals as goal

pub returns-then-is_found : goal.returns-then-is_found
returns-then-is_found g c =
    let lt : c.loop-at.at-index < length c.labels_of-labels.result = omega (arith, ap length c.labels_of-labels.ensures) in
    search_hit c.args.pool c.args.member c.args.dev ((g.B.Bank.view c.args.bank.now).size c.args.dev) c.labels_of-labels.result c.loop-at.at-index c.loop-at.failed c.read_ring-found.result
    (c.labels_of-labels.ensures ∙ ap labels_of c.sectors.ensures) lt (c.is_found.ensures.yes c.if-is_found.true)
    c.loop-at.invariant c.read_ring-found.ensures

pub loop-at-preserved : goal.loop-at-preserved
loop-at-preserved g c =
    let lt : c.loop-at.at-index < length c.labels_of-labels.result = omega (arith, ap length c.labels_of-labels.ensures) in
    misses_as _ c.first_fault-failed.result c.first_fault-failed.ensures
    (misses_more c.args.pool c.args.member c.args.dev c.labels_of-labels.result c.loop-at.at-index c.loop-at.failed c.read_ring-found.result c.is_found.result
    lt c.is_found.ensures.no c.if-is_found.false c.loop-at.invariant c.read_ring-found.ensures)

pub returns : goal.returns
returns g c =
    let le : length c.labels_of-labels.result ≤ c.loop-at.at-index = omega (arith, ap length c.labels_of-labels.ensures) in
    searches_as _ c.outcome.result c.outcome.ensures
    (search_missed c.args.pool c.args.member c.args.dev ((g.B.Bank.view c.args.bank.now).size c.args.dev) c.labels_of-labels.result c.loop-at.at-index c.loop-at.failed
    (c.labels_of-labels.ensures ∙ ap labels_of c.sectors.ensures) le c.loop-at.invariant)
