use Rattle.std.proofs.lemmas.Result.{err_from_is_err_and}
use Rattle.std.proofs.Common.{◌∙◌}
use Rattle.label_store.proofs.Searching.{ring_failed, ring_answered, ring_whole, ring_inside}
use Rattle.label_store.proofs.search.read_ring.Goals as goal

pub read-requires-clause-whole : goal.read-requires-clause-whole
read-requires-clause-whole g c = ring_whole c.args.ring.now c.requires.whole

pub read-requires-clause-inside : goal.read-requires-clause-inside
read-requires-clause-inside g c = ring_inside c.args.ring.now c.args.at _ c.requires.whole c.requires.inside

pub returns-in_err-read : goal.returns-in_err-read
returns-in_err-read g c =
    let p = err_from_is_err_and c.from_residual.result c.from_residual.ensures.1 in
    rw (p.1, p.2) (ring_failed c.args.pool c.args.member c.args.dev c.args.at c.read.new.out c.in_err-read.field-0.0 (c.read.auto.out ∙ c.requires.whole)
    c.in_err-read.ensures)

pub returns : goal.returns
returns g c =
    ring_answered c.args.pool c.args.member c.args.dev c.args.at c.read.new.out c.has_identity.result (c.read.auto.out ∙ c.requires.whole)
    c.has_identity.ensures.yes c.has_identity.ensures.no c.in_ok-read.ensures
