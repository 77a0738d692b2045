use Rattle.pool_core.proofs.Seeking.{seeks_some, finds_read}
use Rattle.pool_core.proofs.open.seek.Goals as goal

pub returns-in-Some-clause-seeks : goal.returns-in-Some-clause-seeks
returns-in-Some-clause-seeks g c =
    seeks_some _ _ _ c.in_ok-found.field-0 c.in-Some.found c.deref.result.now c.decode.result c.in-Some.is c.deref.ensures.value c.in_ok-found.ensures.finds c.decode.ensures.found

pub returns-in-Some-clause-reads : goal.returns-in-Some-clause-reads
returns-in-Some-clause-reads g c = finds_read _ _ _ c.decode.result c.in_ok-found.ensures.finds
