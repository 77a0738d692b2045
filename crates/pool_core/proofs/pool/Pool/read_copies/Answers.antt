use Rattle.std.proofs.Common.{Ok, Err, ◌∙◌, refl, ap, arith}
use Rattle.pool_core.proofs.Standing.{tries_seated, few_tries}
use Rattle.pool_core.proofs.Tries.{copies_tried}
use Rattle.pool_core.proofs.pool.Pool.read_copies.Goals as goal

pub try_all-requires-clause-few : goal.try_all-requires-clause-few
try_all-requires-clause-few g c =
    few_tries c.args.self.now.pair _ c.args.pointer.now.birth.0 (λ s stands. c.as_slice.ensures ∙ c.tries-tries.ensures s stands)

pub try_all-requires-clause-room : goal.try_all-requires-clause-room
try_all-requires-clause-room g c =
    tries_seated _ c.args.self.now _ c.args.pointer.now.birth.0 _ c.requires.seated (λ s stands. c.as_slice.ensures ∙ c.tries-tries.ensures s stands) (omega arith)

pub returns-in-Ok-clause-tries : goal.returns-in-Ok-clause-tries
returns-in-Ok-clause-tries g c = λ s r.
    copies_tried c.args.pointer.now _ (Ok tt) (c.as_slice.ensures ∙ c.tries-tries.ensures s r.pair) c.in-Ok.ensures.tries refl

pub returns-in-Err-clause-tries : goal.returns-in-Err-clause-tries
returns-in-Err-clause-tries g c = λ s r.
    copies_tried c.args.pointer.now _ (Err c.in-Err.seen) (c.as_slice.ensures ∙ c.tries-tries.ensures s r.pair) c.in-Err.ensures.tries (ap Err (c.shown.ensures s r))
