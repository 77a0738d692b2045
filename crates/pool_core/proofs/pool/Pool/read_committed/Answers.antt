use Rattle.pool_core.proofs.ReadSteps.{is_inside, read_nothing, read_committed, zeros_block}
use Rattle.pool_core.proofs.pool.Pool.read_committed.Goals as goal

pub returns-in-None-clause-read : goal.returns-in-None-clause-read
returns-in-None-clause-read g c = λ s r unwritten.
    read_nothing c.args.self.now c.fill.new.self r (is_inside c.args.self.now c.args.address c.requires.inside) unwritten c.in-None.ensures.is
    (zeros_block _ _ c.requires.block (c.fill.ensures.after (λ y e. e)))

pub returns-in-Ok-clause-read : goal.returns-in-Ok-clause-read
returns-in-Ok-clause-read g c = λ s r unwritten.
    read_committed c.args.self.now c.in-Some.pointer c.read_copies.new.out _ r (is_inside c.args.self.now c.args.address c.requires.inside) unwritten
    c.in-Some.ensures.is (c.in-Ok.ensures.tries s r)

pub returns-in-Err-clause-read : goal.returns-in-Err-clause-read
returns-in-Err-clause-read g c = λ s r unwritten.
    read_committed c.args.self.now c.in-Some.pointer c.read_copies.new.out _ r (is_inside c.args.self.now c.args.address c.requires.inside) unwritten
    c.in-Some.ensures.is (c.in-Err.ensures.tries s r)
