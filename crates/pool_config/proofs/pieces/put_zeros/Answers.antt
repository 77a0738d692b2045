use Rattle.std.proofs.Common.{◌≡◌, ℕ, ◌+◌, ◌-◌, List, length, replicate, ap, ◌∙◌, rules, arith}
use Rattle.mp_base.specs.Block.{zeros}
use Rattle.pool_config.proofs.Placing.{puts_mid, length-zeros}
use Rattle.pool_config.proofs.pieces.put_zeros.Goals as goal

zeros_are : (ys : List ℕ) (m n : ℕ) → ys ≡ replicate m 0 → m ≡ n → ys ≡ zeros n
unfolding zeros
zeros_are ys m n is e = is ∙ ap (λ k. replicate k 0) e

pub returns-clause-piece : goal.returns-clause-piece
returns-clause-piece c =
    let at = c.args.at in
    let count = c.args.count in
    let are : c.fill.new.self ≡ zeros count =
    zeros_are c.fill.new.self _ count (c.fill.ensures.after (λ y e. search rules)) (search rules) in
    puts_mid c.args.out.now c.fill.new.self (zeros count) at (at + count - at) _ are
    (omega (arith, ap length are, length-zeros count)) (omega arith) (omega (arith, c.requires))
