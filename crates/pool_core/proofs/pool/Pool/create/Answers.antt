use Rattle.std.proofs.Common.{◌∙◌, sym, ap, refl, length}
use Rattle.bank_core.proofs.Framing.{part_calls}
use Rattle.pool_core.specs.Making.{made_state}
use Rattle.pool_core.proofs.Creating.{stamps, first_fails, second_fails, after_round, left_first, left_second, left_none}
use Rattle.pool_core.proofs.pool.Pool.create.Goals as goal

pub returns-then-is_err-clause-creates : goal.returns-then-is_err-clause-creates
returns-then-is_err-clause-creates g c =
    let first = c.args.first in
    let second = c.args.second in
    let size = (g.B.Bank.view c.args.bank.now).size in
    let s = made_state size c.args.name c.args.pool c.args.blocks (first.name, first.dev) (second.name, second.dev) in (
      s.first,
      refl,
      first_fails size s (first.dev, second.dev) c.stamp.result (sym c.if-is_err.ensures.value) (stamps size s s.first first.dev _ refl (part_calls c.stamp.ensures)),
    )

pub returns-then-is_err-2-clause-creates : goal.returns-then-is_err-2-clause-creates
returns-then-is_err-2-clause-creates g c =
    let first = c.args.first in
    let second = c.args.second in
    let size = (g.B.Bank.view c.args.bank.now).size in
    let s = made_state size c.args.name c.args.pool c.args.blocks (first.name, first.dev) (second.name, second.dev) in (
      s.second,
      refl,
      second_fails size s (first.dev, second.dev) c.stamp.result c.stamp-2.result (sym c.if-is_err.ensures.value) (sym c.if-is_err-2.ensures.value)
          (stamps size s s.first first.dev _ refl (part_calls c.stamp.ensures))
          (stamps size s s.second second.dev _ (c.stamp.ensures.frame.sizes second.dev) (part_calls c.stamp-2.ensures)),
    )

pub returns-then-is_err-2-clause-numbers : goal.returns-then-is_err-2-clause-numbers
returns-then-is_err-2-clause-numbers g c =
    λ other. c.stamp-2.ensures.frame.numbers other ∙ c.stamp.ensures.frame.numbers other

pub commit_round-requires-clause-results : goal.commit_round-requires-clause-results
commit_round-requires-clause-results g c =
    let s = made_state (g.B.Bank.view c.args.bank.now).size c.args.name c.args.pool c.args.blocks (c.args.first.name, c.args.first.dev) (c.args.second.name, c.args.second.dev) in
    sym (ap length (c.board-board.ensures s c.in-Ok.ensures.state.pair))

pub returns-then-not-stayed-2-clause-numbers : goal.returns-then-not-stayed-2-clause-numbers
returns-then-not-stayed-2-clause-numbers g c =
    λ other. c.commit_round.ensures.numbers other ∙ c.stamp-2.ensures.frame.numbers other ∙ c.stamp.ensures.frame.numbers other

pub returns-clause-numbers : goal.returns-clause-numbers
returns-clause-numbers g c =
    λ other. c.commit_round.ensures.numbers other ∙ c.stamp-2.ensures.frame.numbers other ∙ c.stamp.ensures.frame.numbers other

pub returns-then-not-stayed-clause-creates : goal.returns-then-not-stayed-clause-creates
returns-then-not-stayed-clause-creates g c =
    let first = c.args.first in
    let second = c.args.second in
    let size = (g.B.Bank.view c.args.bank.now).size in
    let s = made_state size c.args.name c.args.pool c.args.blocks (first.name, first.dev) (second.name, second.dev) in (
      s.first,
      refl,
      after_round size (g.B.Bank.view c.stamp-2.new.bank).size s (first.dev, second.dev) c.stamp.result c.stamp-2.result c.commit_round.new.stayed _
          (λ d. c.stamp-2.ensures.frame.sizes d ∙ c.stamp.ensures.frame.sizes d) (sym c.if-is_err.ensures.value) (sym c.if-is_err-2.ensures.value)
          (stamps size s s.first first.dev _ refl (part_calls c.stamp.ensures))
          (stamps size s s.second second.dev _ (c.stamp.ensures.frame.sizes second.dev) (part_calls c.stamp-2.ensures))
          (c.commit_round.ensures.round s c.in-Ok.ensures.state) (left_first s c.commit_round.new.stayed _ c.commit_round.auto.stayed c.if-not-stayed.true),
    )

pub returns-then-not-stayed-2-clause-creates : goal.returns-then-not-stayed-2-clause-creates
returns-then-not-stayed-2-clause-creates g c =
    let first = c.args.first in
    let second = c.args.second in
    let size = (g.B.Bank.view c.args.bank.now).size in
    let s = made_state size c.args.name c.args.pool c.args.blocks (first.name, first.dev) (second.name, second.dev) in (
      s.second,
      refl,
      after_round size (g.B.Bank.view c.stamp-2.new.bank).size s (first.dev, second.dev) c.stamp.result c.stamp-2.result c.commit_round.new.stayed _
          (λ d. c.stamp-2.ensures.frame.sizes d ∙ c.stamp.ensures.frame.sizes d) (sym c.if-is_err.ensures.value) (sym c.if-is_err-2.ensures.value)
          (stamps size s s.first first.dev _ refl (part_calls c.stamp.ensures))
          (stamps size s s.second second.dev _ (c.stamp.ensures.frame.sizes second.dev) (part_calls c.stamp-2.ensures))
          (c.commit_round.ensures.round s c.in-Ok.ensures.state)
          (left_second s c.commit_round.new.stayed _ c.commit_round.auto.stayed c.if-not-stayed.false c.if-not-stayed-2.true),
    )

pub returns-clause-creates : goal.returns-clause-creates
returns-clause-creates g c =
    let first = c.args.first in
    let second = c.args.second in
    let size = (g.B.Bank.view c.args.bank.now).size in
    let s = made_state size c.args.name c.args.pool c.args.blocks (first.name, first.dev) (second.name, second.dev) in (
      after_round size (g.B.Bank.view c.stamp-2.new.bank).size s (first.dev, second.dev) c.stamp.result c.stamp-2.result c.commit_round.new.stayed _
          (λ d. c.stamp-2.ensures.frame.sizes d ∙ c.stamp.ensures.frame.sizes d) (sym c.if-is_err.ensures.value) (sym c.if-is_err-2.ensures.value)
          (stamps size s s.first first.dev _ refl (part_calls c.stamp.ensures))
          (stamps size s s.second second.dev _ (c.stamp.ensures.frame.sizes second.dev) (part_calls c.stamp-2.ensures))
          (c.commit_round.ensures.round s c.in-Ok.ensures.state)
          (left_none s c.commit_round.new.stayed _ c.commit_round.auto.stayed c.if-not-stayed.false c.if-not-stayed-2.false),
      c.in-Ok.ensures.state,
    )
