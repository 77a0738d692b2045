use Rattle.std.proofs.Common.{◌∙◌, refl, rules}
use Rattle.label_store.specs.Turns.{commit_of}
use Rattle.label_store.proofs.Rounding.{round_made, all_on_board}
use Rattle.label_store.proofs.commit.run_round.Goals as goal

pub returns : goal.returns
returns g c =
    round_made (g.B.Bank.view c.args.bank.now).size (commit_of c.args.round.now) c.args.members.now
    c.fill.new.self c.run_phase.new.board c.run_phase-2.new.board c.run_phase-3.new.board
    (c.fill.ensures.after (λ y e. search rules) ∙ all_on_board c.args.members.now _ c.requires.paired)
    refl c.run_phase.ensures c.run_phase-2.ensures c.run_phase-3.ensures
