use Rattle.std.proofs.Common.{refl, ◌∙◌, get_or, ◌+◌, Some, None, arith}
use Rattle.std.proofs.lemmas.Result.{err_from_is_err_and}
use Rattle.bank_core.specs.Asks.{Flushes}
use Rattle.bank_core.proofs.Framing.{part_calls, part_flush}
use Rattle.pool_core.proofs.Turns.{nobody, one_turn, turn_stops, turn_room}
use Rattle.pool_core.proofs.sync.flush_all.Goals as goal

pub flush-requires : goal.flush-requires
flush-requires g c =
    turn_room (g.B.Bank.view c.args.bank.now).size _ c.as_slice-member-items.result.now c.args.members.now 0 c.loop-member.member-index c.as_slice-member-items.ensures c.requires.room
    c.loop-member.invariant.size (omega arith)

pub loop-member-preserved : goal.loop-member-preserved
loop-member-preserved g c = record {
  size = λ d. c.flush.ensures.frame.sizes d ∙ c.loop-member.invariant.size d;
  numbers = λ name. c.flush.ensures.frame.numbers name ∙ c.loop-member.invariant.numbers name;
  lookups = c.flush.ensures.frame.lookups ∙ c.loop-member.invariant.lookups;
  part = one_turn (λ m. Flushes m.dev) c.as_slice-member-items.result.now c.args.members.now c.loop-member.member-index c.as_slice-member-items.ensures (omega arith)
      c.loop-member.invariant.part
      (part_calls (part_flush c.in_ok-flush.ensures));
}

pub returns-in_err-flush-clause-part : goal.returns-in_err-flush-clause-part
returns-in_err-flush-clause-part g c =
    let p = err_from_is_err_and c.from_residual.result c.from_residual.ensures.1 in
    rw (p.1, p.2) (turn_stops (λ m. Flushes m.dev) c.args.members.now (c.loop-member.member-index + 1)
    (one_turn (λ m. Flushes m.dev) c.as_slice-member-items.result.now c.args.members.now c.loop-member.member-index c.as_slice-member-items.ensures (omega arith)
    c.loop-member.invariant.part
    (part_calls (part_flush c.in_err-flush.ensures))))
