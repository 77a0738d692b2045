use Rattle.std.proofs.Common.{refl, ◌∙◌, get_or, ◌+◌, Some, None, arith}
use Rattle.std.proofs.lemmas.Result.{err_from_is_err_and}
use Rattle.bank_core.specs.Asks.{Writes}
use Rattle.bank_core.proofs.Blocks.{block_whole}
use Rattle.bank_core.proofs.Framing.{part_calls, part_write}
use Rattle.pool_core.proofs.Turns.{nobody, one_turn, turn_stops, block_room}
use Rattle.pool_core.proofs.sync.write_all.Goals as goal

pub write-requires-clause-whole : goal.write-requires-clause-whole
write-requires-clause-whole g c = block_whole c.args.block.now c.requires.whole

pub write-requires-clause-inside : goal.write-requires-clause-inside
write-requires-clause-inside g c =
    block_room (g.B.Bank.view c.args.bank.now).size _ c.as_slice-member-items.result.now c.args.members.now c.args.sector c.loop-member.member-index c.args.block.now
    c.as_slice-member-items.ensures c.requires.whole c.requires.room c.loop-member.invariant.size (omega arith)

pub loop-member-preserved : goal.loop-member-preserved
loop-member-preserved g c = record {
  size = λ d. c.write.ensures.frame.sizes d ∙ c.loop-member.invariant.size d;
  numbers = λ name. c.write.ensures.frame.numbers name ∙ c.loop-member.invariant.numbers name;
  lookups = c.write.ensures.frame.lookups ∙ c.loop-member.invariant.lookups;
  part = one_turn (λ m. Writes m.dev c.args.sector c.args.block.now) c.as_slice-member-items.result.now c.args.members.now c.loop-member.member-index
      c.as_slice-member-items.ensures (omega arith) c.loop-member.invariant.part
      (part_calls (part_write c.in_ok-write.ensures));
}

pub returns-in_err-write-clause-part : goal.returns-in_err-write-clause-part
returns-in_err-write-clause-part g c =
    let p = err_from_is_err_and c.from_residual.result c.from_residual.ensures.1 in
    rw (p.1, p.2) (turn_stops (λ m. Writes m.dev c.args.sector c.args.block.now) c.args.members.now (c.loop-member.member-index + 1)
    (one_turn (λ m. Writes m.dev c.args.sector c.args.block.now) c.as_slice-member-items.result.now c.args.members.now c.loop-member.member-index
    c.as_slice-member-items.ensures (omega arith) c.loop-member.invariant.part
    (part_calls (part_write c.in_err-write.ensures))))
