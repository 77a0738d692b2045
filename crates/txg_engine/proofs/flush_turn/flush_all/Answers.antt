use Rattle.std.proofs.Common.{◌<◌, sym, subst, get_or, arith}
use Rattle.bank_core.proofs.Framing.{part_call}
use Rattle.label_store.specs.declared.member.Member.{Member}
use Rattle.label_store.proofs.Phasing.{got_there}
use Rattle.txg_engine.proofs.Calling.{so_more, so_all}
use Rattle.txg_engine.proofs.flush_turn.flush_all.Goals as goal

pub flush-requires : goal.flush-requires
flush-requires g c =
    subst (λ n. 0 < n) (sym (c.loop-i.invariant.calls.phase.calls.frame.sizes _)) (c.requires.devices c.loop-i.i _ c.loop-i-test.true)

pub loop-i-preserved : goal.loop-i-preserved
loop-i-preserved g c =
    let nobody : Member = record { dev = 0; guid = record { 0 = 0 } } in
    let m = get_or c.args.members.now c.loop-i.i nobody in
    record {
      calls = so_more c.args.members.now c.loop-i.done c.loop-i.i m c.is_ok.result c.flush.result c.loop-i-test.true (omega arith)
          (got_there c.args.members.now c.loop-i.i m nobody c.loop-i-test.true) c.loop-i.invariant.calls (part_call c.flush.ensures) c.is_ok.ensures.value;
    }

pub returns : goal.returns
returns g c = so_all c.args.members.now c.loop-i.done c.loop-i.i (omega arith) (omega arith) c.loop-i.invariant.calls
