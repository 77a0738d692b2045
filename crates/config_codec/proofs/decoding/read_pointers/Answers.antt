use Rattle.std.proofs.Common.{◌≡◌, ◌*◌, drop, ap, arith, ◌∙◌}
use Rattle.config_codec.proofs.Taking.{pointers_follow, one_more, all_read, behind_more}
use Rattle.config_codec.proofs.decoding.read_pointers.Goals as goal

pub loop-preserved : goal.loop-preserved
loop-preserved c = record {
  read = rw c.in_ok-push.ensures.items (one_more pointers_follow c.loop.pointers.items c.read_pointer.result c.loop.cursor c.read_pointer.new.cursor c.args.blocks c.loop.counter _ c.loop-test.true
      c.read_pointer.ensures.pointer c.read_pointer.ensures.rest c.loop.invariant.read);
  behind = behind_more 52 c.args.cursor.now c.loop.cursor c.read_pointer.new.cursor c.loop.counter c.loop.invariant.behind c.read_pointer.ensures.rest;
}

pub returns-clause-pointers : goal.returns-clause-pointers
returns-clause-pointers c = all_read pointers_follow c.loop.pointers.items c.loop.cursor c.args.blocks c.loop.counter _ c.loop-test.false c.loop.invariant.read

pub returns-clause-rest : goal.returns-clause-rest
returns-clause-rest c =
    let all : 52 * c.loop.counter ≡ 52 * c.args.blocks = omega arith in
    c.loop.invariant.behind ∙ ap (λ n. drop n c.args.cursor.now) all
