use Rattle.std.proofs.Common.{arith}
use Rattle.label_store.proofs.Looking.{part_answered, part_failed, many_whole, many_inside, written_whole}
use Rattle.label_store.proofs.look.read_part.Goals as goal

pub read-requires-clause-whole : goal.read-requires-clause-whole
read-requires-clause-whole g c = many_whole c.deref_mut.result.now c.args.sectors (omega (arith, c.deref_mut.ensures.len, c.in_ok-bytes.ensures.len))

pub read-requires-clause-inside : goal.read-requires-clause-inside
read-requires-clause-inside g c =
    many_inside c.deref_mut.result.now c.args.at c.args.sectors _ (omega (arith, c.deref_mut.ensures.len, c.in_ok-bytes.ensures.len)) c.requires.inside

pub returns-in-Ok-clause-read : goal.returns-in-Ok-clause-read
returns-in-Ok-clause-read g c =
    part_answered c.args.dev c.args.at c.args.sectors c.read.new.out c.read-in-Ok.result (omega (arith, c.read.auto.out, c.deref_mut.ensures.len, c.in_ok-bytes.ensures.len))
    (written_whole c.read-in-Ok.result c.read.new.out _ _ c.read-in-Ok.ensures (omega (arith, c.read.auto.out, c.deref_mut.ensures.len)))
    c.in-Ok.ensures

pub returns-in-Err-clause-read : goal.returns-in-Err-clause-read
returns-in-Err-clause-read g c =
    part_failed c.args.dev c.args.at c.args.sectors c.read.new.out c.in-Err.field-0 c.failed.result (omega (arith, c.read.auto.out, c.deref_mut.ensures.len, c.in_ok-bytes.ensures.len))
    c.failed.ensures c.in-Err.ensures
