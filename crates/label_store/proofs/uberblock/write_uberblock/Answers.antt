use Rattle.std.proofs.Common.{arith, sym, rules}
use Rattle.std.proofs.lemmas.List.{length-take-le}
use Rattle.label_store.proofs.Fields.{written}
use Rattle.label_store.proofs.uberblock.write_uberblock.Goals as goal

pub slice_bounds-digest-end-2 : goal.slice_bounds-digest-end-2
slice_bounds-digest-end-2 c = sym (length-take-le 4064 c.write_head.new.out (omega (arith, c.write_head.auto.out, c.requires)))

pub returns : goal.returns
returns c = written c.args.u.now c.write_head.new.out c.put.new.out c.digest-sum.result
    c.write_head.ensures (search rules) c.put.ensures.front (omega (arith, c.write_head.auto.out, c.put.auto.out, c.requires))
