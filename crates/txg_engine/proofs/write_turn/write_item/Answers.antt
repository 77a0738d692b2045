use Rattle.std.proofs.Common.{◌<◌, ◌+◌, sym, subst}
use Rattle.std.specs.Prelude.{All}
use Rattle.txg_engine.specs.Items.{cell_of}
use Rattle.txg_engine.proofs.Calling.{writes_on, all_devs}
use Rattle.txg_engine.proofs.write_turn.write_item.Goals as goal

pub write_block-requires-clause-within : goal.write_block-requires-clause-within
write_block-requires-clause-within g c =
    subst (All (λ dev. 128 + c.args.item.now.pointer.place.sector < (g.B.Bank.view c.args.bank.now).size dev)) (sym c.devs_of-devs.ensures)
    (all_devs (λ dev. 128 + c.args.item.now.pointer.place.sector < (g.B.Bank.view c.args.bank.now).size dev) c.args.members.now c.requires.within)

pub returns : goal.returns
returns g c =
    writes_on (cell_of c.args.item.now) c.args.members.now _ c.write_block.new.done c.devs_of-devs.ensures
    (rw c.as_bytes.ensures.bytes at c.write_block.ensures.writes) c.write_block.ensures.causes
