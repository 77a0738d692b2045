use Rattle.std.proofs.Common.{refl, rules}
use Rattle.bank_core.specs.Disk.{sector_size}
use Rattle.bank_core.proofs.Sectors.{written_here, written_apart, shows_at}
use Rattle.bank_core.proofs.moment.show_at.Goals as goal

pub returns-clause-here : goal.returns-clause-here
unfolding sector_size
returns-clause-here c =
    shows_at c.args.shown _ _ (written_here c.args.out.now c.show.new.out _ c.args.i c.requires (search rules) refl) c.show.ensures

pub returns-clause-others : goal.returns-clause-others
unfolding sector_size
returns-clause-others c = written_apart c.args.out.now c.show.new.out _ c.args.i c.requires (search rules) refl
