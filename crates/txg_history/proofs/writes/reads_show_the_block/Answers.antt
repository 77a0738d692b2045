use Rattle.txg_history.proofs.Showing.{kept_clean, read_right, read_damage, stays_damaged}
use Rattle.txg_history.proofs.writes.reads_show_the_block.Goals as goal

pub returns : goal.returns
returns c = record { clean = kept_clean; right = read_right; damage = read_damage; stays = stays_damaged }
