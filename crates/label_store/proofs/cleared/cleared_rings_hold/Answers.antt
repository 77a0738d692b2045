use Rattle.label_store.proofs.Clearing.{wiped_rings, stamped_rings}
use Rattle.label_store.proofs.Passed.{configs_off, between_off}
use Rattle.label_store.proofs.Unfound.{still_hold, wipe_elsewhere, stamp_elsewhere}
use Rattle.label_store.proofs.cleared.cleared_rings_hold.Goals as goal

pub returns : goal.returns
returns c = record {
  wiped = wiped_rings;
  stamped = stamped_rings;
  stays = still_hold;
  elsewhere_wiped = wipe_elsewhere;
  elsewhere_stamped = stamp_elsewhere;
  configs = configs_off;
  between = between_off;
}
