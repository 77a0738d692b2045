use Rattle.label_store.proofs.Bare.{zeros_bare}
use Rattle.label_store.proofs.Unfound.{stamp_bare, none_verified, unhurt_unforged, slot_shown, only_shown, none_looked}
use Rattle.label_store.proofs.cleared.cleared_rings_show_no_record.Goals as goal

pub returns : goal.returns
returns c = record { zeros = zeros_bare; blank = stamp_bare; image = none_verified; unhurt = unhurt_unforged; read = slot_shown; only = only_shown; looked = none_looked }
