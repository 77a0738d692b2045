use Rattle.pool_moves.proofs.Rosters.{made_roster, roster_goes_on, roster_anew}
use Rattle.pool_moves.proofs.openings.members_stand_on_a_list.Goals as goal

pub returns : goal.returns
returns c = record { begins = made_roster; goes_on = roster_goes_on; anew = roster_anew }
