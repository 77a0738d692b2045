use Rattle.open_pool.proofs.FreezesAreRows.{dirty_keys_are, idle_cells}
use Rattle.open_pool.proofs.PlacesGiven.{places_given}
use Rattle.open_pool.proofs.laws.freezes_are_rows.Goals as goal

pub returns-clause-places : goal.returns-clause-places
returns-clause-places c = λ p held number new items has pins idle tops freeze rise.
    places_given p held has pins (idle_cells p idle) tops items rise freeze.places

pub returns-clause-keys : goal.returns-clause-keys
returns-clause-keys c = λ p held new items forms freeze. dirty_keys_are p held new items forms freeze
