use Rattle.std.proofs.Common.{map, ap}
use Rattle.std.specs.Option.{option_map}
use Rattle.pool_config.specs.Seen.{top_vdevs}
use Rattle.pool_config.proofs.Deciding.{back}
use Rattle.pool_config.proofs.Returning.{seen_back}
use Rattle.pool_codec.specs.Codecs.{head_of_seen}
use Rattle.pool_codec.specs.Pointers.{sum_in}
use Rattle.pool_codec.specs.Tops.{top_sectors, room_of, number_of, children_of, kept_from}
use Rattle.pool_codec.proofs.laws.configurations_tell_the_pool.Goals as goal

pub returns-clause-head : goal.returns-clause-head
returns-clause-head c = λ config valid. ap (option_map head_of_seen) (back config valid)

pub returns-clause-blocks : goal.returns-clause-blocks
returns-clause-blocks c = λ config valid. ap (λ x. x.blocks) (seen_back config valid)

pub returns-clause-room : goal.returns-clause-room
returns-clause-room c = λ config valid. ap (λ x. room_of (map top_sectors x.tops)) (seen_back config valid)

pub returns-clause-numbers : goal.returns-clause-numbers
returns-clause-numbers c = λ config valid. ap (λ x. number_of (map top_vdevs x.tops)) (seen_back config valid)

pub returns-clause-next : goal.returns-clause-next
returns-clause-next c = λ config valid. ap (λ x. x.next_guid) (seen_back config valid)

pub returns-clause-children : goal.returns-clause-children
returns-clause-children c = λ config valid. ap (λ x. children_of (map top_vdevs x.tops)) (seen_back config valid)

pub returns-clause-spares : goal.returns-clause-spares
returns-clause-spares c = λ config valid. ap (λ x. x.spares) (seen_back config valid)

pub returns-clause-root : goal.returns-clause-root
returns-clause-root c = λ config valid. ap (λ x. sum_in x.root) (seen_back config valid)

pub returns-clause-leaves : goal.returns-clause-leaves
returns-clause-leaves c = λ config valid. ap (λ x. kept_from 1 (map top_vdevs x.tops)) (seen_back config valid)
