use Rattle.std.proofs.Common.{get_or, ap}
use Rattle.block_map.specs.Pointers.{hole}
use Rattle.block_map.proofs.PageBytes.{read_back}
use Rattle.pool_codec.specs.Pointers.{sum_in}
use Rattle.pool_codec.proofs.PagesTold.{is_a_page, only_pages}
use Rattle.pool_codec.proofs.laws.pages_tell_their_pointers.Goals as goal

pub returns-clause-is : goal.returns-clause-is
returns-clause-is c = is_a_page

pub returns-clause-pointer : goal.returns-clause-pointer
returns-clause-pointer c = λ pointers j form inside. ap (λ x. sum_in (get_or x j hole)) (read_back pointers form)

pub returns-clause-only : goal.returns-clause-only
returns-clause-only c = only_pages
