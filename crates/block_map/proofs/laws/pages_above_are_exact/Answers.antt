use Rattle.block_map.proofs.DirtyPages.{they_are_exact, they_are_keys}
use Rattle.block_map.proofs.laws.pages_above_are_exact.Goals as goal

pub returns-clause-pages : goal.returns-clause-pages
returns-clause-pages c = they_are_exact

pub returns-clause-keys : goal.returns-clause-keys
returns-clause-keys c = they_are_keys
