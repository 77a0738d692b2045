use Rattle.std.proofs.Common.{ℕ, ◌<◌}
use Rattle.bank_core.specs.Disk.{sector_of}
use Rattle.label_store.specs.Identities.{NamesMember}
use Rattle.label_store.proofs.search.has_identity.Given as goal

abbrev pub invariant-loop-slot : goal.invariant-loop-slot
invariant-loop-slot l = (k : ℕ) → k < l.slot → ¬ (NamesMember l.pool l.member (sector_of k l.ring))
