-- What is assumed of acts, of each at its own place: no clash, and at openings their premises. Of nothing else anything is assumed.
use Rattle.std.specs.Prelude.{◌≡◌, ◌≢◌, ℕ, true, List, [], ◌∷◌, Option, Some, None}
use Rattle.std.specs.List.{AllByRecursion}
use Rattle.txg_history.specs.Pages.{Codec, ClashesAt}
use Rattle.txg_history.specs.Pools.{Pool}
use Rattle.txg_history.specs.Premises.{AreNotTorn, Premises}
use Rattle.pool_moves.specs.OpeningRow.{AreWholeReads}
use Rattle.pool_moves.specs.ReadRow.{ClashesWith}
use Rattle.pool_moves.specs.ScanRows.{FoundClash}
use Rattle.pool_runs.specs.Acts.{Act, Mark, Gives_for, Steps_by, Seeks_by, Reads_pages, Marks, Looked, Shows, Reads_as, Names, pool_by}

-- the device that was taken for a leaf is a member
abbrev pub IsMember : Pool → Option ℕ → Type 0
IsMember p None = Unit {0}
IsMember p (Some d) = p.member d ≡ true

-- What is assumed of a mark, for its own pool: a read gave no other bytes of the block's sum; a step read none of a key's sum; where identities
-- were looked for, no ring sector was torn into a correct uberblock, and each device that was taken for a leaf, by its name and identity, is a
-- member; and no bytes that were found of a page are others than those of the record that is read, with the same sum.
abbrev pub IsFairMark : Pool → Mark → Type 0
IsFairMark p (Gives_for a reply) = ¬ (ClashesWith (p.written a) reply)
IsFairMark p (Steps_by made) = ¬ (FoundClash p made)
IsFairMark p (Seeks_by made found) = AreWholeReads p made × AllByRecursion (IsMember p) found
IsFairMark p (Reads_pages bytes) = ¬ (ClashesAt p.reads.cells bytes)

-- What is assumed of an act, for a pool. Its own marks are fair. An opening that reads a record of its number is one by its name, and has the
-- premises of openings. Where identities were read, no ring sector was torn into a correct uberblock. And no other pool is made under its number.
abbrev pub IsFair : Codec → Pool → Act → Type 0
IsFair c p (Marks g mark) = p.pool.0 ≡ g → IsFairMark p mark
IsFair c p (Shows g d known) = AreNotTorn p known
IsFair c p (Reads_as opening) = p.pool.0 ≡ opening.found.pool.0 → (p.name ≡ opening.name) × Premises c.head_of p opening.known
IsFair c p (Names g) = g ≢ p.pool.0
IsFair c p act = Unit {0}

-- so of each of these acts, one after another
abbrev pub AreFair : Codec → Pool → List Act → Type 0
AreFair c p [] = Unit {0}
AreFair c p (act ∷ acts) = IsFair c p act × AreFair c (pool_by act p) acts

-- the premises of openings hold at each look by the pool's name among these acts
abbrev pub AreFairLooks : Codec → Pool → List Act → Type 0
AreFairLooks c p [] = Unit {0}
AreFairLooks c p (Looked name known ∷ acts) = (p.name ≡ name → Premises c.head_of p known) × AreFairLooks c (pool_by (Looked name known) p) acts
AreFairLooks c p (act ∷ acts) = AreFairLooks c (pool_by act p) acts
