-- What is assumed at an opening, and nowhere else.
use Rattle.std.specs.Prelude.{◌≡◌, ◌≢◌, ◌⊎◌, ℕ, ◌+◌, ◌<◌, ◌≤◌, Bool, true, false, List, [], ◌∷◌, ◌++◌, Option, Some, None}
use Rattle.sha2.specs.Sha256.{sha256}
use Rattle.mp_base.specs.declared.number.Guid.{Guid}
use Rattle.mp_base.specs.declared.place.Key.{Key}
use Rattle.bank_core.specs.Disk.{IsClean, sectors_in, sector_of}
use Rattle.label_store.specs.declared.rule.Head.{Head}
use Rattle.label_store.specs.declared.uberblock.Uberblock.{Uberblock}
use Rattle.label_store.specs.Records.{config_at, place_at}
use Rattle.label_store.specs.Rounds.{config_of, uberblock_of}
use Rattle.label_store.specs.Uberblock.{IsUberblock, uberblock_bytes}
use Rattle.txg_history.specs.Events.{Event, Known, Looks, Opens}
use Rattle.txg_history.specs.Needs.{Held, InRing, InPart, even_part, odd_part}
use Rattle.txg_history.specs.Openings.{IsVerifiedOn, IsDrawnRecord}
use Rattle.txg_history.specs.Pages.{Codec}
use Rattle.txg_history.specs.Pools.{Pool, after, pool_after, drawn, seat}
use Rattle.txg_history.specs.Records.{Rec, Cell, IsIn, number_of, takes_part, key, data_start}
use Rattle.txg_history.specs.Survival.{IsAmong}

-- A configuration that was found on a member beside a drawn record's uberblock, and has its sum, is that record's. So nothing
-- is asked of a record that no uberblock of its round has reached.
abbrev pub AreOwnConfigs : (List ℕ → Option Head) → Pool → Known → Type 0
AreOwnConfigs head_of p known = (r : Rec) (d : ℕ) (u : Uberblock) (config : List ℕ) → IsIn r (drawn p) → p.member d ≡ true
    → u ≡ uberblock_of r.commit (seat p d) → IsVerifiedOn head_of p.size known p.name d u config
    → sha256 config ≡ sha256 (config_of r.commit) → config ≡ config_of r.commit

-- each correct uberblock that was found in a member's ring stood there, or was written there in this run
abbrev pub AreNotTorn : Pool → Known → Type 0
AreNotTorn p known = (d place : ℕ) (bytes : List ℕ) (u : Uberblock) → p.member d ≡ true → place < 128
    → known d (place_at (p.size d) place) ≡ Some bytes → IsUberblock u bytes
    → (bytes ≡ (p.sectors d (place_at (p.size d) place)).stable) ⊎ IsAmong bytes (p.since d (place_at (p.size d) place))

-- The list has the byte strings that are there: each configuration that was found, and that of each drawn record whose uberblock was.
pub record AreThere (head_of : List ℕ → Option Head) (p : Pool) (known : Known) (strings : List (List ℕ)) : Type 0 where
  pub found : (d : ℕ) (u : Uberblock) (config : List ℕ) → IsVerifiedOn head_of p.size known p.name d u config → IsAmong config strings
  pub written : (r : Rec) (d : ℕ) (config : List ℕ) → IsIn r (drawn p) → p.member d ≡ true
      → IsVerifiedOn head_of p.size known p.name d (uberblock_of r.commit (seat p d)) config
      → IsAmong (config_of r.commit) strings

-- No clash: neither of two configurations with one sum, nor of a torn ring sector that is a correct uberblock by chance.
pub record HasNoClash (head_of : List ℕ → Option Head) (p : Pool) (known : Known) : Type 0 where
  pub sums : AreOwnConfigs head_of p known
  pub rings : AreNotTorn p known

-- two records that no reader tells apart: one configuration and one number
pub record AreTwins (r s : Rec) : Type 0 where
  pub config_is : config_of s.commit ≡ config_of r.commit
  pub number_is : s.commit.number ≡ r.commit.number

-- some live record is the very same
pub record HasTwin (p : Pool) (r : Rec) : Type 0 where
  pub twin : Rec
  pub is_live : IsIn twin p.live
  pub are : AreTwins r twin

-- or one that was acknowledged is
pub record WasAcked (p : Pool) (r : Rec) : Type 0 where
  pub twin : Rec
  pub acked : IsIn twin p.acks
  pub are : AreTwins r twin

-- An opening among these events read a record with a lower number while this one was live.
pub record WasMissed (p : Pool) (vs : List Event) (r : Rec) : Type 0 where
  pub before : List Event
  pub opened : Rec
  pub later : List Event
  pub all : vs ≡ before ++ (Opens opened ∷ later)
  pub was_live : IsIn r (pool_after before p).live
  pub lower : number_of opened < number_of r

-- each record of the name that is verified on a device which isn't a member's is one of this pool's
abbrev pub AreOurs : Codec → Pool → Known → Type 0
AreOurs c p known = (d : ℕ) (u : Uberblock) (config : List ℕ) → p.member d ≡ false → IsVerifiedOn c.head_of p.size known p.name d u config
    → (r : Rec) × IsDrawnRecord p u config r

-- No stray: no record of the name on a device that isn't a member's but those of this pool; and none that
-- was given up though an opening missed it, with a number not below the acknowledged one's, but where a live record is the very same.
pub record HasNoStray (head_of : List ℕ → Option Head) (p : Pool) (known : Known) : Type 0 where
  pub others : (d : ℕ) (u : Uberblock) (config : List ℕ) → p.member d ≡ false → IsVerifiedOn head_of p.size known p.name d u config
      → (r : Rec) × IsDrawnRecord p u config r
  pub passed : (d : ℕ) (u : Uberblock) (config : List ℕ) (r : Rec) → IsVerifiedOn head_of p.size known p.name d u config → IsDrawnRecord p u config r
      → IsIn r p.given → IsIn r p.missed → (number_of r < number_of p.acked) ⊎ HasTwin p r

-- The labels of a member hold a live record in which it takes part: its uberblock in its slot, and its configuration in
-- label 0 or 1.
pub record HoldsLabels (p : Pool) (d : ℕ) (r : Rec) : Type 0 where
  pub is_live : IsIn r p.live
  pub takes : takes_part r (p.guid d) ≡ true
  pub ring : (s : ℕ) (bytes : List ℕ) → InRing (seat p d) r s bytes → Held (p.sectors d s) bytes
  pub part : ((s : ℕ) (bytes : List ℕ) → InPart odd_part r s bytes → Held (p.sectors d s) bytes)
      ⊎ ((s : ℕ) (bytes : List ℕ) → InPart even_part r s bytes → Held (p.sectors d s) bytes)

-- These bytes stand on sector s of the device, which is clean and was read.
pub record IsReadClean (p : Pool) (known : Known) (d s : ℕ) (bytes : List ℕ) : Type 0 where
  pub clean : IsClean (p.sectors d s)
  pub stands : (p.sectors d s).stable ≡ bytes
  pub is_read : (shown : List ℕ) × (known d s ≡ Some shown)

-- A member with sound labels: some place of its rings has the uberblock of a live record, and some of its labels the
-- configuration, each on clean sectors that were read. Nothing is asked of the other sectors of its labels.
pub record HasSoundLabels (p : Pool) (known : Known) (d : ℕ) : Type 0 where
  pub is_member : p.member d ≡ true
  pub promised : Rec
  pub is_live : IsIn promised p.live
  pub numbered : 1 ≤ number_of promised
  pub place : ℕ
  pub in_rings : place < 128
  pub uberblock : IsReadClean p known d (place_at (p.size d) place) (uberblock_bytes (uberblock_of promised.commit (seat p d)))
  pub label : ℕ
  pub is_label : label < 4
  pub config : (i : ℕ) → i < sectors_in promised.commit.blob → IsReadClean p known d (config_at (p.size d) label + i) (sector_of i promised.commit.blob)
  pub part_read : (bytes : List ℕ) × (known d (config_at (p.size d) label) ≡ Some bytes)

-- The premises of finding a record.
pub record Premises (head_of : List ℕ → Option Head) (p : Pool) (known : Known) : Type 0 where
  pub no_clash : HasNoClash head_of p known
  pub no_stray : HasNoStray head_of p known
  pub good : ℕ
  pub sound_labels : HasSoundLabels p known good

-- A leaf of the cell's top has its block: its log in the record lacks the birth, the sector is undamaged, and its reads of the
-- block don't fail.
pub record HasGoodLeaf (p : Pool) (r : Rec) (cell : Cell) (answering : ℕ → Bool) : Type 0 where
  pub d : ℕ
  pub is_member : p.member d ≡ true
  pub top_is : r.tops (p.guid d) ≡ cell.top
  pub has : r.owes (p.guid d) cell.birth ≡ false
  pub unhurt : (p.sectors d (data_start + cell.sector)).damaged ≡ false
  pub answers : answering d ≡ true

-- The premise of reading the found record's pages back: so it is of each of them, by whose reads of that very page answer.
abbrev pub HasGoodPages : Pool → Rec → (answering : Key → ℕ → Bool) → Type 0
HasGoodPages p r answering = (level index : ℕ) (cell : Cell) → 1 ≤ level → level ≤ 3 → r.cells (key level index) ≡ Some cell
    → HasGoodLeaf p r cell (answering (key level index))

-- What an opening found of the pages of a record, where it read these sectors: of a page only bytes with the page's sum, and
-- none only where each leaf of its top missed it, since its reads of the page don't answer, or gave bytes of another sum there.
pub record IsSearched (p : Pool) (r : Rec) (answering : Key → ℕ → Bool) (known : Known) (found : Key → Option (List ℕ)) : Type 0 where
  pub summed : (k : Key) (cell : Cell) (bytes : List ℕ) → r.cells k ≡ Some cell → found k ≡ Some bytes → sha256 bytes ≡ sha256 cell.block
  pub missed : (k : Key) (cell : Cell) (d : ℕ) → r.cells k ≡ Some cell → found k ≡ None → p.member d ≡ true → r.tops (p.guid d) ≡ cell.top
      → (answering k d ≡ false) ⊎ ((bytes : List ℕ) × (known d (data_start + cell.sector) ≡ Some bytes) × (sha256 bytes ≢ sha256 cell.block))

-- By what was read of its rings this device has the identity of a member of the pool: a correct uberblock gives it.
pub record HasIdentity (p : Pool) (known : Known) (d : ℕ) (m : Guid) : Type 0 where
  pub place : ℕ
  pub inside : place < 128
  pub bytes : List ℕ
  pub is_read : known d (place_at (p.size d) place) ≡ Some bytes
  pub u : Uberblock
  pub correct : IsUberblock u bytes
  pub pool_is : u.pool ≡ p.pool
  pub member_is : u.member ≡ m

-- In a user's words: no device that the pool has lost, or never had, is handed in under the name of a leaf of the found record
-- with that leaf's identity on it. `under` tells under which leaf's name a device is handed in.
abbrev pub AreNamesKept : Pool → Rec → Known → (under : ℕ → Guid → Bool) → Type 0
AreNamesKept p r known under = (d : ℕ) (m : Guid) → under d m ≡ true → 1 ≤ r.tops m → HasIdentity p known d m → p.member d ≡ true

-- the devices that an opening takes for leaves: each is handed in under the leaf's name, and has its identity
abbrev pub AreClaims : Pool → Known → (under claims : ℕ → Guid → Bool) → Type 0
AreClaims p known under claims = (d : ℕ) (m : Guid) → claims d m ≡ true → (under d m ≡ true) × HasIdentity p known d m

-- No twin: each device that is handed in under the name of a leaf of the found record, and has that leaf's identity,
-- is the one that the history has there.
abbrev pub HasNoTwin : Pool → Rec → (claims : ℕ → Guid → Bool) → Type 0
HasNoTwin p r claims = (d : ℕ) (m : Guid) → claims d m ≡ true → 1 ≤ r.tops m → (p.member d ≡ true) × (p.guid d ≡ m)

-- the premises hold at each look among these events
abbrev pub AreGood : (List ℕ → Option Head) → Pool → List Event → Type 0
AreGood head_of p [] = Unit {0}
AreGood head_of p (Looks known ∷ vs) = Premises head_of p known × AreGood head_of p vs
AreGood head_of p (v ∷ vs) = AreGood head_of (after v p) vs
