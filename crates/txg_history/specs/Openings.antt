-- What an opening finds on the labels.
use Rattle.std.specs.Prelude.{◌≡◌, ℕ, ◌+◌, ◌<◌, ◌≤◌, List, Option, Some, slice_index}
use Rattle.label_store.specs.declared.rule.Head.{Head}
use Rattle.label_store.specs.declared.uberblock.Uberblock.{Uberblock}
use Rattle.label_store.specs.Layout.{labels_of}
use Rattle.label_store.specs.Records.{IsVerified, config_at}
use Rattle.label_store.specs.Rounds.{config_of}
use Rattle.txg_history.specs.Events.{Known}
use Rattle.txg_history.specs.Pages.{Codec}
use Rattle.txg_history.specs.Pools.{Pool, drawn}
use Rattle.txg_history.specs.Records.{Rec, IsIn, number_of}

-- By what was read, this device has a verified record of the name. Its label's configuration part was read,
-- also where the configuration is empty.
pub record IsVerifiedOn (head_of : List ℕ → Option Head) (size : ℕ → ℕ) (known : Known) (name : List ℕ) (d : ℕ) (u : Uberblock) (config : List ℕ) : Type 0 where
  pub place : ℕ
  pub verified : IsVerified head_of (size d) (known d) place u config
  pub is_read : (bytes : List ℕ) × (known d (config_at (size d) verified.label) ≡ Some bytes)
  pub head : Head
  pub reads : head_of config ≡ Some head
  pub name_is : head.name ≡ name

-- The record that an opening takes: it is verified on a device, and none with a greater number is.
pub record IsYield (head_of : List ℕ → Option Head) (size : ℕ → ℕ) (known : Known) (name : List ℕ) (u : Uberblock) (config : List ℕ) : Type 0 where
  pub d : ℕ
  pub verified : IsVerifiedOn head_of size known name d u config
  pub greatest : (e : ℕ) (v : Uberblock) (other : List ℕ) → IsVerifiedOn head_of size known name e v other → v.number.0 ≤ u.number.0

-- each sector of a device's labels was read, but for the blank and the boot parts
abbrev pub IsReadWhole : (size : ℕ) → (ℕ → Option (List ℕ)) → Type 0
IsReadWhole size known = (label s : ℕ) → label < 4 → 4 ≤ s → s < 64 → (bytes : List ℕ) × (known (slice_index (labels_of size) label + s) ≡ Some bytes)

-- An uberblock with its configuration is a drawn record's.
pub record IsDrawnRecord (p : Pool) (u : Uberblock) (config : List ℕ) (r : Rec) : Type 0 where
  pub is_drawn : IsIn r (drawn p)
  pub config_is : config ≡ config_of r.commit
  pub number_is : u.number ≡ r.commit.number
  pub pool_is : u.pool ≡ p.pool

-- What an opening found is a live record, at least as new as the acknowledged one.
pub record FindsLive (p : Pool) (u : Uberblock) (config : List ℕ) : Type 0 where
  pub found : Rec
  pub is_live : IsIn found p.live
  pub config_is : config ≡ config_of found.commit
  pub number_is : u.number ≡ found.commit.number
  pub pool_is : u.pool ≡ p.pool
  pub not_below : number_of p.acked ≤ number_of found

-- An opening finds a record of the name, and whatever it may take is live.
pub record Finds (c : Codec) (p : Pool) (known : Known) : Type 0 where
  pub some : (d : ℕ) × (u : Uberblock) × (config : List ℕ) × IsVerifiedOn c.head_of p.size known p.name d u config
  pub each : (u : Uberblock) (config : List ℕ) → IsYield c.head_of p.size known p.name u config → FindsLive p u config
