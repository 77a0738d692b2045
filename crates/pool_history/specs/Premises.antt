-- What is assumed at an opening, and nowhere else.
use Rattle.std.specs.Prelude.{◌≡◌, ◌⊎◌, ℕ, ◌<◌, ◌≤◌, true, false, List, [], ◌∷◌, Option, Some}
use Rattle.sha2.specs.Sha256.{sha256}
use Rattle.label_store.specs.declared.rule.Head.{Head}
use Rattle.label_store.specs.declared.uberblock.Uberblock.{Uberblock}
use Rattle.label_store.specs.Records.{AreUnhurt, place_at}
use Rattle.label_store.specs.Rounds.{config_of}
use Rattle.label_store.specs.Uberblock.{IsUberblock}
use Rattle.pool_history.specs.Events.{Event, Known, Calls, Accepts, Looks, Opens, Begins, Third, Ends, Acks, Loses, Stops}
use Rattle.pool_history.specs.Labels.{Odd, Even}
use Rattle.pool_history.specs.Openings.{IsVerifiedOn, IsReadWhole, IsDrawnRecord}
use Rattle.pool_history.specs.Pools.{Pool, after, drawn}
use Rattle.pool_history.specs.Records.{Rec, IsIn, number_of}
use Rattle.pool_history.specs.Survival.{IsAmong}

-- No clash: no configuration that was found has the sum of another that was drawn, and no ring sector that
-- was found holds a correct uberblock that neither stood there nor was written there in this run.
pub record HasNoClash (head_of : List ℕ → Option Head) (p : Pool) (known : Known) : Type 0 where
  pub sums : (r : Rec) (d : ℕ) (u : Uberblock) (config : List ℕ) → IsIn r (drawn p) → IsVerifiedOn head_of p.size known p.name d u config
      → sha256 config ≡ sha256 (config_of r.commit) → config ≡ config_of r.commit
  pub rings : (d place : ℕ) (bytes : List ℕ) (u : Uberblock) → p.member d ≡ true → place < 128 → known d (place_at (p.size d) place) ≡ Some bytes
      → IsUberblock u bytes → 1 ≤ u.number.0
      → (bytes ≡ (p.sectors d (place_at (p.size d) place)).stable) ⊎ IsAmong bytes (p.since d (place_at (p.size d) place))

-- No stray: no record of the name on a device that isn't a member's but those of this pool, and none that
-- was given up though an opening missed it, with a number not below the acknowledged one's.
pub record HasNoStray (head_of : List ℕ → Option Head) (p : Pool) (known : Known) : Type 0 where
  pub others : (d : ℕ) (u : Uberblock) (config : List ℕ) → p.member d ≡ false → IsVerifiedOn head_of p.size known p.name d u config
      → (r : Rec) × IsDrawnRecord p u config r
  pub passed : (d : ℕ) (u : Uberblock) (config : List ℕ) (r : Rec) → IsVerifiedOn head_of p.size known p.name d u config → IsDrawnRecord p u config r
      → IsIn r p.given → IsIn r p.missed → number_of r < number_of p.acked

-- A member with sound labels: they promise a record, none of their sectors is damaged, and each was read.
pub record HasSoundLabels (p : Pool) (known : Known) (d : ℕ) : Type 0 where
  pub is_member : p.member d ≡ true
  pub promised : Rec
  pub status_is : (p.status d ≡ Odd promised) ⊎ (p.status d ≡ Even promised)
  pub unhurt : AreUnhurt (p.size d) (p.sectors d)
  pub is_read : IsReadWhole (p.size d) (known d)

-- The premises of an opening.
pub record Premises (head_of : List ℕ → Option Head) (p : Pool) (known : Known) : Type 0 where
  pub no_clash : HasNoClash head_of p known
  pub no_stray : HasNoStray head_of p known
  pub good : ℕ
  pub sound_labels : HasSoundLabels p known good

-- they hold at each opening among these events
abbrev pub AreGood : (List ℕ → Option Head) → Pool → List Event → Type 0
AreGood head_of p [] = Unit {0}
AreGood head_of p (Calls noted ∷ vs) = AreGood head_of (after (Calls noted) p) vs
AreGood head_of p (Accepts a block ∷ vs) = AreGood head_of (after (Accepts a block) p) vs
AreGood head_of p (Looks known ∷ vs) = Premises head_of p known × AreGood head_of p vs
AreGood head_of p (Opens r ∷ vs) = AreGood head_of (after (Opens r) p) vs
AreGood head_of p (Begins q ∷ vs) = AreGood head_of (after (Begins q) p) vs
AreGood head_of p (Third q d ∷ vs) = AreGood head_of (after (Third q d) p) vs
AreGood head_of p (Ends q d ∷ vs) = AreGood head_of (after (Ends q d) p) vs
AreGood head_of p (Acks q ∷ vs) = AreGood head_of (after (Acks q) p) vs
AreGood head_of p (Loses d ∷ vs) = AreGood head_of (after (Loses d) p) vs
AreGood head_of p (Stops sectors size ∷ vs) = AreGood head_of (after (Stops sectors size) p) vs
