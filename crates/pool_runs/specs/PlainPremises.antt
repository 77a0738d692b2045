-- The premises of an opening in plain words, over a past of any number of runs.
use Rattle.std.specs.Prelude.{◌≡◌, ◌≢◌, ◌⊎◌, ℕ, ◌<◌, ◌≤◌, ◌==◌, true, cond, List}
use Rattle.sha2.specs.Sha256.{sha256}
use Rattle.label_store.specs.Records.{AreUnhurt}
use Rattle.label_store.specs.declared.uberblock.Uberblock.{Uberblock}
use Rattle.txg_history.specs.Events.{Known, Begins, Third, Ends, Acks, Opens, Joins}
use Rattle.txg_history.specs.Imports.{IsPast}
use Rattle.txg_history.specs.Labels.{Status, Odd, Even, Lost}
use Rattle.txg_history.specs.Openings.{IsVerifiedOn, IsReadWhole, IsDrawnRecord}
use Rattle.txg_history.specs.Pages.{Codec}
use Rattle.txg_history.specs.Premises.{AreNotTorn, AreOurs, AreThere, HasTwin}
use Rattle.txg_history.specs.Records.{Rec, IsIn, number_of, takes_part}
use Rattle.txg_history.specs.Survival.{IsAmong}
use Rattle.txg_history.specs.Tracking.{MayBeginNear, IsNotBelow}
use Rattle.pool_runs.specs.Pasts.{Past, Born, Then, Numbered, pool_of, IsFront}

-- What the labels of the member on device d hold, by the events alone: the record that was acknowledged last, or a later one
-- whose third phase began there, finished or not.
abbrev pub labels_in : Past → (d : ℕ) → Status
labels_in (Born birth sectors) d = Lost
labels_in (Then past (Third q e)) d = cond (e == d) (Even q) (labels_in past d)
labels_in (Then past (Ends q e)) d = cond (e == d) (Odd q) (labels_in past d)
labels_in (Then past (Acks q)) d = Odd q
labels_in (Then past v) d = labels_in past d
labels_in (Numbered past was called) d = labels_in past (was d)

-- The member on device d keeps up, by numbers: it took part in the round that was acknowledged last, in this run or in an
-- earlier one. Since then each round in which it takes part has a number less than 32 above that one's, and none of these
-- begins while a third phase on the member is unfinished; no opening reads a record of a lower number than the one that its
-- labels hold; and it isn't brought in anew.
abbrev pub KeepsUp : Past → (d : ℕ) → Type 0
KeepsUp (Born birth sectors) d = ⊥
KeepsUp (Then past (Acks q)) d = takes_part q ((pool_of past).guid d) ≡ true
KeepsUp (Then past (Begins q)) d = KeepsUp past d
    × (takes_part q ((pool_of past).guid d) ≡ true → MayBeginNear (pool_of past).acked (labels_in past d) q)
KeepsUp (Then past (Opens r)) d = KeepsUp past d × IsNotBelow (labels_in past d) r
KeepsUp (Then past (Joins e m top)) d = KeepsUp past d × (e ≢ d)
KeepsUp (Then past v) d = KeepsUp past d
KeepsUp (Numbered past was called) d = KeepsUp past (was d)

-- An opening of this past, in this run or an earlier one, passed the record by: it read one of a lower number while this one
-- was live.
pub record WasPassedBy (past : Past) (r : Rec) : Type 0 where
  pub before : Past
  pub opened : Rec
  pub front : IsFront (Then before (Opens opened)) past
  pub was_live : IsIn r (pool_of before).live
  pub lower : number_of opened < number_of r

-- Each record that was passed by and is found is below the acknowledged one, was acknowledged, or a live one is the very same.
abbrev pub FindsNonePassed : Codec → Past → Known → Type 0
FindsNonePassed c past known = (d : ℕ) (u : Uberblock) (config : List ℕ) (r : Rec)
    → IsVerifiedOn c.head_of (pool_of past).size known (pool_of past).name d u config
    → IsDrawnRecord (pool_of past) u config r → WasPassedBy past r → IsPast (pool_of past) r ⊎ HasTwin (pool_of past) r

-- Each opening of this past read a record that was not below any that was live then.
abbrev pub ReadsNewest : Past → Type 0
ReadsNewest past = (before : Past) (opened r : Rec) → IsFront (Then before (Opens opened)) past
    → IsIn r (pool_of before).live → number_of r ≤ number_of opened

-- no two of these byte strings differ and have one SHA-256 sum
abbrev pub HaveOwnSums : List (List ℕ) → Type 0
HaveOwnSums strings = (a b : List ℕ) → IsAmong a strings → IsAmong b strings → sha256 a ≡ sha256 b → a ≡ b

-- What a user may check before an opening. No clash: of the configurations that are found, and of those of records whose
-- uberblocks are, no two have one sum, and no ring sector was torn into a correct uberblock. No stray: no other pool's record of
-- the name is found, and none that was passed by. A good member: it keeps up, none of its label sectors is damaged, and each
-- was read.
pub record MeetsPremises (c : Codec) (past : Past) (known : Known) : Type 0 where
  pub strings : List (List ℕ)
  pub there : AreThere c.head_of (pool_of past) known strings
  pub sums : HaveOwnSums strings
  pub rings : AreNotTorn (pool_of past) known
  pub ours : AreOurs c (pool_of past) known
  pub passed : FindsNonePassed c past known
  pub good : ℕ
  pub is_member : (pool_of past).member good ≡ true
  pub keeps_up : KeepsUp past good
  pub unhurt : AreUnhurt ((pool_of past).size good) ((pool_of past).sectors good)
  pub is_read : IsReadWhole ((pool_of past).size good) (known good)
