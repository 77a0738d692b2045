-- What a stray is, told by a past of several runs: passed by in one of them, and never acknowledged.
use Rattle.std.proofs.Common.{◌⊎◌, ⊎_elim, inl, inr, ◌<◌, refl, arith}
use Rattle.txg_history.specs.Events.{Known, Opens}
use Rattle.txg_history.specs.Imports.{IsPast}
use Rattle.txg_history.specs.Pages.{Codec}
use Rattle.txg_history.specs.Premises.{AreOurs, HasNoStray, HasTwin}
use Rattle.txg_history.specs.Records.{Rec, IsIn, number_of, above}
use Rattle.txg_history.proofs.Listing.{in_append}
use Rattle.txg_history.proofs.Straying.{above_in, acked_below}
use Rattle.pool_runs.specs.Pasts.{Past, Born, Then, Numbered, pool_of, IsAllowed, IsFront}
use Rattle.pool_runs.specs.PlainPremises.{WasPassedBy, FindsNonePassed, ReadsNewest}
use Rattle.pool_runs.proofs.Pasting.{past_survives}

-- it was passed by in a longer past too
passed_still : (past longer : Past) (r : Rec) → ((early : Past) → IsFront early past → IsFront early longer)
    → WasPassedBy past r → WasPassedBy longer r
passed_still past longer r more was = record {
  before = was.before;
  opened = was.opened;
  front = more (Then was.before (Opens was.opened)) was.front;
  was_live = was.was_live;
  lower = was.lower;
}

-- A record is missed only where an opening of some run read a lower one while it was live.
pub passed_by : (past : Past) (r : Rec) → IsIn r (pool_of past).missed → WasPassedBy past r
passed_by (Born birth sectors) r missed = absurd missed
passed_by (Then past (Opens q)) r missed = ⊎_elim
    (λ now. let is = above_in (number_of q) r (pool_of past).live now in
    record { before = past; opened = q; front = inl refl; was_live = is.0; lower = is.1 })
    (λ old. passed_still past (Then past (Opens q)) r (λ early front. inr front) (passed_by past r old))
    (in_append r (above (number_of q) (pool_of past).live) (pool_of past).missed missed)
passed_by (Then past v) r missed = passed_still past (Then past v) r (λ early front. inr front) (passed_by past r missed)
passed_by (Numbered past was called) r missed =
    passed_still past (Numbered past was called) r (λ early front. inr front) (passed_by past r missed)

-- Where each that was passed by and is found is past, or a live one is the very same, there is no stray.
pub none_passed : (c : Codec) (past : Past) (known : Known) → IsAllowed c past → AreOurs c (pool_of past) known
    → FindsNonePassed c past known → HasNoStray c.head_of (pool_of past) known
none_passed c past known ok ours none = record {
  others = ours;
  passed = λ d u config r verified is given missed.
      ⊎_elim (past_one r) inr (none d u config r verified is (passed_by past r missed));
}
  where
    past_one : (r : Rec) → IsPast (pool_of past) r
        → (number_of r < number_of (pool_of past).acked) ⊎ HasTwin (pool_of past) r
    past_one r (inl acked) = acked_below c (pool_of past) r (past_survives c past ok) acked
    past_one r (inr below) = inl below

-- Where each opening read a newest record none was passed by.
pub newest_none : (c : Codec) (past : Past) (known : Known) → AreOurs c (pool_of past) known → ReadsNewest past
    → HasNoStray c.head_of (pool_of past) known
newest_none c past known ours newest = record {
  others = ours;
  passed = λ d u config r verified is given missed. absurd (let was = passed_by past r missed in
      let low = newest was.before was.opened r was.front was.was_live in let lower = was.lower in omega (arith, low, lower));
}
