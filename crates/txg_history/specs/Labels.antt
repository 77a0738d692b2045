-- What a member's labels hold for good, whatever crash comes.
use Rattle.std.specs.Prelude.{◌==◌, cond}
use Rattle.label_store.specs.Layout.{slot_of}
use Rattle.txg_history.specs.Records.{Rec, number_of}

pub data Status : Type 0 where
  -- the record's configuration stands in the odd labels, and its uberblock in its slot: a further round may begin
  Odd : (r : Rec) → Status
  -- its configuration stands in the even labels alone, and its uberblock in its slot: a third phase has begun
  Even : (r : Rec) → Status
  -- nothing is promised
  Lost : Status

-- The round of q begins on a member that takes part in it. Its first phase writes over the even labels, and
-- its second over the slot of q.
abbrev pub begun : Status → Rec → Status
begun (Odd r) q = cond (slot_of (number_of r) == slot_of (number_of q)) Lost (Odd r)
begun (Even r) q = Lost
begun Lost q = Lost
