-- Reads of a block by its sum are reads of copies of which the bytes of that sum are good.
use Rattle.std.proofs.Common.{◌≡◌, ℕ, List, [], ◌∷◌, ◌++◌, Option, Some, None, sym, ◌∙◌, subst, inl, inr, ◌⊎◌}
use Rattle.bank_core.specs.BankView.{BankView}
use Rattle.bank_core.specs.Disk.{Noted}
use Rattle.mirror_io.specs.declared.copies.CopyOf.{CopyOf}
use Rattle.mirror_io.specs.declared.copies.CopySeen.{CopySeen}
use Rattle.mirror_io.specs.Copies.{tries}
use Rattle.mirror_io.specs.Mirror.{IsHealed, ReadsBlock, ReadsGood}
use Rattle.mirror_io.specs.Reading.{AllTold}
use Rattle.mirror_io.specs.Reads.{Fails, Differs, Serves, AreTried, HasSum, IsReads}
use Rattle.mirror_io.specs.Seen.{has_sum, is_outcome}
use Rattle.mirror_io.proofs.Reading.{Next}
use Rattle.mirror_io.proofs.Telling.{told_both, writes_told, sum_told, outcome_told, shown_same}

abbrev NextRead : (at : ℕ) → (sum : List ℕ) → CopyOf → Noted → List CopyOf → List Noted → List CopyOf → Option (List ℕ) → Type 0
NextRead at sum copy noted more made wrong outcome =
    (Fails copy at noted.call × IsReads at sum more made wrong outcome)
    ⊎ (((others : List CopyOf) × Differs copy at sum noted.call × (wrong ≡ copy ∷ others) × IsReads at sum more made others outcome)
    ⊎ ((bytes : List ℕ) × Serves copy at sum bytes noted.call × (made ≡ []) × (wrong ≡ []) × (outcome ≡ Some bytes)))

pub reads_sum : (at : ℕ) (sum : List ℕ) (copies : List CopyOf) (made : List Noted) (wrong : List CopyOf) (outcome : Option (List ℕ))
    → AreTried at (HasSum sum) copies made wrong outcome → IsReads at sum copies made wrong outcome
reads_sum at sum [] made wrong outcome tried = tried
reads_sum at sum (copy ∷ copies) [] wrong outcome tried = tried
reads_sum at sum (copy ∷ copies) (noted ∷ made) wrong outcome tried = go tried (λ wrong rest. reads_sum at sum copies made wrong outcome rest)
  where
    go : Next at (HasSum sum) copy noted copies made wrong outcome
        → ((wrong : List CopyOf) → AreTried at (HasSum sum) copies made wrong outcome → IsReads at sum copies made wrong outcome)
        → NextRead at sum copy noted copies made wrong outcome
    go (inl (failed, rest)) more = inl (failed, more wrong rest)
    go (inr (inl (others, bytes, gave, is, rest))) more =
        inr (inl (others, record { bytes = bytes; gives = gave.gives; other = gave.is }, is, more others rest))
    go (inr (inr (bytes, gave, none, right, is))) more = inr (inr (bytes, record { gives = gave.gives; same = gave.is }, none, right, is))

pub tried_sum : (at : ℕ) (sum : List ℕ) (copies : List CopyOf) (made : List Noted) (wrong : List CopyOf) (outcome : Option (List ℕ))
    → IsReads at sum copies made wrong outcome → AreTried at (HasSum sum) copies made wrong outcome
tried_sum at sum [] made wrong outcome reads = reads
tried_sum at sum (copy ∷ copies) [] wrong outcome reads = reads
tried_sum at sum (copy ∷ copies) (noted ∷ made) wrong outcome reads = go reads (λ wrong rest. tried_sum at sum copies made wrong outcome rest)
  where
    go : NextRead at sum copy noted copies made wrong outcome
        → ((wrong : List CopyOf) → IsReads at sum copies made wrong outcome → AreTried at (HasSum sum) copies made wrong outcome)
        → Next at (HasSum sum) copy noted copies made wrong outcome
    go (inl (failed, rest)) more = inl (failed, more wrong rest)
    go (inr (inl (others, differs, is, rest))) more =
        inr (inl (others, differs.bytes, record { gives = differs.gives; is = differs.other }, is, more others rest))
    go (inr (inr (bytes, serves, none, right, is))) more = inr (inr (bytes, record { gives = serves.gives; is = serves.same }, none, right, is))

-- The whole read.
healed_told : (sum : List ℕ) (at : ℕ) (outcome : Option (List ℕ)) (wrong : List CopyOf) (made : List Noted) → IsHealed at outcome wrong made
    → AllTold (is_outcome outcome) (HasSum sum) made
healed_told sum at (Some block) wrong made is = writes_told (is_outcome (Some block)) (HasSum sum) at block _ made is
healed_told sum at None wrong made is = subst (AllTold (is_outcome None) (HasSum sum)) (sym is) tt

pub block_read : {sum : List ℕ} {copies : List CopyOf} {at : ℕ} {shown : List CopySeen} {outcome : Option (List ℕ)} {old new : BankView}
    → ReadsGood (HasSum sum) copies at shown outcome old new → ReadsBlock (record { copies = copies; at = at; sum = sum }) shown outcome old new
block_read {sum} {copies} {at} {shown} {outcome} {old} {new} r = record {
  reads = r.reads;
  rewrites = r.rewrites;
  wrong = r.wrong;
  bank = r.bank;
  is_read = reads_sum at sum (tries copies) r.reads r.wrong outcome r.is_tried;
  is_healed = r.is_healed;
  shown = r.shown ∙ shown_same (is_outcome outcome) (has_sum sum) (HasSum sum) (r.reads ++ r.rewrites) copies
      (told_both (is_outcome outcome) (HasSum sum) r.reads r.rewrites (outcome_told at (HasSum sum) (tries copies) r.reads r.wrong outcome r.is_tried)
      (healed_told sum at outcome r.wrong r.rewrites r.is_healed))
      (sum_told sum (r.reads ++ r.rewrites));
}
