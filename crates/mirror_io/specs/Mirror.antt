-- A read of a block from its copies, and a write to all of them.
use Rattle.std.specs.Prelude.{◌≡◌, ℕ, Bool, true, false, List, [], ◌∷◌, ◌++◌, map, Option, Some, None, Result, Ok, Err}
use Rattle.mp_base.specs.Outside.{Rose}
use Rattle.bank_core.specs.Asks.{Ask, Writes, asks_of}
use Rattle.bank_core.specs.BankView.{BankView}
use Rattle.bank_core.specs.Calls.{Makes}
use Rattle.bank_core.specs.Disk.{Noted}
use Rattle.label_store.specs.Phases.{IsPhase}
use Rattle.mirror_io.specs.declared.copies.CopyOf.{CopyOf}
use Rattle.mirror_io.specs.declared.copies.CopySeen.{CopySeen}
use Rattle.mirror_io.specs.Copies.{tries}
use Rattle.mirror_io.specs.Reading.{MirrorBlock}
use Rattle.mirror_io.specs.Reads.{AreTried, IsReads, heals}
use Rattle.mirror_io.specs.Seen.{is_outcome, copy_shown, copy_seen}

-- the block that a read answered, where it did
abbrev pub given : {E : Type 0} → List ℕ → Result (Unit {0}) E → Option (List ℕ)
given out (Ok done) = Some out
given out (Err error) = None

-- behind a good copy the wrong ones are rewritten, once each, in the order in which they were read; else none is
abbrev pub IsHealed : (at : ℕ) → (outcome : Option (List ℕ)) → (wrong : List CopyOf) → List Noted → Type 0
IsHealed at (Some block) wrong made = asks_of made ≡ heals at block wrong
IsHealed at None wrong made = made ≡ []

-- A read of copies of which such bytes are good: they were read in their order, up to the first that was good, and the wrong ones
-- rewritten with it. Of each copy is told what these calls show, where a copy is good that gave the very bytes of the answer.
pub record ReadsGood (Good : List ℕ → Type 0) (copies : List CopyOf) (at : ℕ) (seen : List CopySeen)
    (outcome : Option (List ℕ)) (old new : BankView) : Type 0 where
  pub reads : List Noted
  pub rewrites : List Noted
  pub wrong : List CopyOf
  pub bank : Makes (reads ++ rewrites) old new
  pub is_tried : AreTried at Good (tries copies) reads wrong outcome
  pub is_healed : IsHealed at outcome wrong rewrites
  pub shown : seen ≡ map (copy_shown (is_outcome outcome) (reads ++ rewrites)) copies

-- A read of a block: the copies were read in their order, up to the first that was good, and the wrong ones rewritten.
-- Of each copy is told what these calls show.
pub record ReadsBlock (block : MirrorBlock) (seen : List CopySeen) (outcome : Option (List ℕ)) (old new : BankView)
    : Type 0 where
  pub reads : List Noted
  pub rewrites : List Noted
  pub wrong : List CopyOf
  pub bank : Makes (reads ++ rewrites) old new
  pub is_read : IsReads block.at block.sum (tries block.copies) reads wrong outcome
  pub is_healed : IsHealed block.at outcome wrong rewrites
  pub shown : seen ≡ map (copy_seen block.sum (reads ++ rewrites)) block.copies

-- what is asked of a device
abbrev pub write_plan : (at : ℕ) → List ℕ → (dev : ℕ) → List Ask
write_plan at block dev = Writes dev at block ∷ []

-- A write of a block to each of these devices, in order, with those that did it: a phase of which each takes part.
pub record WritesBlock (devs : List ℕ) (at : ℕ) (block : List ℕ) (done : List Bool) (old new : BankView) : Type 0 where
  pub made : List Noted
  pub bank : Makes made old new
  pub phase : IsPhase (write_plan at block) devs (map (λ dev. true) devs) done made

-- a device that didn't do it failed in this call
abbrev pub IsExcused : (before after : ℕ → ℕ) → (dev : ℕ) → (done : Bool) → Type 0
IsExcused before after dev done = done ≡ false → Rose (before dev) (after dev)
