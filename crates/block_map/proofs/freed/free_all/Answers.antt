use Rattle.std.proofs.Common.{◌∙◌, refl, sym}
use Rattle.block_map.specs.Bits.{holds}
use Rattle.block_map.specs.NumberSet.{has}
use Rattle.block_map.proofs.FreeNumbers.{none_freed, not_yet_freed, freed_more}
use Rattle.block_map.proofs.freed.free_all.Goals as goal

pub loop-at-init : goal.loop-at-init
loop-at-init c =
    (λ i. c.requires.none i ∙ sym (none_freed c.args.sectors.now i), (λ i. c.requires.shut i ∙ sym (none_freed c.args.sectors.now i), (refl, refl)))

pub free_one-requires-clause-none : goal.free_one-requires-clause-none
free_one-requires-clause-none c = c.loop-at.invariant.0 c.loop-at.at ∙ not_yet_freed c.args.sectors.now c.loop-at.at

pub free_one-requires-clause-shut : goal.free_one-requires-clause-shut
free_one-requires-clause-shut c = c.loop-at.invariant.1.0 c.loop-at.at ∙ not_yet_freed c.args.sectors.now c.loop-at.at

pub loop-at-preserved : goal.loop-at-preserved
loop-at-preserved c =
    let is = c.free_one.ensures in (
      freed_more c.args.sectors.now c.loop-at.at (holds c.loop-at.free) (holds c.free_one.new.free) c.loop-at.invariant.0 is.now is.others,
      (
        freed_more c.args.sectors.now c.loop-at.at (has c.loop-at.opened) (has c.free_one.new.opened) c.loop-at.invariant.1.0 is.now_open is.others_open,
        (is.size ∙ c.loop-at.invariant.1.1.0, is.opened_size ∙ c.loop-at.invariant.1.1.1),
      ),
    )
