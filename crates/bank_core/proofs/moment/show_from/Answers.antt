use Rattle.std.proofs.Common.{◌+◌}
use Rattle.bank_core.specs.Memory.{sector_then}
use Rattle.bank_core.proofs.Choosing.{chosen_here, chosen_more}
use Rattle.bank_core.proofs.Shown.{clean_more}
use Rattle.bank_core.proofs.moment.show_from.Goals as goal

pub loop-i-preserved : goal.loop-i-preserved
loop-i-preserved c =
    let sectors = sector_then c.args.moment.device.now c.args.moment.calls.now c.args.moment.damage.now c.args.moment.dev in
    record {
      clean = clean_more (λ i. sectors (c.args.at + i)) _ _ _ _ c.view_at.result
          c.loop-i.invariant.clean c.view_at.ensures c.shown_of.ensures.clean c.show_at.ensures.here c.show_at.ensures.others;
      chosen = λ choice is. chosen_more choice (λ i. sectors (c.args.at + i)) c.loop-i.out c.show_at.new.out c.loop-i.i (c.loop-i.invariant.chosen choice is)
          (chosen_here choice _ _ _ c.view_at.ensures (c.shown_of.ensures.chosen choice _ is c.show_at.ensures.here)) c.show_at.ensures.others;
    }
