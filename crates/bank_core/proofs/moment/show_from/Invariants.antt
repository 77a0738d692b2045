use Rattle.std.proofs.Common.{◌≡◌, ◌+◌}
use Rattle.bank_core.specs.declared.moment.ImageChoice.{ImageChoice}
use Rattle.bank_core.specs.declared.moment.Showing.TheVariants as showing
use Rattle.bank_core.specs.Image.{ShowsChosen}
use Rattle.bank_core.specs.Memory.{sector_then}
use Rattle.bank_core.specs.View.{ShowsClean}
use Rattle.bank_core.proofs.moment.show_from.Given as goal

-- the sectors that were shown so far
abbrev pub invariant-loop-i : goal.invariant-loop-i
invariant-loop-i l =
    let sectors = sector_then l.moment.device.now l.moment.calls.now l.moment.damage.now l.moment.dev in
    record {
      clean : ShowsClean (λ i. sectors (l.at + i)) l.i l.out;
      chosen : (choice : ImageChoice) → l.showing ≡ showing.Image choice → ShowsChosen choice (λ i. sectors (l.at + i)) l.i l.out;
    }
