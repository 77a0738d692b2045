use Rattle.std.proofs.Common.{◌≡◌, ℕ, List, Option, Some, subst}
use Rattle.pool_wire.specs.declared.request.Request.{Request}
use Rattle.pool_wire.specs.declared.request.Request.TheVariants as requests
use Rattle.host_machine.specs.Fitness.{IsWhole}
use Rattle.host_machine.proofs.FoundStates.{AreNames}
use Rattle.host_machine.proofs.FitHosts.{line_fit}
use Rattle.host_machine.proofs.KeptRecords.{line_keeps}
use Rattle.host_machine.proofs.laws.hosts_stay_fit.Goals as goal

named : (asked : Option Request) (name : List ℕ) (blocks : ℕ) (first other : List ℕ) → IsWhole asked → asked ≡ Some (requests.Create name blocks first other) → AreNames name first other
named asked name blocks first other whole is =
    let names : IsWhole (Some (requests.Create name blocks first other)) = subst IsWhole is whole in record { name_is = names.0; first_is = names.1; other_is = names.2 }

pub returns-clause-stays : goal.returns-clause-stays
returns-clause-stays c = λ h entry made next whole fit step.
    line_fit h next entry made (λ name blocks first other asked. named entry.asked name blocks first other whole asked) whole fit step.step

pub returns-clause-keeps : goal.returns-clause-keeps
returns-clause-keeps c = λ h entry made next r step. line_keeps h next entry made r step.step
