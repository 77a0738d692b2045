-- The names of the leaves that a block stands on are those of the pool that the code found.
use Rattle.std.proofs.Common.{◌≡◌, ℕ, Option, Some, None, Result, Ok, Err, List, [], refl, sym, ap, ◌∙◌, subst}
use Rattle.std.specs.Prelude.{IfOk}
use Rattle.std.specs.List.{find}
use Rattle.bank_core.specs.BankView.{BankView}
use Rattle.open_pool.specs.BlockNames as pool
use Rattle.open_pool.specs.State.{Stands}
use Rattle.pool_moves.specs.States.{PoolState}
use Rattle.pool_runs.specs.Hosts.{Host}
use Rattle.host_core.specs.Answering.{of_pool}
use Rattle.host_core.specs.BlockNames.{names_in, names_of_block}
use Rattle.host_core.specs.Naming.{is_called, IsCalledAt}
use Rattle.host_core.specs.Parts.{HostParts}
use Rattle.host_core.specs.Standing.{HostStands}
use Rattle.host_core.proofs.LinesOfHosts.{found_pool}
use Rattle.host_core.proofs.PoolsOfHosts.{none_there}

pub no_block : (host : HostParts) (name : List ℕ) (a : ℕ) → find (is_called name) host.pools ≡ None → (bank : BankView) (h : Host) → HostStands host bank h
    → [] ≡ names_of_block name a h
no_block host name a none bank h was = ap (λ o. names_in o a) (sym (none_there name host.pools h.pools was.pools none))

pub block_named : {T E : Type 0} (items : T → List (List ℕ)) (host : HostParts) (name : List ℕ) (a place : ℕ) → (at : IsCalledAt name host.pools place) → (result : Result T E)
    → ((s : PoolState) → Stands at.pool s → IfOk result (λ names. items names ≡ pool.names_of_block a s))
    → (bank : BankView) (h : Host) → HostStands host bank h → IfOk result (λ names. items names ≡ names_of_block name a h)
block_named items host name a place at (Ok names) are bank h was =
    let there = found_pool host bank h name place was at in are there.s there.stands ∙ ap (λ o. names_in o a) (sym there.is_named)
block_named items host name a place at (Err fault) are bank h was = tt

-- what a pool answers at Ok, its host does
pub ok_of_pool : {A E : Type 0} (P : A → Type 0) (answer : Result A E) → IfOk answer P → IfOk (of_pool answer) P
ok_of_pool P (Ok x) holds = holds
ok_of_pool P (Err why) holds = tt
