-- What a seated host has: a table of a bank's devices, and a pool with its room, each leaf on the device of its name.
use Rattle.std.proofs.Common.{◌≡◌, ℕ, ◌+◌, ◌≤◌, List, [], Option, Some, None, refl, sym, ◌∙◌, subst}
use Rattle.bank_core.specs.Disk.{Noted}
use Rattle.bank_core.specs.Story.{Story}
use Rattle.pool_wire.specs.declared.reply.Reply.{Reply}
use Rattle.pool_wire.specs.declared.request.Request.{Request}
use Rattle.pool_core.specs.declared.pool.Pool.{Pool}
use Rattle.pool_core.specs.Away.{IsOwnDevice}
use Rattle.pool_core.specs.Keeping.{IsSeated, Stands as PairStands}
use Rattle.pool_core.specs.State.{PoolState}
use Rattle.host_machine.specs.declared.device.HostDevice.{HostDevice}
use Rattle.host_machine.specs.Devices.{number_in, AreApart}
use Rattle.host_machine.specs.Fitness.{AreSized, IsFit, IsWhole, PoolIsFit, PoolIsNamed}
use Rattle.host_machine.specs.Machine.{HostState, Entry, Step, started}
use Rattle.host_front.specs.declared.host.Host.{Host}
use Rattle.host_front.specs.Session.{Answers}
use Rattle.host_front.specs.Standing.{HostIsSeated, PoolStands, Stands}
use Rattle.host_front.proofs.Answering.{same_sizes, keeps_on}

pub stands_on_still : {host : Host} {h : HostState} (size size' : ℕ → ℕ) → ((d : ℕ) → size' d ≡ size d) → Stands size host h → Stands size' host h
stands_on_still size size' still stands = record { keeps = keeps_on size size' still stands.keeps; fit = stands.fit }

-- what still has its sizes is still seated
pub seated_on : {host : Host} (size size' : ℕ → ℕ) → ((d : ℕ) → size' d ≡ size d) → HostIsSeated size host → HostIsSeated size' host
seated_on size size' still seated = record { state = seated.state; stands = stands_on_still size size' still seated.stands }

-- what answered a line from a state that a run may reach is seated
pub seated_by : {host host' : Host} {old new : Option Story} {f g size size' : ℕ → ℕ} {reply : Reply} (asked : Option Request) (second : ℕ)
    → ((h : HostState) (entry : Entry) (made : List Noted) (next : HostState) → IsWhole entry.asked → IsFit h → Step h entry made next → IsFit next)
    → IsWhole asked → (seated : HostIsSeated size host)
    → ((h : HostState) → Stands size host h → Answers h asked second old new f g size' host' reply) → HostIsSeated size' host'
seated_by asked second stays whole seated answers =
    let a = answers seated.state seated.stands in
    record {
      state = a.next;
      stands = record {
        keeps = a.keeps;
        fit = stays seated.state a.entry a.made a.next (subst IsWhole (sym a.asked_is) whole) seated.stands.fit a.step;
      };
    }

-- a host with no pool
pub new_seated : {host : Host} (size : ℕ → ℕ) → AreSized size host.table.items → AreApart host.table.items → host.pool ≡ None → HostIsSeated size host
new_seated {host} size sized apart none = record {
  state = started host.table.items size [];
  stands = record {
    keeps = record { table = refl; sizes = λ d. refl; pool = subst (λ p. PoolStands p None) (sym none) tt };
    fit = record { apart = apart; sized = sized; drawn = λ r is. absurd is; pool = tt; named = tt };
  };
}

pub table_sized : {host : Host} (size : ℕ → ℕ) → HostIsSeated size host → AreSized size host.table.items
table_sized {host} size seated =
    let h = seated.state in
    subst (AreSized size) seated.stands.keeps.table (subst (λ at. AreSized at h.table) (same_sizes h.size size seated.stands.keeps.sizes) seated.stands.fit.sized)

pub table_apart : {host : Host} (size : ℕ → ℕ) → HostIsSeated size host → AreApart host.table.items
table_apart {host} size seated = subst AreApart seated.stands.keeps.table seated.stands.fit.apart

pool_seated_at : (size : ℕ → ℕ) (pool : Pool) (state : Option PoolState) → PoolStands (Some pool) state → PoolIsFit size state → IsSeated size pool
pool_seated_at size pool None stands fit = absurd stands
pool_seated_at size pool (Some s) stands fit = (
  λ d on. subst (λ n. n + 256 ≤ size d) stands.pair.sectors (fit.first.room d (stands.pair.first.dev ∙ on)),
  λ d on. subst (λ n. n + 256 ≤ size d) stands.pair.sectors (fit.second.room d (stands.pair.second.dev ∙ on)),
)

pub pool_seated : {host : Host} (size : ℕ → ℕ) (pool : Pool) → host.pool ≡ Some pool → HostIsSeated size host → IsSeated size pool
pool_seated {host} size pool is seated =
    let h = seated.state in
    pool_seated_at size pool h.pool (subst (λ p. PoolStands p h.pool) is seated.stands.keeps.pool)
    (subst (λ at. PoolIsFit at h.pool) (same_sizes h.size size seated.stands.keeps.sizes) seated.stands.fit.pool)

own_device_at : (table : List HostDevice) (pool : Pool) (device : List ℕ) (state : Option PoolState) → AreApart table → PoolStands (Some pool) state → PoolIsNamed table state
    → (s : PoolState) (d : ℕ) → PairStands pool.pair s → number_in device table ≡ Some d → IsOwnDevice s device d
own_device_at table pool device None apart stands named s d pair number = absurd stands
own_device_at table pool device (Some t) apart stands named s d pair number = record {
  first = λ on. pair.first.name ∙ sym stands.pair.first.name
      ∙ apart.by t.first.name device d (named.0 d (stands.pair.first.dev ∙ sym pair.first.dev ∙ on)) number;
  second = λ on. pair.second.name ∙ sym stands.pair.second.name
      ∙ apart.by t.second.name device d (named.1 d (stands.pair.second.dev ∙ sym pair.second.dev ∙ on)) number;
}

-- no other leaf is on the device of a name
pub own_device : {host : Host} (size : ℕ → ℕ) (pool : Pool) (device : List ℕ) → host.pool ≡ Some pool → HostIsSeated size host
    → (s : PoolState) (d : ℕ) → PairStands pool.pair s → number_in device host.table.items ≡ Some d → IsOwnDevice s device d
own_device {host} size pool device is seated =
    let h = seated.state in
    own_device_at host.table.items pool device h.pool (table_apart size seated) (subst (λ p. PoolStands p h.pool) is seated.stands.keeps.pool)
    (subst (λ table. PoolIsNamed table h.pool) seated.stands.keeps.table seated.stands.fit.named)
