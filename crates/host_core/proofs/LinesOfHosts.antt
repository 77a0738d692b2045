-- A line of an open pool as an entry of a run.
use Rattle.std.proofs.Common.{◌≡◌, ◌⊎◌, inl, inr, ℕ, zero, suc, ◌+◌, ◌≤◌, Option, Some, None, Result, Err, List, [], ◌∷◌, refl, sym, ap, subst, arith}
use Rattle.std.specs.Prelude.{slice_get, slice_set}
use Rattle.std.specs.List.{AllByRecursion, find}
use Rattle.bank_core.specs.BankView.{BankView}
use Rattle.bank_core.specs.Calls.{Makes, device_of}
use Rattle.bank_core.proofs.Framing.{makes_none}
use Rattle.open_pool.specs.Answering as pools
use Rattle.open_pool.specs.Parts.{PoolParts}
use Rattle.open_pool.specs.State.{Stands}
use Rattle.pool_codec.specs.Codecs.{pool_codec}
use Rattle.pool_moves.specs.Moves.{Move, steps}
use Rattle.pool_moves.specs.ReadRow.{made_in}
use Rattle.pool_moves.specs.States.{PoolState}
use Rattle.pool_moves.proofs.Lists.{each}
use Rattle.pool_runs.specs.Acts.{Act, does, calls_along}
use Rattle.pool_runs.specs.Devices.{size_in}
use Rattle.pool_runs.specs.HostRows.{ByMoves, OnPool, RowOf, TakesMemory}
use Rattle.pool_runs.specs.Hosts.{Host, host_along, named}
use Rattle.pool_runs.specs.Lines.{Asked, Reply, No_pool, No_memory}
use Rattle.host_core.specs.declared.host.Refused.TheVariants as refused
use Rattle.host_core.specs.Answering.{Answers, AnswersLine, of_pool, Says}
use Rattle.host_core.specs.Naming.{is_called, IsCalledAt}
use Rattle.host_core.specs.Parts.{HostParts}
use Rattle.host_core.specs.Standing.{HasOwnDevices, HostStands}
use Rattle.host_core.proofs.CallsOnLeaves.{IsOn, AreSuch, no_calls}
use Rattle.host_core.proofs.PoolsOfHosts.{IsThere, is_there, none_there, calls_of, IsHeld, own_does, calls_here, host_behind}

-- The pool of a host that the code found.
pub found_pool : (host : HostParts) (bank : BankView) (h : Host) (name : List ℕ) (place : ℕ) → HostStands host bank h → (at : IsCalledAt name host.pools place)
    → IsThere name h.pools place at.pool
found_pool host bank h name place was at = is_there name host.pools h.pools place at.pool was.pools at.there at.called at.first

-- its own devices
pub owned_at : (h : Host) (s : PoolState) (ss : List PoolState) (place : ℕ) → AllByRecursion (HasOwnDevices h) ss → slice_get ss place ≡ Some s → HasOwnDevices h s
owned_at h s [] place all at = absurd (let no : None ≡ Some s = at in cc)
owned_at h s (x ∷ ss) zero all at = subst (HasOwnDevices h) (let is : x ≡ s = cc in is) all.0
owned_at h s (x ∷ ss) (suc place) all at = owned_at h s ss place all.1 at

pub owners : (h : Host) (s : PoolState) → HasOwnDevices h s → AreSuch (IsHeld h s.core.pool.0) s.core.leaves
owners h s owned = each (λ leaf own d is. ((own d is).owned, some (s.core.room leaf.top) (size_in h.table d) (own d is).room)) s.core.leaves owned
  where
    some : (room size : ℕ) → room + 256 ≤ size → 1 ≤ size
    some room size roomy = omega (arith, roomy)

-- The acts are these moves of an open pool, with marks among them at most.
pub record Does (g : ℕ) (h : Host) (vs : List Move) (acts : List Act) : Type 0 where
  pub calls : calls_along acts ≡ made_in vs
  pub leaves : host_along acts h ≡ host_along (does g vs) h

pub just_moves : (g : ℕ) (h : Host) (vs : List Move) → Does g h vs (does g vs)
just_moves g h vs = record { calls = calls_of g vs; leaves = refl }

-- The line of a pool by its row's moves.
pub by_moves : (h : Host) (s : PoolState) (Row : List Move → Type 0) (vs : List Move) → Row vs → AllByRecursion (IsOn (IsHeld h s.core.pool.0)) vs
    → ByMoves h s Row (does s.core.pool.0 vs)
by_moves h s Row vs row on = record { moves = vs; row = row; are = refl; own = own_does h s.core.pool.0 vs on }

-- A row that makes no call.
pub quietly : {R A : Type 0} {Row : List Move → R → Type 0} {says : R → A} {answer : A} {s : PoolState} {new : PoolParts} (bank : BankView)
    → ((vs : List Move) (reply : R) → Row vs reply → AllByRecursion (IsOn (λ d. ⊥)) vs) → pools.Answers Row says answer s new
    → pools.Does Row says answer s new bank bank
quietly bank on a = record { answers = a; calls = subst (λ made. Makes made bank bank) (sym (no_calls a.moves (on a.moves a.reply a.is))) makes_none }

-- The pool stands for the state that it stood for.
pub same_host : {name : List ℕ} (host : HostParts) (bank : BankView) (h : Host) (place : ℕ) (p new : PoolParts) (there : IsThere name h.pools place p) → HostStands host bank h → Stands new there.s
    → HostStands (record host { pools = slice_set host.pools place new }) bank h
same_host host bank h place p new there was stands = host_behind host bank bank h place new there.s (λ d. ⊥) [] was there.at tt stands makes_none

-- There is no pool of the name, and nothing was done.
module _ (asked : Asked) (name : List ℕ) (Line : Host → PoolState → List Act → Reply → Type 0)
    (row : (h : Host) (acts : List Act) (reply : Reply) → OnPool (named name h.pools) (Line h) acts reply → RowOf pool_codec h asked acts reply) where
  pub no_pool : (SaysIt : Reply → Type 0) (host : HostParts) (bank : BankView) → SaysIt No_pool → find (is_called name) host.pools ≡ None
      → AnswersLine asked SaysIt host host bank bank
  no_pool SaysIt host bank says none = λ h was. record {
    entry = record { asked = asked; second = h.second; acts = []; reply = No_pool };
    asks = refl;
    hears = refl;
    says = says;
    line = record {
      row = inl (row h [] No_pool (subst (λ found. OnPool found (Line h) [] No_pool) (sym (none_there name host.pools h.pools was.pools none)) (refl, refl)));
      here = tt;
      calls = makes_none;
      stands = was;
    };
  }

  -- There was no memory, and nothing was done.
  pub no_memory : (SaysIt : Reply → Type 0) (host new : HostParts) (bank : BankView) (h : Host) → TakesMemory asked → SaysIt No_memory → HostStands new bank h
      → Answers asked SaysIt h new bank bank
  no_memory SaysIt host new bank h takes says stands = record {
    entry = record { asked = asked; second = h.second; acts = []; reply = No_memory };
    asks = refl;
    hears = refl;
    says = says;
    line = record {
      row = inr (record { takes = takes; begun = inl refl; answered = tt; early = inl (tt, tt); says = refl });
      here = tt;
      calls = makes_none;
      stands = stands;
    };
  }

  -- The pool made these moves, and marked something at most.
  pub pool_moved : (SaysIt : Reply → Type 0) (host : HostParts) (from to : BankView) (h : Host) (place : ℕ) (p new : PoolParts) (there : IsThere name h.pools place p)
      (vs : List Move) (acts : List Act) (reply : Reply) → Does there.s.core.pool.0 h vs acts → SaysIt reply → HostStands host from h
      → AllByRecursion (IsOn (IsHeld h there.s.core.pool.0)) vs → Line h there.s acts reply
      → Stands new (steps vs there.s) → Makes (made_in vs) from to
      → Answers asked SaysIt h (record host { pools = slice_set host.pools place new }) from to
  pool_moved SaysIt host from to h place p new there vs acts reply does says was on line stands makes = record {
    entry = record { asked = asked; second = h.second; acts = acts; reply = reply };
    asks = refl;
    hears = refl;
    says = says;
    line = record {
      row = inl (row h acts reply (subst (λ found. OnPool found (Line h) acts reply) (sym there.is_named) line));
      here = subst (AllByRecursion (λ noted. 1 ≤ size_in h.table (device_of noted.call))) (sym does.calls) (calls_here h there.s.core.pool.0 vs on);
      calls = subst (λ l. Makes l from to) (sym does.calls) makes;
      stands = subst (HostStands (record host { pools = slice_set host.pools place new }) to) (sym does.leaves)
          (host_behind host from to h place new there.s (IsHeld h there.s.core.pool.0) vs was there.at on stands makes);
    };
  }

  -- It answered what its row says.
  module _ {R A E : Type 0} (to : R → Reply) (says : R → Result A E) (want : Option (Result A E)) (Row : Host → PoolState → List Move → R → Type 0)
      (line : (h : Host) (s : PoolState) (acts : List Act) (reply : R) → ByMoves h s (λ vs. Row h s vs reply) acts → Line h s acts (to reply)) where
    pub answered : (answer : Result A E) (host : HostParts) (from till : BankView) (h : Host) (place : ℕ) (p new : PoolParts) (there : IsThere name h.pools place p)
        → HostStands host from h
        → ((vs : List Move) (reply : R) → Row h there.s vs reply → AllByRecursion (IsOn (IsHeld h there.s.core.pool.0)) vs)
        → pools.Does (Row h there.s) says answer there.s new from till
        → Answers asked (Says to says want (of_pool answer)) h (record host { pools = slice_set host.pools place new }) from till
    answered answer host from till h place p new there was on done =
        let a = done.answers in let s = there.s in let g = s.core.pool.0 in let own = on a.moves a.reply a.is in
        pool_moved (Says to says want (of_pool answer)) host from till h place p new there a.moves (does g a.moves) (to a.reply) (just_moves g h a.moves)
        (inl (record { of = a.reply; reply_is = refl; answer_is = ap of_pool a.says_so })) was own
        (line h s (does g a.moves) a.reply (by_moves h s (λ vs. Row h s vs a.reply) a.moves a.is own)) a.leaves done.calls

    pub none_named : (host : HostParts) (bank : BankView) → find (is_called name) host.pools ≡ None
        → AnswersLine asked (Says to says want (Err refused.NoPool)) host host bank bank
    none_named host bank none = no_pool (Says to says want (Err refused.NoPool)) host bank (inr (inl (refl, refl))) none

    -- where it made no call, and there may have been no memory
    pub answered_quietly : (memory answer : Result A E) (host : HostParts) (bank : BankView) (h : Host) (place : ℕ) (p new : PoolParts) (there : IsThere name h.pools place p)
        → want ≡ Some memory → TakesMemory asked → HostStands host bank h
        → ((P : ℕ → Type 0) (vs : List Move) (reply : R) → Row h there.s vs reply → AllByRecursion (IsOn P) vs)
        → pools.Answers (Row h there.s) says answer there.s new ⊎ pools.OutOfMemory memory answer there.s new
        → Answers asked (Says to says want (of_pool answer)) h (record host { pools = slice_set host.pools place new }) bank bank
    answered_quietly memory answer host bank h place p new there may takes was on (inl a) =
        answered answer host bank bank h place p new there was (on (IsHeld h there.s.core.pool.0)) (quietly bank (λ vs reply row. on (λ d. ⊥) vs reply row) a)
    answered_quietly memory answer host bank h place p new there may takes was on (inr out) =
        no_memory (Says to says want (of_pool answer)) host (record host { pools = slice_set host.pools place new }) bank h takes
        (inr (inr (record { of = memory; may = may; reply_is = refl; answer_is = ap of_pool out.0 }))) (same_host host bank h place p new there was out.1)
