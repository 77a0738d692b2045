-- An open pool of a host makes moves: which host that leaves.
use Rattle.std.proofs.Common.{◌≡◌, ℕ, zero, suc, ◌+◌, ◌≤◌, ◌==◌, Bool, true, false, cond, Option, Some, None, List, [], ◌∷◌, ◌++◌, map, length, take, refl, sym, ap, ◌∙◌, subst, subst₂}
use Rattle.std.specs.Prelude.{slice_get, slice_set}
use Rattle.std.specs.List.{AllByRecursion, AllZip, find}
use Rattle.std.specs.Str.{bytes_eq}
use Rattle.mp_base.specs.declared.number.Guid.{Guid}
use Rattle.bank_core.specs.BankView.{BankView}
use Rattle.bank_core.specs.Calls.{Makes, device_of}
use Rattle.bank_core.specs.Disk.{Call, Noted, Sectors, run, Read, Write as WriteCall, Flush as FlushCall, Admit, Eject}
use Rattle.bank_core.specs.Story.{Story, now}
use Rattle.bank_core.proofs.Composing.{run_more}
use Rattle.open_pool.specs.Parts.{PoolParts}
use Rattle.open_pool.specs.State.{Stands}
use Rattle.pool_moves.specs.Moves.{Move, Makes as MakesCall, Comes, state_step, steps}
use Rattle.pool_moves.specs.ReadRow.{made_in}
use Rattle.pool_moves.specs.States.{PoolState}
use Rattle.pool_moves.proofs.Lists.{all_map}
use Rattle.pool_runs.specs.Acts.{Does, does, calls_along}
use Rattle.pool_runs.specs.Devices.{size_in}
use Rattle.pool_runs.specs.Hosts.{Host, is_of, moved, host_by, host_along, named}
use Rattle.pool_runs.specs.Knowing.{IsOwnCall, IsOwnMove, AreOwnActs}
use Rattle.pool_runs.proofs.Acting.{same_number, other_number}
use Rattle.pool_runs.proofs.Knowing.{step_number}
use Rattle.host_core.specs.Naming.{is_called}
use Rattle.host_core.specs.Parts.{HostParts}
use Rattle.host_core.specs.Standing.{HasOtherNumber, AreNumbered, IsOwnDevice, HasOwnDevices, HostStands}
use Rattle.host_core.proofs.CallsOnLeaves.{IsCallOn, IsOn, still_steps}

-- The first pool of a name.
same_name : (p : PoolParts) (s : PoolState) → Stands p s → s.core.name ≡ p.name
same_name p s stands = ap (λ (x : PoolState). x.core.name) stands.is

pub pool_number : (p : PoolParts) (s : PoolState) → Stands p s → s.core.pool ≡ p.pool
pool_number p s stands = ap (λ (x : PoolState). x.core.pool) stands.is

-- It is open where the code found it.
pub record IsThere (name : List ℕ) (pools : List PoolState) (place : ℕ) (p : PoolParts) : Type 0 where
  pub s : PoolState
  pub at : slice_get pools place ≡ Some s
  pub is_named : named name pools ≡ Some s
  pub stands : Stands p s

not_first : {A : Type 0} (b : Bool) (x : A) (o : Option A) → cond b (Some x) o ≡ None → (b ≡ false) × (o ≡ None)
not_first true x o is = absurd (let no : Some x ≡ None = is in cc)
not_first false x o is = (refl, is)

pub is_there : (name : List ℕ) (ps : List PoolParts) (ss : List PoolState) (place : ℕ) (p : PoolParts) → AllZip Stands ps ss → slice_get ps place ≡ Some p
    → is_called name p ≡ true → find (is_called name) (take place ps) ≡ None → IsThere name ss place p
is_there name [] ss place p all at called first = absurd (let no : None ≡ Some p = at in cc)
is_there name (q ∷ ps) [] place p all at called first = absurd all
is_there name (q ∷ ps) (s ∷ ss) zero p all at called first =
    let is : q ≡ p = cc in
    let yes : bytes_eq s.core.name name ≡ true = ap (λ n. bytes_eq n name) (same_name q s all.0 ∙ ap (λ (x : PoolParts). x.name) is) ∙ called in
    record {
      s = s;
      at = refl;
      is_named = ap (λ b. cond b (Some s) (named name ss)) yes;
      stands = subst (λ x. Stands x s) is all.0;
    }
is_there name (q ∷ ps) (s ∷ ss) (suc place) p all at called first =
    let parts = not_first (is_called name q) q (find (is_called name) (take place ps)) first in
    let no : bytes_eq s.core.name name ≡ false = ap (λ n. bytes_eq n name) (same_name q s all.0) ∙ parts.0 in
    let more = is_there name ps ss place p all.1 at called parts.1 in
    record {
      s = more.s;
      at = more.at;
      is_named = ap (λ b. cond b (Some s) (named name ss)) no ∙ more.is_named;
      stands = more.stands;
    }

pub none_there : (name : List ℕ) (ps : List PoolParts) (ss : List PoolState) → AllZip Stands ps ss → find (is_called name) ps ≡ None → named name ss ≡ None
none_there name [] [] all none = refl
none_there name [] (s ∷ ss) all none = absurd all
none_there name (q ∷ ps) [] all none = absurd all
none_there name (q ∷ ps) (s ∷ ss) all none =
    let parts = not_first (is_called name q) q (find (is_called name) ps) none in
    ap (λ b. cond b (Some s) (named name ss)) (ap (λ n. bytes_eq n name) (same_name q s all.0) ∙ parts.0) ∙ none_there name ps ss all.1 parts.1

-- What no move changes of a pool.
step_room : (v : Move) (s : PoolState) → (state_step v s).core.room ≡ s.core.room
step_room (MakesCall noted) s = refl
step_room v s = refl

pub steps_number : (vs : List Move) (s : PoolState) → (steps vs s).core.pool ≡ s.core.pool
steps_number [] s = refl
steps_number (v ∷ vs) s = steps_number vs (state_step v s) ∙ step_number v s

steps_room : (vs : List Move) (s : PoolState) → (steps vs s).core.room ≡ s.core.room
steps_room [] s = refl
steps_room (v ∷ vs) s = steps_room vs (state_step v s) ∙ step_room v s

-- The moves of the pool of a number, over all pools of a host.
abbrev pub along : (g : ℕ) → List Move → PoolState → PoolState
along g vs s = cond (is_of g s) (steps vs s) s

by_number : (P : PoolState → Type 0) (g : ℕ) (vs : List Move) (s : PoolState) → (is_of g s ≡ true → P (steps vs s)) → (is_of g s ≡ false → P s) → P (along g vs s)
by_number P g vs s mine other = by (is_of g s) mine other
  where
    by : (t : Bool) → (t ≡ true → P (steps vs s)) → (t ≡ false → P s) → P (cond t (steps vs s) s)
    by true mine other = mine refl
    by false mine other = other refl

along_none : (g : ℕ) (s : PoolState) → along g [] s ≡ s
along_none g s = by_number (λ x. x ≡ s) g [] s (λ t. refl) (λ t. refl)

along_more : (g : ℕ) (v : Move) (vs : List Move) (s : PoolState) → along g vs (moved g v s) ≡ along g (v ∷ vs) s
along_more g v vs s = by (is_of g s) refl
  where
    by : (t : Bool) → is_of g s ≡ t → along g vs (cond t (state_step v s) s) ≡ cond t (steps (v ∷ vs) s) s
    by true is = ap (λ b. cond b (steps vs (state_step v s)) (state_step v s)) (ap (λ m. m.0 == g) (step_number v s) ∙ is)
    by false is = ap (λ b. cond b (steps vs s) s) is

all_none : (g : ℕ) (ss : List PoolState) → map (along g []) ss ≡ ss
all_none g [] = refl
all_none g (s ∷ ss) = ap (λ x. x ∷ map (along g []) ss) (along_none g s) ∙ ap (λ xs. s ∷ xs) (all_none g ss)

all_more : (g : ℕ) (v : Move) (vs : List Move) (ss : List PoolState) → map (along g vs) (map (moved g v) ss) ≡ map (along g (v ∷ vs)) ss
all_more g v vs [] = refl
all_more g v vs (s ∷ ss) = ap (λ x. x ∷ map (along g vs) (map (moved g v) ss)) (along_more g v vs s)
    ∙ ap (λ xs. along g (v ∷ vs) s ∷ xs) (all_more g v vs ss)

pub made_first : (v : Move) (vs : List Move) → made_in (v ∷ vs) ≡ made_in (v ∷ []) ++ made_in vs
made_first (MakesCall noted) vs = refl
made_first v vs = refl

pub calls_of : (g : ℕ) (vs : List Move) → calls_along (does g vs) ≡ made_in vs
calls_of g [] = refl
calls_of g (v ∷ vs) = ap (λ l. made_in (v ∷ []) ++ l) (calls_of g vs) ∙ sym (made_first v vs)

-- the host behind them
abbrev pub host_moved : (g : ℕ) → List Move → Host → Host
host_moved g vs h = record h { disk = run (made_in vs) h.disk; pools = map (along g vs) h.pools }

pub host_does : (g : ℕ) (vs : List Move) (h : Host) → host_along (does g vs) h ≡ host_moved g vs h
host_does g [] h = ap (λ ss. record h { disk = h.disk; pools = ss }) (sym (all_none g h.pools))
host_does g (v ∷ vs) h = host_does g vs (host_by (Does g v) h)
    ∙ ap (λ (x : Sectors). record h { disk = x; pools = map (along g vs) (map (moved g v) h.pools) })
    (sym (run_more (made_in (v ∷ [])) (made_in vs) h.disk) ∙ ap (λ l. run l h.disk) (sym (made_first v vs)))
    ∙ ap (λ ss. record h { disk = run (made_in (v ∷ vs)) h.disk; pools = ss }) (all_more g v vs h.pools)

-- Its calls go to devices of the host that the pool owns.
abbrev pub IsHeld : Host → (g : ℕ) → ℕ → Type 0
IsHeld h g d = (h.owner d ≡ Some g) × (1 ≤ size_in h.table d)

own_move : (h : Host) (g : ℕ) (v : Move) → IsOn (IsHeld h g) v → IsOwnMove g h.owner v
own_move h g (MakesCall noted) on = by noted.call on
  where
    by : (call : Call) → IsCallOn (IsHeld h g) call → IsOwnCall g h.owner call
    by (Read dev at bytes fault) on = tt
    by (WriteCall dev at bytes fault) on = on.0
    by (FlushCall dev fault) on = tt
    by (Admit dev holds) on = absurd on
    by (Eject dev) on = absurd on
own_move h g (Comes i d m top own) on = absurd on
own_move h g v on = tt

pub own_along : (h : Host) (g : ℕ) (x : Host) (vs : List Move) → x.owner ≡ h.owner → AllByRecursion (IsOn (IsHeld h g)) vs → AreOwnActs g x (does g vs)
own_along h g x [] same on = tt
own_along h g x (v ∷ vs) same on = (
  (refl, subst (λ owner. IsOwnMove g owner v) (sym same) (own_move h g v on.0)),
  own_along h g (host_by (Does g v) x) vs same on.1,
)

pub own_does : (h : Host) (g : ℕ) (vs : List Move) → AllByRecursion (IsOn (IsHeld h g)) vs → AreOwnActs g h (does g vs)
own_does h g vs on = own_along h g h vs refl on

pub calls_here : (h : Host) (g : ℕ) (vs : List Move) → AllByRecursion (IsOn (IsHeld h g)) vs
    → AllByRecursion (λ noted. 1 ≤ size_in h.table (device_of noted.call)) (made_in vs)
calls_here h g [] on = tt
calls_here h g (MakesCall noted ∷ vs) on = (by noted.call on.0, calls_here h g vs on.1)
  where
    by : (call : Call) → IsCallOn (IsHeld h g) call → 1 ≤ size_in h.table (device_of call)
    by (Read dev at bytes fault) on = on.1
    by (WriteCall dev at bytes fault) on = on.1
    by (FlushCall dev fault) on = on.1
    by (Admit dev holds) on = absurd on
    by (Eject dev) on = absurd on
calls_here h g (v ∷ vs) on = calls_here h g vs on.1

-- What stays so of the pools.
number_still : (g : ℕ) (vs : List Move) (s : PoolState) → (along g vs s).core.pool ≡ s.core.pool
number_still g vs s = by_number (λ x. x.core.pool ≡ s.core.pool) g vs s (λ t. steps_number vs s) (λ t. refl)

other_still : (g : ℕ) (vs : List Move) (s : PoolState) (ss : List PoolState) → AllByRecursion (HasOtherNumber s) ss
    → AllByRecursion (HasOtherNumber (along g vs s)) (map (along g vs) ss)
other_still g vs s ss all = all_map (HasOtherNumber (along g vs s)) (along g vs)
    (λ u off e. off (sym (ap (λ m. m.0) (number_still g vs s)) ∙ e ∙ ap (λ m. m.0) (number_still g vs u))) ss all

numbered_still : (g : ℕ) (vs : List Move) (ss : List PoolState) → AreNumbered ss → AreNumbered (map (along g vs) ss)
numbered_still g vs [] all = tt
numbered_still g vs (s ∷ ss) all = (other_still g vs s ss all.0, numbered_still g vs ss all.1)

owned_still : (h : Host) (P : ℕ → Type 0) (vs : List Move) (s : PoolState) → AllByRecursion (IsOn P) vs → HasOwnDevices h s → HasOwnDevices h (steps vs s)
owned_still h P vs s on owned = subst₂ (λ (g : Guid) (room : ℕ → ℕ). AllByRecursion (λ leaf. (d : ℕ) → leaf.dev ≡ Some d → IsOwnDevice h.owner h.table g.0 (room leaf.top + 256) d) (steps vs s).core.leaves)
    (sym (steps_number vs s)) (sym (steps_room vs s))
    (still_steps P (λ dev top. (d : ℕ) → dev ≡ Some d → IsOwnDevice h.owner h.table s.core.pool.0 (s.core.room top + 256) d) vs s on owned)

all_owned : (h : Host) (P : ℕ → Type 0) (g : ℕ) (vs : List Move) (ss : List PoolState) → AllByRecursion (IsOn P) vs → AllByRecursion (HasOwnDevices h) ss
    → AllByRecursion (HasOwnDevices h) (map (along g vs) ss)
all_owned h P g vs ss on all = all_map (HasOwnDevices h) (along g vs)
    (λ s owned. by_number (HasOwnDevices h) g vs s (λ t. owned_still h P vs s on owned) (λ t. owned)) ss all

-- One pool of the list changed.
other_off : (s u : PoolState) → HasOtherNumber s u → is_of s.core.pool.0 u ≡ false
other_off s u off = other_number u.core.pool.0 s.core.pool.0 (λ e. off (sym e))

rest_still : (s : PoolState) (vs : List Move) (ps : List PoolParts) (ss : List PoolState) → AllByRecursion (HasOtherNumber s) ss → AllZip Stands ps ss
    → AllZip Stands ps (map (along s.core.pool.0 vs) ss)
rest_still s vs [] [] off all = tt
rest_still s vs [] (u ∷ ss) off all = absurd all
rest_still s vs (p ∷ ps) [] off all = absurd all
rest_still s vs (p ∷ ps) (u ∷ ss) off all = (
  subst (λ b. Stands p (cond b (steps vs u) u)) (sym (other_off s u off.0)) all.0,
  rest_still s vs ps ss off.1 all.1,
)

off_at : (u s : PoolState) (ss : List PoolState) (place : ℕ) → AllByRecursion (HasOtherNumber u) ss → slice_get ss place ≡ Some s → HasOtherNumber u s
off_at u s [] place off at = absurd (let no : None ≡ Some s = at in cc)
off_at u s (x ∷ ss) zero off at = subst (HasOtherNumber u) (let is : x ≡ s = cc in is) off.0
off_at u s (x ∷ ss) (suc place) off at = off_at u s ss place off.1 at

own_number : (s : PoolState) → is_of s.core.pool.0 s ≡ true
own_number s = same_number s.core.pool.0 s.core.pool.0 refl

pools_moved : (s : PoolState) (new : PoolParts) (vs : List Move) → Stands new (steps vs s) → (ps : List PoolParts) (ss : List PoolState) (place : ℕ)
    → AreNumbered ss → slice_get ss place ≡ Some s → AllZip Stands ps ss → AllZip Stands (slice_set ps place new) (map (along s.core.pool.0 vs) ss)
pools_moved s new vs stands [] [] place numbers at all = absurd (let no : None ≡ Some s = at in cc)
pools_moved s new vs stands [] (u ∷ ss) place numbers at all = absurd all
pools_moved s new vs stands (p ∷ ps) [] place numbers at all = absurd all
pools_moved s new vs stands (p ∷ ps) (u ∷ ss) zero numbers at all =
    let is : u ≡ s = cc in (
      subst (Stands new) (sym (ap (along s.core.pool.0 vs) is ∙ ap (λ b. cond b (steps vs s) s) (own_number s))) stands,
      rest_still s vs ps ss (subst (λ x. AllByRecursion (HasOtherNumber x) ss) is numbers.0) all.1,
    )
pools_moved s new vs stands (p ∷ ps) (u ∷ ss) (suc place) numbers at all =
    let off = off_at u s ss place numbers.0 at in (
      subst (λ b. Stands p (cond b (steps vs u) u)) (sym (other_off s u (λ e. off (sym e)))) all.0,
      pools_moved s new vs stands ps ss place numbers.1 at all.1,
    )

set_long : (ps : List PoolParts) (place : ℕ) (new : PoolParts) → length (slice_set ps place new) ≡ length ps
set_long [] place new = refl
set_long (p ∷ ps) zero new = refl
set_long (p ∷ ps) (suc place) new = ap suc (set_long ps place new)

-- A bank behind some calls.
pub disk_behind : (from to : BankView) (made : List Noted) (disk : Sectors) → Makes made from to → ((story : Story) → from.told ≡ Some story → disk ≡ now story)
    → (story : Story) → to.told ≡ Some story → run made disk ≡ now story
disk_behind from to made disk makes was story told =
    let later = makes.calls.told story told in
    ap (run made) (was later.story later.before) ∙ sym (run_more later.story.calls made later.story.start) ∙ ap now (sym later.after)

-- So the host stands for the one behind the moves.
pub host_behind : (host : HostParts) (from to : BankView) (h : Host) (place : ℕ) (new : PoolParts) (s : PoolState) (P : ℕ → Type 0) (vs : List Move)
    → HostStands host from h → slice_get h.pools place ≡ Some s → AllByRecursion (IsOn P) vs → Stands new (steps vs s) → Makes (made_in vs) from to
    → HostStands (record host { pools = slice_set host.pools place new }) to (host_along (does s.core.pool.0 vs) h)
host_behind host from to h place new s P vs was at on stands makes = let g = s.core.pool.0 in
    subst (HostStands (record host { pools = slice_set host.pools place new }) to) (sym (host_does g vs h)) (record {
      table = was.table;
      apart = was.apart;
      few = subst (λ n. n ≤ 16) (sym (set_long host.pools place new)) was.few;
      pools = pools_moved s new vs stands host.pools h.pools place was.numbers at was.pools;
      numbers = numbered_still g vs h.pools was.numbers;
      owned = all_owned (host_moved g vs h) P g vs h.pools on was.owned;
      sizes = λ d here. makes.frame.sizes d ∙ was.sizes d here;
      disk = disk_behind from to (made_in vs) h.disk makes was.disk;
    })
