-- How a pool stands in a host, when one of them changes.
use Rattle.std.proofs.Common.{◌≡◌, ℕ, ◌≤◌, Bool, true, false, cond, List, ◌∷◌, Option, Some, None, refl, sym, ap, ◌∙◌, subst, inl, inr}
use Rattle.bank_core.specs.Disk.{Noted}
use Rattle.config_codec.specs.Fields.{Fields}
use Rattle.pool_history.specs.Pools.{Pool, drawn}
use Rattle.pool_history.specs.Records.{Rec, IsIn, number_of}
use Rattle.pool_history.proofs.Folding.{with_calls}
use Rattle.pool_core.specs.State.{PoolState}
use Rattle.host_machine.specs.declared.device.HostDevice.{HostDevice}
use Rattle.host_machine.specs.Devices.{number_in}
use Rattle.host_machine.specs.Machine.{HostState}
use Rattle.host_machine.specs.Records.{is_known, IsDrawn, record_of, with_record}
use Rattle.host_machine.specs.Tracking.{Place, IsPlaceOf, StandsIn, Tracks}

-- the host, with no open pool
abbrev pub closed : HostState → HostState
closed h = record h { pool = None }

-- The pool, or the host, has changed: its members are ones that it had, and the rest is shown here.
pub tracks_fewer : (p behind : Pool) (h next : HostState) (tr : Tracks p h) → behind.name ≡ p.name → ((d : ℕ) → behind.member d ≡ true → p.member d ≡ true) → behind.guid ≡ p.guid
    → behind.size ≡ p.size → next.table ≡ h.table → next.size ≡ h.size → ((r : Rec) → IsIn r (drawn behind) → 1 ≤ number_of r → IsIn r next.records)
    → ((r : Rec) (c : Fields) → IsIn r (drawn behind) → IsDrawn r c → (c.name ≡ p.name) × IsPlaceOf tr.first c.first × IsPlaceOf tr.second c.second)
    → StandsIn behind tr.first tr.second next.table next.pool → Tracks behind next
tracks_fewer p behind h next tr name member guid size table sizes known own stands = record {
  sizes = λ d has. ap (λ f. f d) size ∙ tr.sizes d (subst (λ (f : ℕ → ℕ). 1 ≤ f d) sizes has) ∙ sym (ap (λ f. f d) sizes);
  first = tr.first;
  second = tr.second;
  apart = tr.apart;
  numbers = tr.numbers;
  members = λ d is. tr.members d (member d is);
  first_guid = ap (λ f. f tr.first.dev) guid ∙ tr.first_guid;
  second_guid = ap (λ f. f tr.second.dev) guid ∙ tr.second_guid;
  first_number = λ d is. tr.first_number d (subst (λ table. number_in tr.first.name table ≡ Some d) table is);
  second_number = λ d is. tr.second_number d (subst (λ table. number_in tr.second.name table ≡ Some d) table is);
  known = known;
  own = λ r c is drawn. let same = own r c is drawn in (same.0 ∙ sym name, same.1, same.2);
  stands = stands;
}

-- the same, where it has all its members
pub tracks_move : (p behind : Pool) (h next : HostState) (tr : Tracks p h) → behind.name ≡ p.name → behind.member ≡ p.member → behind.guid ≡ p.guid → behind.size ≡ p.size
    → next.table ≡ h.table → next.size ≡ h.size → ((r : Rec) → IsIn r (drawn behind) → 1 ≤ number_of r → IsIn r next.records)
    → ((r : Rec) (c : Fields) → IsIn r (drawn behind) → IsDrawn r c → (c.name ≡ p.name) × IsPlaceOf tr.first c.first × IsPlaceOf tr.second c.second)
    → StandsIn behind tr.first tr.second next.table next.pool → Tracks behind next
tracks_move p behind h next tr name member guid size table sizes known own stands =
    tracks_fewer p behind h next tr name (λ d is. sym (ap (λ f. f d) member) ∙ is) guid size table sizes known own stands

-- A record that was drawn up before is still one behind the next.
pub drawn_stays : (t : PoolState) (records : List Rec) (r : Rec) → IsIn r records → IsIn r (with_record t records)
drawn_stays t records r is = by (is_known t)
  where
    by : (b : Bool) → IsIn r (cond b (record_of t ∷ records) records)
    by true = inr is
    by false = is

-- calls change nothing of how it stands
pub stands_calls : (made : List Noted) (p : Pool) (first second : Place) (table : List HostDevice) (pool : Option PoolState) → StandsIn p first second table pool
    → StandsIn (with_calls made p) first second table pool
stands_calls made p first second table None st = tt
stands_calls made p first second table (Some s) (inl (one, two, is)) = inl (
  one,
  two,
  record {
    name = is.name;
    pool = is.pool;
    idle = is.idle;
    number = is.number;
    acked = is.acked;
    committed = is.committed;
    written = is.written;
    grown = is.grown;
  },
)
stands_calls made p first second table (Some s) (inr is) =
    inr (record { seated = is.seated; first = is.first; second = is.second; alone_first = is.alone_first; alone_second = is.alone_second })

pub tracks_calls : (made : List Noted) (p : Pool) (h : HostState) → Tracks p h → Tracks (with_calls made p) h
tracks_calls made p h tr =
    tracks_move p (with_calls made p) h h tr refl refl refl refl refl refl tr.known tr.own (stands_calls made p tr.first tr.second h.table h.pool tr.stands)

-- nor how it stands with no open pool
abbrev pub tracks_closed : (p : Pool) (h : HostState) → Tracks p h → Tracks p (closed h)
tracks_closed p h tr = record {
  sizes = tr.sizes;
  first = tr.first;
  second = tr.second;
  apart = tr.apart;
  numbers = tr.numbers;
  members = tr.members;
  first_guid = tr.first_guid;
  second_guid = tr.second_guid;
  first_number = tr.first_number;
  second_number = tr.second_number;
  known = tr.known;
  own = tr.own;
  stands = tt;
}
