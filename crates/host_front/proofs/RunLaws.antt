-- The whole run, over the bank as it was before the look-ups.
use Rattle.std.proofs.Common.{◌≡◌, ℕ, ◌≤◌, List, [], Option, refl, sym, ◌∙◌, subst, arith}
use Rattle.bank_core.specs.Story.{Story}
use Rattle.bank_core.proofs.Composing.{made_from}
use Rattle.host_machine.specs.declared.device.HostDevice.{HostDevice}
use Rattle.pool_history.specs.Records.{Rec}
use Rattle.host_machine.specs.Devices.{AreApart}
use Rattle.host_machine.specs.Fitness.{AreSized}
use Rattle.host_machine.specs.Machine.{HostState, started}
use Rattle.host_machine.specs.Records.{AreDrawn}
use Rattle.host_front.specs.declared.host.Host.{Host}
use Rattle.host_front.specs.declared.status.Status.{Status}
use Rattle.host_front.specs.declared.status.Status.TheVariants as statuses
use Rattle.host_front.specs.FixedHost.{host_devices}
use Rattle.host_front.specs.Session.{Ran, RanScript, IsUpTo}
use Rattle.host_front.specs.Standing.{AreLookedUp, Stands}
use Rattle.host_front.proofs.Answering.{same_sizes}
use Rattle.host_front.proofs.PoolsKept.{KeepsRuns, EndsRuns, pools_kept}
use Rattle.host_front.proofs.FoundDevices.{looked_up_on}

-- what ran ended with another status than that of bad usage
pub ran_some : {h : HostState} {status : Status} {old new : Option Story} {f g : ℕ → ℕ} {left left' sink sink' gave gave' : Option (List ℕ)}
    → Ran h status old new f g left left' sink sink' gave gave' → status ≡ statuses.Usage → ⊥
ran_some {left' = left'} r e = subst (λ status. IsUpTo status r.text left' r.lines) e r.up_to

-- the calls began from the same counts and story
pub ran_from : {h : HostState} {status : Status} {old old' new : Option Story} {f f' g : ℕ → ℕ} {left left' sink sink' gave gave' : Option (List ℕ)}
    → old' ≡ old → ((d : ℕ) → f d ≡ f' d) → Ran h status old new f g left left' sink sink' gave gave' → Ran h status old' new f' g left left' sink sink' gave gave'
ran_from {old = old} {old' = old'} {new = new} {f = f} {f' = f'} {g = g} told faults r = record {
  text = r.text;
  lines = r.lines;
  entries = r.entries;
  state = r.state;
  bytes = r.bytes;
  given = r.given;
  up_to = r.up_to;
  short = r.short;
  handles = record {
    calls = r.handles.calls;
    asked = r.handles.asked;
    replay = r.handles.replay;
    made = made_from old old' new f f' g r.handles.calls told faults r.handles.made;
    written = r.handles.written;
    clock = r.handles.clock;
  };
  is_written = r.is_written;
}

still_at_most : (a b : ℕ) → b ≡ a → a ≤ b
still_at_most a b e = omega arith

-- the look-ups, and then the run
pub ran_script : KeepsRuns → EndsRuns → {status : Status} (number_of number_of' : List ℕ → Option ℕ) (size size' : ℕ → ℕ) (names : Option (List (List ℕ))) (lookups mid lookups' : ℕ)
    {old old' new : Option Story} {f f' g : ℕ → ℕ} {left left' sink sink' gave gave' : Option (List ℕ)} (table : List HostDevice)
    → AreLookedUp number_of size names lookups mid host_devices table → AreApart table → AreSized size' table
    → ((name : List ℕ) → number_of' name ≡ number_of name) → ((d : ℕ) → size' d ≡ size d) → lookups' ≡ mid
    → old' ≡ old → ((d : ℕ) → f' d ≡ f d)
    → ((records : List Rec) → AreDrawn records → Ran (started table size' records) status old' new f' g left left' sink sink' gave gave')
    → RanScript status number_of' size' names lookups lookups' old new f g left left' sink sink' gave gave'
ran_script law ends number_of number_of' size size' names lookups mid lookups' table found apart sized numbers sizes counts told faults ran = record {
  table = table;
  found = looked_up_on number_of number_of' size size' names (λ name dev e. numbers name ∙ e) (λ d some. sizes d)
      lookups mid lookups' (still_at_most mid lookups' counts) host_devices table found;
  apart = apart;
  ran = λ records drawn. ran_from (sym told) faults (ran records drawn);
  ends = λ records drawn.
      let mine = ran_from (sym told) faults (ran records drawn) in
      ends (started table size' records) mine.entries mine.handles.calls mine.state _ _ mine.handles.replay mine.handles.made.caused;
  pools = λ records drawn. pools_kept law table size' records apart sized drawn (ran_from (sym told) faults (ran records drawn));
}

-- no record was drawn up yet
pub none_drawn : AreDrawn []
none_drawn r is = absurd is

-- the sizes that the table has are still the bank's
pub sized_still : (size size' : ℕ → ℕ) (table : List HostDevice) → ((d : ℕ) → size' d ≡ size d) → AreSized size table → AreSized size' table
sized_still size size' table still sized = subst (λ at. AreSized at table) (sym (same_sizes size' size still)) sized

-- so what ran from a new host ended with another status than that of bad usage
pub some_ran : {host : Host} {status : Status} {old new : Option Story} {f g : ℕ → ℕ} {left left' sink sink' gave gave' : Option (List ℕ)} (size : ℕ → ℕ) (table : List HostDevice)
    → ((at bank_size : ℕ → ℕ) (records : List Rec) → ((d : ℕ) → at d ≡ bank_size d) → AreSized at table → AreApart table → AreDrawn records
    → Stands bank_size host (started table at records))
    → AreSized size table → AreApart table → ((h : HostState) → Stands size host h → Ran h status old new f g left left' sink sink' gave gave') → status ≡ statuses.Usage → ⊥
some_ran size table stands sized apart ran e = ran_some (ran (started table size []) (stands size size [] (λ d. refl) sized apart none_drawn)) e
