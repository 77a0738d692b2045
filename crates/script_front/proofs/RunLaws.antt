-- The whole run: the look-ups, and then the lines.
use Rattle.std.proofs.Common.{◌≡◌, ℕ, ◌≤◌, true, false, List, [], ◌∷◌, Option, Some, None, refl, sym, ◌∙◌, subst, arith}
use Rattle.bank_core.specs.BankView.{BankView, SameBank, tells}
use Rattle.bank_core.specs.Disk.{Sectors, Nothing}
use Rattle.bank_core.specs.Story.{Story, now}
use Rattle.bank_core.proofs.Framing.{same_bank, same_more}
use Rattle.host_core.specs.Parts.{HostParts}
use Rattle.host_core.specs.Scripts.{AreLines}
use Rattle.host_core.specs.Standing.{AreApart, BeginsWith, HostStands, IsSeated}
use Rattle.pool_codec.specs.Codecs.{pool_codec}
use Rattle.txg_history.specs.Pages.{Codec}
use Rattle.pool_runs.specs.Devices.{Device, size_in}
use Rattle.pool_runs.specs.Headline.{Headline}
use Rattle.pool_runs.specs.HostRows.{IsRun, acts_of}
use Rattle.pool_runs.specs.Hosts.{Host, host_along}
use Rattle.pool_runs.specs.Lines.{Entry}
use Rattle.pool_runs.specs.Pasts.{Past, BeginsRun}
use Rattle.script_front.specs.declared.status.Status.{Status}
use Rattle.script_front.specs.declared.status.Status.TheVariants as statuses
use Rattle.script_front.specs.FixedHost.{host_devices}
use Rattle.script_front.specs.LookingUp.{AreLookedUp}
use Rattle.script_front.specs.Session.{IsUpTo, IsFirst, Ran, RanScript}
use Rattle.script_front.proofs.FoundDevices.{looked_up_on, sizes_are}

-- lines leave the bank the same but for their calls
lines_frame : (h : Host) (entries : List Entry) (old new : HostParts) (from to : BankView) → AreLines h entries old new from to → SameBank from to
lines_frame h [] old new from to lines = subst (SameBank from) (sym lines.1) (same_bank from)
lines_frame h (e ∷ entries) old new from to (mid, host, line, more) =
    same_more line.calls.frame (lines_frame (host_along (acts_of e) h) entries host new mid to more)

-- some host is a first one
abbrev disk_of : Option Story → Sectors
disk_of (Some story) = now story
disk_of None = λ d s. record { stable = []; pending = Nothing; damaged = false }

abbrev first_host : (table : List Device) → Option Story → Host
first_host table told = record { table = table; pools = []; owner = λ d. None; second = 0; disk = disk_of told }

first_is : (table : List Device) (told : Option Story) → IsFirst table told (first_host table told)
first_is table told = record { table_is = refl; closed = refl; disk = by told }
  where
    by : (told : Option Story) (story : Story) → told ≡ Some story → disk_of told ≡ now story
    by (Some other) story is = let same : other ≡ story = cc in subst (λ s. now other ≡ now s) same refl
    by None story is = absurd (let no : None ≡ Some story = is in cc)

-- So a run that was begun ended with another status than that of bad usage.
pub script_some : {status : Status} {old new : BankView} {left left' sink sink' gave gave' : Option (List ℕ)} → RanScript status old new left left' sink sink' gave gave'
    → status ≡ statuses.Usage → ⊥
script_some {old = old} {left' = left'} r e =
    let ran = r.ran (first_host r.table old.told) (first_is r.table old.told) in
    subst (λ status. IsUpTo status ran.text left' ran.lines) e ran.up_to

still_at_most : (a b : ℕ) → b ≡ a → a ≤ b
still_at_most a b e = omega arith

module _ (old begun : BankView) (table : List Device)
    (found : AreLookedUp begun.number_of begun.size old.names old.lookup_faults begun.lookup_faults host_devices table) (apart : AreApart table)
    (told : begun.told ≡ old.told) (faults : (d : ℕ) → begun.faults d ≡ old.faults d) where
  here : (d : ℕ) → 1 ≤ size_in table d → begun.size d ≡ size_in table d
  here = sizes_are begun.number_of begun.size old.names old.lookup_faults begun.lookup_faults host_devices table found

  begins_with : (h : Host) → IsFirst table old.told h → BeginsWith table begun h
  begins_with h first = record {
    table_is = first.table_is;
    closed = first.closed;
    apart = apart;
    sizes = here;
    disk = λ story is. first.disk story (sym told ∙ is);
  }

  module _ (begins : (table : List Device) (bank : BankView) (h : Host) → BeginsWith table bank h → HostStands (record { table = table; pools = [] }) bank h)
      (host : HostParts) (host_is : host ≡ record { table = table; pools = [] }) where
    stands : (h : Host) → IsFirst table old.told h → HostStands host begun h
    stands h first = subst (λ x. HostStands x begun h) (sym host_is) (begins table begun h (begins_with h first))

    pub first_seated : IsSeated host begun
    first_seated = record { h = first_host table old.told; stands = stands (first_host table old.told) (first_is table old.told) }

    module _ (run : (h : Host) (entries : List Entry) (old new : HostParts) (from to : BankView) → HostStands old from h → AreLines h entries old new from to
        → tells to ≡ true → IsRun pool_codec h entries)
        (law : (c : Codec) (past : Past) (h : Host) (entries : List Entry) → BeginsRun c past h → IsRun c h entries → Headline c past h [] entries)
        (status : Status) (new : BankView) (left left' sink sink' gave gave' : Option (List ℕ))
        (ran : (h : Host) → HostStands host begun h → Ran h status host begun new left left' sink sink' gave gave') where
      ran_first : (h : Host) → IsFirst table old.told h → Ran h status (record { table = table; pools = [] }) begun new left left' sink sink' gave gave'
      ran_first h first = subst (λ x. Ran h status x begun new left left' sink sink' gave gave') host_is (ran h (stands h first))

      frame : SameBank begun new
      frame = let r = ran_first (first_host table old.told) (first_is table old.told) in
          lines_frame (first_host table old.told) r.entries (record { table = table; pools = [] }) r.host begun new r.handles.are

      pub ran_script : RanScript status old new left left' sink sink' gave gave'
      ran_script = record {
        table = table;
        found = looked_up_on begun.number_of new.number_of begun.size new.size old.names (λ name dev e. frame.numbers name ∙ e) (λ d some. frame.sizes d)
            old.lookup_faults begun.lookup_faults new.lookup_faults (still_at_most begun.lookup_faults new.lookup_faults frame.lookups) host_devices table found;
        apart = apart;
        begun = begun;
        looks = record { told = told; faults = faults };
        here = here;
        ran = ran_first;
        pools = λ h first tell.
            let r = ran_first h first in
            let is = run h r.entries (record { table = table; pools = [] }) r.host begun new (begins table begun h (begins_with h first)) r.handles.are tell in
            record { run = is; pools = λ past begin. law pool_codec past h r.entries begin is };
      }
