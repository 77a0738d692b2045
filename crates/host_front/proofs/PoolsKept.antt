-- A run keeps each pool, by the law of the machine's runs.
use Rattle.std.proofs.Common.{◌≡◌, ℕ, List, Option, Some, subst, sym, ◌∙◌}
use Rattle.bank_core.specs.Calls.{AllCaused}
use Rattle.bank_core.specs.Disk.{Noted, Sectors, AllAnswer}
use Rattle.bank_core.specs.Story.{Story, Continues, now}
use Rattle.pool_history.specs.Records.{Rec}
use Rattle.host_machine.specs.declared.device.HostDevice.{HostDevice}
use Rattle.host_machine.specs.Devices.{AreApart}
use Rattle.host_machine.specs.Fitness.{AreSized, IsFit, AreWhole}
use Rattle.host_machine.specs.Machine.{HostState, Entry, Replay, started}
use Rattle.host_machine.specs.Records.{AreDrawn}
use Rattle.host_machine.specs.Runs.{KeepsPools, EndByCounts}
use Rattle.host_front.specs.declared.status.Status.{Status}
use Rattle.host_front.specs.Session.{Ran}
use Rattle.host_front.proofs.WholeLines.{lines_whole}

-- the law of a run
abbrev pub KeepsRuns : Type 0
KeepsRuns = (h : HostState) (sectors : Sectors) (entries : List Entry) (calls : List Noted) (next : HostState) → AreWhole entries → IsFit h
    → AllAnswer sectors calls → (replay : Replay h entries calls next) → KeepsPools h sectors entries calls next replay

-- and of how its entries end
abbrev pub EndsRuns : Type 0
EndsRuns = (h : HostState) (entries : List Entry) (calls : List Noted) (next : HostState) (start end : ℕ → ℕ) → Replay h entries calls next
    → AllCaused calls start end → EndByCounts h entries calls next start end

same_story : (one other : Story) → Some one ≡ Some other → one ≡ other
same_story one other e = cc

-- the calls of a story that goes on answer by its sectors
answers_now : (old : Option Story) (calls : List Noted) (story story' : Story) → old ≡ Some story → Continues old calls story' → AllAnswer (now story) calls
answers_now old calls story story' e c = subst (λ s. AllAnswer (now s) calls) (same_story c.story story (sym c.before ∙ e)) c.answers

pub pools_kept : KeepsRuns → (table : List HostDevice) (size : ℕ → ℕ) (records : List Rec) {status : Status} {old new : Option Story} {f g : ℕ → ℕ}
    {left left' sink sink' gave gave' : Option (List ℕ)} → AreApart table → AreSized size table → AreDrawn records
    → (ran : Ran (started table size records) status old new f g left left' sink sink' gave gave') (story story' : Story) → old ≡ Some story → new ≡ Some story'
    → KeepsPools (started table size records) (now story) ran.entries ran.handles.calls ran.state ran.handles.replay
pools_kept law table size records {old = old} apart sized drawn ran story story' began ended =
    law (started table size records) (now story) ran.entries ran.handles.calls ran.state (lines_whole ran.entries ran.lines ran.handles.asked)
    (record { apart = apart; sized = sized; drawn = drawn; pool = tt; named = tt })
    (answers_now old ran.handles.calls story story' began (ran.handles.made.told story' ended)) ran.handles.replay
