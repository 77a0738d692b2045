-- Lines of a host, one after another, are a run.
use Rattle.std.proofs.Common.{◌≡◌, ◌⊎◌, inl, inr, ℕ, true, false, Option, None, List, [], ◌∷◌, ◌++◌, Some, refl, sym, ap, subst, subst₂, arith}
use Rattle.std.specs.Prelude.{is_some}
use Rattle.std.specs.List.{AllByRecursion, AllZip}
use Rattle.bank_core.specs.BankView.{BankView, tells}
use Rattle.bank_core.specs.Calls.{Makes}
use Rattle.bank_core.proofs.Framing.{makes_none, makes_more}
use Rattle.bank_core.specs.Disk.{Noted, AllAnswer}
use Rattle.bank_core.specs.Story.{Story}
use Rattle.open_pool.specs.State.{Stands}
use Rattle.pool_codec.specs.Codecs.{pool_codec}
use Rattle.pool_runs.specs.Acts.{Act, Hears, calls_along}
use Rattle.pool_runs.specs.Devices.{Device}
use Rattle.pool_runs.specs.HostRows.{RowOf, RunsOut, HostRow, acts_of, acts_in, IsRun}
use Rattle.pool_runs.specs.Hosts.{Host, host_by, host_along}
use Rattle.pool_runs.specs.Lines.{Asked, Reply, Entry}
use Rattle.pool_runs.proofs.Midway.{calls_more}
use Rattle.host_core.specs.Answering.{IsLine, AnswersLine}
use Rattle.host_core.specs.Parts.{HostParts}
use Rattle.host_core.specs.Scripts.{AreLines}
use Rattle.host_core.specs.Standing.{AreNumbered, HasOwnDevices, HostStands, IsSeated, BeginsWith}

-- the clock changes nothing that the code keeps
pub heard : (host : HostParts) (bank : BankView) (h : Host) (second : ℕ) → HostStands host bank h → HostStands host bank (host_by (Hears second) h)
heard host bank h second was = record {
  table = was.table;
  apart = was.apart;
  few = was.few;
  pools = was.pools;
  numbers = was.numbers;
  owned = was.owned;
  sizes = was.sizes;
  disk = was.disk;
}

-- a bank that tells told before
story_of : (told : Option Story) → is_some told ≡ true → (story : Story) × (told ≡ Some story)
story_of (Some story) is = (story, refl)
story_of None is = absurd (let no : false ≡ true = is in cc)

told_before : (from to : BankView) (made : List Noted) → Makes made from to → tells to ≡ true → tells from ≡ true
told_before from to made makes told = let at = story_of to.told told in ap is_some (makes.calls.told at.0 at.1).before

told_first : (h : Host) (entries : List Entry) (old new : HostParts) (from to : BankView) → AreLines h entries old new from to → tells to ≡ true → tells from ≡ true
told_first h [] old new from to lines told = subst (λ b. tells b ≡ true) lines.1 told
told_first h (e ∷ entries) old new from to (mid, host, line, more) told =
    told_before from mid (calls_along e.acts) line.calls (told_first (host_along (acts_of e) h) entries host new mid to more told)

-- its device calls were made as the disk model says
answered : (host : HostParts) (h : Host) (from to : BankView) (made : List Noted) → HostStands host from h → Makes made from to → tells to ≡ true
    → AllAnswer h.disk made
answered host h from to made was makes told = let at = story_of to.told told in
    let later = makes.calls.told at.0 at.1 in subst (λ sectors. AllAnswer sectors made) (sym (was.disk later.story later.before)) later.answers

along_more : (first second : List Act) (h : Host) → host_along second (host_along first h) ≡ host_along (first ++ second) h
along_more [] second h = refl
along_more (act ∷ first) second h = along_more first second (host_by act h)

-- the device calls of all of them
pub lines_make : (h : Host) (entries : List Entry) (old new : HostParts) (from to : BankView) → AreLines h entries old new from to
    → Makes (calls_along (acts_in entries)) from to
lines_make h [] old new from to lines = subst (Makes [] from) (sym lines.1) makes_none
lines_make h (e ∷ entries) old new from to (mid, host, line, more) = subst (λ made. Makes made from to) (sym (calls_more (acts_of e) (acts_in entries)))
    (makes_more line.calls (lines_make (host_along (acts_of e) h) entries host new mid to more))

-- and one more line
pub one_more_line : (h : Host) (entries : List Entry) (e : Entry) (old mid new : HostParts) (from now to : BankView) → AreLines h entries old mid from now
    → IsLine (host_by (Hears e.second) (host_along (acts_in entries) h)) e new now to → AreLines h (entries ++ (e ∷ [])) old new from to
one_more_line h [] e old mid new from now to lines line =
    (to, new, subst (λ b. IsLine (host_by (Hears e.second) h) e new b to) lines.1 line, (refl, refl))
one_more_line h (first ∷ entries) e old mid new from now to (between, host, line, more) next = (
  between,
  host,
  line,
  one_more_line (host_along (acts_of first) h) entries e host mid new between now to more
      (subst (λ x. IsLine (host_by (Hears e.second) x) e new now to) (sym (along_more (acts_of first) (acts_in entries) h)) next),
)

pub lines_stand : (h : Host) (entries : List Entry) (old new : HostParts) (from to : BankView) → HostStands old from h → AreLines h entries old new from to
    → HostStands new to (host_along (acts_in entries) h)
lines_stand h [] old new from to was lines = subst₂ (λ x b. HostStands x b h) (sym lines.0) (sym lines.1) was
lines_stand h (e ∷ entries) old new from to was (mid, host, line, more) =
    subst (HostStands new to) (along_more (acts_of e) (acts_in entries) h)
    (lines_stand (host_along (acts_of e) h) entries host new mid to line.stands more)

pub lines_run : (h : Host) (entries : List Entry) (old new : HostParts) (from to : BankView) → HostStands old from h → AreLines h entries old new from to
    → tells to ≡ true → IsRun pool_codec h entries
lines_run h [] old new from to was lines told = tt
lines_run h (e ∷ entries) old new from to was (mid, host, line, more) told = (
  row line.row,
  lines_run (host_along (acts_of e) h) entries host new mid to line.stands more told,
)
  where
    at : Host
    at = host_by (Hears e.second) h

    row : RowOf pool_codec at e.asked e.acts e.reply ⊎ RunsOut pool_codec at e → HostRow pool_codec at e
    row (inl is) = inl (
      is,
      record {
        here = line.here;
        answer = answered old at from mid (calls_along e.acts) (heard old from h e.second was) line.calls
            (told_first (host_along (acts_of e) h) entries host new mid to more told);
      },
    )
    row (inr out) = inr out

pub host_begins : (table : List Device) (bank : BankView) (h : Host) → BeginsWith table bank h → HostStands (record { table = table; pools = [] }) bank h
host_begins table bank h begins = record {
  table = begins.table_is;
  apart = begins.apart;
  few = omega arith;
  pools = subst (AllZip Stands []) (sym begins.closed) tt;
  numbers = subst AreNumbered (sym begins.closed) tt;
  owned = subst (AllByRecursion (HasOwnDevices h)) (sym begins.closed) tt;
  sizes = begins.sizes;
  disk = begins.disk;
}

pub still_seated : (asked : Asked) (Says : Reply → Type 0) (old new : HostParts) (from to : BankView) → AnswersLine asked Says old new from to → IsSeated old from
    → IsSeated new to
still_seated asked Says old new from to answers seated = let a = answers seated.h seated.stands in
    record { h = host_along a.entry.acts seated.h; stands = a.line.stands }
