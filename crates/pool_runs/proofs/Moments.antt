-- The device calls of acts are those of each pool's history, and each is behind a moment; and what a line of a run meets.
use Rattle.std.proofs.Common.{◌≡◌, ◌⊎◌, inl, inr, ℕ, ◌==◌, Bool, true, false, cond, List, [], ◌∷◌, ◌++◌, take, zero, suc, refl, sym, ap, ◌∙◌, subst}
use Rattle.std.specs.Str.{bytes_eq}
use Rattle.bank_core.specs.Disk.{Noted, run}
use Rattle.txg_history.specs.Events.{Looks, Opens, Loses, calls_of, as_events}
use Rattle.txg_history.specs.Moves.{Mays}
use Rattle.txg_history.specs.Pages.{Codec}
use Rattle.txg_history.specs.Pools.{Pool}
use Rattle.txg_history.proofs.Folding.{mays_more, calls_more, calls_are}
use Rattle.pool_moves.specs.Moves.{Move, Makes, events_of}
use Rattle.pool_moves.specs.ReadRow.{made_in}
use Rattle.pool_runs.specs.Acts.{Act, Hears, Bare, Does, Looked, Reads_as, Takes, calls_of_act, calls_along, read_by, events_for, pool_by, pool_along, history, bare}
use Rattle.pool_runs.specs.Fairness.{AreFair}
use Rattle.pool_runs.specs.Headline.{HasMoments}
use Rattle.pool_runs.specs.HostRows.{HostRow, acts_of, acts_in, IsRun}
use Rattle.pool_runs.specs.Hosts.{Host, host_by, host_along}
use Rattle.pool_runs.proofs.Known.{Knows, MayActs}
use Rattle.pool_runs.specs.Lines.{Entry}
use Rattle.pool_runs.specs.Pasts.{Past, pool_of}

-- The calls of an act are in the history of each pool.
move_calls : (v : Move) (p : Pool) → calls_of (events_of v p) ≡ made_in (v ∷ [])
move_calls (Makes noted) p = refl
move_calls v p = refl

act_calls : (act : Act) (p : Pool) → calls_of (events_for act p) ≡ calls_of_act act
act_calls (Bare noted) p = refl
act_calls (Does g v) p = by (p.pool.0 == g)
  where
    by : (t : Bool) → calls_of (cond t (events_of v p) (as_events (made_in (v ∷ [])))) ≡ made_in (v ∷ [])
    by true = move_calls v p
    by false = calls_are (made_in (v ∷ []))
act_calls (Looked name known) p = by (bytes_eq p.name name)
  where
    by : (t : Bool) → calls_of (cond t (Looks known ∷ []) []) ≡ []
    by true = refl
    by false = refl
act_calls (Reads_as opening) p = by (p.pool.0 == opening.found.pool.0)
  where
    by : (t : Bool) → calls_of (cond t (Opens (read_by opening p) ∷ []) []) ≡ []
    by true = refl
    by false = refl
act_calls (Takes g d) p = by (p.pool.0 == g)
  where
    by : (t : Bool) → calls_of (cond t [] (Loses d ∷ [])) ≡ []
    by true = refl
    by false = refl
act_calls act p = refl

pub history_calls : (acts : List Act) (p : Pool) → calls_of (history acts p) ≡ calls_along acts
history_calls [] p = refl
history_calls (act ∷ acts) p = calls_more (events_for act p) (history acts (pool_by act p))
    ∙ (ap (λ made. made ++ calls_of (history acts (pool_by act p))) (act_calls act p) ∙ ap (λ more. calls_of_act act ++ more) (history_calls acts (pool_by act p)))

-- an act makes one call, or none
one_call : (act : Act) → (calls_of_act act ≡ []) ⊎ ((noted : Noted) × (calls_of_act act ≡ noted ∷ []))
one_call (Bare noted) = inr (noted, refl)
one_call (Does g v) = of v
  where
    of : (v : Move) → (made_in (v ∷ []) ≡ []) ⊎ ((noted : Noted) × (made_in (v ∷ []) ≡ noted ∷ []))
    of (Makes noted) = inr (noted, refl)
    of v = inl refl
one_call act = inl refl

moment_of : (acts : List Act) (k : ℕ) → (i : ℕ) × (calls_along (take i acts) ≡ take k (calls_along acts))
moment_of acts zero = (0, refl)
moment_of [] (suc k) = (0, refl)
moment_of (act ∷ acts) (suc k) = one act (moment_of acts (suc k)) (moment_of acts k) (one_call act)
  where
    one : (act : Act) → ((i : ℕ) × (calls_along (take i acts) ≡ take (suc k) (calls_along acts))) → ((i : ℕ) × (calls_along (take i acts) ≡ take k (calls_along acts)))
        → (calls_of_act act ≡ []) ⊎ ((noted : Noted) × (calls_of_act act ≡ noted ∷ []))
        → (i : ℕ) × (calls_along (take i (act ∷ acts)) ≡ take (suc k) (calls_along (act ∷ acts)))
    one act all rest (inl none) = (suc all.0, ap (λ made. made ++ calls_along (take all.0 acts)) none ∙ (all.1 ∙ sym (ap (λ made. take (suc k) (made ++ calls_along acts)) none)))
    one act all rest (inr some) = (
      suc rest.0,
      ap (λ made. made ++ calls_along (take rest.0 acts)) some.1
          ∙ (ap (λ more. some.0 ∷ more) rest.1 ∙ sym (ap (λ made. take (suc k) (made ++ calls_along acts)) some.1)),
    )

pub has_moments : (past : Past) (acts : List Act) (entries : List Entry) → HasMoments past acts entries
has_moments past acts entries = record {
  each = λ k. let m = moment_of (acts ++ acts_in entries) k in record { count = m.0; so_far = m.1 };
  told = λ i. history_calls (take i (acts ++ acts_in entries)) (pool_of past);
}

-- What may be acted is a history that may be.
pub acts_mays : (c : Codec) (h : Host) (p : Pool) (acts : List Act) → MayActs c h p acts → AreFair c p acts → Mays c p (history acts p)
acts_mays c h p [] may fair = tt
acts_mays c h p (act ∷ acts) may fair = let now = may fair.0 in
    mays_more c (events_for act p) (history acts (pool_by act p)) p now.0 (acts_mays c (host_by act h) (pool_by act p) acts now.2 fair.1)

pub keeps_all : (c : Codec) (h : Host) (p : Pool) (acts : List Act) → Knows c h p → MayActs c h p acts → AreFair c p acts → Knows c (host_along acts h) (pool_along acts p)
keeps_all c h p [] knows may fair = knows
keeps_all c h p (act ∷ acts) knows may fair = let now = may fair.0 in keeps_all c (host_by act h) (pool_by act p) acts now.1 now.2 fair.1

pub may_take : (c : Codec) (h : Host) (p : Pool) (acts : List Act) (i : ℕ) → MayActs c h p acts → MayActs c h p (take i acts)
may_take c h p acts zero may = tt
may_take c h p [] (suc i) may = tt
may_take c h p (act ∷ acts) (suc i) may = λ fair. let now = may fair in (now.0, now.1, may_take c (host_by act h) (pool_by act p) acts i now.2)

-- The host's devices stay.
act_table : (act : Act) (h : Host) → (host_by act h).table ≡ h.table
act_table (Hears second) h = refl
act_table act h = refl

pub acts_table : (acts : List Act) (h : Host) → (host_along acts h).table ≡ h.table
acts_table [] h = refl
acts_table (act ∷ acts) h = acts_table acts (host_by act h) ∙ act_table act h

pub host_more : (first second : List Act) (h : Host) → host_along (first ++ second) h ≡ host_along second (host_along first h)
host_more [] second h = refl
host_more (act ∷ first) second h = host_more first second (host_by act h)

pub bare_host : (made : List Noted) (rest : List Act) (h : Host) → host_along (bare made ++ rest) h ≡ host_along rest (record h { disk = run made h.disk })
bare_host [] rest h = refl
bare_host (noted ∷ made) rest h = bare_host made rest (record h { disk = run (noted ∷ []) h.disk })

-- An entry of a run is a row of the host that it meets.
pub run_at : (c : Codec) (h : Host) (before : List Entry) (e : Entry) (later : List Entry) → IsRun c h (before ++ (e ∷ later)) → HostRow c (host_by (Hears e.second) (host_along (acts_in before) h)) e
run_at c h [] e later run = run.0
run_at c h (first ∷ before) e later run = subst (λ x. HostRow c (host_by (Hears e.second) x) e) (sym (host_more (acts_of first) (acts_in before) h))
    (run_at c (host_along (acts_of first) h) before e later run.1)

pub run_front : (c : Codec) (h : Host) (before later : List Entry) → IsRun c h (before ++ later) → IsRun c h before
run_front c h [] later run = tt
run_front c h (first ∷ before) later run = (run.0, run_front c (host_along (acts_of first) h) before later run.1)
