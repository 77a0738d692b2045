-- What an opening of a pool finds, by its reads: a live record.
use Rattle.std.proofs.Common.{◌≡◌, ℕ, ◌≤◌, List, Option, Some, None, sym, subst, arith}
use Rattle.bank_core.specs.Disk.{Noted, AllAnswer, run}
use Rattle.label_store.specs.declared.found.Found.{Found}
use Rattle.label_store.specs.declared.rule.Head.{Head}
use Rattle.label_store.specs.declared.uberblock.Uberblock.{Uberblock}
use Rattle.label_store.specs.Newest.{Parts, IsLook}
use Rattle.label_store.specs.Rounds.{config_of}
use Rattle.label_store.proofs.Reading.{look_reads}
use Rattle.pool_history.specs.Events.{Known, Opens, as_events}
use Rattle.pool_history.specs.Looks.{known_by}
use Rattle.pool_history.specs.Moves.{ReadsTrue}
use Rattle.pool_history.specs.Openings.{IsVerifiedOn, IsYield}
use Rattle.pool_history.specs.Pools.{Pool, after}
use Rattle.pool_history.specs.Premises.{Premises}
use Rattle.pool_history.specs.Records.{Rec, IsIn, number_of}
use Rattle.pool_history.specs.Survival.{Survives}
use Rattle.pool_history.proofs.Folding.{calls_after, with_calls}
use Rattle.pool_history.proofs.LooksFound.{known_of}
use Rattle.pool_history.proofs.LooksShow.{best_yields, best_none, looks_true}
use Rattle.pool_history.proofs.Moving.{event_survives}
use Rattle.pool_history.proofs.Yields.{yield_live, finds_some}
use Rattle.pool_history.proofs.Surviving.{history_survives}
use Rattle.pool_core.specs.Heads.{head_of}
use Rattle.host_machine.specs.Devices.{all_handed}
use Rattle.host_machine.specs.Fitness.{IsFit}
use Rattle.host_machine.specs.Machine.{HostState}
use Rattle.host_machine.proofs.Away.{AreAway, away_may, reads_away}
use Rattle.host_machine.proofs.Openings.{IsNewest}
use Rattle.host_machine.proofs.HostSeats.{handed_room}

-- calls that put nothing on members keep the invariant
pub away_survives : (p : Pool) (made : List Noted) → AreAway p.member made → Survives head_of p → Survives head_of (with_calls made p)
away_survives p made away sv = subst (Survives head_of) (calls_after made p) (history_survives head_of (as_events made) p sv (away_may head_of made p away))

-- A live record with a number, of this configuration.
pub record IsLive (p : Pool) (config : List ℕ) : Type 0 where
  pub r : Rec
  pub is_live : IsIn r p.live
  pub config_is : config_of r.commit ≡ config
  pub some : 1 ≤ number_of r

-- the same, and it isn't below the acknowledged one
pub record IsLater (p : Pool) (config : List ℕ) : Type 0 where
  pub live : IsLive p config
  pub not_below : number_of p.acked ≤ number_of live.r

yield_some : (head_of : List ℕ → Option Head) (size : ℕ → ℕ) (known : ℕ → ℕ → Option (List ℕ)) (name : List ℕ) (u : Uberblock) (config : List ℕ)
    → IsYield head_of size known name u config → 1 ≤ u.number.0
yield_some head_of size known name u config y = y.verified.verified.is_record.some

-- What is verified on a device speaks of the size of this device alone.
verified_sized : (size room : ℕ → ℕ) (known : Known) (name : List ℕ) (d : ℕ) (u : Uberblock) (config : List ℕ) → size d ≡ room d
    → IsVerifiedOn head_of size known name d u config → IsVerifiedOn head_of room known name d u config
verified_sized size room known name d u config same v =
    from (subst (λ n. IsVerifiedOn head_of (λ e. n) known name d u config) same
    (record { place = v.place; verified = v.verified; is_read = v.is_read; head = v.head; reads = v.reads; name_is = v.name_is }))
  where
    from : IsVerifiedOn head_of (λ e. room d) known name d u config → IsVerifiedOn head_of room known name d u config
    from w = record { place = w.place; verified = w.verified; is_read = w.is_read; head = w.head; reads = w.reads; name_is = w.name_is }

module _ (p : Pool) (h : HostState) (reads : List Noted) (looks : List Parts) (fit : IsFit h) (sizes : (d : ℕ) → 1 ≤ h.size d → p.size d ≡ h.size d)
    (look : IsLook h.size (all_handed h.table) looks reads) (answers : AllAnswer p.sectors reads) where
  abbrev known_here : Known
  known_here = known_by h.size (all_handed h.table) looks

  -- what was read is true of the sectors
  pub looked_true : ReadsTrue (run reads p.sectors) (known_by h.size (all_handed h.table) looks)
  looked_true = looks_true h.size (all_handed h.table) looks reads p.sectors look answers

  looked_survives : Survives head_of p → Survives head_of (with_calls reads p)
  looked_survives = away_survives p reads (reads_away p.member reads (look_reads h.size (all_handed h.table) looks reads look))

  -- a device of which something was read is handed, and so it is in this run
  looked_size : (size : ℕ → ℕ) (name : List ℕ) (d : ℕ) (u : Uberblock) (config : List ℕ) → IsVerifiedOn head_of size known_here name d u config → p.size d ≡ h.size d
  looked_size size name d u config v =
      let at = known_of h.size (all_handed h.table) looks d _ v.is_read.0 v.is_read.1 in
      sizes d (let room = handed_room h.size h.table fit.sized at.i d at.dev_is in omega (arith, room))

  verified_here : (name : List ℕ) (d : ℕ) (u : Uberblock) (config : List ℕ) → IsVerifiedOn head_of p.size known_here name d u config → IsVerifiedOn head_of h.size known_here name d u config
  verified_here name d u config v = verified_sized p.size h.size known_here name d u config (looked_size p.size name d u config v) v

  verified_there : (name : List ℕ) (d : ℕ) (u : Uberblock) (config : List ℕ) → IsVerifiedOn head_of h.size known_here name d u config → IsVerifiedOn head_of p.size known_here name d u config
  verified_there name d u config v = verified_sized h.size p.size known_here name d u config (sym (looked_size h.size name d u config v)) v

  yield_there : (name : List ℕ) (u : Uberblock) (config : List ℕ) → IsYield head_of h.size known_here name u config → IsYield head_of p.size known_here name u config
  yield_there name u config y = record {
    d = y.d;
    verified = verified_there name y.d u config y.verified;
    greatest = λ e v other ver. y.greatest e v other (verified_here name e v other ver);
  }

  -- The record that was found is live.
  pub looked_live : (found : Found) → Survives head_of p → Premises head_of (with_calls reads p) (known_by h.size (all_handed h.table) looks)
      → IsNewest h p.name looks (Some found) → IsLater p found.blob.items
  looked_live found sv premises newest =
      let y = best_yields head_of h.size (all_handed h.table) looks reads p.sectors p.name found look fit.apart.handed (handed_room h.size h.table fit.sized) answers newest in
      let live = yield_live head_of (with_calls reads p) (known_by h.size (all_handed h.table) looks) y.0 found.blob.items (looked_survives sv) looked_true premises
      (yield_there p.name y.0 found.blob.items y.3) in
      let some : 1 ≤ y.0.number.0 = yield_some head_of h.size (known_by h.size (all_handed h.table) looks) p.name y.0 found.blob.items y.3 in
      record {
        live = record { r = live.found; is_live = live.is_live; config_is = sym live.config_is; some = subst (λ n. 1 ≤ n.0) live.number_is some };
        not_below = live.not_below;
      }

  -- There is one.
  pub looked_some : Survives head_of p → Premises head_of (with_calls reads p) (known_by h.size (all_handed h.table) looks) → IsNewest h p.name looks None → ⊥
  looked_some sv premises newest =
      let v = finds_some head_of (with_calls reads p) (known_by h.size (all_handed h.table) looks) (looked_survives sv) looked_true premises in
      best_none head_of h.size (all_handed h.table) looks reads p.sectors p.name look (handed_room h.size h.table fit.sized) answers newest v.0 v.1 v.2
      (verified_here p.name v.0 v.1 v.2 v.3)

-- the record that an opening reads is live, and keeps the invariant
pub opens_survives : (p : Pool) (r : Rec) → IsIn r p.live → Survives head_of p → Survives head_of (after (Opens r) p)
opens_survives p r live sv = event_survives head_of p (Opens r) sv live
