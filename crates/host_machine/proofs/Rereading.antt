-- A live record that an opening found may be committed again, under the next number.
use Rattle.std.proofs.Common.{◌≡◌, ⊎_elim, ℕ, ◌+◌, true, false, List, Option, Some, None, refl, sym, ap, ◌∙◌, subst, inr}
use Rattle.std.specs.Option.{option_map}
use Rattle.bank_core.specs.Asks.{Flushes}
use Rattle.bank_core.specs.Disk.{Noted}
use Rattle.label_store.specs.declared.member.Member.{Member}
use Rattle.label_store.specs.Rounds.{config_of}
use Rattle.config_codec.specs.declared.config.LeafConfig.{LeafConfig}
use Rattle.config_codec.specs.Fields.{Fields}
use Rattle.config_codec.specs.Reading.{config_in}
use Rattle.pool_history.specs.Events.{Opens}
use Rattle.pool_history.specs.Pools.{Pool, after}
use Rattle.pool_history.specs.Records.{Rec, IsIn, block_of, data_start}
use Rattle.pool_history.specs.Survival.{Survives}
use Rattle.pool_history.proofs.DataSparing.{flush_sparing, each_sparing}
use Rattle.pool_history.proofs.Folding.{with_calls}
use Rattle.pool_history.proofs.Moving.{in_first}
use Rattle.pool_core.specs.Heads.{head_of}
use Rattle.pool_core.specs.Logs.{drawn}
use Rattle.pool_core.specs.Opening.{leaf_on}
use Rattle.pool_core.specs.State.{PoolState, board, is_spent}
use Rattle.pool_core.specs.Syncing.{flush_plan}
use Rattle.pool_core.proofs.Drawing.{drawn_relogs, drawn_number}
use Rattle.host_machine.specs.declared.device.HostDevice.{HostDevice}
use Rattle.host_machine.specs.Devices.{number_in}
use Rattle.host_machine.specs.Fitness.{IsFitPool, IsFit}
use Rattle.host_machine.specs.Machine.{HostState, open_state}
use Rattle.host_machine.specs.Records.{version_of, versions_of, cell_of, is_known_version, owed_by, committed_in, IsDrawn, AreDrawn}
use Rattle.host_machine.specs.Tracking.{Place, IsAt, IsPlaceOf, Tracks, HasNoTwins}
use Rattle.host_machine.proofs.Away.{part_away}
use Rattle.host_machine.proofs.Committing.{IsReady}
use Rattle.host_machine.proofs.CommitsAway.{flushes_away}
use Rattle.host_machine.proofs.DrawnLogs.{first_current, second_current, first_had, second_had, owed_had}
use Rattle.host_machine.proofs.FoundStates.{found_fit, opened_fit}
use Rattle.host_machine.proofs.HostSeats.{AreSeated}
use Rattle.host_machine.proofs.Knowing.{taken_of, cells_same, cells_back, known_back}
use Rattle.host_machine.proofs.Looking.{away_survives}
use Rattle.host_machine.proofs.Settling.{same_some, first_owed, second_owed}

-- The record is one that the machine knows, and takes for this configuration.
pub record IsKnownAs (records : List Rec) (config : List ℕ) (c : Fields) (r : Rec) : Type 0 where
  pub drawn : IsDrawn r c
  pub committed : (a : ℕ) → committed_in records config c a ≡ versions_of r a

-- the configuration of a record that was drawn up is the one that is read
drawn_as : (records : List Rec) (config : List ℕ) (c : Fields) (r : Rec) → AreDrawn records → config_in config ≡ Some c → config_of r.commit ≡ config → IsIn r records → IsDrawn r c
drawn_as records config c r all e same i =
    let d = all r i in
    subst (IsDrawn r) (same_some d.0 c (sym d.1.config ∙ ap config_in same ∙ e)) d.1

pub known_as : (records : List Rec) (config : List ℕ) (c : Fields) (r : Rec) → AreDrawn records → HasNoTwins records → config_in config ≡ Some c
    → config_of r.commit ≡ config → IsIn r records → IsKnownAs records config c r
known_as records config c r all twins e same i =
    let taken = taken_of records config c r i same in
    let one = drawn_as records config c r all e same i in
    let cells = cells_same taken.taken r c (drawn_as records config c taken.taken all e taken.config_is taken.is_in) one
    (λ a cell other x y sums. twins.by taken.taken r a a cell other taken.is_in i x y sums) in
    record { drawn = one; committed = λ a. taken.committed a ∙ ap (option_map version_of) (cells a) }

-- A leaf of the record, on a device that has its identity, is at its place.
found_at : (table : List HostDevice) (leaf : LeafConfig) (dev : Option ℕ) (place : Place) → IsPlaceOf place leaf → ((d : ℕ) → number_in place.name table ≡ Some d → d ≡ place.dev)
    → ((d : ℕ) → dev ≡ Some d → number_in leaf.name table ≡ Some d) → IsAt (leaf_on leaf dev) place
found_at table leaf dev place own number numbered = (own.0, own.1, λ d e. number d (subst (λ n. number_is n d) own.1 (numbered d e)))
  where
    number_is : List ℕ → ℕ → Type 0
    number_is name d = number_in name table ≡ Some d

module _ (p : Pool) (h : HostState) (fit : IsFit h) (tracks : Tracks p h) (reads ids : List Noted) (config : List ℕ) (c : Fields) (found : Option ℕ × Option ℕ) (r : Rec)
    (is_config : config_in config ≡ Some c) (unspent : is_spent c.number.0 ≡ false) (seated : AreSeated h c found) (live : IsIn r p.live)
    (known : IsKnownAs h.records config c r) where
  -- the state that is opened, and the one that is committed
  abbrev opening : PoolState
  opening = open_state h config c found

  abbrev again : PoolState
  again = drawn opening

  -- the pool behind the reads of the labels, the opening, and the search for the leaves
  abbrev behind : Pool
  behind = with_calls ids (after (Opens r) (with_calls reads p))

  fit_opening : IsFitPool h.size opening
  fit_opening = found_fit h config c found fit is_config seated

  same_version : (a : ℕ) → again.committed a ≡ versions_of r a
  same_version a = ap (λ (t : PoolState). t.committed a) (drawn_relogs opening).is ∙ known.committed a

  same_cells : (a : ℕ) → cell_of (again.committed a) ≡ r.cells a
  same_cells a = ap cell_of (same_version a) ∙ cells_back (r.cells a)

  own : (c.name ≡ p.name) × IsPlaceOf tracks.first c.first × IsPlaceOf tracks.second c.second
  own = tracks.own r c (in_first r p.live p.given live) known.drawn

  -- What a member has behind the draw, it has in the record.

  first_has : (d g : ℕ) → d ≡ tracks.first.dev → owed_by opening (p.guid d) g ≡ false → r.owes (p.guid d) g ≡ false
  first_has d g same none =
      let guid : p.guid d ≡ c.first.member = ap p.guid same ∙ tracks.first_guid ∙ sym own.1.0 in
      ap (λ m. r.owes m g) guid ∙ known.drawn.first_log g ∙ sym (first_owed opening g) ∙ ap (λ m. owed_by opening m g) (sym guid) ∙ none

  second_has : (d g : ℕ) → d ≡ tracks.second.dev → owed_by opening (p.guid d) g ≡ false → r.owes (p.guid d) g ≡ false
  second_has d g same none =
      let guid : p.guid d ≡ c.second.member = ap p.guid same ∙ tracks.second_guid ∙ sym own.2.0 in
      ap (λ m. r.owes m g) guid ∙ known.drawn.second_log g ∙ sym (second_owed opening g fit_opening.valid.two_members) ∙ ap (λ m. owed_by opening m g) (sym guid) ∙ none

  had_before : (d g : ℕ) → p.member d ≡ true → owed_by again (p.guid d) g ≡ false → r.owes (p.guid d) g ≡ false
  had_before d g member none =
      let had = owed_had opening again (p.guid d) g (ap (λ (t : PoolState). t.first.member) (drawn_relogs opening).is) (ap (λ (t : PoolState). t.second.member) (drawn_relogs opening).is)
      (first_had opening g fit_opening.first.logged) (second_had opening g fit_opening.second.logged) none in
      ⊎_elim (λ same. first_has d g same had) (λ same. second_has d g same had) (tracks.members d member)

  -- It may be committed, where the pool keeps the invariant.
  pub ready_again : c.pool ≡ p.pool → Survives head_of behind → IsReady behind h (flush_plan (open_state h config c found)) (drawn (open_state h config c found))
  ready_again pool sv = record {
    tracks = record {
      sizes = tracks.sizes;
      first = tracks.first;
      second = tracks.second;
      apart = tracks.apart;
      numbers = tracks.numbers;
      members = tracks.members;
      first_guid = tracks.first_guid;
      second_guid = tracks.second_guid;
      first_number = tracks.first_number;
      second_number = tracks.second_number;
      known = tracks.known;
      own = tracks.own;
      stands = tt;
    };
    first = subst (λ (t : PoolState). IsAt t.first tracks.first) (sym (drawn_relogs opening).is) (found_at h.table c.first found.0 tracks.first own.1 tracks.first_number seated.first_number);
    second = subst (λ (t : PoolState). IsAt t.second tracks.second) (sym (drawn_relogs opening).is) (found_at h.table c.second found.1 tracks.second own.2 tracks.second_number seated.second_number);
    name = ap (λ (t : PoolState). t.name) (drawn_relogs opening).is ∙ own.0;
    pool = ap (λ (t : PoolState). t.pool) (drawn_relogs opening).is ∙ pool;
    number = drawn_number opening ∙ ap (λ n. n.0 + 1) (sym known.drawn.number);
    fit = opened_fit h config c found fit is_config unspent seated;
    known = λ a. ap is_known_version (same_version a) ∙ known_back (r.cells a);
    no_writes = λ a. ap (λ (t : PoolState). t.writes a) (drawn_relogs opening).is;
    blocks = λ a. ap block_of (same_cells a);
    first_owes = first_current opening fit_opening.first.logged;
    second_owes = second_current opening fit_opening.second.logged;
    sparing = each_sparing behind (λ (m : Member). Flushes m.dev) (board opening) (λ j m e. flush_sparing behind m.dev);
    held = λ before part d a cell is e none.
        (away_survives behind before (part_away behind.member (flush_plan opening) before None (flushes_away behind.member opening) part) sv).held
        d (data_start + cell.sector) cell.block
        (is, inr (record { r = r; is_live = live; a = a; cell = cell; cell_is = sym (same_cells a) ∙ e; has = had_before d cell.birth is none; sector_is = refl; bytes_are = refl }));
  }
