-- A pool that was just made: behind the stamps of its leaves it keeps the invariant, and may commit its first record.
use Rattle.std.proofs.Common.{◌≡◌, ◌≢◌, ◌⊎◌, ℕ, ◌^◌, ◌<◌, ◌≤◌, ◌==◌, ◌||◌, Bool, true, false, not, cond, List, [], ◌∷◌, ◌++◌, length, Some, None, refl, sym, ap, ◌∙◌, subst, inl, inr, arith, ⊎_elim}
use Rattle.std.proofs.lemmas.Bool.{eqb-true, ne_eqb}
use Rattle.bank_core.specs.Asks.{IsPart}
use Rattle.bank_core.specs.Disk.{Sectors, Noted, run, replay}
use Rattle.bank_core.proofs.Composing.{replay_more}
use Rattle.label_store.specs.Plans.{stamp_plan}
use Rattle.label_store.specs.Records.{place_at}
use Rattle.label_store.specs.Rounds.{config_of}
use Rattle.config_codec.specs.Fields.{Fields}
use Rattle.config_codec.specs.Spelling.{config_bytes}
use Rattle.config_codec.specs.Validity.{IsValid}
use Rattle.config_codec.proofs.Deciding.{is_config, some}
use Rattle.pool_history.specs.Pools.{Pool}
use Rattle.pool_history.specs.Records.{Rec, IsIn, nothing, number_of, block_of}
use Rattle.pool_history.specs.Stamps.{IsBlank, AreStamped}
use Rattle.pool_history.specs.Survival.{Survives}
use Rattle.pool_history.proofs.DataSparing.{no_asks_spare}
use Rattle.pool_history.proofs.LooksFound.{alike}
use Rattle.pool_history.proofs.Stamping.{stamped_survives, stamp_blanks, stamp_elsewhere, untouched_blank}
use Rattle.pool_core.specs.Heads.{head_of}
use Rattle.pool_core.specs.State.{LeafState, PoolState, is_readable}
use Rattle.host_machine.specs.Births.{new_pool}
use Rattle.host_machine.specs.Devices.{number_in}
use Rattle.host_machine.specs.Machine.{HostState}
use Rattle.host_machine.specs.Records.{cell_of, is_known_version}
use Rattle.host_machine.specs.Fitness.{IsFitPool}
use Rattle.host_machine.specs.Tracking.{IsAt, Tracks}
use Rattle.host_machine.proofs.Committing.{IsReady}
use Rattle.host_machine.proofs.Settling.{same_some, none_some}
use Rattle.host_machine.proofs.Standings.{closed}

-- A leaf of a pool that is made: it is readable, on this device, which is the one of its name; and its log is empty.
pub record IsNewLeaf (h : HostState) (leaf : LeafState) (seat : ℕ) : Type 0 where
  pub dev : leaf.dev ≡ Some seat
  pub readable : is_readable leaf ≡ true
  pub empty : (g : ℕ) → leaf.owes g ≡ false
  pub number : number_in leaf.name h.table ≡ Some seat

-- A state of a pool that is made, on these devices: nothing is committed.
pub record IsNew (h : HostState) (s : PoolState) (seats : ℕ × ℕ) : Type 0 where
  pub fit : IsFitPool h.size s
  pub number : s.number ≡ 1
  pub committed : (a : ℕ) → s.committed a ≡ None
  pub writes : (a : ℕ) → s.writes a ≡ None
  pub apart : seats.0 ≢ seats.1
  pub first : IsNewLeaf h s.first seats.0
  pub second : IsNewLeaf h s.second seats.1

member_of_two : (d a b : ℕ) → ((d == a) || (d == b)) ≡ true → (d ≡ a) ⊎ (d ≡ b)
member_of_two d a b e = by (d == a) refl e
  where
    by : (t : Bool) → (d == a) ≡ t → (t || (d == b)) ≡ true → (d ≡ a) ⊎ (d ≡ b)
    by true t e = inl (eqb-true d a t)
    by false t e = inr (eqb-true d b e)

no_record : (c : Fields) (bytes : List ℕ) → IsValid c → bytes ≡ [] → bytes ≡ config_bytes c → ⊥
no_record c bytes valid none spelled =
    let long = some c valid in
    let short : length (config_bytes c) ≡ 0 = ap length (sym spelled ∙ none) in omega arith

module _ (h : HostState) (s : PoolState) (seats : ℕ × ℕ) (new : IsNew h s seats) where
  -- the pool behind the stamps
  abbrev made_pool : Sectors → Pool
  made_pool sectors = new_pool h.size s seats sectors

  pub guid_first : (sectors : Sectors) → (made_pool sectors).guid seats.0 ≡ s.first.member
  guid_first sectors = ap (λ t. cond t s.first.member s.second.member) (alike seats.0)

  pub guid_second : (sectors : Sectors) → (made_pool sectors).guid seats.1 ≡ s.second.member
  guid_second sectors = ap (λ t. cond t s.first.member s.second.member) (ne_eqb seats.1 seats.0 (λ e. new.apart (sym e)))

  guid_below : (d : ℕ) → (cond (d == seats.0) s.first.member s.second.member).0 < 2 ^ 64
  guid_below d = by (d == seats.0)
    where
      by : (t : Bool) → (cond t s.first.member s.second.member).0 < 2 ^ 64
      by true = let below = new.fit.valid.first.1 in let few = new.fit.valid.next_member in omega (arith, below, few)
      by false = let below = new.fit.valid.second.1 in let few = new.fit.valid.next_member in omega (arith, below, few)

  first_large : 320 ≤ h.size seats.0
  first_large = let room = new.fit.first.room seats.0 new.first.dev in let low = new.fit.valid.sectors.0 in omega (arith, room, low)

  second_large : 320 ≤ h.size seats.1
  second_large = let room = new.fit.second.room seats.1 new.second.dev in let low = new.fit.valid.sectors.0 in omega (arith, room, low)

  module _ (one other : List Noted) (sectors : Sectors) (first : IsPart (stamp_plan seats.0 (h.size seats.0) s.pool s.first.member) one None)
      (second : IsPart (stamp_plan seats.1 (h.size seats.1) s.pool s.second.member) other None) where
    abbrev behind : Sectors
    behind = run (one ++ other) sectors

    behind_is : (d t : ℕ) → behind d t ≡ replay other d t (run one sectors d t)
    behind_is d t = replay_more one other d t (sectors d t)

    first_blank : (place : ℕ) → place < 128 → IsBlank (behind seats.0 (place_at (h.size seats.0) place)) s.pool s.first.member
    first_blank place inside =
        let t = place_at (h.size seats.0) place in
        subst (λ x. IsBlank x s.pool s.first.member) (sym (behind_is seats.0 t))
        (untouched_blank other seats.0 t (run one sectors seats.0 t) s.pool s.first.member
        (stamp_elsewhere seats.1 (h.size seats.1) s.pool s.second.member other None seats.0 t (λ e. new.apart (sym e)) second)
        (stamp_blanks seats.0 (h.size seats.0) s.pool s.first.member one sectors first_large first place inside))

    second_blank : (place : ℕ) → place < 128 → IsBlank (behind seats.1 (place_at (h.size seats.1) place)) s.pool s.second.member
    second_blank place inside =
        let t = place_at (h.size seats.1) place in
        subst (λ x. IsBlank x s.pool s.second.member) (sym (behind_is seats.1 t))
        (stamp_blanks seats.1 (h.size seats.1) s.pool s.second.member other (run one sectors) second_large second place inside)

    pub are_stamped : AreStamped s.pool (made_pool behind).member (made_pool behind).guid h.size behind
    are_stamped = record {
      in_range = let most = new.fit.valid.pool.1 in omega (arith, most);
      guids = λ d is. guid_below d;
      sizes = λ d is. ⊎_elim (λ e. subst (λ x. 320 ≤ h.size x) (sym e) first_large) (λ e. subst (λ x. 320 ≤ h.size x) (sym e) second_large)
          (member_of_two d seats.0 seats.1 is);
      rings = λ d place is inside. ⊎_elim
          (λ e. subst (λ x. IsBlank (behind x (place_at (h.size x) place)) s.pool ((made_pool behind).guid x)) (sym e)
          (subst (IsBlank (behind seats.0 (place_at (h.size seats.0) place)) s.pool) (sym (guid_first behind)) (first_blank place inside)))
          (λ e. subst (λ x. IsBlank (behind x (place_at (h.size x) place)) s.pool ((made_pool behind).guid x)) (sym e)
          (subst (IsBlank (behind seats.1 (place_at (h.size seats.1) place)) s.pool) (sym (guid_second behind)) (second_blank place inside)))
          (member_of_two d seats.0 seats.1 is);
    }

    -- It keeps the invariant.
    pub made_survives : Survives head_of (made_pool behind)
    made_survives = stamped_survives head_of s.name s.pool (made_pool behind).member (made_pool behind).guid h.size behind are_stamped

  only : (r : Rec) → IsIn r (nothing s.pool ∷ []) → r ≡ nothing s.pool
  only r (inl e) = e
  only r (inr i) = absurd i

  -- It stands in the host, which has no open pool.
  pub made_tracks : (sectors : Sectors) → Tracks (made_pool sectors) (closed h)
  made_tracks sectors = record {
    sizes = λ d some. refl;
    first = record { member = s.first.member; name = s.first.name; dev = seats.0 };
    second = record { member = s.second.member; name = s.second.name; dev = seats.1 };
    apart = new.apart;
    numbers = new.fit.valid.two_members;
    members = λ d is. member_of_two d seats.0 seats.1 is;
    first_guid = guid_first sectors;
    second_guid = guid_second sectors;
    first_number = λ d e. same_some d seats.0 (sym e ∙ new.first.number);
    second_number = λ d e. same_some d seats.1 (sym e ∙ new.second.number);
    known = λ r i some. absurd (let none : number_of r ≡ 0 = ap number_of (only r i) in omega (arith, some, none));
    own = λ r c i is.
        let config = is_config (config_of r.commit) c is.config in
        absurd (no_record c (config_of r.commit) config.valid (ap (λ (q : Rec). config_of q.commit) (only r i)) config.spelled);
    stands = tt;
  }

  leaf_at : (leaf : LeafState) (seat : ℕ) → IsNewLeaf h leaf seat → IsAt leaf (record { member = leaf.member; name = leaf.name; dev = seat })
  leaf_at leaf seat is = (refl, refl, λ d e. same_some d seat (sym e ∙ is.dev))

  none_owed : (leaf : LeafState) (seat : ℕ) → IsNewLeaf h leaf seat → leaf.owes s.number ≡ not (is_readable leaf)
  none_owed leaf seat is = is.empty s.number ∙ sym (ap not is.readable)

  -- It may commit its first record, with no call before the round.
  pub made_ready : (sectors : Sectors) → IsReady (made_pool sectors) h [] s
  unfolding made_tracks
  made_ready sectors = record {
    tracks = made_tracks sectors;
    first = leaf_at s.first seats.0 new.first;
    second = leaf_at s.second seats.1 new.second;
    name = refl;
    pool = refl;
    number = new.number;
    fit = new.fit;
    known = λ a. ap is_known_version (new.committed a);
    no_writes = new.writes;
    blocks = λ a. ap (λ v. block_of (cell_of v)) (new.committed a);
    first_owes = none_owed s.first seats.0 new.first;
    second_owes = none_owed s.second seats.1 new.second;
    sparing = no_asks_spare (made_pool sectors);
    held = λ before part d a cell is e has. absurd (none_some cell (sym (ap cell_of (new.committed a)) ∙ e));
  }
