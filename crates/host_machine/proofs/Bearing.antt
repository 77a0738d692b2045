-- A create whose devices are found begins a pool, or a stamp fails.
use Rattle.std.proofs.Common.{◌≡◌, ◌⊎◌, ℕ, suc, Bool, true, false, cond, List, [], ◌∷◌, ◌++◌, length, Option, Some, None, refl, sym, ap, ◌∙◌, subst, inl, inr, append_assoc, append-nil}
use Rattle.std.specs.Prelude.{IsTrue}
use Rattle.std.specs.List.{cons_option}
use Rattle.std.specs.Option.{option_map}
use Rattle.mp_base.specs.Name.{is_name}
use Rattle.bank_core.specs.Asks.{Ask}
use Rattle.bank_core.specs.Disk.{Sectors, Noted, run}
use Rattle.label_store.specs.declared.member.Member.{Member}
use Rattle.label_store.specs.Phases.{IsPhase}
use Rattle.label_store.specs.Rounds.{third_plan}
use Rattle.pool_wire.specs.declared.reply.Reply.{Reply}
use Rattle.pool_history.specs.Pools.{pool_after}
use Rattle.pool_history.specs.Records.{Rec}
use Rattle.pool_core.specs.Commits.{failures, first_failed, FirstRound, IsStampedFirst, AreMade}
use Rattle.pool_core.specs.Recorded.{commit_of}
use Rattle.pool_core.specs.State.{LeafState, PoolState, leaves, seat_of, board}
use Rattle.host_machine.specs.Births.{new_pool, IsBorn, IsStamp, StampFails}
use Rattle.host_machine.specs.Fitness.{IsFit}
use Rattle.host_machine.specs.Machine.{HostState, commit_outcome, create_outcome, is_bad_size, new_seats, new_state, CreatesOn, CreatesUnless, IsCreate}
use Rattle.host_machine.specs.Records.{with_record}
use Rattle.host_machine.specs.Tracking.{Follows}
use Rattle.host_machine.proofs.Beginning.{IsNewLeaf, IsNew, made_survives, made_tracks, made_ready}
use Rattle.host_machine.proofs.Committing.{commit_follows, outcome_table, outcome_size}
use Rattle.host_machine.proofs.Following.{kept_last}
use Rattle.host_machine.proofs.FoundStates.{AreNames, created_fit}
use Rattle.host_machine.proofs.RoundMarks.{marks_open_none, marks_looked}
use Rattle.host_machine.proofs.HostSeats.{member_number}
use Rattle.host_machine.proofs.NewStates.{HasNewSeats, new_seats_found, seats_apart}
use Rattle.host_machine.proofs.Standings.{closed}

-- a round has a result for each member
phase_long : (plan : Member → List Ask) (ms : List Member) (was is : List Bool) (made : List Noted) → IsPhase plan ms was is made → length is ≡ length ms
phase_long plan [] [] [] made ph = refl
phase_long plan [] [] (c ∷ is) made ph = absurd ph
phase_long plan [] (b ∷ was) is made ph = absurd ph
phase_long plan (m ∷ ms) [] is made ph = absurd ph
phase_long plan (m ∷ ms) (b ∷ was) [] made ph = absurd ph
phase_long plan (m ∷ ms) (b ∷ was) (c ∷ is) made ph = ap suc (phase_long plan ms was is ph.1 ph.4)

-- with no pool open, a host is what it is closed
closed_with : (h : HostState) (records : List Rec) → h.pool ≡ None → record h { records = records } ≡ record h { records = records; pool = None }
closed_with h records e = ap (λ p. record { table = h.table; size = h.size; records = records; pool = p }) e

-- A create leaves the same host as a commit of the record.
same_outcome : (h : HostState) (s : PoolState) (results : List Bool) → h.pool ≡ None → length results ≡ 2
    → (create_outcome h s (first_failed (leaves s) results)).0 ≡ (commit_outcome h s (failures results)).0
same_outcome h s [] e long = absurd (let no : 0 ≡ 2 = long in cc)
same_outcome h s (a ∷ []) e long = absurd (let no : 1 ≡ 2 = long in cc)
same_outcome h s (true ∷ true ∷ []) e long = refl
same_outcome h s (true ∷ false ∷ []) e long = closed_with h (with_record s h.records) e
same_outcome h s (false ∷ true ∷ []) e long = closed_with h (with_record s h.records) e
same_outcome h s (false ∷ false ∷ []) e long = closed_with h (with_record s h.records) e
same_outcome h s (a ∷ b ∷ c ∷ results) e long = absurd (let no : suc (suc (suc (length results))) ≡ 2 = long in cc)

-- both leaves of a new pool are on the board
new_seat : (h : HostState) (leaf : LeafState) (seat : ℕ) → IsNewLeaf h leaf seat → seat_of leaf ≡ Some (record { dev = seat; guid = leaf.member })
new_seat h leaf seat new =
    ap (λ up. cond up (option_map (λ (dev : ℕ). record { dev = dev; guid = leaf.member }) leaf.dev) None) new.readable ∙ ap (option_map (λ (dev : ℕ). record { dev = dev; guid = leaf.member })) new.dev

board_two : (h : HostState) (s : PoolState) (seats : ℕ × ℕ) → IsNew h s seats → length (board s) ≡ 2
board_two h s seats new =
    ap (λ one. length (cons_option one (cons_option (seat_of s.second) []))) (new_seat h s.first seats.0 new.first)
    ∙ ap (λ other. length (cons_option (Some (record { dev = seats.0; guid = s.first.member })) (cons_option other []))) (new_seat h s.second seats.1 new.second)

same_closed : (h : HostState) → h.pool ≡ None → closed h ≡ h
same_closed h e = ap (λ p. record { table = h.table; size = h.size; records = h.records; pool = p }) (sym e)

module _ (h : HostState) (s : PoolState) (seats : ℕ × ℕ) (new : IsNew h s seats) (no_pool : h.pool ≡ None) (sectors : Sectors) where
  -- the first record's round
  round_follows : (stamps rest : List Noted) (failed : Option LeafState) → FirstRound h.size s rest failed
      → Follows (new_pool h.size s seats (run stamps sectors)) (closed h) (λ cost. ⊥) rest (create_outcome h s failed).0
  round_follows stamps rest failed (results, is_round, is) =
      let commits = commit_follows (new_pool h.size s seats (run stamps sectors)) h [] s rest (failures results)
      (record { before = []; round = rest; all = refl; outcome = None; part = refl; behind = (results, is_round, refl) }) in
      let long : length results ≡ 2 = phase_long (third_plan h.size (commit_of s)) (board s) is_round.in_second results is_round.third is_round.copies ∙ board_two h s seats new in
      subst (Follows (new_pool h.size s seats (run stamps sectors)) (closed h) (λ cost. ⊥) rest)
      (sym (ap (λ f. (create_outcome h s f).0) is ∙ same_outcome h s results no_pool long)) (record {
        vs = commits.vs;
        calls = commits.calls;
        one_run = commits.one_run;
        devices = (outcome_table h s (failures results), outcome_size h s (failures results));
        looked = marks_looked (closed h) [] commits.vs commits.marks;
        asked = inl (marks_open_none commits.vs commits.marks);
        keeps = λ d is. inl (ap (λ f. f d) commits.member ∙ is);
        last = λ tracks twins sv good. kept_last (λ cost. ⊥) (new_pool h.size s seats (run stamps sectors)) (pool_after commits.vs (new_pool h.size s seats (run stamps sectors))) commits.member;
        safe = λ tracks twins sv good. commits.safe (made_ready h s seats new (run stamps sectors)) sv;
      })

  -- both stamps were whole
  born : (one other rest made : List Noted) (failed : Option LeafState) → made ≡ one ++ (other ++ rest) → IsStamp h.size s s.first seats.0 one None → IsStamp h.size s s.second seats.1 other None
      → FirstRound h.size s rest failed → IsBorn h.size s seats sectors made (create_outcome h s failed).0
  born one other rest made failed all first second round = record {
    stamps = one ++ other;
    rest = rest;
    all = all ∙ sym (append_assoc one other rest);
    survives = made_survives h s seats new one other sectors first second;
    between = closed h;
    tracks = made_tracks h s seats new (run (one ++ other) sectors);
    follows = round_follows (one ++ other) rest failed round;
  }

  second_case : (one : List Noted) (made rest : List Noted) (failed : Option LeafState) → made ≡ one ++ rest → IsStamp h.size s s.first seats.0 one None
      → IsStampedFirst h.size s s.second seats.1 rest failed (λ more. FirstRound h.size s more failed)
      → IsBorn h.size s seats sectors made (create_outcome h s failed).0 ⊎ StampFails h.size s seats made
  second_case one made rest failed all first (other, more, None, rest_is, second, round) = inl (born one other more made failed (all ∙ ap (λ l. one ++ l) rest_is) first second round)
  second_case one made rest failed all first (other, more, Some fault, rest_is, second, (none, is)) = inr (record {
    one = one;
    other = rest;
    all = all;
    fault = fault;
    fails = inr (first, subst (λ l. IsStamp h.size s s.second seats.1 l (Some fault)) (sym (rest_is ∙ ap (λ l. other ++ l) none ∙ append-nil other)) second);
  })

  first_case : (made : List Noted) (failed : Option LeafState) → AreMade h.size s seats made failed
      → IsBorn h.size s seats sectors made (create_outcome h s failed).0 ⊎ StampFails h.size s seats made
  first_case made failed (one, rest, None, all, first, then) = second_case one made rest failed all first then
  first_case made failed (one, rest, Some fault, all, first, (none, is)) = inr (record { one = one; other = rest; all = all; fault = fault; fails = inl (first, none) })

  pub by_calls : (made : List Noted) (failed : Option LeafState) (next : HostState) (reply : Reply) → AreMade h.size s seats made failed → (next, reply) ≡ create_outcome h s failed
      → IsBorn h.size s seats sectors made next ⊎ StampFails h.size s seats made
  by_calls made failed next reply are e =
      subst (λ n. IsBorn h.size s seats sectors made n ⊎ StampFails h.size s seats made) (sym (ap (λ x. x.0) e)) (first_case made failed are)

-- The state of a create whose devices are found is a new one.
is_new : (h : HostState) (second : ℕ) (name : List ℕ) (blocks : ℕ) (first other : List ℕ) (seats : ℕ × ℕ) → IsFit h → AreNames name first other
    → is_bad_size blocks ≡ false → HasNewSeats h blocks first other seats → new_seats h blocks first other ≡ Some seats → IsNew h (new_state h second name blocks first other seats) seats
is_new h second name blocks first other seats fit names good has seated =
    let is = created_fit h second name blocks first other seats fit names good seated in
    record {
      fit = is;
      number = refl;
      committed = λ a. refl;
      writes = λ a. refl;
      apart = seats_apart h blocks first other seats fit.apart has;
      first = record { dev = refl; readable = refl; empty = λ g. refl; number = member_number first h.table seats.0 has.one };
      second = record { dev = refl; readable = refl; empty = λ g. refl; number = member_number other h.table seats.1 has.two };
    }

pub create_begins : (h : HostState) (second : ℕ) (name : List ℕ) (blocks : ℕ) (first other : List ℕ) (seats : ℕ × ℕ) (made : List Noted) (next : HostState) (reply : Reply) (sectors : Sectors)
    → IsFit h → IsTrue (is_name name) → IsTrue (is_name first) → IsTrue (is_name other) → is_bad_size blocks ≡ false → new_seats h blocks first other ≡ Some seats
    → IsCreate h second name blocks first other made next reply
    → IsBorn h.size (new_state h second name blocks first other seats) seats sectors made next ⊎ StampFails h.size (new_state h second name blocks first other seats) seats made
create_begins h second name blocks first other seats made next reply sectors fit named first_named other_named good e c =
    let has = new_seats_found h blocks first other seats e in
    let on = subst (λ s. CreatesOn h second name blocks first other s made next reply) e (subst (λ bad. CreatesUnless bad h second name blocks first other made next reply) good c) in
    let names : AreNames name first other = record { name_is = named; first_is = first_named; other_is = other_named } in
    by_calls h (new_state h second name blocks first other seats) seats (is_new h second name blocks first other seats fit names good has e) has.closed sectors
    made on.0 next reply on.1 on.2
