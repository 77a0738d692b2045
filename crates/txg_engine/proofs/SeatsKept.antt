-- What stays of the seats of a group, whoever leaves the board.
use Rattle.std.proofs.Common.{◌≡◌, ℕ, ◌<◌, ◌==◌, ◌&&◌, not, cond, Bool, true, false, List, [], ◌∷◌, length, get_or, map, refl, sym, ap, ◌∙◌, subst, arith}
use Rattle.std.specs.Prelude.{All, slice_index}
use Rattle.std.specs.List.{AllZip}
use Rattle.std.proofs.lemmas.List.Elements.{length_all_zip, AllZip-get_or}
use Rattle.mp_base.specs.declared.number.Guid.{Guid}
use Rattle.block_map.specs.Places.{IsPlace, AreTops}
use Rattle.label_store.specs.declared.member.Member.{Member}
use Rattle.txg_engine.specs.declared.item.Item.{Item}
use Rattle.txg_engine.specs.declared.seat.Seat.{Seat}
use Rattle.txg_engine.specs.Boards.{is_on_as, without, as_taken, failed, behind_turn, count_up}
use Rattle.txg_engine.specs.Frozen.{FrozenGroup, AreSeated}

-- a seat of the same leaf, which isn't on the board unless it was
pub record IsSeatOf (old new : Seat) : Type 0 where
  pub member : new.member ≡ old.member
  pub top : new.top ≡ old.top
  pub on : new.on ≡ true → old.on ≡ true

abbrev pub AreSeatsOf : List Seat → List Seat → Type 0
AreSeatsOf old new = AllZip IsSeatOf old new

same_seats : (seats : List Seat) → AreSeatsOf seats seats
same_seats [] = tt
same_seats (seat ∷ seats) = (record { member = refl; top = refl; on = λ e. e }, same_seats seats)

more_seats : (one two three : List Seat) → AreSeatsOf one two → AreSeatsOf two three → AreSeatsOf one three
more_seats [] [] [] first rest = tt
more_seats [] [] (z ∷ three) first rest = absurd rest
more_seats [] (y ∷ two) three first rest = absurd first
more_seats (x ∷ one) [] three first rest = absurd first
more_seats (x ∷ one) (y ∷ two) [] first rest = absurd rest
more_seats (x ∷ one) (y ∷ two) (z ∷ three) first rest = (
  record {
    member = rest.0.member ∙ first.0.member;
    top = rest.0.top ∙ first.0.top;
    on = λ e. first.0.on (rest.0.on e);
  },
  more_seats one two three first.1 rest.1,
)

mapped_seats : (f : Seat → Seat) → ((seat : Seat) → IsSeatOf seat (f seat)) → (seats : List Seat) → AreSeatsOf seats (map f seats)
mapped_seats f each [] = tt
mapped_seats f each (seat ∷ seats) = (each seat, mapped_seats f each seats)

was_on : (a b : Bool) → (a && b) ≡ true → a ≡ true
was_on true b e = refl
was_on false b e = e

without_seats : (m : Guid) (seats : List Seat) → AreSeatsOf seats (map (without m) seats)
without_seats m =
    mapped_seats (without m) (λ seat. record {
      member = refl;
      top = refl;
      on = was_on seat.on (not (seat.member.guid.0 == m.0));
    })

failed_seats : (m : Guid) (seats : List Seat) → AreSeatsOf seats (map (failed m) seats)
failed_seats m = mapped_seats (failed m) (λ seat. one seat (seat.member.guid.0 == m.0))
  where
    one : (seat : Seat) (b : Bool) → IsSeatOf seat (cond b (record seat { faults = count_up seat.faults }) seat)
    one seat true = record { member = refl; top = refl; on = λ e. e }
    one seat false = record { member = refl; top = refl; on = λ e. e }

taken_seats : (m : Guid) (seats : List Seat) → AreSeatsOf seats (map (as_taken m) seats)
taken_seats m = mapped_seats (as_taken m) (λ seat. one seat (is_on_as m seat))
  where
    one : (seat : Seat) (b : Bool) → IsSeatOf seat (cond b (record seat { taken = true }) seat)
    one seat true = record { member = refl; top = refl; on = λ e. e }
    one seat false = record { member = refl; top = refl; on = λ e. e }

left_seats : (m : Guid) (seats : List Seat) → AreSeatsOf seats (map (without m) (map (as_taken m) seats))
left_seats m seats =
    more_seats seats (map (as_taken m) seats) (map (without m) (map (as_taken m) seats)) (taken_seats m seats)
    (without_seats m (map (as_taken m) seats))

behind_seats : (ms : List Member) (done : List Bool) (seats : List Seat) → AreSeatsOf seats (behind_turn ms done seats)
behind_seats [] done seats = same_seats seats
behind_seats (m ∷ ms) [] seats = same_seats seats
behind_seats (m ∷ ms) (true ∷ done) seats = behind_seats ms done seats
behind_seats (m ∷ ms) (false ∷ done) seats =
    let counted = map (failed m.guid) seats in
    let left = map (without m.guid) counted in
    more_seats seats left (behind_turn ms done left)
    (more_seats seats counted left (failed_seats m.guid seats) (without_seats m.guid counted)) (behind_seats ms done left)

module _ (size size' : ℕ → ℕ) (sectors sectors' : List ℕ) (old new : FrozenGroup) (sizes : (d : ℕ) → size' d ≡ size d)
    (rows : sectors' ≡ sectors) (items : new.items ≡ old.items) (seats : AreSeatsOf old.board new.board)
    (was : AreSeated size sectors old) where
  inside : (k : ℕ) → k < length new.board → k < length old.board
  inside k lt = omega (arith, length_all_zip IsSeatOf old.board new.board seats)

  at : (k : ℕ) (d : Seat) → k < length new.board → IsSeatOf (get_or old.board k d) (get_or new.board k d)
  at k d lt = AllZip-get_or IsSeatOf old.board new.board k d d seats (inside k lt)

  same_dev : (one other : Seat) → IsSeatOf one other → other.member.dev ≡ one.member.dev
  same_dev one other is = ap (λ (m : Member). m.dev) is.member

  -- the devices of those that are still on the board have the room that they had
  seats_kept : AreSeated size' sectors' new
  seats_kept = record {
    tops = subst AreTops (sym rows) was.tops;
    seats = λ k d lt on.
        let is = at k d lt in
        let seated = was.seats k d (inside k lt) (is.on on) in
        let dev = sizes (get_or new.board k d).member.dev ∙ ap size (same_dev (get_or old.board k d) (get_or new.board k d) is) in
        let row = ap (λ l. slice_index l (get_or new.board k d).top) rows ∙ ap (slice_index sectors) is.top in
        record {
          labels = let room = seated.labels in omega arith;
          data_sectors = let room = seated.data_sectors in omega arith;
        };
    apart = λ i j d before lt on on' same.
        let is = at i d (omega arith) in
        let is' = at j d lt in
        was.apart i j d before (inside j lt) (is.on on) (is'.on on')
        (sym (same_dev (get_or old.board i d) (get_or new.board i d) is) ∙ same ∙ same_dev (get_or old.board j d) (get_or new.board j d) is');
    places = subst (λ l. All (λ (item : Item). IsPlace l item.pointer.place) new.items) (sym rows)
        (subst (All (λ (item : Item). IsPlace sectors item.pointer.place)) (sym items) was.places);
  }

-- so behind a turn
pub turn_seats : (size size' : ℕ → ℕ) (sectors sectors' : List ℕ) (old new : FrozenGroup) (ms : List Member) (done : List Bool)
    → ((d : ℕ) → size' d ≡ size d) → sectors' ≡ sectors → new.items ≡ old.items → new.board ≡ behind_turn ms done old.board
    → AreSeated size sectors old → AreSeated size' sectors' new
turn_seats size size' sectors sectors' old new ms done sizes rows items behind was =
    seats_kept size size' sectors sectors' old new sizes rows items
    (subst (AreSeatsOf old.board) (sym behind) (behind_seats ms done old.board)) was

-- and where its pool takes a leaf off, or counts a failed call
pub left_seated : (size : ℕ → ℕ) (sectors : List ℕ) (old new : FrozenGroup) (m : Guid) → new.items ≡ old.items
    → new.board ≡ map (without m) (map (as_taken m) old.board) → AreSeated size sectors old → AreSeated size sectors new
left_seated size sectors old new m items left was =
    seats_kept size size sectors sectors old new (λ d. refl) refl items
    (subst (AreSeatsOf old.board) (sym left) (left_seats m old.board)) was

pub counted_seated : (size : ℕ → ℕ) (sectors : List ℕ) (old new : FrozenGroup) (m : Guid) → new.items ≡ old.items
    → new.board ≡ map (failed m) old.board → AreSeated size sectors old → AreSeated size sectors new
counted_seated size sectors old new m items counted was =
    seats_kept size size sectors sectors old new (λ d. refl) refl items
    (subst (AreSeatsOf old.board) (sym counted) (failed_seats m old.board)) was
