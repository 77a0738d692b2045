-- What is seen of a pool behind a move is the move's step from what was seen before it.
use Rattle.std.proofs.Common.{◌≡◌, ◌⊎◌, inl, inr, ℕ, suc, ◌+◌, ◌==◌, Bool, true, false, not, cond, ◌&&◌, Option, Some, None, List, [], ◌∷◌, ◌++◌, map, take, drop, refl, sym, ap, ◌∙◌, subst, arith}
use mathlib.Core.Path.{fun_ext}
use Rattle.std.specs.List.{AllByRecursion, insert, remove}
use Rattle.std.proofs.lemmas.Bool.Decides.{nat_tests}
use Rattle.std.proofs.lemmas.List.{map-append, take-map, drop-map}
use Rattle.mp_base.specs.declared.number.Guid.{Guid}
use Rattle.txg_history.specs.Events.{Burns, Acks, Joins}
use Rattle.txg_history.specs.Pages.{Codec, sum_of}
use Rattle.txg_history.specs.Pools.{Pool, after, pool_after, kept_in, whole_log}
use Rattle.txg_history.specs.Records.{Cell, Cells, cell_over, laid_over}
use Rattle.txg_history.specs.Scans.{scanned_log}
use Rattle.txg_history.proofs.Logging.{same_device}
use Rattle.pool_moves.specs.Keeping.{IsElsewhere, IsSeated, IsOwnNumber, IsOfFound, IsDrafted, MayCome, MayReturn, Admits, Kept}
use Rattle.pool_moves.specs.Leaves.{OwnLeaf, LeafSeen, Seat, At, Adrift, dev_if, told, leaf_seen}
use Rattle.pool_moves.specs.Moves.{Draft, Move, Makes, Puts, Freeze, Wrote_key, Flushed_all, Draw, Leave, Widen, Burn, Starts, Commits, Sets, Finds, Lose, Comes, Goes, Returns, Pass, Drop, Clear, joined_own, log_grown, leaf_cleared, leaf_step, step, sum_over, sums_over, rec_of, events_of, seat_step, seats_by, after_move, new_leaf}
use Rattle.pool_moves.specs.States.{sums, group_seen, scan_seen, seen_by, PoolSeen, Side, seen, PoolState}
use Rattle.pool_moves.proofs.Lists.{either}

abbrev with_leaves : PoolSeen → List LeafSeen → PoolSeen
with_leaves s leaves = record s { leaves = leaves }

any_seat : (seats : List Seat) → AllByRecursion (λ seat. Unit {0}) seats
any_seat [] = tt
any_seat (seat ∷ seats) = (tt, any_seat seats)

-- What is seen at the seats behind a move is the move's step, by whether a group is frozen before it and behind it (f and g)
-- and a scan runs before it (r): from what is so of each seat.
module _ (v : Move) (t : Side) (f r g : Bool) where
  abbrev before : Seat → LeafSeen
  before seat = leaf_seen f (told t.pool) seat

  abbrev behind : Seat → LeafSeen
  behind seat = leaf_seen g (told (pool_after (events_of v t.pool) t.pool)) (seat_step v t.pool seat)

  abbrev on_leaf : LeafSeen → LeafSeen
  on_leaf leaf = leaf_step v t.pool.highest (group_seen f t.pool.group).first (scan_seen r t.pool.scan) leaf

  abbrev IsStepped : Seat → Type 0
  IsStepped seat = behind seat ≡ on_leaf (before seat)

  abbrev AreStepped : List Seat → Type 0
  AreStepped seats = map (leaf_seen g (told (pool_after (events_of v t.pool) t.pool)))
      (map (seat_step v t.pool) seats) ≡ map on_leaf (map before seats)

  each_seat : (Fits : Seat → Type 0) → ((seat : Seat) → Fits seat → IsStepped seat) → (seats : List Seat)
      → AllByRecursion Fits seats → AreStepped seats
  each_seat Fits one [] all = refl
  each_seat Fits one (seat ∷ seats) all =
      ap (λ x. x ∷ map (leaf_seen g (told (pool_after (events_of v t.pool) t.pool))) (map (seat_step v t.pool) seats))
      (one seat all.0) ∙ ap (λ l. on_leaf (before seat) ∷ l) (each_seat Fits one seats all.1)

  by_seats : (Fits : Seat → Type 0)
      → ((d : ℕ) (found : Bool) (own : OwnLeaf) → Fits (At d found own) → IsStepped (At d found own))
      → ((leaf : LeafSeen) → Fits (Adrift leaf) → IsStepped (Adrift leaf))
      → AllByRecursion Fits t.seats → AreStepped t.seats
  by_seats Fits at adrift all = each_seat Fits one t.seats all
    where
      one : (seat : Seat) → Fits seat → IsStepped seat
      one (At d found own) fits = at d found own fits
      one (Adrift leaf) fits = adrift leaf fits

  by_any : ((d : ℕ) (found : Bool) (own : OwnLeaf) → IsStepped (At d found own))
      → ((leaf : LeafSeen) → IsStepped (Adrift leaf)) → AreStepped t.seats
  by_any at adrift = by_seats (λ seat. Unit {0}) (λ d found own fits. at d found own) (λ leaf fits. adrift leaf)
      (any_seat t.seats)

  -- by whether the run has found the leaf
  by_found : (which : ℕ → Bool) → ((d : ℕ) (own : OwnLeaf) → IsStepped (At d true own))
      → ((d : ℕ) (own : OwnLeaf) → which d ≡ false → IsStepped (At d false own))
      → ((leaf : LeafSeen) → IsStepped (Adrift leaf)) → AllByRecursion (IsOfFound which) t.seats → AreStepped t.seats
  by_found which up down adrift = by_seats (IsOfFound which) (λ d found own. either
      (λ x. IsOfFound which (At d x own) → IsStepped (At d x own)) (λ fits. up d own) (λ fits. down d own (fits refl))
      found) (λ leaf fits. adrift leaf)

burnt : (begun : Bool) (cells : Cells) (pinned : List Cells) → map sums (cond begun (cells ∷ pinned) pinned) ≡ cond begun (sums cells ∷ map sums pinned) (map sums pinned)
burnt true cells pinned = refl
burnt false cells pinned = refl

pub laid_sum : (cell old : Option Cell) → sum_of (cell_over cell old) ≡ sum_over cell (sum_of old)
laid_sum (Some cell) old = refl
laid_sum None old = refl

laid_sums : (new old : Cells) → sums (laid_over new old) ≡ sums_over new (sums old)
laid_sums new old = fun_ext (λ k. laid_sum (new k) (old k))

-- a leaf is found where the history has it
abbrev IsOneAt : (guid : ℕ → Guid) → Guid → (e : ℕ) → Seat → Type 0
IsOneAt guid m e (At d found own) = ((guid d).0 == m.0) ≡ true → d ≡ e
IsOneAt guid m e (Adrift leaf) = Unit {0}

-- where the history has the leaf of this number
one_at : (t : Side) (m : Guid) (d : ℕ) → t.pool.guid d ≡ m → (seats : List Seat)
    → AllByRecursion (IsOwnNumber t.pool.guid d) seats → AllByRecursion (IsOneAt t.pool.guid m d) seats
one_at t m d is [] all = tt
one_at t m d is (At e found own ∷ seats) all = ((λ same. of same all.0), one_at t m d is seats all.1)
  where
    of : ((t.pool.guid e).0 == m.0) ≡ true → ((d == e) ≡ true) ⊎ (((t.pool.guid e).0 == (t.pool.guid d).0) ≡ false) → e
        ≡ d
    of same (inl here) = sym (same_device d e here)
    of same (inr other) = absurd
        (let no : ((t.pool.guid e).0 == m.0) ≡ false = subst (λ n. ((t.pool.guid e).0 == n.0) ≡ false) is other in cc)
one_at t m d is (Adrift leaf ∷ seats) all = (tt, one_at t m d is seats all.1)

-- A leaf comes into the list, or goes.
map_insert : (f : Seat → LeafSeen) (seats : List Seat) (i : ℕ) (seat : Seat) → map f (insert seats i seat) ≡ insert (map f seats) i (f seat)
map_insert f seats i seat = map-append f (take i seats) (seat ∷ drop i seats)
    ∙ (ap (λ l. l ++ f seat ∷ map f (drop i seats)) (sym (take-map f i seats)) ∙ ap (λ l. take i (map f seats) ++ f seat ∷ l) (sym (drop-map f i seats)))

map_remove : (f : Seat → LeafSeen) (seats : List Seat) (i : ℕ) → map f (remove seats i) ≡ remove (map f seats) i
map_remove f seats i = map-append f (take i seats) (drop (suc i) seats)
    ∙ (ap (λ l. l ++ map f (drop (suc i) seats)) (sym (take-map f i seats)) ∙ ap (λ l. take i (map f seats) ++ l) (sym (drop-map f (suc i) seats)))

-- the leaf that was brought in, and the others
others_stay : (f : Bool) (p : Pool) (d : ℕ) (m : Guid) (top : ℕ) (seats : List Seat) → AllByRecursion (IsElsewhere d) seats
    → map (leaf_seen f (told (after (Joins d m top) p))) seats ≡ map (leaf_seen f (told p)) seats
others_stay f p d m top [] all = refl
others_stay f p d m top (At e found own ∷ seats) all =
    ap (λ l. leaf_seen f (told (after (Joins d m top) p)) (At e found own) ∷ l) (others_stay f p d m top seats all.1)
    ∙ ap (λ t. record {
      guid = cond t m (p.guid e);
      dev = dev_if found e;
      own = own;
      top = cond t top (p.in_top e);
      owes = cond t (whole_log p.highest) (p.owes e);
      settled = cond t (whole_log p.highest) (p.settled e);
      on = cond f (cond t false (p.group.board e)) false;
    } ∷ map (leaf_seen f (told p)) seats) all.0
others_stay f p d m top (Adrift leaf ∷ seats) all = ap (λ l. leaf ∷ l) (others_stay f p d m top seats all.1)

new_comes : (f : Bool) (p : Pool) (d : ℕ) (m : Guid) (top : ℕ) (own : OwnLeaf)
    → leaf_seen f (told (after (Joins d m top) p)) (At d true own) ≡ new_leaf d m top p.highest own
new_comes f p d m top own = ap (λ t. New (cond t m (p.guid d)) (cond t top (p.in_top d)) (cond t (whole_log p.highest) (p.owes d)) (cond t (whole_log p.highest) (p.settled d))
    (cond f (cond t false (p.group.board d)) false)) here ∙ ap (λ on. New m top (whole_log p.highest) (whole_log p.highest) on) (off f)
  where
    New : Guid → ℕ → (ℕ → Bool) → (ℕ → Bool) → Bool → LeafSeen
    New guid top owes settled on = record { guid = guid; dev = Some d; own = own; top = top; owes = owes; settled = settled; on = on }

    here : (d == d) ≡ true
    here = grind (arith, nat_tests)

    off : (f : Bool) → cond f false false ≡ false
    off true = refl
    off false = refl

-- Each move that goes through the seats.
module _ (t : Side) where
  abbrev p : Pool
  p = t.pool

  abbrev f : Bool
  f = t.pool.group.frozen

  abbrev r : Bool
  r = t.pool.scan.running

  -- the leaf of a seat
  abbrev leaf_at : (frozen : Bool) (d : ℕ) (found : Bool) (own : OwnLeaf) → LeafSeen
  leaf_at frozen d found own = leaf_seen frozen (told t.pool) (At d found own)

  abbrev IsSeen : Move → (f r g q : Bool) → Type 0
  IsSeen v f r g q = seen_by g q (seats_by v t) (pool_after (events_of v t.pool) t.pool)
      ≡ step v (seen_by f r t.seats t.pool)

  freezes : (cells : Cells) (board : ℕ → Bool) → AllByRecursion (IsOfFound board) t.seats
      → IsSeen (Freeze cells board) f r true r
  freezes cells board fits = ap (with_leaves (step (Freeze cells board) (seen t)))
      (by_found (Freeze cells board) t f r true board (λ d own. refl)
      (λ d own off. ap (λ x. record (leaf_at f d false own) {
        own = joined_own false own;
        owes = log_grown (not x) (p.highest + 1) (p.highest + 1) (p.owes d);
        on = x;
      }) off) (λ leaf. refl) fits)

  draws : f ≡ true → IsSeen Draw f r f r
  draws is = subst (λ f. IsSeen Draw f r f r) (sym is) (ap (with_leaves (step Draw (seen_by true r t.seats p)))
      (by_any Draw t true r true (λ d found own. refl) (λ leaf. refl)))

  leaves_board : (d : ℕ) → f ≡ true → AllByRecursion (IsOfFound (λ e. d == e)) t.seats → IsSeen (Leave d) f r f r
  leaves_board d is fits = subst (λ f. IsSeen (Leave d) f r f r) (sym is)
      (ap (with_leaves (step (Leave d) (seen_by true r t.seats p)))
      (by_found (Leave d) t true r true (λ e. d == e) (λ e own. refl)
      (λ e own off. ap (λ x. record (leaf_at true e false own) {
        owes = log_grown x p.group.first p.highest (p.owes e);
        on = cond x false (p.group.board e);
      }) off) (λ leaf. refl) fits))

  widens : (m : Guid) (low high : ℕ) → AllByRecursion (IsSeated p.member) t.seats → IsSeen (Widen m low high) f r f r
  widens m low high fits = ap (with_leaves (seen t)) (by_seats (Widen m low high) t f r f (IsSeated p.member)
      (λ d found own is. ap (λ x. record (leaf_at f d found own) {
        owes = log_grown (x && ((p.guid d).0 == m.0)) low high (p.owes d);
      }) is) (λ leaf is. refl) fits)

  burns : f ≡ true → IsSeen Burn f r false r
  burns is = subst (λ f. IsSeen Burn f r false r) (sym is)
      (ap (with_leaves (seen_by false r (seats_by Burn t) (after Burns p)))
      (by_any Burn t true r false (λ d found own. refl) (λ leaf. refl))
      ∙ ap (λ pins. record (step Burn (seen_by true r t.seats p)) { pinned = pins })
      (burnt p.group.begun p.group.cells p.pinned))

  commits : (draft : Draft) → f ≡ true → AllByRecursion (IsDrafted p draft) t.seats → IsSeen (Commits draft) f r false r
  commits draft is fits = subst (λ f. IsSeen (Commits draft) f r false r) (sym is)
      (ap (with_leaves (seen_by false r (seats_by (Commits draft) t) (after (Acks (rec_of p draft)) p)))
      (by_seats (Commits draft) t true r false (IsDrafted p draft)
      (λ d found own fits. ap (λ log. ended d found own (draft.tops (p.guid d)) log) fits.0
      ∙ ap (λ top. ended d found own top (p.owes d)) fits.1) (λ leaf fits. refl) fits)
      ∙ ap (λ c. record (step (Commits draft) (seen_by true r t.seats p)) { committed = c })
      (laid_sums p.group.cells p.reads.cells))
    where
      ended : (d : ℕ) (found : Bool) (own : OwnLeaf) (top : ℕ) (log : ℕ → Bool) → LeafSeen
      ended d found own top log = record (leaf_at false d found own)
          { own = joined_own false own; top = top; settled = log }

  sets : (m : Guid) (own : OwnLeaf) → IsSeen (Sets m own) f r f r
  sets m own = ap (with_leaves (seen t)) (by_any (Sets m own) t f r f (λ d found was. either
      (λ x. leaf_at f d found (cond x own was) ≡ cond x (record (leaf_at f d found was) { own = own })
      (leaf_at f d found was)) refl refl ((p.guid d).0 == m.0)) (λ leaf. refl))

  finds : (m : Guid) (e : ℕ) → AllByRecursion (IsOneAt p.guid m e) t.seats → IsSeen (Finds m e) f r f r
  finds m e fits = ap (with_leaves (seen t)) (by_seats (Finds m e) t f r f (IsOneAt p.guid m e) (λ d found own. either
      (λ x. (x ≡ true → d ≡ e) → leaf_at f d (cond x true found) own
      ≡ cond x (record (leaf_at f d found own) { dev = Some e }) (leaf_at f d found own))
      (λ is. ap (λ y. record (leaf_at f d true own) { dev = Some y }) (is refl)) (λ is. refl) ((p.guid d).0 == m.0))
      (λ leaf fits. refl) fits)

  loses : (e : ℕ) → IsSeen (Lose e) f r f r
  loses e = ap (with_leaves (seen t)) (by_any (Lose e) t f r f (λ d found own. either
      (λ x. leaf_seen f (told p) (cond x (Adrift (leaf_at f d found own)) (At d found own))
      ≡ leaf_at f d found own) refl refl (e == d)) (λ leaf. refl))

  clears : (d : ℕ) → r ≡ true → AllByRecursion (IsOfFound (λ e. d == e)) t.seats → IsSeen (Clear d) f r f r
  clears d is fits = subst (λ r. IsSeen (Clear d) f r f r) (sym is)
      (ap (with_leaves (step (Clear d) (seen_by f true t.seats p))) (by_found (Clear d) t f true f (λ e. d == e)
      (λ e own. either (λ x. (x ≡ true → d ≡ e) → cleared e true own x
      ≡ cond x (leaf_cleared p.scan.hi (p.scan.scrub d) (leaf_at f e true own)) (leaf_at f e true own))
      (λ same. subst (λ x. scanned e own (scanned_log p.scan x (p.owes x)) (p.settled x)
      ≡ leaf_cleared p.scan.hi (p.scan.scrub x) (leaf_at f e true own)) (sym (same refl)) refl)
      (λ same. refl) (d == e) (same_device d e)) (λ e own off. ap (cleared e false own) off) (λ leaf. refl) fits))
    where
      scanned : (e : ℕ) (own : OwnLeaf) (owes settled : ℕ → Bool) → LeafSeen
      scanned e own owes settled = record (leaf_at f e true own) { owes = owes; settled = kept_in owes settled }

      cleared : (e : ℕ) (found : Bool) (own : OwnLeaf) → Bool → LeafSeen
      cleared e found own x = record (leaf_at f e found own) {
        owes = cond x (scanned_log p.scan d (p.owes d)) (p.owes e);
        settled = cond x (kept_in (scanned_log p.scan d (p.owes d)) (p.settled d)) (p.settled e);
      }

  comes : (i d : ℕ) (m : Guid) (top : ℕ) (own : OwnLeaf) → MayCome t d m → IsSeen (Comes i d m top own) f r f r
  comes i d m top own may = subst (λ r. IsSeen (Comes i d m top own) f r f r) (sym may.at_rest)
      (ap (with_leaves (seen_by f false t.seats p))
      (map_insert (leaf_seen f (told (after (Joins d m top) p))) t.seats i (At d true own)
      ∙ (ap (λ l. insert l i (leaf_seen f (told (after (Joins d m top) p)) (At d true own)))
      (others_stay f p d m top t.seats may.elsewhere)
      ∙ ap (λ leaf. insert (map (leaf_seen f (told p)) t.seats) i leaf) (new_comes f p d m top own))))

  returns : (i : ℕ) (seat : Seat) (leaf : LeafSeen) → MayReturn t seat leaf → IsSeen (Returns i seat leaf) f r f r
  returns i seat leaf may = ap (with_leaves (seen t)) (map_insert (leaf_seen f (told p)) t.seats i seat
      ∙ ap (λ l. insert (map (leaf_seen f (told p)) t.seats) i l) (sym may.leaf_is))

-- The law of all moves.
pub seen_step : (c : Codec) (v : Move) (s : PoolState) (t : Side) → Kept c s t → Admits t v → seen (after_move v t) ≡ step v (seen t)
seen_step c (Makes noted) s t kept ok = refl
seen_step c (Puts a block) s t kept ok = refl
seen_step c (Freeze cells board) s t kept ok = freezes t cells board ok.0
seen_step c (Wrote_key k) s t kept ok = subst (λ f. IsSeen t (Wrote_key k) f (r t) f (r t)) (sym ok) refl
seen_step c Flushed_all s t kept ok = subst (λ f. IsSeen t Flushed_all f (r t) f (r t)) (sym ok) refl
seen_step c Draw s t kept ok = draws t ok
seen_step c (Leave d) s t kept ok = leaves_board t d ok.0 ok.1
seen_step c (Widen m low high) s t kept ok = widens t m low high kept.seated
seen_step c Burn s t kept ok = burns t ok
seen_step c (Starts draft) s t kept ok = subst (λ f. IsSeen t (Starts draft) f (r t) f (r t)) (sym ok.0) refl
seen_step c (Commits draft) s t kept ok = commits t draft ok.0 ok.1
seen_step c (Sets m own) s t kept ok = sets t m own
seen_step c (Finds m d) s t kept ok = finds t m d (one_at t m d ok.1 t.seats (kept.numbered d ok.0))
seen_step c (Lose d) s t kept ok = loses t d
seen_step c (Comes i d m top own) s t kept ok = comes t i d m top own ok
seen_step c (Goes i) s t kept ok = ap (with_leaves (seen t))
    (map_remove (leaf_seen (f t) (told t.pool)) t.seats i)
seen_step c (Returns i seat leaf) s t kept ok = returns t i seat leaf ok
seen_step c (Pass k birth which) s t kept ok = subst (λ r. IsSeen t (Pass k birth which) (f t) r (f t) r) (sym ok) refl
seen_step c (Drop d) s t kept ok = subst (λ r. IsSeen t (Drop d) (f t) r (f t) r) (sym ok) refl
seen_step c (Clear d) s t kept ok = clears t d ok.0 ok.1
seen_step c v s t kept ok = refl
