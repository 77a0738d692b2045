-- A state keeps, behind a move that the history allows and the state admits, what it kept before.
use Rattle.std.proofs.Common.{◌≡◌, inl, inr, ⊎_elim, ℕ, suc, zero, ◌+◌, ◌<◌, ◌≤◌, ◌==◌, max, Bool, true, false, cond, Option, Some, None, List, [], ◌∷◌, map, take, refl, sym, ap, ◌∙◌, subst, arith}
use Rattle.std.specs.List.{AllByRecursion, insert, remove}
use Rattle.std.proofs.lemmas.Bool.{cond_both}
use Rattle.std.proofs.lemmas.Bool.Decides.{nat_tests}
use Rattle.mp_base.specs.declared.number.Guid.{Guid}
use Rattle.txg_history.specs.Groups.{at_device}
use Rattle.txg_history.specs.Moves.{Mays}
use Rattle.txg_history.specs.Pages.{Codec}
use Rattle.txg_history.specs.Pools.{Pool, other_than}
use Rattle.txg_history.specs.Records.{Rec, Cell, block_of, block_in, cell_over, key}
use Rattle.txg_history.proofs.Logging.{by_bool, same_device, true_not_false, not_true, at_here, at_away}
use Rattle.txg_history.proofs.Surviving.{history_survives}
use Rattle.pool_moves.specs.Keeping.{IsElsewhere, AreSeatsApart, IsAway, IsSeated, IsOwnNumber, IsFoundAt, HasFound, IsUnder, HasUnder, IsDrafted, over, beneath, HasNumberBelow, KnowsBelow, AreNumbered, KnowsJust, Kept, IsOfFound, IsNotFoundAt, HasOtherNumber, MayCome, Admits, Walks}
use Rattle.pool_moves.specs.Leaves.{OwnLeaf, LeafSeen, Seat, At, Adrift, dev_if, told, leaf_seen}
use Rattle.pool_moves.specs.Moves.{Draft, Move, Makes, Puts, Freeze, Wrote_key, Flushed_all, Leave, Burn, Starts, Copies, Copied, Commits, Sets, Finds, Lose, Comes, Goes, Returns, Scan_from, Pass, Drop, Clear, Rest, Scrubs, Shapes, on_dev, leaf_cleared, leaf_step, step, burned, rec_of, state_step, steps, events_of, seat_step, seats_by, after_move, after_moves}
use Rattle.pool_moves.specs.States.{group_seen, ScanSeen, scan_seen, PoolSeen, Side, PoolState}
use Rattle.pool_moves.proofs.Lists.{either, AnyOf, each, of_both, all_map, all_insert, all_remove, one_map, one_each, one_insert, one_new, none_of}
use Rattle.pool_moves.proofs.Seeing.{seen_step}
use Rattle.pool_moves.proofs.Tests.{here, other_back, below_other}

-- A leaf's number and its top stay.
abbrev SameLeaf : LeafSeen → LeafSeen → Type 0
SameLeaf a b = (a.guid ≡ b.guid) × (a.top ≡ b.top)

pub leaf_stays : (v : Move) (number first : ℕ) (scan : ScanSeen) (leaf : LeafSeen) → SameLeaf (leaf_step v number first scan leaf) leaf
leaf_stays (Sets m own) number first scan leaf =
    either (λ t. SameLeaf (cond t (record leaf { own = own }) leaf) leaf) (refl, refl) (refl, refl) (leaf.guid.0 == m.0)
leaf_stays (Finds m d) number first scan leaf =
    either (λ t. SameLeaf (cond t (record leaf { dev = Some d }) leaf) leaf) (refl, refl) (refl, refl)
    (leaf.guid.0 == m.0)
leaf_stays (Clear d) number first scan leaf = either (λ t. SameLeaf (cond t (leaf_cleared scan.hi (scan.scrub d) leaf) leaf) leaf)
    (refl, refl) (refl, refl) (on_dev (λ e. d == e) leaf.dev)
leaf_stays v number first scan leaf = (refl, refl)

-- What is so of a seat, by where it is.
pub seat_cases : (Q : Seat → Type 0) → ((d : ℕ) (found : Bool) (own : OwnLeaf) → Q (At d found own))
    → ((leaf : LeafSeen) → Q (Adrift leaf)) → (seat : Seat) → Q seat
seat_cases Q at adrift (At d found own) = at d found own
seat_cases Q at adrift (Adrift leaf) = adrift leaf

-- A move that brings no seat and takes none takes each seat a step.
abbrev pub IsStill : Move → Type 0
IsStill (Comes i d m top own) = ⊥
IsStill (Goes i) = ⊥
IsStill (Returns i seat leaf) = ⊥
IsStill v = Unit {0}

same_map : {X : Type 0} (f : X → X) → ((x : X) → f x ≡ x) → (xs : List X) → xs ≡ map f xs
same_map f same [] = refl
same_map f same (x ∷ xs) = ap (λ y. y ∷ xs) (sym (same x)) ∙ ap (λ ys. f x ∷ ys) (same_map f same xs)

stay : (v : Move) (t : Side)
    → ((d : ℕ) (found : Bool) (own : OwnLeaf) → seat_step v t.pool (At d found own) ≡ At d found own)
    → ((leaf : LeafSeen) → seat_step v t.pool (Adrift leaf) ≡ Adrift leaf) → t.seats ≡ map (seat_step v t.pool) t.seats
stay v t at adrift = same_map (seat_step v t.pool) (seat_cases (λ seat. seat_step v t.pool seat ≡ seat) at adrift)
    t.seats

still_seats : (v : Move) (t : Side) → IsStill v → seats_by v t ≡ map (seat_step v t.pool) t.seats
still_seats (Makes noted) t is = stay (Makes noted) t (λ d found own. refl) (λ leaf. refl)
still_seats (Puts a block) t is = stay (Puts a block) t (λ d found own. refl) (λ leaf. refl)
still_seats (Wrote_key k) t is = stay (Wrote_key k) t (λ d found own. refl) (λ leaf. refl)
still_seats Flushed_all t is = stay Flushed_all t (λ d found own. refl) (λ leaf. refl)
still_seats (Starts draft) t is = stay (Starts draft) t (λ d found own. refl) (λ leaf. refl)
still_seats (Copies draft d) t is = stay (Copies draft d) t (λ d found own. refl) (λ leaf. refl)
still_seats (Copied draft d) t is = stay (Copied draft d) t (λ d found own. refl) (λ leaf. refl)
still_seats (Scan_from hi eligible) t is = stay (Scan_from hi eligible) t (λ d found own. refl) (λ leaf. refl)
still_seats (Pass k birth which) t is = stay (Pass k birth which) t (λ d found own. refl) (λ leaf. refl)
still_seats (Drop d) t is = stay (Drop d) t (λ e found own. refl) (λ leaf. refl)
still_seats Rest t is = stay Rest t (λ d found own. refl) (λ leaf. refl)
still_seats Scrubs t is = stay Scrubs t (λ d found own. refl) (λ leaf. refl)
still_seats (Shapes top children) t is = stay (Shapes top children) t (λ d found own. refl) (λ leaf. refl)
still_seats (Comes i d m top own) t is = absurd is
still_seats (Goes i) t is = absurd is
still_seats (Returns i seat leaf) t is = absurd is
still_seats v t is = refl

-- so it takes each leaf one, in the state
pub leaves_still : (v : Move) (s : PoolSeen) → IsStill v
    → (step v s).leaves ≡ map (leaf_step v s.number s.group.first s.scan) s.leaves
leaves_still (Makes noted) s is = same_map (leaf_step (Makes noted) s.number s.group.first s.scan) (λ leaf. refl) s.leaves
leaves_still (Puts a b) s is = same_map (leaf_step (Puts a b) s.number s.group.first s.scan) (λ leaf. refl) s.leaves
leaves_still (Wrote_key k) s is = same_map (leaf_step (Wrote_key k) s.number s.group.first s.scan) (λ leaf. refl) s.leaves
leaves_still Flushed_all s is = same_map (leaf_step Flushed_all s.number s.group.first s.scan) (λ leaf. refl) s.leaves
leaves_still (Starts draft) s is = same_map (leaf_step (Starts draft) s.number s.group.first s.scan) (λ leaf. refl) s.leaves
leaves_still (Copies q d) s is = same_map (leaf_step (Copies q d) s.number s.group.first s.scan) (λ leaf. refl) s.leaves
leaves_still (Copied q d) s is = same_map (leaf_step (Copied q d) s.number s.group.first s.scan) (λ leaf. refl) s.leaves
leaves_still (Scan_from hi on) s is = same_map (leaf_step (Scan_from hi on) s.number s.group.first s.scan) (λ leaf. refl) s.leaves
leaves_still (Pass k b on) s is = same_map (leaf_step (Pass k b on) s.number s.group.first s.scan) (λ leaf. refl) s.leaves
leaves_still (Drop d) s is = same_map (leaf_step (Drop d) s.number s.group.first s.scan) (λ leaf. refl) s.leaves
leaves_still Rest s is = same_map (leaf_step Rest s.number s.group.first s.scan) (λ leaf. refl) s.leaves
leaves_still Scrubs s is = same_map (leaf_step Scrubs s.number s.group.first s.scan) (λ leaf. refl) s.leaves
leaves_still (Shapes top l) s is = same_map (leaf_step (Shapes top l) s.number s.group.first s.scan) (λ leaf. refl) s.leaves
leaves_still (Comes i d m top own) s is = absurd is
leaves_still (Goes i) s is = absurd is
leaves_still (Returns i seat leaf) s is = absurd is
leaves_still v s is = refl

-- what is so of each seat, and of one of them
module _ (v : Move) (t : Side) (is : IsStill v) (P Q : Seat → Type 0)
    (at : (d : ℕ) (found : Bool) (own : OwnLeaf) → P (At d found own) → Q (seat_step v t.pool (At d found own)))
    (adrift : (leaf : LeafSeen) → P (Adrift leaf) → Q (seat_step v t.pool (Adrift leaf))) where
  pub all_still : AllByRecursion P t.seats → AllByRecursion Q (seats_by v t)
  all_still all = subst (AllByRecursion Q) (sym (still_seats v t is))
      (all_map _ (seat_step v t.pool) (seat_cases (λ seat. P seat → Q (seat_step v t.pool seat)) at adrift) t.seats all)

  pub one_still : AnyOf P t.seats → AnyOf Q (seats_by v t)
  one_still has = subst (AnyOf Q) (sym (still_seats v t is))
      (one_map _ (seat_step v t.pool) (seat_cases (λ seat. P seat → Q (seat_step v t.pool seat)) at adrift) t.seats has)

-- a seat whose device may be lost
pub lose_step : (Q : Seat → Type 0) (p : Pool) (e d : ℕ) (found : Bool) (own : OwnLeaf)
    → ((e == d) ≡ true → Q (Adrift (leaf_seen p.group.frozen (told p) (At d found own))))
    → ((e == d) ≡ false → Q (At d found own)) → Q (seat_step (Lose e) p (At d found own))
lose_step Q p e d found own lost there = cond_both (e == d) _ _ Q lost there

-- Seats on devices of their own.
pub elsewhere_step : (d : ℕ) (v : Move) (p : Pool) (seat : Seat) → IsElsewhere d seat
    → IsElsewhere d (seat_step v p seat)
elsewhere_step d (Lose e) p (At x found own) off = lose_step (IsElsewhere d) p e x found own (λ lost. tt) (λ there. off)
elsewhere_step d v p (Adrift leaf) off = tt
elsewhere_step d v p (At x found own) off = off

pub elsewhere_still : (d : ℕ) (v : Move) (t : Side) → IsStill v → AllByRecursion (IsElsewhere d) t.seats
    → AllByRecursion (IsElsewhere d) (seats_by v t)
elsewhere_still d v t is all = subst (AllByRecursion (IsElsewhere d)) (sym (still_seats v t is))
    (all_map _ (seat_step v t.pool) (elsewhere_step d v t.pool) t.seats all)

apart_map : (v : Move) (p : Pool) (seats : List Seat) → AreSeatsApart seats → AreSeatsApart (map (seat_step v p) seats)
apart_map v p [] apart = tt
apart_map v p (Adrift leaf ∷ seats) apart = apart_map v p seats apart
apart_map v p (At d found own ∷ seats) apart =
    first v (all_map _ (seat_step v p) (elsewhere_step d v p) seats apart.0, apart_map v p seats apart.1)
  where
    first : (v : Move) → AllByRecursion (IsElsewhere d) (map (seat_step v p) seats)
        × AreSeatsApart (map (seat_step v p) seats)
        → AreSeatsApart (seat_step v p (At d found own) ∷ map (seat_step v p) seats)
    first (Lose e) both = lose_step (λ seat. AreSeatsApart (seat ∷ map (seat_step (Lose e) p) seats)) p e d found own
        (λ lost. both.1) (λ there. both)
    first v both = both

apart_insert : (seats : List Seat) (i : ℕ) (seat : Seat) → AreSeatsApart (seat ∷ seats) → AreSeatsApart (insert seats i seat)
apart_insert seats zero seat apart = apart
apart_insert [] (suc i) seat apart = apart
apart_insert (At d found own ∷ seats) (suc i) (At e was is) apart = (
  all_insert (IsElsewhere d) seats i (At e was is) (other_back e d apart.0.0) apart.1.0,
  apart_insert seats i (At e was is) (apart.0.1, apart.1.1),
)
apart_insert (At d found own ∷ seats) (suc i) (Adrift leaf) apart = (all_insert (IsElsewhere d) seats i (Adrift leaf) tt apart.0, apart_insert seats i (Adrift leaf) apart.1)
apart_insert (Adrift leaf ∷ seats) (suc i) (At e was is) apart = apart_insert seats i (At e was is) (apart.0.1, apart.1)
apart_insert (Adrift leaf ∷ seats) (suc i) (Adrift other) apart = apart_insert seats i (Adrift other) apart

apart_remove : (seats : List Seat) (i : ℕ) → AreSeatsApart seats → AreSeatsApart (remove seats i)
apart_remove [] zero apart = tt
apart_remove [] (suc i) apart = tt
apart_remove (At d found own ∷ seats) zero apart = apart.1
apart_remove (Adrift leaf ∷ seats) zero apart = apart
apart_remove (At d found own ∷ seats) (suc i) apart = (all_remove (IsElsewhere d) seats i apart.0, apart_remove seats i apart.1)
apart_remove (Adrift leaf ∷ seats) (suc i) apart = apart_remove seats i apart

apart_kept : (v : Move) (t : Side) → Admits t v → AreSeatsApart t.seats → AreSeatsApart (seats_by v t)
apart_kept (Comes i d m top own) t ok apart = apart_insert t.seats i (At d true own) (ok.elsewhere, apart)
apart_kept (Goes i) t ok apart = apart_remove t.seats i apart
apart_kept (Returns i seat leaf) t ok apart = apart_insert t.seats i seat ok.apart
apart_kept v t ok apart = subst AreSeatsApart (sym (still_seats v t tt)) (apart_map v t.pool t.seats apart)

-- Each seat's device is a member.
-- the others are members still where a leaf comes in
come_seated : (p : Pool) (d : ℕ) (m : Guid) (seats : List Seat) → AllByRecursion (IsElsewhere d) seats → AllByRecursion (HasOtherNumber p.guid m) seats → AllByRecursion (IsSeated p.member) seats
    → AllByRecursion (IsSeated (at_device d true (other_than m p.guid p.member))) seats
come_seated p d m [] off others all = tt
come_seated p d m (At e found own ∷ seats) off others all =
    (ap (λ t. cond t true (other_than m p.guid p.member e)) off.0 ∙ (ap (λ t. cond t false (p.member e)) others.0 ∙ all.0), come_seated p d m seats off.1 others.1 all.1)
come_seated p d m (Adrift leaf ∷ seats) off others all = (tt, come_seated p d m seats off.1 others.1 all.1)

seated_kept : (v : Move) (t : Side) → Admits t v → AllByRecursion (IsSeated t.pool.member) t.seats
    → AllByRecursion (IsSeated (after_move v t).pool.member) (seats_by v t)
seated_kept (Lose e) t ok all =
    all_still (Lose e) t tt (IsSeated t.pool.member) (IsSeated (at_device e false t.pool.member))
    (λ d found own is. lose_step (IsSeated (at_device e false t.pool.member)) t.pool e d found own (λ lost. tt)
    (λ away. at_away e d false t.pool.member away ∙ is)) (λ leaf is. tt) all
seated_kept (Comes i d m top own) t ok all = all_insert _ t.seats i (At d true own)
    (at_here d d true (other_than m t.pool.guid t.pool.member) (here d))
    (come_seated t.pool d m t.seats ok.elsewhere ok.others all)
seated_kept (Goes i) t ok all = all_remove _ t.seats i all
seated_kept (Returns i seat leaf) t ok all = all_insert _ t.seats i seat ok.seated all
seated_kept v t ok all =
    all_still v t tt (IsSeated t.pool.member) (IsSeated (after_move v t).pool.member) (λ d found own is. is)
    (λ leaf is. tt) all

-- A leaf that is at no device of the history has none in this run.
abbrev IsNotNumber : Guid → Seat → Type 0
IsNotNumber m (At d found own) = Unit {0}
IsNotNumber m (Adrift leaf) = (leaf.guid.0 == m.0) ≡ false

not_number : (guid : ℕ → Guid) (m : Guid) (d : ℕ) → guid d ≡ m → (seat : Seat) → IsOwnNumber guid d seat → IsNotNumber m seat
not_number guid m d is (At e found own) other = tt
not_number guid m d is (Adrift leaf) other = subst (λ n. (leaf.guid.0 == n.0) ≡ false) is other

-- a device at which no leaf was found is on no board
off_board : (t : Side) (d : ℕ) → (t.pool.group.frozen ≡ true → t.pool.group.board d ≡ true → HasFound d t.seats)
    → AllByRecursion (IsNotFoundAt d) t.seats → cond t.pool.group.frozen (t.pool.group.board d) false ≡ false
off_board t d boarded none = by_bool t.pool.group.frozen (λ f. ap (λ x. cond x (t.pool.group.board d) false) f
    ∙ not_true (t.pool.group.board d) (λ on. none_of never t.seats none (boarded f on)))
    (λ f. ap (λ x. cond x (t.pool.group.board d) false) f)
  where
    never : (seat : Seat) → IsNotFoundAt d seat → IsFoundAt d seat → ⊥
    never (At e found own) none is = true_not_false found is.1 (none is.0)
    never (Adrift leaf) none is = is

lose_away : (d : ℕ) (t : Side)
    → (t.pool.member d ≡ true → cond t.pool.group.frozen (t.pool.group.board d) false ≡ false)
    → (seat : Seat) → (IsAway seat × IsNotFoundAt d seat) × IsSeated t.pool.member seat
    → IsAway (seat_step (Lose d) t.pool seat)
lose_away d t off (At e found own) is = lose_step IsAway t.pool d e found own (λ lost. (
  ap (λ f. dev_if f e) (is.0.1 lost),
  subst (λ n. t.pool.member n ≡ true → cond t.pool.group.frozen (t.pool.group.board n) false ≡ false)
      (same_device d e lost) off is.1,
)) (λ there. tt)
lose_away d t off (Adrift leaf) is = is.0.0

-- of a leaf at no device, what a move leaves
away_leaf : (v : Move) (p : Pool) (leaf : LeafSeen) → IsAway (Adrift leaf) → ((m : Guid) (d : ℕ) → v ≡ Finds m d → ⊥)
    → IsAway (seat_step v p (Adrift leaf))
away_leaf (Sets m own) p leaf is never =
    either (λ t. IsAway (Adrift (cond t (record leaf { own = own }) leaf))) is is (leaf.guid.0 == m.0)
away_leaf (Clear d) p leaf is never =
    either (λ t. IsAway (Adrift (cond t (leaf_cleared p.scan.hi (p.scan.scrub d) leaf) leaf))) is is (on_dev (λ e. d == e) leaf.dev)
away_leaf (Finds m d) p leaf is never = absurd (never m d refl)
away_leaf (Freeze cells board) p leaf is never = (is.0, ap (on_dev board) is.0)
away_leaf (Leave d) p leaf is never = (is.0, ap (λ x. cond (on_dev (λ e. d == e) x) false leaf.on) is.0 ∙ is.1)
away_leaf Burn p leaf is never = (is.0, refl)
away_leaf (Commits draft) p leaf is never = (is.0, refl)
away_leaf v p leaf is never = is

away_kept : (v : Move) (t : Side) → Admits t v → ((d : ℕ) → t.pool.member d ≡ true → AllByRecursion (IsOwnNumber t.pool.guid d) t.seats)
    → (t.pool.group.frozen ≡ true → (d : ℕ) → t.pool.member d ≡ true → t.pool.group.board d ≡ true → HasFound d t.seats)
    → AllByRecursion (IsSeated t.pool.member) t.seats → AllByRecursion IsAway t.seats
    → AllByRecursion IsAway (seats_by v t)
away_kept (Finds m d) t ok numbered boarded seated all =
    all_still (Finds m d) t tt (λ seat. IsAway seat × IsNotNumber m seat) IsAway (λ e found own is. tt)
    (λ leaf is. subst (λ x. IsAway (Adrift (cond x (record leaf { dev = Some d }) leaf))) (sym is.1) is.0)
    (of_both (λ seat a b. (a, not_number t.pool.guid m d ok.1 seat b)) t.seats all (numbered d ok.0))
away_kept (Lose d) t ok numbered boarded seated all =
    all_map _ (seat_step (Lose d) t.pool) (lose_away d t (λ is. off_board t d (λ f. boarded f d is) ok)) t.seats
    (of_both (λ seat a b. (a, b)) t.seats (of_both (λ seat a b. (a, b)) t.seats all ok) seated)
away_kept (Comes i d m top own) t ok numbered boarded seated all = all_insert _ t.seats i (At d true own) tt all
away_kept (Goes i) t ok numbered boarded seated all = all_remove _ t.seats i all
away_kept (Returns i seat leaf) t ok numbered boarded seated all = all_insert _ t.seats i seat ok.away all
away_kept v t ok numbered boarded seated all = all_still v t tt IsAway IsAway (λ d found own is. tt)
    (λ leaf is. away_leaf v t.pool leaf is (λ m d same. absurd (cc))) all

-- No leaf has another member's number: first, a device that isn't the one that is lost.
not_lost : (e d : ℕ) (member : ℕ → Bool) → at_device e false member d ≡ true → ((e == d) ≡ false) × (member d ≡ true)
not_lost e d member is = by_bool (e == d)
    (λ same. true_not_false (at_device e false member d) is (at_here e d false member same))
    (λ away. (away, sym (at_away e d false member away) ∙ is))

lose_number : (p : Pool) (e d : ℕ) → (e == d) ≡ false → (x : ℕ) (found : Bool) (own : OwnLeaf)
    → IsOwnNumber p.guid d (At x found own) → IsOwnNumber p.guid d (seat_step (Lose e) p (At x found own))
lose_number p e d off x found own is = lose_step (IsOwnNumber p.guid d) p e x found own
    (λ lost. ⊎_elim (λ one. absurd (let no : (e == d) ≡ true = grind (arith, nat_tests) in cc)) (λ other. other) is)
    (λ there. is)

-- the members that are left when a leaf comes in under a number
other_members : (m : Guid) (guid : ℕ → Guid) (member : ℕ → Bool) (d : ℕ) → other_than m guid member d ≡ true
    → (((guid d).0 == m.0) ≡ false) × (member d ≡ true)
other_members m guid member d is = by_bool ((guid d).0 == m.0)
    (λ same. true_not_false (other_than m guid member d) is (ap (λ t. cond t false (member d)) same))
    (λ other. (other, sym (ap (λ t. cond t false (member d)) other) ∙ is))

-- at the new leaf's device, and at each other
come_here : (p : Pool) (e d : ℕ) (m : Guid) → (e == d) ≡ true → (seats : List Seat) → AllByRecursion (IsElsewhere e) seats → AllByRecursion (HasOtherNumber p.guid m) seats
    → AllByRecursion (IsOwnNumber (at_device e m p.guid) d) seats
come_here p e d m is [] off others = tt
come_here p e d m is (At x found own ∷ seats) off others = (
  inr (ap (λ n. (n.0 == (at_device e m p.guid d).0)) (at_away e x m p.guid off.0)
      ∙ (ap (λ n. ((p.guid x).0 == n.0)) (at_here e d m p.guid is) ∙ others.0)),
  come_here p e d m is seats off.1 others.1,
)
come_here p e d m is (Adrift leaf ∷ seats) off others =
    (ap (λ n. (leaf.guid.0 == n.0)) (at_here e d m p.guid is) ∙ others.0, come_here p e d m is seats off.1 others.1)

come_away : (p : Pool) (e d : ℕ) (m : Guid) → (e == d) ≡ false → (seats : List Seat) → AllByRecursion (IsElsewhere e) seats → AllByRecursion (IsOwnNumber p.guid d) seats
    → AllByRecursion (IsOwnNumber (at_device e m p.guid) d) seats
come_away p e d m away [] off others = tt
come_away p e d m away (At x found own ∷ seats) off others = (
  ⊎_elim (λ same. inl same) (λ other. inr (ap (λ n. (n.0 == (at_device e m p.guid d).0)) (at_away e x m p.guid off.0)
      ∙ (ap (λ n. ((p.guid x).0 == n.0)) (at_away e d m p.guid away) ∙ other))) others.0,
  come_away p e d m away seats off.1 others.1,
)
come_away p e d m away (Adrift leaf ∷ seats) off others =
    (ap (λ n. (leaf.guid.0 == n.0)) (at_away e d m p.guid away) ∙ others.0, come_away p e d m away seats off.1 others.1)

come_numbers : (t : Side) (i e : ℕ) (m : Guid) (own : OwnLeaf) → MayCome t e m
    → ((d : ℕ) → t.pool.member d ≡ true → AllByRecursion (IsOwnNumber t.pool.guid d) t.seats)
    → (d : ℕ) → at_device e true (other_than m t.pool.guid t.pool.member) d ≡ true
    → AllByRecursion (IsOwnNumber (at_device e m t.pool.guid) d) (insert t.seats i (At e true own))
come_numbers t i e m own ok numbered d is = by_bool (e == d) (λ same. all_insert _ t.seats i (At e true own)
    (inl (let back : (d == e) ≡ true = grind (arith, nat_tests) in back))
    (come_here t.pool e d m same t.seats ok.elsewhere ok.others))
    (λ away. let was = other_members m t.pool.guid t.pool.member d
    (sym (at_away e d true (other_than m t.pool.guid t.pool.member) away) ∙ is) in
    all_insert _ t.seats i (At e true own)
    (inr (ap (λ n. (n.0 == (at_device e m t.pool.guid d).0)) (at_here e e m t.pool.guid (here e))
    ∙ (ap (λ n. (m.0 == n.0)) (at_away e d m t.pool.guid away) ∙ other_back (t.pool.guid d).0 m.0 was.0)))
    (come_away t.pool e d m away t.seats ok.elsewhere (numbered d was.1)))

numbered_kept : (v : Move) (t : Side) → Admits t v → ((d : ℕ) → t.pool.member d ≡ true → AllByRecursion (IsOwnNumber t.pool.guid d) t.seats)
    → (d : ℕ) → (after_move v t).pool.member d ≡ true → AllByRecursion (IsOwnNumber (after_move v t).pool.guid d) (seats_by v t)
numbered_kept (Lose e) t ok numbered d is = let was = not_lost e d t.pool.member is in
    all_still (Lose e) t tt (IsOwnNumber t.pool.guid d) (IsOwnNumber t.pool.guid d) (lose_number t.pool e d was.0)
    (λ leaf is. is) (numbered d was.1)
numbered_kept (Comes i e m top own) t ok numbered d is = come_numbers t i e m own ok numbered d is
numbered_kept (Goes i) t ok numbered d is = all_remove _ t.seats i (numbered d is)
numbered_kept (Returns i seat leaf) t ok numbered d is = all_insert _ t.seats i seat (ok.numbered d is) (numbered d is)
numbered_kept v t ok numbered d is =
    all_still v t tt (IsOwnNumber t.pool.guid d) (IsOwnNumber (after_move v t).pool.guid d) (λ e found own same. same)
    (λ leaf is. subst (λ n. (n.0 == (t.pool.guid d).0) ≡ false)
    (sym (leaf_stays v t.pool.highest t.pool.group.first (scan_seen true t.pool.scan) leaf).0) is) (numbered d is)

-- So it is with the number of any device.
pub others_still : (d : ℕ) (v : Move) (t : Side) → IsStill v
    → AllByRecursion (HasOtherNumber t.pool.guid (t.pool.guid d)) t.seats
    → AllByRecursion (HasOtherNumber (after_move v t).pool.guid ((after_move v t).pool.guid d)) (seats_by v t)
others_still d (Comes i e m top own) t is all = absurd is
others_still d (Goes i) t is all = absurd is
others_still d (Returns i seat leaf) t is all = absurd is
others_still d (Lose e) t is all = all_still (Lose e) t tt (HasOtherNumber t.pool.guid (t.pool.guid d))
    (HasOtherNumber t.pool.guid (t.pool.guid d)) (λ x found own is.
    lose_step (HasOtherNumber t.pool.guid (t.pool.guid d)) t.pool e x found own (λ lost. is) (λ there. is))
    (λ leaf is. is) all
others_still d v t is all = all_still v t tt (HasOtherNumber t.pool.guid (t.pool.guid d))
    (HasOtherNumber (after_move v t).pool.guid ((after_move v t).pool.guid d)) (λ x found own is. is)
    (λ leaf is. subst (λ n. (n.0 == (t.pool.guid d).0) ≡ false)
    (sym (leaf_stays v t.pool.highest t.pool.group.first (scan_seen true t.pool.scan) leaf).0) is) all

-- Members on the board are leaves that the run has found.
pub never_both : {A : Type 0} (t : Bool) → t ≡ false → t ≡ true → A
never_both t a b = absurd (cc)

lose_found : (p : Pool) (x d e : ℕ) (found : Bool) (own : OwnLeaf) → (x == d) ≡ false → IsFoundAt d (At e found own)
    → IsFoundAt d (seat_step (Lose x) p (At e found own))
lose_found p x d e found own off is = lose_step (IsFoundAt d) p x e found own
    (λ lost. let one : (d == e) ≡ true = is.0 in
    absurd (let no : (x == d) ≡ true = grind (arith, nat_tests) in cc)) (λ there. is)

come_found : (t : Side) (i e : ℕ) (m : Guid) (own : OwnLeaf) (d : ℕ) → (t.pool.member d ≡ true → t.pool.group.board d ≡ true → HasFound d t.seats)
    → at_device e true (other_than m t.pool.guid t.pool.member) d ≡ true → at_device e false t.pool.group.board d ≡ true
    → HasFound d (insert t.seats i (At e true own))
come_found t i e m own d boarded is on = let off = not_lost e d t.pool.group.board on in
    let was = other_members m t.pool.guid t.pool.member d
    (sym (at_away e d true (other_than m t.pool.guid t.pool.member) off.0) ∙ is) in
    one_insert _ t.seats i (At e true own) (boarded was.1 off.1)

-- the seats at a device that are found stay so
found_still : (v : Move) (t : Side) (d : ℕ) → IsStill v
    → ((e : ℕ) (found : Bool) (own : OwnLeaf) → IsFoundAt d (At e found own)
    → IsFoundAt d (seat_step v t.pool (At e found own))) → HasFound d t.seats → HasFound d (seats_by v t)
found_still v t d is at has = one_still v t is (IsFoundAt d) (IsFoundAt d) at (λ leaf is. absurd is) has

boarded_kept : (v : Move) (t : Side) → Admits t v
    → (t.pool.group.frozen ≡ true → (d : ℕ) → t.pool.member d ≡ true → t.pool.group.board d ≡ true → HasFound d t.seats)
    → (after_move v t).pool.group.frozen ≡ true → (d : ℕ) → (after_move v t).pool.member d ≡ true
    → (after_move v t).pool.group.board d ≡ true → HasFound d (seats_by v t)
boarded_kept (Freeze cells board) t ok boarded f d is on = found_still (Freeze cells board) t d tt
    (λ e found own there. there) (ok.1 d is on)
boarded_kept (Leave e) t ok boarded f d is on =
    found_still (Leave e) t d tt (λ x found own there. there) (boarded ok.0 d is (not_lost e d t.pool.group.board on).1)
boarded_kept Burn t ok boarded f d is on = never_both false refl f
boarded_kept (Commits draft) t ok boarded f d is on = never_both false refl f
boarded_kept (Finds m e) t ok boarded f d is on = found_still (Finds m e) t d tt
    (λ x found own there. (there.0, either (λ t. cond t true found ≡ true) refl there.1 ((t.pool.guid x).0 == m.0)))
    (boarded f d is on)
boarded_kept (Lose e) t ok boarded f d is on = let was = not_lost e d t.pool.member is in
    found_still (Lose e) t d tt (λ x found own there. lose_found t.pool e d x found own was.0 there)
    (boarded f d was.1 on)
boarded_kept (Comes i e m top own) t ok boarded f d is on = come_found t i e m own d (boarded f d) is on
boarded_kept (Goes i) t ok boarded f d is on = never_both t.pool.group.frozen ok.idle f
boarded_kept (Returns i seat leaf) t ok boarded f d is on = never_both t.pool.group.frozen ok.idle f
boarded_kept v t ok boarded f d is on = found_still v t d tt (λ e found own there. there) (boarded f d is on)

-- Where a member stands under a top, some leaf does.
under_still : (v : Move) (t : Side) (in_top : ℕ → ℕ) (top : ℕ) → IsStill v
    → ((d : ℕ) (found : Bool) (own : OwnLeaf) → t.pool.in_top d ≡ top
    → IsUnder in_top top (seat_step v t.pool (At d found own)))
    → HasUnder t.pool.in_top top t.seats → HasUnder in_top top (seats_by v t)
under_still v t in_top top is at has = one_still v t is (IsUnder t.pool.in_top top) (IsUnder in_top top) at
    (λ leaf is. (leaf_stays v t.pool.highest t.pool.group.first (scan_seen true t.pool.scan) leaf).1 ∙ is) has

-- behind a record that is acknowledged: each seat has its top
commit_under : (t : Side) (draft : Draft) (top : ℕ) → AllByRecursion (IsDrafted t.pool draft) t.seats
    → HasUnder t.pool.in_top top t.seats
    → HasUnder (λ d. draft.tops (t.pool.guid d)) top (map (seat_step (Commits draft) t.pool) t.seats)
commit_under t draft top all has = one_map _ (seat_step (Commits draft) t.pool) stands t.seats
    (one_each drafted t.seats all has)
  where
    Stands : Seat → Type 0
    Stands seat = IsUnder (λ d. draft.tops (t.pool.guid d)) top seat

    drafted : (seat : Seat) → IsDrafted t.pool draft seat → IsUnder t.pool.in_top top seat → Stands seat
    drafted (At d found own) is under = is.1 ∙ under
    drafted (Adrift leaf) is under = under

    stands : (seat : Seat) → Stands seat → Stands (seat_step (Commits draft) t.pool seat)
    stands (At d found own) is = is
    stands (Adrift leaf) is = is

come_under : (p : Pool) (d top new : ℕ) (seats : List Seat) → AllByRecursion (IsElsewhere d) seats
    → HasUnder p.in_top top seats → HasUnder (at_device d new p.in_top) top seats
come_under p d top new seats off has = one_each one seats off has
  where
    one : (seat : Seat) → IsElsewhere d seat → IsUnder p.in_top top seat → IsUnder (at_device d new p.in_top) top seat
    one (At e found own) off is = at_away d e new p.in_top off ∙ is
    one (Adrift leaf) off is = is

come_topped : (t : Side) (i e : ℕ) (m : Guid) (top : ℕ) (own : OwnLeaf) → MayCome t e m
    → ((d : ℕ) → t.pool.member d ≡ true → 1 ≤ t.pool.in_top d → HasUnder t.pool.in_top (t.pool.in_top d) t.seats)
    → (d : ℕ) → at_device e true (other_than m t.pool.guid t.pool.member) d ≡ true → 1 ≤ at_device e top t.pool.in_top d
    → HasUnder (at_device e top t.pool.in_top) (at_device e top t.pool.in_top d) (insert t.seats i (At e true own))
come_topped t i e m top own ok topped d is one = by (e == d) refl is one
  where
    In : ℕ → ℕ
    In = at_device e top t.pool.in_top

    by : (x : Bool) → (e == d) ≡ x → cond x true (other_than m t.pool.guid t.pool.member d) ≡ true → 1 ≤ cond x top (t.pool.in_top d)
        → HasUnder In (cond x top (t.pool.in_top d)) (insert t.seats i (At e true own))
    by true same is one = one_new _ t.seats i (At e true own) (at_here e e top t.pool.in_top (here e))
    by false away is one = one_insert _ t.seats i (At e true own)
        (come_under t.pool e (t.pool.in_top d) top t.seats ok.elsewhere (topped d (other_members m t.pool.guid t.pool.member d is).1 one))

topped_kept : (c : Codec) (v : Move) (s : PoolState) (t : Side) → Mays c t.pool (events_of v t.pool) → Admits t v → Kept c s t
    → (d : ℕ) → (after_move v t).pool.member d ≡ true → 1 ≤ (after_move v t).pool.in_top d
    → HasUnder (after_move v t).pool.in_top ((after_move v t).pool.in_top d) (seats_by v t)
topped_kept c (Commits draft) s t may ok kept d is one = ⊎_elim (λ same. subst
    (λ top. HasUnder (λ d. draft.tops (t.pool.guid d)) top (map (seat_step (Commits draft) t.pool) t.seats)) (sym same)
    (commit_under t draft (t.pool.in_top d) ok.1 (kept.topped d is (subst (λ n. 1 ≤ n) same one))))
    (λ none. absurd (omega (arith, one, none)))
    (kept.survives.placed.newest ok.0 may.0.begun (rec_of t.pool draft) may.0.rest d may.0.newest is)
topped_kept c (Lose e) s t may ok kept d is one = under_still (Lose e) t t.pool.in_top (t.pool.in_top d) tt
    (λ x found own under.
    lose_step (IsUnder t.pool.in_top (t.pool.in_top d)) t.pool e x found own (λ lost. under) (λ there. under))
    (kept.topped d (not_lost e d t.pool.member is).1 one)
topped_kept c (Comes i e m top own) s t may ok kept d is one = come_topped t i e m top own ok kept.topped d is one
topped_kept c (Goes i) s t may ok kept d is one = ok.topped d is one
topped_kept c (Returns i seat leaf) s t may ok kept d is one = one_insert _ t.seats i seat (kept.topped d is one)
topped_kept c v s t may ok kept d is one =
    under_still v t (after_move v t).pool.in_top (t.pool.in_top d) tt (λ e found own under. under)
    (kept.topped d is one)

-- What is of found leaves alone.
pub of_found_still : (which : ℕ → Bool) (v : Move) (t : Side) → IsStill v → ((d : ℕ) (found : Bool) (own : OwnLeaf)
    → IsOfFound which (At d found own) → IsOfFound which (seat_step v t.pool (At d found own)))
    → AllByRecursion (IsOfFound which) t.seats → AllByRecursion (IsOfFound which) (seats_by v t)
of_found_still which v t is at all = all_still v t is (IsOfFound which) (IsOfFound which) at (λ leaf is. tt) all

-- The next member number is above all others.
below_more : (guid : ℕ → Guid) (n more : ℕ) → n ≤ more → (seats : List Seat) → AllByRecursion (HasNumberBelow guid n) seats
    → AllByRecursion (HasNumberBelow guid more) seats
below_more guid n more up seats all = each
    (seat_cases (λ seat. HasNumberBelow guid n seat → HasNumberBelow guid more seat)
    (λ d found own low. omega (arith, low, up)) (λ leaf low. omega (arith, low, up))) seats all

numbers_more : (n more : ℕ) (guid : ℕ → Guid) (opened : Bool) (live : List Rec) (frozen begun : Bool) (seats : List Seat) → n ≤ more
    → AreNumbered n guid opened live frozen begun seats → AreNumbered more guid opened live frozen begun seats
numbers_more n more guid opened live frozen begun seats up are = record {
  below = below_more guid n more up seats are.below;
  known = λ on r is m low. are.known on r is m (omega (arith, low, up));
  newest = λ f b q rest is m low. are.newest f b q rest is m (omega (arith, low, up));
}

below_still : (v : Move) (t : Side) (n : ℕ) → IsStill v
    → ((d : ℕ) (found : Bool) (own : OwnLeaf) → (t.pool.guid d).0 < n
    → HasNumberBelow t.pool.guid n (seat_step v t.pool (At d found own)))
    → AllByRecursion (HasNumberBelow t.pool.guid n) t.seats → AllByRecursion (HasNumberBelow t.pool.guid n)
    (seats_by v t)
below_still v t n is at all = all_still v t is (HasNumberBelow t.pool.guid n) (HasNumberBelow t.pool.guid n) at
    (λ leaf is. subst (λ m. m.0 < n) (sym (leaf_stays v t.pool.highest t.pool.group.first (scan_seen true t.pool.scan) leaf).0) is)
    all

come_below : (p : Pool) (n e : ℕ) (m : Guid) (seats : List Seat) → AllByRecursion (IsElsewhere e) seats
    → AllByRecursion (HasNumberBelow p.guid n) seats → AllByRecursion (HasNumberBelow (at_device e m p.guid) n) seats
come_below p n e m seats off all = of_both one seats off all
  where
    one : (seat : Seat) → IsElsewhere e seat → HasNumberBelow p.guid n seat → HasNumberBelow (at_device e m p.guid) n
        seat
    one (At d found own) off is = subst (λ x. x.0 < n) (sym (at_away e d m p.guid off)) is
    one (Adrift leaf) off is = is

at_most : (a b : ℕ) → a ≤ max a b
at_most a b = grind (arith)

above_all : (a m : ℕ) → m < max a (m + 1)
above_all a m = grind (arith)

pub other_numbers : (guid : ℕ → Guid) (n : ℕ) (m : Guid) → n ≤ m.0 → (seats : List Seat) → AllByRecursion (HasNumberBelow guid n) seats
    → AllByRecursion (HasOtherNumber guid m) seats
other_numbers guid n m low seats all = each
    (seat_cases (λ seat. HasNumberBelow guid n seat → HasOtherNumber guid m seat)
    (λ d found own less. below_other (guid d).0 m.0 (omega (arith, less, low)))
    (λ leaf less. below_other leaf.guid.0 m.0 (omega (arith, less, low)))) seats all

draft_below : (p : Pool) (n : ℕ) (draft : Draft) (seats : List Seat) → KnowsJust p.guid seats draft → AllByRecursion (HasNumberBelow p.guid n) seats
    → KnowsBelow n (rec_of p draft)
draft_below p n draft seats just below m low = let known = just m (other_numbers p.guid n m low seats below) in
    record { no_top = known.0; all = known.1 }

first_same : (q r : Rec) (a b : List Rec) → q ∷ a ≡ r ∷ b → q ≡ r
first_same q r a b e = cc

returned_below : (t : Side) (n : ℕ) (seat : Seat) (leaf : LeafSeen) → leaf ≡ leaf_seen t.pool.group.frozen (told t.pool) seat
    → leaf.guid.0 < n → HasNumberBelow t.pool.guid n seat
returned_below t n (At d found own) leaf is low = subst (λ x. x.guid.0 < n) is low
returned_below t n (Adrift other) leaf is low = subst (λ x. x.guid.0 < n) is low

numbers_kept : (c : Codec) (v : Move) (s : PoolState) (t : Side) → Mays c t.pool (events_of v t.pool) → Admits t v → Kept c s t
    → AreNumbered (state_step v s).own.next_member (after_move v t).pool.guid (after_move v t).pool.opened (after_move v t).pool.live
    (after_move v t).pool.group.frozen (after_move v t).pool.group.begun (seats_by v t)
numbers_kept c (Freeze cells board) s t may ok kept = record {
  below = below_still (Freeze cells board) t s.own.next_member tt (λ d found own is. is) kept.numbers.below;
  known = kept.numbers.known;
  newest = λ f b. never_both false refl b;
}
numbers_kept c Burn s t may ok kept = record {
  below = below_still Burn t s.own.next_member tt (λ d found own is. is) kept.numbers.below;
  known = kept.numbers.known;
  newest = λ f. never_both false refl f;
}
numbers_kept c (Starts draft) s t may ok kept =
    let new = draft_below t.pool s.own.next_member draft t.seats ok.1 kept.numbers.below in record {
      below = kept.numbers.below;
      known = λ on r is. ⊎_elim (λ same. subst (KnowsBelow s.own.next_member) (sym same) new)
          (λ old. kept.numbers.known on r old) is;
      newest = λ f b q rest is. subst (KnowsBelow s.own.next_member)
          (first_same (rec_of t.pool draft) q t.pool.live rest is) new;
    }
numbers_kept c (Commits draft) s t may ok kept = record {
  below = below_still (Commits draft) t s.own.next_member tt (λ d found own is. is) kept.numbers.below;
  known = λ on r is. ⊎_elim (λ same. subst (KnowsBelow s.own.next_member) (sym same)
      (kept.numbers.newest ok.0 may.0.begun (rec_of t.pool draft) may.0.rest may.0.newest)) (λ never. absurd never) is;
  newest = λ f. never_both false refl f;
}
numbers_kept c (Lose e) s t may ok kept = record {
  below = below_still (Lose e) t s.own.next_member tt (λ d found own is.
      lose_step (HasNumberBelow t.pool.guid s.own.next_member) t.pool e d found own (λ lost. is) (λ there. is))
      kept.numbers.below;
  known = kept.numbers.known;
  newest = kept.numbers.newest;
}
numbers_kept c (Comes i e m top own) s t may ok kept =
    let next = max s.own.next_member (m.0 + 1) in
    let more = numbers_more s.own.next_member next t.pool.guid t.pool.opened t.pool.live t.pool.group.frozen
    t.pool.group.begun t.seats
    (at_most s.own.next_member (m.0 + 1)) kept.numbers in record {
      below = all_insert _ t.seats i (At e true own)
          (subst (λ x. x.0 < next) (sym (at_here e e m t.pool.guid (here e))) (above_all s.own.next_member m.0))
          (come_below t.pool next e m t.seats ok.elsewhere more.below);
      known = more.known;
      newest = more.newest;
    }
numbers_kept c (Goes i) s t may ok kept = record {
  below = all_remove _ t.seats i kept.numbers.below;
  known = kept.numbers.known;
  newest = kept.numbers.newest;
}
numbers_kept c (Returns i seat leaf) s t may ok kept =
    let next = max s.own.next_member (leaf.guid.0 + 1) in
    let more = numbers_more s.own.next_member next t.pool.guid t.pool.opened t.pool.live t.pool.group.frozen
    t.pool.group.begun t.seats
    (at_most s.own.next_member (leaf.guid.0 + 1)) kept.numbers in record {
      below = all_insert _ t.seats i seat
          (returned_below t next seat leaf ok.leaf_is (above_all s.own.next_member leaf.guid.0)) more.below;
      known = more.known;
      newest = more.newest;
    }
numbers_kept c v s t may ok kept = record {
  below = below_still v t s.own.next_member tt (λ d found own is. is) kept.numbers.below;
  known = kept.numbers.known;
  newest = kept.numbers.newest;
}

-- What a read answers.
put_over : (t : Bool) (block below was : List ℕ) (write : Option (List ℕ)) → was ≡ over write below → cond t block was ≡ over (cond t (Some block) write) below
put_over true block below was write is = refl
put_over false block below was write is = is

burn_over : (write : Option (List ℕ)) (cell old : Option Cell) (content : List ℕ) → block_of (cell_over cell old) ≡ content → over write content ≡ over (burned write cell) (block_of old)
burn_over (Some block) cell old content is = refl
burn_over None (Some cell) old content is = sym is
burn_over None None old content is = sym is

written_kept : (c : Codec) (v : Move) (s : PoolState) (t : Side) → Kept c s t → Admits t v
    → (a : ℕ) → (after_move v t).pool.written a ≡ over ((state_step v s).own.writes a) (beneath (after_move v t).pool a)
written_kept c (Puts x block) s t kept ok a = put_over (x == a) block (beneath t.pool a) (t.pool.written a) (s.own.writes a) (kept.written a)
written_kept c (Freeze cells board) s t kept ok a = refl
written_kept c Burn s t kept ok a =
    kept.written a ∙ (ap (λ f. over (s.own.writes a) (cond f (t.pool.group.content a) (block_in t.pool.reads.cells a))) ok
    ∙ (burn_over (s.own.writes a) (t.pool.group.cells (key 0 a)) (t.pool.reads.cells (key 0 a)) (t.pool.group.content a) (kept.survives.come_to.contents ok a)
    ∙ ap (λ cells. over (burned (s.own.writes a) (cells (key 0 a))) (block_in t.pool.reads.cells a)) (sym (ap (λ core. core.group.cells) kept.core ∙ ap (λ f. (group_seen f t.pool.group).cells) ok))))
written_kept c (Commits draft) s t kept ok a =
    kept.written a ∙ (ap (λ f. over (s.own.writes a) (cond f (t.pool.group.content a) (block_in t.pool.reads.cells a))) ok.0
    ∙ ap (over (s.own.writes a)) (sym (kept.survives.come_to.contents ok.0 a)))
written_kept c v s t kept ok a = kept.written a

-- The law of one move.
pub move_keeps : (c : Codec) (v : Move) (s : PoolState) (t : Side) → Mays c t.pool (events_of v t.pool) → Admits t v → Kept c s t → Kept c (state_step v s) (after_move v t)
move_keeps c v s t may ok kept = record {
  core = ap (step v) kept.core ∙ sym (seen_step c v s t kept ok);
  apart = apart_kept v t ok kept.apart;
  seated = seated_kept v t ok kept.seated;
  away = away_kept v t ok kept.numbered kept.boarded kept.seated kept.away;
  numbered = numbered_kept v t ok kept.numbered;
  boarded = boarded_kept v t ok kept.boarded;
  topped = topped_kept c v s t may ok kept;
  numbers = numbers_kept c v s t may ok kept;
  written = written_kept c v s t kept ok;
  survives = history_survives c (events_of v t.pool) t.pool kept.survives may;
}

-- So it is behind all of a walk, and behind each front of it.
pub walk_keeps : (c : Codec) (vs : List Move) (s : PoolState) (t : Side) → Walks c t vs → Kept c s t → Kept c (steps vs s) (after_moves vs t)
walk_keeps c [] s t walks kept = kept
walk_keeps c (v ∷ vs) s t walks kept = walk_keeps c vs (state_step v s) (after_move v t) walks.1 (move_keeps c v s t walks.0.0 walks.0.1 kept)

walk_front : (c : Codec) (vs : List Move) (i : ℕ) (t : Side) → Walks c t vs → Walks c t (take i vs)
walk_front c vs zero t walks = tt
walk_front c [] (suc i) t walks = tt
walk_front c (v ∷ vs) (suc i) t walks = (walks.0, walk_front c vs i (after_move v t) walks.1)

pub fronts_keep : (c : Codec) (vs : List Move) (s : PoolState) (t : Side) → Kept c s t → Walks c t vs → (i : ℕ) → Kept c (steps (take i vs) s) (after_moves (take i vs) t)
fronts_keep c vs s t kept walks i = walk_keeps c (take i vs) s t (walk_front c vs i t walks) kept
