-- A leaf may be taken out: the walk of `detach` from its row.
use Rattle.std.proofs.Common.{◌≡◌, ⊎_elim, inl, inr, ℕ, ◌≤◌, ◌==◌, Bool, true, false, Option, Some, None, List, [], ◌∷◌, ◌++◌, refl, sym, ap, ◌∙◌, subst, append_assoc}
use Rattle.std.specs.Prelude.{slice_get}
use Rattle.std.specs.List.{AllByRecursion, remove}
use Rattle.std.specs.Str.{bytes_eq}
use Rattle.mp_base.specs.declared.number.Guid.{Guid}
use Rattle.txg_history.specs.Losses.{IsStampPlan, IsWipe, IsMark}
use Rattle.txg_history.specs.Pages.{Codec}
use Rattle.txg_history.specs.Pools.{Pool}
use Rattle.txg_history.specs.Survival.{Survives}
use Rattle.txg_history.proofs.Logging.{by_bool, same_device, true_not_false}
use Rattle.txg_history.proofs.Losing.{stamps_may}
use Rattle.pool_moves.specs.AwayRows.{IsRequired, is_spare, leaf_named}
use Rattle.pool_moves.specs.Keeping.{IsElsewhere, AreSeatsApart, IsAway, IsSeated, IsOwnNumber, HasOtherNumber, IsUnder, HasUnder, IsNotFoundAt, MayReturn, MayGo, Kept, Walks}
use Rattle.pool_moves.specs.Leaves.{OwnLeaf, LeafSeen, Seat, At, Adrift, dev_if, told, leaf_seen}
use Rattle.pool_moves.specs.LineRows.{IsSized, TurnReply, Committed, Suspended, CommitsOpen}
use Rattle.pool_moves.specs.Moves.{Move, Freeze, Burn, Lose, steps, after_move, after_moves, step}
use Rattle.pool_moves.specs.Refusing.{FreezeRefusal}
use Rattle.pool_moves.specs.States.{PoolSeen, PoolState, Side, seen}
use Rattle.pool_moves.specs.TreeRows.{place_named, DetachReply, goes_out, is_there, clean_plan, IsCleaned, DetachBehind, CommitsWithout, DetachFor, DetachLeaf, DetachBy, RowDetach, IsSeatOf}
use Rattle.pool_moves.proofs.FreeWalks.{walks_more, moves_more}
use Rattle.pool_moves.proofs.FreezeWalks.{is_idle}
use Rattle.pool_moves.proofs.Keeping.{walk_keeps, others_still}
use Rattle.pool_moves.proofs.LineWalks.{open_walks, sized_along}
use Rattle.pool_moves.proofs.GroupTurns.{HasParts, kind_parts, Comes, group_comes, commits_hold}
use Rattle.pool_moves.proofs.KindsOfMoves.{IsKind, AnyLeaf, AnySet, all_widens, all_widened, IsWithin, within_kind}
use Rattle.pool_moves.proofs.Leaving.{leaf_there, not_required, sibling_left, under_kept, top_is_one, apart_others, elsewhere_along, Aside, aside, aside_along, aside_stays, aside_frozen, aside_burnt}
use Rattle.pool_moves.proofs.ReadWalks.{calls_walk}
use Rattle.pool_moves.proofs.Widenings.{nothing_more}
use Rattle.pool_moves.proofs.Lists.{all_at, all_append}
use Rattle.pool_moves.specs.FreezeRow.{up_devs}
use Rattle.txg_history.specs.Records.{Cells}
use Rattle.pool_moves.specs.TreeLeaves.{IsCalm}
use Rattle.pool_moves.proofs.Tests.{not_same}

-- The leaf of a name, by the history: where it is in the list, and that it has a sibling.
record IsThere (t : Side) (i : ℕ) (leaf : LeafSeen) (seat : Seat) : Type 0 where
  pub at : slice_get t.seats i ≡ Some seat
  pub leaf_is : leaf ≡ leaf_seen t.pool.group.frozen (told t.pool) seat
  pub left : HasUnder t.pool.in_top leaf.top (remove t.seats i)

there_is : (c : Codec) (s : PoolState) (t : Side) (name : List ℕ) (leaf : LeafSeen) (seat : Seat) → Kept c s t → leaf_named name s.core.leaves ≡ Some leaf
    → slice_get t.seats (place_named name s.core.leaves) ≡ Some seat → ¬ (IsRequired leaf s.core.leaves) → IsThere t (place_named name s.core.leaves) leaf seat
there_is c s t name leaf seat kept = subst Goal (sym kept.core) (λ named at free. record {
  at = at;
  leaf_is = leaf_there (λ leaf. bytes_eq leaf.own.name name) t.pool.group.frozen t.pool t.seats leaf seat named at;
  left = sibling_left (λ leaf. bytes_eq leaf.own.name name) t.pool.group.frozen t.pool t.seats leaf named
      (not_required leaf (seen t).leaves free);
})
  where
    Goal : PoolSeen → Type 0
    Goal core = leaf_named name core.leaves ≡ Some leaf → slice_get t.seats (place_named name core.leaves) ≡ Some seat → ¬ (IsRequired leaf core.leaves)
        → IsThere t (place_named name core.leaves) leaf seat

-- the seat's top is the leaf's
seat_top : (f : Bool) (p : Pool) (top : ℕ) (seat : Seat) → IsUnder p.in_top top seat → (leaf_seen f (told p) seat).top ≡ top
seat_top f p top (At d found own) is = is
seat_top f p top (Adrift leaf) is = is

may_go : (c : Codec) (s : PoolState) (t : Side) (i : ℕ) (leaf : LeafSeen) (seat : Seat) → Kept c s t → t.pool.group.frozen ≡ false → IsThere t i leaf seat
    → MayGo t i
may_go c s t i leaf seat kept idle there = record {
  idle = idle;
  topped = λ d mine one. by_bool (t.pool.in_top d == leaf.top)
      (λ same. subst (λ top. HasUnder t.pool.in_top top (remove t.seats i)) (sym (same_device (t.pool.in_top d) leaf.top same)) there.left)
      (λ off. under_kept t.pool.in_top (t.pool.in_top d) t.seats i seat there.at (kept.topped d mine one)
      (λ is. not_same (t.pool.in_top d) leaf.top off (sym (ap (λ x. x.top) there.leaf_is
      ∙ seat_top t.pool.group.frozen t.pool (t.pool.in_top d) seat is))));
}

goes_walk : (c : Codec) (s : PoolState) (t : Side) (name : List ℕ) (leaf : LeafSeen) → MayGo t (place_named name s.core.leaves)
    → Walks c t (goes_out s name leaf)
goes_walk c s t name leaf may = ((tt, may), ((tt, tt), tt))

-- The device of the leaf that went is cleaned.
clean_is : (spare : Bool) (d size : ℕ) → IsStampPlan d size (clean_plan spare d size)
clean_is true d size = IsMark
clean_is false d size = IsWipe

none_found_at : (d : ℕ) (seats : List Seat) → AllByRecursion (IsElsewhere d) seats → AllByRecursion (IsNotFoundAt d) seats
none_found_at d [] off = tt
none_found_at d (At e found own ∷ seats) off = ((λ same. true_not_false (d == e) same off.0), none_found_at d seats off.1)
none_found_at d (Adrift leaf ∷ seats) off = (tt, none_found_at d seats off.1)

cleaned_walk : (c : Codec) (size : ℕ → ℕ) (there spare : Bool) (dev : Option ℕ) (t : Side) (vs : List Move)
    → ((d : ℕ) → dev ≡ Some d → AllByRecursion (IsElsewhere d) t.seats)
    → IsCleaned there dev spare size vs → Walks c t vs
cleaned_walk c size true spare (Some d) t vs off (made, outcome, calls, moves) = subst (Walks c t) (sym moves) (
  ((tt, tt), none_found_at d t.seats (off d refl)),
  calls_walk c made (after_move (Lose d) t) (stamps_may c t.pool d (size d) (clean_plan spare d (size d)) made outcome (clean_is spare d (size d)) calls).0.1,
)
cleaned_walk c size true spare None t vs off moves = subst (Walks c t) (sym moves) tt
cleaned_walk c size false spare dev t vs off moves = subst (Walks c t) (sym moves) tt

dev_found : (f : Bool) (p : Pool) (seats : List Seat) (i : ℕ) (seat : Seat) (d : ℕ) → AllByRecursion IsAway seats → AreSeatsApart seats
    → slice_get seats i ≡ Some seat
    → (leaf_seen f (told p) seat).dev ≡ Some d → AllByRecursion (IsElsewhere d) (remove seats i)
dev_found f p seats i (At e found own) d away apart at dev =
    subst (λ n. AllByRecursion (IsElsewhere n) (remove seats i)) (is_at found dev) (apart_others seats i e found own apart at)
  where
    is_at : (found : Bool) → dev_if found e ≡ Some d → e ≡ d
    is_at true is = cc
    is_at false is = absurd (cc)
dev_found f p seats i (Adrift leaf) d away apart at dev = absurd
    (no_device leaf.dev (all_at _ seats i (Adrift leaf) away at).0 dev)
  where
    no_device : (o : Option ℕ) → o ≡ None → o ≡ Some d → ⊥
    no_device o none is = absurd (cc)

-- What is seen of a leaf at a device while no group is frozen, by what a commit leaves and by its logs.
abbrev leaf_by : Aside → (d : ℕ) (found : Bool) (own : OwnLeaf) (owes settled : ℕ → Bool) → LeafSeen
leaf_by a d found own owes settled = record {
  guid = a.guid d;
  dev = dev_if found d;
  own = own;
  top = a.in_top d;
  owes = owes;
  settled = settled;
  on = false;
}

-- The leaf comes back as it was, behind a suspended group.
seat_back : (c : Codec) (s : PoolState) (t : Side) (i : ℕ) (leaf : LeafSeen) (seat : Seat) (behind : Pool) → Kept c s t → t.pool.group.frozen ≡ false
    → IsThere t i leaf seat
    → aside behind ≡ aside t.pool → behind.group.frozen ≡ false → ((d : ℕ) (found : Bool) (own : OwnLeaf) → seat ≡ At d found own
    → (behind.owes d ≡ t.pool.owes d) × (behind.settled d ≡ t.pool.settled d))
    → leaf ≡ leaf_seen behind.group.frozen (told behind) seat
seat_back c s t i leaf (At d found own) behind kept idle there same over logs =
    there.leaf_is ∙ (ap (λ f. leaf_seen f (told t.pool) (At d found own)) idle
    ∙ (ap (λ a. leaf_by a d found own (t.pool.owes d) (t.pool.settled d)) (sym same)
    ∙ (ap (λ log. leaf_by (aside behind) d found own log (t.pool.settled d)) (sym (logs d found own refl).0)
    ∙ (ap (λ log. leaf_by (aside behind) d found own (behind.owes d) log) (sym (logs d found own refl).1)
    ∙ sym (ap (λ f. leaf_seen f (told behind) (At d found own)) over)))))
seat_back c s t i leaf (Adrift other) behind kept idle there same over logs = there.leaf_is

back_apart : (seat : Seat) (seats : List Seat) → ((d : ℕ) (found : Bool) (own : OwnLeaf) → seat ≡ At d found own → AllByRecursion (IsElsewhere d) seats)
    → AreSeatsApart seats → AreSeatsApart (seat ∷ seats)
back_apart (At d found own) seats off apart = (off d found own refl, apart)
back_apart (Adrift leaf) seats off apart = apart

back_numbered : (guid : ℕ → Guid) (member : ℕ → Bool) (seats : List Seat) (i : ℕ) (seat : Seat) → slice_get seats i ≡ Some seat
    → ((d : ℕ) → member d ≡ true → AllByRecursion (IsOwnNumber guid d) seats) → (d : ℕ) → member d ≡ true → IsOwnNumber guid d seat
back_numbered guid member seats i seat at numbered d mine = all_at _ seats i seat (numbered d mine) at

may_return : (c : Codec) (s : PoolState) (t behind : Side) (i : ℕ) (leaf : LeafSeen) (seat : Seat) → Kept c s t → t.pool.group.frozen ≡ false
    → IsThere t i leaf seat
    → aside behind.pool ≡ aside t.pool → behind.pool.group.frozen ≡ false → AreSeatsApart behind.seats
    → ((d : ℕ) (found : Bool) (own : OwnLeaf) → seat ≡ At d found own → AllByRecursion (IsElsewhere d) behind.seats)
    → ((d : ℕ) (found : Bool) (own : OwnLeaf) → seat ≡ At d found own → (behind.pool.owes d ≡ t.pool.owes d) × (behind.pool.settled d ≡ t.pool.settled d))
    → MayReturn behind seat leaf
may_return c s t behind i leaf seat kept idle there same over apart off logs = record {
  idle = over;
  leaf_is = seat_back c s t i leaf seat behind.pool kept idle there same over logs;
  apart = back_apart seat behind.seats off apart;
  seated = subst (λ a. IsSeated a.member seat) (sym same) (all_at _ t.seats i seat kept.seated there.at);
  away = all_at _ t.seats i seat kept.away there.at;
  numbered = subst (λ a. (d : ℕ) → a.member d ≡ true → IsOwnNumber a.guid d seat) (sym same)
      (back_numbered t.pool.guid t.pool.member t.seats i seat there.at kept.numbered);
}

-- Behind the commit without the leaf.
-- the moves of a suspended commit: a freeze, moves within the group, and its end
record AreSuspended (part : List Move) : Type 0 where
  pub cells : Cells
  pub board : ℕ → Bool
  pub body : List Move
  pub within : AllByRecursion IsWithin body
  pub moves : part ≡ Freeze cells board ∷ (body ++ (Burn ∷ []))

suspended_are : (c : Codec) (size : ℕ → ℕ) (s : PoolState) (part : List Move) (group : ℕ) (top : Guid) (faults : ℕ)
    → CommitsOpen c size s part (Suspended group top faults) → AreSuspended part
suspended_are c size s part group top faults commit =
    of (group_comes c size ⊥ (λ s vs. AllByRecursion IsWithin vs) parts (steps commit.first s) commit.rest
    (Suspended group top faults) (λ never. never) commit.ends)
  where
    parts : HasParts c size ⊥ (λ s vs. AllByRecursion IsWithin vs)
    parts = kind_parts c size ⊥ IsWithin within_kind (λ never. absurd never)

    freeze : Move
    freeze = Freeze commit.freeze.cells (up_devs s.core.leaves)

    widens : List Move
    widens = commit.freeze.moves.widens

    of : Comes c size ⊥ (λ s vs. AllByRecursion IsWithin vs) parts (steps commit.first s) commit.rest
        (Suspended group top faults) → AreSuspended part
    of (inl lost) = record {
      cells = commit.freeze.cells;
      board = up_devs s.core.leaves;
      body = widens ++ lost.moves;
      within = all_append _ widens lost.moves
          (all_widens AnyLeaf AnySet IsWithin within_kind (step freeze s.core) widens commit.freeze.moves.are)
          lost.holds;
      moves = commit.moves ∙ (ap (λ l. l ++ commit.rest) commit.freeze.moves.moves
          ∙ ap (λ l. freeze ∷ l) (ap (λ l. widens ++ l) lost.is ∙ sym (append_assoc widens lost.moves (Burn ∷ []))));
    }
    of (inr here) = absurd (here.1 tt)

-- a commit brings no leaf and takes none
calm_kind : IsKind AnyLeaf AnySet IsCalm
calm_kind = record {
  calls = λ noted. tt;
  leave = λ d f. tt;
  set = λ m own may. tt;
  wrote = λ k. tt;
  flushed = tt;
  draw = tt;
  widen = λ m low high. tt;
  starts = λ draft. tt;
  copies = λ draft d. tt;
  copied = λ draft d. tt;
}

pub commit_calm : (c : Codec) (size : ℕ → ℕ) (s : PoolState) (part : List Move) (turn : TurnReply)
    → CommitsOpen c size s part turn → AllByRecursion IsCalm part
commit_calm c size s part turn commit = commits_hold c size (λ s vs. AllByRecursion IsCalm vs)
    (kind_parts c size (Unit {0}) IsCalm calm_kind (λ ack draft. tt)) (Unit {0})
    (λ any s vs all frozen. all_append _ vs (Burn ∷ []) all (tt, tt))
    (λ s vs row. all_widened AnyLeaf AnySet IsCalm calm_kind s.core (Freeze row.cells (up_devs s.core.leaves)) vs tt
    row.moves) s part turn (λ lost. tt) commit

-- what such a commit leaves of a leaf that was put aside
record IsKeptAside (t behind : Side) : Type 0 where
  pub same : aside behind.pool ≡ aside t.pool
  pub over : behind.pool.group.frozen ≡ false
  pub logs : (d : ℕ) → t.pool.member d ≡ true → 1 ≤ t.pool.in_top d → AllByRecursion (HasOtherNumber t.pool.guid (t.pool.guid d)) t.seats
      → (behind.pool.owes d ≡ t.pool.owes d) × (behind.pool.settled d ≡ t.pool.settled d)

-- a member that no leaf of the list is at has a number of its own
others_of : (guid : ℕ → Guid) (d : ℕ) (seats : List Seat) → AllByRecursion (IsOwnNumber guid d) seats → AllByRecursion (IsElsewhere d) seats
    → AllByRecursion (HasOtherNumber guid (guid d)) seats
others_of guid d [] own off = tt
others_of guid d (At e found mine ∷ seats) own off = (⊎_elim (λ one. absurd (true_not_false (d == e) one off.0)) (λ other. other) own.0, others_of guid d seats own.1 off.1)
others_of guid d (Adrift leaf ∷ seats) own off = (own.0, others_of guid d seats own.1 off.1)

kept_aside : (c : Codec) (t : Side) (part : List Move) → Survives c t.pool → Walks c t part → AreSuspended part
    → IsKeptAside t (after_moves part t)
kept_aside c t part sv walks are = let frozen = after_move (Freeze are.cells are.board) t in
    let there : after_moves part t ≡ after_move Burn (after_moves are.body frozen) = ap (λ vs. after_moves vs t)
    are.moves ∙ moves_more are.body (Burn ∷ []) frozen in
    subst (IsKeptAside t) (sym there) (record {
      same = aside_along are.body frozen are.within;
      over = refl;
      logs = λ d mine top others. aside_burnt (t.pool.owes d) (t.pool.settled d) d (after_moves are.body frozen)
          (aside_stays c (t.pool.owes d) (t.pool.settled d) d are.body frozen
          (nothing_more c are.body Burn frozen (subst (Walks c t) are.moves walks).1) are.within
          (others_still d (Freeze are.cells are.board) t tt others)
          (aside_frozen c t.pool are.cells are.board d sv mine top));
    })

-- the leaf's own top
own_top : (f : Bool) (p : Pool) (leaf : LeafSeen) (d : ℕ) (found : Bool) (own : OwnLeaf) → leaf ≡ leaf_seen f (told p) (At d found own)
    → leaf.top ≡ p.in_top d
own_top f p leaf d found own is = ap (λ x. x.top) is

-- The row, where the leaf isn't required and the freeze isn't refused.
commits_walk : (c : Codec) (size : ℕ → ℕ) (s : PoolState) (t : Side) (name : List ℕ) (leaf : LeafSeen) (seat : Seat) (vs : List Move) (reply : DetachReply)
    → Kept c s t → IsSized size t
    → t.pool.group.frozen ≡ false → IsThere t (place_named name s.core.leaves) leaf seat → CommitsWithout c size s name leaf seat vs reply → Walks c t vs
commits_walk c size s t name leaf seat vs reply kept sized idle there row =
    subst (Walks c t) (sym row.moves) (walks_more c out (row.part ++ row.rest) t goes
    (walks_more c row.part row.rest without commits (behind_walk row.turn row.commit row.behind)))
  where
    i : ℕ
    i = place_named name s.core.leaves

    out : List Move
    out = goes_out s name leaf

    goes : Walks c t (goes_out s name leaf)
    goes = goes_walk c s t name leaf (may_go c s t (place_named name s.core.leaves) leaf seat kept idle there)

    without : Side
    without = after_moves (goes_out s name leaf) t

    kept_without : Kept c (steps (goes_out s name leaf) s) (after_moves (goes_out s name leaf) t)
    kept_without = walk_keeps c (goes_out s name leaf) s t goes kept

    commits : Walks c (after_moves (goes_out s name leaf) t) row.part
    commits =
        open_walks c size (steps (goes_out s name leaf) s) (after_moves (goes_out s name leaf) t) row.part row.turn kept_without
        (sized_along size (goes_out s name leaf) t sized) row.commit

    behind : Side
    behind = after_moves row.part (after_moves (goes_out s name leaf) t)

    kept_behind : Kept c (steps row.part (steps (goes_out s name leaf) s)) (after_moves row.part (after_moves (goes_out s name leaf) t))
    kept_behind = walk_keeps c row.part (steps (goes_out s name leaf) s) (after_moves (goes_out s name leaf) t) commits kept_without

    calm : AllByRecursion IsCalm row.part
    calm = commit_calm c size (steps (goes_out s name leaf) s) row.part row.turn row.commit

    off_dev : (d : ℕ) → leaf.dev ≡ Some d → AllByRecursion (IsElsewhere d) (after_moves row.part (after_moves (goes_out s name leaf) t)).seats
    off_dev d dev = elsewhere_along row.part without d calm
        (dev_found t.pool.group.frozen t.pool t.seats i seat d kept.away kept.apart there.at
        (sym (ap (λ x. x.dev) there.leaf_is) ∙ dev))

    off_seat : (d : ℕ) (found : Bool) (own : OwnLeaf) → seat ≡ At d found own
        → AllByRecursion (IsElsewhere d) (after_moves row.part (after_moves (goes_out s name leaf) t)).seats
    off_seat d found own is = elsewhere_along row.part without d calm
        (apart_others t.seats i d found own kept.apart (there.at ∙ ap Some is))

    top_one : (d : ℕ) (found : Bool) (own : OwnLeaf) → seat ≡ At d found own → 1 ≤ t.pool.in_top d
    top_one d found own is = subst (λ n. 1 ≤ n) (own_top t.pool.group.frozen t.pool leaf d found own
        (there.leaf_is ∙ ap (leaf_seen t.pool.group.frozen (told t.pool)) is))
        (top_is_one t.pool.group.frozen t.pool leaf.top (remove t.seats i) there.left
        (subst (λ core. AllByRecursion (λ leaf. 1 ≤ leaf.top) core.leaves) kept_without.core row.commit.freeze.tops))

    mine : (d : ℕ) (found : Bool) (own : OwnLeaf) → seat ≡ At d found own → t.pool.member d ≡ true
    mine d found own is = subst (IsSeated t.pool.member) is (all_at _ t.seats i seat kept.seated there.at)

    behind_walk : (turn : TurnReply) → CommitsOpen c size (steps (goes_out s name leaf) s) row.part turn
        → DetachBehind turn size s name leaf seat row.rest reply
        → Walks c (after_moves row.part (after_moves (goes_out s name leaf) t)) row.rest
    behind_walk (Committed number) commit ends = cleaned_walk c size (is_there leaf.own.mode) (is_spare s leaf) leaf.dev behind row.rest off_dev ends.0
    behind_walk (Suspended group top faults) commit ends =
        let back = kept_aside c without row.part kept_without.survives commits
        (suspended_are c size (steps (goes_out s name leaf) s) row.part group top faults commit) in
        subst (Walks c behind) (sym ends.0) (
          (
            tt,
            may_return c s t behind i leaf seat kept idle there back.same back.over kept_behind.apart off_seat
                (λ d found own is. back.logs d (mine d found own is) (top_one d found own is)
                (others_of without.pool.guid d without.seats (kept_without.numbered d (mine d found own is)) (apart_others t.seats i d found own kept.apart (there.at ∙ ap Some is)))),
          ),
          ((tt, tt), tt),
        )
    behind_walk turn commit ends = absurd ends

-- `detach`
detach_for : (c : Codec) (size : ℕ → ℕ) (refusal : Option FreezeRefusal) (s : PoolState) (t : Side) (name : List ℕ) (leaf : LeafSeen) (seat : Seat)
    (vs : List Move) (reply : DetachReply) → Kept c s t → IsSized size t
    → t.pool.group.frozen ≡ false → IsThere t (place_named name s.core.leaves) leaf seat → DetachFor refusal c size s name leaf seat vs reply → Walks c t vs
detach_for c size (Some refusal) s t name leaf seat vs reply kept sized idle there row = subst (Walks c t) (sym row.0) tt
detach_for c size None s t name leaf seat vs reply kept sized idle there row = commits_walk c size s t name leaf seat vs reply kept sized idle there row

detach_leaf : (c : Codec) (size : ℕ → ℕ) (frozen : Bool) (s : PoolState) (t : Side) (name : List ℕ) (leaf : LeafSeen) (seat : Seat) (vs : List Move)
    (reply : DetachReply) → Kept c s t → IsSized size t
    → s.core.group.frozen ≡ frozen → leaf_named name s.core.leaves ≡ Some leaf → slice_get t.seats (place_named name s.core.leaves) ≡ Some seat
    → DetachLeaf frozen c size s name leaf seat vs reply → Walks c t vs
detach_leaf c size true s t name leaf seat vs reply kept sized f named at row = subst (Walks c t) (sym row.0) tt
detach_leaf c size false s t name leaf seat vs reply kept sized f named at (inl row) = subst (Walks c t) (sym row.2) tt
detach_leaf c size false s t name leaf seat vs reply kept sized f named at (inr row) =
    detach_for c size row.1.0 s t name leaf seat vs reply kept sized (is_idle c s t kept f)
    (there_is c s t name leaf seat kept named at row.0) row.1.2

detach_by : (c : Codec) (size : ℕ → ℕ) (found : Option LeafSeen) (s : PoolState) (t : Side) (name : List ℕ) (seat : Seat) (vs : List Move)
    (reply : DetachReply) → Kept c s t → IsSized size t
    → leaf_named name s.core.leaves ≡ found → IsSeatOf s t name seat → DetachBy found c size s name seat vs reply → Walks c t vs
detach_by c size None s t name seat vs reply kept sized named at row = subst (Walks c t) (sym row.0) tt
detach_by c size (Some leaf) s t name seat vs reply kept sized named at row =
    detach_leaf c size s.core.group.frozen s t name leaf seat vs reply kept sized refl named (at leaf named) row

pub detach_walks : (c : Codec) (size : ℕ → ℕ) (s : PoolState) (t : Side) (name : List ℕ) (seat : Seat) (vs : List Move) (reply : DetachReply) → Kept c s t
    → IsSized size t → IsSeatOf s t name seat → RowDetach c size s name seat vs reply → Walks c t vs
detach_walks c size s t name seat vs reply kept sized at row = detach_by c size (leaf_named name s.core.leaves) s t name seat vs reply kept sized refl at row
