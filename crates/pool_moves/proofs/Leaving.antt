-- A leaf that is put aside while the pool commits without it: where it was in the list, and what the history has of it behind.
use Rattle.std.proofs.Common.{◌≡◌, inl, inr, ℕ, zero, suc, ◌+◌, ◌<◌, ◌≤◌, ◌==◌, ◌&&◌, not, Bool, true, false, cond, Some, List, [], ◌∷◌, map, refl, sym, ap, ◌∙◌, subst, arith}
use mathlib.Core.Path.{fun_ext}
use Rattle.std.specs.Prelude.{slice_get}
use Rattle.std.specs.List.{AllByRecursion, find, remove}
use Rattle.std.proofs.lemmas.Bool.{and_parts}
use Rattle.std.proofs.lemmas.Bool.Decides.{nat_tests}
use Rattle.mp_base.specs.declared.number.Guid.{Guid}
use Rattle.txg_history.specs.Events.{Freezes}
use Rattle.txg_history.specs.Groups.{between, off}
use Rattle.txg_history.specs.Pages.{Codec}
use Rattle.txg_history.specs.Pools.{Pool, after}
use Rattle.txg_history.specs.Records.{Cells}
use Rattle.txg_history.specs.Scans.{Scan}
use Rattle.txg_history.specs.Survival.{Survives}
use Rattle.txg_history.proofs.Logging.{by_bool, same_device, true_not_false, is_between, of_between}
use Rattle.pool_moves.specs.AwayRows.{all_out, is_sibling, siblings, IsRequired}
use Rattle.pool_moves.specs.Keeping.{IsElsewhere, AreSeatsApart, IsUnder, HasUnder, HasNumbered, HasOtherNumber, Admits, Walks}
use Rattle.pool_moves.specs.Leaves.{OwnLeaf, LeafSeen, Seat, At, Adrift, told, leaf_seen}
use Rattle.pool_moves.specs.Moves.{Move, Makes, Wrote_key, Flushed_all, Draw, Leave, Widen, Burn, Starts, Copies, Copied, Sets, Comes, Goes, Returns, after_move, after_moves}
use Rattle.pool_moves.specs.States.{Side}
use Rattle.pool_moves.specs.TreeLeaves.{IsCalm}
use Rattle.pool_moves.specs.TreeRows.{place_where}
use Rattle.pool_moves.proofs.Keeping.{IsStill, elsewhere_still, others_still}
use Rattle.pool_moves.proofs.KindsOfMoves.{IsWithin}
use Rattle.pool_moves.proofs.Tests.{other_back, some_same}

abbrev seen_as : Bool → Pool → List Seat → List LeafSeen
seen_as f p seats = map (leaf_seen f (told p)) seats

-- The leaf that is found by a test is the one at the seat of its place.
pub leaf_there : (test : LeafSeen → Bool) (f : Bool) (p : Pool) (seats : List Seat) (leaf : LeafSeen) (seat : Seat)
    → find test (seen_as f p seats) ≡ Some leaf
    → slice_get seats (place_where test (seen_as f p seats)) ≡ Some seat → leaf ≡ leaf_seen f (told p) seat
leaf_there test f p [] leaf seat found at = absurd (cc)
leaf_there test f p (x ∷ seats) leaf seat found at = by_bool (test (leaf_seen f (told p) x))
    (λ is. sym (some_same (leaf_seen f (told p) x) leaf
    (sym (ap (λ t. cond t (Some (leaf_seen f (told p) x)) (find test (seen_as f p seats))) is) ∙ found))
    ∙ ap (leaf_seen f (told p))
    (some_same x seat (sym (ap (λ t. slice_get (x ∷ seats) (cond t 0 (suc (place_where test (seen_as f p seats)))))
    is) ∙ at)))
    (λ off. leaf_there test f p seats leaf seat (sym (ap (λ t. cond t (Some (leaf_seen f (told p) x)) (find test (seen_as f p seats))) off) ∙ found)
    (sym (ap (λ t. slice_get (x ∷ seats) (cond t 0 (suc (place_where test (seen_as f p seats))))) off) ∙ at))

-- A leaf that isn't required has a sibling, and it is still there without the leaf.
abbrev HasSibling : LeafSeen → List LeafSeen → Type 0
HasSibling leaf leaves = siblings leaf leaves ≡ [] → ⊥

pub not_required : (leaf : LeafSeen) (leaves : List LeafSeen) → ¬ (IsRequired leaf leaves) → HasSibling leaf leaves
not_required leaf leaves free none = free (1, omega arith, ap (λ l. all_out l 1) none)

sibling_under : (f : Bool) (p : Pool) (leaf : LeafSeen) (seat : Seat) → is_sibling leaf (leaf_seen f (told p) seat) ≡ true → IsUnder p.in_top leaf.top seat
sibling_under f p leaf (At d found own) is = same_device (p.in_top d) leaf.top (and_parts (p.in_top d == leaf.top) (not ((p.guid d).0 == leaf.guid.0)) is).0
sibling_under f p leaf (Adrift other) is = same_device other.top leaf.top (and_parts (other.top == leaf.top) (not (other.guid.0 == leaf.guid.0)) is).0

any_under : (f : Bool) (p : Pool) (leaf : LeafSeen) (seats : List Seat) → HasSibling leaf (seen_as f p seats) → HasUnder p.in_top leaf.top seats
any_under f p leaf [] has = absurd (has refl)
any_under f p leaf (seat ∷ seats) has = by_bool (is_sibling leaf (leaf_seen f (told p) seat)) (λ is. inl (sibling_under f p leaf seat is))
    (λ off. inr (any_under f p leaf seats
    (λ none. has (ap (λ t. cond t (leaf_seen f (told p) seat ∷ siblings leaf (seen_as f p seats)) (siblings leaf (seen_as f p seats))) off ∙ none))))

no_sibling : (leaf : LeafSeen) → is_sibling leaf leaf ≡ false
no_sibling leaf = both (leaf.top == leaf.top) (leaf.guid.0 == leaf.guid.0) (here leaf.guid.0)
  where
    here : (n : ℕ) → (n == n) ≡ true
    here n = grind (arith, nat_tests)

    both : (t u : Bool) → u ≡ true → (t && not u) ≡ false
    both true u is = ap not is
    both false u is = refl

pub sibling_left : (test : LeafSeen → Bool) (f : Bool) (p : Pool) (seats : List Seat) (leaf : LeafSeen) → find test (seen_as f p seats) ≡ Some leaf
    → HasSibling leaf (seen_as f p seats)
    → HasUnder p.in_top leaf.top (remove seats (place_where test (seen_as f p seats)))
sibling_left test f p [] leaf found has = absurd (has refl)
sibling_left test f p (x ∷ seats) leaf found has = by_bool (test (leaf_seen f (told p) x))
    (λ is. subst (λ t. HasUnder p.in_top leaf.top (remove (x ∷ seats) (cond t 0 (suc (place_where test (seen_as f p seats)))))) (sym is)
    (any_under f p leaf seats (λ none. has (ap (λ t. cond t (leaf_seen f (told p) x ∷ siblings leaf (seen_as f p seats))
    (siblings leaf (seen_as f p seats)))
    (subst (λ y. is_sibling leaf y ≡ false) (sym (some_same (leaf_seen f (told p) x) leaf
    (sym (ap (λ t. cond t (Some (leaf_seen f (told p) x)) (find test (seen_as f p seats))) is) ∙ found))) (no_sibling leaf)) ∙ none))))
    (λ off. subst (λ t. HasUnder p.in_top leaf.top (remove (x ∷ seats) (cond t 0 (suc (place_where test (seen_as f p seats)))))) (sym off) (deeper
    (sibling_left test f p seats leaf (sym (ap (λ t. cond t (Some (leaf_seen f (told p) x)) (find test (seen_as f p seats))) off) ∙ found))))
  where
    deeper : (HasSibling leaf (seen_as f p seats) → HasUnder p.in_top leaf.top (remove seats (place_where test (seen_as f p seats))))
        → HasUnder p.in_top leaf.top (x ∷ remove seats (place_where test (seen_as f p seats)))
    deeper rest = by_bool (is_sibling leaf (leaf_seen f (told p) x)) (λ is. inl (sibling_under f p leaf x is))
        (λ off. inr (rest (λ none. has (ap (λ t. cond t (leaf_seen f (told p) x ∷ siblings leaf (seen_as f p seats)) (siblings leaf (seen_as f p seats)))
        off ∙ none))))

-- Each other top that had a leaf has one without the leaf at a place.
pub under_kept : (in_top : ℕ → ℕ) (top : ℕ) (seats : List Seat) (i : ℕ) (seat : Seat) → slice_get seats i ≡ Some seat → HasUnder in_top top seats
    → (IsUnder in_top top seat → ⊥) → HasUnder in_top top (remove seats i)
under_kept in_top top [] i seat at has other = absurd has
under_kept in_top top (x ∷ seats) zero seat at (inl is) other = absurd
    (other (subst (IsUnder in_top top) (some_same x seat at) is))
under_kept in_top top (x ∷ seats) zero seat at (inr has) other = has
under_kept in_top top (x ∷ seats) (suc i) seat at (inl is) other = inl is
under_kept in_top top (x ∷ seats) (suc i) seat at (inr has) other = inr (under_kept in_top top seats i seat at has other)

-- a leaf's top is one of the tops that the others stand under
pub top_is_one : (f : Bool) (p : Pool) (top : ℕ) (seats : List Seat) → HasUnder p.in_top top seats
    → AllByRecursion (λ leaf. 1 ≤ leaf.top) (seen_as f p seats) → 1 ≤ top
top_is_one f p top [] has ones = absurd has
top_is_one f p top (At d found own ∷ seats) (inl is) ones = subst (λ n. 1 ≤ n) is ones.0
top_is_one f p top (Adrift leaf ∷ seats) (inl is) ones = subst (λ n. 1 ≤ n) is ones.0
top_is_one f p top (At d found own ∷ seats) (inr has) ones = top_is_one f p top seats has ones.1
top_is_one f p top (Adrift leaf ∷ seats) (inr has) ones = top_is_one f p top seats has ones.1

-- The others are at other devices, and stay so through a commit.
others_off : (d e : ℕ) (seats : List Seat) (i : ℕ) (found : Bool) (own : OwnLeaf) → slice_get seats i ≡ Some (At e found own)
    → AllByRecursion (IsElsewhere d) seats → (d == e) ≡ false
others_off d e [] i found own at off = absurd (cc)
others_off d e (x ∷ seats) zero found own at off = subst (IsElsewhere d) (some_same x (At e found own) at) off.0
others_off d e (x ∷ seats) (suc i) found own at off = others_off d e seats i found own at off.1

pub apart_others : (seats : List Seat) (i d : ℕ) (found : Bool) (own : OwnLeaf) → AreSeatsApart seats → slice_get seats i ≡ Some (At d found own)
    → AllByRecursion (IsElsewhere d) (remove seats i)
apart_others [] i d found own apart at = absurd (cc)
apart_others (At e was is ∷ seats) zero d found own apart at = subst (λ n. AllByRecursion (IsElsewhere n) seats)
    (dev_same (At e was is) (At d found own) (some_same (At e was is) (At d found own) at)) apart.0
  where
    dev_of : Seat → ℕ
    dev_of (At n f o) = n
    dev_of (Adrift leaf) = 0

    dev_same : (a b : Seat) → a ≡ b → dev_of a ≡ dev_of b
    dev_same a b e = ap dev_of e
apart_others (At e was is ∷ seats) (suc i) d found own apart at =
    (other_back e d (others_off e d seats i found own at apart.0), apart_others seats i d found own apart.1 at)
apart_others (Adrift leaf ∷ seats) zero d found own apart at = absurd (cc)
apart_others (Adrift leaf ∷ seats) (suc i) d found own apart at = (tt, apart_others seats i d found own apart at)

-- moves that bring no leaf and take none
pub calm_still : (v : Move) → IsCalm v → IsStill v
calm_still (Comes i d m top own) is = is
calm_still (Goes i) is = is
calm_still (Returns i seat leaf) is = is
calm_still v is = tt

pub elsewhere_along : (vs : List Move) (t : Side) (d : ℕ) → AllByRecursion IsCalm vs
    → AllByRecursion (IsElsewhere d) t.seats → AllByRecursion (IsElsewhere d) (after_moves vs t).seats
elsewhere_along [] t d are all = all
elsewhere_along (v ∷ vs) t d are all =
    elsewhere_along vs (after_move v t) d are.1 (elsewhere_still d v t (calm_still v are.0) all)

-- What the history has of a device, apart from its logs and boards, stays while a group is frozen, and through its end.
pub record Aside : Type 0 where
  pub member : ℕ → Bool
  pub guid : ℕ → Guid
  pub in_top : ℕ → ℕ
  pub scan : Scan

abbrev pub aside : Pool → Aside
aside p = record { member = p.member; guid = p.guid; in_top = p.in_top; scan = p.scan }

aside_step : (v : Move) (t : Side) → IsWithin v → aside (after_move v t).pool ≡ aside t.pool
aside_step (Makes noted) t is = refl
aside_step (Wrote_key k) t is = refl
aside_step Flushed_all t is = refl
aside_step Draw t is = refl
aside_step (Leave d) t is = refl
aside_step (Widen m low high) t is = refl
aside_step (Starts draft) t is = refl
aside_step (Copies draft d) t is = refl
aside_step (Copied draft d) t is = refl
aside_step (Sets m own) t is = refl
aside_step v t is = absurd is

pub aside_along : (vs : List Move) (t : Side) → AllByRecursion IsWithin vs → aside (after_moves vs t).pool ≡ aside t.pool
aside_along [] t all = refl
aside_along (v ∷ vs) t all = aside_along vs (after_move v t) all.1 ∙ aside_step v t all.0

-- The log of a leaf that is put aside: but for the group's numbers it is as it was, and so are its settled groups.
pub record IsAside (log settled : ℕ → Bool) (first highest : ℕ) (owes now : ℕ → Bool) : Type 0 where
  pub order : first ≤ highest
  pub low : (g : ℕ) → log g ≡ true → g < first
  pub settled_low : (g : ℕ) → settled g ≡ true → g < first
  pub log_is : (g : ℕ) → between first highest g ≡ false → owes g ≡ log g
  pub settled_is : now ≡ settled

abbrev pub AsideIn : (log settled : ℕ → Bool) → (d : ℕ) → Pool → Type 0
AsideIn log settled d p = IsAside log settled p.group.first p.highest (p.owes d) (p.settled d)

-- a number that isn't one of the group's so far, with its last one
out_of : (first highest g : ℕ) → first ≤ highest → between first (highest + 1) g ≡ false
    → (between first highest g ≡ false) × (between (highest + 1) (highest + 1) g ≡ false)
out_of first highest g order out = (
  by_bool (between first highest g) (λ inside. absurd (let at = of_between first highest g inside in let never = true_not_false (between first (highest + 1) g)
      (is_between first (highest + 1) g at.0 (omega (arith, at.1))) out in never)) (λ off. off),
  by_bool (between (highest + 1) (highest + 1) g) (λ inside. absurd (let at = of_between (highest + 1) (highest + 1) g inside in
      let never = true_not_false (between first (highest + 1) g) (is_between first (highest + 1) g (omega (arith, at.0, order)) at.1) out in never))
      (λ off. off),
)

grown_off : (t u v : Bool) → u ≡ false → cond (t && u) true v ≡ v
grown_off true u v out = ap (λ x. cond x true v) out
grown_off false u v out = refl

number_off : (t u w v : Bool) → u ≡ false → cond ((t && u) && w) true v ≡ v
number_off true u w v off = ap (λ x. cond (x && w) true v) off
number_off false u w v off = refl

-- A log that is widened is of a leaf of the list, so of another number than a leaf that was put aside.
differs : (guid : ℕ → Guid) (m n : Guid) (seats : List Seat) → HasNumbered guid m seats → AllByRecursion (HasOtherNumber guid n) seats → (n.0 == m.0) ≡ false
differs guid m n [] has others = absurd has
differs guid m n (At e found own ∷ seats) (inl is) others = by_bool (n.0 == m.0)
    (λ same. absurd (let other : ((guid e).0 == n.0) ≡ false = others.0 in let yes : ((guid e).0 == n.0) ≡ true = grind (arith, nat_tests) in cc)) (λ off. off)
differs guid m n (Adrift leaf ∷ seats) (inl is) others = by_bool (n.0 == m.0)
    (λ same. absurd (let other : (leaf.guid.0 == n.0) ≡ false = others.0 in let yes : (leaf.guid.0 == n.0) ≡ true = grind (arith, nat_tests) in cc)) (λ off. off)
differs guid m n (seat ∷ seats) (inr has) others = differs guid m n seats has others.1

within_still : (v : Move) → IsWithin v → IsStill v
within_still (Comes i d m top own) is = is
within_still (Goes i) is = is
within_still (Returns i seat leaf) is = is
within_still v is = tt

aside_within : (log settled : ℕ → Bool) (d : ℕ) (v : Move) (t : Side) → IsWithin v → Admits t v
    → AllByRecursion (HasOtherNumber t.pool.guid (t.pool.guid d)) t.seats → AsideIn log settled d t.pool → AsideIn log settled d (after_move v t).pool
aside_within log settled d (Makes noted) t is ok others a = a
aside_within log settled d (Wrote_key k) t is ok others a = a
aside_within log settled d Flushed_all t is ok others a = a
aside_within log settled d Draw t is ok others a = record {
  order = let o = a.order in omega (arith, o);
  low = a.low;
  settled_low = a.settled_low;
  log_is = λ g out. let outs = out_of t.pool.group.first t.pool.highest g a.order out in
      grown_off (off t.pool.group.board d) (between (t.pool.highest + 1) (t.pool.highest + 1) g) (t.pool.owes d g) outs.1 ∙ a.log_is g outs.0;
  settled_is = a.settled_is;
}
aside_within log settled d (Leave e) t is ok others a = record {
  order = a.order;
  low = a.low;
  settled_low = a.settled_low;
  log_is = λ g out. grown_off (e == d) (between t.pool.group.first t.pool.highest g) (t.pool.owes d g) out ∙ a.log_is g out;
  settled_is = a.settled_is;
}
aside_within log settled d (Widen m low high) t is ok others a = record {
  order = a.order;
  low = a.low;
  settled_low = a.settled_low;
  log_is = λ g out. number_off (t.pool.member d) ((t.pool.guid d).0 == m.0) (between low high g) (t.pool.owes d g) (differs t.pool.guid m (t.pool.guid d) t.seats ok others) ∙ a.log_is g out;
  settled_is = a.settled_is;
}
aside_within log settled d (Starts draft) t is ok others a = a
aside_within log settled d (Copies draft e) t is ok others a = a
aside_within log settled d (Copied draft e) t is ok others a = a
aside_within log settled d (Sets m own) t is ok others a = a
aside_within log settled d v t is ok others a = absurd is

pub aside_stays : (c : Codec) (log settled : ℕ → Bool) (d : ℕ) (vs : List Move) (t : Side) → Walks c t vs → AllByRecursion IsWithin vs
    → AllByRecursion (HasOtherNumber t.pool.guid (t.pool.guid d)) t.seats → AsideIn log settled d t.pool → AsideIn log settled d (after_moves vs t).pool
aside_stays c log settled d [] t walks all others a = a
aside_stays c log settled d (v ∷ vs) t walks all others a = aside_stays c log settled d vs (after_move v t) walks.1
    all.1 (others_still d v t (within_still v all.0) others) (aside_within log settled d v t all.0 walks.0.1 others a)

-- at the freeze
pub aside_frozen : (c : Codec) (p : Pool) (cells : Cells) (board : ℕ → Bool) (d : ℕ) → Survives c p → p.member d ≡ true → 1 ≤ p.in_top d
    → AsideIn (p.owes d) (p.settled d) d (after (Freezes cells board) p)
aside_frozen c p cells board d sv mine top = record {
  order = omega arith;
  low = λ g is. let at = (sv.logs.now d mine top g is).1 in omega (arith, at);
  settled_low = λ g is. let at = (sv.logs.now d mine top g (sv.unbroken.settled_still d g mine is)).1 in omega (arith, at);
  log_is = λ g out. grown_off (off board d) (between (p.highest + 1) (p.highest + 1) g) (p.owes d g) out;
  settled_is = refl;
}

-- behind the end of a suspended group they are as they were
not_one : (log : ℕ → Bool) (first g : ℕ) → ((x : ℕ) → log x ≡ true → x < first) → first ≤ g → log g ≡ false
not_one log first g low high = by_bool (log g) (λ is. absurd (let less = low g is in omega (arith, less, high))) (λ off. off)

cleared_is : (log owes : ℕ → Bool) (first highest g : ℕ) → ((x : ℕ) → log x ≡ true → x < first) → ((x : ℕ) → between first highest x ≡ false → owes x ≡ log x)
    → cond (between first highest g) false (owes g) ≡ log g
cleared_is log owes first highest g low same = by_bool (between first highest g)
    (λ inside. ap (λ t. cond t false (owes g)) inside ∙ sym (not_one log first g low (of_between first highest g inside).0))
    (λ out. ap (λ t. cond t false (owes g)) out ∙ same g out)

pub aside_burnt : (log settled : ℕ → Bool) (d : ℕ) (t : Side) → AsideIn log settled d t.pool
    → ((after_move Burn t).pool.owes d ≡ log) × ((after_move Burn t).pool.settled d ≡ settled)
aside_burnt log settled d t a = (
  fun_ext (λ g. cleared_is log (t.pool.owes d) t.pool.group.first t.pool.highest g a.low a.log_is),
  fun_ext (λ g. cleared_is settled (t.pool.settled d) t.pool.group.first t.pool.highest g a.settled_low (λ x out. ap (λ f. f x) a.settled_is)),
)
