-- The leaves of all tops as one list, with the number of each one's top.
use Rattle.std.proofs.Common.{◌≡◌, ℕ, suc, List, [], ◌∷◌, ◌++◌, length, map, refl, sym, ap, ◌∙◌, arith}
use Rattle.std.specs.List.{flat_map, AllZip, AllByRecursion}
use Rattle.std.proofs.lemmas.List.Elements.{recursion_from_All, All-from_recursion}
use Rattle.vdev_tree.specs.Tree.{leaves}
use Rattle.vdev_tree.specs.declared.top.Top.{Top}
use Rattle.vdev_tree.specs.declared.vdev.LeafVdev.{LeafVdev}
use Rattle.dtl_rules.specs.Widening.{leaves_of}
use Rattle.txg_engine.specs.declared.seat.Seat.{Seat}
use Rattle.pool_moves.specs.Leaves.{LeafSeen}
use Rattle.open_pool.specs.Form.{IsSeated, AreSeated}
use Rattle.open_pool.specs.Parts.{TopParts, all_parts}
use Rattle.open_pool.specs.State.{leaf_of, leaves_from, leaves_under}

-- the leaves under tops, one list after another
abbrev pub under_all : List (List LeafVdev) → List LeafVdev
under_all tops = flat_map (λ under. under) tops

-- leaf by leaf the number of its top, where tops count from this number
abbrev pub tops_from : (top : ℕ) → List (List LeafVdev) → List ℕ
tops_from top [] = []
tops_from top (under ∷ tops) = map (λ leaf. top) under ++ tops_from (suc top) tops

-- leaves with these tops, as the state has them
abbrev pub leaves_at : List Seat → List ℕ → List LeafVdev → List LeafSeen
leaves_at seats [] leaves = []
leaves_at seats (top ∷ tops) [] = []
leaves_at seats (top ∷ tops) (leaf ∷ leaves) = leaf_of seats top leaf ∷ leaves_at seats tops leaves

-- each leaf has a top
abbrev pub HaveTops : List ℕ → List LeafVdev → Type 0
HaveTops tops leaves = AllZip (λ top leaf. Unit {0}) tops leaves

at_front : (seats : List Seat) (top : ℕ) (under : List LeafVdev) (tops : List ℕ) (rest : List LeafVdev)
    → leaves_at seats (map (λ leaf. top) under ++ tops) (under ++ rest) ≡ map
    (leaf_of seats top) under ++ leaves_at seats tops rest
at_front seats top [] tops rest = refl
at_front seats top (leaf ∷ under) tops rest = ap (λ ls. leaf_of seats top leaf ∷ ls)
    (at_front seats top under tops rest)

-- the state's leaves are those of the one list
pub by_tops : (seats : List Seat) (top : ℕ) (tops : List (List LeafVdev))
    → leaves_from seats top tops ≡ leaves_at seats (tops_from top tops) (under_all tops)
by_tops seats top [] = refl
by_tops seats top (under ∷ tops) =
    ap (λ ls. map (leaf_of seats top) under ++ ls) (by_tops seats (suc top) tops)
    ∙ sym (at_front seats top under (tops_from (suc top) tops) (under_all tops))

have_front : (top : ℕ) (under : List LeafVdev) (tops : List ℕ) (rest : List LeafVdev) → HaveTops tops rest
    → HaveTops (map (λ leaf. top) under ++ tops) (under ++ rest)
have_front top [] tops rest have = have
have_front top (leaf ∷ under) tops rest have = (tt, have_front top under tops rest have)

pub have_tops : (top : ℕ) (tops : List (List LeafVdev)) → HaveTops (tops_from top tops) (under_all tops)
have_tops top [] = tt
have_tops top (under ∷ tops) = have_front top under (tops_from (suc top) tops) (under_all tops)
    (have_tops (suc top) tops)

-- the leaves of a pool are those under its tops, and those of its trees
pub all_are_under : (tops : List TopParts) → flat_map (λ top. top.leaves) tops ≡ under_all (leaves_under tops)
all_are_under [] = refl
all_are_under (top ∷ tops) = ap (λ ls. top.leaves ++ ls) (all_are_under tops)

pub under_trees : (tops : List Top) → under_all (leaves_under (all_parts tops)) ≡ leaves_of tops
under_trees [] = refl
under_trees (top ∷ tops) = ap (λ ls. leaves top.mirror ++ ls) (under_trees tops)

-- Trees of as many leaves have the same numbers of tops.
abbrev pub sizes : List (List LeafVdev) → List ℕ
sizes tops = map length tops

same_front : (top : ℕ) (was is : List LeafVdev) → length was ≡ length is
    → map {B = ℕ} (λ leaf. top) was ≡ map (λ leaf. top) is
same_front top [] [] same = refl
same_front top [] (leaf ∷ is) same = absurd (omega (arith, same))
same_front top (leaf ∷ was) [] same = absurd (omega (arith, same))
same_front top (leaf ∷ was) (leaf' ∷ is) same = ap (λ ts. top ∷ ts) (same_front top was is (omega (arith, same)))

head_same : (a b : ℕ) (xs ys : List ℕ) → a ∷ xs ≡ b ∷ ys → a ≡ b
head_same a b xs ys e = cc

tail_same : (a b : ℕ) (xs ys : List ℕ) → a ∷ xs ≡ b ∷ ys → xs ≡ ys
tail_same a b xs ys e = cc

pub same_tops : (top : ℕ) (was is : List (List LeafVdev)) → sizes was ≡ sizes is → tops_from top was ≡ tops_from top is
same_tops top [] [] same = refl
same_tops top [] (under ∷ is) same = absurd (cc)
same_tops top (under ∷ was) [] same = absurd (cc)
same_tops top (under ∷ was) (under' ∷ is) same =
    ap (λ ts. ts ++ tops_from (suc top) was)
    (same_front top under under' (head_same (length under) (length under') (sizes was) (sizes is) same))
    ∙ ap (λ ts. map (λ leaf. top) under' ++ ts)
    (same_tops (suc top) was is (tail_same (length under) (length under') (sizes was) (sizes is) same))

-- The seats of leaves under tops are those of the one list.
abbrev pub SeatedAt : List Seat → List ℕ → List LeafVdev → Type 0
SeatedAt seats tops leaves = AllZip (IsSeated seats) tops leaves

seated_front : (seats : List Seat) (top : ℕ) (under : List LeafVdev) (tops : List ℕ) (rest : List LeafVdev)
    → AllByRecursion (IsSeated seats top) under
    → SeatedAt seats tops rest → SeatedAt seats (map (λ leaf. top) under ++ tops) (under ++ rest)
seated_front seats top [] tops rest here seated = seated
seated_front seats top (leaf ∷ under) tops rest here seated = (here.0, seated_front seats top under tops rest here.1 seated)

pub seated_by_tops : (seats : List Seat) (top : ℕ) (tops : List (List LeafVdev)) → AreSeated seats top tops
    → SeatedAt seats (tops_from top tops) (under_all tops)
seated_by_tops seats top [] seated = tt
seated_by_tops seats top (under ∷ tops) seated =
    seated_front seats top under (tops_from (suc top) tops) (under_all tops)
    (recursion_from_All (IsSeated seats top) under seated.0)
    (seated_by_tops seats (suc top) tops seated.1)

front_seated : (seats : List Seat) (top : ℕ) (under : List LeafVdev) (tops : List ℕ) (rest : List LeafVdev)
    → SeatedAt seats (map (λ leaf. top) under ++ tops) (under ++ rest)
    → AllByRecursion (IsSeated seats top) under × SeatedAt seats tops rest
front_seated seats top [] tops rest seated = (tt, seated)
front_seated seats top (leaf ∷ under) tops rest seated =
    let more = front_seated seats top under tops rest seated.1 in
    ((seated.0, more.0), more.1)

pub seated_under : (seats : List Seat) (top : ℕ) (tops : List (List LeafVdev))
    → SeatedAt seats (tops_from top tops) (under_all tops) → AreSeated seats top tops
seated_under seats top [] seated = tt
seated_under seats top (under ∷ tops) seated =
    let parts = front_seated seats top under (tops_from (suc top) tops) (under_all tops) seated in
    (All-from_recursion (IsSeated seats top) under parts.0, seated_under seats (suc top) tops parts.1)
