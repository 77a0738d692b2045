-- Leaves that are put on their devices one after another, by their numbers.
use Rattle.std.proofs.Common.{◌≡◌, ◌⊎◌, ⊎_elim, ℕ, zero, suc, ◌+◌, ◌<◌, ◌≤◌, ◌==◌, cond, false, List, [], ◌∷◌, ◌++◌, length, map, take, drop, get_or, set, Option, Some, None, refl, sym, ap, ap₂, ◌∙◌, subst, subst₂, arith, get_or-drop, length-drop, length-append}
use Rattle.std.specs.Prelude.{All, AllPairs, slice_get}
use Rattle.std.specs.List.{AllByRecursion, AllZip}
use Rattle.std.proofs.lemmas.List.{get_or_append_left}
use Rattle.std.proofs.lemmas.List.Elements.{All-append}
use Rattle.std.proofs.lemmas.Option.{none-some, same_Some, slice_get-get_or}
use Rattle.mp_base.specs.declared.number.Guid.{Guid}
use Rattle.vdev_tree.specs.Tree.{leaves}
use Rattle.vdev_tree.specs.declared.top.Top.{Top}
use Rattle.vdev_tree.specs.declared.vdev.LeafVdev.{LeafVdev}
use Rattle.vdev_tree.proofs.Lists.{AllZip-mapped, flat_more, flat_more_set}
use Rattle.dtl_rules.specs.Widening.{leaves_of}
use Rattle.dtl_rules.proofs.Tops.{top_leaves}
use Rattle.txg_engine.proofs.Seating.{got_inside, got_none}
use Rattle.open_pool.specs.Opening.{placed, all_placed}
use Rattle.open_pool.proofs.NumbersApart.{AreNumbered, leaves_differ, Differ, leaf_numbers, itself, turned_test}

-- the leaf, on this device where it has this number
abbrev pub put_on : Guid → Option ℕ → LeafVdev → LeafVdev
put_on at dev leaf = cond (leaf.guid.0 == at.0) (placed dev leaf) leaf

pub none_placed : (leaves : List LeafVdev) → all_placed [] leaves ≡ leaves
none_placed [] = refl
none_placed (leaf ∷ leaves) = refl

not_put : (at : Guid) (dev : Option ℕ) (leaves : List LeafVdev) → AllByRecursion (λ k. (at.0 == k) ≡ false) (leaf_numbers leaves)
    → map (put_on at dev) leaves ≡ leaves
not_put at dev [] differ = refl
not_put at dev (leaf ∷ leaves) differ =
    ap₂ (λ l ls. l ∷ ls) (ap (λ b. cond b (placed dev leaf) leaf) (turned_test at.0 leaf.guid.0 differ.0)) (not_put at dev leaves differ.1)

differs_at : (n : ℕ) (leaves : List LeafVdev) (k : ℕ) (leaf : LeafVdev) → AllByRecursion (λ k. (n == k) ≡ false) (leaf_numbers leaves)
    → slice_get leaves k ≡ Some leaf → (n == leaf.guid.0) ≡ false
differs_at n [] k leaf differ is = absurd (none-some leaf is)
differs_at n (x ∷ leaves) zero leaf differ is = subst (λ (l : LeafVdev). (n == l.guid.0) ≡ false) (same_Some x leaf is) differ.0
differs_at n (x ∷ leaves) (suc k) leaf differ is = differs_at n leaves k leaf differ.1 is

stays_on : (at : Guid) (d dev : Option ℕ) (x : LeafVdev) → (x.guid.0 == at.0) ≡ false → put_on at d (placed dev x) ≡ placed dev x
stays_on at d None x off = ap (λ b. cond b (placed d (placed None x)) (placed None x)) off
stays_on at d (Some n) x off = ap (λ b. cond b (placed d (placed (Some n) x)) (placed (Some n) x)) off

-- one leaf more, of the number that the leaf at the next place has
pub put_next : (leaves : List LeafVdev) (devs : List (Option ℕ)) (k : ℕ) (leaf : LeafVdev) (d : Option ℕ) → Differ (leaf_numbers leaves)
    → slice_get leaves k ≡ Some leaf → k < length devs
    → map (put_on leaf.guid (get_or devs k d)) (all_placed (take k devs) leaves) ≡ all_placed (take (suc k) devs) leaves
put_next [] devs k leaf d differ is lt = absurd (none-some leaf is)
put_next (x ∷ leaves) [] k leaf d differ is lt = absurd (omega (arith, lt))
put_next (x ∷ leaves) (dev ∷ devs) zero leaf d differ is lt =
    ap (λ (l : LeafVdev). map (put_on l.guid dev) (x ∷ leaves)) (sym (same_Some x leaf is))
    ∙ ap₂ (λ l ls. l ∷ ls) (ap (λ b. cond b (placed dev x) x) (itself x.guid.0)) (not_put x.guid dev leaves differ.0 ∙ sym (none_placed leaves))
put_next (x ∷ leaves) (dev ∷ devs) (suc k) leaf d differ is lt =
    ap₂ (λ l ls. l ∷ ls) (stays_on leaf.guid (get_or devs k d) dev x (differs_at x.guid.0 leaves k leaf differ.0 is))
    (put_next leaves devs k leaf d differ.1 is (omega (arith, lt)))

-- the leaf at the next place is the one that it was
pub still_there : (leaves : List LeafVdev) (devs : List (Option ℕ)) (k : ℕ) → slice_get (all_placed (take k devs) leaves) k ≡ slice_get leaves k
still_there [] devs k = refl
still_there (x ∷ leaves) devs zero = refl
still_there (x ∷ leaves) [] (suc k) = refl
still_there (x ∷ leaves) (dev ∷ devs) (suc k) = still_there leaves devs k

-- devices behind the leaves' don't matter
pub front_placed : (leaves : List LeafVdev) (devs : List (Option ℕ)) (n : ℕ) → length leaves ≤ n → all_placed (take n devs) leaves ≡ all_placed devs leaves
front_placed [] devs n le = refl
front_placed (x ∷ leaves) devs zero le = absurd (omega (arith, le))
front_placed (x ∷ leaves) [] (suc n) le = refl
front_placed (x ∷ leaves) (dev ∷ devs) (suc n) le = ap (λ ls. placed dev x ∷ ls) (front_placed leaves devs n (omega (arith, le)))

-- the leaves of one top after those of others
pub placed_append : (xs ys : List LeafVdev) (devs : List (Option ℕ))
    → all_placed devs (xs ++ ys) ≡ all_placed devs xs ++ all_placed (drop (length xs) devs) ys
placed_append [] ys devs = refl
placed_append (x ∷ xs) ys [] = ap (λ ls. x ∷ xs ++ ls) (sym (none_placed ys))
placed_append (x ∷ xs) ys (dev ∷ devs) = ap (λ ls. placed dev x ∷ ls) (placed_append xs ys devs)

-- A loop over the leaves of one top, whose devices stand in the list from a place on.
module _ (under : List LeafVdev) (devs : List (Option ℕ)) (at : ℕ) where
  abbrev pub PutSoFar : (place : ℕ) → List LeafVdev → Type 0
  PutSoFar place now = now ≡ all_placed (take place (drop at devs)) under

  pub same_leaf : (place : ℕ) (now : List LeafVdev) (leaf : LeafVdev) → PutSoFar place now → slice_get now place ≡ Some leaf → slice_get under place ≡ Some leaf
  same_leaf place now leaf put is = sym (still_there under (drop at devs) place) ∙ ap (λ ls. slice_get ls place) (sym put) ∙ is

  pub put_more : (place : ℕ) (now new : List LeafVdev) (leaf : LeafVdev) (d : Option ℕ) → AreNumbered under → at + length under ≤ length devs
      → PutSoFar place now → slice_get now place ≡ Some leaf → AllZip (λ old new. new ≡ put_on leaf.guid (get_or devs (at + place) d) old) now new
      → PutSoFar (place + 1) new
  put_more place now new leaf d numbered room put is changed =
      let there = same_leaf place now leaf put is in
      let inside = got_inside under place leaf there in
      let next : suc place ≡ place + 1 = omega arith in
      let long = length-drop at devs in
      AllZip-mapped LeafVdev (put_on leaf.guid (get_or devs (at + place) d)) now new changed
      ∙ ap (map (put_on leaf.guid (get_or devs (at + place) d))) put
      ∙ ap (λ dev. map (put_on leaf.guid dev) (all_placed (take place (drop at devs)) under)) (sym (get_or-drop at devs place d))
      ∙ put_next under (drop at devs) place leaf d (leaves_differ under numbered) there (omega (arith, long, inside, room))
      ∙ ap (λ n. all_placed (take n (drop at devs)) under) next

  pub put_all : (place : ℕ) (now : List LeafVdev) → length under ≤ place → PutSoFar place now → now ≡ all_placed (drop at devs) under
  put_all place now past put = put ∙ front_placed under (drop at devs) place past

  module _ (P : LeafVdev → Type 0) where
    abbrev pub TellsSoFar : ℕ → Type 0
    TellsSoFar place = (k : ℕ) (leaf : LeafVdev) → k < place → slice_get under k ≡ Some leaf → P leaf

    pub tells_more : (place : ℕ) (leaf : LeafVdev) → TellsSoFar place → slice_get under place ≡ Some leaf → P leaf → TellsSoFar (place + 1)
    tells_more place leaf tells is here k x lt there =
        ⊎_elim (λ before. tells k x before there)
        (λ same. subst P (same_Some leaf x (sym is ∙ ap (slice_get under) (sym same) ∙ there)) here) (below_or_last k place lt)
      where
        below_or_last : (k n : ℕ) → k < n + 1 → (k < n) ⊎ (k ≡ n)
        below_or_last k n lt = grind arith

    pub tells_all : (place : ℕ) → length under ≤ place → TellsSoFar place → All P under
    tells_all place past tells k d lt = tells k (get_or under k d) (omega (arith, lt, past)) (slice_get-get_or under k d lt)

  pub none_left : (place : ℕ) (now : List LeafVdev) → PutSoFar place now → slice_get now place ≡ None → length under ≤ place
  none_left place now put none = got_none under place (sym (still_there under (drop at devs) place) ∙ ap (λ ls. slice_get ls place) (sym put) ∙ none)

-- what holds of two leaves of all tops holds of those of one
module _ (R : LeafVdev → LeafVdev → Type 0) where
  pairs_front : (xs ys : List LeafVdev) → AllPairs R (xs ++ ys) → AllPairs R xs
  pairs_front xs ys all i j d lt within =
      let long = length-append xs ys in
      subst₂ R (get_or_append_left xs ys d i (omega (arith, lt, within))) (get_or_append_left xs ys d j within)
      (all i j d lt (omega (arith, long, within)))

  pairs_behind : (xs ys : List LeafVdev) → AllPairs R (xs ++ ys) → AllPairs R ys
  pairs_behind [] ys all = all
  pairs_behind (x ∷ xs) ys all = pairs_behind xs ys (λ i j d lt within. all (suc i) (suc j) d (omega (arith, lt)) (omega (arith, within)))

  pub pairs_of_top : (tops : List Top) (i : ℕ) (d : Top) → i < length tops → AllPairs R (leaves_of tops) → AllPairs R (leaves (get_or tops i d).mirror)
  pairs_of_top [] i d inside all = absurd (omega (arith, inside))
  pairs_of_top (top ∷ tops) zero d inside all = pairs_front (leaves top.mirror) (leaves_of tops) all
  pairs_of_top (top ∷ tops) (suc i) d inside all = pairs_of_top tops i d (omega (arith, inside)) (pairs_behind (leaves top.mirror) (leaves_of tops) all)

-- A loop over tops: one top more, whose leaves were put on their devices.
module _ (tops now : List Top) (i : ℕ) (d : Top) (inside : i < length tops) where
  pub top_put : (devs : List (Option ℕ)) (at : ℕ) (new : Top) → i < length now → at ≡ length (leaves_of (take i tops))
      → leaves_of (take i now) ≡ all_placed devs (leaves_of (take i tops)) → leaves new.mirror ≡ all_placed (drop at devs) (leaves (get_or tops i d).mirror)
      → leaves_of (take (i + 1) (set now i new)) ≡ all_placed devs (leaves_of (take (i + 1) tops))
  top_put devs at new there count put one =
      flat_more_set Top LeafVdev top_leaves now i new there
      ∙ ap₂ (λ a b. a ++ b) put (one ∙ ap (λ n. all_placed (drop n devs) (leaves (get_or tops i d).mirror)) count)
      ∙ sym (placed_append (leaves_of (take i tops)) (leaves (get_or tops i d).mirror) devs)
      ∙ ap (all_placed devs) (sym (flat_more Top LeafVdev top_leaves tops i d inside))

  pub top_tells : (P : LeafVdev → Type 0) → All P (leaves_of (take i tops)) → All P (leaves (get_or tops i d).mirror) → All P (leaves_of (take (i + 1) tops))
  top_tells P tells one = subst (All P) (sym (flat_more Top LeafVdev top_leaves tops i d inside))
      (All-append P (leaves_of (take i tops)) (leaves (get_or tops i d).mirror) tells one)
