-- One leaf of a tree that is widened.
use Rattle.std.proofs.Common.{◌≡◌, ℕ, ◌+◌, ◌<◌, Bool, true, false, not, ◌&&◌, ◌==◌, List, [], ◌∷◌, ◌++◌, length, get_or, set, take, drop, refl, ap, sym, ◌∙◌, subst, arith, append_assoc}
use Rattle.std.specs.Bool.{OnTrue, OnFalse}
use Rattle.std.specs.List.{flat_map}
use Rattle.std.proofs.lemmas.Bool.{eqb-true}
use Rattle.std.proofs.lemmas.List.Folds.{list_all-append}
use Rattle.vdev_tree.specs.declared.vdev.InnerVdev.{InnerVdev}
use Rattle.vdev_tree.specs.declared.vdev.LeafVdev.{LeafVdev}
use Rattle.vdev_tree.specs.declared.vdev.Vdev.TheVariants.{Leaf, Inner}
use Rattle.vdev_tree.specs.Tree.{leaves}
use Rattle.vdev_tree.proofs.Folds.{leaves_leaf, leaves_inner}
use Rattle.dtl_rules.specs.Widening.{ranges_of, most_ranges, none_has, WidensFirst, WidensLeaf}
use Rattle.dtl_rules.proofs.Totals.{some_has_most}
use Rattle.vdev_tree.proofs.Lists.{flat_more, flat_split, flat_set, drop_one}

pub leaf_found : (r : ℕ) (b : Bool) (old new : LeafVdev) → b ≡ (ranges_of old == r) → OnTrue b (WidensLeaf old new)
    → OnTrue b (WidensFirst r (leaves (Leaf old)) (leaves (Leaf new)))
leaf_found r true old new large widens = record {
  before = [];
  leaf = old;
  widened = new;
  behind = [];
  was = leaves_leaf old;
  is = leaves_leaf new;
  earlier = refl;
  large = eqb-true (ranges_of old) r (sym large);
  widens = widens;
}
leaf_found r false old new large widens = tt

none_step : (b : Bool) → false ≡ b → (not b && true) ≡ true
none_step b is = ap (λ x. not x && true) (sym is)

pub leaf_none : (r : ℕ) (b : Bool) (old : LeafVdev) → b ≡ (ranges_of old == r) → OnFalse b (none_has r (leaves (Leaf old)) ≡ true)
leaf_none r true old large = tt
leaf_none r false old large = ap (none_has r) (leaves_leaf old) ∙ none_step (ranges_of old == r) large

pub inner_found : (r : ℕ) (b : Bool) (old new : InnerVdev) → OnTrue b (WidensFirst r (flat_map leaves old.children.items) (flat_map leaves new.children.items))
    → OnTrue b (WidensFirst r (leaves (Inner old)) (leaves (Inner new)))
inner_found r true old new found =
    subst (λ ls. WidensFirst r ls (leaves (Inner new))) (sym (leaves_inner old)) (subst (WidensFirst r (flat_map leaves old.children.items)) (sym (leaves_inner new)) found)
inner_found r false old new found = tt

pub inner_none : (r : ℕ) (b : Bool) (old : InnerVdev) → OnFalse b (none_has r (flat_map leaves old.children.items) ≡ true) → OnFalse b (none_has r (leaves (Inner old)) ≡ true)
inner_none r true old none = tt
inner_none r false old none = ap (none_has r) (leaves_inner old) ∙ none

pub inner_same : (b : Bool) (old new : InnerVdev) → OnFalse b (flat_map leaves new.children.items ≡ flat_map leaves old.children.items) → OnFalse b (leaves (Inner new) ≡ leaves (Inner old))
inner_same true old new same = tt
inner_same false old new same = leaves_inner new ∙ same ∙ sym (leaves_inner old)

-- the same among other leaves, of which none before has so many ranges
pub widened_among : (r : ℕ) (front old new behind : List LeafVdev) → none_has r front ≡ true → WidensFirst r old new → WidensFirst r (front ++ (old ++ behind)) (front ++ (new ++ behind))
widened_among r front old new behind none w = record {
  before = front ++ w.before;
  leaf = w.leaf;
  widened = w.widened;
  behind = w.behind ++ behind;
  was = ap (λ ls. front ++ (ls ++ behind)) w.was ∙ ap (λ ls. front ++ ls) (append_assoc w.before (w.leaf ∷ w.behind) behind)
      ∙ sym (append_assoc front w.before (w.leaf ∷ (w.behind ++ behind)));
  is = ap (λ ls. front ++ (ls ++ behind)) w.is ∙ ap (λ ls. front ++ ls) (append_assoc w.before (w.widened ∷ w.behind) behind)
      ∙ sym (append_assoc front w.before (w.widened ∷ (w.behind ++ behind)));
  earlier = list_all-append _ front w.before ∙ ap (λ b. b && none_has r w.before) none ∙ w.earlier;
  large = w.large;
  widens = w.widens;
}

-- the same of a list of which one element gives the leaves that are widened
pub found_at : (V : Type 0) (f : V → List LeafVdev) (r : ℕ) (xs ys : List V) (i : ℕ) (v d : V) → i < length xs → i < length ys
    → flat_map f (take i xs) ≡ flat_map f (take i ys) → drop i xs ≡ drop i ys → none_has r (flat_map f (take i ys)) ≡ true
    → WidensFirst r (f (get_or ys i d)) (f v) → WidensFirst r (flat_map f ys) (flat_map f (set xs i v))
found_at V f r xs ys i v d inside inside' same rest none w =
    let front = flat_map f (take i ys) in
    let behind = flat_map f (drop (i + 1) ys) in
    let old : flat_map f ys ≡ front ++ (f (get_or ys i d) ++ behind) = flat_split V LeafVdev f ys i d inside' in
    let new : flat_map f (set xs i v) ≡ front ++ (f v ++ behind) =
    flat_set V LeafVdev f xs i v inside ∙ ap (λ zs. zs ++ (f v ++ flat_map f (drop (i + 1) xs))) same
    ∙ ap (λ zs. front ++ (f v ++ flat_map f zs)) (drop_one V xs ys i rest) in
    subst (λ ls. WidensFirst r ls (flat_map f (set xs i v))) (sym old)
    (subst (WidensFirst r (front ++ (f (get_or ys i d) ++ behind))) (sym new) (widened_among r front (f (get_or ys i d)) (f v) behind none w))

-- none has so many so far, with one element more
pub none_more : (V : Type 0) (f : V → List LeafVdev) (r : ℕ) (ys : List V) (i : ℕ) (d : V) → i < length ys → none_has r (flat_map f (take i ys)) ≡ true
    → none_has r (f (get_or ys i d)) ≡ true → none_has r (flat_map f (take (i + 1) ys)) ≡ true
none_more V f r ys i d inside none here =
    ap (none_has r) (flat_more V LeafVdev f ys i d inside) ∙ list_all-append _ (flat_map f (take i ys)) (f (get_or ys i d))
    ∙ ap (λ b. b && none_has r (f (get_or ys i d))) none ∙ here

-- one that has the most ranges is always found
pub largest_found : (b : Bool) (most : ℕ) (old new : List LeafVdev) → most ≡ most_ranges old → 1 < most → OnTrue b (WidensFirst most old new)
    → OnFalse b (none_has most old ≡ true) → WidensFirst most old new
largest_found true most old new is several found none = found
largest_found false most old new is several found none =
    absurd (let none_has_most : most_ranges old ≡ 0 = some_has_most old (sym (ap (λ n. none_has n old) is) ∙ none) in omega arith)
