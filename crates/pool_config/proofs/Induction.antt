-- What holds of each leaf, and of an inner vdev over children of which it holds, holds of every vdev.
use Rattle.std.proofs.Common.{◌≡◌, List, map, ap, sym, ◌∙◌, subst}
use Rattle.vdev_tree.specs.declared.vdev.Vdev.{Vdev}
use Rattle.vdev_tree.specs.declared.vdev.InnerVdev.{InnerVdev, roll-InnerVdev, out-roll-InnerVdev, outs-InnerVdev'}
use Rattle.vdev_tree.specs.declared.vdev.LeafVdev.{LeafVdev}
use Rattle.vdev_tree.specs.declared.vdev.Vdev.TheVariants.{Leaf, Inner}
use Rattle.vdev_tree.specs.declared.vdev.Vdev.TheOpen as F
use Rattle.vdev_tree.specs.declared.vdev.Vdev.TheOpen.{Vdev-F, InnerVdev-F}
use Rattle.vdev_tree.specs.declared.vdev.Vdev.TheViews.{roll-Vdev, rolls-Leaf, rolls-Inner}
use Rattle.vdev_tree.specs.declared.vdev.Vdev.TheFolds.{ind-Vdev, map-Vdev, map-InnerVdev}

-- a vdev of which it holds
abbrev pub Held : (Vdev → Type 0) → Type 0
Held P = (v : Vdev) × P v

abbrev pub vdevs_held : (P : Vdev → Type 0) → List (Held P) → List Vdev
vdevs_held P held = map (λ e. e.0) held

at_vdev : (P : Vdev → Type 0) → ((leaf : LeafVdev) → P (Leaf leaf))
    → (x : Vdev-F Vdev InnerVdev) (y : Vdev-F ((v : Vdev) × P v) ((i : InnerVdev) × P (Inner i)))
    → map-Vdev ((v : Vdev) × P v) ((i : InnerVdev) × P (Inner i)) Vdev InnerVdev (λ e. e.0) (λ e. e.0) y ≡ x
    → P (roll-Vdev x)
at_vdev P leaf (F.Leaf l) y is = subst P (sym (rolls-Leaf l)) (leaf l)
at_vdev P leaf (F.Inner inner) (F.Leaf l) is = absurd cc
at_vdev P leaf (F.Inner inner) (F.Inner e) is =
    subst P (sym (rolls-Inner inner)) (let same : e.0 ≡ inner = cc in subst (λ (i : InnerVdev). P (Inner i)) same e.1)

children_of : InnerVdev-F Vdev InnerVdev → List Vdev
children_of inner = inner.children.items

rolled : (x : InnerVdev-F Vdev InnerVdev) → (roll-InnerVdev x).children.items ≡ children_of x
unfolding children_of
rolled x = ap children_of (sym (outs-InnerVdev' (roll-InnerVdev x)) ∙ out-roll-InnerVdev x)

at_inner : (P : Vdev → Type 0)
    → ((inner : InnerVdev) (held : List (Held P)) → vdevs_held P held ≡ inner.children.items → P (Inner inner))
    → (x : InnerVdev-F Vdev InnerVdev) (y : InnerVdev-F ((v : Vdev) × P v) ((i : InnerVdev) × P (Inner i)))
    → map-InnerVdev ((v : Vdev) × P v) ((i : InnerVdev) × P (Inner i)) Vdev InnerVdev (λ e. e.0) (λ e. e.0) y ≡ x
    → P (Inner (roll-InnerVdev x))
unfolding children_of
at_inner P inner x y is = inner (roll-InnerVdev x) y.children.items (ap children_of is ∙ sym (rolled x))

pub of_every_vdev : (P : Vdev → Type 0) → ((leaf : LeafVdev) → P (Leaf leaf))
    → ((inner : InnerVdev) (held : List (Held P)) → vdevs_held P held ≡ inner.children.items → P (Inner inner))
    → (v : Vdev) → P v
of_every_vdev P leaf inner = ind-Vdev P (λ i. P (Inner i)) (at_vdev P leaf) (at_inner P inner)
