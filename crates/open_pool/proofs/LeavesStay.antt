-- Whatever a group does to logs and counts, each leaf has its number, its device and its state still.
use Rattle.std.proofs.Common.{◌≡◌, ℕ, ◌==◌, cond, Bool, true, false, List, [], ◌∷◌, refl, sym, ap, ◌∙◌, subst}
use Rattle.std.specs.List.{AllZip}
use Rattle.mp_base.specs.declared.number.Guid.{Guid}
use Rattle.label_store.specs.declared.member.Member.{Member}
use Rattle.vdev_tree.specs.declared.vdev.LeafVdev.{LeafVdev}
use Rattle.dtl_rules.specs.Widening.{Widenings, none, more}
use Rattle.txg_engine.proofs.Ready.{nothing}
use Rattle.txg_engine.specs.declared.seat.Numbers.{Numbers}
use Rattle.txg_engine.specs.Boards.{count_up}
use Rattle.txg_engine.specs.Logs.{Grows, AreGrown, KeepsSets, AreOwing, Counted, count_write, Fails, AreBehind, IsSettled, IsCut}
use Rattle.open_pool.proofs.BoardKept.{IsSameLeaf, AreSameLeaves, same_leaves}
use Rattle.open_pool.proofs.LogsWidened.{IsLikeIt, AreLikeThem, like_same, like_widened}

pub same_twice : (one two three : List LeafVdev) → AreSameLeaves one two → AreSameLeaves two three
    → AreSameLeaves one three
same_twice [] [] [] first rest = tt
same_twice [] [] (z ∷ three) first rest = absurd rest
same_twice [] (y ∷ two) three first rest = absurd first
same_twice (x ∷ one) [] three first rest = absurd first
same_twice (x ∷ one) (y ∷ two) [] first rest = absurd rest
same_twice (x ∷ one) (y ∷ two) (z ∷ three) first rest = (
  record {
    guid = rest.0.guid ∙ first.0.guid;
    name = rest.0.name ∙ first.0.name;
    dev = rest.0.dev ∙ first.0.dev;
    state = rest.0.state ∙ first.0.state;
    temporary = rest.0.temporary ∙ first.0.temporary;
  },
  same_twice one two three first.1 rest.1,
)

-- of each two leaves, so of lists
each_same : (R : LeafVdev → LeafVdev → Type 0) → ((old new : LeafVdev) → R old new → IsSameLeaf old new)
    → (old new : List LeafVdev) → AllZip R old new → AreSameLeaves old new
each_same R f [] [] are = tt
each_same R f [] (y ∷ new) are = absurd are
each_same R f (x ∷ old) [] are = absurd are
each_same R f (x ∷ old) (y ∷ new) are = (f x y are.0, each_same R f old new are.1)

like_same_leaf : (old new : LeafVdev) → IsLikeIt old new → IsSameLeaf old new
like_same_leaf old new like = record {
  guid = sym (ap (λ (leaf : LeafVdev). leaf.guid) (like nothing));
  dev = sym (ap (λ (leaf : LeafVdev). leaf.dev) (like nothing));
  name = sym (ap (λ (leaf : LeafVdev). leaf.name) (like nothing));
  state = sym (ap (λ (leaf : LeafVdev). leaf.state) (like nothing));
  temporary = sym (ap (λ (leaf : LeafVdev). leaf.temporary) (like nothing));
}

pub like_leaves : (old new : List LeafVdev) → AreLikeThem old new → AreSameLeaves old new
like_leaves = each_same IsLikeIt like_same_leaf

-- widened logs are all that a widening changes
pub widenings_like : (old new : List LeafVdev) → Widenings old new → AreLikeThem old new
widenings_like old new none = like_same old
widenings_like old new (more {now = now} earlier large w) =
    subst (AreLikeThem old) (sym w.is)
    (like_widened old w.before w.behind w.leaf w.widened w.widens.rest
    (subst (AreLikeThem old) w.was (widenings_like old now earlier)))

pub grown_like : (which : LeafVdev → Bool) (low high : ℕ) (old new : List LeafVdev)
    → AllZip (Grows which low high) old new → AreLikeThem old new
grown_like which low high [] [] are = tt
grown_like which low high [] (y ∷ new) are = absurd are
grown_like which low high (x ∷ old) [] are = absurd are
grown_like which low high (x ∷ old) (y ∷ new) are = (
  (λ log. sym
      (are.0.rest log)),
  grown_like which low high old new are.1,
)

like_twice : (one two three : List LeafVdev) → AreLikeThem one two → AreLikeThem two three → AreLikeThem one three
like_twice [] [] [] first rest = tt
like_twice [] [] (z ∷ three) first rest = absurd rest
like_twice [] (y ∷ two) three first rest = absurd first
like_twice (x ∷ one) [] three first rest = absurd first
like_twice (x ∷ one) (y ∷ two) [] first rest = absurd rest
like_twice (x ∷ one) (y ∷ two) (z ∷ three) first rest = ((λ log. first.0 log ∙ rest.0 log), like_twice one two three first.1 rest.1)

pub are_grown_like : (which : LeafVdev → Bool) (low high : ℕ) (old new : List LeafVdev)
    → AreGrown which low high old new → AreLikeThem old new
are_grown_like which low high old new g = like_twice old g.grown new (grown_like which low high old g.grown g.grow)
    (widenings_like g.grown new g.widened)

counted_leaf : (m : Guid) (old new : LeafVdev) → new ≡ count_write m old → IsSameLeaf old new
counted_leaf m old new is = subst (IsSameLeaf old) (sym is) (by (old.guid.0 == m.0))
  where
    by : (t : Bool)
        → IsSameLeaf old (cond t (record old {
          counts = record
              (old.counts) { writes = count_up old.counts.writes };
        }) old)
    by true = record { guid = refl; name = refl; dev = refl; state = refl; temporary = refl }
    by false = record { guid = refl; name = refl; dev = refl; state = refl; temporary = refl }

pub counted_same : (m : Guid) (old new : List LeafVdev) → Counted m old new → AreSameLeaves old new
counted_same m = each_same (λ was is. is ≡ count_write m was) (counted_leaf m)

pub fails_same : (numbers : Numbers) (m : Guid) (old new : List LeafVdev) → Fails numbers m old new
    → AreSameLeaves old new
fails_same numbers m old new f =
    same_twice old f.counted new (counted_same m old f.counted f.count)
    (like_leaves f.counted new
    (are_grown_like (λ leaf. leaf.guid.0 == m.0) numbers.first.0 numbers.last.0 f.counted new f.grown))

-- the leaves behind a turn
pub behind_same : (numbers : Numbers) (ms : List Member) (done : List Bool) (old new : List LeafVdev)
    → AreBehind numbers ms done old new → AreSameLeaves old new
behind_same numbers [] done old new are = subst (AreSameLeaves old) (sym are) (same_leaves old)
behind_same numbers (m ∷ ms) [] old new are = subst (AreSameLeaves old) (sym are) (same_leaves old)
behind_same numbers (m ∷ ms) (true ∷ done) old new are = behind_same numbers ms done old new are
behind_same numbers (m ∷ ms) (false ∷ done) old new are =
    same_twice old are.0 new (fails_same numbers m.guid old are.0 are.1) (behind_same numbers ms done are.0 new are.2)

-- behind a freeze
keeps_leaf : (old new : LeafVdev) → KeepsSets old new → IsSameLeaf old new
keeps_leaf old new k = record {
  guid = ap (λ (leaf : LeafVdev). leaf.guid) (k.rest nothing nothing);
  dev = ap (λ (leaf : LeafVdev). leaf.dev) (k.rest nothing nothing);
  name = ap (λ (leaf : LeafVdev). leaf.name) (k.rest nothing nothing);
  state = ap (λ (leaf : LeafVdev). leaf.state) (k.rest nothing nothing);
  temporary = ap (λ (leaf : LeafVdev). leaf.temporary) (k.rest nothing nothing);
}

pub roomy_same : (old new : List LeafVdev) → AllZip KeepsSets old new → AreSameLeaves old new
roomy_same = each_same KeepsSets keeps_leaf

pub owing_same : (which : LeafVdev → Bool) (number : ℕ) (old new : List LeafVdev) → AreOwing which number old new
    → AreSameLeaves old new
owing_same which number old new o =
    same_twice old o.roomy new (roomy_same old o.roomy o.room)
    (like_leaves o.roomy new (are_grown_like which number number o.roomy new o.grown))

-- and behind its end
pub settled_same : (old new : List LeafVdev) → AllZip IsSettled old new → AreSameLeaves old new
settled_same = each_same IsSettled (λ old new s. record {
  guid = ap (λ (leaf : LeafVdev). leaf.guid) (s.rest nothing);
  dev = ap (λ (leaf : LeafVdev). leaf.dev) (s.rest nothing);
  name = ap (λ (leaf : LeafVdev). leaf.name) (s.rest nothing);
  state = ap (λ (leaf : LeafVdev). leaf.state) (s.rest nothing);
  temporary = ap (λ (leaf : LeafVdev). leaf.temporary) (s.rest nothing);
})

pub cut_same : (first : ℕ) (old new : List LeafVdev) → AllZip (IsCut first) old new → AreSameLeaves old new
cut_same first = each_same (IsCut first) (λ old new c. record {
  guid = ap (λ (leaf : LeafVdev). leaf.guid) (c.rest nothing nothing);
  dev = ap (λ (leaf : LeafVdev). leaf.dev) (c.rest nothing nothing);
  name = ap (λ (leaf : LeafVdev). leaf.name) (c.rest nothing nothing);
  state = ap (λ (leaf : LeafVdev). leaf.state) (c.rest nothing nothing);
  temporary = ap (λ (leaf : LeafVdev). leaf.temporary) (c.rest nothing nothing);
})
