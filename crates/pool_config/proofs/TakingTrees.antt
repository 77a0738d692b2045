-- Trees and tops that were read.
use Rattle.std.proofs.Common.{◌≡◌, ℕ, zero, suc, ◌-◌, ◌<◌, Bool, true, false, cond, ◌&&◌, ◌||◌, ◌==◌, List, [], ◌∷◌}
use Rattle.std.proofs.Common.{◌++◌, map, length, drop, refl, sym, ap, ◌∙◌, arith, subst, All, slice_index_or}
use Rattle.std.specs.List.{flat_map, list_all}
use Rattle.std.proofs.lemmas.Bool.{and_left, and_right, and_from, ne_eqb, true≢false}
use Rattle.std.proofs.lemmas.List.{append-nil, map-append, length-map}
use Rattle.std.proofs.lemmas.List.Concat.{flat_map-append}
use Rattle.std.proofs.lemmas.List.Folds.{list_all-append}
use Rattle.std.proofs.lemmas.List.Elements.{All-nil, All-append}
use Rattle.mp_base.specs.declared.number.Group.{Group}
use Rattle.mp_base.specs.declared.number.Guid.{Guid}
use Rattle.vdev_tree.specs.declared.vdev.Vdev.{Vdev}
use Rattle.vdev_tree.specs.declared.vdev.InnerVdev.{InnerVdev}
use Rattle.vdev_tree.specs.declared.vdev.LeafVdev.{LeafVdev}
use Rattle.vdev_tree.specs.declared.vdev.Vdev.TheVariants.{Leaf, Inner}
use Rattle.vdev_tree.specs.declared.vdev.Kind.{Kind}
use Rattle.vdev_tree.specs.declared.top.Top.{Top}
use Rattle.vdev_tree.specs.Tree.{joined, leaves, is_top}
use Rattle.vdev_tree.proofs.Folds.{leaves_leaf, leaves_inner}
use Rattle.pool_config.specs.Members.{Gathered, gathered, with_inner}
use Rattle.pool_config.specs.Reading.{Read, byte_in, count_in, number_in, many_in, leaf_in, kind_in, from_count}
use Rattle.pool_config.specs.Reading.{from_children, leaf_alone_in, inner_over, tree_in, top_in, tops_in}
use Rattle.pool_config.specs.Seen.{VdevSeen, leaf_vdev, inner_vdev, TopSeen, vdevs_of, top_seen, top_vdevs, top_leaves}
use Rattle.pool_config.specs.Seen.{IsRecorded}
use Rattle.pool_config.specs.Taken.{IsTakenLeaf, IsTakenTree, IsTakenTop, AreTakenTops}
use Rattle.pool_config.specs.Trees.{is_tree}
use Rattle.pool_config.specs.Validity.{is_leaf_of, is_vdev_of, is_top_of}
use Rattle.pool_config.proofs.Gathering.{gathered_none, gathered_inner, gathered_more}
use Rattle.pool_config.proofs.Lists.{joined_map, joined-append}
use Rattle.pool_config.proofs.Rooms.{vdevs_leaf, vdevs_inner}
use Rattle.pool_config.proofs.Shaping.{tree_is_top}
use Rattle.pool_config.proofs.Taking.{AreRead, none_read, one_read, all_read, bad_item, length-many}

-- ---- a leaf

later : (levels : ℕ) (s : List ℕ) (b : Bool) → (suc levels == 0 || byte_in s == 0) ≡ b → (byte_in s == 0) ≡ b
later levels s b is = sym (ap (λ a. a || byte_in s == 0) (ne_eqb (suc levels) 0 (λ e. omega (arith, e)))) ∙ is

tree_leaf : (levels : ℕ) (s : List ℕ) → (levels == 0 || byte_in s == 0) ≡ true → tree_in levels s ≡ leaf_alone_in s
unfolding tree_in
tree_leaf zero s is = refl
tree_leaf (suc levels) s is =
    ap (λ b. cond b (leaf_alone_in s) (inner_over s
    (many_in (tree_in levels) (byte_in (from_count s)) (from_children s)))) (later levels s true is)

pub leaf_tree_taken : (number : Group) (levels : ℕ) (s rest : List ℕ) (before after : Gathered) (leaf : LeafVdev)
    → (levels == 0 || byte_in s == 0) ≡ true
    → IsTakenLeaf number (leaf_in s) rest before after leaf
    → IsTakenTree number (tree_in levels s) rest before after (Leaf leaf)
leaf_tree_taken number levels s rest before after leaf here is =
    let there = tree_leaf levels s here in
    subst (λ (r : Read (List VdevSeen)). IsTakenTree number r rest before after (Leaf leaf)) (sym there) (record {
      vdevs = vdevs_leaf leaf ∙ ap (λ l. leaf_vdev l ∷ []) is.leaf;
      rest = is.rest;
      gathered = is.gathered;
      stand = and_from (is_leaf_of number (leaf_in s).value) true is.stands refl;
      recorded = subst (All IsRecorded) (sym (leaves_leaf leaf)) (λ k d lt. one k d lt);
    })
  where
    one : (k : ℕ) (d : LeafVdev) → k < 1 → IsRecorded (slice_index_or (leaf ∷ []) k d)
    one zero d lt = is.recorded
    one (suc k) d lt = absurd (omega arith)

pub leaf_tree_bad : (number : Group) (levels : ℕ) (s : List ℕ) → (levels == 0 || byte_in s == 0) ≡ true
    → is_leaf_of number (leaf_in s).value ≡ false
    → list_all (is_vdev_of number) (tree_in levels s).value ≡ false
leaf_tree_bad number levels s here bad =
    ap (λ r. list_all (is_vdev_of number) r.value) (tree_leaf levels s here)
    ∙ and_left (is_leaf_of number (leaf_in s).value) true bad

-- ---- an inner vdev

-- the children that were read so far
pub record AreChildren (number : Group) (levels left total : ℕ) (start rest : List ℕ) (before after : Gathered)
    (children : List Vdev) : Type 0 where
  pub read : AreRead (tree_in levels) left total (map vdevs_of children) rest start
  pub listed : after ≡ gathered before (joined (map vdevs_of children))
  pub stand : list_all (is_vdev_of number) (joined (map vdevs_of children)) ≡ true
  pub recorded : All IsRecorded (flat_map leaves children)

pub no_children : (number : Group) (levels left total : ℕ) (start : List ℕ) (before : Gathered) → left ≡ total
    → AreChildren number levels left total start start before before []
no_children number levels left total start before all = record {
  read = none_read (tree_in levels) left total start all;
  listed = gathered_none before;
  stand = refl;
  recorded = All-nil IsRecorded;
}

joined_more : (children : List Vdev) (child : Vdev)
    → joined (map vdevs_of (children ++ child ∷ [])) ≡ joined (map vdevs_of children) ++ vdevs_of child
joined_more children child =
    ap joined (map-append vdevs_of children (child ∷ [])) ∙ joined-append (map vdevs_of children) (vdevs_of child ∷ [])
    ∙ ap (λ vs. joined (map vdevs_of children) ++ vs) (append-nil (vdevs_of child))

pub child_taken : (number : Group) (levels left less total : ℕ) (start rest next : List ℕ)
    (before after later : Gathered) (children : List Vdev) (child : Vdev) → left ≡ suc less
    → AreChildren number levels left total start rest before after children
    → IsTakenTree number (tree_in levels rest) next after later child
    → AreChildren number levels less total start next before later (children ++ child ∷ [])
child_taken number levels left less total start rest next before after later children child is so_far one =
    let more = joined_more children child in
    record {
      read = subst (λ (vs : List (List VdevSeen)). AreRead (tree_in levels) less total vs next start)
          (sym (map-append vdevs_of children (child ∷ [])))
          (one_read (tree_in levels) left less total (map vdevs_of children) rest next start (vdevs_of child) is
          one.vdevs one.rest so_far.read);
      listed = one.gathered ∙ ap (λ m. gathered m (tree_in levels rest).value) so_far.listed
          ∙ ap (gathered (gathered before (joined (map vdevs_of children)))) (sym one.vdevs)
          ∙ gathered_more before (joined (map vdevs_of children)) (vdevs_of child) ∙ ap (gathered before) (sym more);
      stand = ap (list_all (is_vdev_of number)) more
          ∙ list_all-append (is_vdev_of number) (joined (map vdevs_of children)) (vdevs_of child)
          ∙ and_from (list_all (is_vdev_of number) (joined (map vdevs_of children))) _ so_far.stand
          (ap (list_all (is_vdev_of number)) one.vdevs ∙ one.stand);
      recorded = subst (All IsRecorded) (sym (flat_map-append leaves children (child ∷ [])
          ∙ ap (λ ls. flat_map leaves children ++ ls) (append-nil (leaves child))))
          (All-append IsRecorded (flat_map leaves children) (leaves child) so_far.recorded one.recorded);
    }

no_leaf_there : (levels : ℕ) (s : List ℕ) → (levels == 0 || byte_in s == 0) ≡ false
    → tree_in levels s ≡ inner_over s (many_in (tree_in (levels - 1)) (byte_in (from_count s)) (from_children s))
unfolding tree_in
no_leaf_there zero s is = absurd (true≢false is)
no_leaf_there (suc levels) s is =
    ap (λ b. cond b (leaf_alone_in s) (inner_over s
    (many_in (tree_in levels) (byte_in (from_count s)) (from_children s)))) (later levels s false is)
    ∙ ap (λ k. inner_over s (many_in (tree_in k) (byte_in (from_count s)) (from_children s)))
    (let e : levels ≡ suc levels - 1 = omega arith in e)

all_joined : (p : VdevSeen → Bool) (vss : List (List VdevSeen))
    → list_all p (joined vss) ≡ list_all (λ vs. list_all p vs) vss
all_joined p [] = refl
all_joined p (vs ∷ vss) = list_all-append p vs (joined vss) ∙ ap (λ b. list_all p vs && b) (all_joined p vss)

-- A child with a leaf that can't stand makes the tree one.
pub child_bad : (number : Group) (levels left less : ℕ) (s rest start : List ℕ) (before after : Gathered)
    (children : List Vdev) (total : ℕ) → (levels == 0 || byte_in s == 0) ≡ false
    → total ≡ byte_in (from_count s) → start ≡ from_children s → left ≡ suc less
    → AreChildren number (levels - 1) left total start rest before after children
    → list_all (is_vdev_of number) (tree_in (levels - 1) rest).value ≡ false
    → list_all (is_vdev_of number) (tree_in levels s).value ≡ false
child_bad number levels left less s rest start before after children total here count at is so_far bad =
    ap (λ r. list_all (is_vdev_of number) r.value) (no_leaf_there levels s here)
    ∙ all_joined (is_vdev_of number) (many_in (tree_in (levels - 1)) (byte_in (from_count s)) (from_children s)).value
    ∙ ap (λ n. list_all (λ vs. list_all (is_vdev_of number) vs)
    (many_in (tree_in (levels - 1)) n (from_children s)).value) (sym count)
    ∙ ap (λ t. list_all (λ vs. list_all (is_vdev_of number) vs) (many_in (tree_in (levels - 1)) total t).value) (sym at)
    ∙ bad_item (tree_in (levels - 1)) (λ vs. list_all (is_vdev_of number) vs) left less total (map vdevs_of children)
    rest start is so_far.read bad

abbrev inner_with : (guid : Guid) → Kind → ℕ → List VdevSeen → List VdevSeen
inner_with guid kind count vdevs = inner_vdev guid kind count ∷ vdevs

same_inner : (g g' : Guid) (k k' : Kind) (n n' : ℕ) (v v' : List VdevSeen) → g ≡ g' → k ≡ k' → n ≡ n' → v ≡ v'
    → inner_with g k n v ≡ inner_with g' k' n' v'
same_inner g g' k k' n n' v v' e1 e2 e3 e4 = cc

same_guid : (g : Guid) (n : ℕ) → g.0 ≡ n → g ≡ record { 0 = n }
same_guid g n e = ap (λ k. number_as k) e
  where
    number_as : ℕ → Guid
    number_as k = record { 0 = k }

pub inner_taken : (number : Group) (levels left total : ℕ) (s start rest : List ℕ) (first before after : Gathered)
    (inner : InnerVdev) (children : List Vdev) → (levels == 0 || byte_in s == 0) ≡ false
    → inner.kind ≡ kind_in (byte_in s) → inner.guid.0 ≡ number_in (drop 1 s) → total ≡ byte_in (from_count s)
    → start ≡ from_children s → left ≡ 0
    → before ≡ with_inner first inner.guid.0 → children ≡ inner.children.items
    → AreChildren number (levels - 1) left total start rest before after children
    → IsTakenTree number (tree_in levels s) rest first after (Inner inner)
inner_taken number levels left total s start rest first before after inner children here kind guid count at none begun
    same are =
    let many = many_in (tree_in (levels - 1)) (byte_in (from_count s)) (from_children s) in
    let there : tree_in levels s ≡ inner_over s many = no_leaf_there levels s here in
    let moved : many_in (tree_in (levels - 1)) total start ≡ many =
    ap (λ n. many_in (tree_in (levels - 1)) n start) count
    ∙ ap (many_in (tree_in (levels - 1)) (byte_in (from_count s))) at in
    let read = all_read (tree_in (levels - 1)) left total (map vdevs_of children) rest start none are.read in
    let under : joined (map vdevs_of children) ≡ joined many.value = ap joined (read.0 ∙ ap (λ r. r.value) moved) in
    let long : length children ≡ byte_in (from_count s) =
    sym (length-map children vdevs_of) ∙ ap length (read.0 ∙ ap (λ r. r.value) moved)
    ∙ length-many (tree_in (levels - 1)) (byte_in (from_count s)) (from_children s) in
    let vdevs : inner_vdev inner.guid inner.kind (length children) ∷ joined (map vdevs_of children)
    ≡ (inner_over s many).value =
    same_inner _ _ _ _ _ _ _ _ (same_guid inner.guid (number_in (drop 1 s)) guid) kind long under in
    subst (λ (r : Read (List VdevSeen)). IsTakenTree number r rest first after (Inner inner)) (sym there) (record {
      vdevs = vdevs_inner inner ∙ ap (λ vs. inner_vdev inner.guid inner.kind (length
          vs) ∷ flat_map vdevs_of vs) (sym same)
          ∙ ap (λ vs. inner_vdev inner.guid inner.kind (length children) ∷ vs) (sym (joined_map vdevs_of children))
          ∙ vdevs;
      rest = read.1 ∙ ap (λ r. r.rest) moved;
      gathered = are.listed ∙ ap (λ m. gathered m (joined (map vdevs_of children))) begun
          ∙ gathered_inner first inner.guid inner.kind (length children) (joined (map vdevs_of children))
          ∙ ap (gathered first) vdevs;
      stand = ap (list_all (is_vdev_of number)) (sym vdevs) ∙ are.stand;
      recorded = subst (All IsRecorded) (ap (flat_map leaves) same ∙ sym (leaves_inner inner)) are.recorded;
    })

-- ---- a top

abbrev top_with : ℕ → List VdevSeen → TopSeen
top_with sectors vdevs = record { sectors = sectors; vdevs = vdevs }

pub top_taken : (number : Group) (s tree rest : List ℕ) (before after : Gathered) (sectors : ℕ) (mirror : Vdev)
    (top : Top) → sectors ≡ number_in s → tree ≡ drop 8 s
    → IsTakenTree number (tree_in 3 tree) rest before after mirror → top.mirror ≡ mirror → top.sectors ≡ sectors
    → is_top mirror ≡ true → IsTakenTop number (top_in s) rest before after top
unfolding top_in
top_taken number s tree rest before after sectors mirror top size at is same sized valid =
    let there : tree_in 3 tree ≡ tree_in 3 (drop 8 s) = ap (tree_in 3) at in
    let vdevs : vdevs_of top.mirror ≡ (tree_in 3 (drop 8 s)).value =
    ap vdevs_of same ∙ is.vdevs ∙ ap (λ r. r.value) there in
    record {
      top = same_top _ _ _ _ (sized ∙ size) vdevs;
      rest = is.rest ∙ ap (λ r. r.rest) there;
      gathered = is.gathered ∙ ap (λ r. gathered before r.value) there;
      stands = and_from (is_tree (tree_in 3 (drop 8 s)).value) _
          (ap is_tree (sym vdevs ∙ ap vdevs_of same) ∙ tree_is_top mirror ∙ valid)
          (ap (λ r. list_all (is_vdev_of number) r.value) (sym there) ∙ is.stand);
      recorded = subst (λ (v : Vdev). All IsRecorded (leaves v)) (sym same) is.recorded;
    }
  where
    same_top : (a b : ℕ) (v w : List VdevSeen) → a ≡ b → v ≡ w → top_with a v ≡ top_with b w
    same_top a b v w e f = cc

-- what is no tree of a top, or has a leaf that can't stand

pub top_untaken : (number : Group) (s tree rest : List ℕ) (before after : Gathered) (mirror : Vdev) → tree ≡ drop 8 s
    → IsTakenTree number (tree_in 3 tree) rest before after mirror
    → is_top mirror ≡ false → is_top_of number (top_in s).value ≡ false
unfolding top_in
top_untaken number s tree rest before after mirror at is bad =
    and_left (is_tree (tree_in 3 (drop 8 s)).value) _
    (ap (λ t. is_tree (tree_in 3 t).value) (sym at) ∙ ap is_tree (sym is.vdevs) ∙ tree_is_top mirror ∙ bad)

pub top_bad : (number : Group) (s tree : List ℕ) → tree ≡ drop 8 s
    → list_all (is_vdev_of number) (tree_in 3 tree).value ≡ false → is_top_of number (top_in s).value ≡ false
unfolding top_in
top_bad number s tree at bad =
    and_right (is_tree (tree_in 3 (drop 8 s)).value) _
    (ap (λ t. list_all (is_vdev_of number) (tree_in 3 t).value) (sym at) ∙ bad)

-- ---- tops

pub record AreTops (number : Group) (left total : ℕ) (start rest : List ℕ) (before after : Gathered) (tops : List Top) :
    Type 0 where
  pub read : AreRead top_in left total (map top_seen tops) rest start
  pub listed : after ≡ gathered before (flat_map top_vdevs (map top_seen tops))
  pub stand : list_all (is_top_of number) (map top_seen tops) ≡ true
  pub recorded : All IsRecorded (flat_map top_leaves tops)

pub no_tops : (number : Group) (left total : ℕ) (start : List ℕ) (before : Gathered) → left ≡ total
    → AreTops number left total start start before before []
no_tops number left total start before all = record {
  read = none_read top_in left total start all;
  listed = gathered_none before;
  stand = refl;
  recorded = All-nil IsRecorded;
}

pub one_top : (number : Group) (left less total : ℕ) (start rest next : List ℕ) (before after later : Gathered)
    (tops : List Top) (top : Top) → left ≡ suc less
    → AreTops number left total start rest before after tops → IsTakenTop number (top_in rest) next after later top
    → AreTops number less total start next before later (tops ++ top ∷ [])
one_top number left less total start rest next before after later tops top is so_far one =
    let seen = map-append top_seen tops (top ∷ []) in
    let more : flat_map top_vdevs (map top_seen (tops ++ top ∷ []))
    ≡ flat_map top_vdevs (map top_seen tops) ++ (top_seen top).vdevs =
    ap (flat_map top_vdevs) seen ∙ flat_map-append top_vdevs (map top_seen tops) (top_seen top ∷ [])
    ∙ ap (λ vs. flat_map top_vdevs (map top_seen tops) ++ vs) (append-nil (top_seen top).vdevs) in
    record {
      read = subst (λ (ts : List TopSeen). AreRead top_in less total ts next start) (sym seen)
          (one_read top_in left less total (map top_seen tops) rest next start (top_seen top) is one.top one.rest
          so_far.read);
      listed = one.gathered ∙ ap (λ m. gathered m (top_in rest).value.vdevs) so_far.listed
          ∙ ap (λ (t : TopSeen). gathered (gathered before (flat_map top_vdevs (map top_seen tops))) t.vdevs)
          (sym one.top)
          ∙ gathered_more before (flat_map top_vdevs (map top_seen tops)) (top_seen top).vdevs
          ∙ ap (gathered before) (sym more);
      stand = ap (list_all (is_top_of number)) seen
          ∙ list_all-append (is_top_of number) (map top_seen tops) (top_seen top ∷ [])
          ∙ and_from (list_all (is_top_of number) (map top_seen tops)) _ so_far.stand
          (and_from (is_top_of number (top_seen top)) true (ap (is_top_of number) one.top ∙ one.stands) refl);
      recorded = subst (All IsRecorded) (sym (flat_map-append top_leaves tops (top ∷ [])
          ∙ ap (λ ls. flat_map top_leaves tops ++ ls) (append-nil (top_leaves top))))
          (All-append IsRecorded (flat_map top_leaves tops) (top_leaves top) so_far.recorded one.recorded);
    }

tops_there : (s start : List ℕ) (total : ℕ) → total ≡ count_in s → start ≡ drop 4 s
    → many_in top_in total start ≡ tops_in s
unfolding tops_in
tops_there s start total e f = ap (λ n. many_in top_in n start) e ∙ ap (many_in top_in (count_in s)) f

pub tops_taken : (number : Group) (left total : ℕ) (s start rest : List ℕ) (before after : Gathered) (tops : List Top)
    → total ≡ count_in s → start ≡ drop 4 s → left ≡ 0
    → AreTops number left total start rest before after tops → AreTakenTops number (tops_in s) rest before after tops
tops_taken number left total s start rest before after tops count at none are =
    let there = tops_there s start total count at in
    let read = all_read top_in left total (map top_seen tops) rest start none are.read in
    let same : map top_seen tops ≡ (tops_in s).value = read.0 ∙ ap (λ r. r.value) there in
    record {
      tops = same;
      rest = read.1 ∙ ap (λ r. r.rest) there;
      gathered = are.listed ∙ ap (λ ts. gathered before (flat_map top_vdevs ts)) same;
      stand = ap (list_all (is_top_of number)) (sym same) ∙ are.stand;
      recorded = are.recorded;
    }

pub tops_bad : (number : Group) (left less total : ℕ) (s start rest : List ℕ) (before after : Gathered)
    (tops : List Top) → total ≡ count_in s → start ≡ drop 4 s → left ≡ suc less
    → AreTops number left total start rest before after tops → is_top_of number (top_in rest).value ≡ false
    → list_all (is_top_of number) (tops_in s).value ≡ false
tops_bad number left less total s start rest before after tops count at is are bad =
    ap (λ r. list_all (is_top_of number) r.value) (sym (tops_there s start total count at))
    ∙ bad_item top_in (is_top_of number) left less total (map top_seen tops) rest start is are.read bad
