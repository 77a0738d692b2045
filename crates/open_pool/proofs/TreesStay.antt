-- Trees that are built alike over leaves of the same numbers are told alike: their numbers, and their mirrors' children.
use Rattle.std.proofs.Common.{◌≡◌, ℕ, zero, suc, List, [], ◌∷◌, ◌++◌, length, map, drop, refl, sym, ap, ◌∙◌, arith, append_assoc}
use Rattle.std.proofs.Math.Path.{fun_ext}
use Rattle.std.specs.List.{flat_map, AllZip}
use Rattle.std.proofs.lemmas.List.{append-nil, length-map, map-append, take_at, drop_at}
use Rattle.mp_base.specs.declared.number.Guid.{Guid}
use Rattle.vdev_tree.specs.declared.vdev.Kind.{Kind}
use Rattle.vdev_tree.specs.declared.vdev.LeafVdev.{LeafVdev}
use Rattle.vdev_tree.specs.declared.vdev.InnerVdev.{InnerVdev}
use Rattle.vdev_tree.specs.declared.vdev.Vdev.{Vdev}
use Rattle.vdev_tree.specs.declared.vdev.Vdev.TheVariants.{Leaf, Inner}
use Rattle.vdev_tree.specs.declared.top.Top.{Top}
use Rattle.vdev_tree.specs.Tree.{leaves, marks, Mark, leaf_mark, opening, closing}
use Rattle.vdev_tree.proofs.Folds.{leaves_leaf, leaves_inner, marks_at_leaf, marks_inner}
use Rattle.dtl_rules.specs.Widening.{marks_of}
use Rattle.txg_history.specs.Trees.{Single, Plain, Child}
use Rattle.pool_config.specs.Seen.{VdevSeen, vdevs_of, mirror_vdevs}
use Rattle.pool_config.proofs.Induction.{Held, vdevs_held, of_every_vdev}
use Rattle.pool_config.proofs.Rooms.{vdevs_leaf, vdevs_inner}
use Rattle.pool_codec.specs.Tops.{number_of, children_of}
use Rattle.pool_codec.specs.Vdevs.{Node, a_child, over, node_over, nodes, mirror_number, mirror_children}
use Rattle.open_pool.specs.Parts.{all_parts}
use Rattle.open_pool.specs.State.{leaves_under, vdevs_in}
use Rattle.open_pool.proofs.BoardKept.{AreSameLeaves}
use Rattle.open_pool.proofs.LeavesByTops.{under_all, sizes}

abbrev pub leaf_guids : List LeafVdev → List Guid
leaf_guids leaves = map (λ leaf. leaf.guid) leaves

-- leaves that have their numbers still, whatever else has changed
abbrev pub AreNumberedAlike : List LeafVdev → List LeafVdev → Type 0
AreNumberedAlike old new = AllZip (λ was is. is.guid ≡ was.guid) old new

pub numbered_alike : (old new : List LeafVdev) → AreSameLeaves old new → AreNumberedAlike old new
numbered_alike [] [] same = tt
numbered_alike [] (y ∷ new) same = absurd same
numbered_alike (x ∷ old) [] same = absurd same
numbered_alike (x ∷ old) (y ∷ new) same = (same.0.guid, numbered_alike old new same.1)

-- an inner vdev that is being read, and what stands before it
record Frame : Type 0 where
  guid : Guid
  kind : Kind
  before : List Node

-- what is read of marks and of the numbers of leaves
abbrev read : List Mark → List Guid → (here : List Node) → List Frame → List Node
read [] ms here frames = here
read (leaf_mark ∷ marks) [] here frames = here
read (leaf_mark ∷ marks) (m ∷ ms) here frames = read marks ms (here ++ a_child (Plain (Single m)) ∷ []) frames
read (opening guid kind ∷ marks) ms here frames = read marks ms []
    (record { guid = guid; kind = kind; before = here } ∷ frames)
read (closing ∷ marks) ms here [] = here
read (closing ∷ marks) ms here (frame ∷ frames) = read marks ms
    (frame.before ++ over frame.guid frame.kind here ∷ []) frames

-- A vdev is one node, in the configuration and by its marks and its leaves.
record IsRead (v : Vdev) : Type 0 where
  node : Node
  seen : (rest : List VdevSeen) → nodes (vdevs_of v ++ rest) ≡ node ∷ nodes rest
  told : (ms : List Mark) (gs : List Guid) (here : List Node) (frames : List Frame)
      → read (marks v ++ ms) (leaf_guids (leaves v) ++ gs) here frames ≡ read ms gs (here ++ node ∷ []) frames

leaf_read : (leaf : LeafVdev) → IsRead (Leaf leaf)
unfolding nodes
leaf_read leaf = record {
  node = a_child (Plain (Single leaf.guid));
  seen = λ rest. ap (λ vs. nodes (vs ++ rest)) (vdevs_leaf leaf);
  told = λ ms gs here frames. ap (λ l. read (l ++ ms) (leaf_guids (leaves (Leaf leaf)) ++ gs) here frames)
      (marks_at_leaf leaf)
      ∙ ap (λ ls. read (leaf_mark ∷ ms) (leaf_guids ls ++ gs) here frames) (leaves_leaf leaf);
}

abbrev nodes_held : List (Held IsRead) → List Node
nodes_held held = map (λ e. e.1.node) held

all_seen : (held : List (Held IsRead)) (rest : List VdevSeen)
    → nodes (flat_map vdevs_of (vdevs_held IsRead held) ++ rest) ≡ nodes_held held ++ nodes rest
all_seen [] rest = refl
all_seen (e ∷ held) rest =
    ap nodes (append_assoc (vdevs_of e.0) (flat_map vdevs_of (vdevs_held IsRead held)) rest)
    ∙ e.1.seen (flat_map vdevs_of (vdevs_held IsRead held) ++ rest) ∙ ap (λ ns. e.1.node ∷ ns) (all_seen held rest)

all_told : (held : List (Held IsRead)) (ms : List Mark) (gs : List Guid) (here : List Node) (frames : List Frame)
    → read (flat_map marks (vdevs_held IsRead held) ++ ms)
    (leaf_guids (flat_map leaves (vdevs_held IsRead held)) ++ gs) here frames
    ≡ read ms gs (here ++ nodes_held held) frames
all_told [] ms gs here frames = ap (λ ns. read ms gs ns frames) (sym (append-nil here))
all_told (e ∷ held) ms gs here frames =
    let vs = vdevs_held IsRead held in
    ap (λ l. read l (leaf_guids (leaves e.0 ++ flat_map leaves vs) ++ gs) here frames)
    (append_assoc (marks e.0) (flat_map marks vs) ms)
    ∙ ap (λ l. read (marks e.0 ++ (flat_map marks vs ++ ms)) (l ++ gs) here frames)
    (map-append (λ (leaf : LeafVdev). leaf.guid) (leaves e.0) (flat_map leaves vs))
    ∙ ap (λ l. read (marks e.0 ++ (flat_map marks vs ++ ms)) l here frames)
    (append_assoc (leaf_guids (leaves e.0)) (leaf_guids (flat_map leaves vs)) gs)
    ∙ e.1.told (flat_map marks vs ++ ms) (leaf_guids (flat_map leaves vs) ++ gs) here frames
    ∙ all_told held ms gs (here ++ e.1.node ∷ []) frames
    ∙ ap (λ ns. read ms gs ns frames) (append_assoc here (e.1.node ∷ []) (nodes_held held))

over_exact : (m : Guid) (kind : Kind) (n : ℕ) (ns rest : List Node) → n ≡ length ns
    → node_over m kind n (ns ++ rest) ≡ over m kind ns ∷ rest
over_exact m kind n ns rest long =
    ap (λ xs. over m kind xs ∷ drop n (ns ++ rest)) (take_at ns rest n (sym long))
    ∙ ap (λ xs. over m kind ns ∷ xs) (drop_at ns rest n (sym long))

as_many : (held : List (Held IsRead)) (vs : List Vdev) → vdevs_held IsRead held ≡ vs
    → length vs ≡ length (nodes_held held)
as_many held vs is = ap length (sym is) ∙ length-map held (λ e. e.0) ∙ sym (length-map held (λ e. e.1.node))

inner_read : (inner : InnerVdev) (held : List (Held IsRead)) → vdevs_held IsRead held ≡ inner.children.items
    → IsRead (Inner inner)
unfolding nodes
inner_read inner held is = record {
  node = over inner.guid inner.kind (nodes_held held);
  seen = λ rest. ap (λ vs. nodes (vs ++ rest)) (vdevs_inner inner)
      ∙ ap (λ vs. node_over inner.guid inner.kind (length inner.children.items) (nodes (flat_map vdevs_of vs ++ rest)))
      (sym is)
      ∙ ap (node_over inner.guid inner.kind (length inner.children.items)) (all_seen held rest)
      ∙ over_exact inner.guid inner.kind (length inner.children.items) (nodes_held held) (nodes rest)
      (as_many held inner.children.items is);
  told = λ ms gs here frames.
      let frame : Frame = record { guid = inner.guid; kind = inner.kind; before = here } in
      ap (λ l. read (l ++ ms) (leaf_guids (leaves (Inner inner)) ++ gs) here frames) (marks_inner inner)
      ∙ ap (λ l. read l (leaf_guids (leaves (Inner inner)) ++ gs) [] (frame ∷ frames))
      (append_assoc (flat_map marks inner.children.items) (closing ∷ []) ms)
      ∙ ap (λ ls. read (flat_map marks inner.children.items ++ (closing ∷ ms)) (leaf_guids ls ++ gs) []
      (frame ∷ frames)) (leaves_inner inner)
      ∙ ap (λ vs. read (flat_map marks vs ++ (closing ∷ ms)) (leaf_guids (flat_map leaves vs) ++ gs) []
      (frame ∷ frames)) (sym is)
      ∙ all_told held (closing ∷ ms) gs [] (frame ∷ frames);
}

all_read : (v : Vdev) → IsRead v
all_read = of_every_vdev IsRead leaf_read inner_read

first_same : (a b : Node) → a ∷ [] ≡ b ∷ [] → a ≡ b
first_same a b same = cc

-- so two trees of the same marks and numbers are told alike
pub told_alike : (a b : Vdev) → marks a ≡ marks b → leaf_guids (leaves a) ≡ leaf_guids (leaves b)
    → nodes (vdevs_of a) ≡ nodes (vdevs_of b)
told_alike a b built same =
    let x = all_read a in
    let y = all_read b in
    let one : x.node ≡ y.node = first_same x.node y.node
    (sym (x.told [] [] [] []) ∙ ap (λ ms. read (ms ++ []) (leaf_guids (leaves a) ++ []) [] []) built
    ∙ ap (λ gs. read (marks b ++ []) (gs ++ []) [] []) same ∙ y.told [] [] [] []) in
    ap nodes (sym (append-nil (vdevs_of a))) ∙ x.seen [] ∙ ap (λ n. n ∷ nodes []) one ∙ sym (y.seen [])
    ∙ ap nodes (append-nil (vdevs_of b))

-- Of tops.
pub same_guids : (old new : List LeafVdev) → AreNumberedAlike old new → leaf_guids new ≡ leaf_guids old
same_guids [] [] same = refl
same_guids [] (y ∷ new) same = absurd same
same_guids (x ∷ old) [] same = absurd same
same_guids (x ∷ old) (y ∷ new) same = ap (λ m. m ∷ leaf_guids new) same.0
    ∙ ap (λ ms. x.guid ∷ ms) (same_guids old new same.1)

pub front_same : (xs ys xs' ys' : List LeafVdev) → length ys ≡ length xs → AreNumberedAlike (xs ++ xs') (ys ++ ys')
    → AreNumberedAlike xs ys × AreNumberedAlike xs' ys'
front_same [] [] xs' ys' long same = (tt, same)
front_same [] (y ∷ ys) xs' ys' long same = absurd (omega (arith, long))
front_same (x ∷ xs) [] xs' ys' long same = absurd (omega (arith, long))
front_same (x ∷ xs) (y ∷ ys) xs' ys' long same = let rest = front_same xs ys xs' ys' (omega (arith, long)) same.1 in
    ((same.0, rest.0), rest.1)

pub head_same : (a b : ℕ) (xs ys : List ℕ) → a ∷ xs ≡ b ∷ ys → a ≡ b
head_same a b xs ys e = cc

pub tail_same : (a b : ℕ) (xs ys : List ℕ) → a ∷ xs ≡ b ∷ ys → xs ≡ ys
tail_same a b xs ys e = cc

head_marks : (a b : List Mark) (xs ys : List (List Mark)) → a ∷ xs ≡ b ∷ ys → a ≡ b
head_marks a b xs ys e = cc

tail_marks : (a b : List Mark) (xs ys : List (List Mark)) → a ∷ xs ≡ b ∷ ys → xs ≡ ys
tail_marks a b xs ys e = cc

-- what is told of tops
abbrev AreTold : List Top → List Top → Type 0
AreTold old new = (number_of (map mirror_vdevs new) ≡ number_of (map mirror_vdevs old)) ×
    (children_of (map mirror_vdevs new) ≡ children_of (map mirror_vdevs old))

number_with : List Node → (ℕ → Guid) → ℕ → Guid
number_with here rest zero = record { 0 = 0 }
number_with here rest (suc zero) = mirror_number here
number_with here rest (suc (suc i)) = rest (suc i)

number_more : (vdevs : List VdevSeen) (tops : List (List VdevSeen))
    → number_of (vdevs ∷ tops) ≡ number_with (nodes vdevs) (number_of tops)
unfolding number_with
number_more vdevs tops = fun_ext one
  where
    one : (i : ℕ) → number_of (vdevs ∷ tops) i ≡ number_with (nodes vdevs) (number_of tops) i
    one zero = refl
    one (suc zero) = refl
    one (suc (suc i)) = refl

children_with : List Node → (ℕ → List Child) → ℕ → List Child
children_with here rest zero = []
children_with here rest (suc zero) = mirror_children here
children_with here rest (suc (suc i)) = rest (suc i)

children_more : (vdevs : List VdevSeen) (tops : List (List VdevSeen))
    → children_of (vdevs ∷ tops) ≡ children_with (nodes vdevs) (children_of tops)
unfolding children_with
children_more vdevs tops = fun_ext one
  where
    one : (i : ℕ) → children_of (vdevs ∷ tops) i ≡ children_with (nodes vdevs) (children_of tops) i
    one zero = refl
    one (suc zero) = refl
    one (suc (suc i)) = refl

all_told_alike : (old new : List Top) → marks_of new ≡ marks_of old
    → sizes (leaves_under (all_parts new)) ≡ sizes (leaves_under (all_parts old))
    → AreNumberedAlike (under_all (leaves_under (all_parts old))) (under_all (leaves_under (all_parts new)))
    → AreTold old new
all_told_alike [] [] built long same = (refl, refl)
all_told_alike [] (t ∷ new) built long same = absurd (cc)
all_told_alike (t ∷ old) [] built long same = absurd (cc)
all_told_alike (t ∷ old) (u ∷ new) built long same =
    let parts = front_same (leaves t.mirror) (leaves u.mirror) (under_all (leaves_under (all_parts old)))
    (under_all (leaves_under (all_parts new)))
    (head_same (length (leaves u.mirror)) (length (leaves t.mirror)) (sizes (leaves_under (all_parts new)))
    (sizes (leaves_under (all_parts old))) long) same in
    let here = told_alike u.mirror t.mirror
    (head_marks (marks u.mirror) (marks t.mirror) (marks_of new) (marks_of old) built)
    (same_guids (leaves t.mirror) (leaves u.mirror) parts.0) in
    let rest = all_told_alike old new (tail_marks (marks u.mirror) (marks t.mirror) (marks_of new) (marks_of old) built)
    (tail_same (length (leaves u.mirror)) (length (leaves t.mirror)) (sizes (leaves_under (all_parts new)))
    (sizes (leaves_under (all_parts old))) long) parts.1 in (
      number_more (vdevs_of u.mirror) (map mirror_vdevs new)
          ∙ ap (λ ns. number_with ns (number_of (map mirror_vdevs new))) here
          ∙ ap (number_with (nodes (vdevs_of t.mirror))) rest.0
          ∙ sym (number_more (vdevs_of t.mirror) (map mirror_vdevs old)),
      children_more (vdevs_of u.mirror) (map mirror_vdevs new)
          ∙ ap (λ ns. children_with ns (children_of (map mirror_vdevs new))) here
          ∙ ap (children_with (nodes (vdevs_of t.mirror))) rest.1
          ∙ sym (children_more (vdevs_of t.mirror) (map mirror_vdevs old)),
    )

pub vdevs_are : (tops : List Top) → vdevs_in (all_parts tops) ≡ map mirror_vdevs tops
vdevs_are [] = refl
vdevs_are (top ∷ tops) = ap (λ vs. mirror_vdevs top ∷ vs) (vdevs_are tops)

-- Tops that are built alike over leaves of the same numbers have the same numbers, and their mirrors have the same children.
pub record AreTreesAlike (old new : List Top) : Type 0 where
  pub numbers : number_of (vdevs_in (all_parts new)) ≡ number_of (vdevs_in (all_parts old))
  pub children : children_of (vdevs_in (all_parts new)) ≡ children_of (vdevs_in (all_parts old))

pub trees_alike : (old new : List Top) → marks_of new ≡ marks_of old
    → sizes (leaves_under (all_parts new)) ≡ sizes (leaves_under (all_parts old))
    → AreNumberedAlike (under_all (leaves_under (all_parts old))) (under_all (leaves_under (all_parts new)))
    → AreTreesAlike old new
trees_alike old new built long same =
    let told = all_told_alike old new built long same in
    record {
      numbers = ap number_of (vdevs_are new) ∙ told.0 ∙ ap number_of (sym (vdevs_are old));
      children = ap children_of (vdevs_are new) ∙ told.1 ∙ ap children_of (sym (vdevs_are old));
    }
