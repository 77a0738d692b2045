-- What edits make of the leaves of a tree.
use Rattle.std.proofs.Common.{◌≡◌, ◌⊎◌, inl, inr, ⊎_elim, ℕ, ◌==◌, ◌||◌, Bool, true, false, cond, Option, Some, None, List, [], ◌∷◌, ◌++◌, refl, sym, ap, ◌∙◌, subst, arith, append-nil, append_assoc}
use Rattle.std.specs.List.{AllByRecursion}
use Rattle.std.proofs.lemmas.Bool.Decides.{nat_tests}
use Rattle.mp_base.specs.declared.number.Guid.{Guid}
use Rattle.txg_history.proofs.Logging.{by_bool, true_not_false}
use Rattle.pool_moves.specs.TreeLeaves.{AreDifferent}
use Rattle.pool_moves.specs.Trees.{Branch, Single, Replacing, Child, Plain, Spared, same_number, branch_leaves, option_leaves, child_leaves, tree_leaves, is_single, may_be_replaced, has_replaceable, attached, replaced_branch, replaced_child, replaced, pruned_branch, pruned_spares, pruned_first, pruned_plain, pruned_child, pruned}
use Rattle.std.proofs.lemmas.Bool.{or_cases}

-- A number put behind another one, and one taken out.
abbrev pub put_behind : (m new : Guid) → List Guid → List Guid
put_behind m new [] = []
put_behind m new (n ∷ ns) = cond (same_number m n) (n ∷ (new ∷ ns)) (n ∷ put_behind m new ns)

abbrev pub taken_out : (m : Guid) → List Guid → List Guid
taken_out m [] = []
taken_out m (n ∷ ns) = cond (same_number m n) ns (n ∷ taken_out m ns)

-- none of these is the number
abbrev pub HasNot : Guid → List Guid → Type 0
HasNot m ns = AllByRecursion (λ n. same_number m n ≡ false) ns

-- one of them is
abbrev pub Has : Guid → List Guid → Type 0
Has m [] = ⊥
Has m (n ∷ ns) = (same_number m n ≡ true) ⊎ Has m ns

pub has_both : {A : Type 0} (m : Guid) (ns : List Guid) → Has m ns → HasNot m ns → A
has_both m [] has not_one = absurd has
has_both m (n ∷ ns) (inl is) not_one = true_not_false (same_number m n) is not_one.0
has_both m (n ∷ ns) (inr has) not_one = has_both m ns has not_one.1

same_on : (a b c : ℕ) → (a == b) ≡ true → (b == c) ≡ false → (a == c) ≡ false
same_on a b c same off = grind (arith, nat_tests)

-- one that is among some numbers isn't among others that differ
not_among : (m n : Guid) (ns : List Guid) → same_number m n ≡ true → HasNot n ns → HasNot m ns
not_among m n [] same off = tt
not_among m n (x ∷ ns) same off = (same_on m.0 n.0 x.0 same off.0, not_among m n ns same off.1)

pub part_first : (P : Guid → Type 0) (xs ys : List Guid) → AllByRecursion P (xs ++ ys) → AllByRecursion P xs
part_first P [] ys all = tt
part_first P (x ∷ xs) ys all = (all.0, part_first P xs ys all.1)

pub part_second : (P : Guid → Type 0) (xs ys : List Guid) → AllByRecursion P (xs ++ ys) → AllByRecursion P ys
part_second P [] ys all = all
part_second P (x ∷ xs) ys all = part_second P xs ys all.1

different_first : (xs ys : List Guid) → AreDifferent (xs ++ ys) → AreDifferent xs
different_first [] ys all = tt
different_first (x ∷ xs) ys all = (part_first (λ n. same_number x n ≡ false) xs ys all.0, different_first xs ys all.1)

different_second : (xs ys : List Guid) → AreDifferent (xs ++ ys) → AreDifferent ys
different_second [] ys all = all
different_second (x ∷ xs) ys all = different_second xs ys all.1

has_first : (m : Guid) (xs ys : List Guid) → AreDifferent (xs ++ ys) → Has m xs → HasNot m ys
has_first m [] ys all has = absurd has
has_first m (x ∷ xs) ys all (inl is) = not_among m x ys is (part_second (λ n. same_number x n ≡ false) xs ys all.0)
has_first m (x ∷ xs) ys all (inr has) = has_first m xs ys all.1 has

has_second : (m : Guid) (xs ys : List Guid) → AreDifferent (xs ++ ys) → Has m ys → HasNot m xs
has_second m [] ys all has = tt
has_second m (x ∷ xs) ys all has = (
  by_bool (same_number m x) (λ is. has_both m ys has (not_among m x ys is (part_second (λ n. same_number x n ≡ false) xs ys all.0))) (λ off. off),
  has_second m xs ys all.1 has,
)

has_or_not : (m : Guid) (ns : List Guid) → Has m ns ⊎ HasNot m ns
has_or_not m [] = inr tt
has_or_not m (n ∷ ns) = by_bool (same_number m n) (λ is. inl (inl is)) (λ off. ⊎_elim (λ has. inl (inr has)) (λ none. inr (off, none)) (has_or_not m ns))

-- Lists one after another.
put_later : (m new : Guid) (xs ys : List Guid) → HasNot m xs → put_behind m new (xs ++ ys) ≡ xs ++ put_behind m new ys
put_later m new [] ys off = refl
put_later m new (x ∷ xs) ys off =
    ap (λ t. cond t (x ∷ (new ∷ (xs ++ ys))) (x ∷ put_behind m new (xs ++ ys))) off.0 ∙ ap (λ l. x ∷ l) (put_later m new xs ys off.1)

taken_none : (m : Guid) (xs : List Guid) → HasNot m xs → taken_out m xs ≡ xs
taken_none m [] off = refl
taken_none m (x ∷ xs) off = ap (λ t. cond t xs (x ∷ taken_out m xs)) off.0 ∙ ap (λ l. x ∷ l) (taken_none m xs off.1)

taken_later : (m : Guid) (xs ys : List Guid) → HasNot m xs → taken_out m (xs ++ ys) ≡ xs ++ taken_out m ys
taken_later m [] ys off = refl
taken_later m (x ∷ xs) ys off = ap (λ t. cond t (xs ++ ys) (x ∷ taken_out m (xs ++ ys))) off.0 ∙ ap (λ l. x ∷ l) (taken_later m xs ys off.1)

taken_first : (m : Guid) (xs ys : List Guid) → Has m xs → taken_out m (xs ++ ys) ≡ taken_out m xs ++ ys
taken_first m [] ys has = absurd has
taken_first m (x ∷ xs) ys has = by_bool (same_number m x)
    (λ is. ap (λ t. cond t (xs ++ ys) (x ∷ taken_out m (xs ++ ys))) is ∙ sym (ap (λ t. cond t xs (x ∷ taken_out m xs) ++ ys) is))
    (λ off. ap (λ t. cond t (xs ++ ys) (x ∷ taken_out m (xs ++ ys))) off ∙ (ap (λ l. x ∷ l) (taken_first m xs ys (later off has))
    ∙ sym (ap (λ t. cond t xs (x ∷ taken_out m xs) ++ ys) off)))
  where
    later : same_number m x ≡ false → (same_number m x ≡ true) ⊎ Has m xs → Has m xs
    later off (inl is) = true_not_false (same_number m x) is off
    later off (inr has) = has

-- A leaf is attached.
pub attached_leaves : (new : Guid) (children : List Child) → tree_leaves (attached new children) ≡ tree_leaves children ++ (new ∷ [])
attached_leaves new [] = refl
attached_leaves new (child ∷ children) =
    ap (λ l. child_leaves child ++ l) (attached_leaves new children) ∙ sym (append_assoc (child_leaves child) (tree_leaves children) (new ∷ []))

-- A leaf is put behind the one that it takes over from.
branch_same : (m v new : Guid) (branch : Branch) → is_single m branch ≡ false → replaced_branch m v new branch ≡ branch
branch_same m v new (Single n) off = ap (λ t. cond t (Replacing v n new) (Single n)) off
branch_same m v new (Replacing w old other) off = refl

child_same : (m v new : Guid) (child : Child) → may_be_replaced m child ≡ false → replaced_child m v new child ≡ child
child_same m v new (Plain branch) off = ap Plain (branch_same m v new branch off)
child_same m v new (Spared w first spare second) off = ap (λ b. Spared w b spare second) (branch_same m v new first off)

branch_has : (m : Guid) (branch : Branch) → is_single m branch ≡ true → Has m (branch_leaves branch)
branch_has m (Single n) is = inl is
branch_has m (Replacing v old new) is = absurd (cc)

has_more : (m : Guid) (xs ys : List Guid) → Has m xs → Has m (xs ++ ys)
has_more m [] ys has = absurd has
has_more m (x ∷ xs) ys (inl is) = inl is
has_more m (x ∷ xs) ys (inr has) = inr (has_more m xs ys has)

has_later : (m : Guid) (xs ys : List Guid) → Has m ys → Has m (xs ++ ys)
has_later m [] ys has = has
has_later m (x ∷ xs) ys has = inr (has_later m xs ys has)

child_has : (m : Guid) (child : Child) → may_be_replaced m child ≡ true → Has m (child_leaves child)
child_has m (Plain branch) is = branch_has m branch is
child_has m (Spared v first spare second) is = has_more m (branch_leaves first) (spare ∷ option_leaves second) (branch_has m first is)

tree_has : (m : Guid) (children : List Child) → has_replaceable m children ≡ true → Has m (tree_leaves children)
tree_has m [] is = absurd (cc)
tree_has m (child ∷ children) is = ⊎_elim (λ here. has_more m (child_leaves child) (tree_leaves children) (child_has m child here))
    (λ more. has_later m (child_leaves child) (tree_leaves children) (tree_has m children more))
    (or_cases (may_be_replaced m child) (has_replaceable m children) is)

-- the leaves of a branch that takes the new one, with others behind it
branch_put : (m v new : Guid) (branch : Branch) (rest : List Guid) → is_single m branch ≡ true
    → branch_leaves (replaced_branch m v new branch) ++ rest ≡ put_behind m new (branch_leaves branch ++ rest)
branch_put m v new (Single n) rest is =
    ap (λ t. branch_leaves (cond t (Replacing v n new) (Single n)) ++ rest) is ∙ sym (ap (λ t. cond t (n ∷ (new ∷ rest)) (n ∷ put_behind m new rest)) is)
branch_put m v new (Replacing w old other) rest is = absurd (cc)

child_put : (m v new : Guid) (child : Child) (rest : List Guid) → may_be_replaced m child ≡ true
    → child_leaves (replaced_child m v new child) ++ rest ≡ put_behind m new (child_leaves child ++ rest)
child_put m v new (Plain branch) rest is = branch_put m v new branch rest is
child_put m v new (Spared w first spare second) rest is = append_assoc (branch_leaves (replaced_branch m v new first)) (spare ∷ option_leaves second) rest
    ∙ (branch_put m v new first ((spare ∷ option_leaves second) ++ rest) is
    ∙ ap (put_behind m new) (sym (append_assoc (branch_leaves first) (spare ∷ option_leaves second) rest)))

replaced_none : (m v new : Guid) (children : List Child) → HasNot m (tree_leaves children) → tree_leaves (replaced m v new children) ≡ tree_leaves children
replaced_none m v new [] off = refl
replaced_none m v new (child ∷ children) off =
    ap (λ c. child_leaves c ++ tree_leaves (replaced m v new children)) (child_same m v new child (not_here (may_be_replaced m child) refl))
    ∙ ap (λ l. child_leaves child ++ l) (replaced_none m v new children
    (part_second (λ n. same_number m n ≡ false) (child_leaves child) (tree_leaves children) off))
  where
    not_here : (t : Bool) → may_be_replaced m child ≡ t → may_be_replaced m child ≡ false
    not_here true is =
        has_both m (child_leaves child) (child_has m child is) (part_first (λ n. same_number m n ≡ false) (child_leaves child) (tree_leaves children) off)
    not_here false is = is

pub replaced_leaves : (m v new : Guid) (children : List Child) → AreDifferent (tree_leaves children) → has_replaceable m children ≡ true
    → tree_leaves (replaced m v new children) ≡ put_behind m new (tree_leaves children)
replaced_leaves m v new [] different is = absurd (cc)
replaced_leaves m v new (child ∷ children) different is = by_bool (may_be_replaced m child)
    (λ here. ap (λ l. child_leaves (replaced_child m v new child) ++ l)
    (replaced_none m v new children (has_first m (child_leaves child) (tree_leaves children) different (child_has m child here)))
    ∙ child_put m v new child (tree_leaves children) here)
    (λ off. let more = sym (ap (λ t. t || has_replaceable m children) off) ∙ is in
    ap (λ c. child_leaves c ++ tree_leaves (replaced m v new children)) (child_same m v new child off)
    ∙ (ap (λ l. child_leaves child ++ l) (replaced_leaves m v new children (different_second (child_leaves child) (tree_leaves children) different) more)
    ∙ sym (put_later m new (child_leaves child) (tree_leaves children)
    (has_second m (child_leaves child) (tree_leaves children) different (tree_has m children more)))))

-- A leaf is taken out.
spares_out : (m v : Guid) (first : Branch) (spare : Guid) (second : Option Guid) → HasNot m (branch_leaves first)
    → child_leaves (pruned_spares m v first spare second) ≡ taken_out m (branch_leaves first ++ (spare ∷ option_leaves second))
spares_out m v first spare None off = by_bool (same_number m spare)
    (λ is. ap (λ t. child_leaves (cond t (Plain first) (Spared v first spare None))) is
    ∙ sym (taken_later m (branch_leaves first) (spare ∷ []) off ∙ (ap (λ t. branch_leaves first ++ cond t [] (spare ∷ [])) is
    ∙ append-nil (branch_leaves first))))
    (λ other. ap (λ t. child_leaves (cond t (Plain first) (Spared v first spare None))) other
    ∙ sym (taken_later m (branch_leaves first) (spare ∷ []) off ∙ ap (λ t. branch_leaves first ++ cond t [] (spare ∷ [])) other))
spares_out m v first spare (Some second) off = by_bool (same_number m spare)
    (λ is. ap (λ t. child_leaves (cond t (Spared v first second None) (cond (same_number m second) (Spared v first spare None)
    (Spared v first spare (Some second))))) is ∙ sym (taken_later m (branch_leaves first) (spare ∷ (second ∷ [])) off
    ∙ ap (λ t. branch_leaves first ++ cond t (second ∷ []) (spare ∷ cond (same_number m second) [] (second ∷ []))) is))
    (λ other. ap (λ t. child_leaves (cond t (Spared v first second None)
    (cond (same_number m second) (Spared v first spare None) (Spared v first spare (Some second))))) other
    ∙ (last (same_number m second) ∙ sym (taken_later m (branch_leaves first) (spare ∷ (second ∷ [])) off
    ∙ ap (λ t. branch_leaves first ++ cond t (second ∷ []) (spare ∷ cond (same_number m second) [] (second ∷ []))) other)))
  where
    last : (t : Bool) → child_leaves (cond t (Spared v first spare None) (Spared v first spare (Some second))) ≡ branch_leaves first
        ++ (spare ∷ cond t [] (second ∷ []))
    last true = refl
    last false = refl

-- what a branch is without the leaf
abbrev option_branch : Option Branch → List Guid
option_branch None = []
option_branch (Some branch) = branch_leaves branch

branch_out : (m : Guid) (branch : Branch) → option_branch (pruned_branch m branch) ≡ taken_out m (branch_leaves branch)
branch_out m (Single n) = by (same_number m n)
  where
    by : (t : Bool) → option_branch (cond t None (Some (Single n))) ≡ cond t [] (n ∷ [])
    by true = refl
    by false = refl
branch_out m (Replacing v old new) = by (same_number m old) (same_number m new)
  where
    by : (t u : Bool) → option_branch (cond t (Some (Single new)) (cond u (Some (Single old)) (Some (Replacing v old new)))) ≡ cond t (new ∷ [])
        (old ∷ cond u [] (new ∷ []))
    by true u = refl
    by false true = refl
    by false false = refl

branch_stays : (m : Guid) (branch : Branch) → HasNot m (branch_leaves branch) → pruned_branch m branch ≡ Some branch
branch_stays m (Single n) off = ap (λ t. cond t None (Some (Single n))) off.0
branch_stays m (Replacing v old new) off =
    ap (λ t. cond t (Some (Single new)) (cond (same_number m new) (Some (Single old)) (Some (Replacing v old new)))) off.0
    ∙ ap (λ t. cond t (Some (Single old)) (Some (Replacing v old new))) off.1.0

plain_out : (branch : Option Branch) → tree_leaves (pruned_plain branch) ≡ option_branch branch
plain_out None = refl
plain_out (Some branch) = append-nil (branch_leaves branch)

-- a spare vdev that lost a leaf of its first child
first_out : (m v : Guid) (first : Branch) (rest : Option Branch) (spare : Guid) (second : Option Guid) → option_branch rest ≡ taken_out m (branch_leaves first)
    → HasNot m (spare ∷ option_leaves second) → HasNot m (option_branch rest)
    → child_leaves (pruned_first rest m v spare second) ≡ option_branch rest ++ (spare ∷ option_leaves second)
first_out m v first None spare None is off none = refl
first_out m v first None spare (Some second) is off none = refl
first_out m v first (Some branch) spare second is off none = spares_out m v branch spare second none
    ∙ (taken_later m (branch_leaves branch) (spare ∷ option_leaves second) none
    ∙ ap (λ l. branch_leaves branch ++ l) (taken_none m (spare ∷ option_leaves second) off))

out_not : (m : Guid) (xs : List Guid) → AreDifferent xs → HasNot m (taken_out m xs)
out_not m [] all = tt
out_not m (x ∷ xs) all = by_bool (same_number m x)
    (λ is. subst (λ t. HasNot m (cond t xs (x ∷ taken_out m xs))) (sym is) (not_among m x xs is all.0))
    (λ off. subst (λ t. HasNot m (cond t xs (x ∷ taken_out m xs))) (sym off) (off, out_not m xs all.1))

child_out : (m : Guid) (child : Child) → AreDifferent (child_leaves child) → tree_leaves (pruned_child m child) ≡ taken_out m (child_leaves child)
child_out m (Plain branch) different = plain_out (pruned_branch m branch) ∙ branch_out m branch
child_out m (Spared v first spare second) different = append-nil (child_leaves (pruned_first (pruned_branch m first) m v spare second))
    ∙ ⊎_elim (λ has. first_out m v first (pruned_branch m first) spare second (branch_out m first)
    (has_first m (branch_leaves first) (spare ∷ option_leaves second) different has)
    (subst (HasNot m) (sym (branch_out m first)) (out_not m (branch_leaves first)
    (different_first (branch_leaves first) (spare ∷ option_leaves second) different)))
    ∙ (ap (λ l. l ++ (spare ∷ option_leaves second)) (branch_out m first) ∙ sym (taken_first m (branch_leaves first) (spare ∷ option_leaves second) has)))
    (λ none. ap (λ b. child_leaves (pruned_first b m v spare second)) (branch_stays m first none) ∙ spares_out m v first spare second none)
    (has_or_not m (branch_leaves first))

tree_more : (xs ys : List Child) → tree_leaves (xs ++ ys) ≡ tree_leaves xs ++ tree_leaves ys
tree_more [] ys = refl
tree_more (x ∷ xs) ys = ap (λ l. child_leaves x ++ l) (tree_more xs ys) ∙ sym (append_assoc (child_leaves x) (tree_leaves xs) (tree_leaves ys))

pub pruned_leaves : (m : Guid) (children : List Child) → AreDifferent (tree_leaves children)
    → tree_leaves (pruned m children) ≡ taken_out m (tree_leaves children)
pruned_leaves m [] different = refl
pruned_leaves m (child ∷ children) different = tree_more (pruned_child m child) (pruned m children)
    ∙ (ap (λ l. l ++ tree_leaves (pruned m children)) (child_out m child (different_first (child_leaves child) (tree_leaves children) different))
    ∙ (ap (λ l. taken_out m (child_leaves child) ++ l) (pruned_leaves m children (different_second (child_leaves child) (tree_leaves children) different))
    ∙ ⊎_elim (λ has. ap (λ l. taken_out m (child_leaves child) ++ l) (taken_none m (tree_leaves children)
    (has_first m (child_leaves child) (tree_leaves children) different has))
    ∙ sym (taken_first m (child_leaves child) (tree_leaves children) has))
    (λ none. ap (λ l. l ++ taken_out m (tree_leaves children)) (taken_none m (child_leaves child) none)
    ∙ sym (taken_later m (child_leaves child) (tree_leaves children) none)) (has_or_not m (child_leaves child))))
