-- The names of leaves, one after another.
use Rattle.std.proofs.Common.{◌≡◌, ℕ, ◌+◌, ◌<◌, List, [], ◌∷◌, ◌++◌, Option, Some, None, length, drop, get_or, refl, sym, ◌∙◌, ap, drop-cons, append_assoc, option_map, add-one}
use Rattle.mp_base.specs.declared.refusal.LeafSeen.{LeafSeen}
use Rattle.pool_wire.specs.declared.reply.NamedLeaf.{NamedLeaf}
use Rattle.pool_core.specs.Naming.{leaf_of}
use Rattle.pool_core.specs.State.{LeafState}
use Rattle.host_machine.specs.Machine.{named, with_name}

some_name : (leaf : Option LeafState) (name : List ℕ) (shown : LeafSeen) (more : List NamedLeaf) → Some name ≡ option_map (λ (l : LeafState). l.name) leaf
    → with_name leaf shown more ≡ record { name = name; seen = shown.seen } ∷ more
some_name None name shown more is = absurd (cc)
some_name (Some leaf) name shown more is = let same : name ≡ leaf.name = cc in rw same refl

no_name : (leaf : Option LeafState) (shown : LeafSeen) (more : List NamedLeaf) → None ≡ option_map (λ (l : LeafState). l.name) leaf → with_name leaf shown more ≡ more
no_name None shown more is = refl
no_name (Some leaf) shown more is = absurd (cc)

module _ (leaves : List LeafState) (before all : List NamedLeaf) (items : List LeafSeen) (i : ℕ) (d : LeafSeen) (inside : i < length items)
    (so_far : before ++ named leaves (drop i items) ≡ all) where
  named_next : named leaves (drop i items) ≡ with_name (leaf_of leaves (get_or items i d).member) (get_or items i d) (named leaves (drop (i + 1) items))
  named_next = ap (named leaves) (drop-cons items i d inside)
      ∙ ap (λ n. with_name (leaf_of leaves (get_or items i d).member) (get_or items i d) (named leaves (drop n items))) (sym (add-one i))

  -- a leaf that has a name
  pub named_more : (name : List ℕ) → Some name ≡ option_map (λ (l : LeafState). l.name) (leaf_of leaves (get_or items i d).member)
      → (before ++ record { name = name; seen = (get_or items i d).seen } ∷ []) ++ named leaves (drop (i + 1) items) ≡ all
  named_more name found = append_assoc before (record { name = name; seen = (get_or items i d).seen } ∷ []) (named leaves (drop (i + 1) items))
      ∙ ap (λ more. before ++ more) (sym (named_next ∙ some_name (leaf_of leaves (get_or items i d).member) name (get_or items i d) (named leaves (drop (i + 1) items)) found)) ∙ so_far

  -- and one that has none
  pub named_past : None ≡ option_map (λ (l : LeafState). l.name) (leaf_of leaves (get_or items i d).member) → before ++ named leaves (drop (i + 1) items) ≡ all
  named_past found = ap (λ more. before ++ more) (sym (named_next ∙ no_name (leaf_of leaves (get_or items i d).member) (get_or items i d) (named leaves (drop (i + 1) items)) found)) ∙ so_far
