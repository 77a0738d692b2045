-- Tests over lists.
use Rattle.std.proofs.Common.{◌≡◌, ℕ, ◌+◌, ◌<◌, ◌≤◌, Bool, true, false, ◌&&◌, List, [], ◌∷◌, ◌++◌, map, length, get_or}
use Rattle.std.proofs.Common.{take, drop, sym, ap, ◌∙◌, arith}
use Rattle.std.specs.Prelude.{nat_le, sum}
use Rattle.std.specs.List.{list_all}
use Rattle.std.proofs.lemmas.Bool.{lt-leb, le-leb}
use Rattle.std.proofs.lemmas.List.{take_more, take_all, take-append-drop, length-map}
use Rattle.vdev_tree.specs.declared.top.Top.{Top}
use Rattle.pool_config.specs.Seen.{TopSeen, top_seen}
use Rattle.pool_config.specs.Validity.{is_in, are_sized}
use Rattle.pool_config.proofs.Lists.{all_mapped}
use Rattle.pool_config.proofs.Bounds.{sum_cons}

-- ---- sums

sum-append : (xs ys : List ℕ) → sum (xs ++ ys) ≡ sum xs + sum ys
sum-append [] ys = omega arith
sum-append (x ∷ xs) ys = omega (arith, sum-append xs ys, sum_cons x (xs ++ ys), sum_cons x xs)

pub sum_more : (xs : List ℕ) (i x : ℕ) → i < length xs → x ≡ get_or xs i x → sum (take (i + 1) xs) ≡ sum (take i xs) + x
sum_more xs i x inside is =
    omega (
      arith,
      ap sum (take_more xs i x inside),
      sum-append (take i xs) (get_or xs i x ∷ []),
      sum_cons (get_or xs i x) [],
      is,
    )

pub sum_over : (xs : List ℕ) (i x left : ℕ) → i < length xs → x ≡ get_or xs i x → sum (take i xs) + left ≡ 4096
    → left < x → false ≡ nat_le (sum xs) 4096
sum_over xs i x left inside is so_far over =
    sym (lt-leb (sum xs) 4096 (omega (
      arith,
      ap sum (take-append-drop (i + 1) xs),
      sum-append (take (i + 1) xs) (drop (i + 1) xs),
      sum_more xs i x inside is,
    )))

pub sum_within : (xs : List ℕ) (i left : ℕ) → length xs ≤ i → sum (take i xs) + left ≡ 4096
    → true ≡ nat_le (sum xs) 4096
sum_within xs i left all so_far = sym (le-leb (sum xs) 4096 (omega (arith, ap sum (take_all i xs all))))

-- ---- sectors

pub sized_seen : (tops : List Top) (b : Bool) → is_in 1 8 (length tops) ≡ true
    → b ≡ list_all (λ (top : Top). is_in 64 1048320 top.sectors) tops → b ≡ are_sized (map top_seen tops)
sized_seen tops b some is =
    is ∙ sym (all_mapped (λ (top : TopSeen). is_in 64 1048320 top.sectors) top_seen tops)
    ∙ ap (λ a. a && list_all (λ (top : TopSeen). is_in 64 1048320 top.sectors) (map top_seen tops))
    (sym some ∙ ap (is_in 1 8) (sym (length-map tops top_seen)))
