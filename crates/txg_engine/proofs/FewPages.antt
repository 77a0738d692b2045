-- How many pages a group has.
use Rattle.std.proofs.Common.{◌≡◌, ℕ, zero, suc, ◌+◌, ◌*◌, ◌<◌, ◌≤◌, nat_lt, cond, Bool, true, false, List, [], ◌∷◌}
use Rattle.std.proofs.Common.{◌++◌, length, arith, append_assoc, length-append}
use Rattle.mp_base.specs.declared.place.Key.{Key}
use Rattle.block_map.specs.Dirty.{page_above, pages_from, pages_above}

one_or_none : (b : Bool) (page : Key) (one other : List Key) (n : ℕ) → length one ≤ n → length other ≤ n → length
    (cond b one (page ∷ other)) ≤ n + 1
one_or_none true page one other n le le' = omega arith
one_or_none false page one other n le le' = omega arith

few_from : (level next : ℕ) (addrs : List ℕ) → length (pages_from level next addrs) ≤ length addrs
unfolding pages_from
few_from level next [] = omega arith
few_from level next (a ∷ rest) =
    let few = one_or_none (nat_lt (page_above level a).index next) (page_above level a)
    (pages_from level next rest) (pages_from level ((page_above level a).index + 1) rest) (length rest)
    (few_from level next rest) (few_from level ((page_above level a).index + 1) rest) in omega (arith, few)

-- there are no more pages of a level than blocks
pub few_above : (level : ℕ) (addrs : List ℕ) → length (pages_above level addrs) ≤ length addrs
unfolding pages_above
few_above level addrs = few_from level 0 addrs

-- the pages of the first levels
abbrev pub pages_to : ℕ → List ℕ → List Key
pages_to zero addrs = []
pages_to (suc level) addrs = pages_to level addrs ++ pages_above (suc level) addrs

pub pages_fit : (level : ℕ) (addrs : List ℕ) → level < 3 → length
    (pages_to level addrs) + length addrs ≤ 3 * length addrs
pages_fit zero addrs less = omega arith
pages_fit (suc zero) addrs less = omega (arith, few_above 1 addrs)
pages_fit (suc (suc zero)) addrs less =
    omega (arith, few_above 1 addrs, few_above 2 addrs, length-append (pages_above 1 addrs) (pages_above 2 addrs))
pages_fit (suc (suc (suc level))) addrs less = absurd (omega arith)

pub pages_all : (addrs : List ℕ) → pages_to 3 addrs ≡ pages_above 1 addrs ++
    (pages_above 2 addrs ++ pages_above 3 addrs)
pages_all addrs = append_assoc (pages_above 1 addrs) (pages_above 2 addrs) (pages_above 3 addrs)
