-- A create may be made, as far as other pools go; and what it takes that none of its refusals came.
use Rattle.std.proofs.Common.{◌≡◌, inl, inr, ℕ, suc, ◌+◌, ◌≤◌, ◌==◌, ◌||◌, nat_lt, Bool, true, false, cond, List, [], ◌∷◌, ◌++◌, length, Option, Some, None, refl, sym, ap, ◌∙◌, subst, arith}
use Rattle.std.specs.List.{AllByRecursion}
use Rattle.std.proofs.lemmas.Bool.Decides.{nat_tests}
use Rattle.std.proofs.lemmas.List.{length-append}
use Rattle.mp_base.specs.declared.number.Guid.{Guid}
use Rattle.txg_history.specs.Pages.{Codec}
use Rattle.txg_history.specs.Pools.{Pool}
use Rattle.txg_history.proofs.Logging.{by_bool}
use Rattle.pool_moves.specs.StampRow.{NewMember, NewLeaf, top_leaves, leaves_from, IsNew as FitsLimits}
use Rattle.pool_runs.specs.Acts.{Act, Names, Bears}
use Rattle.pool_runs.specs.Creating.{members_of, tops_of, leaves_of, new_birth, or_else, first_some, too_many, too_wide, all_names, refused_if, too_small, refusals_of, create_refusal, stamp_acts, MayCreate, commit_acts, RowCreate}
use Rattle.pool_runs.specs.Devices.{Device, size_in}
use Rattle.pool_runs.specs.Hosts.{Host}
use Rattle.pool_runs.proofs.Known.{Knows, MayActs}
use Rattle.pool_runs.specs.Knowing.{AreOwnActs}
use Rattle.pool_runs.specs.Lines.{Refusal, TooMany, BadBlocks, TooSmall, Reply, Refusal}
use Rattle.pool_runs.proofs.Knowing.{other_may}

-- Other pools.
names_may : (c : Codec) (h : Host) (p : Pool) (g : ℕ) (more acts : List Act) → Knows c h p → acts ≡ Names g ∷ more → AreOwnActs g h acts → MayActs c h p acts
names_may c h p g more acts knows is own = subst (MayActs c h p) (sym is)
    (λ fair. (tt, knows, other_may c h p g more knows fair (subst (AreOwnActs g h) is own).1))

pub create_may : (c : Codec) (h : Host) (p : Pool) (name : List ℕ) (blocks : ℕ) (tops : List (List (List ℕ))) (acts : List Act) (reply : Reply) → Knows c h p → RowCreate c h name blocks tops acts reply
    → MayActs c h p acts
create_may c h p name blocks tops acts reply knows (inl row) = subst (MayActs c h p) (sym row.2) tt
create_may c h p name blocks tops acts reply knows (inr (inl row)) = names_may c h p row.pool.0 (stamp_acts row.pool.0 row.stamps) acts knows row.all row.own
create_may c h p name blocks tops acts reply knows (inr (inr row)) =
    names_may c h p row.pool.0 (stamp_acts row.pool.0 row.stamps ++ (Bears (new_birth name row.pool blocks h.table tops) ∷ commit_acts row.answer row.pool.0 row.moves)) acts knows row.all row.own

-- What it takes that no refusal came.
pub or_first : (a b : Option Refusal) → or_else a b ≡ None → a ≡ None
or_first (Some x) b is = absurd (cc)
or_first None b is = refl

pub or_second : (a b : Option Refusal) → or_else a b ≡ None → b ≡ None
or_second (Some x) b is = absurd (cc)
or_second None b is = is

all_none : (refusals : List (Option Refusal)) → first_some refusals ≡ None → AllByRecursion (λ refusal. refusal ≡ None) refusals
all_none [] is = tt
all_none (refusal ∷ more) is = (or_first refusal (first_some more) is, all_none more (or_second refusal (first_some more) is))

-- none of its refusals came
pub none_refused : (h : Host) (name : List ℕ) (blocks : ℕ) (tops : List (List (List ℕ))) → create_refusal h name blocks tops ≡ None
    → AllByRecursion (λ refusal. refusal ≡ None) (refusals_of h name blocks tops)
none_refused h name blocks tops none = all_none (refusals_of h name blocks tops) none

-- What each refusal that doesn't come tells.
few : (limit count : ℕ) → too_many limit count ≡ None → count ≤ limit
few limit count is = by_bool (nat_lt limit count) (λ yes. absurd (let no : Some (TooMany limit count) ≡ None = sym (ap (λ t. cond t (Some (TooMany limit count)) None) yes) ∙ is in cc))
    (λ no. let low : count ≤ limit = grind (arith, nat_tests) in low)

big_of : (n : ℕ) (rest : Option Refusal) → or_else (cond (nat_lt n 320) (Some (TooSmall 320 n)) None) rest ≡ None → 320 ≤ n
big_of n rest is = by_bool (nat_lt n 320) (λ yes. absurd (let no : Some (TooSmall 320 n) ≡ None =
    sym (ap (λ t. cond t (Some (TooSmall 320 n)) None) yes) ∙ or_first (cond (nat_lt n 320) (Some (TooSmall 320 n)) None) rest is in cc))
    (λ no. let high : 320 ≤ n = grind (arith, nat_tests) in high)

all_big : (table : List Device) (leaves : List NewLeaf) → too_small table leaves ≡ None → AllByRecursion (λ leaf. 320 ≤ size_in table leaf.dev) leaves
all_big table [] is = tt
all_big table (l ∷ leaves) is = (
  big_of (size_in table l.dev) (too_small table leaves) is,
  all_big table leaves (or_second (cond (nat_lt (size_in table l.dev) 320) (Some (TooSmall 320 (size_in table l.dev))) None) (too_small table leaves) is),
)

not_refused : (t : Bool) (refusal : Refusal) → refused_if t refusal ≡ None → t ≡ false
not_refused true refusal is = absurd (cc)
not_refused false refusal is = refl

some_blocks : (blocks : ℕ) → ((blocks == 0) || nat_lt 262144 blocks) ≡ false → (1 ≤ blocks) × (blocks ≤ 262144)
some_blocks blocks is = (let low : 1 ≤ blocks = grind (arith, nat_tests) in low, let high : blocks ≤ 262144 = grind (arith, nat_tests) in high)

-- Lengths of what a table makes of names.
members_length : (table : List Device) (names : List (List ℕ)) → length (members_of table names) ≡ length names
members_length table [] = refl
members_length table (name ∷ names) = ap suc (members_length table names)

tops_length : (table : List Device) (tops : List (List (List ℕ))) → length (tops_of table tops) ≡ length tops
tops_length table [] = refl
tops_length table (names ∷ tops) = ap suc (tops_length table tops)

top_length : (next top : ℕ) (members : List NewMember) → length (top_leaves next top members) ≡ length members
top_length next top [] = refl
top_length next top (m ∷ members) = ap suc (top_length (suc next) top members)

leaves_length : (table : List Device) (tops : List (List (List ℕ))) (next top : ℕ) → length (leaves_from next top (tops_of table tops)) ≡ length (all_names tops)
leaves_length table [] next top = refl
leaves_length table (names ∷ tops) next top =
    length-append (top_leaves (suc next) top (members_of table names)) (leaves_from (suc next + length (members_of table names)) (suc top) (tops_of table tops))
    ∙ (ap (λ n. n + length (leaves_from (suc next + length (members_of table names)) (suc top) (tops_of table tops)))
    (top_length (suc next) top (members_of table names) ∙ members_length table names)
    ∙ (ap (λ n. length names + n) (leaves_length table tops (suc next + length (members_of table names)) (suc top)) ∙ sym (length-append names (all_names tops))))

children_few : (table : List Device) (tops : List (List (List ℕ))) → too_wide tops ≡ None → AllByRecursion (λ names. 1 ≤ length names) tops
    → AllByRecursion (λ members. (1 ≤ length members) × (length members ≤ 8)) (tops_of table tops)
children_few table [] none some = tt
children_few table (names ∷ tops) none some = (
  (
    subst (λ n. 1 ≤ n) (sym (members_length table names)) some.0,
    subst (λ n. n ≤ 8) (sym (members_length table names)) (few 8 (length names) (or_first (too_many 8 (length names)) (too_wide tops) none)),
  ),
  children_few table tops (or_second (too_many 8 (length names)) (too_wide tops) none) some.1,
)

-- A create that isn't refused is within the limits.
pub within : (h : Host) (name : List ℕ) (blocks : ℕ) (tops : List (List (List ℕ))) (pool : Guid) → MayCreate h name blocks tops pool
    → FitsLimits (size_in h.table) blocks (tops_of h.table tops)
within h name blocks tops pool may =
    let all = none_refused h name blocks tops may.none in
    let range = some_blocks blocks (not_refused ((blocks == 0) || nat_lt 262144 blocks) (BadBlocks 262144) all.1.1.1.1.1.0) in record {
      some = range.0;
      most = range.1;
      few_tops = subst (λ n. n ≤ 8) (sym (tops_length h.table tops)) (few 8 (length tops) all.1.1.0);
      few_children = children_few h.table tops all.1.1.1.0 may.some;
      few_leaves = subst (λ n. n ≤ 32) (sym (leaves_length h.table tops 1 1)) (few 32 (length (all_names tops)) all.1.1.1.1.0);
      apart = may.apart;
      big = all_big h.table (leaves_of h.table tops) all.1.1.1.1.1.1.1.1.1.0;
    }
