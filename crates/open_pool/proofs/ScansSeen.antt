-- The scan of an open pool as its rows have it: who is eligible, what a leaf that goes leaves of it, and when a resilver starts.
use Rattle.std.proofs.Common.{◌≡◌, inl, inr, ℕ, ◌==◌, ◌&&◌, ◌||◌, Bool, true, false, cond, List, [], ◌∷◌, ◌++◌, map, Option, Some, None, option_map, if◌then◌else◌, refl, sym, ap, ap₂, ◌∙◌, subst, arith}
use mathlib.Core.Path.{fun_ext}
use Rattle.std.specs.List.{cons_option}
use Rattle.std.proofs.lemmas.Bool.Decides.{nat_tests}
use Rattle.vdev_tree.specs.Leaf.{is_readable}
use Rattle.vdev_tree.specs.declared.top.Top.{Top}
use Rattle.vdev_tree.specs.declared.vdev.LeafVdev.{LeafVdev}
use Rattle.dtl_rules.specs.Widening.{leaves_of}
use Rattle.txg_history.specs.Groups.{at_device}
use Rattle.txg_engine.specs.declared.seat.Seat.{Seat}
use Rattle.pool_moves.specs.AwayRows.{drop_if, drops_leaf}
use Rattle.pool_moves.specs.FreezeRow.{is_dev, up_devs}
use Rattle.pool_moves.specs.Leaves.{LeafSeen}
use Rattle.pool_moves.specs.Moves.{Move, Scan_from, on_dev, steps}
use Rattle.pool_moves.specs.Resilvers as rows
use Rattle.pool_moves.specs.Resilvers.{Resilvers, rest_if}
use Rattle.pool_moves.specs.States.{Sums, started_seen, PoolState}
use Rattle.open_pool.specs.declared.scan.Scan.{Scan}
use Rattle.open_pool.specs.declared.scan.ScanLeaf.{ScanLeaf}
use Rattle.open_pool.specs.Parts.{PoolParts, all_parts}
use Rattle.open_pool.specs.Scanning.{scan_leaf, scan_leaves, dropped, dropped_from, is_eligible, scan_of, HasOwing}
use Rattle.open_pool.specs.State.{Stands, leaves_from, leaves_under, seats_in, state_of}
use Rattle.open_pool.proofs.LeavesByTops.{HaveTops, by_tops, have_tops, leaves_at, tops_from, under_trees}
use Rattle.open_pool.proofs.ScanChanged.{with_scan, scan_pinned}
use Rattle.open_pool.proofs.StatesStand.{by_state, stands_there}

-- Who is eligible in a scan that starts: the readable leaves.
one_eligible : (leaf : LeafVdev) (rest : List ScanLeaf) (d : ℕ)
    → is_eligible (cons_option (scan_leaf leaf) rest) d ≡ ((is_readable leaf && is_dev d leaf.dev) || is_eligible rest d)
one_eligible leaf rest d = by (is_readable leaf) leaf.dev
  where
    by : (up : Bool) (dev : Option ℕ)
        → is_eligible (cons_option (if up then option_map (λ dev. record { dev = dev; eligible = true }) dev else None) rest) d
        ≡ ((up && is_dev d dev) || is_eligible rest d)
    by true (Some e) = refl
    by true None = refl
    by false dev = refl

eligible_at : (seats : List Seat) (tops : List ℕ) (ls : List LeafVdev) → HaveTops tops ls → (d : ℕ)
    → is_eligible (scan_leaves ls) d ≡ up_devs (leaves_at seats tops ls) d
eligible_at seats [] [] have d = refl
eligible_at seats [] (leaf ∷ ls) have d = absurd have
eligible_at seats (top ∷ tops) [] have d = refl
eligible_at seats (top ∷ tops) (leaf ∷ ls) have d =
    one_eligible leaf (scan_leaves ls) d ∙ ap (λ b. (is_readable leaf && is_dev d leaf.dev) || b) (eligible_at seats tops ls have.1 d)

-- the trees' leaves, as the state has them
module _ (seats : List Seat) (trees : List Top) where
  abbrev numbers : List ℕ
  numbers = tops_from 1 (leaves_under (all_parts trees))

  seen_is : leaves_from seats 1 (leaves_under (all_parts trees)) ≡ leaves_at seats numbers (leaves_of trees)
  seen_is = by_tops seats 1 (leaves_under (all_parts trees)) ∙ ap (leaves_at seats numbers) (under_trees trees)

  numbered : HaveTops numbers (leaves_of trees)
  numbered = subst (HaveTops numbers) (under_trees trees) (have_tops 1 (leaves_under (all_parts trees)))

  pub eligible_up : is_eligible (scan_leaves (leaves_of trees)) ≡ up_devs (leaves_from seats 1 (leaves_under (all_parts trees)))
  eligible_up = fun_ext (λ d. eligible_at seats numbers (leaves_of trees) numbered d ∙ ap (λ ls. up_devs ls d) (sym seen_is))

-- Who is eligible behind a leaf that went.
one_dropped : (leaf : ScanLeaf) (d e : ℕ) (here there : Bool) → (leaf.dev == d) ≡ here → (d == e) ≡ there
    → ((dropped d leaf).eligible && (e == (dropped d leaf).dev)) ≡ cond there false (leaf.eligible && (e == leaf.dev))
one_dropped leaf d e true true same at = ap (λ b. (cond b (record leaf { eligible = false }) leaf).eligible && (e == (cond b (record leaf { eligible = false }) leaf).dev)) same
one_dropped leaf d e true false same at =
    ap (λ b. (cond b (record leaf { eligible = false }) leaf).eligible && (e == (cond b (record leaf { eligible = false }) leaf).dev)) same
    ∙ sym (ap (λ b. leaf.eligible && b) (let off : (e == leaf.dev) ≡ false = grind (arith, nat_tests) in off) ∙ never leaf.eligible)
  where
    never : (b : Bool) → (b && false) ≡ false
    never true = refl
    never false = refl
one_dropped leaf d e false true other at =
    ap (λ b. (cond b (record leaf { eligible = false }) leaf).eligible && (e == (cond b (record leaf { eligible = false }) leaf).dev)) other
    ∙ ap (λ b. leaf.eligible && b) (let off : (e == leaf.dev) ≡ false = grind (arith, nat_tests) in off) ∙ never leaf.eligible
  where
    never : (b : Bool) → (b && false) ≡ false
    never true = refl
    never false = refl
one_dropped leaf d e false false other at =
    ap (λ b. (cond b (record leaf { eligible = false }) leaf).eligible && (e == (cond b (record leaf { eligible = false }) leaf).dev)) other

eligible_dropped : (d : ℕ) (ls : List ScanLeaf) (e : ℕ) → is_eligible (map (dropped d) ls) e ≡ at_device d false (is_eligible ls) e
eligible_dropped d [] e = none (d == e)
  where
    none : (b : Bool) → false ≡ cond b false false
    none true = refl
    none false = refl
eligible_dropped d (leaf ∷ ls) e =
    ap₂ (λ a b. a || b) (one_dropped leaf d e (leaf.dev == d) (d == e) refl refl) (eligible_dropped d ls e)
    ∙ both (d == e) (leaf.eligible && (e == leaf.dev)) (is_eligible ls e)
  where
    both : (b x y : Bool) → (cond b false x || cond b false y) ≡ cond b false (x || y)
    both true x y = refl
    both false x y = refl

-- what it leaves of the scan, where it was eligible and where it was not
not_there : (d : ℕ) (ls : List ScanLeaf) → is_eligible ls d ≡ false → is_eligible (map (dropped d) ls) ≡ is_eligible ls
not_there d ls off = fun_ext (λ e. eligible_dropped d ls e ∙ by e (d == e) refl)
  where
    by : (e : ℕ) (b : Bool) → (d == e) ≡ b → cond b false (is_eligible ls e) ≡ is_eligible ls e
    by e true same = sym (ap (is_eligible ls) (let here : e ≡ d = grind (arith, nat_tests) in here) ∙ off)
    by e false other = refl

drop_seen : (held : List Sums) (p : PoolParts) (leaf : LeafSeen) (dev : Option ℕ) (scan : Option Scan) → p.scan ≡ scan → leaf.dev ≡ dev
    → steps (drop_if (on_dev (scan_of scan).eligible dev) dev) (state_of held (with_scan p scan))
    ≡ state_of held (with_scan p (dropped_from dev scan))
drop_seen held p leaf None None same is = refl
drop_seen held p leaf None (Some scan) same is = refl
drop_seen held p leaf (Some d) None same is = refl
drop_seen held p leaf (Some d) (Some scan) same is = by (is_eligible scan.leaves d) refl
  where
    with_eligible : (ℕ → Bool) → PoolState
    with_eligible eligible = record (state_of held (with_scan p (Some scan))) {
      core = record ((state_of held (with_scan p (Some scan))).core) { scan = started_seen scan.hi.0 eligible };
    }

    by : (b : Bool) → is_eligible scan.leaves d ≡ b
        → steps (drop_if b (Some d)) (state_of held (with_scan p (Some scan))) ≡ state_of held (with_scan p (dropped_from (Some d) (Some scan)))
    by true on = ap with_eligible (sym (fun_ext (eligible_dropped d scan.leaves)))
    by false off = ap with_eligible (sym (not_there d scan.leaves off))

pub stands_dropped : (p : PoolParts) (leaf : LeafSeen) (dev : Option ℕ) → leaf.dev ≡ dev → (s : PoolState) → Stands p s
    → Stands (with_scan p (dropped_from dev p.scan)) (steps (drops_leaf s.core.scan leaf) s)
stands_dropped p leaf dev is = by_state (λ s. Stands (with_scan p (dropped_from dev p.scan)) (steps (drops_leaf s.core.scan leaf) s)) p (λ held pins.
    subst (λ o. Stands (with_scan p (dropped_from dev p.scan)) (steps (drop_if (on_dev (scan_of p.scan).eligible o) o) (state_of held p))) (sym is)
    (subst (Stands (with_scan p (dropped_from dev p.scan))) (sym (drop_seen held p leaf dev p.scan refl is))
    (stands_there held (with_scan p (dropped_from dev p.scan)) (scan_pinned held p (dropped_from dev p.scan) pins))))

-- Which leaves owe a group.
owing_seen : (seats : List Seat) (tops : List ℕ) (ls : List LeafVdev) → HaveTops tops ls → HasOwing ls → rows.HasOwing (leaves_at seats tops ls)
owing_seen seats [] [] have has = absurd has
owing_seen seats [] (leaf ∷ ls) have has = absurd have
owing_seen seats (top ∷ tops) [] have has = absurd has
owing_seen seats (top ∷ tops) (leaf ∷ ls) have (inl here) = inl (record { up = here.up; group = here.group; owes = here.owes })
owing_seen seats (top ∷ tops) (leaf ∷ ls) have (inr has) = inr (owing_seen seats tops ls have.1 has)

owing_back : (seats : List Seat) (tops : List ℕ) (ls : List LeafVdev) → rows.HasOwing (leaves_at seats tops ls) → HasOwing ls
owing_back seats [] ls has = absurd has
owing_back seats (top ∷ tops) [] has = absurd has
owing_back seats (top ∷ tops) (leaf ∷ ls) (inl here) = inl (record { up = here.up; group = here.group; owes = here.owes })
owing_back seats (top ∷ tops) (leaf ∷ ls) (inr has) = inr (owing_back seats tops ls has)

-- A resilver starts, or nothing is done.
rest_then : (running : Bool) (hi : ℕ) (eligible : ℕ → Bool) (s : PoolState)
    → steps (rest_if running ++ (Scan_from hi eligible ∷ [])) s
    ≡ record { own = record (s.own) { scrubs = false }; core = record (s.core) { scan = started_seen hi eligible } }
rest_then true hi eligible s = refl
rest_then false hi eligible s = refl

module _ (p : PoolParts) (trees : List Top) (parts : p.tops ≡ all_parts trees) where
  leaves_is : leaves_from (seats_in p.frozen) 1 (leaves_under p.tops) ≡ leaves_from (seats_in p.frozen) 1 (leaves_under (all_parts trees))
  leaves_is = ap (λ ts. leaves_from (seats_in p.frozen) 1 (leaves_under ts)) parts

  pub resilvers : (scan : Scan) → p.opened ≡ true → scan.hi.0 ≡ p.read → scan.leaves ≡ scan_leaves (leaves_of trees) → HasOwing (leaves_of trees)
      → (s : PoolState) → Stands p s → (vs : List Move) × Resilvers s.core vs × Stands (with_scan p (Some scan)) (steps vs s)
  resilvers scan opened hi leaves owing = by_state (λ s. (vs : List Move) × Resilvers s.core vs × Stands (with_scan p (Some scan)) (steps vs s)) p (λ held pins.
      let ls = leaves_from (seats_in p.frozen) 1 (leaves_under p.tops) in
      let vs = rest_if (scan_of p.scan).running ++ (Scan_from p.read (up_devs ls) ∷ []) in
      let eligible : up_devs ls ≡ is_eligible scan.leaves =
      ap up_devs leaves_is ∙ sym (eligible_up (seats_in p.frozen) trees) ∙ ap is_eligible (sym leaves) in
      let leads : steps vs (state_of held p) ≡ state_of held (with_scan p (Some scan)) =
      rest_then (scan_of p.scan).running p.read (up_devs ls) (state_of held p)
      ∙ ap₂ (λ n e. record (state_of held p) { core = record ((state_of held p).core) { scan = started_seen n e } }) (sym hi) eligible in (
        vs,
        inl (record {
          owing = subst rows.HasOwing (sym (leaves_is ∙ seen_is (seats_in p.frozen) trees))
              (owing_seen (seats_in p.frozen) (numbers (seats_in p.frozen) trees) (leaves_of trees) (numbered (seats_in p.frozen) trees) owing);
          opened = opened;
          moves = refl;
        }),
        subst (Stands (with_scan p (Some scan))) (sym leads) (stands_there held (with_scan p (Some scan)) (scan_pinned held p (Some scan) pins)),
      ))

  pub rests : (HasOwing (leaves_of trees) → ⊥) → (s : PoolState) → Stands p s → (vs : List Move) × Resilvers s.core vs × Stands p (steps vs s)
  rests none s stands = (
    [],
    inr (
      (λ has. none (owing_back (seats_in p.frozen) (numbers (seats_in p.frozen) trees) (leaves_of trees)
          (subst rows.HasOwing (ap (λ (x : PoolState). x.core.leaves) stands.is ∙ leaves_is ∙ seen_is (seats_in p.frozen) trees) has))),
      refl,
    ),
    stands,
  )
