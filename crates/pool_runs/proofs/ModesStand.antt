-- Through the turns of a group each leaf may be written as before.
use Rattle.std.proofs.Common.{◌≡◌, inl, inr, ℕ, ◌≤◌, ◌==◌, ◌&&◌, ◌||◌, Bool, true, false, List, [], ◌∷◌, map, Option, refl, sym, ap, ◌∙◌, subst}
use Rattle.std.specs.List.{AllByRecursion, list_any}
use Rattle.std.specs.Option.{is_some}
use Rattle.std.proofs.lemmas.Bool.{and_parts, cond_both, or_right}
use Rattle.mp_base.specs.declared.number.Guid.{Guid}
use Rattle.vdev_tree.specs.Leaf.{is_up}
use Rattle.txg_history.specs.Pages.{Codec}
use Rattle.txg_history.specs.Pools.{Pool}
use Rattle.txg_history.proofs.Logging.{by_bool, same_device, true_not_false}
use Rattle.pool_moves.specs.Keeping.{IsElsewhere, AreSeatsApart, IsAway, IsSeated, IsOwnNumber}
use Rattle.pool_moves.specs.Leaves.{OwnLeaf, LeafSeen, Seat, At, Adrift, told, leaf_seen}
use Rattle.pool_moves.specs.LineRows.{Committed, EndsGroup, write_failed}
use Rattle.pool_moves.specs.Moves.{Move, Sets, leaf_step, state_step, steps, Freeze, Finds, Clear, Burn}
use Rattle.pool_moves.specs.Refusing.{is_writable}
use Rattle.pool_moves.specs.States.{ScanSeen, PoolState}
use Rattle.pool_runs.specs.Knowing.{HasSeats}
use Rattle.pool_runs.proofs.OnlyFailedLeave.{IsJust, AreJust, Comes, KeepsMay, group_comes, step_leaves, steps_tops, steps_places}
use Rattle.pool_moves.proofs.KindsOfMoves.{AnyLeaf, MaySet}
use Rattle.pool_moves.proofs.Lists.{all_map, each, of_all, of_both, swap, map_forth}
use Rattle.pool_moves.proofs.Tests.{same_test}

-- Seats at one device are one seat.
abbrev IsSameAt : (d : ℕ) → OwnLeaf → Seat → Type 0
IsSameAt d own (At e found other) = (d == e) ≡ true → other ≡ own
IsSameAt d own (Adrift leaf) = Unit {0}

abbrev IsSameAs : Seat → Seat → Type 0
IsSameAs (At d found own) seat = IsSameAt d own seat
IsSameAs (Adrift leaf) seat = Unit {0}

off_here : (d : ℕ) (own : OwnLeaf) (seat : Seat) → IsElsewhere d seat → IsSameAt d own seat
off_here d own (At e found other) off = λ same. true_not_false (d == e) same off
off_here d own (Adrift leaf) off = tt

off_there : (d : ℕ) (found : Bool) (own : OwnLeaf) (seat : Seat) → IsElsewhere d seat → IsSameAs seat (At d found own)
off_there d found own (At e was other) off =
    λ same. true_not_false (d == e) (same_test d e (sym (same_device e d same))) off
off_there d found own (Adrift leaf) off = tt

adrift_there : (seat : Seat) (leaf : LeafSeen) → IsSameAs seat (Adrift leaf)
adrift_there (At d found own) leaf = tt
adrift_there (Adrift other) leaf = tt

all_same : (seats : List Seat) → AreSeatsApart seats
    → AllByRecursion (λ seat. AllByRecursion (IsSameAs seat) seats) seats
all_same [] apart = tt
all_same (At d found own ∷ seats) apart = (
  ((λ same. refl), each (off_here d own) seats apart.0),
  of_both (λ seat off same. (off_there d found own seat off, same)) seats apart.0 (all_same seats apart.1),
)
all_same (Adrift leaf ∷ seats) apart = (
  (tt, of_all (λ seat. tt) seats),
  each (λ seat same. (adrift_there seat leaf, same)) seats (all_same seats apart),
)

-- what a freeze sees of a leaf
abbrev pub Written : Type 0
Written = Bool × Option ℕ × ℕ

abbrev pub written_as : LeafSeen → Written
written_as leaf = (is_writable leaf, leaf.dev, leaf.top)

module _ (leaves : List LeafSeen) where
  -- the state of the leaf of this number that has a device here, where there is one
  abbrev pub IsMild : (n : ℕ) → OwnLeaf → Type 0
  IsMild n own = AllByRecursion
      (λ leaf. is_some leaf.dev ≡ true → (leaf.guid.0 == n) ≡ true → own.mode ≡ leaf.own.mode) leaves

  abbrev pub Mild : Guid → OwnLeaf → Type 0
  Mild m own = IsMild m.0 own

  leaf_mild : (v : Move) (number first : ℕ) (scan : ScanSeen) (leaf : LeafSeen) → IsJust AnyLeaf Mild (Unit {0}) v
      → Mild leaf.guid (write_failed leaf.own)
      → Mild (leaf_step v number first scan leaf).guid (write_failed (leaf_step v number first scan leaf).own)
  leaf_mild (Sets m own) number first scan leaf just mild = cond_both (leaf.guid.0 == m.0) (record leaf { own = own })
      leaf (λ x. Mild x.guid (write_failed x.own))
      (λ same. subst (λ n. IsMild n own) (sym (same_device leaf.guid.0 m.0 same)) just) (λ away. mild)
  leaf_mild (Freeze cells board) number first scan leaf just mild = absurd just
  leaf_mild Burn number first scan leaf just mild = absurd just
  leaf_mild (Finds m d) number first scan leaf just mild = absurd just
  leaf_mild (Clear d) number first scan leaf just mild = absurd just
  leaf_mild v number first scan leaf just mild = mild

  step_mild : (v : Move) (s : PoolState) → IsJust AnyLeaf Mild (Unit {0}) v → MaySet Mild s.core.leaves
      → MaySet Mild (state_step v s).core.leaves
  step_mild v s just all = step_leaves AnyLeaf Mild (Unit {0}) (MaySet Mild) v s just
      (all_map _ (leaf_step v s.core.number s.core.group.first s.core.scan)
      (λ leaf mild. leaf_mild v s.core.number s.core.group.first s.core.scan leaf just mild) s.core.leaves all)

  steps_mild : KeepsMay AnyLeaf Mild (Unit {0})
  steps_mild [] s just all = all
  steps_mild (v ∷ vs) s just all = steps_mild vs (state_step v s) just.1 (step_mild v s just.0 all)

  -- one of the leaves has a device and this number, and so two states are one
  abbrev has_device : (n : ℕ) → LeafSeen → Bool
  has_device n leaf = is_some leaf.dev && (leaf.guid.0 == n)

  abbrev HasDevice : Guid → Option ℕ → Type 0
  HasDevice m dev = is_some dev ≡ true → list_any (has_device m.0) leaves ≡ true

  abbrev IsCarried : LeafSeen → Type 0
  IsCarried leaf = HasDevice leaf.guid leaf.dev

  one_mode : (n : ℕ) (a b : OwnLeaf) (xs : List LeafSeen) → list_any (has_device n) xs ≡ true
      → AllByRecursion (λ leaf. is_some leaf.dev ≡ true → (leaf.guid.0 == n) ≡ true → a.mode ≡ leaf.own.mode) xs
      → AllByRecursion (λ leaf. is_some leaf.dev ≡ true → (leaf.guid.0 == n) ≡ true → b.mode ≡ leaf.own.mode) xs
      → a.mode ≡ b.mode
  one_mode n a b [] has x y = absurd (cc)
  one_mode n a b (leaf ∷ xs) has x y = by_bool (has_device n leaf)
      (λ here. let parts = and_parts (is_some leaf.dev) (leaf.guid.0 == n) here in x.0 parts.0 parts.1
      ∙ sym (y.0 parts.0 parts.1))
      (λ away. one_mode n a b xs (sym (ap (λ t. t || list_any (has_device n) xs) away) ∙ has) x.1 y.1)

  none_and : (a b : Bool) → (a && false) ≡ (b && false)
  none_and true true = refl
  none_and true false = refl
  none_and false true = refl
  none_and false false = refl

  leaf_written : (v : Move) (number first : ℕ) (scan : ScanSeen) (leaf : LeafSeen) → IsJust AnyLeaf Mild (Unit {0}) v
      → Mild leaf.guid (write_failed leaf.own) → IsCarried leaf
      → written_as (leaf_step v number first scan leaf) ≡ written_as leaf
  leaf_written (Sets m own) number first scan leaf just mild carried = cond_both (leaf.guid.0 == m.0)
      (record leaf { own = own }) leaf (λ x. written_as x ≡ written_as leaf)
      (λ same. ap (λ t. (t, leaf.dev, leaf.top)) (writable (same_device leaf.guid.0 m.0 same))) (λ away. refl)
    where
      writable : leaf.guid.0 ≡ m.0 → (is_up own.mode && is_some leaf.dev) ≡ is_writable leaf
      writable same = by_bool (is_some leaf.dev) (λ some. ap (λ mode. is_up mode && is_some leaf.dev)
          (one_mode leaf.guid.0 own leaf.own leaves (carried some) (subst (λ n. IsMild n own) (sym same) just) mild))
          (λ none. ap (λ t. is_up own.mode && t) none
          ∙ (none_and (is_up own.mode) (is_up leaf.own.mode) ∙ ap (λ t. is_up leaf.own.mode && t) (sym none)))
  leaf_written (Freeze cells board) number first scan leaf just mild carried = absurd just
  leaf_written Burn number first scan leaf just mild carried = absurd just
  leaf_written (Finds m d) number first scan leaf just mild carried = absurd just
  leaf_written (Clear d) number first scan leaf just mild carried = absurd just
  leaf_written v number first scan leaf just mild carried = refl

  all_written : (f : LeafSeen → LeafSeen) → ((leaf : LeafSeen) → Mild leaf.guid (write_failed leaf.own) → IsCarried leaf
      → written_as (f leaf) ≡ written_as leaf) → (xs : List LeafSeen) → MaySet Mild xs → AllByRecursion IsCarried xs
      → map written_as (map f xs) ≡ map written_as xs
  all_written f same [] mild carried = refl
  all_written f same (leaf ∷ xs) mild carried = ap (λ one. one ∷ map written_as (map f xs)) (same leaf mild.0 carried.0)
      ∙ ap (λ more. written_as leaf ∷ more) (all_written f same xs mild.1 carried.1)

  step_written : (v : Move) (s : PoolState) → IsJust AnyLeaf Mild (Unit {0}) v → MaySet Mild s.core.leaves
      → AllByRecursion IsCarried s.core.leaves
      → map written_as (state_step v s).core.leaves ≡ map written_as s.core.leaves
  step_written v s just mild carried =
      step_leaves AnyLeaf Mild (Unit {0}) (λ l. map written_as l ≡ map written_as s.core.leaves) v s just
      (all_written (leaf_step v s.core.number s.core.group.first s.core.scan)
      (λ leaf. leaf_written v s.core.number s.core.group.first s.core.scan leaf just) s.core.leaves mild carried)

  steps_written : (vs : List Move) (s : PoolState) → AreJust AnyLeaf Mild (Unit {0}) vs → MaySet Mild s.core.leaves
      → AllByRecursion IsCarried s.core.leaves → map written_as (steps vs s).core.leaves ≡ map written_as s.core.leaves
  steps_written [] s just mild carried = refl
  steps_written (v ∷ vs) s just mild carried = steps_written vs (state_step v s) just.1 (step_mild v s just.0 mild)
      (steps_places AnyLeaf Mild (Unit {0}) HasDevice (v ∷ []) s (just.0, tt) carried)
      ∙ step_written v s just.0 mild carried

-- each leaf of a list is carried by it
carried_up : (first : LeafSeen) (all leaves : List LeafSeen) → AllByRecursion (IsCarried all) leaves
    → AllByRecursion (IsCarried (first ∷ all)) leaves
carried_up first all leaves each_one =
    each (λ leaf carried some. or_right (has_device all leaf.guid.0 first) (list_any (has_device all leaf.guid.0) all)
    (carried some)) leaves each_one

carried_here : (leaf : LeafSeen) (leaves : List LeafSeen) → IsCarried (leaf ∷ leaves) leaf
carried_here leaf leaves some =
    ap (λ t. (t && (leaf.guid.0 == leaf.guid.0)) || list_any (has_device leaves leaf.guid.0) leaves) some
    ∙ ap (λ t. t || list_any (has_device leaves leaf.guid.0) leaves) (same_test leaf.guid.0 leaf.guid.0 refl)

carried_all : (leaves : List LeafSeen) → AllByRecursion (IsCarried leaves) leaves
carried_all [] = tt
carried_all (leaf ∷ leaves) = (carried_here leaf leaves, carried_up leaf leaves leaves (carried_all leaves))

-- In a state that its history has, each leaf with a device is alone in its number.
abbrev IsAlone : (leaf other : LeafSeen) → Type 0
IsAlone leaf other = is_some leaf.dev ≡ true → (leaf.guid.0 == other.guid.0) ≡ true → other.own.mode ≡ leaf.own.mode

at_alone : (f : Bool) (p : Pool) (d : ℕ) (found : Bool) (own : OwnLeaf) (other : Seat) → IsOwnNumber p.guid d other
    → IsSameAt d own other → IsAlone (leaf_seen f (told p) (At d found own)) (leaf_seen f (told p) other)
at_alone f p d found own (At e was mine) (inl here) same = λ some number. ap (λ x. x.mode) (same here)
at_alone f p d found own (At e was mine) (inr off) same = λ some number. true_not_false ((p.guid e).0 == (p.guid d).0)
    (same_test (p.guid e).0 (p.guid d).0 (sym (same_device (p.guid d).0 (p.guid e).0 number))) off
at_alone f p d found own (Adrift leaf) off same = λ some number. true_not_false (leaf.guid.0 == (p.guid d).0)
    (same_test leaf.guid.0 (p.guid d).0 (sym (same_device (p.guid d).0 leaf.guid.0 number))) off

seat_alone : (f : Bool) (p : Pool) (seats : List Seat)
    → ((d : ℕ) → p.member d ≡ true → AllByRecursion (IsOwnNumber p.guid d) seats) → (seat : Seat)
    → AllByRecursion (IsSameAs seat) seats → IsSeated p.member seat → IsAway seat
    → AllByRecursion (λ other. IsAlone (leaf_seen f (told p) seat) (leaf_seen f (told p) other)) seats
seat_alone f p seats numbered (At d found own) same seated away =
    of_both (at_alone f p d found own) seats (numbered d seated) same
seat_alone f p seats numbered (Adrift leaf) same seated away =
    of_all (λ other some number. absurd (let no : true ≡ false = sym some ∙ ap is_some away.0 in cc)) seats

kept_mild : (f : Bool) (p : Pool) (seats : List Seat)
    → ((d : ℕ) → p.member d ≡ true → AllByRecursion (IsOwnNumber p.guid d) seats) → AreSeatsApart seats
    → AllByRecursion (IsSeated p.member) seats → AllByRecursion IsAway seats
    → MaySet (Mild (map (leaf_seen f (told p)) seats)) (map (leaf_seen f (told p)) seats)
kept_mild f p seats numbered apart seated away =
    map_forth (λ other. AllByRecursion (λ leaf. IsAlone leaf other) (map see seats)) see seats
    (each (λ other alone. map_forth (λ leaf. IsAlone leaf (see other)) see seats alone) seats
    (swap (λ seat other. IsAlone (see seat) (see other)) seats seats
    (of_both {Q = λ seat. IsSeated p.member seat × IsAway seat}
    (λ seat same more. seat_alone f p seats numbered seat same more.0 more.1) seats (all_same seats apart)
    (of_both (λ seat a b. (a, b)) seats seated away))))
  where
    see : Seat → LeafSeen
    see seat = leaf_seen f (told p) seat

state_mild : (c : Codec) (s : PoolState) (p : Pool) → HasSeats c s p → MaySet (Mild s.core.leaves) s.core.leaves
state_mild c s p (seats, kept) =
    subst (λ leaves. MaySet (Mild leaves) leaves) (ap (λ core. core.leaves) (sym kept.core))
    (kept_mild p.group.frozen p seats kept.numbered kept.apart kept.seated kept.away)

-- A frozen group that was acknowledged: each leaf may be written as before, on its device and under its top.
pub record IsLeftWritable (s behind : PoolState) : Type 0 where
  pub leaves : map written_as behind.core.leaves ≡ map written_as s.core.leaves
  pub tops : behind.own.top_number ≡ s.own.top_number
  pub number : s.core.number ≤ behind.core.number

pub group_leaves : (c : Codec) (size : ℕ → ℕ) (s : PoolState) (p : Pool) (vs : List Move) (number : ℕ)
    → HasSeats c s p → EndsGroup c size s vs (Committed number) → IsLeftWritable s (steps vs s)
group_leaves c size s p vs number seats ends =
    of (group_comes AnyLeaf may (Unit {0}) (steps_mild s.core.leaves) c size s vs (Committed number) (λ is. tt)
    (state_mild c s p seats) (λ d failed. tt) ends)
  where
    may : Guid → OwnLeaf → Type 0
    may = Mild s.core.leaves

    of : Comes AnyLeaf may (Unit {0}) s vs (Committed number) → IsLeftWritable s (steps vs s)
    of (inl lost) = absurd (let no = lost.tells in cc)
    of (inr just) = let same = steps_tops vs s in record {
      leaves = steps_written s.core.leaves vs s just.0 (state_mild c s p seats) (carried_all s.core.leaves);
      tops = same.0;
      number = same.1;
    }
