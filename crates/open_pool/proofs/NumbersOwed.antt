-- Leaves that owe a number which is drawn, with what is widened behind it.
use Rattle.std.proofs.Common.{◌≡◌, ℕ, ◌+◌, ◌≤◌, ◌^◌, ◌&&◌, ◌||◌, not, cond, Bool, true, false, List, [], ◌∷◌, length, map, refl, sym, ap, ◌∙◌, subst, arith}
use Rattle.std.proofs.Math.Path.{fun_ext}
use Rattle.std.specs.Prelude.{All, is_some}
use Rattle.std.specs.List.{AllByRecursion, AllZip}
use Rattle.std.proofs.lemmas.Bool.{true≢false}
use Rattle.std.proofs.lemmas.Bool.Decides.{nat_tests}
use Rattle.group_set.specs.Groups.{holds}
use Rattle.vdev_tree.specs.declared.vdev.LeafVdev.{LeafVdev}
use Rattle.dtl_rules.specs.Widening.{IsCounted, Widenings, total_ranges}
use Rattle.txg_history.specs.Groups.{between}
use Rattle.txg_history.specs.Records.{Cells}
use Rattle.txg_engine.specs.declared.seat.Seat.{Seat}
use Rattle.txg_engine.specs.Boards.{on_board}
use Rattle.txg_engine.specs.Logs.{Grows, AreGrown, KeepsSets, AreOwing, is_off}
use Rattle.pool_moves.specs.FreezeRow.{up_devs}
use Rattle.pool_moves.specs.Leaves.{LeafSeen}
use Rattle.pool_moves.specs.Moves.{Move, Freeze, Draw, leaf_step, step, on_dev, log_grown}
use Rattle.pool_moves.specs.States.{ScanSeen, PoolSeen}
use Rattle.pool_moves.specs.Widening.{AreWidens, IsWidened, seen_along}
use Rattle.open_pool.specs.State.{seat_in, faults_of, own_of, leaf_of}
use Rattle.open_pool.proofs.BoardKept.{AreSameLeaves}
use Rattle.open_pool.proofs.LeafLeaves.{IsFit, same_numbers, same_length}
use Rattle.open_pool.proofs.LeavesByTops.{leaves_at, HaveTops}
use Rattle.open_pool.proofs.LeavesStay.{same_twice, roomy_same, grown_like, like_leaves}
use Rattle.open_pool.proofs.LogsWidened.{AreLogged, IsWithin, AreLikeThem, like_numbers, like_length, with_logs, widens_to}
use Rattle.open_pool.proofs.NumbersApart.{Differ, leaf_numbers}
use Rattle.open_pool.proofs.SeatsOfFreeze.{may_write, IsOnIfUp}

leaves_logged : (seats : List Seat) (tops : List ℕ) (leaves : List LeafVdev) → HaveTops tops leaves
    → AreLogged (leaves_at seats tops leaves) leaves
leaves_logged seats [] [] have = tt
leaves_logged seats [] (leaf ∷ leaves) have = absurd have
leaves_logged seats (top ∷ tops) [] have = absurd have
leaves_logged seats (top ∷ tops) (leaf ∷ leaves) have = (record { guid = refl; owes = refl }, leaves_logged seats tops leaves have.1)

leaves_relogged : (seats : List Seat) (tops : List ℕ) (old new : List LeafVdev) → HaveTops tops old
    → AreLikeThem old new → with_logs new (leaves_at seats tops old) ≡ leaves_at seats tops new
leaves_relogged seats [] [] [] have like = refl
leaves_relogged seats [] [] (y ∷ new) have like = absurd like
leaves_relogged seats [] (x ∷ old) new have like = absurd have
leaves_relogged seats (top ∷ tops) [] new have like = absurd have
leaves_relogged seats (top ∷ tops) (x ∷ old) [] have like = absurd like
leaves_relogged seats (top ∷ tops) (x ∷ old) (y ∷ new) have like =
    ap (λ l. l ∷ with_logs new (leaves_at seats tops old)) (ap (leaf_of seats top) (like.0 y.log))
    ∙ ap (λ ls. leaf_of seats top y ∷ ls) (leaves_relogged seats tops old new have.1 like.1)

pub have_same : (tops : List ℕ) (old new : List LeafVdev) → AreSameLeaves old new → HaveTops tops old
    → HaveTops tops new
have_same [] [] [] same have = tt
have_same [] [] (y ∷ new) same have = absurd same
have_same [] (x ∷ old) new same have = absurd have
have_same (top ∷ tops) [] new same have = absurd have
have_same (top ∷ tops) (x ∷ old) [] same have = absurd same
have_same (top ∷ tops) (x ∷ old) (y ∷ new) same have = (tt, have_same tops old new same.1 have.1)

-- The widenings behind a state whose logs grew to these, and what they leave.
record LeavesWidened (s : PoolSeen) (seats : List Seat) (tops : List ℕ) (new : List LeafVdev) : Type 0 where
  widens : List Move
  are : AreWidens s widens
  leads : seen_along widens s ≡ record s { leaves = leaves_at seats tops new }
  fit : IsFit s.number new

leaves_widen : (s : PoolSeen) (seats : List Seat) (tops : List ℕ) (grown new : List LeafVdev)
    → s.leaves ≡ leaves_at seats tops grown → HaveTops tops grown → s.number ≤ 2 ^ 62
    → IsFit s.number grown → All IsCounted grown → Widenings grown new → (length new ≤ 128 → total_ranges new ≤ 4096)
    → LeavesWidened s seats tops new
leaves_widen s seats tops grown new seen have high fit counted widened small =
    let w = widens_to s grown new high
    (subst (λ ls. AreLogged ls grown) (sym seen)
    (leaves_logged seats tops grown have)) fit.within fit.differ counted widened small fit.few in
    record {
      widens = w.widens;
      are = w.are;
      leads = w.leads ∙ ap (λ ls. record s { leaves = with_logs new ls }) seen
          ∙ ap (λ ls. record s { leaves = ls }) (leaves_relogged seats tops grown new have w.like);
      fit = record {
        differ = subst Differ (like_numbers grown new w.like) fit.differ;
        within = w.within;
        few = (let long = like_length grown new w.like in let few = fit.few in omega (arith, long, few));
      };
    }

-- Logs that get one number more, the next, stay within the numbers.
within_more : (which : LeafVdev → Bool) (number : ℕ) (old grown : List LeafVdev)
    → AllZip (Grows which (number + 1) (number + 1)) old grown → AllByRecursion (IsWithin number) old
    → AllByRecursion (IsWithin (number + 1)) grown
within_more which number [] [] grow within = tt
within_more which number [] (z ∷ grown) grow within = absurd grow
within_more which number (x ∷ old) [] grow within = absurd grow
within_more which number (x ∷ old) (z ∷ grown) grow within = (
  (λ g has. either g (holds x.log g) (which x) (between (number + 1) (number + 1) g) refl refl
      (sym (grow.0.groups g) ∙ has)),
  within_more which number old grown grow.1 within.1,
)
  where
    here : (g : ℕ) → between (number + 1) (number + 1) g ≡ true → (1 ≤ g) × (g ≤ number + 1)
    here g is = let a : number + 1 ≤ g = grind (arith, nat_tests) in let b : g ≤ number + 1 = grind
        (arith, nat_tests) in (omega (arith, a), b)

    either : (g : ℕ) (h t b : Bool) → holds x.log g ≡ h → between (number + 1) (number + 1) g ≡ b
        → (h || (t && b)) ≡ true → (1 ≤ g) × (g ≤ number + 1)
    either g true t b had is e = let w = within.0 g had in (w.0, omega (arith, w.1))
    either g false true b had is e = here g (is ∙ e)
    either g false false b had is e = absurd (true≢false (sym e))

grown_fit : (number : ℕ) (old new : List LeafVdev) → AreSameLeaves old new → Differ (leaf_numbers old)
    → length old ≤ 128 → AllByRecursion (IsWithin number) new → IsFit number new
grown_fit number old new same differ few within = record {
  differ = subst Differ (sym (same_numbers old new same)) differ;
  within = within;
  few = (let long = same_length old new same in omega (arith, long, few));
}

grown_log : (t b h : Bool) → cond (t && b) true h ≡ (h || (t && b))
grown_log true true true = refl
grown_log true true false = refl
grown_log true false true = refl
grown_log true false false = refl
grown_log false b true = refl
grown_log false b false = refl

-- What a move that draws a number makes of the state, with the widenings behind it.
pub record Owes (s : PoolSeen) (v : Move) (seats : List Seat) (tops : List ℕ) (new : List LeafVdev) : Type 0 where
  pub moves : List Move
  pub are : IsWidened s v moves
  pub leads : seen_along moves s ≡ record (step v s) { leaves = leaves_at seats tops new }
  pub fit : IsFit (step v s).number new

-- A further number is drawn: who isn't on the board owes it.
leaf_draws : (seats : List Seat) (top number first : ℕ) (scan : ScanSeen) (old grown : LeafVdev)
    → Grows (is_off seats) (number + 1) (number + 1) old grown
    → leaf_step Draw number first scan (leaf_of seats top old) ≡ leaf_of seats top grown
leaf_draws seats top number first scan old grown grow =
    ap (λ log. record (leaf_of seats top old) { owes = log })
    (fun_ext (λ g. grown_log (not (on_board seats old.guid)) (between (number + 1) (number + 1) g)
    (holds old.log g) ∙ sym (grow.groups g)))
    ∙ ap (leaf_of seats top) (sym (grow.rest grown.log))

leaves_draw : (seats : List Seat) (tops : List ℕ) (number first : ℕ) (scan : ScanSeen) (old grown : List LeafVdev)
    → AllZip (Grows (is_off seats) (number + 1) (number + 1)) old grown
    → map (leaf_step Draw number first scan) (leaves_at seats tops old) ≡ leaves_at seats tops grown
leaves_draw seats [] number first scan old grown grow = refl
leaves_draw seats (top ∷ tops) number first scan [] [] grow = refl
leaves_draw seats (top ∷ tops) number first scan [] (z ∷ grown) grow = absurd grow
leaves_draw seats (top ∷ tops) number first scan (x ∷ old) [] grow = absurd grow
leaves_draw seats (top ∷ tops) number first scan (x ∷ old) (z ∷ grown) grow =
    ap (λ l. l ∷ map (leaf_step Draw number first scan) (leaves_at seats tops old))
    (leaf_draws seats top number first scan x z grow.0)
    ∙ ap (λ ls. leaf_of seats top z ∷ ls) (leaves_draw seats tops number first scan old grown grow.1)

pub draws_owe : (s : PoolSeen) (seats : List Seat) (tops : List ℕ) (old new : List LeafVdev)
    → s.leaves ≡ leaves_at seats tops old → HaveTops tops old → s.number + 1 ≤ 2 ^ 62
    → IsFit s.number old → AreGrown (is_off seats) (s.number + 1) (s.number + 1) old new → Owes s Draw seats tops new
draws_owe s seats tops old new seen have high fit g =
    let same = like_leaves old g.grown (grown_like (is_off seats) (s.number + 1) (s.number + 1) old g.grown g.grow) in
    let w = leaves_widen (step Draw s) seats tops g.grown new
    (ap (map (leaf_step Draw s.number s.group.first s.scan)) seen ∙ leaves_draw seats tops s.number s.group.first s.scan old g.grown g.grow)
    (have_same tops old g.grown same have) high
    (grown_fit (s.number + 1) old g.grown same fit.differ fit.few
    (within_more (is_off seats) s.number old g.grown g.grow fit.within)) g.counted g.widened g.small in
    record { moves = Draw ∷ w.widens; are = record { widens = w.widens; are = w.are; moves = refl }; leads = w.leads; fit = w.fit }

-- A freeze: who may not be written isn't on its board, and owes its number.
abbrev seen_frozen : (leaf : LeafVdev) (top : ℕ) (joined : Bool) (faults : ℕ) (on : Bool) (owes settled : ℕ → Bool)
    → LeafSeen
seen_frozen leaf top joined faults on owes settled = record (leaf_of [] top leaf) {
  own = record (own_of [] leaf) { joined = joined; faults = faults };
  owes = owes;
  settled = settled;
  on = on;
}

leaf_owes : (seats : List Seat) (all : List LeafSeen) (cells : Cells) (top number first : ℕ) (scan : ScanSeen)
    (old roomy grown : LeafVdev) → IsOnIfUp seats old
    → on_dev (up_devs all) old.dev ≡ may_write old → KeepsSets old roomy
    → Grows (is_off seats) (number + 1) (number + 1) roomy grown
    → leaf_step (Freeze cells (up_devs all)) number first scan (leaf_of [] top old) ≡ leaf_of seats top grown
leaf_owes seats all cells top number first scan old roomy grown on up keeps grow =
    ap (λ b. seen_frozen old top b 0 b (log_grown (not b) (number + 1) (number + 1) (holds old.log))
    (holds old.settled)) (up ∙ sym on.on)
    ∙ ap (λ b. seen_frozen old top b 0 (on_board seats old.guid)
    (log_grown (not (on_board seats old.guid)) (number + 1) (number + 1) (holds old.log)) (holds old.settled)) (on.on
    ∙ sym on.joined)
    ∙ ap (λ n. seen_frozen old top (is_some (seat_in seats old.guid)) n (on_board seats old.guid)
    (log_grown (not (on_board seats old.guid)) (number + 1) (number + 1) (holds old.log)) (holds old.settled))
    (sym on.faults)
    ∙ ap (λ log. seen_frozen old top (is_some (seat_in seats old.guid)) (faults_of (seat_in seats old.guid))
    (on_board seats old.guid) log (holds old.settled)) (fun_ext logs)
    ∙ ap (λ settled. seen_frozen old top (is_some (seat_in seats old.guid)) (faults_of (seat_in seats old.guid))
    (on_board seats old.guid) (holds grown.log) settled)
    (fun_ext (λ g. sym (keeps.settled.groups g)))
    ∙ ap (leaf_of seats top) (sym (keeps.rest grown.log roomy.settled))
    ∙ ap (leaf_of seats top) (sym (grow.rest grown.log))
  where
    guid : roomy.guid ≡ old.guid
    guid = ap (λ (leaf : LeafVdev). leaf.guid) (keeps.rest old.log old.settled)

    logs : (g : ℕ)
        → log_grown (not (on_board seats old.guid)) (number + 1) (number + 1) (holds old.log) g ≡ holds grown.log g
    logs g =
        grown_log (not (on_board seats old.guid)) (between (number + 1) (number + 1) g) (holds old.log g)
        ∙ ap (λ h. h || (not (on_board seats old.guid) && between (number + 1) (number + 1) g))
        (sym (keeps.log.groups g))
        ∙ ap (λ m. holds roomy.log g || (not (on_board seats m) && between (number + 1) (number + 1) g)) (sym guid)
        ∙ sym (grow.groups g)

leaves_owe : (seats : List Seat) (all : List LeafSeen) (cells : Cells) (tops : List ℕ) (number first : ℕ) (scan : ScanSeen)
    (old roomy grown : List LeafVdev) → AllByRecursion (IsOnIfUp seats) old
    → AllByRecursion (λ leaf. on_dev (up_devs all) leaf.dev ≡ may_write leaf) old → AllZip KeepsSets old roomy
    → AllZip (Grows (is_off seats) (number + 1) (number + 1)) roomy grown
    → map (leaf_step (Freeze cells (up_devs all)) number first scan) (leaves_at [] tops old) ≡ leaves_at seats tops grown
leaves_owe seats all cells [] number first scan old roomy grown on up keeps grow = refl
leaves_owe seats all cells (top ∷ tops) number first scan [] [] [] on up keeps grow = refl
leaves_owe seats all cells (top ∷ tops) number first scan [] [] (z ∷ grown) on up keeps grow = absurd grow
leaves_owe seats all cells (top ∷ tops) number first scan [] (y ∷ roomy) grown on up keeps grow = absurd keeps
leaves_owe seats all cells (top ∷ tops) number first scan (x ∷ old) [] grown on up keeps grow = absurd keeps
leaves_owe seats all cells (top ∷ tops) number first scan (x ∷ old) (y ∷ roomy) [] on up keeps grow = absurd grow
leaves_owe seats all cells (top ∷ tops) number first scan (x ∷ old) (y ∷ roomy) (z ∷ grown) on up keeps grow =
    ap (λ l. l ∷ map (leaf_step (Freeze cells (up_devs all)) number first scan) (leaves_at [] tops old))
    (leaf_owes seats all cells top number first scan x y z on.0 up.0 keeps.0 grow.0)
    ∙ ap (λ ls. leaf_of seats top z ∷ ls)
    (leaves_owe seats all cells tops number first scan old roomy grown on.1 up.1 keeps.1 grow.1)

pub within_kept : (number : ℕ) (old roomy : List LeafVdev) → AllZip KeepsSets old roomy
    → AllByRecursion (IsWithin number) old → AllByRecursion (IsWithin number) roomy
within_kept number [] [] keeps within = tt
within_kept number [] (y ∷ roomy) keeps within = absurd keeps
within_kept number (x ∷ old) [] keeps within = absurd keeps
within_kept number (x ∷ old) (y ∷ roomy) keeps within = (
  (λ g has. within.0 g
      (sym (keeps.0.log.groups g) ∙ has)),
  within_kept number old roomy keeps.1 within.1,
)

pub freezes_owe : (s : PoolSeen) (seats : List Seat) (cells : Cells) (tops : List ℕ) (old new : List LeafVdev)
    → s.leaves ≡ leaves_at [] tops old → HaveTops tops old
    → s.number + 1 ≤ 2 ^ 62 → IsFit s.number old → AllByRecursion (IsOnIfUp seats) old
    → AllByRecursion (λ leaf. on_dev (up_devs s.leaves) leaf.dev ≡ may_write leaf) old
    → AreOwing (is_off seats) (s.number + 1) old new → Owes s (Freeze cells (up_devs s.leaves)) seats tops new
freezes_owe s seats cells tops old new seen have high fit on up owing =
    let g = owing.grown in
    let v = Freeze cells (up_devs s.leaves) in
    let same = same_twice old owing.roomy g.grown (roomy_same old owing.roomy owing.room)
    (like_leaves owing.roomy g.grown
    (grown_like (is_off seats) (s.number + 1) (s.number + 1) owing.roomy g.grown g.grow)) in
    let w = leaves_widen (step v s) seats tops g.grown new
    (ap (map (leaf_step v s.number s.group.first s.scan)) seen
    ∙ leaves_owe seats s.leaves cells tops s.number s.group.first s.scan old owing.roomy g.grown on up owing.room g.grow)
    (have_same tops old g.grown same have) high
    (grown_fit (s.number + 1) old g.grown same fit.differ fit.few
    (within_more (is_off seats) s.number owing.roomy g.grown g.grow
    (within_kept s.number old owing.roomy owing.room fit.within))) g.counted g.widened g.small in
    record { moves = v ∷ w.widens; are = record { widens = w.widens; are = w.are; moves = refl }; leads = w.leads; fit = w.fit }
