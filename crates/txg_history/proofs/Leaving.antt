-- The members of a turn or a round that failed leave the board.
use Rattle.std.proofs.Common.{◌≡◌, ℕ, zero, suc, ◌==◌, ◌&&◌, ◌||◌, Bool, true, false, cond, List, [], ◌∷◌, Some, refl, sym, ap, ◌∙◌}
use Rattle.std.specs.Prelude.{slice_get}
use Rattle.label_store.specs.declared.member.Member.{Member}
use Rattle.label_store.proofs.Keeping.{same_member, no_member}
use Rattle.std.proofs.lemmas.Bool.{eq-eqb}
use Rattle.txg_history.specs.Events.{Leaves, calls_of}
use Rattle.txg_history.specs.Groups.{Logs, at_device, between, grown}
use Rattle.txg_history.specs.Moves.{Mays}
use Rattle.txg_history.specs.Pages.{Codec}
use Rattle.txg_history.specs.Pools.{Pool, after, pool_after}
use Rattle.txg_history.specs.Turns.{leavers, fails, IsBoardBehind}
use Rattle.txg_history.proofs.Logging.{by_bool, true_not_false, at_here, at_away, same_device}
use Rattle.txg_history.proofs.Folding.{taken_false}

same_bool : (b c : Bool) → Some b ≡ Some c → b ≡ c
same_bool b c e = cc

pub leavers_no_call : (ms : List Member) (results : List Bool) → calls_of (leavers ms results) ≡ []
leavers_no_call [] results = refl
leavers_no_call (m ∷ ms) [] = refl
leavers_no_call (m ∷ ms) (true ∷ results) = leavers_no_call ms results
leavers_no_call (m ∷ ms) (false ∷ results) = leavers_no_call ms results

-- the board and the logs without them
abbrev pub left_board : List Member → List Bool → (ℕ → Bool) → ℕ → Bool
left_board [] results board = board
left_board (m ∷ ms) [] board = board
left_board (m ∷ ms) (true ∷ results) board = left_board ms results board
left_board (m ∷ ms) (false ∷ results) board = left_board ms results (at_device m.dev false board)

abbrev pub left_owes : (first last : ℕ) → List Member → List Bool → Logs → Logs
left_owes first last [] results owes = owes
left_owes first last (m ∷ ms) [] owes = owes
left_owes first last (m ∷ ms) (true ∷ results) owes = left_owes first last ms results owes
left_owes first last (m ∷ ms) (false ∷ results) owes = left_owes first last ms results (grown (λ e. m.dev == e) first last owes)

abbrev pub without : List Member → List Bool → Pool → Pool
without ms results p = record p {
  owes = left_owes p.group.first p.highest ms results p.owes;
  group = record
      (p.group) { board = left_board ms results p.group.board };
}

pub leavers_pool : (ms : List Member) (results : List Bool) (p : Pool) → pool_after (leavers ms results) p ≡ without ms results p
leavers_pool [] results p = refl
leavers_pool (m ∷ ms) [] p = refl
leavers_pool (m ∷ ms) (true ∷ results) p = leavers_pool ms results p
leavers_pool (m ∷ ms) (false ∷ results) p = leavers_pool ms results (after (Leaves m.dev) p)

-- they may, while a group is frozen
pub leavers_may : (c : Codec) (ms : List Member) (results : List Bool) (p : Pool) → p.group.frozen ≡ true → Mays c p (leavers ms results)
leavers_may c [] results p f = tt
leavers_may c (m ∷ ms) [] p f = tt
leavers_may c (m ∷ ms) (true ∷ results) p f = leavers_may c ms results p f
leavers_may c (m ∷ ms) (false ∷ results) p f = (f, leavers_may c ms results (after (Leaves m.dev) p) f)

pub left_before : (ms : List Member) (results : List Bool) (board : ℕ → Bool) (d : ℕ) → left_board ms results board d ≡ true → board d ≡ true
left_before [] results board d is = is
left_before (m ∷ ms) [] board d is = is
left_before (m ∷ ms) (true ∷ results) board d is = left_before ms results board d is
left_before (m ∷ ms) (false ∷ results) board d is = taken_false m.dev d board (left_before ms results (at_device m.dev false board) d is)

pub left_good : (ms : List Member) (results : List Bool) (board : ℕ → Bool) (d i : ℕ) (m : Member) (c : Bool) → left_board ms results board d ≡ true
    → slice_get ms i ≡ Some m → m.dev ≡ d → slice_get results i ≡ Some c → c ≡ true
left_good [] results board d i m c is at here on = absurd (no_member m at)
left_good (n ∷ ms) [] board d i m c is at here on = absurd (cc)
left_good (n ∷ ms) (true ∷ results) board d zero m c is at here on = sym (same_bool true c on)
left_good (n ∷ ms) (false ∷ results) board d zero m c is at here on =
    true_not_false (at_device n.dev false board d) (left_before ms results (at_device n.dev false board) d is)
    (at_here n.dev d false board (eq-eqb n.dev d (ap (λ x. x.dev) (same_member n m at) ∙ here)))
left_good (n ∷ ms) (true ∷ results) board d (suc i) m c is at here on = left_good ms results board d i m c is at here on
left_good (n ∷ ms) (false ∷ results) board d (suc i) m c is at here on = left_good ms results (at_device n.dev false board) d i m c is at here on

left_stays : (ms : List Member) (results : List Bool) (board : ℕ → Bool) (d : ℕ) → board d ≡ true
    → ((i : ℕ) (m : Member) (c : Bool) → slice_get ms i ≡ Some m → m.dev ≡ d → slice_get results i ≡ Some c → c ≡ true) → left_board ms results board d ≡ true
left_stays [] results board d on good = on
left_stays (n ∷ ms) [] board d on good = on
left_stays (n ∷ ms) (true ∷ results) board d on good = left_stays ms results board d on (λ i m c at here r. good (suc i) m c at here r)
left_stays (n ∷ ms) (false ∷ results) board d on good = left_stays ms results (at_device n.dev false board) d
    (by_bool (n.dev == d) (λ here. absurd (never (good zero n false refl (same_device n.dev d here) refl))) (λ away. at_away n.dev d false board away ∙ on))
    (λ i m c at here r. good (suc i) m c at here r)
  where
    never : false ≡ true → ⊥
    never e = cc

-- What they leave of the board.
pub board_behind : (ms : List Member) (results : List Bool) (board : ℕ → Bool) → IsBoardBehind board (left_board ms results board) ms results
board_behind ms results board = record {
  before = λ d is. left_before ms results board d is;
  good = λ d i m c is at here on. left_good ms results board d i m c is at here on;
  stays = λ d on good. left_stays ms results board d on good;
}

or_fails : (e f : Bool) (y : Bool) → cond f false (cond e false y) ≡ cond (e || f) false y
or_fails true true y = refl
or_fails true false y = refl
or_fails false true y = refl
or_fails false false y = refl

pub left_board_is : (ms : List Member) (results : List Bool) (board : ℕ → Bool) (d : ℕ)
    → left_board ms results board d ≡ cond (fails ms results d) false (board d)
left_board_is [] results board d = refl
left_board_is (m ∷ ms) [] board d = refl
left_board_is (m ∷ ms) (true ∷ results) board d = left_board_is ms results board d
left_board_is (m ∷ ms) (false ∷ results) board d =
    left_board_is ms results (at_device m.dev false board) d ∙ or_fails (m.dev == d) (fails ms results d) (board d)

or_grown : (e f b y : Bool) → cond (f && b) true (cond (e && b) true y) ≡ cond ((e || f) && b) true y
or_grown true true true y = refl
or_grown true true false y = refl
or_grown true false true y = refl
or_grown true false false y = refl
or_grown false true true y = refl
or_grown false true false y = refl
or_grown false false true y = refl
or_grown false false false y = refl

pub left_owes_is : (first last : ℕ) (ms : List Member) (results : List Bool) (owes : Logs) (d g : ℕ)
    → left_owes first last ms results owes d g ≡ grown (fails ms results) first last owes d g
left_owes_is first last [] results owes d g = refl
left_owes_is first last (m ∷ ms) [] owes d g = refl
left_owes_is first last (m ∷ ms) (true ∷ results) owes d g = left_owes_is first last ms results owes d g
left_owes_is first last (m ∷ ms) (false ∷ results) owes d g =
    left_owes_is first last ms results (grown (λ e. m.dev == e) first last owes) d g
    ∙ or_grown (m.dev == d) (fails ms results d) (between first last g) (owes d g)
