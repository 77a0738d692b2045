-- A suspended group leaves the logs as they were, and a further round goes on without the leaf that failed.
use Rattle.std.proofs.Common.{◌≡◌, ◌⊎◌, ℕ, ◌+◌, ◌≤◌, ◌==◌, Bool, true, false, cond, List, [], ◌∷◌, ◌++◌, refl, sym, ap, ◌∙◌, inl, inr, arith}
use Rattle.label_store.specs.declared.member.Member.{Member}
use Rattle.label_store.specs.Seats.{AreApart}
use Rattle.txg_history.specs.Events.{Event, Freezes, Draws, Leaves, calls_of}
use Rattle.txg_history.specs.Groups.{Logs, between, grown, off}
use Rattle.txg_history.specs.Moves.{MayFreeze, IsDrawnUp, Mays}
use Rattle.txg_history.specs.Pages.{Codec}
use Rattle.txg_history.specs.Pools.{Pool, pool_after}
use Rattle.txg_history.specs.Records.{Rec, Cells}
use Rattle.txg_history.specs.Rounds.{all_true, IsRoundEvents, RoundEnds}
use Rattle.txg_history.specs.Survival.{Survives}
use Rattle.txg_history.specs.Turns.{AreJust, OnBoard}
use Rattle.txg_history.specs.Weeks.{suspended}
use Rattle.txg_history.proofs.Folding.{mays_more}
use Rattle.txg_history.proofs.Logging.{true_not_false, not_true, is_between, of_between, grown_of, grown_more}
use Rattle.txg_history.proofs.RoundMoves.{round_may, round_ends}
use Rattle.txg_history.proofs.Surviving.{history_survives}

unlike : (t u : Bool) → (t ≡ true → u ≡ true) → (u ≡ true → t ≡ true) → t ≡ u
unlike true u f g = sym (f refl)
unlike false true f g = g refl
unlike false false f g = refl

-- It is allowed, and each leaf's log is behind it as it was.
pub suspended_may : (c : Codec) (p : Pool) (cells : Cells) (board : ℕ → Bool) (d : ℕ) → Survives c p → MayFreeze c p cells board
    → Mays c p (suspended cells board d) × ((e g : ℕ) → p.member e ≡ true → 1 ≤ p.in_top e → (pool_after (suspended cells board d) p).owes e g ≡ p.owes e g)
suspended_may c p cells board d sv m = ((m, (refl, (refl, (refl, tt)))), λ e g is leaf. same e g is leaf)
  where
    first : ℕ
    first = p.highest + 1

    one : Logs
    one = grown (off board) first first p.owes

    two : Logs
    two = grown (λ e. d == e) first first one

    three : Logs
    three = grown (off (pool_after (Freezes cells board ∷ Leaves d ∷ []) p).group.board) (first + 1) (first + 1) two

    back : (e g : ℕ) → ((first ≤ g) × (g ≤ first + 1) → ⊥) → three e g ≡ true → p.owes e g ≡ true
    back e g out has = by_three (grown_of (off (pool_after (Freezes cells board ∷ Leaves d ∷ []) p).group.board) (first + 1) (first + 1) two e g has)
      where
        by_one : ((off board e ≡ true) × (first ≤ g) × (g ≤ first)) ⊎ (p.owes e g ≡ true) → p.owes e g ≡ true
        by_one (inl new) = absurd (out (new.1, (let high = new.2 in omega (arith, high))))
        by_one (inr old) = old

        by_two : (((d == e) ≡ true) × (first ≤ g) × (g ≤ first)) ⊎ (one e g ≡ true) → p.owes e g ≡ true
        by_two (inl new) = absurd (out (new.1, (let high = new.2 in omega (arith, high))))
        by_two (inr old) = by_one (grown_of (off board) first first p.owes e g old)

        by_three : ((off (pool_after (Freezes cells board ∷ Leaves d ∷ []) p).group.board e ≡ true) × (first + 1 ≤ g)
            × (g ≤ first + 1)) ⊎ (two e g ≡ true) → p.owes e g ≡ true
        by_three (inl new) = absurd (out ((let low = new.1 in omega (arith, low)), new.2))
        by_three (inr old) = by_two (grown_of (λ e. d == e) first first one e g old)

    on : (e g : ℕ) → p.owes e g ≡ true → three e g ≡ true
    on e g has = grown_more (off (pool_after (Freezes cells board ∷ Leaves d ∷ []) p).group.board) (first + 1) (first + 1) two e g
        (grown_more (λ e. d == e) first first one e g (grown_more (off board) first first p.owes e g has))

    same : (e g : ℕ) → p.member e ≡ true → 1 ≤ p.in_top e → cond (between first (first + 1) g) false (three e g) ≡ p.owes e g
    same e g is leaf = of (between first (first + 1) g) refl
      where
        of : (t : Bool) → between first (first + 1) g ≡ t → cond t false (three e g) ≡ p.owes e g
        of true inside = sym (not_true (p.owes e g)
            (λ has. let bounds = sv.logs.now e is leaf g has in let low = (of_between first
            (first + 1) g inside).0 in omega (arith, bounds.1, low)))
        of false out = unlike (three e g) (p.owes e g)
            (back e g (λ range. true_not_false (between first (first + 1) g) (is_between first (first + 1) g range.0 range.1) out)) (on e g)

-- A round in which a leaf failed, a further number, and a round again over those that are left.
pub further_may : (c : Codec) (p : Pool) (q again : Rec) (members left : List Member) (results others : List Bool) (vs more : List Event)
    → Survives c p → IsDrawnUp c p q → AreJust p (OnBoard p) members → AreApart members → IsRoundEvents p.size q members results vs → all_true results ≡ false
    → IsDrawnUp c (pool_after (vs ++ Draws ∷ []) p) again → AreJust (pool_after (vs ++ Draws ∷ []) p)
    (OnBoard (pool_after (vs ++ Draws ∷ []) p)) left → AreApart left
    → IsRoundEvents (pool_after (vs ++ Draws ∷ []) p).size again left others more → Mays c p ((vs ++ Draws ∷ []) ++ more)
further_may c p q again members left results others vs more sv drawn just apart round failed drawn_again just_left apart_left round_again =
    mays_more c (vs ++ Draws ∷ []) more p first
    (round_may c (pool_after (vs ++ Draws ∷ []) p) again left others more
    (history_survives c (vs ++ Draws ∷ []) p sv first) drawn_again just_left apart_left round_again)
  where
    ends : RoundEnds p (pool_after vs p) q (all_true results) members results (calls_of vs)
    ends = round_ends p.size p q members results vs round

    frozen : (pool_after vs p).group.frozen ≡ true
    frozen = ends.frozen ∙ (ap (λ t. cond t false p.group.frozen) failed ∙ drawn.frozen)

    first : Mays c p (vs ++ Draws ∷ [])
    first = mays_more c vs (Draws ∷ []) p (round_may c p q members results vs sv drawn just apart round) (frozen, tt)
