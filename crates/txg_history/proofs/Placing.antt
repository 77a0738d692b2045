-- What the invariant says of places: none of a live record is free, and a place lies under a top.
use Rattle.std.proofs.Common.{◌≡◌, ◌⊎◌, ℕ, zero, suc, ◌+◌, ◌≤◌, ◌<◌, true, List, [], ◌∷◌, Some, refl, sym, ap, ◌∙◌, subst, inl, inr, arith, ⊎_elim}
use Rattle.mp_base.specs.declared.place.Key.{Key}
use Rattle.txg_history.specs.Needs.{IsAt, NeedsCell, NeedsRead, NeedsPut, NeedsScan, NeedsSoft}
use Rattle.txg_history.specs.Pages.{Codec}
use Rattle.txg_history.specs.Places.{HaveNone, AllHaveNone, IsFree}
use Rattle.txg_history.specs.Pools.{Pool}
use Rattle.txg_history.specs.Records.{Rec, Cell, Cells, IsIn, AreOne, data_start}
use Rattle.txg_history.specs.Survival.{Survives, IsMapped, IsTaken, IsPinned}
use Rattle.txg_history.proofs.Listing.{same_cell}

taken_none : (cells : Cells) (cell : Cell) → IsTaken cells cell → HaveNone cells cell.top cell.sector → ⊥
taken_none cells cell t none = none t.k t.there t.is_there (sym t.at_one.0) (sym t.at_one.1)

pinned_none : (pinned : List Cells) (cell : Cell) → IsPinned pinned cell → AllHaveNone pinned cell.top cell.sector → ⊥
pinned_none [] cell t none = t
pinned_none (cells ∷ more) cell (inl t) none = taken_none cells cell t none.0
pinned_none (cells ∷ more) cell (inr t) none = pinned_none more cell t none.1

-- While the pool is open, no place of a live record is free.
pub place_safe : (c : Codec) (p : Pool) → Survives c p → (r : Rec) (k : Key) (cell : Cell) → IsIn r p.live
    → r.cells k ≡ Some cell → IsFree p cell.top cell.sector → ⊥
place_safe c p sv r k cell i is free = of (sv.cover free.opened r k cell i is)
  where
    of : IsTaken p.reads.cells cell ⊎ (((p.group.frozen ≡ true) × (p.group.begun ≡ true) × IsTaken p.group.cells cell) ⊎ IsPinned p.pinned cell) → ⊥
    of (inl t) = taken_none p.reads.cells cell t free.not_read
    of (inr (inl t)) = taken_none p.group.cells cell t.2 (free.not_frozen t.0)
    of (inr (inr t)) = pinned_none p.pinned cell t free.not_pinned

-- a cell stands under a top
pub top_some : (room : ℕ → ℕ) (cell : Cell) → room 0 ≡ 0 → IsMapped room cell → 1 ≤ cell.top
top_some room cell none m = of cell.top refl
  where
    of : (t : ℕ) → cell.top ≡ t → 1 ≤ t
    of zero e = let inside : cell.sector < room 0 = subst (λ t. cell.sector < room t) e m.inside in absurd (omega (arith, inside, none))
    of (suc t) e = omega arith

-- a cell is at its own place
pub taken_self : (cells : Cells) (k : Key) (cell : Cell) → cells k ≡ Some cell → IsTaken cells cell
taken_self cells k cell is = record { k = k; there = cell; is_there = is; at_one = (refl, refl) }

-- two cells of one key are one
pub one_of : (cells : Cells) (j k : Key) (a b : Cell) → j ≡ k → cells j ≡ Some a → cells k ≡ Some b → AreOne j k a b
one_of cells j k a b same at bt = (same, same_cell a b (sym at ∙ (ap cells same ∙ bt)))

-- A place of a top lies between the labels of each of the top's leaves.
pub place_between : (c : Codec) (p : Pool) (d : ℕ) (cell : Cell) → Survives c p → p.member d ≡ true
    → IsMapped p.room cell → (cell.top ≡ 0) ⊎ (cell.top ≡ p.home d)
    → data_start + cell.sector + 128 < p.size d
place_between c p d cell sv is m (inl none) = let some = top_some p.room cell sv.roomy.no_top m in absurd (omega (arith, some, none))
place_between c p d cell sv is m (inr home) =
    let inside : cell.sector < p.room (p.home d) = subst (λ t. cell.sector < p.room t) home m.inside in
    let room = sv.roomy.rooms d is in omega (arith, inside, room)

-- All that is needed of a member but for its labels lies between them, and so does the place of each live record's key
-- under its top.
pub record AreBetween (p : Pool) : Type 0 where
  pub put : (d s : ℕ) (bytes : List ℕ) → p.member d ≡ true → NeedsPut p d s bytes → (128 ≤ s) × (s + 128 < p.size d)
  pub soft : (d s : ℕ) (bytes : List ℕ) → p.member d ≡ true → NeedsSoft p d s bytes → (128 ≤ s) × (s + 128 < p.size d)
  pub live : (r : Rec) (d : ℕ) (k : Key) (cell : Cell) → IsIn r p.live → p.member d ≡ true → r.cells k ≡ Some cell → p.in_top d ≡ cell.top
      → data_start + cell.sector + 128 < p.size d

pub all_between : (c : Codec) (p : Pool) → Survives c p → AreBetween p
all_between c p sv = record {
  put = λ d s bytes is n. of d s bytes n.cell is n.at (sv.one_key.group_mapped n.is_frozen n.k n.cell n.cell_is) (by_tree d n.cell is n.top_is);
  soft = λ d s bytes is n. by_need d s bytes is n;
  live = λ r d k cell i is at top. place_between c p d cell sv is (sv.one_key.mapped r k cell i at) (by_tree d cell is top);
}
  where
    by_tree : (d : ℕ) (cell : Cell) → p.member d ≡ true → p.in_top d ≡ cell.top → (cell.top ≡ 0) ⊎ (cell.top ≡ p.home d)
    by_tree d cell is top = ⊎_elim (λ none. inl (sym top ∙ none)) (λ home. inr (sym top ∙ home)) (sv.placed.in_tree d is)

    of : (d s : ℕ) (bytes : List ℕ) (cell : Cell) → p.member d ≡ true → IsAt cell s bytes → IsMapped p.room cell → (cell.top ≡ 0) ⊎ (cell.top ≡ p.home d)
        → (128 ≤ s) × (s + 128 < p.size d)
    of d s bytes cell is at m top = let high = place_between c p d cell sv is m top in
        (omega (arith, at.sector_is), omega (arith, at.sector_is, high))

    reads : IsIn p.reads p.live
    reads = sv.order.reads_live

    by_need : (d s : ℕ) (bytes : List ℕ) → p.member d ≡ true
        → NeedsCell p.live (p.guid d) s bytes ⊎ (NeedsRead p.reads p.in_top p.owes d s bytes
        ⊎ NeedsScan p.scan p.reads p.in_top d s bytes) → (128 ≤ s) × (s + 128 < p.size d)
    by_need d s bytes is (inl n) = of d s bytes n.cell is n.at (sv.one_key.mapped n.r n.k n.cell n.is_live n.cell_is)
        (⊎_elim (λ none. inl (sym n.in_top ∙ none)) (λ home. inr (sym n.in_top ∙ home)) (sv.placed.in_records n.r d n.is_live is))
    by_need d s bytes is (inr (inl n)) = of d s bytes n.cell is n.at (sv.one_key.mapped p.reads n.k n.cell reads n.cell_is) (by_tree d n.cell is n.top_is)
    by_need d s bytes is (inr (inr n)) = of d s bytes n.cell is n.at (sv.one_key.mapped p.reads n.k n.cell reads n.cell_is) (by_tree d n.cell is n.top_is)
