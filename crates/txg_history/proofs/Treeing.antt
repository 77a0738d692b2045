-- A freeze keeps the tree of pages.
use Rattle.std.proofs.Common.{◌≡◌, ◌⊎◌, ℕ, ◌+◌, ◌*◌, ◌<◌, suc, true, Option, Some, None, refl, sym, ap, ◌∙◌, inl, inr}
use Rattle.mp_base.specs.declared.place.Key.{Key}
use Rattle.txg_history.specs.Pages.{Codec, IsPageOf, IsTree, AreDirty, sum_of}
use Rattle.txg_history.specs.Records.{Cell, Cells, key, cell_over, laid_over}
use Rattle.txg_history.proofs.Listing.{laid_of}

none_some : {A : Type 0} (x : Option Cell) (cell : Cell) → x ≡ None → x ≡ Some cell → A
none_some x cell a b = absurd (cc)

-- below a page that stays nothing is laid over
unlaid : (c : Codec) (new old : Cells) (level index j : ℕ) → AreDirty c new old → level < 3 → j < 64 → new (key (suc level) index) ≡ None
    → new (key level (64 * index + j)) ≡ None
unlaid c new old level index j dirty low lt none = of (new (key level (64 * index + j))) refl
  where
    of : (x : Option Cell) → new (key level (64 * index + j)) ≡ x → new (key level (64 * index + j)) ≡ None
    of None e = e
    of (Some cell) e = let page = dirty.up level index j cell low lt e in none_some (new (key (suc level) index)) page.0 none page.1

as_old : (new old : Cells) (k : Key) → new k ≡ None → laid_over new old k ≡ old k
as_old new old k none = ap (λ x. cell_over x (old k)) none

pub freeze_tree : (c : Codec) (new old : Cells) → IsTree c old → AreDirty c new old → IsTree c (laid_over new old)
freeze_tree c new old tree dirty = record {
  formed = λ level index cell low is. formed level index cell low (laid_of new old (key (suc level) index) cell is);
  pages = λ level index cell low is. page level index cell low (laid_of new old (key (suc level) index) cell is);
  holes = λ level index j low lt none. hole level index j low lt (new (key (suc level) index)) refl none;
}
  where
    formed : (level index : ℕ) (cell : Cell) → level < 3
        → (new (key (suc level) index) ≡ Some cell) ⊎ ((new (key (suc level) index) ≡ None) × (old (key (suc level) index) ≡ Some cell))
        → c.is_page cell.block ≡ true
    formed level index cell low (inl is) = dirty.formed level index cell low is
    formed level index cell low (inr is) = tree.formed level index cell low is.1

    page : (level index : ℕ) (cell : Cell) → level < 3
        → (new (key (suc level) index) ≡ Some cell) ⊎ ((new (key (suc level) index) ≡ None) × (old (key (suc level) index) ≡ Some cell))
        → IsPageOf c cell.block (laid_over new old) level index
    page level index cell low (inl is) = dirty.pages level index cell low is
    page level index cell low (inr (none, is)) = λ j lt.
        tree.pages level index cell low is j lt ∙ sym (ap sum_of
        (as_old new old (key level (64 * index + j)) (unlaid c new old level index j dirty low lt none)))

    hole : (level index j : ℕ) → level < 3 → j < 64 → (x : Option Cell) → new (key (suc level) index) ≡ x → cell_over x (old (key (suc level) index)) ≡ None
        → laid_over new old (key level (64 * index + j)) ≡ None
    hole level index j low lt (Some cell) e none = absurd (cc)
    hole level index j low lt None e none =
        as_old new old (key level (64 * index + j)) (unlaid c new old level index j dirty low lt e) ∙ tree.holes level index j low lt none

-- keys that are the same are a tree too
pub tree_same : (c : Codec) (new old : Cells) → ((k : Key) → new k ≡ old k) → IsTree c old → IsTree c new
tree_same c new old same tree = record {
  formed = λ level index cell low is. tree.formed level index cell low (sym (same (key (suc level) index)) ∙ is);
  pages = λ level index cell low is j lt. tree.pages level index cell low (sym (same (key (suc level) index)) ∙ is) j lt
      ∙ sym (ap sum_of (same (key level (64 * index + j))));
  holes = λ level index j low lt none. same (key level (64 * index + j)) ∙ tree.holes level index j low lt (sym (same (key (suc level) index)) ∙ none);
}
