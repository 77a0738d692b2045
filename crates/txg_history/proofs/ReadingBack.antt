-- Pages that are read back from the root's pointer on give the record's pointers, or bytes with another's sum.
use Rattle.std.proofs.Common.{
  ◌≡◌,
  ◌≢◌,
  ◌⊎◌,
  ℕ,
  zero,
  suc,
  ◌+◌,
  ◌*◌,
  ◌/◌,
  ◌%◌,
  ◌<◌,
  ◌≤◌,
  List,
  [],
  ◌∷◌,
  Option,
  Some,
  None,
  refl,
  sym,
  ap,
  ◌∙◌,
  subst,
  arith,
  inl,
  inr,
  ⊎_elim,
}
use Rattle.std.proofs.lemmas.Bool.{cases_eq}
use Rattle.sha2.specs.Sha256.{sha256}
use Rattle.mp_base.specs.declared.place.Key.{Key}
use Rattle.label_store.specs.Rounds.{config_of}
use Rattle.txg_history.specs.Pages.{Sum, sum_of, Codec, IsTree, IsReadBack, width, ClashesAt}
use Rattle.txg_history.specs.Pools.{Pool}
use Rattle.txg_history.specs.Records.{Rec, Cell, Cells, IsIn, key, number_of, nothing}
use Rattle.txg_history.specs.Survival.{Fits, Survives}

-- two byte strings are one, or not
same_or : (a b : List ℕ) → (a ≡ b) ⊎ (a ≢ b)
same_or [] [] = inl refl
same_or [] (y ∷ b) = inr (λ e. cc)
same_or (x ∷ a) [] = inr (λ e. cc)
same_or (x ∷ a) (y ∷ b) = ⊎_elim {A = x ≡ y} {B = x ≢ y} (λ e. ⊎_elim (λ f. inl (both x y a b e f)) (λ ne. inr (λ g. ne (tail_of x y a b g))) (same_or a b))
    (λ ne. inr (λ g. ne (head_of x y a b g))) (cases_eq x y)
  where
    both : (x y : ℕ) (a b : List ℕ) → x ≡ y → a ≡ b → x ∷ a ≡ y ∷ b
    both x y a b e f = cc

    tail_of : (x y : ℕ) (a b : List ℕ) → x ∷ a ≡ y ∷ b → a ≡ b
    tail_of x y a b g = cc

    head_of : (x y : ℕ) (a b : List ℕ) → x ∷ a ≡ y ∷ b → x ≡ y
    head_of x y a b g = cc

-- something of each below a bound, or something else
pub all_or : (P : ℕ → Type 0) (Q : Type 0) (n : ℕ) → ((i : ℕ) → i < n → P i ⊎ Q) → ((i : ℕ) → i < n → P i) ⊎ Q
all_or P Q zero each = inl (λ i lt. absurd (omega (arith, lt)))
all_or P Q (suc n) each = ⊎_elim (λ all. ⊎_elim (λ last. inl (λ i lt. by_last all last i lt (cases_eq i n))) (λ q. inr q) (each n (omega arith))) (λ q. inr q)
    (all_or P Q n (λ i lt. each i (omega (arith, lt))))
  where
    by_last : ((i : ℕ) → i < n → P i) → P n → (i : ℕ) → i < suc n → (i ≡ n) ⊎ (i ≢ n) → P i
    by_last all last i lt (inl e) = subst P (sym e) last
    by_last all last i lt (inr ne) = all i (omega (arith, lt, ne))

-- A page whose pointer is right gives the right pointers below it, or other bytes with its sum.
page_right : (c : Codec) (cells : Cells) (config : List ℕ) (found : Key → Option (List ℕ)) (got : Key → Option Sum)
    (level index : ℕ) → IsTree c cells → IsReadBack c config found got
    → level < 3 → got (key (suc level) index) ≡ sum_of (cells (key (suc level) index))
    → ((j : ℕ) → j < 64 → got (key level (64 * index + j)) ≡ sum_of (cells (key level (64 * index + j)))) ⊎ ClashesAt cells found
page_right c cells config found got level index tree back low right = of (cells (key (suc level) index)) refl right
  where
    of : (x : Option Cell) → cells (key (suc level) index) ≡ x → got (key (suc level) index) ≡ sum_of x
        → ((j : ℕ) → j < 64 → got (key level (64 * index + j)) ≡ sum_of (cells (key level (64 * index + j)))) ⊎ ClashesAt cells found
    of None at is = inl (λ j lt. back.holes level index j low lt is ∙ sym (ap sum_of (tree.holes level index j low lt at)))
    of (Some cell) at is = by_bytes (same_or page.0 cell.block)
      where
        page : (bytes : List ℕ) × (found (key (suc level) index) ≡ Some bytes) × (sha256 bytes ≡ sha256 cell.block)
            × ((j : ℕ) → j < 64 → got (key level (64 * index + j)) ≡ c.pointer bytes j)
        page = back.pages level index (record { birth = cell.birth; top = cell.top; sector = cell.sector; sum = sha256 cell.block }) low is

        by_bytes : (page.0 ≡ cell.block) ⊎ (page.0 ≢ cell.block)
            → ((j : ℕ) → j < 64 → got (key level (64 * index + j)) ≡ sum_of (cells (key level (64 * index + j))))
            ⊎ ClashesAt cells found
        by_bytes (inl same) = inl (λ j lt. page.3 j lt ∙ (ap (λ bytes. c.pointer bytes j) same ∙ tree.pages level index cell low at j lt))
        by_bytes (inr other) = inr
            (record {
              page = key
                  (suc level) index;
              cell = cell;
              cell_is = at;
              bytes = page.0;
              bytes_are = page.1;
              clash = record { other = other; same_sum = page.2 };
            })

-- what is right of a level
abbrev AreRight : (cells : Cells) → (got : Key → Option Sum) → (level : ℕ) → Type 0
AreRight cells got level = (index : ℕ) → index < width level → got (key level index) ≡ sum_of (cells (key level index))

level_below : (c : Codec) (cells : Cells) (config : List ℕ) (found : Key → Option (List ℕ)) (got : Key → Option Sum)
    (level : ℕ) → IsTree c cells → IsReadBack c config found got → level < 3
    → ((index : ℕ) → index < width level → index / 64 < width (suc level)) → AreRight cells got (suc level)
    ⊎ ClashesAt cells found → AreRight cells got level ⊎ ClashesAt cells found
level_below c cells config found got level tree back low inside (inr clash) = inr clash
level_below c cells config found got level tree back low inside (inl above) =
    ⊎_elim (λ all. inl (λ index lt. by_place all index lt)) (λ clash. inr clash)
    (all_or (λ i. (j : ℕ) → j < 64 → got (key level (64 * i + j)) ≡ sum_of (cells (key level (64 * i + j)))) (ClashesAt cells found) (width (suc level))
    (λ i lt. page_right c cells config found got level i tree back low (above i lt)))
  where
    by_place : ((i : ℕ) → i < width (suc level) → (j : ℕ) → j < 64 → got (key level (64 * i + j)) ≡ sum_of
        (cells (key level (64 * i + j)))) → (index : ℕ) → index < width level
        → got (key level index) ≡ sum_of (cells (key level index))
    by_place all index lt = subst (λ n. got (key level n) ≡ sum_of (cells (key level n))) (whole index)
        (all (index / 64) (inside index lt) (index % 64) (rest index))
      where
        whole : (n : ℕ) → 64 * (n / 64) + n % 64 ≡ n
        whole n = omega arith

        rest : (n : ℕ) → n % 64 < 64
        rest n = omega arith

-- All pointers of a tree, level by level from the root on.
pub all_right : (c : Codec) (cells : Cells) (config : List ℕ) (found : Key → Option (List ℕ)) (got : Key → Option Sum)
    → IsTree c cells → c.root config ≡ sum_of (cells (key 3 0))
    → IsReadBack c config found got → ((level index : ℕ) → level ≤ 3 → index < width level → got
    (key level index) ≡ sum_of (cells (key level index))) ⊎ ClashesAt cells found
all_right c cells config found got tree root back = by_levels three two one none
  where
    three : AreRight cells got 3 ⊎ ClashesAt cells found
    three = inl (λ index lt. subst (λ n. got (key 3 n) ≡ sum_of (cells (key 3 n))) (only index lt) (back.root ∙ root))
      where
        only : (n : ℕ) → n < 1 → 0 ≡ n
        only n lt = omega (arith, lt)

    two : AreRight cells got 2 ⊎ ClashesAt cells found
    two = level_below c cells config found got 2 tree back (omega arith) (λ n lt. omega (arith, lt)) three

    one : AreRight cells got 1 ⊎ ClashesAt cells found
    one = level_below c cells config found got 1 tree back (omega arith) (λ n lt. omega (arith, lt)) two

    none : AreRight cells got 0 ⊎ ClashesAt cells found
    none = level_below c cells config found got 0 tree back (omega arith) (λ n lt. omega (arith, lt)) one

    at_level : AreRight cells got 3 → AreRight cells got 2 → AreRight cells got 1 → AreRight cells got 0
        → (level index : ℕ) → level ≤ 3 → index < width level → got (key level index) ≡ sum_of (cells (key level index))
    at_level d b a z zero index le lt = z index lt
    at_level d b a z (suc zero) index le lt = a index lt
    at_level d b a z (suc (suc zero)) index le lt = b index lt
    at_level d b a z (suc (suc (suc zero))) index le lt = d index lt
    at_level d b a z (suc (suc (suc (suc n)))) index le lt = absurd (omega (arith, le))

    by_levels : AreRight cells got 3 ⊎ ClashesAt cells found → AreRight cells got 2 ⊎ ClashesAt cells found → AreRight cells got 1 ⊎ ClashesAt cells found
        → AreRight cells got 0 ⊎ ClashesAt cells found → ((level index : ℕ) → level ≤ 3 → index < width level → got
        (key level index) ≡ sum_of (cells (key level index))) ⊎ ClashesAt cells found
    by_levels (inl d) (inl b) (inl a) (inl z) = inl (at_level d b a z)
    by_levels (inr clash) two one none = inr clash
    by_levels (inl d) (inr clash) one none = inr clash
    by_levels (inl d) (inl b) (inr clash) none = inr clash
    by_levels (inl d) (inl b) (inl a) (inr clash) = inr clash

-- a live record with a number fits
pub numbered_fits : (c : Codec) (p : Pool) (r : Rec) → Survives c p → IsIn r p.live → 1 ≤ number_of r → Fits c p.name p.pool p.room r
numbered_fits c p r sv i some = of (sv.fit r i).0
  where
    of : (r ≡ nothing p.pool) ⊎ Fits c p.name p.pool p.room r → Fits c p.name p.pool p.room r
    of (inl e) = absurd (omega (arith, some, ap number_of e))
    of (inr fits) = fits

-- What an opening reads back of a live record.
pub live_read_back : (c : Codec) (p : Pool) (r : Rec) (config : List ℕ) (found : Key → Option (List ℕ))
    (got : Key → Option Sum) → Survives c p → IsIn r p.live → 1 ≤ number_of r
    → config ≡ config_of r.commit → IsReadBack c config found got
    → ((level index : ℕ) → level ≤ 3 → index < width level → got (key level index) ≡ sum_of (r.cells (key level index))) ⊎ ClashesAt r.cells found
live_read_back c p r config found got sv i some same back =
    all_right c r.cells config found got (sv.fit r i).1 (ap c.root same ∙ (numbered_fits c p r sv i some).config.root) back
