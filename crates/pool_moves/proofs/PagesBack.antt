-- What is read back of a live record's pages are its pointers, or bytes with another page's sum; and each of its pages is one.
use Rattle.std.proofs.Common.{◌≡◌, ◌≢◌, ◌⊎◌, inl, inr, ⊎_elim, ℕ, zero, suc, ◌+◌, ◌*◌, ◌/◌, ◌%◌, ◌<◌, ◌≤◌, ◌==◌, ◌&&◌, ◌||◌, nat_le, nat_lt, Bool, true, false, cond, Option, Some, None, List, refl, sym, ap, ◌∙◌, subst, arith}
use Rattle.std.specs.Str.{bytes_eq}
use Rattle.std.proofs.lemmas.Slice.Eq.{bytes_eq-Decides}
use Rattle.std.proofs.lemmas.Bool.{and_parts}
use Rattle.std.proofs.lemmas.Bool.Decides.{nat_tests}
use Rattle.sha2.specs.Sha256.{sha256}
use Rattle.mp_base.specs.declared.place.Key.{Key}
use Rattle.txg_history.specs.Pages.{Sum, sum_of, span, IsOfVolume, IsTree, width, ClashesAt}
use Rattle.txg_history.specs.Pools.{Pool}
use Rattle.txg_history.specs.Records.{Rec, Cell, Cells, IsIn, key, number_of}
use Rattle.txg_history.specs.Survival.{IsMapped, HaveOneKey, Survives}
use Rattle.txg_history.proofs.Logging.{by_bool, true_not_false}
use Rattle.txg_history.proofs.ReadingBack.{all_or}
use Rattle.pool_moves.specs.PageReads.{Reading, is_read_before, IsKnown, IsPageHere, up_to, IsReadTo}

-- A key is one of a volume, or not.
pub of_volume_or : (blocks : ℕ) (k : Key) → IsOfVolume blocks k ⊎ (IsOfVolume blocks k → ⊥)
of_volume_or blocks k = by_bool (nat_le k.level 3) (λ low. by_bool (nat_lt (span k.level * k.index) blocks)
    (λ is. inl (record { low = low_of k.level low; inside = inside_of (span k.level * k.index) is }))
    (λ off. inr (λ v. true_not_false (nat_lt (span k.level * k.index) blocks) (lt_of (span k.level * k.index) v.inside) off)))
    (λ off. inr (λ v. true_not_false (nat_le k.level 3) (le_of k.level v.low) off))
  where
    low_of : (n : ℕ) → nat_le n 3 ≡ true → n ≤ 3
    low_of n e = grind (arith, nat_tests)

    le_of : (n : ℕ) → n ≤ 3 → nat_le n 3 ≡ true
    le_of n le = grind (arith, nat_tests)

    inside_of : (n : ℕ) → nat_lt n blocks ≡ true → n < blocks
    inside_of n e = grind (arith, nat_tests)

    lt_of : (n : ℕ) → n < blocks → nat_lt n blocks ≡ true
    lt_of n lt = grind (arith, nat_tests)

pub volume_width : (blocks level index : ℕ) → blocks ≤ 262144 → IsOfVolume blocks (key level index) → index < width level
volume_width blocks zero index most v = let lt : 1 * index < blocks = v.inside in omega (arith, most, lt)
volume_width blocks (suc zero) index most v = let lt : 64 * index < blocks = v.inside in omega (arith, most, lt)
volume_width blocks (suc (suc zero)) index most v = let lt : 4096 * index < blocks = v.inside in omega (arith, most, lt)
volume_width blocks (suc (suc (suc level))) index most v = let lt : 262144 * index < blocks = v.inside in omega (arith, most, lt)

-- two byte strings are one, or clash where they have one sum
pub same_bytes_or : {A : Type 0} (a b : List ℕ) → (a ≡ b → A) → (a ≢ b → A) → A
same_bytes_or a b same other = by_bool (bytes_eq a b) (λ is. same ((bytes_eq-Decides a b).0 is))
    (λ off. other (λ is. absurd (let no : true ≡ false = sym ((bytes_eq-Decides a b).1 is) ∙ off in cc)))

-- A page whose pointer is right gives the right pointers below it, or other bytes with its sum.
page_right : (x : Reading) (cells : Cells) (reached : Key → Bool) (level index : ℕ) → IsTree x.codec cells → IsReadTo x reached → level < 3
    → reached (key (suc level) index) ≡ true → x.got (key (suc level) index) ≡ sum_of (cells (key (suc level) index))
    → ((j : ℕ) → j < 64 → x.got (key level (64 * index + j)) ≡ sum_of (cells (key level (64 * index + j)))) ⊎ ClashesAt cells x.found
page_right x cells reached level index tree back low on right = of (cells (key (suc level) index)) refl right
  where
    of : (cell : Option Cell) → cells (key (suc level) index) ≡ cell → x.got (key (suc level) index) ≡ sum_of cell
        → ((j : ℕ) → j < 64 → x.got (key level (64 * index + j)) ≡ sum_of (cells (key level (64 * index + j)))) ⊎ ClashesAt cells x.found
    of None at is = inl (λ j lt. back.holes level index j low lt on is ∙ sym (ap sum_of (tree.holes level index j low lt at)))
    of (Some cell) at is = let page : (bytes : List ℕ) × (x.found (key (suc level) index) ≡ Some bytes)
        × (sha256 bytes ≡ sha256 cell.block)
        × ((j : ℕ) → j < 64 → x.got (key level (64 * index + j)) ≡ x.codec.pointer bytes j) = back.pages level
        index (record { birth = cell.birth; top = cell.top; sector = cell.sector; sum = sha256 cell.block }) low on
        is in
        same_bytes_or page.0 cell.block
        (λ same. inl (λ j lt. page.3 j lt ∙ (ap (λ bytes. x.codec.pointer bytes j) same ∙ tree.pages level index cell low at j lt)))
        (λ other. inr (record {
          page = key (suc level) index;
          cell = cell;
          cell_is = at;
          bytes = page.0;
          bytes_are = page.1;
          clash = record { other = other; same_sum = page.2 };
        }))

-- what is known of a level is right
abbrev AreRight : Reading → Cells → (reached : Key → Bool) → (level : ℕ) → Type 0
AreRight x cells reached level = (index : ℕ) → index < width level → IsKnown reached (key level index)
    → x.got (key level index) ≡ sum_of (cells (key level index))

-- where a page is read, so is the one above it
abbrev pub IsClosed : (reached : Key → Bool) → Type 0
IsClosed reached = (level index : ℕ) → level < 2 → reached (key (suc level) index) ≡ true → reached (key (suc (suc level)) (index / 64)) ≡ true

level_below : (x : Reading) (cells : Cells) (reached : Key → Bool) (level : ℕ) → IsTree x.codec cells → IsReadTo x reached → level < 3
    → ((index j : ℕ) → 64 * index + j < width level → index < width (suc level))
    → ((index : ℕ) → index < width (suc level) → reached (key (suc level) index) ≡ true → IsKnown reached (key (suc level) index))
    → AreRight x cells reached (suc level) → AreRight x cells reached level ⊎ ClashesAt cells x.found
level_below x cells reached level tree back low inside known above =
    ⊎_elim (λ all. inl (λ index lt is. by all index lt is)) (λ clash. inr clash)
    (all_or (λ i. reached (key (suc level) i) ≡ true → (j : ℕ) → j < 64 → x.got (key level (64 * i + j)) ≡ sum_of (cells (key level (64 * i + j))))
    (ClashesAt cells x.found) (width (suc level)) (λ i lt. by_bool (reached (key (suc level) i))
    (λ on. ⊎_elim (λ right. inl (λ on. right)) (λ clash. inr clash) (page_right x cells reached level i tree back low on (above i lt (known i lt on))))
    (λ off. inl (λ on. true_not_false (reached (key (suc level) i)) on off))))
  where
    by : ((i : ℕ) → i < width (suc level) → reached (key (suc level) i) ≡ true → (j : ℕ) → j < 64
        → x.got (key level (64 * i + j)) ≡ sum_of (cells (key level (64 * i + j))))
        → (index : ℕ) → index < width level → IsKnown reached (key level index) → x.got (key level index) ≡ sum_of (cells (key level index))
    by all index lt (inl root) = absurd (let e = ap (λ k. k.level) root in omega (arith, low, e))
    by all index lt (inr b) =
        let level_is : b.level ≡ level = sym (ap (λ k. k.level) b.is) in
        let index_is : 64 * b.index + b.j ≡ index = sym (ap (λ k. k.index) b.is) in
        let under = inside b.index b.j (subst (λ n. n < width level) (sym index_is) lt) in
        subst (λ n. x.got (key level n) ≡ sum_of (cells (key level n))) index_is
        (all b.index under (subst (λ l. reached (key (suc l) b.index) ≡ true) level_is b.reaches) b.j b.few)

-- A page is known where the one above it is read; so it is where it is read itself.
pub below_known : (reached : Key → Bool) (level index : ℕ) → level < 2 → reached (key (suc (suc level)) (index / 64)) ≡ true
    → IsKnown reached (key (suc level) index)
below_known reached level index low on = inr (record {
  level = suc level;
  index = index / 64;
  j = index % 64;
  low = omega (arith, low);
  few = rest index;
  is = ap (key (suc level)) (sym (whole index));
  reaches = on;
})
  where
    whole : (n : ℕ) → 64 * (n / 64) + n % 64 ≡ n
    whole n = omega arith

    rest : (n : ℕ) → n % 64 < 64
    rest n = omega arith

page_known : (reached : Key → Bool) (level index : ℕ) → IsClosed reached → level < 2 → reached (key (suc level) index) ≡ true
    → IsKnown reached (key (suc level) index)
page_known reached level index closed low on = below_known reached level index low (closed level index low on)

-- What is known of a record's pointers is right, or some page's bytes clash.
pub known_right : (x : Reading) (r : Rec) (room : ℕ → ℕ) (reached : Key → Bool) → IsTree x.codec r.cells → IsReadTo x reached → IsClosed reached
    → x.codec.blocks x.config ≤ 262144
    → x.codec.root x.config ≡ sum_of (r.cells (key 3 0)) → ((k : Key) (cell : Cell) → r.cells k ≡ Some cell → IsOfVolume (x.codec.blocks x.config) k)
    → ((k : Key) → IsKnown reached k → x.got k ≡ sum_of (r.cells k)) ⊎ ClashesAt r.cells x.found
known_right x r room reached tree back closed most root inside = levels three
  where
    three : AreRight x r.cells reached 3
    three = λ index lt known. subst (λ n. x.got (key 3 n) ≡ sum_of (r.cells (key 3 n))) (only index lt) (back.root ∙ root)
      where
        only : (n : ℕ) → n < 1 → 0 ≡ n
        only n lt = omega (arith, lt)

    none_of : (cell : Option Cell) → ((c : Cell) → cell ≡ Some c → ⊥) → sum_of cell ≡ None
    none_of None off = refl
    none_of (Some c) off = absurd (off c refl)

    at_level : AreRight x r.cells reached 3 → AreRight x r.cells reached 2 → AreRight x r.cells reached 1 → AreRight x r.cells reached 0
        → (level index : ℕ) → level ≤ 3 → index < width level → IsKnown reached (key level index) → x.got (key level index) ≡ sum_of (r.cells (key level index))
    at_level d b a z zero index le lt is = z index lt is
    at_level d b a z (suc zero) index le lt is = a index lt is
    at_level d b a z (suc (suc zero)) index le lt is = b index lt is
    at_level d b a z (suc (suc (suc zero))) index le lt is = d index lt is
    at_level d b a z (suc (suc (suc (suc n)))) index le lt is = absurd (omega (arith, le))

    by_key : AreRight x r.cells reached 3 → AreRight x r.cells reached 2 → AreRight x r.cells reached 1 → AreRight x r.cells reached 0 → (k : Key)
        → IsKnown reached k → x.got k ≡ sum_of (r.cells k)
    by_key d b a z k known = ⊎_elim (λ v. at_level d b a z k.level k.index v.low (volume_width (x.codec.blocks x.config) k.level k.index most v) known)
        (λ off. back.beyond k off ∙ sym (none_of (r.cells k) (λ c at. off (inside k c at)))) (of_volume_or (x.codec.blocks x.config) k)

    root_known : (index : ℕ) → index < width 3 → reached (key 3 index) ≡ true → IsKnown reached (key 3 index)
    root_known index lt on = inl (ap (key 3) (let e : index ≡ 0 = omega (arith, lt) in e))

    levels : AreRight x r.cells reached 3 → ((k : Key) → IsKnown reached k → x.got k ≡ sum_of (r.cells k)) ⊎ ClashesAt r.cells x.found
    levels d = ⊎_elim (λ b. ⊎_elim (λ a. ⊎_elim (λ z. inl (by_key d b a z)) (λ clash. inr clash)
        (level_below x r.cells reached 0 tree back (omega arith) (λ i j lt. omega (arith, lt))
        (λ i lt on. page_known reached 0 i closed (omega arith) on) a)) (λ clash. inr clash)
        (level_below x r.cells reached 1 tree back (omega arith) (λ i j lt. omega (arith, lt))
        (λ i lt on. page_known reached 1 i closed (omega arith) on) b)) (λ clash. inr clash)
        (level_below x r.cells reached 2 tree back (omega arith) (λ i j lt. omega (arith, lt)) root_known d)

-- The order of pages.
before_of : (a b : Key) → is_read_before a b ≡ true → (b.level < a.level) ⊎ ((a.level ≡ b.level) × (a.index < b.index))
before_of a b is = by_bool (nat_lt b.level a.level) (λ up. inl (lt_of b.level a.level up))
    (λ off. let parts = and_parts (a.level == b.level) (nat_lt a.index b.index)
    (sym (ap (λ t. t || ((a.level == b.level) && nat_lt a.index b.index)) off) ∙ is) in
    inr (eq_of a.level b.level parts.0, lt_of a.index b.index parts.1))
  where
    lt_of : (m n : ℕ) → nat_lt m n ≡ true → m < n
    lt_of m n e = grind (arith, nat_tests)

    eq_of : (m n : ℕ) → (m == n) ≡ true → m ≡ n
    eq_of m n e = grind (arith, nat_tests)

is_before : (a b : Key) → (b.level < a.level) ⊎ ((a.level ≡ b.level) × (a.index < b.index)) → is_read_before a b ≡ true
is_before a b (inl up) = rw (lt_of b.level a.level up) refl
  where
    lt_of : (m n : ℕ) → m < n → nat_lt m n ≡ true
    lt_of m n e = grind (arith, nat_tests)
is_before a b (inr same) = by_bool (nat_lt b.level a.level) (λ up. rw up refl)
    (λ off. rw (off, eq_of a.level b.level same.0, lt_of a.index b.index same.1) refl)
  where
    lt_of : (m n : ℕ) → m < n → nat_lt m n ≡ true
    lt_of m n e = grind (arith, nat_tests)

    eq_of : (m n : ℕ) → m ≡ n → (m == n) ≡ true
    eq_of m n e = grind (arith, nat_tests)

pub before_more : (a b c : Key) → is_read_before a b ≡ true → is_read_before b c ≡ true → is_read_before a c ≡ true
before_more a b c x y = is_before a c (⊎_elim
    (λ up. ⊎_elim (λ more. inl (omega (arith, up, more))) (λ same. inl (let e = same.0 in omega (arith, up, e))) (before_of b c y))
    (λ same. let e = same.0 in let i = same.1 in
    ⊎_elim (λ more. inl (omega (arith, e, more))) (λ again. let f = again.0 in let j = again.1 in inr (e ∙ f, omega (arith, i, j)))
    (before_of b c y)) (before_of a b x))

pub not_itself : (a : Key) → is_read_before a a ≡ true → ⊥
not_itself a x = ⊎_elim (λ up. absurd (omega (arith, up))) (λ same. let i = same.1 in absurd (omega (arith, i))) (before_of a a x)

-- the page above one is read before it
pub above_before : (level index i : ℕ) → is_read_before (key (suc (suc level)) i) (key (suc level) index) ≡ true
above_before level index i = is_before (key (suc (suc level)) i) (key (suc level) index) (inl (omega arith))

pub not_behind : (a b : Key) → is_read_before a b ≡ true → is_read_before b a ≡ false
not_behind a b before = by (is_read_before b a) refl
  where
    by : (t : Bool) → is_read_before b a ≡ t → t ≡ false
    by true is = absurd (not_itself a (before_more a b a before is))
    by false is = refl

pub not_before_itself : (a : Key) → is_read_before a a ≡ false
not_before_itself a = by (is_read_before a a) refl
  where
    by : (t : Bool) → is_read_before a a ≡ t → t ≡ false
    by true is = absurd (not_itself a is)
    by false is = refl

-- What is got of pages is so of fewer of them, also by what was found of these alone.
pub read_to_fewer : (x : Reading) (few many : Key → Bool) → ((k : Key) → few k ≡ true → many k ≡ true) → IsReadTo x many → IsReadTo x few
read_to_fewer x few many up back = record {
  root = back.root;
  holes = λ level index j low lt on. back.holes level index j low lt (up (key (suc level) index) on);
  pages = λ level index sum low on. back.pages level index sum low (up (key (suc level) index) on);
  beyond = back.beyond;
}

pub read_to_page : (x : Reading) (page : Key) → IsReadTo x (λ k. is_read_before k page)
    → IsReadTo (record x { found = up_to page x.found }) (λ k. is_read_before k page)
read_to_page x page back = record {
  root = back.root;
  holes = back.holes;
  pages = λ level index sum low on is. let page_is = back.pages level index sum low on is in
      let kept : up_to page x.found (key (suc level) index) ≡ x.found (key (suc level) index) =
      ap (λ t. cond t None (x.found (key (suc level) index))) (not_behind (key (suc level) index) page on) in
      (page_is.0, kept ∙ page_is.1, page_is.2, page_is.3);
  beyond = back.beyond;
}

pub clash_of_more : (cells : Cells) (page : Key) (found : Key → Option (List ℕ)) → ClashesAt cells (up_to page found) → ClashesAt cells found
clash_of_more cells page found clash = record {
  page = clash.page;
  cell = clash.cell;
  cell_is = clash.cell_is;
  bytes = clash.bytes;
  bytes_are = by (is_read_before page clash.page) clash.bytes_are;
  clash = clash.clash;
}
  where
    by : (t : Bool) → cond t None (found clash.page) ≡ Some clash.bytes → found clash.page ≡ Some clash.bytes
    by true is = absurd (cc)
    by false is = is

-- pages up to one are closed
pub closed_before : (stop : Key) → IsClosed (λ k. is_read_before k stop)
closed_before stop level index low on = is_before (key (suc (suc level)) (index / 64)) stop
    (⊎_elim (λ up. inl (omega (arith, up))) (λ same. let e = same.0 in inl (omega (arith, e))) (before_of (key (suc level) index) stop on))

-- A record's own page is one, where the pointers that are known are right.
pub record IsReadOf (x : Reading) (p : Pool) (r : Rec) : Type 0 where
  pub survives : Survives x.codec p
  pub live : IsIn r p.live
  pub number_is : x.number ≡ number_of r
  pub room_is : x.codec.room x.config ≡ p.room
  pub inside : (k : Key) (cell : Cell) → r.cells k ≡ Some cell → IsOfVolume (x.codec.blocks x.config) k

sum_parts : (cell : Option Cell) (sum : Sum) → sum_of cell ≡ Some sum
    → (c : Cell) × (cell ≡ Some c) × (c.birth ≡ sum.birth) × (c.top ≡ sum.top) × (c.sector ≡ sum.sector)
sum_parts None sum is = absurd (cc)
sum_parts (Some c) sum is = (c, refl, ap (λ s. s.birth) (same is), ap (λ s. s.top) (same is), ap (λ s. s.sector) (same is))
  where
    same : {a b : Sum} → Some a ≡ Some b → a ≡ b
    same e = cc

pub page_here : (x : Reading) (p : Pool) (r : Rec) (level index : ℕ) (cell : Cell) → IsReadOf x p r → level < 3 → r.cells (key (suc level) index) ≡ Some cell
    → ((k : Key) → IsKnown (λ above. is_read_before above (key (suc level) index)) k → x.got k ≡ sum_of (r.cells k))
    → IsPageHere x level index (record { birth = cell.birth; top = cell.top; sector = cell.sector; sum = sha256 cell.block }) cell.block
page_here x p r level index cell of low at right = record {
  same_sum = refl;
  formed = tree.formed level index cell low at;
  inside = λ j sum lt is. let c = below j sum lt is in of.inside (key level (64 * index + j)) c.0 c.1;
  born = λ j sum lt is. let c = below j sum lt is in let le = one_key.births r (key level (64 * index + j)) c.0 of.live c.1 in
      subst (λ n. n ≤ x.number) c.2 (subst (λ n. c.0.birth ≤ n) (sym of.number_is) le);
  on_top = λ j sum lt is. let c = below j sum lt is in
      subst (λ f. sum.sector < f sum.top) (sym of.room_is)
      (subst (λ t. sum.sector < p.room t) c.3 (subst (λ n. n < p.room c.0.top) c.4 (mapped j c.0 c.1).inside));
  apart = λ i j a b lt few is_a is_b one. let c = below i a (omega (arith, lt, few)) is_a in let d = below j b few is_b in
      let same = (one_key.one r r (key level (64 * index + i)) (key level (64 * index + j)) c.0 d.0 of.live of.live c.1 d.1
      (c.3 ∙ (one.0 ∙ sym d.3), c.4 ∙ (one.1 ∙ sym d.4))).0 in
      absurd (let e = ap (λ k. k.index) same in omega (arith, lt, e));
  fresh = λ j sum other k lt is known there one. let c = below j sum lt is in let d = sum_parts (r.cells k) other (sym (right k known) ∙ there) in
      not_known j k (one_key.one r r (key level (64 * index + j)) k c.0 d.0 of.live of.live c.1 d.1
      (c.3 ∙ (one.0 ∙ sym d.3), c.4 ∙ (one.1 ∙ sym d.4))).0 lt known;
}
  where
    tree : IsTree x.codec r.cells
    tree = (of.survives.fit r of.live).1

    one_key : HaveOneKey p.room p.live p.group.frozen p.group.begun p.group.first p.group.cells
    one_key = of.survives.one_key

    below : (j : ℕ) (sum : Sum) → j < 64 → x.codec.pointer cell.block j ≡ Some sum
        → (c : Cell) × (r.cells (key level (64 * index + j)) ≡ Some c) × (c.birth ≡ sum.birth) × (c.top ≡ sum.top) × (c.sector ≡ sum.sector)
    below j sum lt is = sum_parts (r.cells (key level (64 * index + j))) sum (sym (tree.pages level index cell low at j lt) ∙ is)

    mapped : (j : ℕ) (c : Cell) → r.cells (key level (64 * index + j)) ≡ Some c → IsMapped p.room c
    mapped j c is = one_key.mapped r (key level (64 * index + j)) c of.live is

    not_known : (j : ℕ) (k : Key) → key level (64 * index + j) ≡ k → j < 64 → IsKnown (λ above. is_read_before above (key (suc level) index)) k → ⊥
    not_known j k same lt (inl root) = absurd (let e = ap (λ k. k.level) (same ∙ root) in omega (arith, low, e))
    not_known j k same lt (inr b) =
        let level_is : b.level ≡ level = sym (ap (λ k. k.level) (same ∙ b.is)) in
        let index_is : 64 * b.index + b.j ≡ 64 * index + j = sym (ap (λ k. k.index) (same ∙ b.is)) in
        let one : b.index ≡ index = (let few = b.few in omega (arith, index_is, few, lt)) in
        not_itself (key (suc level) index) (subst (λ n. is_read_before (key (suc level) n) (key (suc level) index) ≡ true) one
        (subst (λ l. is_read_before (key (suc l) b.index) (key (suc level) index) ≡ true) level_is b.reaches))
