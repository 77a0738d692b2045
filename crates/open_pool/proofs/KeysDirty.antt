-- The keys of a freeze are its blocks and just the pages above them.
use Rattle.std.proofs.Common.{◌≡◌, ⊎_elim, ℕ, zero, suc, ◌+◌, ◌*◌, ◌/◌, ◌%◌, ◌^◌, ◌<◌, ◌≤◌, List, [], ◌∷◌, ◌++◌, Contains, map, Some, refl, sym, ap, ◌∙◌, subst, arith}
use Rattle.std.proofs.lemmas.List.Elements.{Contains-append_cases, Contains-append_right, Contains-append_left, Contains-push}
use Rattle.mp_base.specs.declared.place.Key.{Key}
use Rattle.block_map.specs.Dirty.{page_above, pages_above, ArePagesAbove}
use Rattle.block_map.proofs.DirtyPages.{they_are_exact}
use Rattle.txg_history.specs.Records.{Cell, key}
use Rattle.txg_engine.specs.declared.item.Item.{Item}
use Rattle.txg_engine.specs.declared.write.Write.{Write}
use Rattle.txg_engine.specs.Freezing.{addr_of, block_keys, page_keys, dirty_keys}
use Rattle.txg_engine.specs.Items.{key_of, keys_of}
use Rattle.txg_engine.specs.Writes.{RiseFrom}
use Rattle.txg_engine.proofs.AddressesRise.{addrs_rise}
use Rattle.txg_engine.proofs.Places.{only_one}
use Rattle.pool_moves.specs.FreezeRow.{HasChild}
use Rattle.open_pool.specs.State.{cells_of}
use Rattle.open_pool.proofs.KeysFound.{found_item, has_cell}

-- a block of these addresses, or a page above one
pub record IsDirty (addrs : List ℕ) (k : Key) : Type 0 where
  pub addr : ℕ
  pub among : Contains addrs addr
  pub low : k.level ≤ 3
  pub is : k ≡ page_above k.level addr

pub level_of_page : (level a : ℕ) → (page_above level a).level ≡ level
unfolding page_above
level_of_page level a = refl

pub index_of_page : (level a : ℕ) → (page_above level a).index ≡ a / 64 ^ level
unfolding page_above
index_of_page level a = refl

pub first_of : {A : Type 0} (x : A) (xs : List A) → Contains (x ∷ xs) x
first_of x xs = Contains-append_left (x ∷ []) xs x (Contains-push [] x)

pub mapped : {A B : Type 0} (f : A → B) (xs : List A) (x : A) → Contains xs x → Contains (map f xs) (f x)
mapped f [] x among = absurd (omega (arith, among.1))
mapped f (y ∷ xs) x among =
    ⊎_elim (λ one. subst (λ z. Contains (f y ∷ map f xs) (f z)) (sym (only_one y x one)) (first_of (f y) (map f xs)))
    (λ more. Contains-append_right (f y ∷ []) (map f xs) (f x) (mapped f xs x more))
    (Contains-append_cases (y ∷ []) xs x among)

-- an element of a mapped list
pub record IsMapped {A B : Type 0} (f : A → B) (xs : List A) (y : B) : Type 0 where
  pub from : A
  pub among : Contains xs from
  pub is : y ≡ f from

pub of_mapped : {A B : Type 0} (f : A → B) (xs : List A) (y : B) → Contains (map f xs) y → IsMapped f xs y
of_mapped f [] y among = absurd (omega (arith, among.1))
of_mapped f (x ∷ xs) y among =
    ⊎_elim (λ one. record { from = x; among = first_of x xs; is = only_one (f x) y one })
    (λ more. let found = of_mapped f xs y more in
    record { from = found.from; among = Contains-append_right (x ∷ []) xs found.from found.among; is = found.is })
    (Contains-append_cases (f x ∷ []) (map f xs) y among)

same_block : (a : ℕ) → key 0 a ≡ page_above 0 a
unfolding page_above
same_block a = let same : a ≡ a / 1 = omega arith in ap (key 0) same

-- the page of a key on the next level, and a key below a page
parent_index : (level a index j : ℕ) → level < 3 → j < 64 → 64 * index + j ≡ a / 64 ^ level → a / 64 ^ suc level ≡ index
parent_index zero a index j low few is = omega (arith, is, few)
parent_index (suc zero) a index j low few is = omega (arith, is, few)
parent_index (suc (suc zero)) a index j low few is = omega (arith, is, few)
parent_index (suc (suc (suc level))) a index j low few is = absurd (omega (arith, low))

child_index : (level a index : ℕ) → level < 3 → index ≡ a / 64 ^ suc level → 64 * index + (a / 64 ^ level) % 64 ≡ a / 64 ^ level
child_index zero a index low is = omega (arith, is)
child_index (suc zero) a index low is = omega (arith, is)
child_index (suc (suc zero)) a index low is = omega (arith, is)
child_index (suc (suc (suc level))) a index low is = absurd (omega (arith, low))

page_is : (level a index : ℕ) → a / 64 ^ level ≡ index → key level index ≡ page_above level a
unfolding page_above
page_is level a index is = ap (key level) (sym is)

parent_dirty : (addrs : List ℕ) (level index j : ℕ) → level < 3 → j < 64 → IsDirty addrs (key level (64 * index + j)) → IsDirty addrs (key (suc level) index)
parent_dirty addrs level index j low few dirty = record {
  addr = dirty.addr;
  among = dirty.among;
  low = omega (arith, low);
  is = page_is (suc level) dirty.addr index (parent_index level dirty.addr index j low few
      (ap (λ (i : Key). i.index) dirty.is ∙ index_of_page level dirty.addr));
}

child_dirty : (addrs : List ℕ) (level index : ℕ) → level < 3 → (dirty : IsDirty addrs (key (suc level) index))
    → IsDirty addrs (key level (64 * index + (dirty.addr / 64 ^ level) % 64))
child_dirty addrs level index low dirty = record {
  addr = dirty.addr;
  among = dirty.among;
  low = omega (arith, low);
  is = page_is level dirty.addr (64 * index + (dirty.addr / 64 ^ level) % 64) (sym (child_index level dirty.addr index low
      (ap (λ (i : Key). i.index) dirty.is ∙ index_of_page (suc level) dirty.addr)));
}

module _ (writes : List Write) (rise : RiseFrom 0 writes) where
  abbrev pub addrs : List ℕ
  addrs = map addr_of writes

  above : (level : ℕ) → ArePagesAbove level addrs (pages_above level addrs)
  above level = they_are_exact level addrs (addrs_rise 0 writes rise)

  of_level : (level : ℕ) (k : Key) → level ≤ 3 → Contains (pages_above level addrs) k → IsDirty addrs k
  of_level level k low among =
      let (a, there, is) = (above level).only k among in
      let same : k.level ≡ level = ap (λ (i : Key). i.level) is ∙ level_of_page level a in
      record { addr = a; among = there; low = omega (arith, same, low); is = is ∙ ap (λ l. page_above l a) (sym same) }

  of_block : (k : Key) → Contains (block_keys writes) k → IsDirty addrs k
  of_block k among =
      let found = of_mapped (λ write. key 0 write.addr) writes k among in
      let same : k.level ≡ 0 = ap (λ (i : Key). i.level) found.is in
      record {
        addr = found.from.addr;
        among = mapped addr_of writes found.from found.among;
        low = omega (arith, same);
        is = found.is ∙ same_block found.from.addr ∙ ap (λ l. page_above l found.from.addr) (sym same);
      }

  pub of_dirty : (k : Key) → Contains (dirty_keys writes) k → IsDirty addrs k
  of_dirty k among =
      ⊎_elim (of_block k) (λ pages.
      ⊎_elim (of_level 1 k (omega arith)) (λ more.
      ⊎_elim (of_level 2 k (omega arith)) (of_level 3 k (omega arith))
      (Contains-append_cases (pages_above 2 addrs) (pages_above 3 addrs) k more))
      (Contains-append_cases (pages_above 1 addrs) (pages_above 2 addrs ++ pages_above 3 addrs) k pages))
      (Contains-append_cases (block_keys writes) (page_keys addrs) k among)

  in_pages : (level a : ℕ) → 1 ≤ level → level ≤ 3 → Contains addrs a → Contains (page_keys addrs) (page_above level a)
  in_pages zero a some low among = absurd (omega (arith, some))
  in_pages (suc zero) a some low among =
      Contains-append_left (pages_above 1 addrs) (pages_above 2 addrs ++ pages_above 3 addrs) (page_above 1 a) ((above 1).all a among)
  in_pages (suc (suc zero)) a some low among =
      Contains-append_right (pages_above 1 addrs) (pages_above 2 addrs ++ pages_above 3 addrs) (page_above 2 a)
      (Contains-append_left (pages_above 2 addrs) (pages_above 3 addrs) (page_above 2 a) ((above 2).all a among))
  in_pages (suc (suc (suc zero))) a some low among =
      Contains-append_right (pages_above 1 addrs) (pages_above 2 addrs ++ pages_above 3 addrs) (page_above 3 a)
      (Contains-append_right (pages_above 2 addrs) (pages_above 3 addrs) (page_above 3 a) ((above 3).all a among))
  in_pages (suc (suc (suc (suc level)))) a some low among = absurd (omega (arith, low))

  in_blocks : (a : ℕ) → Contains addrs a → Contains (block_keys writes) (key 0 a)
  in_blocks a among =
      let found = of_mapped addr_of writes a among in
      subst (λ x. Contains (block_keys writes) (key 0 x)) (sym found.is) (mapped (λ write. key 0 write.addr) writes found.from found.among)

  pub to_dirty : (level a : ℕ) → level ≤ 3 → Contains addrs a → Contains (dirty_keys writes) (page_above level a)
  to_dirty zero a low among =
      subst (Contains (dirty_keys writes)) (same_block a)
      (Contains-append_left (block_keys writes) (page_keys addrs) (key 0 a) (in_blocks a among))
  to_dirty (suc level) a low among =
      Contains-append_right (block_keys writes) (page_keys addrs) (page_above (suc level) a) (in_pages (suc level) a (omega arith) low among)

  -- and so of the keys that were found
  module _ (items : List Item) (keys : keys_of items ≡ dirty_keys writes) where
    pub found_dirty : (k : Key) (cell : Cell) → cells_of items k ≡ Some cell → IsDirty addrs k
    found_dirty k cell is =
        let found = found_item items k cell is in
        of_dirty k (subst (λ ks. Contains ks k) keys (subst (Contains (keys_of items)) found.key_is (mapped key_of items found.item found.among)))

    pub dirty_found : (k : Key) → IsDirty addrs k → (cell : Cell) × (cells_of items k ≡ Some cell)
    dirty_found k dirty =
        has_cell items k (subst (λ ks. Contains ks k) (sym keys)
        (subst (Contains (dirty_keys writes)) (sym dirty.is) (to_dirty k.level dirty.addr dirty.low dirty.among)))

    pub pages_up : (level index j : ℕ) (cell : Cell) → level < 3 → j < 64 → cells_of items (key level (64 * index + j)) ≡ Some cell
        → (page : Cell) × (cells_of items (key (suc level) index) ≡ Some page)
    pages_up level index j cell low few is =
        dirty_found (key (suc level) index) (parent_dirty addrs level index j low few (found_dirty (key level (64 * index + j)) cell is))

    pub only_parents : (level index : ℕ) (cell : Cell) → level < 3 → cells_of items (key (suc level) index) ≡ Some cell
        → HasChild (cells_of items) level index
    only_parents level index cell low is =
        let dirty = found_dirty (key (suc level) index) cell is in
        let j = (dirty.addr / 64 ^ level) % 64 in
        let (below, there) = dirty_found (key level (64 * index + j)) (child_dirty addrs level index low dirty) in
        record { j = j; below = omega arith; cell = below; cell_is = there }
