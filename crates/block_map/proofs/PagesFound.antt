-- The bytes that were found of the pages of a map, as it is read.
use Rattle.std.proofs.Common.{◌≡◌, ◌≢◌, ℕ, ◌-◌, ◌<◌, ◌≤◌, ◌⊎◌, List, length, Option, Some, None, sym, ap, ◌∙◌, subst, ⊎_elim, inl, inr, arith}
use Rattle.std.proofs.lemmas.Bool.{cases_order}
use Rattle.std.proofs.lemmas.List.FromFn.{get_or-map-range_with_len, length-map-range_with_len, fill_by_all}
use Rattle.mp_base.specs.declared.place.Key.{Key}
use Rattle.mp_base.specs.declared.place.Pointer.{Pointer}
use Rattle.block_map.specs.Keys.{IsPage, child, root}
use Rattle.block_map.specs.Pages.{page_bytes, AreInForm}
use Rattle.block_map.specs.Pointers.{hole}
use Rattle.block_map.specs.Map.{Map, pointer_at, children}
use Rattle.block_map.specs.Reading.{IsWritten, IsReadBefore, IsUnread, MayBeRead, AreRead, NextPage, IsReading}
use Rattle.block_map.specs.Reading.{RecordedMap, WasRead, IsFound, FindsPage, IsReadFrom}
use Rattle.block_map.proofs.KeyNumbers.{is_key_cases}
use Rattle.block_map.proofs.PointersChanged.{no_pointer}
use Rattle.block_map.proofs.ReadPages.{same_key, key_cases, one_page}

no_hole : (pointer : Pointer) → IsWritten pointer → pointer ≡ hole → ⊥
no_hole pointer written is = let birth : pointer.birth.0 ≡ 0 = ap (λ p. p.birth.0) is in omega arith

-- a stored page is one of the volume
stored_page : (map : Map) (page : Key) → 1 ≤ page.level → IsWritten (pointer_at map page) → IsPage map.blocks page
stored_page map page level written =
    ⊎_elim (λ is_key. record { key = is_key; level = level })
    (λ out. absurd (no_hole (pointer_at map page) written (no_pointer map page out)))
    (is_key_cases map.blocks page)

-- two keys are one, or one is read before the other
order_of : (a b : Key) → (a ≡ b) ⊎ (IsReadBefore a b ⊎ IsReadBefore b a)
order_of a b =
    ⊎_elim (λ level.
    ⊎_elim (λ index. inl (same_key a.level b.level a.index b.index level index))
    (λ apart. inr (⊎_elim (λ lt. inl (inr (level, lt))) (λ gt. inr (inr (sym level, gt))) apart))
    (cases_order a.index b.index))
    (λ apart. inr (⊎_elim (λ lt. inr (inl lt)) (λ gt. inl (inl gt)) apart))
    (cases_order a.level b.level)

-- a stored page that isn't to be read behind another isn't behind it
not_behind : (map : Map) (page : Key) (next : Option Key) → NextPage map page next → (q : Key) → 1 ≤ q.level
    → IsWritten (pointer_at map q) → (¬ (IsUnread next q)) → IsReadBefore page q → ⊥
not_behind map page None last q level written read before =
    no_hole (pointer_at map q) written (last q (stored_page map q level written) before)
not_behind map page (Some next) is q level written read before =
    ⊎_elim (λ same. read (inl same))
    (λ order.
    ⊎_elim (λ first. no_hole (pointer_at map q) written (is.first q (stored_page map q level written) before first))
    (λ behind. read (inr behind)) order)
    (order_of q next)

children_same : (one other : Key → Pointer) (page : Key) → ((j : ℕ) → j < 64 → one (child page j) ≡ other (child page j))
    → children one page ≡ children other page
children_same one other page same =
    fill_by_all (λ j. other (child page j)) (children one page) 64 hole (length-map-range_with_len (λ i. one (child page i)) 0 64)
    (λ j less. get_or-map-range_with_len (λ i. one (child page i)) 0 64 j j hole less (omega arith) ∙ same j less)

children_read : (old new : Map) (page : Key) (pointers : List Pointer) → length pointers ≡ 64 → AreRead old new page pointers 64
    → pointers ≡ children (pointer_at new) page
children_read old new page pointers count read =
    fill_by_all (λ j. pointer_at new (child page j)) pointers 64 hole count (λ j less. sym (read.there j less))

-- ---- one page more

module _ (old new : Map) (number : ℕ) (page : Key) (pointers : List Pointer) (next : Option Key)
    (reading : IsReading old number (Some page)) (may : MayBeRead old number page pointers)
    (read : AreRead old new page pointers 64) where
  module _ (recorded : RecordedMap) (before after : Key → Option (List ℕ)) (bytes : List ℕ) (is : NextPage new page next)
      (form : AreInForm pointers) (bytes_are : bytes ≡ page_bytes pointers) (finds : FindsPage before after page bytes)
      (was : IsReadFrom recorded before (record { map = old; number = number; next = Some page })) where
    -- this page
    found_here : IsFound after new page
    found_here =
        let same = children_read old new page pointers form.count read in
        record {
          form = subst AreInForm same form;
          bytes_are = finds.there ∙ ap Some (bytes_are ∙ ap page_bytes same);
        }

    -- a page that was read before
    found_there : (q : Key) → WasRead (record { map = new; number = number; next = next }) q → q ≢ page → IsFound after new q
    found_there q (level, written, done) differs = record {
      form = subst AreInForm same earlier.form;
      bytes_are = finds.others q differs ∙ earlier.bytes_are ∙ ap (λ list. Some (page_bytes list)) same;
    } where
      behind : IsReadBefore page q → ⊥
      behind = not_behind new page next is q level written done

      no_child : (j : ℕ) → j < 64 → child page j ≢ q
      no_child j less here = let l : page.level - 1 ≡ q.level = ap (λ x. x.level) here in behind (inl (let low = reading.page.0.level in omega arith))

      there : pointer_at new q ≡ pointer_at old q
      there = read.others q no_child

      earlier : IsFound before old q
      earlier = was.pages q (level, subst IsWritten there written, λ unread. ⊎_elim differs behind unread)

      same : children (pointer_at old) q ≡ children (pointer_at new) q
      same = children_same (pointer_at old) (pointer_at new) q
          (λ j less. sym (read.others (child q j) (λ i li here. differs (sym (one_page page q i j reading.page.0.level level li less here)))))

    root_stays : pointer_at new root ≡ pointer_at old root
    root_stays =
        read.others root (λ j less here. let l : page.level - 1 ≡ 3 = ap (λ x. x.level) here in let high = reading.page.0.key.level in omega arith)

    pub found_more : IsReadFrom recorded after (record { map = new; number = number; next = next })
    found_more = record {
      blocks = read.volume.blocks ∙ was.blocks;
      sectors = read.volume.sectors ∙ was.sectors;
      number = was.number;
      pointer = root_stays ∙ was.pointer;
      pages = λ q done.
          ⊎_elim (λ same. subst (IsFound after new) (sym same) found_here) (λ differs. found_there q done differs) (key_cases q page);
    }
