-- The reading of a map begins with its root's pointer, and at its end the map is read whole.
use Rattle.std.proofs.Common.{◌≡◌, ◌≢◌, inl, ⊎_elim, ℕ, suc, ◌+◌, ◌*◌, ◌≤◌, ◌==◌, Bool, true, false, cond, List, [], Option, Some, None, IfSome, refl, sym, ap, ◌∙◌, subst, arith}
use Rattle.mp_base.specs.declared.place.Key.{Key}
use Rattle.bank_core.specs.BankView.{BankView}
use Rattle.bank_core.proofs.Framing.{makes_none}
use Rattle.block_map.specs.Keys.{IsVolume, IsKey, IsPage, root}
use Rattle.block_map.specs.Map.{Map, pointer_at}
use Rattle.block_map.specs.Pointers.{hole, IsPointer}
use Rattle.block_map.specs.Reading.{Reading as MapReading, BeginsReading, IsWritten, NamesPlaces}
use Rattle.block_map.proofs.ReadPages.{key_cases}
use Rattle.txg_history.specs.Pages.{IsOfVolume}
use Rattle.txg_history.specs.Records.{key}
use Rattle.txg_engine.specs.declared.seat.Seat.{Seat}
use Rattle.pool_codec.specs.Pointers.{sum_in}
use Rattle.pool_codec.proofs.KeysOfVolumes.{of_volume}
use Rattle.pool_moves.specs.PageReads.{is_read_before, IsReadTo, ReadsMap}
use Rattle.open_pool.specs.Pages.{MapSource, Tells, reading_of, is_past, IsReadUpTo, IsPartOf, ReadsUpTo, ReadsWhole}
use Rattle.open_pool.specs.State.{sums_of}
use Rattle.open_pool.proofs.PartsRead.{before_of, root_key}
use Rattle.open_pool.proofs.RightPages.{hole_told, told_is, written_cases}

module _ (m : MapSource) (reading : MapReading) (volume : IsVolume m.blocks) (fits : IsPointer m.sectors m.pointer)
    (begun : BeginsReading m.blocks m.sectors m.number m.pointer reading) (places : NamesPlaces reading.map) where
  hole_fits : IsPointer m.sectors hole
  hole_fits = record { hole = λ none. refl; place = λ some. absurd (omega (arith, some)) }

  -- no key but the root is written
  is_root : (k : Key) → IsWritten (pointer_at reading.map k) → k ≡ root
  is_root k written = ⊎_elim (λ same. same)
      (λ other. let e = ap (λ p. p.birth.0) (begun.others k other) in absurd (omega (arith, written, e))) (key_cases k root)

  -- so the root is read next where a key is
  next_root : (k : Key) → IsWritten (pointer_at reading.map k) → reading.next ≡ Some root
  next_root k written = begun.next ∙ rw (not_zero m.pointer.birth.0 some) refl
    where
      some : 1 ≤ m.pointer.birth.0
      some = subst IsWritten begun.there (subst (λ k. IsWritten (pointer_at reading.map k)) (is_root k written) written)

      not_zero : (n : ℕ) → 1 ≤ n → (n == 0) ≡ false
      not_zero n lt = grind arith

  none_past : (k : Key) → k.level ≤ 3 → is_past reading.next k ≡ true → IsWritten (pointer_at reading.map k) → ⊥
  none_past k low past written =
      let before : is_read_before k root ≡ true = subst (λ n. is_past n k ≡ true) (next_root k written) past in
      ⊎_elim (λ lower. omega (arith, low, lower)) (λ same. let less = same.1 in omega (arith, less)) (before_of k root before)

  none_at : (k : Key) → k ≢ root → sums_of reading.map k ≡ None
  none_at k other = hole_told (pointer_at reading.map k) (ap (λ p. p.birth.0) (begun.others k other))

  page_of_next : (next : Option Key) → next ≡ cond (m.pointer.birth.0 == 0) None (Some root) → IfSome next (IsPage m.blocks)
  page_of_next None is = tt
  page_of_next (Some k) is = by (m.pointer.birth.0 == 0) is
    where
      by : (t : Bool) → Some k ≡ cond t None (Some root) → IsPage m.blocks k
      by true is = absurd (cc)
      by false is = subst (IsPage m.blocks) (let same : root ≡ k = cc in same) (record { key = root_key m.blocks volume; level = omega arith })

  part : IsPartOf m reading
  part = record {
    volume = volume;
    blocks_are = begun.volume;
    sectors_are = begun.tops;
    number_is = begun.record_number;
    there = begun.there;
    page = page_of_next reading.next begun.next;
    pointers = λ k. ⊎_elim (λ same. subst (λ k. IsPointer m.sectors (pointer_at reading.map k)) (sym same) (subst (IsPointer m.sectors) (sym begun.there) fits))
        (λ other. subst (IsPointer m.sectors) (sym (begun.others k other)) hole_fits) (key_cases k root);
    inside = λ k written. subst (IsKey m.blocks) (sym (is_root k written)) (root_key m.blocks volume);
    known = λ k written. inl (is_root k written);
    places = places;
  }

  back : (seats : List Seat) (config : List ℕ) → Tells config m → IsReadTo (reading_of m seats config (λ k. None) (sums_of reading.map)) (is_past reading.next)
  back seats config tells = record {
    root = ap sum_in begun.there ∙ sym tells.root_is;
    holes = λ l i j low lt past none. none_at (key l (64 * i + j)) (λ same. let e = ap (λ k. k.level) same in omega (arith, low, e));
    pages = λ l i sum low past got. absurd (none_past (key (suc l) i) (omega (arith, low)) past (told_is (pointer_at reading.map (key (suc l) i)) sum got).0);
    beyond = λ k outside. ⊎_elim (λ some. absurd (outside (subst (λ n. IsOfVolume n k) (sym tells.blocks_are) ((of_volume m.blocks k).0 (part.inside k some)))))
        (λ none. hole_told (pointer_at reading.map k) none) (written_cases (pointer_at reading.map k));
  }

  pub map_begun : (bank : BankView) → ReadsUpTo m reading bank bank
  map_begun bank = record {
    turns = [];
    found = λ k. None;
    calls = makes_none;
    part = part;
    is = λ seats config tells. record {
      each = tt;
      order = tt;
      before = tt;
      all = λ l i sum low past got. none_past (key (suc l) i) (omega (arith, low)) past (told_is (pointer_at reading.map (key (suc l) i)) sum got).0;
      only = λ k bytes is. absurd (let no : None ≡ Some bytes = is in cc);
      back = back seats config tells;
    };
  }

-- At the end no page is left.
pub map_whole : (m : MapSource) (reading : MapReading) (map : Map) (start end : BankView) → ReadsUpTo m reading start end → reading.next ≡ None
    → map ≡ reading.map → ReadsWhole m map start end
map_whole m reading map start end up none is = record {
  turns = up.turns;
  found = up.found;
  calls = up.calls;
  is = λ seats config tells.
      let all : IsReadUpTo (reading_of m seats config up.found (sums_of reading.map)) None up.turns =
      subst (λ n. IsReadUpTo (reading_of m seats config up.found (sums_of reading.map)) n up.turns) none (up.is seats config tells) in
      subst (λ w. Whole w seats config) (sym is) (record {
        each = all.each;
        order = all.order;
        all = λ l i sum low got. all.all l i sum low refl got;
        only = all.only;
        back = all.back;
      });
}
  where
    Whole : Map → List Seat → List ℕ → Type 0
    Whole map seats config = ReadsMap (reading_of m seats config up.found (sums_of map)) up.turns
