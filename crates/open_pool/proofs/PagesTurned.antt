-- A page is read: the reading of a map goes on by its turn.
use Rattle.std.proofs.Common.{◌≡◌, ◌≢◌, ◌⊎◌, inl, inr, ⊎_elim, ℕ, suc, ◌+◌, ◌*◌, ◌<◌, ◌==◌, Bool, true, false, cond, List, [], ◌∷◌, ◌++◌, length, get_or, Option, Some, None, refl, sym, ap, ◌∙◌, subst, arith}
use Rattle.std.specs.List.{AllByRecursion}
use Rattle.std.proofs.lemmas.Bool.Decides.{nat_tests}
use Rattle.sha2.specs.Sha256.{sha256}
use Rattle.mp_base.specs.declared.place.Key.{Key}
use Rattle.bank_core.specs.Disk.{Noted}
use Rattle.block_map.specs.Keys.{IsKey, IsPage}
use Rattle.block_map.specs.Map.{pointer_at}
use Rattle.block_map.specs.Pointers.{hole}
use Rattle.block_map.specs.Reading.{Reading as MapReading, IsRead, IsWritten, NamesPlaces}
use Rattle.block_map.proofs.ReadPages.{child_cases}
use Rattle.mirror_io.specs.declared.copies.CopyOf.{CopyOf}
use Rattle.mirror_io.specs.Copies.{tries}
use Rattle.mirror_io.specs.Mirror.{IsHealed}
use Rattle.mirror_io.specs.Reads.{AreTried}
use Rattle.txg_history.specs.Groups.{same_key}
use Rattle.txg_history.specs.Pages.{Sum, IsOfVolume}
use Rattle.txg_history.specs.Records.{key, data_start}
use Rattle.txg_history.proofs.Listing.{one_key}
use Rattle.txg_engine.specs.declared.seat.Seat.{Seat}
use Rattle.pool_codec.specs.Codecs.{pool_codec}
use Rattle.pool_codec.specs.Pointers.{told, sum_in}
use Rattle.pool_codec.proofs.KeysOfVolumes.{of_volume}
use Rattle.pool_moves.specs.PageReads.{Reading, PageTurn, page_of, is_read_before, IsKnown, IsPageHere, IsPageTurn, AreInOrder, IsTurned, IsReadTo}
use Rattle.pool_moves.specs.ReadRow.{copies_of}
use Rattle.pool_moves.specs.States.{Sums}
use Rattle.pool_moves.proofs.PagesBack.{before_more, not_itself}
use Rattle.open_pool.specs.Pages.{MapSource, Tells, reading_of, is_past, IsReadUpTo, IsPartOf}
use Rattle.open_pool.specs.State.{sums_of, leaves_from}
use Rattle.open_pool.proofs.PartsRead.{before_of, order_cases, past_more, past_page, hole_between, known_more, known_apart, known_stays, part_next}
use Rattle.open_pool.proofs.RightPages.{child_is, hole_told, told_is, written_told, written_cases, pointer_told}

-- Copies that are tried, by two words for what is good.
pub tried_by : (at : ℕ) (Good Other : List ℕ → Type 0) → ((bytes : List ℕ) → length bytes ≡ 4096 → Good bytes → Other bytes)
    → ((bytes : List ℕ) → length bytes ≡ 4096 → Other bytes → Good bytes)
    → (copies : List CopyOf) (made : List Noted) (wrong : List CopyOf) (outcome : Option (List ℕ))
    → AreTried at Good copies made wrong outcome → AreTried at Other copies made wrong outcome
tried_by at Good Other to from [] made wrong outcome tried = tried
tried_by at Good Other to from (copy ∷ copies) [] wrong outcome tried = tried
tried_by at Good Other to from (copy ∷ copies) (noted ∷ made) wrong outcome (inl (fails, rest)) =
    inl (fails, tried_by at Good Other to from copies made wrong outcome rest)
tried_by at Good Other to from (copy ∷ copies) (noted ∷ made) wrong outcome (inr (inl (others, bytes, gave, is, rest))) =
    inr (inl (
      others,
      bytes,
      record { gives = gave.gives; is = λ other. gave.is (from bytes gave.gives.whole other) },
      is,
      tried_by at Good Other to from copies made others outcome rest,
    ))
tried_by at Good Other to from (copy ∷ copies) (noted ∷ made) wrong outcome (inr (inr (bytes, gave, none, right, is))) =
    inr (inr (bytes, record { gives = gave.gives; is = to bytes gave.gives.whole gave.is }, none, right, is))

-- What is a page goes by the keys that are known before it.
here_same : (m : MapSource) (seats : List Seat) (config : List ℕ) (found found' : Key → Option (List ℕ)) (got got' : Sums) (level index : ℕ) (sum : Sum)
    (bytes : List ℕ) → ((k : Key) → IsKnown (λ above. is_read_before above (key (suc level) index)) k → got' k ≡ got k)
    → IsPageHere (reading_of m seats config found got) level index sum bytes → IsPageHere (reading_of m seats config found' got') level index sum bytes
here_same m seats config found found' got got' level index sum bytes same here = record {
  same_sum = here.same_sum;
  formed = here.formed;
  inside = here.inside;
  born = here.born;
  on_top = here.on_top;
  apart = here.apart;
  fresh = λ j below other k lt is known there one. here.fresh j below other k lt is known (sym (same k known) ∙ there) one;
}

-- A page that was read before stays so.
turn_stays : (m : MapSource) (seats : List Seat) (config : List ℕ) (found found' : Key → Option (List ℕ)) (got got' : Sums) (turn : PageTurn)
    → ((k : Key) → IsKnown (λ above. is_read_before above (page_of turn)) k → got' k ≡ got k) → got' (page_of turn) ≡ got (page_of turn)
    → found' (page_of turn) ≡ found (page_of turn)
    → IsPageTurn (reading_of m seats config found got) turn → IsPageTurn (reading_of m seats config found' got') turn
turn_stays m seats config found found' got got' turn same here bytes is = record {
  low = is.low;
  sum = is.sum;
  sum_is = here ∙ is.sum_is;
  bytes = is.bytes;
  bytes_are = bytes ∙ is.bytes_are;
  tried = tried_by (data_start + is.sum.sector) (IsPageHere (reading_of m seats config found got) turn.level turn.index is.sum)
      (IsPageHere (reading_of m seats config found' got') turn.level turn.index is.sum)
      (λ bytes long here. here_same m seats config found found' got got' turn.level turn.index is.sum bytes same here)
      (λ bytes long here. here_same m seats config found' found got' got turn.level turn.index is.sum bytes (λ k known. sym (same k known)) here)
      (tries (copies_of is.sum (leaves_from seats 1 m.tops))) turn.reads turn.wrong (Some is.bytes) is.tried;
  healed = is.healed;
}

-- Turns, and one more.
turned_more : (k : Key) (turns : List PageTurn) (turn : PageTurn) → IsTurned k turns → IsTurned k (turns ++ turn ∷ [])
turned_more k [] turn is = absurd is
turned_more k (one ∷ turns) turn (inl here) = inl here
turned_more k (one ∷ turns) turn (inr later) = inr (turned_more k turns turn later)

turned_last : (turns : List PageTurn) (turn : PageTurn) → IsTurned (page_of turn) (turns ++ turn ∷ [])
turned_last [] turn = inl refl
turned_last (one ∷ turns) turn = inr (turned_last turns turn)

all_one_more : (P : PageTurn → Type 0) (turns : List PageTurn) (turn : PageTurn) → AllByRecursion P turns → P turn → AllByRecursion P (turns ++ turn ∷ [])
all_one_more P [] turn all one = (one, tt)
all_one_more P (first ∷ turns) turn all one = (all.0, all_one_more P turns turn all.1 one)

all_two : (P Q R : PageTurn → Type 0) (turns : List PageTurn) → ((turn : PageTurn) → P turn → Q turn → R turn) → AllByRecursion P turns → AllByRecursion Q turns
    → AllByRecursion R turns
all_two P Q R [] one a b = tt
all_two P Q R (turn ∷ turns) one a b = (one turn a.0 b.0, all_two P Q R turns one a.1 b.1)

order_more : (turns : List PageTurn) (turn : PageTurn) → AreInOrder turns → AllByRecursion (λ one. is_read_before (page_of one) (page_of turn) ≡ true) turns
    → AreInOrder (turns ++ turn ∷ [])
order_more [] turn order before = (tt, tt)
order_more (first ∷ turns) turn order before =
    (all_one_more (λ next. is_read_before (page_of first) (page_of next) ≡ true) turns turn order.0 before.0, order_more turns turn order.1 before.1)

-- What was found, and one page more.
pub with_page : (page : Key) (bytes : List ℕ) (found : Key → Option (List ℕ)) → Key → Option (List ℕ)
with_page page bytes found k = cond (same_key page k) (Some bytes) (found k)

itself : (k : Key) → same_key k k ≡ true
itself k = let a : (k.level == k.level) ≡ true = grind (arith, nat_tests) in let b : (k.index == k.index) ≡ true = grind (arith, nat_tests) in rw (a, b) refl

page_there : (page : Key) (bytes : List ℕ) (found : Key → Option (List ℕ)) → with_page page bytes found page ≡ Some bytes
unfolding with_page
page_there page bytes found = rw (itself page) refl

page_elsewhere : (page : Key) (bytes : List ℕ) (found : Key → Option (List ℕ)) (k : Key) → page ≢ k → with_page page bytes found k ≡ found k
unfolding with_page
page_elsewhere page bytes found k other = by (same_key page k) refl
  where
    by : (t : Bool) → same_key page k ≡ t → cond (same_key page k) (Some bytes) (found k) ≡ found k
    by true is = absurd (other (one_key page k is))
    by false is = rw is refl

page_or : (page : Key) (bytes : List ℕ) (found : Key → Option (List ℕ)) (k : Key) (some : List ℕ) → with_page page bytes found k ≡ Some some
    → (k ≡ page) ⊎ (found k ≡ Some some)
unfolding with_page
page_or page bytes found k some is = by (same_key page k) refl
  where
    by : (t : Bool) → same_key page k ≡ t → (k ≡ page) ⊎ (found k ≡ Some some)
    by true same = inl (sym (one_key page k same))
    by false other = inr (sym (ap (λ t. cond t (Some bytes) (found k)) other) ∙ is)

abbrev pub turn_of : (level index : ℕ) (reads rewrites : List Noted) (wrong : List CopyOf) → PageTurn
turn_of level index reads rewrites wrong = record { level = level; index = index; reads = reads; rewrites = rewrites; wrong = wrong }

module _ (m : MapSource) (old new : MapReading) (level index : ℕ) (bytes : List ℕ) (part : IsPartOf m old) (low : level < 3)
    (next : old.next ≡ Some (key (suc level) index)) (read : IsRead old new (key (suc level) index) bytes) (places : NamesPlaces new.map)
    (seats : List Seat) (config : List ℕ) (tells : Tells config m) (found : Key → Option (List ℕ)) (turns : List PageTurn)
    (up : IsReadUpTo (reading_of m seats config found (sums_of old.map)) (Some (key (suc level) index)) turns)
    (written : IsWritten (pointer_at old.map (key (suc level) index))) (same_sum : sha256 bytes ≡ (pointer_at old.map (key (suc level) index)).sum) where
  abbrev page : Key
  page = key (suc level) index

  abbrev sum : Sum
  sum = told (pointer_at old.map (key (suc level) index))

  abbrev x : Reading
  x = reading_of m seats config found (sums_of old.map)

  abbrev y : Reading
  y = reading_of m seats config (with_page (key (suc level) index) bytes found) (sums_of new.map)

  after_part : IsPartOf m new
  after_part = part_next m old new level index bytes part low next read places

  stays : (k : Key) → IsKnown (λ above. is_read_before above page) k → sums_of new.map k ≡ sums_of old.map k
  stays k known = ap sum_in (known_stays old new level index bytes k low read known)

  -- keys of higher levels stay
  high_stays : (k : Key) → level < k.level → sums_of new.map k ≡ sums_of old.map k
  high_stays k high = ap sum_in (read.read.others k (λ j lt same. let e = ap (λ k. k.level) (sym (child_is level index j) ∙ same) in omega (arith, high, e)))

  high : (k : Key) → is_read_before k page ≡ true → level < k.level
  high k before = ⊎_elim (λ lower. omega (arith, lower)) (λ same. let e = same.0 in omega (arith, e)) (before_of k page before)

  page_stays : sums_of new.map page ≡ Some sum
  page_stays = high_stays page (omega arith) ∙ written_told (pointer_at old.map page) written

  not_page : (k : Key) → is_read_before k page ≡ true → page ≢ k
  not_page k before same = not_itself page (subst (λ k. is_read_before k page ≡ true) (sym same) before)

  -- behind the page, and before the next one, is none
  none_between : (l i : ℕ) (s : Sum) → l < 3 → is_read_before page (key (suc l) i) ≡ true → is_past new.next (key (suc l) i) ≡ true
      → sums_of new.map (key (suc l) i) ≡ Some s → ⊥
  none_between l i s low' behind past got =
      let some = (told_is (pointer_at new.map (key (suc l) i)) s got).0 in
      let inside : IsPage new.map.blocks (key (suc l) i) = record {
        key = subst (λ n. IsKey n (key (suc l) i)) (sym after_part.blocks_are) (after_part.inside (key (suc l) i) some);
        level = omega arith;
      } in
      let e = ap (λ p. p.birth.0) (hole_between page (key (suc l) i) new.next new.map read.next inside behind past) in
      omega (arith, some, e)

  below_known : (l i j : ℕ) → l < 3 → j < 64 → is_read_before (key (suc l) i) page ≡ true → IsKnown (λ above. is_read_before above page) (key l (64 * i + j))
  below_known l i j low' lt before = inr (record { level = l; index = i; j = j; low = low'; few = lt; is = refl; reaches = before })

  -- the keys below a page that isn't reached are holes
  below_none : (l i j : ℕ) → l < 3 → j < 64 → is_read_before page (key (suc l) i) ≡ true → sums_of new.map (key l (64 * i + j)) ≡ None
  below_none l i j low' lt behind = ⊎_elim (λ some. absurd (never some)) (λ none. hole_told (pointer_at new.map k) none) (written_cases (pointer_at new.map k))
    where
      k : Key
      k = key l (64 * i + j)

      never : IsWritten (pointer_at new.map (key l (64 * i + j))) → ⊥
      never some = ⊎_elim
          (λ c. let same : key level (64 * index + c.0) ≡ key l (64 * i + j) = sym (child_is level index c.0) ∙ c.2 in
          let level_is = ap (λ k. k.level) same in let index_is = ap (λ k. k.index) same in let few = c.1 in
          let one : index ≡ i = omega (arith, index_is, few, lt) in
          not_itself page (subst (λ n. is_read_before page (key (suc level) n) ≡ true) (sym one)
          (subst (λ n. is_read_before page (key (suc n) i) ≡ true) (sym level_is) behind)))
          (λ other. known_apart l i j (key l (64 * i + j)) lt
          (known_more (λ above. is_read_before above page) (λ above. is_read_before above (key (suc l) i)) (key l (64 * i + j))
          (λ a before. before_more a page (key (suc l) i) before behind)
          (subst (λ n. IsKnown (is_past n) (key l (64 * i + j))) next
          (part.known (key l (64 * i + j)) (subst IsWritten (read.read.others (key l (64 * i + j)) other) some))))
          low' refl) (child_cases page (key l (64 * i + j)))

  each_stays : (turn : PageTurn) → IsPageTurn x turn → is_read_before (page_of turn) page ≡ true → IsPageTurn y turn
  each_stays turn is before = turn_stays m seats config found (with_page page bytes found) (sums_of old.map) (sums_of new.map) turn
      (λ k known. stays k (known_more (λ above. is_read_before above (page_of turn)) (λ above. is_read_before above page) k
      (λ a earlier. before_more a (page_of turn) page earlier before) known))
      (high_stays (page_of turn) (high (page_of turn) before)) (page_elsewhere page bytes found (page_of turn) (not_page (page_of turn) before)) is

  AtPage : ℕ → ℕ → Sum → Type 0
  AtPage l i s = (b : List ℕ) × (with_page page bytes found (key (suc l) i) ≡ Some b) × (sha256 b ≡ s.sum)
      × ((j : ℕ) → j < 64 → sums_of new.map (key l (64 * i + j)) ≡ pool_codec.pointer b j)

  at_page : (s : Sum) → sums_of new.map page ≡ Some s → AtPage level index s
  unfolding AtPage
  at_page s got = (
    bytes,
    page_there page bytes found,
    same_sum ∙ ap (λ s. s.sum) (same (sym page_stays ∙ got)),
    (λ j lt. ap sum_in (subst (λ k. pointer_at new.map k ≡ get_or read.pointers j hole) (child_is level index j) (read.read.there j lt))
        ∙ sym (pointer_told bytes read.pointers j read.form read.bytes_are)),
  )
    where
      same : {a b : Sum} → Some a ≡ Some b → a ≡ b
      same e = cc

  at_same : (l i : ℕ) (s : Sum) → key (suc l) i ≡ page → sums_of new.map (key (suc l) i) ≡ Some s → AtPage l i s
  at_same l i s same got =
      let level_is : level ≡ l = (let e = ap (λ k. k.level) same in omega (arith, e)) in let index_is : index ≡ i = sym (ap (λ k. k.index) same) in
      subst (λ n. AtPage n i s) level_is (subst (λ n. AtPage level n s) index_is (at_page s (ap (sums_of new.map) (sym same) ∙ got)))

  back_of : IsReadTo y (is_past new.next)
  unfolding AtPage
  back_of = record {
    root = ap sum_in after_part.there ∙ sym tells.root_is;
    holes = λ l i j low' lt past none. ⊎_elim
        (λ before. stays (key l (64 * i + j)) (below_known l i j low' lt before)
        ∙ up.back.holes l i j low' lt before (sym (high_stays (key (suc l) i) (high (key (suc l) i) before)) ∙ none))
        (λ rest. ⊎_elim (λ same. absurd (let no : Some sum ≡ None = sym page_stays ∙ ap (sums_of new.map) (sym same) ∙ none in cc))
        (λ behind. below_none l i j low' lt behind) rest) (order_cases (key (suc l) i) page);
    pages = λ l i s low' past got. ⊎_elim
        (λ before. let was = up.back.pages l i s low' before (sym (high_stays (key (suc l) i) (high (key (suc l) i) before)) ∙ got) in (
          was.0,
          page_elsewhere page bytes found (key (suc l) i) (not_page (key (suc l) i) before) ∙ was.1,
          was.2,
          (λ j lt. stays (key l (64 * i + j)) (below_known l i j low' lt before) ∙ was.3 j lt),
        ))
        (λ rest. ⊎_elim (λ same. at_same l i s same got) (λ behind. absurd (none_between l i s low' behind past got)) rest) (order_cases (key (suc l) i) page);
    beyond = λ k outside. ⊎_elim (λ some. absurd (outside (subst (λ n. IsOfVolume n k) (sym tells.blocks_are)
        ((of_volume m.blocks k).0 (after_part.inside k some))))) (λ none. hole_told (pointer_at new.map k) none) (written_cases (pointer_at new.map k));
  }

  pub turned : (reads rewrites : List Noted) (wrong : List CopyOf)
      → AreTried (data_start + (pointer_at old.map page).place.sector) (IsPageHere x level index sum) (tries (copies_of sum (leaves_from seats 1 m.tops)))
      reads wrong (Some bytes)
      → IsHealed (data_start + (pointer_at old.map page).place.sector) (Some bytes) wrong rewrites
      → IsReadUpTo y new.next (turns ++ turn_of level index reads rewrites wrong ∷ [])
  turned reads rewrites wrong tried healed = record {
    each = all_one_more (IsPageTurn y) turns turn (all_two (IsPageTurn x) (λ turn. is_read_before (page_of turn) page ≡ true) (IsPageTurn y) turns
        each_stays up.each up.before) last;
    order = order_more turns turn up.order up.before;
    before = all_one_more (λ turn. is_past new.next (page_of turn) ≡ true) turns turn
        (all_two (λ turn. is_read_before (page_of turn) page ≡ true) (λ turn. is_read_before (page_of turn) page ≡ true)
        (λ turn. is_past new.next (page_of turn) ≡ true) turns
        (λ one before again. past_more page new.next new.map (page_of one) read.next before) up.before up.before) (past_page page new.next new.map read.next);
    all = λ l i s low' past got. ⊎_elim
        (λ before. turned_more (key (suc l) i) turns turn
        (up.all l i s low' before (sym (high_stays (key (suc l) i) (high (key (suc l) i) before)) ∙ got)))
        (λ rest. ⊎_elim (λ same. subst (λ k. IsTurned k (turns ++ turn ∷ [])) (sym same) (turned_last turns turn))
        (λ behind. absurd (none_between l i s low' behind past got)) rest) (order_cases (key (suc l) i) page);
    only = λ k b is. ⊎_elim (λ same. subst (λ k. IsTurned k (turns ++ turn ∷ [])) (sym same) (turned_last turns turn))
        (λ was. turned_more k turns turn (up.only k b was)) (page_or page bytes found k b is);
    back = back_of;
  }
    where
      turn : PageTurn
      turn = turn_of level index reads rewrites wrong

      last : IsPageTurn y (turn_of level index reads rewrites wrong)
      last = record {
        low = low;
        sum = sum;
        sum_is = page_stays;
        bytes = bytes;
        bytes_are = page_there page bytes found;
        tried = tried_by (data_start + (pointer_at old.map page).place.sector) (IsPageHere x level index sum) (IsPageHere y level index sum)
            (λ b long here. here_same m seats config found (with_page page bytes found) (sums_of old.map) (sums_of new.map) level index sum b stays here)
            (λ b long here. here_same m seats config (with_page page bytes found) found (sums_of new.map) (sums_of old.map) level index sum b
            (λ k known. sym (stays k known)) here)
            (tries (copies_of sum (leaves_from seats 1 m.tops))) reads wrong (Some bytes) tried;
        healed = healed;
      }
