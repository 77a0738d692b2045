-- A round leaves each member its old record or the new one, at each moment.
use Rattle.std.proofs.Common.{◌≡◌, ◌≢◌, ◌⊎◌, ℕ, zero, suc, ◌+◌, ◌-◌, ◌/◌, ◌%◌, ◌<◌, ◌≤◌, Bool, true, false, List, [], ◌∷◌, ◌++◌, map, length, take, get_or, Option, Some, None, is_none, refl, sym, ap, ◌∙◌, subst, arith, inl, inr, ⊎_elim, append_assoc, add_assoc}
use Rattle.std.specs.Prelude.{slice_get}
use Rattle.std.proofs.lemmas.Bool.{cases_lt}
use Rattle.std.proofs.lemmas.List.{take-append-le}
use Rattle.std.proofs.lemmas.Option.{none-some, same_Some}
use Rattle.std.proofs.lemmas.Bool.{true≢false}
use Rattle.bank_core.specs.declared.bank.Fault.{Fault}
use Rattle.bank_core.specs.Asks.{Ask, IsPart}
use Rattle.bank_core.specs.Disk.{Sector, Sectors, Noted, replay, run, sectors_in, sector_of, IsImage}
use Rattle.bank_core.specs.Standing.{Stands, StandFrom, Untouched, Spares}
use Rattle.bank_core.proofs.Composing.{replay_more}
use Rattle.bank_core.proofs.Standing.{untouched_stands, untouched_more, untouched_front, part_spares}
use Rattle.label_store.specs.declared.member.Member.{Member}
use Rattle.label_store.specs.declared.rule.Head.{Head}
use Rattle.label_store.specs.declared.uberblock.Uberblock.{Uberblock}
use Rattle.label_store.specs.Layout.{labels_of, slot_of}
use Rattle.label_store.specs.Phases.{IsTurn, IsPhase}
use Rattle.label_store.specs.Records.{config_at, place_at, IsRecord, AreUnhurt, HasRecord, Leaves, LeavesOne}
use Rattle.label_store.specs.Rounds.{Commit, IsRound, config_of, uberblock_of, first_plan, second_plan, third_plan}
use Rattle.label_store.specs.Seats.{AreSeated, AreApart}
use Rattle.label_store.specs.Uberblock.{uberblock_bytes}
use Rattle.label_store.proofs.Places.{label_is, config_elsewhere_even, config_elsewhere_odd, ring_elsewhere, even_spares_ring, odd_spares_ring, even_spares_config, odd_spares_config, ring_spares_ring, ring_spares_config, uberblock_sectors, even_lands, odd_lands, ring_lands}

pub same_member : (m n : Member) → Some m ≡ Some n → m ≡ n
same_member = same_Some

pub no_member : (m : Member) → None ≡ Some m → ⊥
no_member = none-some

-- another member has another device
pub others : (ms : List Member) (i j : ℕ) (m n : Member) → AreApart ms → slice_get ms i ≡ Some m → slice_get ms j ≡ Some n → j ≢ i → n.dev ≢ m.dev
others ms i j m n apart e f ne =
    ⊎_elim {A = i < j} {B = j ≤ i}
    (λ lt same. apart i j m n e f lt (sym same))
    (λ le same. let lt : j < i = omega arith in apart j i n m f e lt same)
    (cases_lt i j)

-- what holds of a member and of each with another device holds of all
each : (P : Member → Type 0) (ms : List Member) (i j : ℕ) (m n : Member) → AreApart ms → slice_get ms i ≡ Some m → slice_get ms j ≡ Some n
    → (j ≡ i → P m) → ((n' : Member) → n'.dev ≢ m.dev → P n') → P n
each P ms i j m n apart e f here away =
    ⊎_elim {A = i < j} {B = j ≤ i}
    (λ lt. let ne : j ≢ i = omega arith in away n (others ms i j m n apart e f ne))
    (λ le. ⊎_elim {A = j < i} {B = i ≤ j}
    (λ lt. let ne : j ≢ i = omega arith in away n (others ms i j m n apart e f ne))
    (λ le'. let same : j ≡ i = omega arith in subst P (same_Some m n (sym e ∙ ap (slice_get ms) (sym same) ∙ f)) (here same))
    (cases_lt j i))
    (cases_lt i j)

pub turn_spares : (asks : List Ask) (was is : Bool) (made : List Noted) (d s : ℕ) → (was ≡ true → Spares asks d s) → IsTurn asks was is made → Untouched made d s
turn_spares asks true is made d s sp t = part_spares asks made t.0 d s t.1 (sp refl)
turn_spares asks false is made d s sp t = subst (λ calls. Untouched calls d s) (sym t.0) tt

-- A phase spares what the parts of all on the board spare.
pub phase_spares : (plan : Member → List Ask) (ms : List Member) (was is : List Bool) (made : List Noted) (d s : ℕ)
    → ((j : ℕ) (m : Member) → slice_get ms j ≡ Some m → slice_get was j ≡ Some true → Spares (plan m) d s) → IsPhase plan ms was is made → Untouched made d s
phase_spares plan [] [] [] made d s h p = subst (λ calls. Untouched calls d s) (sym p) tt
phase_spares plan [] [] (c ∷ is) made d s h p = absurd p
phase_spares plan [] (b ∷ was) is made d s h p = absurd p
phase_spares plan (m ∷ ms) [] is made d s h p = absurd p
phase_spares plan (m ∷ ms) (b ∷ was) [] made d s h p = absurd p
phase_spares plan (m ∷ ms) (b ∷ was) (c ∷ is) made d s h p =
    subst (λ calls. Untouched calls d s) (sym p.2)
    (untouched_more p.0 p.1 d s (turn_spares (plan m) b c p.0 d s (λ e. h zero m refl (ap Some e)) p.3)
    (phase_spares plan ms was is p.1 d s (λ j n e f. h (suc j) n e f) p.4))

-- who ends a turn on the board made a whole part
pub whole_part : (asks : List Ask) (was : Bool) (made : List Noted) → IsTurn asks was true made → IsPart asks made None
whole_part asks true made t = whole_of t.0 t.1 t.2
  where
    whole_of : (outcome : Option Fault) → IsPart asks made outcome → true ≡ is_none outcome → IsPart asks made None
    whole_of None part is' = part
    whole_of (Some fault) part is' = absurd (true≢false is')
whole_part asks false made t = absurd (true≢false t.1)

turn_lands : (asks : List Ask) (was is : Bool) (made : List Noted) (d s : ℕ) (x : Sector) (b : List ℕ) → is ≡ true
    → (IsPart asks made None → Stands (replay made d s x) b) → IsTurn asks was is made → Stands (replay made d s x) b
turn_lands asks was is made d s x b e lands t = lands (whole_part asks was made (subst (λ c. IsTurn asks was c made) e t))

-- What the whole part of one member brings stands behind its phase.
pub phase_lands : (plan : Member → List Ask) (ms : List Member) (was is : List Bool) (made : List Noted) (i : ℕ) (m : Member) (d s : ℕ) (x : Sector) (b : List ℕ)
    → slice_get ms i ≡ Some m → slice_get is i ≡ Some true
    → ((j : ℕ) (n : Member) → slice_get ms j ≡ Some n → j ≢ i → Spares (plan n) d s)
    → ((mine : List Noted) (y : Sector) → IsPart (plan m) mine None → Stands (replay mine d s y) b)
    → IsPhase plan ms was is made → Stands (replay made d s x) b
phase_lands plan [] was is made i m d s x b e f h lands p = absurd (none-some m e)
phase_lands plan (n ∷ ms) [] is made i m d s x b e f h lands p = absurd p
phase_lands plan (n ∷ ms) (w ∷ was) [] made i m d s x b e f h lands p = absurd p
phase_lands plan (n ∷ ms) (w ∷ was) (c ∷ is) made zero m d s x b e f h lands p =
    subst (λ calls. Stands (replay calls d s x) b) (sym p.2)
    (subst (λ y. Stands y b) (sym (replay_more p.0 p.1 d s x))
    (untouched_stands p.1 d s (replay p.0 d s x) b
    (phase_spares plan ms was is p.1 d s (λ j n' e' on. h (suc j) n' e' (omega arith)) p.4)
    (turn_lands (plan n) w c p.0 d s x b (same_Some c true f)
    (λ part. lands p.0 x (subst (λ q. IsPart (plan q) p.0 None) (same_Some n m e) part)) p.3)))
phase_lands plan (n ∷ ms) (w ∷ was) (c ∷ is) made (suc i) m d s x b e f h lands p =
    subst (λ calls. Stands (replay calls d s x) b) (sym p.2)
    (subst (λ y. Stands y b) (sym (replay_more p.0 p.1 d s x))
    (phase_lands plan ms was is p.1 i m d s (replay p.0 d s x) b e f (λ j n' e' ne. h (suc j) n' e' (omega arith)) lands p.4))

turn_was : (asks : List Ask) (was is : Bool) (made : List Noted) → is ≡ true → IsTurn asks was is made → was ≡ true
turn_was asks true is made e t = refl
turn_was asks false is made e t = absurd (true≢false (sym e ∙ t.1))

-- who ends a phase on the board began it there
pub phase_was : (plan : Member → List Ask) (ms : List Member) (was is : List Bool) (made : List Noted) (i : ℕ) → slice_get is i ≡ Some true
    → IsPhase plan ms was is made → slice_get was i ≡ Some true
phase_was plan [] [] [] made i e p = absurd (none-some true e)
phase_was plan [] [] (c ∷ is) made i e p = absurd p
phase_was plan [] (b ∷ was) is made i e p = absurd p
phase_was plan (m ∷ ms) [] is made i e p = absurd p
phase_was plan (m ∷ ms) (b ∷ was) [] made i e p = absurd p
phase_was plan (m ∷ ms) (b ∷ was) (c ∷ is) made zero e p = ap Some (turn_was (plan m) b c p.0 (same_Some c true e) p.3)
phase_was plan (m ∷ ms) (b ∷ was) (c ∷ is) made (suc i) e p = phase_was plan ms was is p.1 i e p.4

-- each member has a result
phase_result : (plan : Member → List Ask) (ms : List Member) (was is : List Bool) (made : List Noted) (i : ℕ) (m : Member) → slice_get ms i ≡ Some m
    → IsPhase plan ms was is made → (c : Bool) × (slice_get is i ≡ Some c)
phase_result plan [] was is made i m e p = absurd (none-some m e)
phase_result plan (n ∷ ms) [] is made i m e p = absurd p
phase_result plan (n ∷ ms) (b ∷ was) [] made i m e p = absurd p
phase_result plan (n ∷ ms) (b ∷ was) (c ∷ is) made zero m e p = (c, refl)
phase_result plan (n ∷ ms) (b ∷ was) (c ∷ is) made (suc i) m e p = phase_result plan ms was is p.1 i m e p.4

-- what stands is shown by each image, where it isn't damaged
shown_by : (sectors : ℕ → Sector) (image : ℕ → List ℕ) (s : ℕ) (b : List ℕ) → IsImage sectors image → Stands (sectors s) b → (sectors s).damaged ≡ false → image s ≡ b
shown_by sectors image s b is st sound = is s (record { still = st.still; sound = sound }) ∙ st.stable

-- a record that stands is left by each crash
leaves : (head_of : List ℕ → Option Head) (size : ℕ) (sectors : ℕ → Sector) (place label : ℕ) (u : Uberblock) (blob config : List ℕ)
    → place < 128 → label < 4 → Stands (sectors (place_at size place)) (uberblock_bytes u) → StandFrom sectors (config_at size label) blob
    → IsRecord head_of u blob config → (image : ℕ → List ℕ) → AreUnhurt size sectors → IsImage sectors image → Leaves head_of size image u config
leaves head_of size sectors place label u blob config inside is_label ring parts rec image unhurt is = record {
  place = place;
  verified = record {
    inside = inside;
    uberblock = ap Some (shown_by sectors image (place_at size place) (uberblock_bytes u) is ring (unhurt (place / 32) (32 + place % 32) (omega arith) (omega arith)));
    label = label;
    is_label = is_label;
    blob = blob;
    shown = λ i lt. ap Some (shown_by sectors image (config_at size label + i) (sector_of i blob) is (parts i lt)
        (subst (λ s. (sectors s).damaged ≡ false) (sym (add_assoc (get_or (labels_of size) label 0) 4 i)) (unhurt label (4 + i) is_label (omega (arith, rec.most)))));
    is_record = rec;
  };
}

-- on: the round's old places at one member, by the number of its device's sectors
odd_apart : (size label : ℕ) → 320 ≤ size → (label ≡ 1) ⊎ (label ≡ 3) → (get_or (labels_of size) label 0 ≢ 0) × (get_or (labels_of size) label 0 ≢ size - 128)
odd_apart size label big (inl e) = subst (λ l. (get_or (labels_of size) l 0 ≢ 0) × (get_or (labels_of size) l 0 ≢ size - 128)) (sym e) (omega arith, omega arith)
odd_apart size label big (inr e) = subst (λ l. (get_or (labels_of size) l 0 ≢ 0) × (get_or (labels_of size) l 0 ≢ size - 128)) (sym e) (omega arith, omega arith)

odd_label : (label : ℕ) → (label ≡ 1) ⊎ (label ≡ 3) → label < 4
odd_label label (inl e) = omega arith
odd_label label (inr e) = omega arith

-- The calls that may not come near the old record.
record IsOld (size : ℕ) (calls : List Noted) (d place label : ℕ) (blob : List ℕ) : Type 0 where
  ring : Untouched calls d (place_at size place)
  config : (i : ℕ) → i < sectors_in blob → Untouched calls d (config_at size label + i)

old_front : (size : ℕ) (calls : List Noted) (d place label : ℕ) (blob : List ℕ) (k : ℕ) → IsOld size calls d place label blob → IsOld size (take k calls) d place label blob
old_front size calls d place label blob k o = record {
  ring = untouched_front calls k d _ o.ring;
  config = λ i lt. untouched_front calls k d _ (o.config i lt);
}

old_more : (size : ℕ) (first second : List Noted) (d place label : ℕ) (blob : List ℕ) → IsOld size first d place label blob → IsOld size second d place label blob
    → IsOld size (first ++ second) d place label blob
old_more size first second d place label blob o p = record {
  ring = untouched_more first second d _ o.ring p.ring;
  config = λ i lt. untouched_more first second d _ (o.config i lt) (p.config i lt);
}

-- a phase keeps the old record, if each part of a member on the board does
old_phase : (plan : Member → List Ask) (ms : List Member) (was is : List Bool) (made : List Noted) (size d place label : ℕ) (blob : List ℕ)
    → ((j : ℕ) (m : Member) → slice_get ms j ≡ Some m → slice_get was j ≡ Some true → Spares (plan m) d (place_at size place))
    → ((i : ℕ) → i < sectors_in blob → (j : ℕ) (m : Member) → slice_get ms j ≡ Some m → slice_get was j ≡ Some true → Spares (plan m) d (config_at size label + i))
    → IsPhase plan ms was is made → IsOld size made d place label blob
old_phase plan ms was is made size d place label blob ring config p = record {
  ring = phase_spares plan ms was is made d _ ring p;
  config = λ i lt. phase_spares plan ms was is made d _ (config i lt) p;
}

old_leaves : (head_of : List ℕ → Option Head) (size number : ℕ) (sectors : ℕ → Sector) (u : Uberblock) (config : List ℕ) (calls : List Noted) (d : ℕ)
    → (old : HasRecord head_of size sectors number u config) → IsOld size calls d old.place old.label old.blob
    → (image : ℕ → List ℕ) → AreUnhurt size (λ s. replay calls d s (sectors s)) → IsImage (λ s. replay calls d s (sectors s)) image
    → Leaves head_of size image u config
old_leaves head_of size number sectors u config calls d old kept =
    leaves head_of size (λ s. replay calls d s (sectors s)) old.place old.label u old.blob config old.inside (odd_label old.label old.odd)
    (untouched_stands calls d _ _ _ kept.ring old.uberblock)
    (λ i lt. untouched_stands calls d _ _ _ (kept.config i lt) (old.stands i lt)) old.is_record

-- the place of a number in the ring of label 0
new_place : (size number : ℕ) → place_at size (number % 32) ≡ 0 + (32 + number % 32)
new_place size number =
    let lt : number % 32 < 32 = omega arith in
    let none : (number % 32) / 32 ≡ 0 = omega arith in
    let same : (number % 32) % 32 ≡ number % 32 = omega arith in
    ap (λ l. get_or (labels_of size) l 0 + (32 + (number % 32) % 32)) none ∙ ap (λ t. 0 + (32 + t)) same

-- What a round asks, what stood before it, and one of its members.
record Scene (head_of : List ℕ → Option Head) (size : ℕ → ℕ) (commit : Commit) (ms : List Member) (i : ℕ) (m : Member) : Type 0 where
  seated : AreSeated size ms
  apart : AreApart ms
  at : slice_get ms i ≡ Some m
  new : IsRecord head_of (uberblock_of commit m) commit.blob (config_of commit)
  few : sectors_in commit.blob ≤ 28

abbrev big_of : {head_of : List ℕ → Option Head} {size : ℕ → ℕ} {commit : Commit} {ms : List Member} {i : ℕ} {m : Member} → Scene head_of size commit ms i m → 320 ≤ size m.dev
big_of {i = i} {m = m} sc = sc.seated i m sc.at

one_sector : {head_of : List ℕ → Option Head} {size : ℕ → ℕ} {commit : Commit} {ms : List Member} {i : ℕ} {m : Member} → Scene head_of size commit ms i m
    → sectors_in (uberblock_bytes (uberblock_of commit m)) ≡ 1
one_sector {commit = commit} {m = m} sc = uberblock_sectors (uberblock_of commit m) sc.new.in_range.sum

first_keeps : (head_of : List ℕ → Option Head) (size : ℕ → ℕ) (commit : Commit) (ms : List Member) (i : ℕ) (m : Member) (was is : List Bool) (made : List Noted)
    (sectors : ℕ → Sector) (u : Uberblock) (config : List ℕ) → Scene head_of size commit ms i m → (old : HasRecord head_of (size m.dev) sectors commit.number.0 u config)
    → IsPhase (first_plan size commit) ms was is made → IsOld (size m.dev) made m.dev old.place old.label old.blob
first_keeps head_of size commit ms i m was is made sectors u config sc old =
    let ne = odd_apart (size m.dev) old.label (big_of sc) old.odd in
    old_phase (first_plan size commit) ms was is made (size m.dev) m.dev old.place old.label old.blob
    (λ j n e on. each (λ q. Spares (first_plan size commit q) m.dev (place_at (size m.dev) old.place)) ms i j m n sc.apart sc.at e
    (λ _. even_spares_ring m.dev (size m.dev) commit.blob m.dev _ (old.place % 32) (big_of sc) sc.few (label_is (size m.dev) (old.place / 32) (omega (arith, old.inside))) (omega arith))
    (λ q away. config_elsewhere_even q.dev (size q.dev) commit.blob m.dev _ away))
    (λ x lt j n e on. each (λ q. Spares (first_plan size commit q) m.dev (config_at (size m.dev) old.label + x)) ms i j m n sc.apart sc.at e
    (λ _. even_spares_config m.dev (size m.dev) commit.blob m.dev _ x (big_of sc) sc.few (label_is (size m.dev) old.label (odd_label old.label old.odd)) ne.0 ne.1 (omega (arith, old.is_record.most)))
    (λ q away. config_elsewhere_even q.dev (size q.dev) commit.blob m.dev _ away))

second_keeps : (head_of : List ℕ → Option Head) (size : ℕ → ℕ) (commit : Commit) (ms : List Member) (i : ℕ) (m : Member) (was is : List Bool) (made : List Noted)
    (sectors : ℕ → Sector) (u : Uberblock) (config : List ℕ) → Scene head_of size commit ms i m → (old : HasRecord head_of (size m.dev) sectors commit.number.0 u config)
    → IsPhase (second_plan size commit) ms was is made → IsOld (size m.dev) made m.dev old.place old.label old.blob
second_keeps head_of size commit ms i m was is made sectors u config sc old =
    old_phase (second_plan size commit) ms was is made (size m.dev) m.dev old.place old.label old.blob
    (λ j n e on. each (λ q. Spares (second_plan size commit q) m.dev (place_at (size m.dev) old.place)) ms i j m n sc.apart sc.at e
    (λ _. ring_spares_ring m.dev (size m.dev) (uberblock_of commit m) m.dev _ (old.place % 32) (big_of sc) (one_sector sc) (label_is (size m.dev) (old.place / 32) (omega (arith, old.inside))) (omega arith) old.other_slot)
    (λ q away. ring_elsewhere q.dev (size q.dev) (uberblock_of commit q) m.dev _ away))
    (λ x lt j n e on. each (λ q. Spares (second_plan size commit q) m.dev (config_at (size m.dev) old.label + x)) ms i j m n sc.apart sc.at e
    (λ _. ring_spares_config m.dev (size m.dev) (uberblock_of commit m) m.dev _ x (big_of sc) (one_sector sc) (label_is (size m.dev) old.label (odd_label old.label old.odd)) (omega (arith, old.is_record.most)))
    (λ q away. ring_elsewhere q.dev (size q.dev) (uberblock_of commit q) m.dev _ away))

on_off : {A : Type 0} (was : List Bool) (i j : ℕ) → slice_get was i ≡ Some false → slice_get was j ≡ Some true → j ≡ i → A
on_off was i j off on same = absurd (true≢false (same_Some true false (sym on ∙ ap (slice_get was) same ∙ off)))

-- a third phase keeps the old record of a member that isn't on the board
third_keeps : (head_of : List ℕ → Option Head) (size : ℕ → ℕ) (commit : Commit) (ms : List Member) (i : ℕ) (m : Member) (was is : List Bool) (made : List Noted)
    (sectors : ℕ → Sector) (u : Uberblock) (config : List ℕ) → Scene head_of size commit ms i m → (old : HasRecord head_of (size m.dev) sectors commit.number.0 u config)
    → slice_get was i ≡ Some false → IsPhase (third_plan size commit) ms was is made → IsOld (size m.dev) made m.dev old.place old.label old.blob
third_keeps head_of size commit ms i m was is made sectors u config sc old off =
    old_phase (third_plan size commit) ms was is made (size m.dev) m.dev old.place old.label old.blob
    (λ j n e on. each (λ q. Spares (third_plan size commit q) m.dev (place_at (size m.dev) old.place)) ms i j m n sc.apart sc.at e
    (λ same. on_off was i j off on same)
    (λ q away. config_elsewhere_odd q.dev (size q.dev) commit.blob m.dev _ away))
    (λ x lt j n e on. each (λ q. Spares (third_plan size commit q) m.dev (config_at (size m.dev) old.label + x)) ms i j m n sc.apart sc.at e
    (λ same. on_off was i j off on same)
    (λ q away. config_elsewhere_odd q.dev (size q.dev) commit.blob m.dev _ away))

-- The new record stands in label 0 behind these calls.
record IsNew (size : ℕ) (sectors : ℕ → Sector) (calls : List Noted) (d : ℕ) (u : Uberblock) (blob : List ℕ) : Type 0 where
  ring : Stands (replay calls d (0 + (32 + u.number.0 % 32)) (sectors (0 + (32 + u.number.0 % 32)))) (uberblock_bytes u)
  config : (i : ℕ) → i < sectors_in blob → Stands (replay calls d (config_at size 0 + i) (sectors (config_at size 0 + i))) (sector_of i blob)

-- two whole phases bring it
brings_new : (head_of : List ℕ → Option Head) (size : ℕ → ℕ) (commit : Commit) (ms : List Member) (i : ℕ) (m : Member) (results : List Bool) (made : List Noted)
    (sectors : ℕ → Sector) → Scene head_of size commit ms i m → (r : IsRound size commit ms results made) → slice_get r.in_second i ≡ Some true
    → IsNew (size m.dev) sectors (r.first ++ r.second) m.dev (uberblock_of commit m) commit.blob
brings_new head_of size commit ms i m results made sectors sc r on =
    let first_on = phase_was (second_plan size commit) ms r.in_first r.in_second r.second i on r.uberblocks in
    record {
      ring = subst (λ y. Stands y (uberblock_bytes (uberblock_of commit m))) (sym (replay_more r.first r.second m.dev _ _))
          (phase_lands (second_plan size commit) ms r.in_first r.in_second r.second i m m.dev _ _ _ sc.at on
          (λ j n e ne. ring_elsewhere n.dev (size n.dev) (uberblock_of commit n) m.dev _ (others ms i j m n sc.apart sc.at e ne))
          (λ mine y part. ring_lands m.dev (size m.dev) (uberblock_of commit m) mine y (big_of sc) sc.new.in_range.sum part) r.uberblocks);
      config = λ x lt. subst (λ y. Stands y (sector_of x commit.blob)) (sym (replay_more r.first r.second m.dev _ _))
          (untouched_stands r.second m.dev _ _ _
          (phase_spares (second_plan size commit) ms r.in_first r.in_second r.second m.dev (config_at (size m.dev) 0 + x)
          (λ j n e _. each (λ q. Spares (second_plan size commit q) m.dev (config_at (size m.dev) 0 + x)) ms i j m n sc.apart sc.at e
          (λ _. ring_spares_config m.dev (size m.dev) (uberblock_of commit m) m.dev 0 x (big_of sc) (one_sector sc) (label_is (size m.dev) 0 (omega arith)) (omega (arith, sc.few)))
          (λ q away. ring_elsewhere q.dev (size q.dev) (uberblock_of commit q) m.dev _ away)) r.uberblocks)
          (phase_lands (first_plan size commit) ms (map (λ q. true) ms) r.in_first r.first i m m.dev _ _ _ sc.at first_on
          (λ j n e ne. config_elsewhere_even n.dev (size n.dev) commit.blob m.dev _ (others ms i j m n sc.apart sc.at e ne))
          (λ mine y part. even_lands m.dev (size m.dev) commit.blob x mine y (big_of sc) sc.few lt part) r.configs));
    }

-- the third phase keeps it
third_spares_new : (head_of : List ℕ → Option Head) (size : ℕ → ℕ) (commit : Commit) (ms : List Member) (i : ℕ) (m : Member) (was is : List Bool) (made : List Noted)
    → Scene head_of size commit ms i m → IsPhase (third_plan size commit) ms was is made
    → (Untouched made m.dev (0 + (32 + commit.number.0 % 32))) × ((x : ℕ) → x < sectors_in commit.blob → Untouched made m.dev (config_at (size m.dev) 0 + x))
third_spares_new head_of size commit ms i m was is made sc p = (
  phase_spares (third_plan size commit) ms was is made m.dev _
      (λ j n e _. each (λ q. Spares (third_plan size commit q) m.dev (0 + (32 + commit.number.0 % 32))) ms i j m n sc.apart sc.at e
      (λ _. odd_spares_ring m.dev (size m.dev) commit.blob m.dev 0 (commit.number.0 % 32) (big_of sc) sc.few (label_is (size m.dev) 0 (omega arith)) (omega arith))
      (λ q away. config_elsewhere_odd q.dev (size q.dev) commit.blob m.dev _ away)) p,
  λ x lt. phase_spares (third_plan size commit) ms was is made m.dev _
      (λ j n e _. each (λ q. Spares (third_plan size commit q) m.dev (config_at (size m.dev) 0 + x)) ms i j m n sc.apart sc.at e
      (λ _. odd_spares_config m.dev (size m.dev) commit.blob m.dev 0 x (big_of sc) sc.few (label_is (size m.dev) 0 (omega arith)) (omega arith) (omega (arith, big_of sc)) (omega (arith, sc.few)))
      (λ q away. config_elsewhere_odd q.dev (size q.dev) commit.blob m.dev _ away)) p,
)

new_more : (size : ℕ) (sectors : ℕ → Sector) (calls more : List Noted) (d : ℕ) (u : Uberblock) (blob : List ℕ) → IsNew size sectors calls d u blob
    → Untouched more d (0 + (32 + u.number.0 % 32)) → ((x : ℕ) → x < sectors_in blob → Untouched more d (config_at size 0 + x)) → IsNew size sectors (calls ++ more) d u blob
new_more size sectors calls more d u blob new ring config = record {
  ring = subst (λ y. Stands y (uberblock_bytes u)) (sym (replay_more calls more d _ _)) (untouched_stands more d _ _ _ ring new.ring);
  config = λ x lt. subst (λ y. Stands y (sector_of x blob)) (sym (replay_more calls more d _ _)) (untouched_stands more d _ _ _ (config x lt) (new.config x lt));
}

new_leaves : (head_of : List ℕ → Option Head) (size : ℕ) (sectors : ℕ → Sector) (u : Uberblock) (blob config : List ℕ) (calls : List Noted) (d : ℕ)
    → IsNew size sectors calls d u blob → IsRecord head_of u blob config
    → (image : ℕ → List ℕ) → AreUnhurt size (λ s. replay calls d s (sectors s)) → IsImage (λ s. replay calls d s (sectors s)) image
    → Leaves head_of size image u config
new_leaves head_of size sectors u blob config calls d new rec =
    leaves head_of size (λ s. replay calls d s (sectors s)) (u.number.0 % 32) 0 u blob config (omega arith) (omega arith)
    (subst (λ s. Stands (replay calls d s (sectors s)) (uberblock_bytes u)) (sym (new_place size u.number.0)) new.ring)
    new.config rec

take_past : {X : Type 0} (first second : List X) (k : ℕ) → length first ≤ k → take k (first ++ second) ≡ first ++ take (k - length first) second
take_past [] second k le = ap (λ n. take n second) (omega arith)
take_past (x ∷ first) second zero le = absurd (omega arith)
take_past (x ∷ first) second (suc k) le = ap (λ l. x ∷ l) (take_past first second k (omega arith) ∙ ap (λ n. first ++ take n second) (omega arith))

-- A member that stays for its third phase: before it the old record stands, from it on the new one.
stays : (head_of : List ℕ → Option Head) (size : ℕ → ℕ) (commit : Commit) (ms : List Member) (i : ℕ) (m : Member) (results : List Bool) (made : List Noted)
    (sectors : ℕ → Sector) (u : Uberblock) (config : List ℕ) (k : ℕ) → Scene head_of size commit ms i m → (old : HasRecord head_of (size m.dev) sectors commit.number.0 u config)
    → (r : IsRound size commit ms results made) → slice_get r.in_second i ≡ Some true
    → LeavesOne head_of (size m.dev) (λ s. replay (take k made) m.dev s (sectors s)) (u, config) (uberblock_of commit m, config_of commit)
stays head_of size commit ms i m results made sectors u config k sc old r on image =
    let front = old_more (size m.dev) r.first r.second m.dev old.place old.label old.blob
    (first_keeps head_of size commit ms i m _ r.in_first r.first sectors u config sc old r.configs)
    (second_keeps head_of size commit ms i m r.in_first r.in_second r.second sectors u config sc old r.uberblocks) in
    let spared = third_spares_new head_of size commit ms i m r.in_second results r.third sc r.copies in
    let all : made ≡ (r.first ++ r.second) ++ r.third = r.all ∙ sym (append_assoc r.first r.second r.third) in
    let P : List Noted → Type 0 = λ calls. AreUnhurt (size m.dev) (λ s. replay calls m.dev s (sectors s)) → IsImage (λ s. replay calls m.dev s (sectors s)) image
    → Leaves head_of (size m.dev) image u config ⊎ Leaves head_of (size m.dev) image (uberblock_of commit m) (config_of commit) in
    subst (λ calls. P (take k calls)) (sym all)
    (⊎_elim {A = k < length (r.first ++ r.second)} {B = length (r.first ++ r.second) ≤ k}
    (λ lt. subst P (sym (take-append-le k (r.first ++ r.second) r.third (omega arith)))
    (λ unhurt is. inl (old_leaves head_of (size m.dev) commit.number.0 sectors u config (take k (r.first ++ r.second)) m.dev old
    (old_front (size m.dev) (r.first ++ r.second) m.dev old.place old.label old.blob k front) image unhurt is)))
    (λ le. subst P (sym (take_past (r.first ++ r.second) r.third k le))
    (λ unhurt is. inr (new_leaves head_of (size m.dev) sectors (uberblock_of commit m) commit.blob (config_of commit) _ m.dev
    (new_more (size m.dev) sectors (r.first ++ r.second) (take (k - length (r.first ++ r.second)) r.third) m.dev (uberblock_of commit m) commit.blob
    (brings_new head_of size commit ms i m results made sectors sc r on)
    (untouched_front r.third _ m.dev _ spared.0) (λ x lt. untouched_front r.third _ m.dev _ (spared.1 x lt))) sc.new image unhurt is)))
    (cases_lt k (length (r.first ++ r.second))))

-- A member that left before its third phase keeps the old record throughout.
left : (head_of : List ℕ → Option Head) (size : ℕ → ℕ) (commit : Commit) (ms : List Member) (i : ℕ) (m : Member) (results : List Bool) (made : List Noted)
    (sectors : ℕ → Sector) (u : Uberblock) (config : List ℕ) (k : ℕ) → Scene head_of size commit ms i m → (old : HasRecord head_of (size m.dev) sectors commit.number.0 u config)
    → (r : IsRound size commit ms results made) → slice_get r.in_second i ≡ Some false
    → LeavesOne head_of (size m.dev) (λ s. replay (take k made) m.dev s (sectors s)) (u, config) (uberblock_of commit m, config_of commit)
left head_of size commit ms i m results made sectors u config k sc old r off image unhurt is =
    let all = old_more (size m.dev) r.first (r.second ++ r.third) m.dev old.place old.label old.blob
    (first_keeps head_of size commit ms i m _ r.in_first r.first sectors u config sc old r.configs)
    (old_more (size m.dev) r.second r.third m.dev old.place old.label old.blob
    (second_keeps head_of size commit ms i m r.in_first r.in_second r.second sectors u config sc old r.uberblocks)
    (third_keeps head_of size commit ms i m r.in_second results r.third sectors u config sc old off r.copies)) in
    let whole = subst (λ calls. IsOld (size m.dev) calls m.dev old.place old.label old.blob) (sym r.all) all in
    inl (old_leaves head_of (size m.dev) commit.number.0 sectors u config (take k made) m.dev old
    (old_front (size m.dev) made m.dev old.place old.label old.blob k whole) image unhurt is)

-- The old record or the new one, at each moment of a round.
pub round_leaves : (head_of : List ℕ → Option Head) (size : ℕ → ℕ) (commit : Commit) (ms : List Member) (results : List Bool) (made : List Noted)
    → AreSeated size ms → AreApart ms → IsRound size commit ms results made
    → (i : ℕ) (m : Member) → slice_get ms i ≡ Some m → IsRecord head_of (uberblock_of commit m) commit.blob (config_of commit)
    → (sectors : Sectors) (u : Uberblock) (config : List ℕ) → HasRecord head_of (size m.dev) (sectors m.dev) commit.number.0 u config
    → (k : ℕ) → LeavesOne head_of (size m.dev) (run (take k made) sectors m.dev) (u, config) (uberblock_of commit m, config_of commit)
round_leaves head_of size commit ms results made seated apart r i m at new sectors u config old k =
    let sc : Scene head_of size commit ms i m = record { seated = seated; apart = apart; at = at; new = new; few = new.most } in
    let c = phase_result (second_plan size commit) ms r.in_first r.in_second r.second i m at r.uberblocks in
    by_result c.0 c.1
  where
    by_result : (b : Bool) → slice_get r.in_second i ≡ Some b
        → LeavesOne head_of (size m.dev) (run (take k made) sectors m.dev) (u, config) (uberblock_of commit m, config_of commit)
    by_result true on = stays head_of size commit ms i m results made (sectors m.dev) u config k (record { seated = seated; apart = apart; at = at; new = new; few = new.most }) old r on
    by_result false off = left head_of size commit ms i m results made (sectors m.dev) u config k (record { seated = seated; apart = apart; at = at; new = new; few = new.most }) old r off

-- A member that ends a round has the new record, as a further round needs it.
pub round_ends : (head_of : List ℕ → Option Head) (size : ℕ → ℕ) (commit : Commit) (ms : List Member) (results : List Bool) (made : List Noted)
    → AreSeated size ms → AreApart ms → IsRound size commit ms results made
    → (i : ℕ) (m : Member) → slice_get ms i ≡ Some m → slice_get results i ≡ Some true → IsRecord head_of (uberblock_of commit m) commit.blob (config_of commit)
    → (sectors : Sectors) (next : ℕ) → slot_of commit.number.0 ≢ slot_of next
    → HasRecord head_of (size m.dev) (run made sectors m.dev) next (uberblock_of commit m) (config_of commit)
round_ends head_of size commit ms results made seated apart r i m at done new sectors next other =
    let sc : Scene head_of size commit ms i m = record { seated = seated; apart = apart; at = at; new = new; few = new.most } in
    let on = phase_was (third_plan size commit) ms r.in_second results r.third i done r.copies in
    let spared = third_spares_new head_of size commit ms i m r.in_second results r.third sc r.copies in
    let stands = new_more (size m.dev) (sectors m.dev) (r.first ++ r.second) r.third m.dev (uberblock_of commit m) commit.blob
    (brings_new head_of size commit ms i m results made (sectors m.dev) sc r on) spared.0 spared.1 in
    let all : made ≡ (r.first ++ r.second) ++ r.third = r.all ∙ sym (append_assoc r.first r.second r.third) in
    let small : commit.number.0 % 32 < 32 = omega arith in
    let same : (commit.number.0 % 32) % 32 ≡ commit.number.0 % 32 = omega arith in
    record {
      place = commit.number.0 % 32;
      inside = omega arith;
      other_slot = λ e. other (sym same ∙ e);
      uberblock = subst (λ s. Stands (run made sectors m.dev s) (uberblock_bytes (uberblock_of commit m))) (sym (new_place (size m.dev) commit.number.0))
          (subst (λ calls. Stands (replay calls m.dev (0 + (32 + commit.number.0 % 32)) (sectors m.dev (0 + (32 + commit.number.0 % 32)))) (uberblock_bytes (uberblock_of commit m))) (sym all) stands.ring);
      label = 1;
      odd = inl refl;
      blob = commit.blob;
      stands = λ x lt. subst (λ calls. Stands (replay calls m.dev (68 + x) (sectors m.dev (68 + x))) (sector_of x commit.blob)) (sym all)
          (subst (λ y. Stands y (sector_of x commit.blob)) (sym (replay_more (r.first ++ r.second) r.third m.dev _ _))
          (phase_lands (third_plan size commit) ms r.in_second results r.third i m m.dev _ _ _ at done
          (λ j n e ne. config_elsewhere_odd n.dev (size n.dev) commit.blob m.dev _ (others ms i j m n apart at e ne))
          (λ mine y part. odd_lands m.dev (size m.dev) commit.blob x mine y (big_of sc) sc.few lt part) r.copies));
      is_record = new;
    }
