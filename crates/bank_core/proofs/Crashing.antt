-- What a crash leaves of the devices in memory.
use mathlib.Core.Path.{fun_ext}
use Rattle.std.proofs.Common.{◌≡◌, ℕ, zero, suc, ◌+◌, ◌*◌, ◌<◌, ◌≤◌, ◌==◌, ◌&&◌, ◌||◌, Bool, true, false, cond, List, [], ◌∷◌, ◌++◌, length, take, map, Option, Some, None, refl, sym, ap, ◌∙◌, arith, subst, ⊎_elim, below_more, get_or}
use Rattle.std.specs.Prelude.{nat_lt, nat_le, slice_get, is_none}
use Rattle.std.specs.List.{list_all}
use Rattle.std.proofs.lemmas.Bool.{cases_lt}
use Rattle.std.proofs.lemmas.Bool.Decides.{nat_tests}
use Rattle.std.proofs.lemmas.List.{take_at, take-map, map-append, map_more}
use Rattle.std.proofs.lemmas.Option.{slice_get_past}
use Rattle.bank_core.specs.declared.call.CallKind.{CallKind}
use Rattle.bank_core.specs.declared.call.CallKind.TheVariants as kind
use Rattle.bank_core.specs.declared.call.Damage.{Damage}
use Rattle.bank_core.specs.declared.call.MemCall.{MemCall}
use Rattle.bank_core.specs.declared.device.MemDevice.{MemDevice}
use Rattle.bank_core.specs.declared.moment.ImageChoice.{ImageChoice}
use Rattle.bank_core.specs.declared.view.View.{View}
use Rattle.bank_core.specs.Disk.{Sector, sector_size, Nothing, IsClean, after_call, after_flush, covers, effect, hurt, replay, sectors_in, sector_of}
use Rattle.bank_core.specs.Image.{IsChosen, ShowsChosen}
use Rattle.bank_core.specs.Left.{AreLeft, IsLeft}
use Rattle.bank_core.specs.Memory.{call_as, call_of, first_sector, is_damaged, is_inside, noted_alone, noted_in, sector_then, sectors_of, size_in, story_in, zero_sector, image_sector, clean_sector, names_in}
use Rattle.bank_core.specs.Story.{Story, IsCrashed, at_moment}
use Rattle.bank_core.specs.View.{ShowsClean, view_of}
use Rattle.bank_core.proofs.Adding.{get_front, get_last}
use Rattle.bank_core.proofs.Names.{has_place}
use Rattle.bank_core.proofs.Finding.{replay_inside, is_lower}

-- one more sector, damaged or not
lower : (s n : ℕ) → s < n → (nat_lt s n ≡ true) × ((s == n) ≡ false) × (nat_lt s (n + 1) ≡ true)
lower s n lt = (grind (arith, nat_tests), grind (arith, nat_tests), grind (arith, nat_tests))

higher : (s n : ℕ) → n < s → (nat_lt s n ≡ false) × ((s == n) ≡ false) × (nat_lt s (n + 1) ≡ false)
higher s n lt = (grind (arith, nat_tests), grind (arith, nat_tests), grind (arith, nat_tests))

level : (n : ℕ) → (nat_lt n n ≡ false) × ((n == n) ≡ true) × (nat_lt n (n + 1) ≡ true)
level n = (grind (arith, nat_tests), grind (arith, nat_tests), grind (arith, nat_tests))

or_false : (b : Bool) → (b || false) ≡ b
or_false true = refl
or_false false = refl

and_false : (b : Bool) → (b && false) ≡ false
and_false true = refl
and_false false = refl

and_true : (b : Bool) → (b && true) ≡ b
and_true true = refl
and_true false = refl

damage_at : (damaged : ℕ → Bool) (n s : ℕ) → ((nat_lt s n && damaged s) || (damaged n && (s == n))) ≡ (nat_lt s (n + 1) && damaged s)
damage_at damaged n s =
    ⊎_elim {A = s < n} {B = n ≤ s}
    (λ lt. let t = lower s n lt in rw (t.0, t.1, t.2, and_false (damaged n)) (or_false (damaged s)))
    (λ le. ⊎_elim {A = n < s} {B = s ≤ n}
    (λ lt. let t = higher s n lt in rw (t.0, t.1, t.2) (and_false (damaged n)))
    (λ ge. let same : n ≡ s = omega arith in
    subst (λ k. ((nat_lt k n && damaged k) || (damaged n && (k == n))) ≡ (nat_lt k (n + 1) && damaged k)) same
    (let t = level n in rw (t.0, t.1, t.2) (and_true (damaged n))))
    (cases_lt n s))
    (cases_lt s n)

pub damage_more : (sectors : ℕ → Sector) (old new : ℕ → Bool) (n : ℕ) (view : View)
    → ((s : ℕ) → old s ≡ (nat_lt s n && (sectors s).damaged)) → view_of view ≡ sectors n
    → ((s : ℕ) → new s ≡ (old s || (view.damaged && (s == n)))) → (s : ℕ) → new s ≡ (nat_lt s (n + 1) && (sectors s).damaged)
damage_more sectors old new n view before is more s =
    more s ∙ ap (λ first. first || (view.damaged && (s == n))) (before s)
    ∙ ap (λ b. (nat_lt s n && (sectors s).damaged) || (b && (s == n))) (ap (λ x. x.damaged) is)
    ∙ damage_at (λ k. (sectors k).damaged) n s

pub damage_all : (sectors : ℕ → Sector) (all : ℕ → Bool) (n m : ℕ) → n ≡ m
    → ((s : ℕ) → all s ≡ (nat_lt s n && (sectors s).damaged)) → (s : ℕ) → s < m → all s ≡ (sectors s).damaged
damage_all sectors all n m e before s lt =
    before s ∙ ap (λ b. b && (sectors s).damaged) (is_lower s n (subst (λ k. s < k) (sym e) lt))

-- A sector inside its device, at a moment.
unhurt : (x : Sector) → hurt false x ≡ x
unhurt x = refl

pub moment_inside : (devices : List MemDevice) (calls : List MemCall) (device : MemDevice) (d s k : ℕ)
    → slice_get devices d ≡ Some device → s < device.sectors
    → at_moment (story_in devices calls) k d s ≡ sector_then device (take k calls) [] d s
moment_inside devices calls device d s k is lt =
    let inside : nat_lt s (size_in devices d) ≡ true = is_lower s (size_in devices d) (subst (λ o. s < sectors_of o) (sym is) lt) in
    ap (λ list. replay list d s (first_sector (slice_get devices d) d s)) (take-map (noted_in (size_in devices)) k calls)
    ∙ replay_inside (size_in devices) (take k calls) d s _ inside
    ∙ ap (λ o. replay (map noted_alone (take k calls)) d s (first_sector o d s)) is

story_is : (tells : Bool) (one story : Story) → cond tells (Some one) None ≡ Some story → one ≡ story
story_is true one story e = cc
story_is false one story e = cc

-- What a buffer shows of each sector behind a front of the calls, it shows of the sectors at that moment.
pub shown_at_moment : (P : Sector → List ℕ → Type 0) (devices : List MemDevice) (calls calls' : List MemCall) (device : MemDevice)
    (d at k n : ℕ) (bytes : List ℕ) (tells : Bool) (story : Story)
    → calls' ≡ take k calls → slice_get devices d ≡ Some device → at + n ≤ size_in devices d
    → ((i : ℕ) → i < n → P (sector_then device calls' [] d (at + i)) (sector_of i bytes))
    → cond tells (Some (story_in devices calls)) None ≡ Some story
    → (i : ℕ) → i < n → P (at_moment story k d (at + i)) (sector_of i bytes)
shown_at_moment P devices calls calls' device d at k n bytes tells story front is inside shows told =
    let most : at + n ≤ device.sectors = subst (λ o. at + n ≤ sectors_of o) is inside in
    subst (λ s. (i : ℕ) → i < n → P (at_moment s k d (at + i)) (sector_of i bytes)) (story_is tells (story_in devices calls) story told)
    (λ i lt. subst (λ x. P x (sector_of i bytes)) (sym (moment_inside devices calls device d (at + i) k is (omega arith)))
    (subst (λ list. P (sector_then device list [] d (at + i)) (sector_of i bytes)) front (shows i lt)))

-- Beyond the end of its device a sector never changes, since each call lies inside.
misses_if : (t : Bool) (dev d at n s : ℕ) → (dev == d) ≡ t → (dev ≡ d → at + n ≤ s) → ((dev == d) && covers at n s) ≡ false
misses_if true dev d at n s e low = let same : dev ≡ d = grind (arith, nat_tests) in let le : at + n ≤ s = low same in grind (arith, nat_tests)
misses_if false dev d at n s e low = rw e refl

cond_none : (b : Bool) (y x : Sector) → b ≡ false → cond b y x ≡ x
cond_none b y x e = rw e refl

cond_same : (b : Bool) (x y : Sector) → y ≡ x → cond b y x ≡ x
cond_same true x y e = e
cond_same false x y e = refl

still_flush : (x : Sector) → x.pending ≡ Nothing → after_flush x.pending x ≡ x
still_flush x e = ap (λ pending. after_flush pending x) e

call_beyond : (k : CallKind) (call : MemCall) (d s : ℕ) (x : Sector) → (call.dev ≡ d → call.at + sectors_in call.bytes.items ≤ s) → x.pending ≡ Nothing
    → effect (call_as k call.dev call.at call.bytes.items call.fault) d s x ≡ x
call_beyond kind.Read call d s x low still = refl
call_beyond kind.Write call d s x low still = cond_none _ _ x (misses_if _ call.dev d call.at (sectors_in call.bytes.items) s refl low)
call_beyond kind.Flush call d s x low still = cond_same ((call.dev == d) && is_none call.fault) x _ (still_flush x still)

higher_is_not_lower : (s n : ℕ) → n ≤ s → nat_lt s n ≡ false
higher_is_not_lower s n le = grind (arith, nat_tests)

le_by_test : (m n : ℕ) → nat_le m n ≡ true → m ≤ n
le_by_test m n e = grind (arith, nat_tests)

one_beyond : (size : ℕ → ℕ) (call : MemCall) (d s : ℕ) (x : Sector) → is_inside size call ≡ true → size d ≤ s → x.pending ≡ Nothing
    → after_call (noted_in size call) d s x ≡ x
one_beyond size call d s x inside past still =
    let fits : call.at + sectors_in call.bytes.items ≤ size call.dev = le_by_test _ _ inside in
    let low : call.dev ≡ d → call.at + sectors_in call.bytes.items ≤ s = λ e. let past' : size call.dev ≤ s = subst (λ n. size n ≤ s) (sym e) past in omega arith in
    ap (λ counts. effect (call_of call) d s (hurt (counts && is_damaged call.damage.items d s) x)) (higher_is_not_lower s (size d) past)
    ∙ call_beyond call.kind call d s x low still

both_true : (a b : Bool) → (a && b) ≡ true → (a ≡ true) × (b ≡ true)
both_true true b e = (refl, e)
both_true false b e = cc

replay_beyond : (size : ℕ → ℕ) (calls : List MemCall) (d s : ℕ) (x : Sector) → list_all (is_inside size) calls ≡ true → size d ≤ s → x.pending ≡ Nothing
    → replay (map (noted_in size) calls) d s x ≡ x
replay_beyond size [] d s x inside past still = refl
replay_beyond size (call ∷ calls) d s x inside past still =
    let both = both_true (is_inside size call) (list_all (is_inside size) calls) inside in
    let one = one_beyond size call d s x both.0 past still in
    ap (replay (map (noted_in size) calls) d s) one ∙ replay_beyond size calls d s x both.1 past still

front_inside : (size : ℕ → ℕ) (k : ℕ) (calls : List MemCall) → list_all (is_inside size) calls ≡ true → list_all (is_inside size) (take k calls) ≡ true
front_inside size zero calls inside = refl
front_inside size (suc k) [] inside = refl
front_inside size (suc k) (call ∷ calls) inside =
    let both = both_true (is_inside size call) (list_all (is_inside size) calls) inside in
    rw (both.0) (front_inside size k calls both.1)

still_first : (o : Option MemDevice) (d s : ℕ) → (first_sector o d s).pending ≡ Nothing
still_first None d s = refl
still_first (Some device) d s = refl

moment_beyond : (devices : List MemDevice) (calls : List MemCall) (k d s : ℕ) → list_all (is_inside (size_in devices)) calls ≡ true → size_in devices d ≤ s
    → at_moment (story_in devices calls) k d s ≡ first_sector (slice_get devices d) d s
moment_beyond devices calls k d s inside past =
    ap (λ list. replay list d s (first_sector (slice_get devices d) d s)) (take-map (noted_in (size_in devices)) k calls)
    ∙ replay_beyond (size_in devices) (take k calls) d s _ (front_inside (size_in devices) k calls inside) past (still_first (slice_get devices d) d s)

-- How a device that is used again shows a sector of an earlier moment: it is as damaged, and where the
-- sector was clean, it holds the same.
Agrees : Sector → Sector → Type 0
Agrees now then = (now.damaged ≡ then.damaged) × (IsClean then → now.stable ≡ then.stable)

agrees_by : (now now' then then' : Sector) → now ≡ now' → then ≡ then' → Agrees now' then' → Agrees now then
unfolding Agrees
agrees_by now now' then then' a b agrees = rw (a, b) agrees

alike_agree : (now then : Sector) → now ≡ then → Agrees now then
unfolding Agrees
alike_agree now then e = (ap (λ x. x.damaged) e, λ clean. ap (λ x. x.stable) e)

image_past : (sectors : ℕ) (first : List ℕ) (damages : List Damage) (d s : ℕ) → sectors ≤ s → image_sector sectors first damages d s ≡ clean_sector zero_sector
image_past sectors first damages d s past =
    ap (λ t. record { stable = cond (t && nat_lt s (sectors_in first)) (sector_of s first) zero_sector; pending = Nothing; damaged = t && is_damaged damages d s })
    (higher_is_not_lower s sectors past)

image_within : (sectors : ℕ) (first : List ℕ) (damages : List Damage) (d s : ℕ) → s < sectors → s < sectors_in first
    → image_sector sectors first damages d s ≡ record { stable = sector_of s first; pending = Nothing; damaged = is_damaged damages d s }
image_within sectors first damages d s low filled =
    ap (λ t. record { stable = cond (t && nat_lt s (sectors_in first)) (sector_of s first) zero_sector; pending = Nothing; damaged = t && is_damaged damages d s })
    (is_lower s sectors low)
    ∙ ap (λ t. record { stable = cond t (sector_of s first) zero_sector; pending = Nothing; damaged = is_damaged damages d s })
    (is_lower s (sectors_in first) filled)

left_within : (how : ImageChoice) (devices : List MemDevice) (calls : List MemCall) (k d s : ℕ) (device x : MemDevice)
    → slice_get devices d ≡ Some device → IsLeft how (sector_then device (take k calls) [] d) d device.sectors x → s < device.sectors
    → Agrees (first_sector (Some x) d s) (at_moment (story_in devices calls) k d s)
unfolding Agrees
left_within how devices calls k d s device x is left lt =
    let low : s < x.sectors = subst (λ n. s < n) (sym left.size) lt in
    let filled : s < sectors_in x.first.items = subst (λ n. s < n) (sym left.filled) lt in
    agrees_by _ _ _ _ (image_within x.sectors x.first.items x.damage.items d s low filled) (moment_inside devices calls device d s k is lt)
    (left.damaged s lt, left.image s lt)

left_beyond : (devices : List MemDevice) (calls : List MemCall) (k d s : ℕ) (device x : MemDevice)
    → list_all (is_inside (size_in devices)) calls ≡ true → slice_get devices d ≡ Some device → x.sectors ≡ device.sectors → device.sectors ≤ s
    → Agrees (first_sector (Some x) d s) (at_moment (story_in devices calls) k d s)
left_beyond devices calls k d s device x inside is size past =
    let past' : x.sectors ≤ s = subst (λ n. n ≤ s) (sym size) past in
    let end : size_in devices d ≤ s = subst (λ o. sectors_of o ≤ s) (sym is) past in
    alike_agree _ _ (image_past x.sectors x.first.items x.damage.items d s past'
    ∙ sym (moment_beyond devices calls k d s inside end ∙ ap (λ o. first_sector o d s) is ∙ image_past device.sectors device.first.items device.damage.items d s past))

left_none_there : (devices : List MemDevice) (calls : List MemCall) (left : List MemDevice) (k d s : ℕ)
    → list_all (is_inside (size_in devices)) calls ≡ true → slice_get devices d ≡ None → slice_get left d ≡ None
    → Agrees (first_sector (slice_get left d) d s) (at_moment (story_in devices calls) k d s)
left_none_there devices calls left k d s inside is none =
    let end : size_in devices d ≤ s = subst (λ o. sectors_of o ≤ s) (sym is) (omega arith) in
    alike_agree _ _ (ap (λ o. first_sector o d s) none ∙ sym (moment_beyond devices calls k d s inside end ∙ ap (λ o. first_sector o d s) is))

left_there : (how : ImageChoice) (devices : List MemDevice) (calls : List MemCall) (k d s : ℕ) (device x : MemDevice)
    → list_all (is_inside (size_in devices)) calls ≡ true → slice_get devices d ≡ Some device → IsLeft how (sector_then device (take k calls) [] d) d device.sectors x
    → Agrees (first_sector (Some x) d s) (at_moment (story_in devices calls) k d s)
left_there how devices calls k d s device x inside is left =
    ⊎_elim {A = s < device.sectors} {B = device.sectors ≤ s}
    (left_within how devices calls k d s device x is left)
    (left_beyond devices calls k d s device x inside is left.size)
    (cases_lt s device.sectors)

left_agrees : (how : ImageChoice) (devices : List MemDevice) (calls : List MemCall) (left : List MemDevice) (k : ℕ)
    → list_all (is_inside (size_in devices)) calls ≡ true → length left ≡ length devices → AreLeft how devices (take k calls) left (length devices)
    → (d s : ℕ) → Agrees (first_sector (slice_get left d) d s) (at_moment (story_in devices calls) k d s)
left_agrees how devices calls left k inside count are d s =
    ⊎_elim {A = d < length devices} {B = length devices ≤ d}
    (λ lt. let found = are d lt in
    agrees_by _ _ _ _ (ap (λ o. first_sector o d s) found.3) refl (left_there how devices calls k d s found.0 found.1 inside found.2 found.4))
    (λ past. left_none_there devices calls left k d s inside (slice_get_past devices d past) (slice_get_past left d (subst (λ n. n ≤ d) (sym count) past)))
    (cases_lt d (length devices))

as_again : (x : Sector) (damaged : Bool) → x.pending ≡ Nothing → x.damaged ≡ damaged → x ≡ record { stable = x.stable; pending = Nothing; damaged = damaged }
as_again x damaged still same =
    ap (λ pending. record { stable = x.stable; pending = pending; damaged = x.damaged }) still
    ∙ ap (λ b. record { stable = x.stable; pending = Nothing; damaged = b }) same

begins_again : (devices : List MemDevice) (calls : List MemCall) (left : List MemDevice) (k : ℕ)
    → ((d s : ℕ) → Agrees (first_sector (slice_get left d) d s) (at_moment (story_in devices calls) k d s))
    → IsCrashed (story_in devices calls) k (Some (story_in left []))
unfolding Agrees
begins_again devices calls left k agrees = record {
  images = λ d s. (first_sector (slice_get left d) d s).stable;
  are = λ d s. (agrees d s).1;
  told = ap (λ start. Some (record { start = start; calls = [] }))
      (fun_ext (λ d. fun_ext (λ s. as_again (first_sector (slice_get left d) d s) _ (still_first (slice_get left d) d s) (agrees d s).0)));
}

-- The bank of what is left tells a story that goes on from the crash.
pub is_crashed : (how : ImageChoice) (devices : List MemDevice) (calls : List MemCall) (left : List MemDevice) (k : ℕ) (tells : Bool) (story : Story) (new : Option Story)
    → list_all (is_inside (size_in devices)) calls ≡ true → length left ≡ length devices → AreLeft how devices (take k calls) left (length devices)
    → new ≡ Some (story_in left []) → cond tells (Some (story_in devices calls)) None ≡ Some story → IsCrashed story k new
is_crashed how devices calls left k tells story new inside count are e told =
    rw e (subst (λ s. IsCrashed s k (Some (story_in left []))) (story_is tells (story_in devices calls) story told)
    (begins_again devices calls left k (left_agrees how devices calls left k inside count are)))

pub same_sizes : (how : ImageChoice) (devices : List MemDevice) (calls : List MemCall) (left : List MemDevice)
    → length left ≡ length devices → AreLeft how devices calls left (length devices) → (d : ℕ) → size_in left d ≡ size_in devices d
same_sizes how devices calls left count are d =
    ⊎_elim {A = d < length devices} {B = length devices ≤ d}
    (λ lt. let found = are d lt in ap sectors_of found.3 ∙ found.4.size ∙ sym (ap sectors_of found.2))
    (λ past. ap sectors_of (slice_get_past left d (subst (λ n. n ≤ d) (sym count) past)) ∙ sym (ap sectors_of (slice_get_past devices d past)))
    (cases_lt d (length devices))

-- One more device is left.
pub left_none : (how : ImageChoice) (devices : List MemDevice) (calls : List MemCall) (left : List MemDevice) → AreLeft how devices calls left 0
left_none how devices calls left = λ k lt. absurd (omega arith)

pub left_more : (how : ImageChoice) (devices : List MemDevice) (calls : List MemCall) (left left' : List MemDevice) (device x : MemDevice) (i : ℕ)
    → left' ≡ left ++ x ∷ [] → length left ≡ i → slice_get devices i ≡ Some device
    → AreLeft how devices calls left i → IsLeft how (sector_then device calls [] i) i device.sectors x → AreLeft how devices calls left' (i + 1)
left_more how devices calls left left' device x i grown count is before one =
    below_more (λ k. (device : MemDevice) × (y : MemDevice) × (slice_get devices k ≡ Some device) × (slice_get left' k ≡ Some y)
    × IsLeft how (sector_then device calls [] k) k device.sectors y) i
    (λ k lt. let found = before k lt in
    (found.0, found.1, found.2, ap (λ list. slice_get list k) grown ∙ get_front left x k (subst (λ n. k < n) (sym count) lt) ∙ found.3, found.4))
    (device, x, is, ap (λ list. slice_get list i) grown ∙ subst (λ n. slice_get (left ++ x ∷ []) n ≡ Some x) count (get_last left x), one)

pub names_more : (devices left left' : List MemDevice) (device x : MemDevice) (i : ℕ)
    → left' ≡ left ++ x ∷ [] → i < length devices → device ≡ get_or devices i device → x.name ≡ device.name
    → names_in left ≡ names_in (take i devices) → names_in left' ≡ names_in (take (i + 1) devices)
names_more devices left left' device x i grown lt is same before =
    ap names_in grown ∙ map-append (λ y. y.name) left (x ∷ [])
    ∙ ap (λ name. names_in left ++ name ∷ []) (same ∙ ap (λ y. y.name) is)
    ∙ ap (λ names. names ++ (get_or devices i device).name ∷ []) before
    ∙ sym (map_more (λ y. y.name) devices i device lt)

-- The bytes of a whole device, shown from its first sector on into a buffer of its length.
filled_is : (bytes : List ℕ) (n : ℕ) → length bytes ≡ n * 4096 → sectors_in bytes ≡ n
unfolding sector_size
filled_is bytes n e = omega arith

image_is : (at : ℕ → Sector) (n m : ℕ) (bytes : List ℕ) → n ≡ m → ShowsClean (λ i. at (0 + i)) n bytes
    → (s : ℕ) → s < m → IsClean (at s) → sector_of s bytes ≡ (at s).stable
image_is at n m bytes e shows s lt clean =
    let same : 0 + s ≡ s = omega arith in
    subst (λ j. sector_of s bytes ≡ (at j).stable) same (shows s (subst (λ k. s < k) (sym e) lt) (subst (λ j. IsClean (at j)) (sym same) clean))

chosen_is : (how : ImageChoice) (at : ℕ → Sector) (n m : ℕ) (bytes : List ℕ) → n ≡ m → ShowsChosen how (λ i. at (0 + i)) n bytes
    → (s : ℕ) → s < m → IsChosen how (at s) (sector_of s bytes)
chosen_is how at n m bytes e shows s lt =
    let same : 0 + s ≡ s = omega arith in
    subst (λ j. IsChosen how (at j) (sector_of s bytes)) same (shows s (subst (λ k. s < k) (sym e) lt))

pub bytes_left : (how : ImageChoice) (at : ℕ → Sector) (m len : ℕ) (out rest : List ℕ) → length out ≡ m * 4096 → len ≡ m * 4096
    → ShowsClean (λ i. at (0 + i)) (sectors_in out) out → ShowsChosen how (λ i. at (0 + i)) (sectors_in out) out
    → (sectors_in (take len (out ++ rest)) ≡ m) × ((s : ℕ) → s < m → IsClean (at s) → sector_of s (take len (out ++ rest)) ≡ (at s).stable)
    × ((s : ℕ) → s < m → IsChosen how (at s) (sector_of s (take len (out ++ rest))))
bytes_left how at m len out rest long n shows chosen =
    let whole : take len (out ++ rest) ≡ out = take_at out rest len (long ∙ sym n) in (
      ap sectors_in whole ∙ filled_is out m long,
      λ s lt clean. ap (sector_of s) whole ∙ image_is at (sectors_in out) m out (filled_is out m long) shows s lt clean,
      λ s lt. subst (λ bytes. IsChosen how (at s) (sector_of s bytes)) (sym whole) (chosen_is how at (sectors_in out) m out (filled_is out m long) chosen s lt),
    )

pub left_from : (how : ImageChoice) (devices devices' : List MemDevice) (calls calls' : List MemCall) (left left' : List MemDevice) (k : ℕ)
    → devices' ≡ devices → calls' ≡ calls → left' ≡ left
    → AreLeft how devices' (take k calls') left (length devices') → AreLeft how devices (take k calls) left' (length devices)
left_from how devices devices' calls calls' left left' k d c l are =
    subst (λ ds. AreLeft how ds (take k calls) left' (length ds)) d
    (subst (λ cs. AreLeft how devices' (take k cs) left' (length devices')) c (subst (λ x. AreLeft how devices' (take k calls') x (length devices')) (sym l) are))

-- What is stable on a device that is used again is what the choice names.
chosen_there : (how : ImageChoice) (devices : List MemDevice) (calls : List MemCall) (k d s : ℕ) (device x : MemDevice)
    → slice_get devices d ≡ Some device → IsLeft how (sector_then device (take k calls) [] d) d device.sectors x → s < device.sectors
    → IsChosen how (at_moment (story_in devices calls) k d s) (first_sector (Some x) d s).stable
chosen_there how devices calls k d s device x is left lt =
    let low : s < x.sectors = subst (λ n. s < n) (sym left.size) lt in
    let filled : s < sectors_in x.first.items = subst (λ n. s < n) (sym left.filled) lt in
    subst (λ then. IsChosen how then (first_sector (Some x) d s).stable) (sym (moment_inside devices calls device d s k is lt))
    (subst (λ now. IsChosen how (sector_then device (take k calls) [] d s) now.stable)
    (sym (image_within x.sectors x.first.items x.damage.items d s low filled)) (left.chosen s lt))

pub is_chosen : (how : ImageChoice) (devices : List MemDevice) (calls : List MemCall) (left : List MemDevice) (k : ℕ) (tells : Bool) (story begun : Story) (new : Option Story)
    → AreLeft how devices (take k calls) left (length devices) → new ≡ Some (story_in left [])
    → cond tells (Some (story_in devices calls)) None ≡ Some story → new ≡ Some begun
    → (d s : ℕ) → s < size_in devices d → IsChosen how (at_moment story k d s) (begun.start d s).stable
is_chosen how devices calls left k tells story begun new are e told told' d s lt =
    let found = are d (has_place devices d (omega arith)) in
    let low : s < found.0.sectors = subst (λ o. s < sectors_of o) found.2 lt in
    subst (λ first. IsChosen how (at_moment story k d s) (first.start d s).stable) (story_is true (story_in left []) begun (sym e ∙ told'))
    (subst (λ then. IsChosen how (at_moment then k d s) (first_sector (slice_get left d) d s).stable) (story_is tells (story_in devices calls) story told)
    (subst (λ o. IsChosen how (at_moment (story_in devices calls) k d s) (first_sector o d s).stable) (sym found.3)
    (chosen_there how devices calls k d s found.0 found.1 found.2 found.4 low)))
