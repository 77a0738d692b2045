-- Sectors found by going through the list of calls.
use Rattle.std.proofs.Common.{◌≡◌, ℕ, ◌+◌, ◌<◌, ◌≤◌, true, ◌&&◌, List, [], ◌∷◌, map, Some, refl, sym, ap, ◌∙◌, arith, subst}
use Rattle.std.proofs.lemmas.Bool.Decides.{nat_tests}
use Rattle.std.specs.Prelude.{nat_lt, slice_get}
use Rattle.bank_core.specs.declared.call.Damage.{Damage}
use Rattle.bank_core.specs.declared.call.MemCall.{MemCall}
use Rattle.bank_core.specs.declared.device.MemDevice.{MemDevice}
use Rattle.bank_core.specs.Disk.{Sector, effect, hurt, replay}
use Rattle.bank_core.specs.Memory.{noted_in, noted_alone, call_of, is_damaged, size_in, sectors_of, found_in, sector_then, first_sector, story_in}
use Rattle.bank_core.specs.View.{ShowsClean}

-- inside a device all damage counts
pub replay_inside : (size : ℕ → ℕ) (calls : List MemCall) (d s : ℕ) (x : Sector) → nat_lt s (size d) ≡ true
    → replay (map (noted_in size) calls) d s x ≡ replay (map noted_alone calls) d s x
replay_inside size [] d s x inside = refl
replay_inside size (call ∷ calls) d s x inside =
    replay_inside size calls d s _ inside
    ∙ ap (λ counts. replay (map noted_alone calls) d s (effect (call_of call) d s (hurt (counts && is_damaged call.damage.items d s) x))) inside

pub is_lower : (s n : ℕ) → s < n → nat_lt s n ≡ true
is_lower s n lt = grind (arith, nat_tests)

pub found_inside : (devices : List MemDevice) (calls : List MemCall) (damages : List Damage) (device : MemDevice) (d s : ℕ)
    → slice_get devices d ≡ Some device → s < device.sectors → found_in devices calls damages d s ≡ sector_then device calls damages d s
found_inside devices calls damages device d s is lt =
    let inside : nat_lt s (size_in devices d) ≡ true = is_lower s (size_in devices d) (subst (λ o. s < sectors_of o) (sym is) lt) in
    ap (λ counts. hurt (counts && is_damaged damages d s) (replay (story_in devices calls).calls d s (first_sector (slice_get devices d) d s))) inside
    ∙ ap (hurt (is_damaged damages d s)) (replay_inside (size_in devices) calls d s _ inside
    ∙ ap (λ o. replay (map noted_alone calls) d s (first_sector o d s)) is)

-- what a buffer shows may be said of equal sectors
pub clean_as : (one other : ℕ → Sector) (n : ℕ) (bytes : List ℕ) → ((i : ℕ) → i < n → one i ≡ other i) → ShowsClean other n bytes → ShowsClean one n bytes
clean_as one other n bytes same shows = λ i lt. rw (same i lt) (shows i lt)

pub shown_inside : (devices : List MemDevice) (calls calls' : List MemCall) (damages : List Damage) (device : MemDevice) (d at n : ℕ) (bytes : List ℕ)
    → calls' ≡ calls → slice_get devices d ≡ Some device → at + n ≤ size_in devices d
    → ShowsClean (λ i. sector_then device calls' damages d (at + i)) n bytes → ShowsClean (λ i. found_in devices calls damages d (at + i)) n bytes
shown_inside devices calls calls' damages device d at n bytes same is inside shows =
    let most : at + n ≤ device.sectors = subst (λ o. at + n ≤ sectors_of o) is inside in
    clean_as (λ i. found_in devices calls damages d (at + i)) (λ i. sector_then device calls damages d (at + i)) n bytes
    (λ i lt. found_inside devices calls damages device d (at + i) is (omega arith))
    (subst (λ list. ShowsClean (λ i. sector_then device list damages d (at + i)) n bytes) same shows)
