-- Openings and searches over devices whose rings were cleared: what their own reads show of these.
use Rattle.std.proofs.Common.{◌≡◌, ℕ, zero, suc, ◌+◌, ◌-◌, ◌*◌, ◌/◌, ◌%◌, ◌^◌, ◌<◌, ◌≤◌, ◌==◌, ◌&&◌, Bool, true, false}
use Rattle.std.proofs.Common.{cond, List, [], ◌∷◌, ◌++◌, Option, Some, None, is_none, Ok, refl, sym, ap, ◌∙◌, subst}
use Rattle.std.proofs.Common.{inl, inr, arith}
use Rattle.std.specs.Prelude.{slice_get, slice_index}
use Rattle.std.proofs.lemmas.Option.{same_Some}
use Rattle.mp_base.specs.declared.number.Guid.{Guid}
use Rattle.bank_core.specs.declared.bank.Fault.{Fault}
use Rattle.bank_core.specs.Asks.{Ask, Reads, ask_of, asks_of}
use Rattle.bank_core.specs.Calls.{fault_of}
use Rattle.bank_core.specs.Disk.{Sector, Sectors, Pending, Nothing, Written, Failing, Call, Read, Write, Flush, Admit}
use Rattle.bank_core.specs.Disk.{Eject, Noted, sectors_in, sector_of, hurt, after_write, after_flush, effect, replay}
use Rattle.bank_core.specs.Disk.{run, as_found, Answers, AllAnswer}
use Rattle.bank_core.specs.Memory.{zero_sector}
use Rattle.bank_core.specs.Standing.{Stands, touches, Untouched, aims, Spares}
use Rattle.bank_core.proofs.Standing.{untouched_stands, untouched_more}
use Rattle.label_store.specs.declared.rule.Head.{Head}
use Rattle.label_store.specs.declared.uberblock.Uberblock.{Uberblock}
use Rattle.label_store.specs.Clearing.{IsBare, RingsHold, IsOffRings, WasRead, AreUnforged, ShowsOnly, stamp_sector}
use Rattle.label_store.specs.Identities.{HasIdentity, GivesIdentity, AreMisses, IsSearch, rings_of, first_fault, fault_or}
use Rattle.label_store.specs.Layout.{labels_of}
use Rattle.label_store.specs.Newest.{Parts, parts_of, given_by, look_asks, IsCandidate, IsLook}
use Rattle.label_store.specs.Records.{AreUnhurt, config_at}
use Rattle.label_store.proofs.Unfound.{none_looked, standing_held, zeros_identity, stamp_identity, only_identity, config_off}

-- ---- damage stays on a sector that nothing is put on

sound_before : (t was : Bool) → cond t true was ≡ false → was ≡ false
sound_before true was e = absurd (cc)
sound_before false was e = e

flush_sound : (t : Bool) (p : Pending) (x : Sector) → p ≡ Nothing → (cond t (after_flush p x) x).damaged ≡ false
    → x.damaged ≡ false
flush_sound true Nothing x still e = e
flush_sound true (Written bytes) x still e = absurd (cc)
flush_sound true (Failing bytes) x still e = absurd (cc)
flush_sound false p x still e = e

call_sound : (call : Call) (d s : ℕ) (x : Sector) → touches call d s ≡ false → x.pending ≡ Nothing
    → (effect call d s x).damaged ≡ false → x.damaged ≡ false
call_sound (Read dev at bytes fault) d s x off still e = e
call_sound (Write dev at bytes fault) d s x off still e =
    subst (λ t. (cond t (record { stable = x.stable; pending = after_write fault (sector_of (s - at) bytes); damaged = x.damaged }) x).damaged ≡ false) off e
call_sound (Flush dev fault) d s x off still e = flush_sound ((dev == d) && is_none fault) x.pending x still e
call_sound (Admit dev holds) d s x off still e = subst (λ t. (cond t (holds s) x).damaged ≡ false) off e
call_sound (Eject dev) d s x off still e = e

calls_sound : (made : List Noted) (d s : ℕ) (x : Sector) (b : List ℕ) → Untouched made d s → Stands x b
    → (replay made d s x).damaged ≡ false → x.damaged ≡ false
calls_sound [] d s x b off st e = e
calls_sound (noted ∷ made) d s x b off st e =
    let next = untouched_stands (noted ∷ []) d s x b (off.0, tt) st in
    sound_before (noted.damage d s) x.damaged
    (call_sound noted.call d s (hurt (noted.damage d s) x) off.0 st.still
    (calls_sound made d s _ b off.1 next e))

-- ---- what one of the calls read of it

-- a read shows what stands on a sector that is undamaged behind all calls
read_shows : (made : List Noted) (sectors : Sectors) (dev at slot : ℕ) (ring b : List ℕ) → Untouched made dev (at + slot)
    → Stands (sectors dev (at + slot)) b → AllAnswer sectors made → WasRead dev at ring made → slot < sectors_in ring
    → (run made sectors dev (at + slot)).damaged ≡ false → sector_of slot ring ≡ b
read_shows [] sectors dev at slot ring b off st answer was lt sound = absurd was
read_shows (noted ∷ made) sectors dev at slot ring b off st answer (inl is) lt sound =
    let shows = subst (Answers (as_found noted sectors)) is answer.0 in
    let next = untouched_stands (noted ∷ []) dev (at + slot) _ b (off.0, tt) st in
    shows.1 slot lt (record {
      still = st.still;
      sound = call_sound noted.call dev (at + slot) (hurt (noted.damage dev (at + slot)) (sectors dev (at + slot))) off.0 st.still
          (calls_sound made dev (at + slot) _ b off.1 next sound);
    }) ∙ st.stable
read_shows (noted ∷ made) sectors dev at slot ring b off st answer (inr more) lt sound =
    read_shows made (run (noted ∷ []) sectors) dev at slot ring b off.1
    (untouched_stands (noted ∷ []) dev (at + slot) _ b (off.0, tt) st) answer.1 more lt sound

-- So it does with a slot of a ring.
slot_read : (size : ℕ) (made : List Noted) (sectors : Sectors) (dev label slot : ℕ) (ring b : List ℕ)
    → ((s : ℕ) → Untouched made dev s) → Stands (sectors dev (slice_index (labels_of size) label + (32 + slot))) b
    → AllAnswer sectors made → WasRead dev (slice_index (labels_of size) label + 32) ring made → slot < sectors_in ring
    → (run made sectors dev (slice_index (labels_of size) label + (32 + slot))).damaged ≡ false → sector_of slot ring ≡ b
slot_read size made sectors dev label slot ring b off st answer was lt sound =
    let at : slice_index (labels_of size) label + (32 + slot) ≡ slice_index (labels_of size) label + 32 + slot = omega arith in
    read_shows made sectors dev (slice_index (labels_of size) label + 32) slot ring b (off _)
    (subst (λ s. Stands (sectors dev s) b) at st) answer was lt
    (subst (λ s. (run made sectors dev s).damaged ≡ false) at sound)

-- A ring that was read shows no uberblock but those that stand there.
only_read : (least dev size : ℕ) (made : List Noted) (sectors : Sectors) (bytes : ℕ → List ℕ) (label : ℕ) (ring : List ℕ)
    → label < 4 → RingsHold size (sectors dev) bytes → ((s : ℕ) → Untouched made dev s) → AllAnswer sectors made
    → AreUnforged least dev size sectors made → WasRead dev (slice_index (labels_of size) label + 32) ring made
    → sectors_in ring ≡ 32 → ShowsOnly least ring bytes
only_read least dev size made sectors bytes label ring few hold off answer unforged was long slot u inside is enough =
    by (run made sectors dev (slice_index (labels_of size) label + (32 + slot))).damaged refl
  where
    by : (t : Bool) → (run made sectors dev (slice_index (labels_of size) label + (32 + slot))).damaged ≡ t
        → sector_of slot ring ≡ bytes slot
    by true e =
        standing_held (sectors dev (slice_index (labels_of size) label + (32 + slot))) (bytes slot) (sector_of slot ring)
        (hold label slot few inside) (unforged label slot ring u few inside was e is enough)
    by false e =
        slot_read size made sectors dev label slot ring (bytes slot) off (hold label slot few inside) answer was
        (subst (λ n. slot < n) (sym long) inside) e

-- ---- the calls of a look

asked_off : (call : Call) (ask : Ask) (d s : ℕ) → ask_of call ≡ ask → aims ask d s ≡ false → touches call d s ≡ false
asked_off (Read dev at bytes fault) ask d s e f = refl
asked_off (Write dev at bytes fault) ask d s e f = ap (λ a. aims a d s) e ∙ f
asked_off (Flush dev fault) ask d s e f = refl
asked_off (Admit dev holds) ask d s e f = ap (λ a. aims a d s) e ∙ f
asked_off (Eject dev) ask d s e f = refl

asks_off : (made : List Noted) (asks : List Ask) (d s : ℕ) → asks_of made ≡ asks → Spares asks d s → Untouched made d s
asks_off [] asks d s e spare = tt
asks_off (noted ∷ made) [] d s e spare = absurd (cc)
asks_off (noted ∷ made) (ask ∷ asks) d s e spare =
    let parts = both (ask_of noted.call) ask (asks_of made) asks e in
    (asked_off noted.call ask d s parts.0 spare.0, asks_off made asks d s parts.1 spare.1)
  where
    both : (a b : Ask) (more others : List Ask) → a ∷ more ≡ b ∷ others → (a ≡ b) × (more ≡ others)
    both a b more others e = (cc, cc)

look_off : (size : ℕ → ℕ) (devs : List ℕ) (looks : List Parts) (made : List Noted) (d s : ℕ) → IsLook size devs looks made
    → Untouched made d s
look_off size [] [] made d s l = subst (λ calls. Untouched calls d s) (sym l) tt
look_off size [] (parts ∷ looks) made d s l = absurd l
look_off size (dev ∷ devs) [] made d s l = absurd l
look_off size (dev ∷ devs) (parts ∷ looks) made d s l =
    subst (λ calls. Untouched calls d s) (sym l.2)
    (untouched_more l.0 l.1 d s
    (asks_off l.0 (look_asks dev (size dev)) d s l.3
    (refl, (refl, (refl, (refl, (refl, (refl, (refl, (refl, tt)))))))))
    (look_off size devs looks l.1 d s l.5))

no_given : (part : List ℕ) → None ≡ Some part → ⊥
no_given part e = cc

-- the call that gave a part is a read that answered Ok
given_is : (call : Call) (part : List ℕ) (dev at n : ℕ) → given_by call ≡ Some part → ask_of call ≡ Reads dev at n
    → (call ≡ Read dev at part None) × (sectors_in part ≡ n)
given_is (Read dev' at' bytes None) part dev at n e ask =
    let b : bytes ≡ part = same_Some bytes part e in
    let same = asked dev' dev at' at (sectors_in bytes) n ask in
    (same_read dev' dev at' at bytes part same.0 same.1 b, ap sectors_in (sym b) ∙ same.2)
  where
    asked : (dev dev' at at' n n' : ℕ) → Reads dev at n ≡ Reads dev' at' n' → (dev ≡ dev') × (at ≡ at') × (n ≡ n')
    asked dev dev' at at' n n' e = (cc, cc, cc)

    same_read : (dev dev' at at' : ℕ) (bytes part : List ℕ) → dev ≡ dev' → at ≡ at' → bytes ≡ part
        → Read dev at bytes None ≡ Read dev' at' part None
    same_read dev dev' at at' bytes part a b c = cc
given_is (Read dev' at' bytes (Some fault)) part dev at n e ask = absurd (no_given part e)
given_is (Write dev' at' bytes fault) part dev at n e ask = absurd (no_given part e)
given_is (Flush dev' fault) part dev at n e ask = absurd (no_given part e)
given_is (Admit dev' holds) part dev at n e ask = absurd (no_given part e)
given_is (Eject dev') part dev at n e ask = absurd (no_given part e)

part_read : (made : List Noted) (k dev at n : ℕ) (part : List ℕ) → slice_get (asks_of made) k ≡ Some (Reads dev at n)
    → slice_get (parts_of made) k ≡ Some (Some part) → WasRead dev at part made × (sectors_in part ≡ n)
part_read [] k dev at n part ask got = absurd (cc)
part_read (noted ∷ made) zero dev at n part ask got =
    let is = given_is noted.call part dev at n (same_Some (given_by noted.call) (Some part) got)
    (same_Some (ask_of noted.call) (Reads dev at n) ask) in
    (inl is.0, is.1)
part_read (noted ∷ made) (suc k) dev at n part ask got =
    let r = part_read made k dev at n part ask got in (inr r.0, r.1)

was_first : (dev at : ℕ) (ring : List ℕ) (first second : List Noted) → WasRead dev at ring first
    → WasRead dev at ring (first ++ second)
was_first dev at ring [] second w = absurd w
was_first dev at ring (noted ∷ first) second (inl is) = inl is
was_first dev at ring (noted ∷ first) second (inr w) = inr (was_first dev at ring first second w)

was_second : (dev at : ℕ) (ring : List ℕ) (first second : List Noted) → WasRead dev at ring second
    → WasRead dev at ring (first ++ second)
was_second dev at ring [] second w = w
was_second dev at ring (noted ∷ first) second w = inr (was_second dev at ring first second w)

ring_ask : (size label dev : ℕ) → label < 4
    → slice_get (look_asks dev size) (2 * label) ≡ Some (Reads dev (slice_index (labels_of size) label + 32) 32)
ring_ask size zero dev lt = refl
ring_ask size (suc zero) dev lt = refl
ring_ask size (suc (suc zero)) dev lt = refl
ring_ask size (suc (suc (suc zero))) dev lt = refl
ring_ask size (suc (suc (suc (suc n)))) dev lt = absurd (omega arith)

-- a ring of a device that was looked at
IsRingRead : (size dev label : ℕ) → (ring : List ℕ) → List Noted → Type 0
IsRingRead size dev label ring made =
    WasRead dev (slice_index (labels_of size) label + 32) ring made × (sectors_in ring ≡ 32)

look_read : (size : ℕ → ℕ) (devs : List ℕ) (looks : List Parts) (made : List Noted) → IsLook size devs looks made
    → (i d : ℕ) (parts : Parts) → slice_get devs i ≡ Some d → slice_get looks i ≡ Some parts
    → (label : ℕ) (ring : List ℕ) → label < 4 → slice_get parts (2 * label) ≡ Some (Some ring)
    → IsRingRead (size d) d label ring made
unfolding IsRingRead
look_read size [] looks made l i d parts e f label ring few got = absurd (cc)
look_read size (dev ∷ devs) [] made l i d parts e f label ring few got = absurd l
look_read size (dev ∷ devs) (first ∷ looks) made l zero d parts e f label ring few got =
    subst (λ x. IsRingRead (size x) x label ring made) (same_Some dev d e)
    (subst (IsRingRead (size dev) dev label ring) (sym l.2) (was_first dev _ ring l.0 l.1 here.0, here.1))
  where
    here : WasRead dev (slice_index (labels_of (size dev)) label + 32) ring l.0 × (sectors_in ring ≡ 32)
    here = part_read l.0 (2 * label) dev _ 32 ring (ap (λ a. slice_get a (2 * label)) l.3 ∙ ring_ask (size dev) label dev few)
        (ap (λ p. slice_get p (2 * label)) (sym l.4 ∙ same_Some first parts f) ∙ got)
look_read size (dev ∷ devs) (first ∷ looks) made l (suc i) d parts e f label ring few got =
    let r = look_read size devs looks l.1 l.5 i d parts e f label ring few got in
    subst (IsRingRead (size d) d label ring) (sym l.2) (was_second d _ ring l.0 l.1 r.0, r.1)

-- A look finds no record on a device whose rings hold none.
pub none_on_cleared : (head_of : List ℕ → Option Head) (size : ℕ → ℕ) (devs : List ℕ) (looks : List Parts)
    (made : List Noted) (sectors : Sectors) (bytes : ℕ → List ℕ) (dev : ℕ)
    → ((slot : ℕ) → slot < 32 → IsBare (bytes slot)) → RingsHold (size dev) (sectors dev) bytes
    → IsLook size devs looks made → AllAnswer sectors made → AreUnforged 1 dev (size dev) sectors made
    → (name : List ℕ) (n : ℕ) (u : Uberblock) (config : List ℕ) → slice_get devs (n / 128) ≡ Some dev
    → IsCandidate head_of looks name n u config → ⊥
unfolding IsRingRead
none_on_cleared head_of size devs looks made sectors bytes dev bare hold l answer unforged name n u config at c =
    none_looked head_of c.parts name bytes bare
    (λ label ring few got.
    let r = look_read size devs looks made l (n / 128) dev c.parts at c.parts_are label ring few got in
    only_read 1 dev (size dev) made sectors bytes label ring few hold (λ s. look_off size devs looks made dev s l) answer
    unforged r.0 r.1)
    (n % 128) u config (omega arith) c.verified

-- ---- the calls of a search

misses_off : (pool member : Guid) (dev : ℕ) (rings : List ℕ) (made : List Noted) (d s : ℕ)
    → AreMisses pool member dev rings made → Untouched made d s
misses_off pool member dev [] made d s m = subst (λ calls. Untouched calls d s) (sym m) tt
misses_off pool member dev (at ∷ rings) [] d s m = tt
misses_off pool member dev (at ∷ rings) (noted ∷ made) d s m =
    (asked_off noted.call (Reads dev at 32) d s m.0 refl, misses_off pool member dev rings made d s m.2)

-- the read that gives an identity
IsGiven : (pool member : Guid) → (dev at : ℕ) → Call → Type 0
IsGiven pool member dev at call =
    (ring : List ℕ) × (call ≡ Read dev at ring None) × (sectors_in ring ≡ 32) × HasIdentity pool member ring

gives_ring : (pool member : Guid) (call : Call) (dev at : ℕ) → ask_of call ≡ Reads dev at 32
    → GivesIdentity pool member call → IsGiven pool member dev at call
unfolding IsGiven
gives_ring pool member (Read dev' at' bytes None) dev at ask gives =
    let is = given_is (Read dev' at' bytes None) bytes dev at 32 refl ask in (bytes, is.0, is.1, gives)
gives_ring pool member (Read dev' at' bytes (Some fault)) dev at ask gives = absurd gives
gives_ring pool member (Write dev' at' bytes fault) dev at ask gives = absurd gives
gives_ring pool member (Flush dev' fault) dev at ask gives = absurd gives
gives_ring pool member (Admit dev' holds) dev at ask gives = absurd gives
gives_ring pool member (Eject dev') dev at ask gives = absurd gives

ring_at : (size k : ℕ) → k < 4 → slice_index (rings_of size) k ≡ slice_index (labels_of size) k + 32
ring_at size zero lt = refl
ring_at size (suc zero) lt = refl
ring_at size (suc (suc zero)) lt = refl
ring_at size (suc (suc (suc zero))) lt = refl
ring_at size (suc (suc (suc (suc k)))) lt = absurd (omega arith)

-- A search that found an identity read it in a ring that shows only what stands there.
hit_shows : (pool member : Guid) (dev size : ℕ) (made : List Noted) (sectors : Sectors) (bytes : ℕ → List ℕ)
    → RingsHold size (sectors dev) bytes → IsSearch pool member dev size made (Ok true) → AllAnswer sectors made
    → AreUnforged 0 dev size sectors made → (ring : List ℕ) × HasIdentity pool member ring × ShowsOnly 0 ring bytes
unfolding IsGiven
hit_shows pool member dev size made sectors bytes hold h answer unforged =
    (given.0, given.3, only_read 0 dev size made sectors bytes h.before given.0 h.inside hold off answer unforged was given.2)
  where
    given : IsGiven pool member dev (slice_index (labels_of size) h.before + 32) h.hit.call
    given = gives_ring pool member h.hit.call dev (slice_index (labels_of size) h.before + 32)
        (h.ask ∙ ap (λ at. Reads dev at 32) (ring_at size h.before h.inside)) h.gives

    off : (s : ℕ) → Untouched made dev s
    off s = subst (λ calls. Untouched calls dev s) (sym h.all)
        (untouched_more h.misses (h.hit ∷ []) dev s (misses_off pool member dev _ h.misses dev s h.are_misses)
        (asked_off h.hit.call _ dev s h.ask refl, tt))

    was : WasRead dev (slice_index (labels_of size) h.before + 32) given.0 made
    was = subst (WasRead dev (slice_index (labels_of size) h.before + 32) given.0) (sym h.all)
        (was_second dev _ given.0 h.misses (h.hit ∷ []) (inl given.1))

pub wiped_unfound : (pool member : Guid) (dev size : ℕ) (made : List Noted) (sectors : Sectors)
    → RingsHold size (sectors dev) (λ slot. zero_sector) → AllAnswer sectors made → AreUnforged 0 dev size sectors made
    → IsSearch pool member dev size made (Ok true) → ⊥
wiped_unfound pool member dev size made sectors hold answer unforged h =
    let found = hit_shows pool member dev size made sectors (λ slot. zero_sector) hold h answer unforged in
    zeros_identity pool member found.0 found.2 found.1

pub stamp_found : (pool member : Guid) (dev size : ℕ) (made : List Noted) (sectors : Sectors) (pool' member' : Guid)
    → pool.0 < 2 ^ 64 → member.0 < 2 ^ 64 → RingsHold size (sectors dev) (stamp_sector pool member)
    → IsSearch pool' member' dev size made (Ok true) → AllAnswer sectors made → AreUnforged 0 dev size sectors made
    → (pool' ≡ pool) × (member' ≡ member)
stamp_found pool member dev size made sectors pool' member' p m hold h answer unforged =
    let found = hit_shows pool' member' dev size made sectors (stamp_sector pool member) hold h answer unforged in
    only_identity pool member found.0 pool' member' p m found.2 found.1

-- a ring that was read, and doesn't give the identity
IsMissed : (pool member : Guid) → (dev at : ℕ) → List Noted → Type 0
IsMissed pool member dev at made =
    (ring : List ℕ) × WasRead dev at ring made × (sectors_in ring ≡ 32) × (¬ (HasIdentity pool member ring))

or_none : (a b : Option Fault) → fault_or a b ≡ None → (a ≡ None) × (b ≡ None)
or_none None b e = (refl, e)
or_none (Some fault) b e = absurd (cc)

missed_call : (pool member : Guid) (call : Call) (dev at : ℕ) → ask_of call ≡ Reads dev at 32 → fault_of call ≡ None
    → (¬ (GivesIdentity pool member call))
    → (ring : List ℕ) × (call ≡ Read dev at ring None) × (sectors_in ring ≡ 32) × (¬ (HasIdentity pool member ring))
missed_call pool member (Read dev' at' bytes None) dev at ask fine non =
    let is = given_is (Read dev' at' bytes None) bytes dev at 32 refl ask in (bytes, is.0, is.1, non)
missed_call pool member (Read dev' at' bytes (Some fault)) dev at ask fine non = absurd (cc)
missed_call pool member (Write dev' at' bytes fault) dev at ask fine non = absurd (cc)
missed_call pool member (Flush dev' fault) dev at ask fine non = absurd (cc)
missed_call pool member (Admit dev' holds) dev at ask fine non = absurd (cc)
missed_call pool member (Eject dev') dev at ask fine non = absurd (cc)

missed_ring : (pool member : Guid) (dev : ℕ) (rings : List ℕ) (made : List Noted) → AreMisses pool member dev rings made
    → first_fault made ≡ None → (k at : ℕ) → slice_get rings k ≡ Some at → IsMissed pool member dev at made
unfolding IsMissed
missed_ring pool member dev [] made m fine k at is = absurd (cc)
missed_ring pool member dev (first ∷ rings) [] m fine k at is = absurd m
missed_ring pool member dev (first ∷ rings) (noted ∷ made) m fine zero at is =
    let ok = or_none (fault_of noted.call) (first_fault made) fine in
    let c = missed_call pool member noted.call dev at (m.0 ∙ ap (λ a. Reads dev a 32) (same_Some first at is)) ok.0 m.1 in
    (c.0, inl c.1, c.2, c.3)
missed_ring pool member dev (first ∷ rings) (noted ∷ made) m fine (suc k) at is =
    let ok = or_none (fault_of noted.call) (first_fault made) fine in
    let r = missed_ring pool member dev rings made m.2 ok.1 k at is in
    (r.0, inr r.1, r.2, r.3)

ring_there : (size k : ℕ) → k < 4 → slice_get (rings_of size) k ≡ Some (slice_index (labels_of size) k + 32)
ring_there size zero lt = refl
ring_there size (suc zero) lt = refl
ring_there size (suc (suc zero)) lt = refl
ring_there size (suc (suc (suc zero))) lt = refl
ring_there size (suc (suc (suc (suc k)))) lt = absurd (omega arith)

-- A search that read each ring of a stamped device finds the stamp, by an undamaged first slot.
pub stamp_missed : (pool member : Guid) (dev size : ℕ) (made : List Noted) (sectors : Sectors) (label : ℕ)
    → pool.0 < 2 ^ 64 → member.0 < 2 ^ 64 → RingsHold size (sectors dev) (stamp_sector pool member)
    → IsSearch pool member dev size made (Ok false) → AllAnswer sectors made → label < 4
    → (run made sectors dev (slice_index (labels_of size) label + 32)).damaged ≡ true
unfolding IsMissed
stamp_missed pool member dev size made sectors label p m hold search answer few =
    by (run made sectors dev (slice_index (labels_of size) label + 32)).damaged refl
  where
    ring : IsMissed pool member dev (slice_index (labels_of size) label + 32) made
    ring = missed_ring pool member dev (rings_of size) made search.0 search.1 label _ (ring_there size label few)

    by : (t : Bool) → (run made sectors dev (slice_index (labels_of size) label + 32)).damaged ≡ t
        → (run made sectors dev (slice_index (labels_of size) label + 32)).damaged ≡ true
    by true e = e
    by false e =
        absurd (ring.3 (stamp_identity pool member ring.0 p m
        (slot_read size made sectors dev label 0 ring.0 (stamp_sector pool member 0)
        (λ s. misses_off pool member dev (rings_of size) made dev s search.0) (hold label 0 few (omega arith)) answer ring.1
        (subst (λ n. 0 < n) (sym ring.2) (omega arith)) e)))

-- ---- which sectors these are

-- Undamaged rings forge nothing.
pub unhurt_calls : (least dev size : ℕ) (made : List Noted) (sectors : Sectors) → AreUnhurt size (run made sectors dev)
    → AreUnforged least dev size sectors made
unhurt_calls least dev size made sectors unhurt label slot ring u few inside was hurt is enough =
    let sound = unhurt label (32 + slot) few (omega arith) in absurd (cc)

pub configs_off : (size label i : ℕ) → 320 ≤ size → label < 4 → i < 28 → IsOffRings size (config_at size label + i)
configs_off size label i big few small =
    let at : slice_index (labels_of size) label + (4 + i) ≡ config_at size label + i = omega arith in
    subst (IsOffRings size) at (config_off size label i big few small)

pub between_off : (size s : ℕ) → 128 ≤ s → s + 128 < size → IsOffRings size s
between_off size s low high label slot few inside = off label few
  where
    off : (k : ℕ) → k < 4 → s ≡ slice_index (labels_of size) k + (32 + slot) → ⊥
    off zero lt e = omega arith
    off (suc zero) lt e = omega arith
    off (suc (suc zero)) lt e = omega arith
    off (suc (suc (suc zero))) lt e = omega arith
    off (suc (suc (suc (suc k)))) lt e = omega arith
