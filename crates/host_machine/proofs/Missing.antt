-- A read that no leaf served: what each leaf's copy met.
use Rattle.std.proofs.Common.{◌≡◌, ℕ, zero, suc, ◌+◌, ◌<◌, Bool, true, false, cond, List, [], ◌∷◌, ◌++◌, length, Option, Some, None, Err, refl, arith, inl, inr, ◌⊎◌, sym, ◌∙◌, ap, subst, lt-ltb, eq-eqb}
use Rattle.std.specs.Prelude.{nat_lt, not, slice_get, ◌||◌, ◌==◌, ◌≢◌}
use Rattle.std.specs.List.{filter_map}
use Rattle.std.specs.Option.{option_map}
use Rattle.std.specs.Str.{bytes_eq}
use Rattle.std.proofs.lemmas.Bool.{ne_eqb}
use Rattle.std.proofs.lemmas.List.{take_all}
use Rattle.std.proofs.lemmas.Slice.Eq.{bytes_eq-Decides}
use Rattle.mp_base.specs.Block.{zero_block}
use Rattle.mp_base.specs.declared.number.Guid.{Guid}
use Rattle.mp_base.specs.declared.refusal.Refusal.TheVariants as refusals
use Rattle.bank_core.specs.declared.bank.Fault.{Fault}
use Rattle.bank_core.specs.Asks.{Reads, ask_of, asks_of}
use Rattle.bank_core.specs.Calls.{device_of, fault_of}
use Rattle.bank_core.specs.Disk.{Sector, Sectors, Call, Read, Write, Flush, Admit, Eject, Noted, IsClean, Answers, AllAnswer, as_found, hurt, sector_size, sectors_in, sector_of, after_call}
use Rattle.bank_core.proofs.Blocks.{sector_block}
use Rattle.label_store.specs.declared.member.Member.{Member}
use Rattle.pool_wire.specs.declared.reply.NamedLeaf.{NamedLeaf}
use Rattle.pool_wire.specs.declared.reply.Reply.{Reply}
use Rattle.pool_wire.specs.declared.reply.Reply.TheVariants as replies
use Rattle.pool_wire.specs.declared.request.Request.TheVariants as requests
use Rattle.pool_history.specs.Events.{Calls}
use Rattle.pool_history.specs.Looks.{NoneFailed}
use Rattle.pool_history.specs.Needs.{Held}
use Rattle.pool_history.specs.Pools.{Pool, after}
use Rattle.pool_history.specs.Records.{Cell, data_start}
use Rattle.pool_history.specs.Survival.{Survives}
use Rattle.pool_history.proofs.Holding.{hurt_held}
use Rattle.pool_history.proofs.LookedParts.{same_some}
use Rattle.pool_core.specs.Heads.{head_of}
use Rattle.pool_core.specs.Outside.{Trouble, Wrong, trouble_of, troubles}
use Rattle.pool_core.specs.Reading.{Copies, source_of, source_at, block_from, wanted, asks_from, asks_to, answer_from, read_answer, read_asks, is_served, served, shown, tries, copies_give}
use Rattle.pool_core.specs.State.{LeafState, Known, PoolState, Version, leaves, having, owing, seat_of}
use Rattle.host_machine.specs.Answering.{IsOpenIn, HasClash, IsExcused, HasCause, Misses, AllMiss, IsLost, FindUnhurt, HasGroup, IsGoodMember}
use Rattle.host_machine.specs.Machine.{HostState, Entry, Step, IsAnswered, WantsMemory, Clashes, named_pool, read_reply, read_line_asks, read_line_answer, wanted_of, line_wants}
use Rattle.host_machine.specs.Records.{version_of, versions_of, owed_by}
use Rattle.host_machine.specs.Tracking.{Place, IsAt, IsOpenAs, is_member, is_ours, StandsIn, Tracks}
use Rattle.host_machine.proofs.Away.{not_both}
use Rattle.host_machine.proofs.Members.{AllOf, all_to, all_at, all_filtered, all_mapped, tries_all}
use Rattle.host_machine.proofs.Boards.{seat_is}
use Rattle.host_machine.proofs.QuietLines.{named_is}

-- The pool that is open is this one, where one of its devices is a member.
pub ours_is_open : (p : Pool) (h : HostState) (name : List ℕ) (s : PoolState) → Tracks p h → named_pool name h.pool ≡ Some s → is_ours p s ≡ true → IsOpenIn p h name s
ours_is_open p h name s tracks named ours = by (subst (StandsIn p tracks.first tracks.second h.table) (named_is name h.pool s named) tracks.stands)
  where
    elsewhere : (one other : Bool) → one ≡ false → other ≡ false → (one || other) ≡ true → ⊥
    elsewhere one other e f both = cc

    by : StandsIn p tracks.first tracks.second h.table (Some s) → IsOpenIn p h name s
    by (inl (first, second, is_open)) = record { tracks = tracks; named = named; first = first; second = second; is_open = is_open }
    by (inr away) = absurd (elsewhere (is_member p s.first.dev) (is_member p s.second.dev) away.first away.second ours)

first_sector : (bytes : List ℕ) → length bytes ≡ 4096 → sector_of 0 bytes ≡ bytes
unfolding sector_size
first_sector bytes long = take_all 4096 bytes (omega arith)

same_trouble : (bytes block : List ℕ) (trouble : Trouble) → bytes ≡ block → cond (bytes_eq bytes block) None (Some Wrong) ≡ Some trouble → ⊥
same_trouble bytes block trouble same e = go (bytes_eq bytes block) ((bytes_eq-Decides bytes block).1 same) e
  where
    go : (t : Bool) → t ≡ true → cond t None (Some Wrong) ≡ Some trouble → ⊥
    go true on met = cc
    go false on met = cc

held_stable : (x : Sector) (block : List ℕ) → Held x block → x.damaged ≡ false → x.stable ≡ block
held_stable x block h sound = of h.stands
  where
    of : (x.stable ≡ block) ⊎ (x.damaged ≡ true) → x.stable ≡ block
    of (inl e) = e
    of (inr e) = absurd (cc)

-- the read of a sound copy that is held gives its block
read_gives : (found : Sectors) (dev d from at : ℕ) (bytes block : List ℕ) → dev ≡ d → from ≡ at → sectors_in bytes ≡ 1
    → Answers found (Read dev from bytes None) → Held (found d at) block → (found d at).damaged ≡ false → bytes ≡ block
read_gives found dev d from at bytes block same_device same_place one answers h sound =
    let place : from + 0 ≡ at = omega arith in
    let is : found dev (from + 0) ≡ found d at = rw (place, same_device) refl in
    let clean : IsClean (found dev (from + 0)) = subst IsClean (sym is) (record { still = h.still; sound = sound }) in
    let gives : sector_of 0 bytes ≡ (found dev (from + 0)).stable = answers.1 0 (rw one (omega arith)) clean in
    sym (first_sector bytes (sector_block bytes one answers.0)) ∙ gives ∙ ap (λ (x : Sector). x.stable) is ∙ held_stable (found d at) block h sound

-- why the read of a copy that is held met trouble
held_cause : (found : Sectors) (d at : ℕ) (block : List ℕ) (call : Call) (trouble : Trouble) → Held (found d at) block
    → ask_of call ≡ Reads d at 1 → Answers found call → trouble_of (Known block) call ≡ Some trouble
    → ((fault : Fault) × (fault_of call ≡ Some fault)) ⊎ ((found d at).damaged ≡ true)
held_cause found d at block (Read dev from bytes (Some fault)) trouble h asked answers met = inl (fault, refl)
held_cause found d at block (Read dev from bytes None) trouble h asked answers met = go (found d at).damaged refl
  where
    go : (t : Bool) → (found d at).damaged ≡ t → ((fault : Fault) × (None ≡ Some fault)) ⊎ ((found d at).damaged ≡ true)
    go true e = inr e
    go false e =
        let same_device : dev ≡ d = cc in
        let same_place : from ≡ at = cc in
        let one : sectors_in bytes ≡ 1 = cc in
        absurd (same_trouble bytes block trouble (read_gives found dev d from at bytes block same_device same_place one answers h e) met)
held_cause found d at block (Write dev from bytes fault) trouble h asked answers met = absurd (cc)
held_cause found d at block (Flush dev fault) trouble h asked answers met = absurd (cc)
held_cause found d at block (Admit dev holds) trouble h asked answers met = absurd (cc)
held_cause found d at block (Eject dev) trouble h asked answers met = absurd (cc)

-- What a copy is known to hold: the block, where the pool has the device and the leaf's log lacks the birth.
abbrev Holds : Pool → PoolState → (birth at : ℕ) → (block : List ℕ) → Member → Type 0
Holds p s birth at block m = p.member m.dev ≡ true → owed_by s m.guid birth ≡ false → Held (p.sectors m.dev at) block

-- why such a copy gave nothing
copy_cause : (p : Pool) (s : PoolState) (cell : Cell) (block : List ℕ) (m : Member) (noted : Noted) (trouble : Trouble) (member owes : Bool)
    → p.member m.dev ≡ member → owed_by s m.guid cell.birth ≡ owes → Holds p s cell.birth (data_start + cell.sector) block m
    → ask_of noted.call ≡ Reads m.dev (data_start + cell.sector) 1 → Answers (as_found noted p.sectors) noted.call → trouble_of (Known block) noted.call ≡ Some trouble
    → HasCause p s cell m noted
copy_cause p s cell block m noted trouble false owes lost log held asked answers met = inr (inr (inl lost))
copy_cause p s cell block m noted trouble true true is log held asked answers met = inr (inr (inr log))
copy_cause p s cell block m noted trouble true false is log held asked answers met =
    let at = data_start + cell.sector in
    of (held_cause (as_found noted p.sectors) m.dev at block noted.call trouble (hurt_held (noted.damage m.dev at) (p.sectors m.dev at) block (held is log)) asked answers met)
  where
    of : ((fault : Fault) × (fault_of noted.call ≡ Some fault)) ⊎ ((as_found noted p.sectors m.dev (data_start + cell.sector)).damaged ≡ true) → HasCause p s cell m noted
    of (inl failed) = inl failed
    of (inr hurt_there) = inr (inl hurt_there)

-- a read leaves what is held
read_held : (noted : Noted) (dev from n d at : ℕ) (x : Sector) (block : List ℕ) → ask_of noted.call ≡ Reads dev from n → Held x block → Held (after_call noted d at x) block
read_held noted dev from n d at x block asked h = by noted.call asked (hurt_held (noted.damage d at) x block h)
  where
    by : (call : Call) → ask_of call ≡ Reads dev from n → Held (hurt (noted.damage d at) x) block → Held (after_call (record { call = call; damage = noted.damage }) d at x) block
    by (Read e s bytes fault) is held = held
    by (Write e s bytes fault) is held = absurd (cc)
    by (Flush e fault) is held = absurd (cc)
    by (Admit e holds) is held = absurd (cc)
    by (Eject e) is held = absurd (cc)

-- one more copy
miss_next : (p : Pool) (s : PoolState) (cell : Cell) (block : List ℕ) (m : Member) (rest : List Member) (noted : Noted) (made : List Noted) (met : Option Trouble)
    → Holds p s cell.birth (data_start + cell.sector) block m → Answers (as_found noted p.sectors) noted.call → trouble_of (Known block) noted.call ≡ met
    → (ask_of noted.call ≡ Reads m.dev (data_start + cell.sector) 1 → asks_of made ≡ asks_to (data_start + cell.sector) rest (troubles (Known block) made)
    → is_served rest (troubles (Known block) made) ≡ false → AllMiss (after (Calls noted) p) s cell rest made)
    → ask_of noted.call ∷ asks_of made ≡ asks_to (data_start + cell.sector) (m ∷ rest) (met ∷ troubles (Known block) made)
    → is_served (m ∷ rest) (met ∷ troubles (Known block) made) ≡ false → AllMiss p s cell (m ∷ rest) (noted ∷ made)
miss_next p s cell block m rest noted made None held answers e more asks none = absurd (cc)
miss_next p s cell block m rest noted made (Some trouble) held answers e more asks none =
    let at = data_start + cell.sector in
    let first : ask_of noted.call ≡ Reads m.dev at 1 = cc in
    let others : asks_of made ≡ asks_to at rest (troubles (Known block) made) = cc in
    (record { asked = first; cause = copy_cause p s cell block m noted trouble (p.member m.dev) (owed_by s m.guid cell.birth) refl refl held first answers e }, more first others none)

-- no copy served, so each gave nothing
all_miss : (p : Pool) (s : PoolState) (cell : Cell) (block : List ℕ) (rest : List Member) (made : List Noted) → AllOf (Holds p s cell.birth (data_start + cell.sector) block) rest
    → AllAnswer p.sectors made → asks_of made ≡ asks_to (data_start + cell.sector) rest (troubles (Known block) made) → is_served rest (troubles (Known block) made) ≡ false
    → AllMiss p s cell rest made
all_miss p s cell block [] [] held answers asks none = refl
all_miss p s cell block [] (noted ∷ made) held answers asks none = absurd (cc)
all_miss p s cell block (m ∷ rest) [] held answers asks none = absurd (cc)
all_miss p s cell block (m ∷ rest) (noted ∷ made) held answers asks none =
    let at = data_start + cell.sector in
    miss_next p s cell block m rest noted made (trouble_of (Known block) noted.call) held.0 answers.0 refl
    (λ first. all_miss (after (Calls noted) p) s cell block rest made
    (all_to (Holds p s cell.birth at block) (Holds (after (Calls noted) p) s cell.birth at block) rest
    (λ n holds member log. read_held noted m.dev at 1 n.dev at (p.sectors n.dev at) block first (holds member log)) held.1) answers.1)
    asks none

-- The leaves of an open pool are its members, with their numbers.
record AreMembers (p : Pool) (s : PoolState) : Type 0 where
  first : (d : ℕ) → s.first.dev ≡ Some d → p.guid d ≡ s.first.member
  second : (d : ℕ) → s.second.dev ≡ Some d → p.guid d ≡ s.second.member
  apart : s.first.member.0 ≢ s.second.member.0

place_guid : (p : Pool) (leaf : LeafState) (place : Place) (d : ℕ) → IsAt leaf place → p.guid place.dev ≡ place.member → leaf.dev ≡ Some d → p.guid d ≡ leaf.member
place_guid p leaf place d at guid e = ap p.guid (at.2 d e) ∙ guid ∙ sym at.0

are_members : (p : Pool) (h : HostState) (name : List ℕ) (s : PoolState) → IsOpenIn p h name s → AreMembers p s
are_members p h name s o = record {
  first = λ d e. place_guid p s.first o.tracks.first d o.first o.tracks.first_guid e;
  second = λ d e. place_guid p s.second o.tracks.second d o.second o.tracks.second_guid e;
  apart = λ e. o.tracks.numbers (sym (ap (λ (g : Guid). g.0) o.first.0) ∙ e ∙ ap (λ (g : Guid). g.0) o.second.0);
}

-- each copy of a block of the record that the pool reads
abbrev HoldsRead : Pool → PoolState → (a : ℕ) → Type 0
HoldsRead p s a = (cell : Cell) → p.reads.cells a ≡ Some cell → AllOf (Holds p s cell.birth (data_start + cell.sector) cell.block) (tries cell.birth (leaves s))

cell_held : (p : Pool) (s : PoolState) (a : ℕ) → Survives head_of p → AreMembers p s → IsOpenAs p s → HoldsRead p s a
cell_held p s a left seated is_open cell is =
    tries_all (Holds p s cell.birth (data_start + cell.sector) cell.block) cell.birth s
    (λ m e. let seat = seat_is s.first m e in held m (seated.first m.dev seat.dev ∙ sym seat.guid))
    (λ m e. let seat = seat_is s.second m e in held m (seated.second m.dev seat.dev ∙ sym seat.guid))
  where
    held : (m : Member) → p.guid m.dev ≡ m.guid → Holds p s cell.birth (data_start + cell.sector) cell.block m
    held m guid member log =
        left.held m.dev (data_start + cell.sector) cell.block (
          member,
          inr (record {
            r = p.reads;
            is_live = left.reads_live;
            a = a;
            cell = cell;
            cell_is = is;
            has = is_open.grown m.dev cell.birth member (ap (λ g. owed_by s g cell.birth) guid ∙ log);
            sector_is = refl;
            bytes_are = refl;
          }),
        )

-- by whether a copy served
copies_end : (p : Pool) (s : PoolState) (a : ℕ) (cell : Cell) (block : List ℕ) (made : List Noted) (reply : Reply) (is : Bool) → HoldsRead p s a → p.reads.cells a ≡ Some cell
    → block ≡ p.written a → cell.block ≡ p.written a → AllAnswer p.sectors made
    → asks_of made ≡ asks_to (data_start + cell.sector) (tries cell.birth (leaves s)) (troubles (Known block) made) → is_served (tries cell.birth (leaves s)) (troubles (Known block) made) ≡ is
    → reply ≡ read_reply (leaves s) (copies_give is a block (shown cell.birth (leaves s) (troubles (Known block) made))) → (reply ≡ replies.Data (p.written a)) ⊎ IsLost p s a made
copies_end p s a cell block made reply true holds is same last answers asks met e = inl (e ∙ ap replies.Data same)
copies_end p s a cell block made reply false holds is same last answers asks met e = inr (record {
  cell = cell;
  committed = is;
  last = sym last;
  missed = all_miss p s cell block (tries cell.birth (leaves s)) made
      (subst (λ b. AllOf (Holds p s cell.birth (data_start + cell.sector) b) (tries cell.birth (leaves s))) (last ∙ sym same) (holds cell is)) answers asks met;
})

some_known : (one other : List ℕ) → Known one ≡ Known other → one ≡ other
some_known one other e = cc

-- the committed block behind a copy
record IsCopyOf (p : Pool) (a : ℕ) (version : Version) : Type 0 where
  cell : Cell
  is : p.reads.cells a ≡ Some cell
  version_is : version ≡ version_of cell

copy_of : (p : Pool) (a : ℕ) (version : Version) (cell : Option Cell) → p.reads.cells a ≡ cell → Some version ≡ option_map version_of cell → IsCopyOf p a version
copy_of p a version None is e = absurd (cc)
copy_of p a version (Some cell) is e = record { cell = cell; is = is; version_is = cc }

copies_by : (p : Pool) (s : PoolState) (a : ℕ) (version : Version) (made : List Noted) (reply : Reply) (given : List ℕ) → HoldsRead p s a → IsCopyOf p a version
    → version.content ≡ Known (p.written a) → AllAnswer p.sectors made → asks_of made ≡ asks_from (Copies version) (leaves s) (troubles version.content made)
    → reply ≡ read_reply (leaves s) (answer_from (Copies version) a (leaves s) (troubles version.content made) given)
    → (reply ≡ replies.Data (p.written a)) ⊎ IsLost p s a made
copies_by p s a version made reply given holds copy known answers asks e =
    let w = p.written a in
    let birth : version.birth ≡ copy.cell.birth = ap (λ (v : Version). v.birth) copy.version_is in
    let sector : version.sector ≡ copy.cell.sector = ap (λ (v : Version). v.sector) copy.version_is in
    let content : Known copy.cell.block ≡ Known w = sym (ap (λ (v : Version). v.content) copy.version_is) ∙ known in
    copies_end p s a copy.cell w made reply (is_served (tries copy.cell.birth (leaves s)) (troubles (Known w) made)) holds copy.is refl (some_known copy.cell.block w content) answers
    (asks ∙ ap (λ c. asks_to (data_start + version.sector) (tries version.birth (leaves s)) (troubles c made)) known
    ∙ ap (λ n. asks_to (data_start + n) (tries version.birth (leaves s)) (troubles (Known w) made)) sector
    ∙ ap (λ g. asks_to (data_start + copy.cell.sector) (tries g (leaves s)) (troubles (Known w) made)) birth) refl
    (e ∙ ap (λ c. read_reply (leaves s) (copies_give (is_served (tries version.birth (leaves s)) (troubles c made)) a (served c given) (shown version.birth (leaves s) (troubles c made)))) known
    ∙ ap (λ g. read_reply (leaves s) (copies_give (is_served (tries g (leaves s)) (troubles (Known w) made)) a w (shown g (leaves s) (troubles (Known w) made)))) birth)

-- by where the block is found
source_ends : (p : Pool) (s : PoolState) (a : ℕ) (writes : Option (List ℕ)) (committed : Option Version) (made : List Noted) (reply : Reply) (given : List ℕ) → HoldsRead p s a
    → committed ≡ versions_of p.reads a → block_from (source_of writes committed) ≡ Known (p.written a) → AllAnswer p.sectors made
    → asks_of made ≡ asks_from (source_of writes committed) (leaves s) (troubles (block_from (source_of writes committed)) made)
    → reply ≡ read_reply (leaves s) (answer_from (source_of writes committed) a (leaves s) (troubles (block_from (source_of writes committed)) made) given)
    → (reply ≡ replies.Data (p.written a)) ⊎ IsLost p s a made
source_ends p s a (Some block) committed made reply given holds is known answers asks e = inl (e ∙ ap replies.Data (some_known block (p.written a) known))
source_ends p s a None None made reply given holds is known answers asks e = inl (e ∙ ap replies.Data (some_known zero_block (p.written a) known))
source_ends p s a None (Some version) made reply given holds is known answers asks e =
    copies_by p s a version made reply given holds (copy_of p a version (p.reads.cells a) refl is) known answers asks e

-- what a line answered of a read of the open pool
record IsReadLine (s : PoolState) (a : ℕ) (made : List Noted) (reply : Reply) (given : List ℕ) : Type 0 where
  asks : asks_of made ≡ read_asks s a (troubles (wanted s a) made)
  reply_is : reply ≡ read_reply (leaves s) (read_answer s a (troubles (wanted s a) made) given)

line_ends : (p : Pool) (s : PoolState) (a : ℕ) (made : List Noted) (reply : Reply) (given : List ℕ) → AreMembers p s → IsOpenAs p s → Survives head_of p → AllAnswer p.sectors made
    → nat_lt a s.blocks ≡ true → IsReadLine s a made reply given → (reply ≡ replies.Data (p.written a)) ⊎ IsLost p s a made
line_ends p s a made reply given seated is_open left answers inside line =
    source_ends p s a (s.writes a) (s.committed a) made reply given (cell_held p s a left seated is_open) (is_open.committed a) (is_open.written a) answers
    (line.asks ∙ ap (λ t. cond t (asks_from (source_at s a) (leaves s) (troubles (wanted s a) made)) []) inside)
    (line.reply_is ∙ ap (λ t. read_reply (leaves s) (cond t (answer_from (source_at s a) a (leaves s) (troubles (wanted s a) made) given) (Err (refusals.BadAddress s.blocks)))) inside)

-- a step of a read: the line, or a free end
read_line : (p : Pool) (h : HostState) (entry : Entry) (made : List Noted) (next : HostState) (name : List ℕ) (s : PoolState) (a : ℕ) → IsOpenIn p h name s → Step h entry made next
    → entry.asked ≡ Some (requests.Read name a) → IsReadLine s a made entry.reply entry.given ⊎ IsExcused h entry made
read_line p h entry made next name s a o step asked = by step.step
  where
    wants : line_wants h entry.asked ≡ wanted s a
    wants = ap (line_wants h) asked ∙ ap (λ pool. wanted_of pool a) o.named

    met : entry.outside ≡ troubles (wanted s a) made
    met = step.outside ∙ ap (λ c. troubles c made) wants

    by : IsAnswered h entry.asked entry made next ⊎ (WantsMemory h entry made next ⊎ Clashes h entry made next) → IsReadLine s a made entry.reply entry.given ⊎ IsExcused h entry made
    by (inl is) =
        let line : IsAnswered h (Some (requests.Read name a)) entry made next = subst (λ q. IsAnswered h q entry made next) asked is in
        inl (record {
          asks = line.0 ∙ ap (λ pool. read_line_asks pool a entry.outside) o.named ∙ ap (read_asks s a) met;
          reply_is = ap (λ (x : HostState × Reply). x.1) line.1 ∙ ap (λ pool. (read_line_answer h pool a entry.outside entry.given).1) o.named
              ∙ ap (λ outside. read_reply (leaves s) (read_answer s a outside entry.given)) met;
        })
    by (inr (inl memory)) = inr (inl memory.reply)
    by (inr (inr clashes)) = inr (inr clashes.clash)

pub read_ends : (p : Pool) (h : HostState) (entry : Entry) (made : List Noted) (next : HostState) (name : List ℕ) (s : PoolState) (a : ℕ)
    → IsOpenIn p h name s → Survives head_of p → AllAnswer p.sectors made → Step h entry made next → entry.asked ≡ Some (requests.Read name a)
    → a < s.blocks → (entry.reply ≡ replies.Data (p.written a)) ⊎ (IsLost p s a made ⊎ IsExcused h entry made)
read_ends p h entry made next name s a o left answers step asked below = by (read_line p h entry made next name s a o step asked)
  where
    of : (entry.reply ≡ replies.Data (p.written a)) ⊎ IsLost p s a made → (entry.reply ≡ replies.Data (p.written a)) ⊎ (IsLost p s a made ⊎ IsExcused h entry made)
    of (inl e) = inl e
    of (inr lost) = inr (inl lost)

    by : IsReadLine s a made entry.reply entry.given ⊎ IsExcused h entry made → (entry.reply ≡ replies.Data (p.written a)) ⊎ (IsLost p s a made ⊎ IsExcused h entry made)
    by (inl line) = of (line_ends p s a made entry.reply entry.given (are_members p h name s o) o.is_open left answers (lt-ltb a s.blocks below) line)
    by (inr excused) = inr (inr excused)

data_exhausted : (block : List ℕ) (level index : ℕ) (named : List NamedLeaf) (reply : Reply) → reply ≡ replies.Data block → reply ≡ replies.Exhausted level index named → ⊥
data_exhausted block level index named reply e f = cc

pub memory_exhausted : (level index : ℕ) (named : List NamedLeaf) (reply : Reply) → reply ≡ replies.Refused refusals.Memory → reply ≡ replies.Exhausted level index named → ⊥
memory_exhausted level index named reply e f = cc

outside_exhausted : (s : PoolState) (a : ℕ) (made : List Noted) (reply : Reply) (given : List ℕ) (level index : ℕ) (named : List NamedLeaf) → nat_lt a s.blocks ≡ false
    → IsReadLine s a made reply given → reply ≡ replies.Exhausted level index named → ⊥
outside_exhausted s a made reply given level index named beyond line e =
    let bad : reply ≡ replies.Refused (refusals.BadAddress s.blocks) = line.reply_is
    ∙ ap (λ t. read_reply (leaves s) (cond t (answer_from (source_at s a) a (leaves s) (troubles (wanted s a) made) given) (Err (refusals.BadAddress s.blocks)))) beyond in
    never (s.blocks) bad e
  where
    never : (blocks : ℕ) → reply ≡ replies.Refused (refusals.BadAddress blocks) → reply ≡ replies.Exhausted level index named → ⊥
    never blocks one other = cc

pub read_refused : (p : Pool) (h : HostState) (entry : Entry) (made : List Noted) (next : HostState) (name : List ℕ) (s : PoolState) (a level index : ℕ) (named : List NamedLeaf)
    → IsOpenIn p h name s → Survives head_of p → AllAnswer p.sectors made → Step h entry made next → entry.asked ≡ Some (requests.Read name a)
    → entry.reply ≡ replies.Exhausted level index named → IsLost p s a made ⊎ HasClash h entry made
read_refused p h entry made next name s a level index named o left answers step asked reply = by (read_line p h entry made next name s a o step asked)
  where
    of : (entry.reply ≡ replies.Data (p.written a)) ⊎ IsLost p s a made → IsLost p s a made ⊎ HasClash h entry made
    of (inl e) = absurd (data_exhausted (p.written a) level index named entry.reply e reply)
    of (inr lost) = inl lost

    inside : (t : Bool) → nat_lt a s.blocks ≡ t → IsReadLine s a made entry.reply entry.given → IsLost p s a made ⊎ HasClash h entry made
    inside true is line = of (line_ends p s a made entry.reply entry.given (are_members p h name s o) o.is_open left answers is line)
    inside false is line = absurd (outside_exhausted s a made entry.reply entry.given level index named is line reply)

    by : IsReadLine s a made entry.reply entry.given ⊎ IsExcused h entry made → IsLost p s a made ⊎ HasClash h entry made
    by (inl line) = inside (nat_lt a s.blocks) refl line
    by (inr (inl memory)) = absurd (memory_exhausted level index named entry.reply memory reply)
    by (inr (inr clash)) = inr clash

read_device : (call : Call) (d at n : ℕ) → ask_of call ≡ Reads d at n → device_of call ≡ d
read_device (Read dev from bytes fault) d at n e = cc
read_device (Write dev from bytes fault) d at n e = absurd (cc)
read_device (Flush dev fault) d at n e = absurd (cc)
read_device (Admit dev holds) d at n e = absurd (cc)
read_device (Eject dev) d at n e = absurd (cc)

lacks : (t : Bool) → not t ≡ true → t ≡ false
lacks true e = absurd (cc)
lacks false e = refl

none_some : (fault : Fault) (met : Option Fault) → met ≡ None → met ≡ Some fault → ⊥
none_some fault met e f = cc

-- a good member doesn't miss
good_misses : (p : Pool) (s : PoolState) (cell : Cell) (d : ℕ) (m : Member) (noted : Noted) → m.dev ≡ d → owed_by s m.guid cell.birth ≡ false → p.member d ≡ true
    → (device_of noted.call ≡ d → fault_of noted.call ≡ None) → (device_of noted.call ≡ d → (as_found noted p.sectors d (data_start + cell.sector)).damaged ≡ false)
    → Misses p s cell m noted → ⊥
good_misses p s cell d m noted same log member fine unhurt misses = by misses.cause
  where
    at : ℕ
    at = data_start + cell.sector

    here : device_of noted.call ≡ d
    here = read_device noted.call m.dev at 1 misses.asked ∙ same

    by : HasCause p s cell m noted → ⊥
    by (inl failed) = none_some failed.0 (fault_of noted.call) (fine here) failed.1
    by (inr (inl damaged)) = not_both (as_found noted p.sectors m.dev at).damaged (subst (λ e. (as_found noted p.sectors e at).damaged ≡ false) (sym same) (unhurt here)) damaged
    by (inr (inr (inl lost))) = not_both (p.member d) (ap p.member (sym same) ∙ lost) member
    by (inr (inr (inr owes))) = not_both (owed_by s m.guid cell.birth) log owes

not_all_miss : (p : Pool) (s : PoolState) (cell : Cell) (d : ℕ) (ms : List Member) (made : List Noted) (i : ℕ) (m : Member) → slice_get ms i ≡ Some m → m.dev ≡ d
    → owed_by s m.guid cell.birth ≡ false → p.member d ≡ true → NoneFailed d made → FindUnhurt p d (data_start + cell.sector) made → AllMiss p s cell ms made → ⊥
not_all_miss p s cell d [] made i m at same log member fine unhurt miss = absurd (cc)
not_all_miss p s cell d (n ∷ ms) [] i m at same log member fine unhurt miss = absurd miss
not_all_miss p s cell d (n ∷ ms) (noted ∷ made) zero m at same log member fine unhurt miss =
    let is : n ≡ m = same_some n m at in
    good_misses p s cell d n noted (ap (λ (x : Member). x.dev) is ∙ same) (ap (λ (x : Member). owed_by s x.guid cell.birth) is ∙ log) member fine.0 unhurt.0 miss.0
not_all_miss p s cell d (n ∷ ms) (noted ∷ made) (suc i) m at same log member fine unhurt miss =
    not_all_miss (after (Calls noted) p) s cell d ms made i m at same log member fine.1 unhurt.1 miss.1

get_first : (xs ys : List Member) (i : ℕ) (m : Member) → slice_get xs i ≡ Some m → slice_get (xs ++ ys) i ≡ Some m
get_first [] ys i m e = absurd (cc)
get_first (x ∷ xs) ys zero m e = e
get_first (x ∷ xs) ys (suc i) m e = get_first xs ys i m e

-- a leaf whose log lacks the birth owes nothing of it by its member number
having_owes : (p : Pool) (s : PoolState) (birth : ℕ) → AreMembers p s → AllOf (λ (m : Member). owed_by s m.guid birth ≡ false) (filter_map seat_of (having birth (leaves s)))
having_owes p s birth seated =
    all_mapped (λ (m : Member). owed_by s m.guid birth ≡ false) seat_of (having birth (leaves s))
    (all_filtered (λ leaf. (m : Member) → seat_of leaf ≡ Some m → owed_by s m.guid birth ≡ false) (λ leaf. not (leaf.owes birth)) (leaves s)
    (λ t m e. first t m (sym (seat_is s.first m e).guid), (λ t m e. second t m (sym (seat_is s.second m e).guid), tt)))
  where
    first : not (s.first.owes birth) ≡ true → (m : Member) → s.first.member ≡ m.guid → owed_by s m.guid birth ≡ false
    first t m guid =
        let own : (s.first.member.0 == m.guid.0) ≡ true = eq-eqb s.first.member.0 m.guid.0 (ap (λ (g : Guid). g.0) guid) in
        ap (λ b. cond b (s.first.owes birth) (cond (s.second.member.0 == m.guid.0) (s.second.owes birth) false)) own ∙ lacks (s.first.owes birth) t

    second : not (s.second.owes birth) ≡ true → (m : Member) → s.second.member ≡ m.guid → owed_by s m.guid birth ≡ false
    second t m guid =
        let other : (s.first.member.0 == m.guid.0) ≡ false = ne_eqb s.first.member.0 m.guid.0 (λ e. seated.apart (e ∙ sym (ap (λ (g : Guid). g.0) guid))) in
        let own : (s.second.member.0 == m.guid.0) ≡ true = eq-eqb s.second.member.0 m.guid.0 (ap (λ (g : Guid). g.0) guid) in
        ap (λ b. cond b (s.first.owes birth) (cond (s.second.member.0 == m.guid.0) (s.second.owes birth) false)) other
        ∙ ap (λ b. cond b (s.second.owes birth) false) own ∙ lacks (s.second.owes birth) t

pub good_answers : (p : Pool) (h : HostState) (entry : Entry) (made : List Noted) (next : HostState) (name : List ℕ) (s : PoolState) (a d : ℕ)
    → IsOpenIn p h name s → Survives head_of p → AllAnswer p.sectors made → Step h entry made next → entry.asked ≡ Some (requests.Read name a)
    → a < s.blocks → IsGoodMember p s a made d → (entry.reply ≡ replies.Data (p.written a)) ⊎ IsExcused h entry made
good_answers p h entry made next name s a d o left answers step asked below good = by (read_ends p h entry made next name s a o left answers step asked below)
  where
    not_lost : IsLost p s a made → ⊥
    not_lost lost =
        let birth = lost.cell.birth in
        let copy : HasGroup s birth d = good.has lost.cell lost.committed in
        let ms = filter_map seat_of (having birth (leaves s)) in
        let log = all_at (λ (m : Member). owed_by s m.guid birth ≡ false) ms copy.0 copy.1 (having_owes p s birth (are_members p h name s o)) copy.2 in
        not_all_miss p s lost.cell d (tries birth (leaves s)) made copy.0 copy.1 (get_first ms (filter_map seat_of (owing birth (leaves s))) copy.0 copy.1 copy.2) copy.3 log
        good.is_member good.fine (good.unhurt lost.cell lost.committed) lost.missed

    by : (entry.reply ≡ replies.Data (p.written a)) ⊎ (IsLost p s a made ⊎ IsExcused h entry made) → (entry.reply ≡ replies.Data (p.written a)) ⊎ IsExcused h entry made
    by (inl e) = inl e
    by (inr (inl lost)) = absurd (not_lost lost)
    by (inr (inr excused)) = inr excused
