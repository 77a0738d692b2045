-- The calls of a scan's step may be made, and leave each copy where the scan may come past it.
use Rattle.std.proofs.Common.{◌≡◌, inl, inr, ⊎_elim, ℕ, ◌+◌, ◌==◌, ◌&&◌, Bool, true, false, cond, Option, Some, None, List, [], ◌∷◌, ◌++◌, map, length, refl, sym, ap, ◌∙◌, subst, arith}
use Rattle.std.specs.List.{AllByRecursion, filter}
use Rattle.std.specs.Option.{is_none}
use Rattle.std.proofs.lemmas.Bool.{and_parts, or_cases}
use Rattle.sha2.specs.Sha256.{sha256}
use Rattle.mp_base.specs.declared.place.Key.{Key}
use Rattle.bank_core.specs.declared.bank.Fault.{Fault}
use Rattle.bank_core.specs.Asks.{Writes, ask_of, asks_of}
use Rattle.bank_core.specs.Calls.{device_of, fault_of}
use Rattle.bank_core.specs.Disk.{Call, Read, Write, Noted, AllAnswer, covers, sectors_in}
use Rattle.bank_core.specs.Standing.{touches, Untouched}
use Rattle.bank_core.proofs.Standing.{untouched_more}
use Rattle.mirror_io.specs.declared.copies.CopyOf.{CopyOf}
use Rattle.mirror_io.specs.Copies.{is_due}
use Rattle.mirror_io.specs.Reads.{IsReads, rewrites}
use Rattle.txg_history.specs.Events.{Calls, as_events}
use Rattle.txg_history.specs.Groups.{Logs}
use Rattle.txg_history.specs.Moves.{IsSparing, WasCopied, Mays}
use Rattle.txg_history.specs.Needs.{NeedsScan}
use Rattle.txg_history.specs.Pages.{Codec, Sum}
use Rattle.txg_history.specs.Pools.{Pool, after, pool_after}
use Rattle.txg_history.specs.Records.{Cell, AreAtOne, data_start}
use Rattle.txg_history.specs.Survival.{Survives}
use Rattle.txg_history.proofs.Copying.{step_copies}
use Rattle.txg_history.proofs.Logging.{by_bool, same_device, true_not_false}
use Rattle.txg_history.proofs.Moving.{event_survives}
use Rattle.txg_history.proofs.Writing.{heal_sparing, copy_sparing}
use Rattle.pool_moves.specs.FreezeRow.{is_dev}
use Rattle.pool_moves.specs.Keeping.{IsElsewhere, AreSeatsApart, IsAway, IsSeated}
use Rattle.pool_moves.specs.Leaves.{Seat, At, Adrift, told, leaf_seen}
use Rattle.pool_moves.specs.ReadRow.{copy_at, copy_of}
use Rattle.pool_moves.specs.ScanRows.{is_read_call, first_reads, is_settled_under, targets, AreLooked, has_copied, WereRead}
use Rattle.pool_moves.proofs.FreezeWalks.{leaves_by}
use Rattle.pool_moves.proofs.ReadWalks.{IsCopy, hurt_one, read_one, write_call}
use Rattle.pool_moves.proofs.Tests.{other_back, some_same}

-- What a read gave was read.
is_read_gives : {dev at : ℕ} {bytes : List ℕ} {fault : Option Fault} (call : Call) → call ≡ Read dev at bytes fault → is_read_call call ≡ true
is_read_gives call is = ap is_read_call is

read_behind : (bytes : List ℕ) (noted : Noted) (made : List Noted) → is_read_call noted.call ≡ true → WereRead bytes made
    → WereRead bytes (cond (is_read_call noted.call) (noted ∷ made) [])
read_behind bytes noted made is read = subst (WereRead bytes) (sym (ap (λ t. cond t (noted ∷ made) []) is)) (inr read)

pub first_longer : (bytes : List ℕ) (first second : List Noted) → WereRead bytes (first_reads first) → WereRead bytes (first_reads (first ++ second))
first_longer bytes [] second read = absurd read
first_longer bytes (noted ∷ first) second read = by (λ more. first_longer bytes first second more) (is_read_call noted.call) read
  where
    by : (WereRead bytes (first_reads first) → WereRead bytes (first_reads (first ++ second))) → (t : Bool)
        → WereRead bytes (cond t (noted ∷ first_reads first) []) → WereRead bytes (cond t (noted ∷ first_reads (first ++ second)) [])
    by longer true (inl is) = inl is
    by longer true (inr more) = inr (longer more)
    by longer false none = absurd none

pub outcome_first : (at : ℕ) (sum : List ℕ) (copies : List CopyOf) (made more : List Noted) (wrong : List CopyOf) (bytes : List ℕ)
    → IsReads at sum copies made wrong (Some bytes) → WereRead bytes (first_reads (made ++ more))
outcome_first at sum [] made more wrong bytes reads = absurd (let none : Some bytes ≡ None = reads.2 in cc)
outcome_first at sum (copy ∷ copies) [] more wrong bytes reads = absurd reads
outcome_first at sum (copy ∷ copies) (noted ∷ made) more wrong bytes (inl (fails, rest)) =
    read_behind bytes noted (first_reads (made ++ more)) (is_read_gives noted.call fails.gives.is) (outcome_first at sum copies made more wrong bytes rest)
outcome_first at sum (copy ∷ copies) (noted ∷ made) more wrong bytes (inr (inl (others, differs, wrong_is, rest))) =
    read_behind bytes noted (first_reads (made ++ more)) (is_read_gives noted.call differs.gives.is) (outcome_first at sum copies made more others bytes rest)
outcome_first at sum (copy ∷ copies) (noted ∷ made) more wrong bytes (inr (inr (found, serves, made_is, wrong_is, outcome_is))) =
    subst (WereRead bytes) (sym (ap (λ t. cond t (noted ∷ first_reads (made ++ more)) []) (is_read_gives noted.call serves.gives.is)))
    (inl (copy.dev, at, serves.gives.is ∙ ap (λ b. Read copy.dev at b None) (sym (some_same bytes found outcome_is))))

-- A target: a copy whose leaf owes the key, for which the key's birth is settled.
pub record IsTarget (member : ℕ → Bool) (in_top : ℕ → ℕ) (owes settled : Logs) (cell : Cell) (copy : CopyOf) : Type 0 where
  pub is_copy : IsCopy member in_top owes cell copy
  pub is_settled : settled copy.dev cell.birth ≡ true

-- a scan that hasn't come past the key needs nothing at its place
not_scanned : (c : Codec) (p : Pool) (k : Key) (cell : Cell) (d : ℕ) → Survives c p → p.reads.cells k ≡ Some cell → p.scan.passed k ≡ false
    → p.in_top d ≡ cell.top → NeedsScan p.scan p.reads p.in_top d (data_start + cell.sector) cell.block → ⊥
not_scanned c p k cell d sv at ahead top n =
    let one : AreAtOne cell n.cell = (
      sym top ∙ n.top_is,
      let there : data_start + cell.sector
          ≡ data_start + n.cell.sector = n.at.sector_is in omega (arith, there),
    ) in
    let same : (k ≡ n.k) × (cell ≡ n.cell) = sv.one_key.one p.reads p.reads k n.k cell n.cell sv.order.reads_live
    sv.order.reads_live at n.cell_is one in
    true_not_false (p.scan.passed k) (subst (λ j. p.scan.passed j ≡ true) (sym same.0) n.is_passed) ahead

-- Copies to targets.
copy_first : (c : Codec) (p : Pool) (k : Key) (cell : Cell) (copy : CopyOf) (more : List CopyOf) (made : List Noted) → Survives c p
    → p.reads.cells k ≡ Some cell → p.scan.passed k ≡ false → IsTarget p.member p.in_top p.owes p.settled cell copy
    → asks_of made ≡ Writes copy.dev (data_start + cell.sector) cell.block ∷ rewrites (data_start + cell.sector) cell.block more
    → ((noted : Noted) (made : List Noted) → Survives c (after (Calls noted) p) → asks_of made ≡ rewrites (data_start + cell.sector) cell.block more
    → Mays c (after (Calls noted) p) (as_events made)) → Mays c p (as_events made)
copy_first c p k cell copy more [] sv at ahead target asks rest = absurd (cc)
copy_first c p k cell copy more (noted ∷ made) sv at ahead target asks rest =
    let call = write_call noted.call copy.dev (data_start + cell.sector) cell.block
    (let a : ask_of noted.call ≡ Writes copy.dev (data_start + cell.sector) cell.block = cc in a) in
    let sparing = subst (IsSparing p) (sym call.1) (copy_sparing c p k cell copy.dev call.0 sv at
    (λ is. (target.is_copy.top_is, target.is_settled, not_scanned c p k cell copy.dev sv at ahead target.is_copy.top_is))) in (
      sparing,
      rest noted made (event_survives c p (Calls noted) sv sparing)
          (let b : asks_of made ≡ rewrites (data_start + cell.sector) cell.block more = cc in b),
    )

pub copies_may : (c : Codec) (p : Pool) (k : Key) (cell : Cell) (copies : List CopyOf) (made : List Noted) → Survives c p → p.reads.cells k ≡ Some cell
    → p.scan.passed k ≡ false
    → AllByRecursion (IsTarget p.member p.in_top p.owes p.settled cell) copies → asks_of made ≡ rewrites (data_start + cell.sector) cell.block copies
    → Mays c p (as_events made)
copies_may c p k cell [] [] sv at ahead are asks = tt
copies_may c p k cell [] (noted ∷ made) sv at ahead are asks = absurd (cc)
copies_may c p k cell (copy ∷ more) made sv at ahead are asks = copy_first c p k cell copy more made sv at ahead are.0 asks
    (λ noted made sv asks. copies_may c (after (Calls noted) p) k cell more made sv at ahead are.1 asks)

-- Further looks of a scrub, at copies whose leaves don't owe the key.
look_rewrite : (c : Codec) (p : Pool) (k : Key) (cell : Cell) (copy : CopyOf) (rewrite : Noted) → Survives c p → p.reads.cells k ≡ Some cell
    → IsCopy p.member p.in_top p.owes cell copy
    → (p.sectors copy.dev (data_start + cell.sector)).damaged ≡ true → ask_of rewrite.call ≡ Writes copy.dev (data_start + cell.sector) cell.block
    → IsSparing p rewrite.call
look_rewrite c p k cell copy rewrite sv at is hurt ask = let call = write_call rewrite.call copy.dev (data_start + cell.sector) cell.block ask in
    subst (IsSparing p) (sym call.1) (heal_sparing c p k cell copy.dev call.0 sv at (λ mine. (is.top_is, hurt)))

pub looks_may : (c : Codec) (p : Pool) (k : Key) (cell : Cell) (copies : List CopyOf) (made : List Noted) → Survives c p → p.reads.cells k ≡ Some cell
    → AllByRecursion (IsCopy p.member p.in_top p.owes cell) copies → AllByRecursion (λ copy. copy.lacks ≡ false) copies → AllAnswer p.sectors made
    → AreLooked (data_start + cell.sector) (sha256 cell.block) cell.block copies made → Mays c p (as_events made)
looks_may c p k cell [] made sv at are has answers looks = subst (λ made. Mays c p (as_events made)) (sym looks) tt
looks_may c p k cell (copy ∷ more) [] sv at are has answers looks = absurd looks
looks_may c p k cell (copy ∷ more) (noted ∷ made) sv at are has answers (inl (fails, rest)) =
    let sparing = read_one c p noted copy.dev (data_start + cell.sector) fails.bytes (Some fails.fault) fails.gives.is in
    (sparing, looks_may c (after (Calls noted) p) k cell more made (event_survives c p (Calls noted) sv sparing) at are.1 has.1 answers.1 rest)
looks_may c p k cell (copy ∷ more) (noted ∷ made) sv at are has answers (inr (inl (bytes, serves, rest))) =
    let sparing = read_one c p noted copy.dev (data_start + cell.sector) bytes None serves.gives.is in
    (sparing, looks_may c (after (Calls noted) p) k cell more made (event_survives c p (Calls noted) sv sparing) at are.1 has.1 answers.1 rest)
looks_may c p k cell (copy ∷ more) (noted ∷ made) sv at are has answers (inr (inr (rewrite, rest, differs, made_is, ask, later))) =
    let sparing = read_one c p noted copy.dev (data_start + cell.sector) differs.bytes None differs.gives.is in
    let read = event_survives c p (Calls noted) sv sparing in
    let hurt = hurt_one c p k cell copy noted differs.bytes sv at are.0 differs.gives.is differs.gives.whole differs.other answers.0 has.0 in
    let again = look_rewrite c (after (Calls noted) p) k cell copy rewrite read at are.0 hurt ask in (
      sparing,
      subst (λ made. Mays c (after (Calls noted) p) (as_events made)) (sym made_is) (
        again,
        looks_may c (after (Calls rewrite) (after (Calls noted) p)) k cell more rest
            (event_survives c (after (Calls noted) p) (Calls rewrite) read again) at are.1 has.1
            (subst (AllAnswer (after (Calls noted) p).sectors) made_is answers.1).1 later,
      ),
    )

-- Calls that put nothing on a device.
abbrev pub AreOthers : (d : ℕ) → List CopyOf → Type 0
AreOthers d copies = AllByRecursion (λ copy. (copy.dev == d) ≡ false) copies

off_device : (t u : Bool) → t ≡ false → (t && u) ≡ false
off_device true u off = absurd (cc)
off_device false u off = refl

write_off : (call : Call) (e at : ℕ) (bytes : List ℕ) (d s : ℕ) → ask_of call ≡ Writes e at bytes → (e == d) ≡ false → touches call d s ≡ false
write_off call e at bytes d s ask off = let is = write_call call e at bytes ask in
    subst (λ call. touches call d s ≡ false) (sym is.1) (off_device (e == d) (covers at (sectors_in bytes) s) off)

read_off : (call : Call) (e at : ℕ) (bytes : List ℕ) (fault : Option Fault) (d s : ℕ) → call ≡ Read e at bytes fault → touches call d s ≡ false
read_off call e at bytes fault d s is = subst (λ call. touches call d s ≡ false) (sym is) refl

pub looks_untouched : (at : ℕ) (sum block : List ℕ) (copies : List CopyOf) (made : List Noted) (d s : ℕ) → AreOthers d copies
    → AreLooked at sum block copies made → Untouched made d s
looks_untouched at sum block [] made d s others looks = subst (λ made. Untouched made d s) (sym looks) tt
looks_untouched at sum block (copy ∷ more) [] d s others looks = absurd looks
looks_untouched at sum block (copy ∷ more) (noted ∷ made) d s others (inl (fails, rest)) =
    (read_off noted.call copy.dev at fails.bytes (Some fails.fault) d s fails.gives.is, looks_untouched at sum block more made d s others.1 rest)
looks_untouched at sum block (copy ∷ more) (noted ∷ made) d s others (inr (inl (bytes, serves, rest))) =
    (read_off noted.call copy.dev at bytes None d s serves.gives.is, looks_untouched at sum block more made d s others.1 rest)
looks_untouched at sum block (copy ∷ more) (noted ∷ made) d s others (inr (inr (rewrite, rest, differs, made_is, ask, later))) = (
  read_off noted.call copy.dev at differs.bytes None d s differs.gives.is,
  subst (λ made. Untouched made d s) (sym made_is) (
    write_off rewrite.call copy.dev at block d s ask others.0,
    looks_untouched at sum block more rest d s others.1 later,
  ),
)

copies_untouched : (at : ℕ) (block : List ℕ) (copies : List CopyOf) (made : List Noted) (d s : ℕ) → AreOthers d copies
    → asks_of made ≡ rewrites at block copies → Untouched made d s
copies_untouched at block [] [] d s others asks = tt
copies_untouched at block [] (noted ∷ made) d s others asks = absurd (cc)
copies_untouched at block (copy ∷ more) [] d s others asks = absurd (cc)
copies_untouched at block (copy ∷ more) (noted ∷ made) d s others asks = (
  write_off noted.call copy.dev at block d s (let a : ask_of noted.call ≡ Writes copy.dev at block = cc in a) others.0,
  copies_untouched at block more made d s others.1 (let b : asks_of made ≡ rewrites at block more = cc in b),
)

-- Targets on devices of their own.
abbrev pub AreTargetsApart : List CopyOf → Type 0
AreTargetsApart [] = Unit {0}
AreTargetsApart (copy ∷ more) = AreOthers copy.dev more × AreTargetsApart more

-- A target to which a copy answered Ok has the key.
none_of : (fault : Option Fault) → is_none fault ≡ true → fault ≡ None
none_of None is = refl
none_of (Some fault) is = absurd (cc)

was_copied : (p : Pool) (cell : Cell) (d : ℕ) (copy : CopyOf) (noted : Noted) (made later : List Noted) → length cell.block ≡ 4096
    → ask_of noted.call ≡ Writes copy.dev (data_start + cell.sector) cell.block → is_dev (device_of noted.call) (Some d) ≡ true
    → is_none (fault_of noted.call) ≡ true
    → ((copy.dev == d) ≡ true → Untouched (made ++ later) d (data_start + cell.sector)) → WasCopied (pool_after (as_events (noted ∷ (made ++ later))) p) d cell
was_copied p cell d copy noted made later long ask here ok rest =
    let call = write_call noted.call copy.dev (data_start + cell.sector) cell.block ask in
    let same : (copy.dev == d) ≡ true = subst (λ call. is_dev (device_of call) (Some d) ≡ true) call.1 here in
    let is_write : noted.call ≡ Write d (data_start + cell.sector) cell.block None = call.1
    ∙ (ap (λ e. Write e (data_start + cell.sector) cell.block call.0) (same_device copy.dev d same)
    ∙ ap (λ fault. Write d (data_start + cell.sector) cell.block fault)
    (none_of call.0 (subst (λ call. is_none (fault_of call) ≡ true) call.1 ok))) in
    step_copies p noted (made ++ later) d cell is_write long (rest same)

others_at : (d e : ℕ) (copies : List CopyOf) → (d == e) ≡ true → AreOthers d copies → AreOthers e copies
others_at d e copies same others = subst (λ n. AreOthers n copies) (same_device d e same) others

pub copied_at : (p : Pool) (cell : Cell) (d : ℕ) (copies : List CopyOf) (made later : List Noted) → length cell.block ≡ 4096 → AreTargetsApart copies
    → asks_of made ≡ rewrites (data_start + cell.sector) cell.block copies → has_copied (Some d) made ≡ true → Untouched later d (data_start + cell.sector)
    → WasCopied (pool_after (as_events (made ++ later)) p) d cell
copied_at p cell d [] [] later long apart asks ok u = absurd (cc)
copied_at p cell d [] (noted ∷ made) later long apart asks ok u = absurd (cc)
copied_at p cell d (copy ∷ more) [] later long apart asks ok u = absurd (cc)
copied_at p cell d (copy ∷ more) (noted ∷ made) later long apart asks ok u =
    let ask : ask_of noted.call ≡ Writes copy.dev (data_start + cell.sector) cell.block = cc in
    let rest : asks_of made ≡ rewrites (data_start + cell.sector) cell.block more = cc in
    ⊎_elim
    (λ here. let parts = and_parts (is_dev (device_of noted.call) (Some d)) (is_none (fault_of noted.call)) here in
    was_copied p cell d copy noted made later long ask parts.0 parts.1
    (λ same. untouched_more made later d (data_start + cell.sector) (copies_untouched (data_start + cell.sector) cell.block more made d
    (data_start + cell.sector) (others_at copy.dev d more same apart.0) rest) u))
    (λ deeper. copied_at (after (Calls noted) p) cell d more made later long apart.1 rest deeper u)
    (or_cases (is_dev (device_of noted.call) (Some d) && is_none (fault_of noted.call)) (has_copied (Some d) made) ok)

-- Of leaves, those that pass a test, and of their copies those that are due.
filter_step : {A B : Type 0} (P : List B → Type 0) (test : A → Bool) (g : A → B) (due : B → Bool) (x : A) (xs : List A)
    → P (filter due (map g (filter test xs)))
    → (test x ≡ true → due (g x) ≡ true → P (g x ∷ filter due (map g (filter test xs)))) → P (filter due (map g (filter test (x ∷ xs))))
filter_step P test g due x xs rest new = by_bool (test x)
    (λ is. subst (λ t. P (filter due (map g (cond t (x ∷ filter test xs) (filter test xs))))) (sym is) (by_bool (due (g x))
    (λ on. subst (λ u. P (cond u (g x ∷ filter due (map g (filter test xs))) (filter due (map g (filter test xs))))) (sym on) (new is on))
    (λ off. subst (λ u. P (cond u (g x ∷ filter due (map g (filter test xs))) (filter due (map g (filter test xs))))) (sym off) rest)))
    (λ off. subst (λ t. P (filter due (map g (cond t (x ∷ filter test xs) (filter test xs))))) (sym off) rest)

no_copy : {A : Type 0} (readable lacks : Bool) (dev : Option ℕ) → dev ≡ None → is_due true (copy_at readable dev lacks) ≡ true → A
no_copy readable lacks dev none due = absurd (let never : false ≡ true = sym (ap (λ dev. is_due true (copy_at readable dev lacks)) none) ∙ due in cc)

target_at : (p : Pool) (cell : Cell) (sum : Sum) (f : Bool) (seat : Seat) → sum.birth ≡ cell.birth → sum.top ≡ cell.top → IsAway seat → IsSeated p.member seat
    → is_settled_under sum (leaf_seen f (told p) seat) ≡ true → is_due true (copy_of sum.birth (leaf_seen f (told p) seat)) ≡ true
    → IsTarget p.member p.in_top p.owes p.settled cell (copy_of sum.birth (leaf_seen f (told p) seat))
target_at p cell sum f (At d true own) birth top away seated under due =
    let parts = and_parts (p.in_top d == sum.top) (p.settled d sum.birth) under in record {
      is_copy = record { is_member = seated; top_is = same_device (p.in_top d) sum.top parts.0 ∙ top; lacks_is = ap (p.owes d) (sym birth) };
      is_settled = ap (p.settled d) (sym birth) ∙ parts.1;
    }
target_at p cell sum f (At d false own) birth top away seated under due = absurd (let never : false ≡ true = due in cc)
target_at p cell sum f (Adrift leaf) birth top away seated under due = no_copy _ (leaf.owes sum.birth) leaf.dev away.0 due

pub targets_are : (p : Pool) (cell : Cell) (sum : Sum) (f : Bool) (seats : List Seat) → sum.birth ≡ cell.birth → sum.top ≡ cell.top
    → AllByRecursion IsAway seats → AllByRecursion (IsSeated p.member) seats
    → AllByRecursion (IsTarget p.member p.in_top p.owes p.settled cell) (targets sum (leaves_by f p seats))
targets_are p cell sum f [] birth top away seated = tt
targets_are p cell sum f (seat ∷ seats) birth top away seated =
    filter_step (AllByRecursion (IsTarget p.member p.in_top p.owes p.settled cell)) (is_settled_under sum) (copy_of sum.birth) (is_due true)
    (leaf_seen f (told p) seat) (leaves_by f p seats) (targets_are p cell sum f seats birth top away.1 seated.1)
    (λ under due. (target_at p cell sum f seat birth top away.0 seated.0 under due, targets_are p cell sum f seats birth top away.1 seated.1))

other_target : (p : Pool) (sum : Sum) (f : Bool) (d : ℕ) (seat : Seat) → IsAway seat → IsElsewhere d seat
    → is_due true (copy_of sum.birth (leaf_seen f (told p) seat)) ≡ true
    → ((copy_of sum.birth (leaf_seen f (told p) seat)).dev == d) ≡ false
other_target p sum f d (At e true own) away off due = other_back d e off
other_target p sum f d (At e false own) away off due = absurd (let never : false ≡ true = due in cc)
other_target p sum f d (Adrift leaf) away off due = no_copy _ (leaf.owes sum.birth) leaf.dev away.0 due

other_targets : (p : Pool) (sum : Sum) (f : Bool) (d : ℕ) (seats : List Seat) → AllByRecursion IsAway seats → AllByRecursion (IsElsewhere d) seats
    → AreOthers d (targets sum (leaves_by f p seats))
other_targets p sum f d [] away off = tt
other_targets p sum f d (seat ∷ seats) away off =
    filter_step (AreOthers d) (is_settled_under sum) (copy_of sum.birth) (is_due true) (leaf_seen f (told p) seat) (leaves_by f p seats)
    (other_targets p sum f d seats away.1 off.1)
    (λ under due. (other_target p sum f d seat away.0 off.0 due, other_targets p sum f d seats away.1 off.1))

apart_target : (p : Pool) (sum : Sum) (f : Bool) (seat : Seat) (seats : List Seat) → AllByRecursion IsAway (seat ∷ seats) → AreSeatsApart (seat ∷ seats)
    → is_due true (copy_of sum.birth (leaf_seen f (told p) seat)) ≡ true
    → AreOthers (copy_of sum.birth (leaf_seen f (told p) seat)).dev (targets sum (leaves_by f p seats))
apart_target p sum f (At e true own) seats away apart due = other_targets p sum f e seats away.1 apart.0
apart_target p sum f (At e false own) seats away apart due = absurd (let never : false ≡ true = due in cc)
apart_target p sum f (Adrift leaf) seats away apart due = no_copy _ (leaf.owes sum.birth) leaf.dev away.0.0 due

rest_apart : (seat : Seat) (seats : List Seat) → AreSeatsApart (seat ∷ seats) → AreSeatsApart seats
rest_apart (At d found own) seats apart = apart.1
rest_apart (Adrift leaf) seats apart = apart

pub targets_apart : (p : Pool) (sum : Sum) (f : Bool) (seats : List Seat) → AllByRecursion IsAway seats → AreSeatsApart seats
    → AreTargetsApart (targets sum (leaves_by f p seats))
targets_apart p sum f [] away apart = tt
targets_apart p sum f (seat ∷ seats) away apart =
    filter_step AreTargetsApart (is_settled_under sum) (copy_of sum.birth) (is_due true) (leaf_seen f (told p) seat) (leaves_by f p seats)
    (targets_apart p sum f seats away.1 (rest_apart seat seats apart))
    (λ under due. (apart_target p sum f seat seats away apart due, targets_apart p sum f seats away.1 (rest_apart seat seats apart)))
