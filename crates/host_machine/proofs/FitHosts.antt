-- Each host that a line leads to is fit.
use Rattle.std.proofs.Common.{◌≡◌, ◌⊎◌, ℕ, zero, suc, Bool, true, false, cond, List, ◌∷◌, length, Option, Some, None, refl, sym, ap, ◌∙◌, subst, inl, inr, ◌+◌}
use Rattle.std.specs.Prelude.{nat_lt}
use Rattle.std.proofs.lemmas.Bool.{ltb-true}
use Rattle.bank_core.specs.Disk.{Noted}
use Rattle.mp_base.specs.declared.refusal.Refusal.{Refusal}
use Rattle.mp_base.specs.declared.refusal.Refusal.TheVariants as refusals
use Rattle.label_store.specs.declared.found.Found.{Found}
use Rattle.pool_wire.specs.declared.reply.Reply.{Reply}
use Rattle.pool_wire.specs.declared.reply.Reply.TheVariants as replies
use Rattle.pool_wire.specs.declared.request.Request.{Request}
use Rattle.pool_wire.specs.declared.request.Request.TheVariants as requests
use Rattle.config_codec.specs.Fields.{Fields}
use Rattle.config_codec.specs.Reading.{config_in}
use Rattle.pool_history.specs.Records.{Rec}
use Rattle.pool_core.specs.Away.{leaf_named}
use Rattle.pool_core.specs.Done.{no_leaf}
use Rattle.pool_core.specs.Logs.{drawn}
use Rattle.pool_core.specs.Recorded.{fields_in}
use Rattle.pool_core.specs.State.{LeafState, PoolState, leaves, has_nobody, written, is_spent, last_number}
use Rattle.pool_core.specs.Syncing.{synced}
use Rattle.host_machine.specs.Devices.{number_in}
use Rattle.host_machine.specs.Fitness.{IsFitPool, PoolIsFit, PoolIsNamed, IsFit, IsWhole}
use Rattle.host_machine.specs.Machine.{HostState, Entry, with_pool, named_pool, refused, Quietly, commit_outcome, create_outcome, is_bad_size, new_seats, new_state, CreatesOn, CreatesUnless, IsCreate, open_seats, open_state, OpensIf, OpensOn, OpensUnless, OpensBest, IsImport, write_answer, SyncsUnless, IsSync, OfflinesIn, OnlinesOn, OnlinesNamed, OnlinesIn, logs_answer, IsAnswered, WantsMemory, Clashes}
use Rattle.host_machine.specs.Records.{is_known, record_of, with_record, IsDrawn, AreDrawn}
use Rattle.host_machine.proofs.DrawnStates.{synced_fit, synced_named}
use Rattle.host_machine.proofs.FoundStates.{AreNames, opened_fit, opened_named, created_fit, created_named}
use Rattle.host_machine.proofs.HostSeats.{identified_found, found_seated}
use Rattle.host_machine.proofs.LeafLines.{FitIn, is_offline_fit, onlines_fit}
use Rattle.host_machine.proofs.NextStates.{fit_settled, written_fit}
use Rattle.host_machine.proofs.QuietLines.{named_is, answer_host, put_if}
use Rattle.host_machine.proofs.Settling.{IsSettled, known_each, settled_drawn}

same_fit : (h next : HostState) → IsFit h → next ≡ h → IsFit next
same_fit h next fit same = subst IsFit (sym same) fit

quiet_fit : (h next : HostState) (made : List Noted) (said reply : Reply) → IsFit h → Quietly made (h, said) next reply → IsFit next
quiet_fit h next made said reply fit quiet = same_fit h next fit (ap (λ x. x.0) quiet.1)

-- with another pool, and with one more record

-- The state is fit in the host.
abbrev FitsIn : HostState → PoolState → Type 0
FitsIn h t = FitIn h.table h.size t

with_fit : (h : HostState) (t : PoolState) → IsFit h → FitsIn h t → IsFit (with_pool h t)
with_fit h t fit pool = record { apart = fit.apart; sized = fit.sized; drawn = fit.drawn; pool = pool.0; named = pool.1 }

drawn_with : (t : PoolState) (records : List Rec) → IsSettled t → AreDrawn records → AreDrawn (with_record t records)
drawn_with t records settled drawn = by (is_known t) refl
  where
    by : (b : Bool) → is_known t ≡ b → AreDrawn (cond b (record_of t ∷ records) records)
    by true known r (inl same) = (fields_in t, subst (λ q. IsDrawn q (fields_in t)) (sym same) (settled_drawn t settled (known_each t settled known)))
    by true known r (inr earlier) = drawn r earlier
    by false unknown r e = drawn r e

record_fit : (h : HostState) (t : PoolState) → IsFit h → IsFitPool h.size t → AreDrawn (with_record t h.records)
record_fit h t fit pool = drawn_with t h.records (fit_settled h.size t pool) fit.drawn

commit_fit : (h : HostState) (t : PoolState) (failed : ℕ) → IsFit h → FitsIn h t → IsFit (commit_outcome h t failed).0
commit_fit h t zero fit pool = record { apart = fit.apart; sized = fit.sized; drawn = record_fit h t fit pool.0; pool = pool.0; named = pool.1 }
commit_fit h t (suc n) fit pool = record { apart = fit.apart; sized = fit.sized; drawn = record_fit h t fit pool.0; pool = tt; named = tt }

create_outcome_fit : (h : HostState) (t : PoolState) (failed : Option LeafState) → IsFit h → FitsIn h t → IsFit (create_outcome h t failed).0
create_outcome_fit h t None fit pool = record { apart = fit.apart; sized = fit.sized; drawn = record_fit h t fit pool.0; pool = pool.0; named = pool.1 }
create_outcome_fit h t (Some leaf) fit pool = record { apart = fit.apart; sized = fit.sized; drawn = record_fit h t fit pool.0; pool = fit.pool; named = fit.named }

-- the open pool of a fit host
open_fits : (h : HostState) (s : PoolState) → IsFit h → h.pool ≡ Some s → FitsIn h s
open_fits h s fit is = (subst (PoolIsFit h.size) is fit.pool, subst (PoolIsNamed h.table) is fit.named)

-- The lines.

put_fit : (h : HostState) (s : PoolState) (a : ℕ) (block : List ℕ) (b : Bool) (fault : Refusal) → IsFit h → FitsIn h s → length block ≡ 4096 → nat_lt a s.blocks ≡ b
    → IsFit (with_pool h (put_if b s a block fault).0)
put_fit h s a block true fault fit pool long below = with_fit h (written s a block) fit (written_fit h.size s a block pool.0 (ltb-true a s.blocks below) long, pool.1)
put_fit h s a block false fault fit pool long above = with_fit h s fit pool

write_fit : (h next : HostState) (pool : Option PoolState) (a : ℕ) (block : List ℕ) (made : List Noted) (reply : Reply) → IsFit h → length block ≡ 4096
    → ((s : PoolState) → pool ≡ Some s → h.pool ≡ Some s) → Quietly made (write_answer h pool a block) next reply → IsFit next
write_fit h next None a block made reply fit long named quiet = quiet_fit h next made (refused h refusals.NoPool).1 reply fit quiet
write_fit h next (Some s) a block made reply fit long named quiet =
    subst IsFit (sym (ap (λ x. x.0) quiet.1))
    (put_fit h s a block (nat_lt a s.blocks) (refusals.BadAddress s.blocks) fit (open_fits h s fit (named s refl)) long refl)

sync_by_fit : (h next : HostState) (s : PoolState) (spent nobody : Bool) (made : List Noted) (reply : Reply) → IsFit h → FitsIn h s → is_spent s.number ≡ spent
    → SyncsUnless spent nobody h s made next reply → IsFit next
sync_by_fit h next s true nobody made reply fit pool is quiet = quiet_fit h next made (refused h (refusals.TreeFull last_number (s.number + 1))).1 reply fit quiet
sync_by_fit h next s false true made reply fit pool is quiet = quiet_fit h next made (refused h (no_leaf s)).1 reply fit quiet
sync_by_fit h next s false false made reply fit pool is (failed, c, e) =
    subst IsFit (sym (ap (λ x. x.0) e)) (commit_fit h (synced s) failed fit (synced_fit h.size s pool.0 is, synced_named h.table s pool.1))

sync_fit : (h next : HostState) (pool : Option PoolState) (made : List Noted) (reply : Reply) → IsFit h → ((s : PoolState) → pool ≡ Some s → h.pool ≡ Some s) → IsSync h pool made next reply → IsFit next
sync_fit h next None made reply fit named quiet = quiet_fit h next made (refused h refusals.NoPool).1 reply fit quiet
sync_fit h next (Some s) made reply fit named syncs =
    sync_by_fit h next s (is_spent s.number) (has_nobody s) made reply fit (open_fits h s fit (named s refl)) refl syncs

offline_fit : (h next : HostState) (pool : Option PoolState) (name : List ℕ) (temporary : Bool) (made : List Noted) (reply : Reply) → IsFit h
    → ((s : PoolState) → pool ≡ Some s → h.pool ≡ Some s) → OfflinesIn h pool name temporary made next reply → IsFit next
offline_fit h next None name temporary made reply fit named quiet = quiet_fit h next made (refused h refusals.NoPool).1 reply fit quiet
offline_fit h next (Some s) name temporary made reply fit named (left, result, takes, quiet) =
    subst IsFit (sym (ap (λ x. x.0) quiet.1)) (with_fit h left fit (is_offline_fit h.table h.size s fit.apart (open_fits h s fit (named s refl)) name temporary left result takes))

online_on_fit : (h next : HostState) (s : PoolState) (name : List ℕ) (leaf : LeafState) (dev : Option ℕ) (made : List Noted) (reply : Reply) → IsFit h → FitsIn h s
    → leaf_named name (leaves s) ≡ Some leaf → number_in leaf.name h.table ≡ dev → OnlinesOn h s leaf dev made next reply → IsFit next
online_on_fit h next s name leaf None made reply fit pool is numbered quiet = quiet_fit h next made (replies.NoDevice leaf.name) reply fit quiet
online_on_fit h next s name leaf (Some dev) made reply fit pool is numbered (left, result, onlines, next_is, reply_is) =
    subst IsFit (sym next_is) (with_fit h left fit (onlines_fit h.table h.size s fit.apart pool name leaf dev made left result is numbered onlines))

online_named_fit : (h next : HostState) (s : PoolState) (name : List ℕ) (leaf : Option LeafState) (made : List Noted) (reply : Reply) → IsFit h → FitsIn h s
    → leaf_named name (leaves s) ≡ leaf → OnlinesNamed h s leaf made next reply → IsFit next
online_named_fit h next s name None made reply fit pool is quiet = quiet_fit h next made (refused h refusals.NoVdev).1 reply fit quiet
online_named_fit h next s name (Some leaf) made reply fit pool is onlines = online_on_fit h next s name leaf (number_in leaf.name h.table) made reply fit pool is refl onlines

online_fit : (h next : HostState) (pool : Option PoolState) (name : List ℕ) (made : List Noted) (reply : Reply) → IsFit h → ((s : PoolState) → pool ≡ Some s → h.pool ≡ Some s)
    → OnlinesIn h pool name made next reply → IsFit next
online_fit h next None name made reply fit named quiet = quiet_fit h next made (refused h refusals.NoPool).1 reply fit quiet
online_fit h next (Some s) name made reply fit named onlines =
    online_named_fit h next s name (leaf_named name (leaves s)) made reply fit (open_fits h s fit (named s refl)) refl onlines

logs_fit : (h next : HostState) (pool : Option PoolState) (made : List Noted) (reply : Reply) → IsFit h → Quietly made (logs_answer h pool) next reply → IsFit next
logs_fit h next None made reply fit quiet = quiet_fit h next made (refused h refusals.NoPool).1 reply fit quiet
logs_fit h next (Some s) made reply fit quiet = quiet_fit h next made (logs_answer h (Some s)).1 reply fit quiet

opens_fit : (h next : HostState) (s : PoolState) (nobody : Bool) (made : List Noted) (reply : Reply) → IsFit h → FitsIn h (drawn s) → OpensIf nobody h s made next reply → IsFit next
opens_fit h next s true made reply fit pool quiet = quiet_fit h next made (refused h (no_leaf s)).1 reply fit quiet
opens_fit h next s false made reply fit pool (failed, c, e) = subst IsFit (sym (ap (λ x. x.0) e)) (commit_fit h (drawn s) failed fit pool)

opens_on_fit : (h next : HostState) (config : List ℕ) (c : Fields) (pool : Option PoolState) (made : List Noted) (reply : Reply) → IsFit h → config_in config ≡ Some c → is_spent c.number.0 ≡ false
    → OpensOn h config c pool made next reply → IsFit next
opens_on_fit h next config c (Some other) made reply fit is open_numbers quiet = quiet_fit h next made (refused h refusals.NotBuilt).1 reply fit quiet
opens_on_fit h next config c None made reply fit is open_numbers (ids, more, found, all, identified, opens) =
    let seated = found_seated h c found fit.sized (identified_found h.size c (open_seats h c) found ids identified) in
    opens_fit h next (open_state h config c found) (has_nobody (open_state h config c found)) more reply fit
    (opened_fit h config c found fit is open_numbers seated, opened_named h config c found seated) opens

opens_unless_fit : (h next : HostState) (config : List ℕ) (c : Fields) (spent : Bool) (made : List Noted) (reply : Reply) → IsFit h → config_in config ≡ Some c → is_spent c.number.0 ≡ spent
    → OpensUnless spent h config c made next reply → IsFit next
opens_unless_fit h next config c true made reply fit is numbers quiet = quiet_fit h next made (refused h (refusals.TreeFull last_number (c.number.0 + 1))).1 reply fit quiet
opens_unless_fit h next config c false made reply fit is numbers opens = opens_on_fit h next config c h.pool made reply fit is numbers opens

best_fit : (h next : HostState) (best : Option Found) (made : List Noted) (reply : Reply) → IsFit h → OpensBest h best made next reply → IsFit next
best_fit h next None made reply fit quiet = quiet_fit h next made (refused h refusals.NoRecord).1 reply fit quiet
best_fit h next (Some found) made reply fit (c, is, opens) = opens_unless_fit h next found.blob.items c (is_spent c.number.0) made reply fit is refl opens

pub import_fit : (h next : HostState) (name : List ℕ) (made : List Noted) (reply : Reply) → IsFit h → IsImport h name made next reply → IsFit next
import_fit h next name made reply fit i = best_fit h next i.best i.more reply fit i.opens

creates_on_fit : (h next : HostState) (second : ℕ) (name : List ℕ) (blocks : ℕ) (first other : List ℕ) (seats : Option (ℕ × ℕ)) (made : List Noted) (reply : Reply) → IsFit h → AreNames name first other
    → is_bad_size blocks ≡ false → new_seats h blocks first other ≡ seats → CreatesOn h second name blocks first other seats made next reply → IsFit next
creates_on_fit h next second name blocks first other None made reply fit names good seated quiet = quiet_fit h next made (refused h refusals.NotBuilt).1 reply fit quiet
creates_on_fit h next second name blocks first other (Some seats) made reply fit names good seated (failed, are_made, e) =
    subst IsFit (sym (ap (λ x. x.0) e)) (create_outcome_fit h (new_state h second name blocks first other seats) failed fit
    (created_fit h second name blocks first other seats fit names good seated, created_named h second name blocks first other seats seated))

creates_unless_fit : (h next : HostState) (bad : Bool) (second : ℕ) (name : List ℕ) (blocks : ℕ) (first other : List ℕ) (made : List Noted) (reply : Reply) → IsFit h → AreNames name first other
    → is_bad_size blocks ≡ bad → CreatesUnless bad h second name blocks first other made next reply → IsFit next
creates_unless_fit h next true second name blocks first other made reply fit names is quiet = quiet_fit h next made (refused h (refusals.BadAddress 262144)).1 reply fit quiet
creates_unless_fit h next false second name blocks first other made reply fit names is creates =
    creates_on_fit h next second name blocks first other (new_seats h blocks first other) made reply fit names is refl creates

pub create_fit : (h next : HostState) (second : ℕ) (name : List ℕ) (blocks : ℕ) (first other : List ℕ) (made : List Noted) (reply : Reply) → IsFit h → AreNames name first other
    → IsCreate h second name blocks first other made next reply → IsFit next
create_fit h next second name blocks first other made reply fit names creates =
    creates_unless_fit h next (is_bad_size blocks) second name blocks first other made reply fit names refl creates

-- where a create's names are names
answered_fit : (h next : HostState) (entry : Entry) (asked : Option Request) (made : List Noted)
    → ((name : List ℕ) (blocks : ℕ) (first other : List ℕ) → asked ≡ Some (requests.Create name blocks first other) → AreNames name first other)
    → IsWhole asked → IsFit h → IsAnswered h asked entry made next → IsFit next
answered_fit h next entry None made names whole fit is = quiet_fit h next made (refused h refusals.NotBuilt).1 entry.reply fit is
answered_fit h next entry (Some requests.Nothing) made names whole fit is = quiet_fit h next made replies.Done entry.reply fit is
answered_fit h next entry (Some (requests.Create pool blocks first other)) made names whole fit is =
    create_fit h next entry.second pool blocks first other made entry.reply fit (names pool blocks first other refl) is
answered_fit h next entry (Some (requests.Import pool)) made names whole fit is = import_fit h next pool made entry.reply fit is
answered_fit h next entry (Some (requests.Write pool a block)) made names whole fit is =
    write_fit h next (named_pool pool h.pool) a block made entry.reply fit whole (λ s e. named_is pool h.pool s e) is
answered_fit h next entry (Some (requests.Read pool a)) made names whole fit is =
    same_fit h next fit (ap (λ x. x.0) is.1 ∙ answer_host h (named_pool pool h.pool) a entry.outside entry.given)
answered_fit h next entry (Some (requests.Sync pool)) made names whole fit is = sync_fit h next (named_pool pool h.pool) made entry.reply fit (λ s e. named_is pool h.pool s e) is
answered_fit h next entry (Some (requests.Offline pool device temporary)) made names whole fit is =
    offline_fit h next (named_pool pool h.pool) device temporary made entry.reply fit (λ s e. named_is pool h.pool s e) is
answered_fit h next entry (Some (requests.Online pool device)) made names whole fit is =
    online_fit h next (named_pool pool h.pool) device made entry.reply fit (λ s e. named_is pool h.pool s e) is
answered_fit h next entry (Some (requests.Logs pool)) made names whole fit is = logs_fit h next (named_pool pool h.pool) made entry.reply fit is

pub line_fit : (h next : HostState) (entry : Entry) (made : List Noted)
    → ((name : List ℕ) (blocks : ℕ) (first other : List ℕ) → entry.asked ≡ Some (requests.Create name blocks first other) → AreNames name first other)
    → IsWhole entry.asked → IsFit h → IsAnswered h entry.asked entry made next ⊎ (WantsMemory h entry made next ⊎ Clashes h entry made next) → IsFit next
line_fit h next entry made names whole fit (inl is) = answered_fit h next entry entry.asked made names whole fit is
line_fit h next entry made names whole fit (inr (inl memory)) = same_fit h next fit memory.same
line_fit h next entry made names whole fit (inr (inr clashes)) = same_fit h next fit clashes.same
