-- A line keeps the records that were drawn up before.
use Rattle.std.proofs.Common.{◌≡◌, ◌⊎◌, ℕ, zero, suc, Bool, true, false, List, Option, Some, None, refl, sym, ap, ◌∙◌, subst, inl, inr}
use Rattle.bank_core.specs.Disk.{Noted}
use Rattle.label_store.specs.declared.found.Found.{Found}
use Rattle.config_codec.specs.Fields.{Fields}
use Rattle.pool_wire.specs.declared.reply.Reply.{Reply}
use Rattle.pool_wire.specs.declared.request.Request.{Request}
use Rattle.pool_wire.specs.declared.request.Request.TheVariants as requests
use Rattle.pool_history.specs.Records.{Rec, IsIn}
use Rattle.pool_core.specs.Logs.{drawn}
use Rattle.pool_core.specs.State.{LeafState, PoolState, has_nobody, is_spent}
use Rattle.pool_core.specs.Syncing.{synced}
use Rattle.host_machine.specs.Devices.{number_in}
use Rattle.host_machine.specs.Machine.{HostState, Entry, named_pool, commit_outcome, create_outcome, is_bad_size, new_seats, new_state, CreatesOn, CreatesUnless, open_state, OpensIf, OpensOn, OpensUnless, OpensBest, Quietly, write_answer, SyncsUnless, IsSync, OfflinesIn, OnlinesOn, OnlinesNamed, OnlinesIn, logs_answer, IsAnswered, WantsMemory, Clashes}
use Rattle.host_machine.specs.Records.{with_record}
use Rattle.host_machine.proofs.QuietLines.{answer_host}
use Rattle.host_machine.proofs.Standings.{drawn_stays}

-- the records of a host, or with one more
abbrev GrowsBy : (old new : List Rec) → Type 0
GrowsBy old new = (new ≡ old) ⊎ ((t : PoolState) × (new ≡ with_record t old))

abbrev Grows : HostState → HostState → Type 0
Grows h next = GrowsBy h.records next.records

same_grows : (h next : HostState) (reply : Reply) (said : HostState × Reply) → (next, reply) ≡ said → said.0.records ≡ h.records → Grows h next
same_grows h next reply said e same = inl (ap (λ x. x.0.records) e ∙ same)

commit_grows : (h next : HostState) (reply : Reply) (t : PoolState) (failed : ℕ) → (next, reply) ≡ commit_outcome h t failed → Grows h next
commit_grows h next reply t zero e = inr (t, ap (λ x. x.0.records) e)
commit_grows h next reply t (suc n) e = inr (t, ap (λ x. x.0.records) e)

create_grows : (h next : HostState) (reply : Reply) (t : PoolState) (failed : Option LeafState) → (next, reply) ≡ create_outcome h t failed → Grows h next
create_grows h next reply t None e = inr (t, ap (λ x. x.0.records) e)
create_grows h next reply t (Some leaf) e = inr (t, ap (λ x. x.0.records) e)

module _ (h next : HostState) (made : List Noted) (reply : Reply) where
  on_grows : (second : ℕ) (name : List ℕ) (blocks : ℕ) (first other : List ℕ) (seats : Option (ℕ × ℕ)) → CreatesOn h second name blocks first other seats made next reply → Grows h next
  on_grows second name blocks first other None quiet = same_grows h next reply _ quiet.1 refl
  on_grows second name blocks first other (Some seats) (failed, are_made, e) = create_grows h next reply (new_state h second name blocks first other seats) failed e

  create_by : (bad : Bool) (second : ℕ) (name : List ℕ) (blocks : ℕ) (first other : List ℕ) → CreatesUnless bad h second name blocks first other made next reply → Grows h next
  create_by true second name blocks first other quiet = same_grows h next reply _ quiet.1 refl
  create_by false second name blocks first other creates = on_grows second name blocks first other (new_seats h blocks first other) creates

  write_grows : (pool : Option PoolState) (a : ℕ) (block : List ℕ) → Quietly made (write_answer h pool a block) next reply → Grows h next
  write_grows None a block quiet = same_grows h next reply _ quiet.1 refl
  write_grows (Some s) a block quiet = same_grows h next reply _ quiet.1 refl

  sync_by : (spent nobody : Bool) (s : PoolState) → SyncsUnless spent nobody h s made next reply → Grows h next
  sync_by true nobody s quiet = same_grows h next reply _ quiet.1 refl
  sync_by false true s quiet = same_grows h next reply _ quiet.1 refl
  sync_by false false s (failed, c, e) = commit_grows h next reply (synced s) failed e

  sync_grows : (pool : Option PoolState) → IsSync h pool made next reply → Grows h next
  sync_grows None quiet = same_grows h next reply _ quiet.1 refl
  sync_grows (Some s) syncs = sync_by (is_spent s.number) (has_nobody s) s syncs

  offline_grows : (pool : Option PoolState) (name : List ℕ) (temporary : Bool) → OfflinesIn h pool name temporary made next reply → Grows h next
  offline_grows None name temporary quiet = same_grows h next reply _ quiet.1 refl
  offline_grows (Some s) name temporary (left, result, takes, quiet) = same_grows h next reply _ quiet.1 refl

  online_on : (s : PoolState) (leaf : LeafState) (dev : Option ℕ) → OnlinesOn h s leaf dev made next reply → Grows h next
  online_on s leaf None quiet = same_grows h next reply _ quiet.1 refl
  online_on s leaf (Some dev) (left, result, onlines, next_is, reply_is) = inl (ap (λ (n : HostState). n.records) next_is)

  online_named : (s : PoolState) (leaf : Option LeafState) → OnlinesNamed h s leaf made next reply → Grows h next
  online_named s None quiet = same_grows h next reply _ quiet.1 refl
  online_named s (Some leaf) onlines = online_on s leaf (number_in leaf.name h.table) onlines

  online_grows : (pool : Option PoolState) (name : List ℕ) → OnlinesIn h pool name made next reply → Grows h next
  online_grows None name quiet = same_grows h next reply _ quiet.1 refl
  online_grows (Some s) name onlines = online_named s _ onlines

  logs_grows : (pool : Option PoolState) → Quietly made (logs_answer h pool) next reply → Grows h next
  logs_grows None quiet = same_grows h next reply _ quiet.1 refl
  logs_grows (Some s) quiet = same_grows h next reply _ quiet.1 refl

opens_if : (h next : HostState) (s : PoolState) (nobody : Bool) (made : List Noted) (reply : Reply) → OpensIf nobody h s made next reply → Grows h next
opens_if h next s true made reply quiet = same_grows h next reply _ quiet.1 refl
opens_if h next s false made reply (failed, c, e) = commit_grows h next reply (drawn s) failed e

opens_on : (h next : HostState) (config : List ℕ) (c : Fields) (pool : Option PoolState) (made : List Noted) (reply : Reply) → OpensOn h config c pool made next reply → Grows h next
opens_on h next config c (Some other) made reply quiet = same_grows h next reply _ quiet.1 refl
opens_on h next config c None made reply (ids, more, found, all, identified, opens) =
    opens_if h next (open_state h config c found) (has_nobody (open_state h config c found)) more reply opens

opens_unless : (h next : HostState) (config : List ℕ) (c : Fields) (spent : Bool) (made : List Noted) (reply : Reply) → OpensUnless spent h config c made next reply → Grows h next
opens_unless h next config c true made reply quiet = same_grows h next reply _ quiet.1 refl
opens_unless h next config c false made reply opens = opens_on h next config c h.pool made reply opens

best_grows : (h next : HostState) (best : Option Found) (made : List Noted) (reply : Reply) → OpensBest h best made next reply → Grows h next
best_grows h next None made reply quiet = same_grows h next reply _ quiet.1 refl
best_grows h next (Some found) made reply (c, is, opens) = opens_unless h next found.blob.items c (is_spent c.number.0) made reply opens

answered_grows : (h next : HostState) (entry : Entry) (asked : Option Request) (made : List Noted) → IsAnswered h asked entry made next → Grows h next
answered_grows h next entry None made is = same_grows h next entry.reply _ is.1 refl
answered_grows h next entry (Some requests.Nothing) made is = same_grows h next entry.reply _ is.1 refl
answered_grows h next entry (Some (requests.Create pool blocks first other)) made is =
    create_by h next made entry.reply (is_bad_size blocks) entry.second pool blocks first other is
answered_grows h next entry (Some (requests.Import pool)) made is = best_grows h next is.best is.more entry.reply is.opens
answered_grows h next entry (Some (requests.Write pool a block)) made is = write_grows h next made entry.reply (named_pool pool h.pool) a block is
answered_grows h next entry (Some (requests.Read pool a)) made is =
    inl (ap (λ x. x.0.records) is.1 ∙ ap (λ (n : HostState). n.records) (answer_host h (named_pool pool h.pool) a entry.outside entry.given))
answered_grows h next entry (Some (requests.Sync pool)) made is = sync_grows h next made entry.reply (named_pool pool h.pool) is
answered_grows h next entry (Some (requests.Offline pool device temporary)) made is = offline_grows h next made entry.reply (named_pool pool h.pool) device temporary is
answered_grows h next entry (Some (requests.Online pool device)) made is = online_grows h next made entry.reply (named_pool pool h.pool) device is
answered_grows h next entry (Some (requests.Logs pool)) made is = logs_grows h next made entry.reply (named_pool pool h.pool) is

grown : (old new : List Rec) (r : Rec) → GrowsBy old new → IsIn r old → IsIn r new
grown old new r (inl same) is = subst (IsIn r) (sym same) is
grown old new r (inr (t, more)) is = subst (IsIn r) (sym more) (drawn_stays t old r is)

pub line_keeps : (h next : HostState) (entry : Entry) (made : List Noted) (r : Rec) → IsAnswered h entry.asked entry made next ⊎ (WantsMemory h entry made next ⊎ Clashes h entry made next)
    → IsIn r h.records → IsIn r next.records
line_keeps h next entry made r (inl is) = grown h.records next.records r (answered_grows h next entry entry.asked made is)
line_keeps h next entry made r (inr (inl memory)) = grown h.records next.records r (inl (ap (λ (n : HostState). n.records) memory.same))
line_keeps h next entry made r (inr (inr clashes)) = grown h.records next.records r (inl (ap (λ (n : HostState). n.records) clashes.same))
