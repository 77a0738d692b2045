-- Which lines leave what was written last.
use Rattle.pool_runs.specs.Acts.{Opening, Act, Bare, Does, Looked, Reads_as, Takes, Bears, Closes, Seeks_by, Reads_pages, Marks, does, bare, calls_along, pool_by, pool_along, read_by}
use Rattle.pool_runs.specs.Writing.{HasOpening, IsTakenWrite, IsImport, KeepsWrites}
use Rattle.std.proofs.Common.{◌≡◌, ◌⊎◌, inl, inr, ⊎_elim, ℕ, ◌==◌, Bool, true, false, cond, List, [], ◌∷◌, ◌++◌, Option, Some, None, refl, sym, ap, ◌∙◌, subst, nat_le, length, ◌+◌, nat_lt}
use Rattle.std.specs.List.{AllByRecursion}
use Rattle.std.specs.Str.{bytes_eq}
use Rattle.bank_core.specs.Disk.{Noted}
use Rattle.label_store.specs.Newest.{AreReads}
use Rattle.label_store.specs.declared.found.Found.{Found}
use Rattle.mp_base.specs.declared.place.Key.{Key}
use Rattle.txg_history.specs.Events.{Calls, Looks, Loses, as_events, Known, Opens}
use Rattle.txg_history.specs.Pages.{Codec}
use Rattle.txg_history.specs.Pools.{Pool, after, pool_after}
use Rattle.txg_history.specs.Records.{Rec, block_at}
use Rattle.txg_history.proofs.Logging.{by_bool}
use Rattle.txg_history.specs.Premises.{Premises}
use Rattle.pool_moves.specs.AwayRows.{WriteReply, Taken, BadAddress, Full, NoSpace, WriteFits, WriteBy, RowWrite, is_spare, leaf_named}
use Rattle.pool_moves.specs.LineRows.{TurnReply, Idle, Write, Flush, Round, Committed, Suspended}
use Rattle.pool_moves.specs.Moves.{Move, Makes, Puts, events_of, Widen, step, steps}
use Rattle.pool_moves.specs.OpeningRow.{SeekReply, NoRecord, NumbersEnd, TakesRecord, OpenReply, Opens_state, NoPage, lacking_of, IsLiveOne}
use Rattle.pool_moves.specs.ReadRow.{made_in}
use Rattle.pool_moves.specs.StampRow.{Stamp, CreateReply, Created, FaultOn, new_state}
use Rattle.pool_moves.specs.PageReads.{PageTurn, page_of, up_to}
use Rattle.pool_moves.specs.States.{PoolState, PoolSeen}
use Rattle.pool_runs.specs.Creating.{tops_of, stamp_acts, new_birth, commit_acts, RowCreate}
use Rattle.pool_runs.specs.Devices.{size_in, number_in}
use Rattle.pool_runs.specs.HostRows.{AreMade, WriteLine, OnPool, RowOf, ChangesNone, MayRewrite, HostRow, graft_acts, GraftUnless, GraftOnto, GraftIf, GraftLine, DetachLine}
use Rattle.pool_runs.specs.Fairness.{AreFair}
use Rattle.pool_runs.specs.Hosts.{Host, named, holder}
use Rattle.pool_runs.specs.Importing.{read_in, all_shown, map_acts, OpensBy, FollowsMap, ImportBy, host_behind, ImportFor, ImportUnless}
use Rattle.pool_runs.specs.Lines.{Asked, Asks_write, Asks_import, Asks_create, Reply, To_write, No_memory, Entry, Asks_graft, Asks_detach}
use Rattle.pool_runs.proofs.Acting.{number_of_test, own_events}
use Rattle.pool_runs.proofs.Committing.{KeepsWritten, written_kind, move_written}
use Rattle.pool_runs.proofs.GroupMoves.{all_found, more, all_calls, all_commits}
use Rattle.pool_runs.proofs.Importing.{looks_along, record_live, import_live}
use Rattle.pool_runs.proofs.Known.{Knows}
use Rattle.pool_runs.proofs.LineMoves.{IsLineKind, IsActKind, line_resume, line_does, both_acts, plain_line}
use Rattle.bank_core.specs.declared.bank.Fault.{Fault}
use Rattle.pool_moves.specs.Leaves.{LeafSeen, Seat}
use Rattle.pool_moves.specs.Refusing.{FreezeRefusal}
use Rattle.pool_moves.specs.ScanRows.{starts_scan}
use Rattle.pool_moves.specs.TreeRows.{Graft, TreeRefusal, graft_refusal, comes_in, graft_first, graft_moves, GraftReply, GraftEnds, GraftOn, GraftAt, GraftFor, RowGraft, goes_out, is_there, IsCleaned, DetachReply, DetachBehind, DetachFor, DetachLeaf, DetachBy}
use Rattle.pool_moves.specs.Walking.{as_moves}
use Rattle.pool_moves.specs.Widening.{AreWidens}

-- Acts that leave what was written.
calls_written : (made : List Noted) (p : Pool) → (pool_after (as_events made) p).written ≡ p.written
calls_written [] p = refl
calls_written (noted ∷ made) p = calls_written made (after (Calls noted) p)

abbrev StillAt : Act → Type 0
StillAt (Does g v) = KeepsWritten v
StillAt (Reads_as opening) = ⊥
StillAt act = Unit {0}

abbrev AllStill : List Act → Type 0
AllStill acts = AllByRecursion StillAt acts

act_still : (act : Act) (p : Pool) → StillAt act → (pool_by act p).written ≡ p.written
act_still (Bare noted) p still = refl
act_still (Does g v) p still = by (p.pool.0 == g)
  where
    by : (t : Bool) → (pool_after (cond t (events_of v p) (as_events (made_in (v ∷ [])))) p).written ≡ p.written
    by true = move_written v p still
    by false = calls_written (made_in (v ∷ [])) p
act_still (Looked name known) p still = by (bytes_eq p.name name)
  where
    by : (t : Bool) → (pool_after (cond t (Looks known ∷ []) []) p).written ≡ p.written
    by true = refl
    by false = refl
act_still (Reads_as opening) p still = absurd still
act_still (Takes g e) p still = by (p.pool.0 == g)
  where
    by : (t : Bool) → (pool_after (cond t [] (Loses e ∷ [])) p).written ≡ p.written
    by true = refl
    by false = refl
act_still act p still = refl

acts_still : (acts : List Act) (p : Pool) → AllStill acts → (pool_along acts p).written ≡ p.written
acts_still [] p still = refl
acts_still (act ∷ acts) p still = acts_still acts (pool_by act p) still.1 ∙ act_still act p still.0

still_front : (first second : List Act) → AllStill (first ++ second) → AllStill first
still_front [] second all = tt
still_front (act ∷ first) second all = (all.0, still_front first second all.1)

-- Lines that make such acts.
written_line : IsLineKind KeepsWritten
written_line = record {
  kind = written_kind;
  freezes = λ cells board. tt;
  burns = tt;
  drops = λ d. tt;
  clears = λ d. tt;
  passes = λ key birth marks. tt;
  scans = λ hi eligible. tt;
  scrubs = tt;
  rests = tt;
  finds = λ m d. tt;
}

still_acts : IsActKind KeepsWritten StillAt
still_acts = record { does = λ g v is. is; marks = λ g mark. tt; shows = λ g e known. tt }

still_bare : (made : List Noted) (rest : List Act) → AllStill rest → AllStill (bare made ++ rest)
still_bare [] rest all = all
still_bare (noted ∷ made) rest all = (tt, still_bare made rest all)

still_stamps : (g : ℕ) (stamps : List Stamp) → AllStill (stamp_acts g stamps)
still_stamps g [] = tt
still_stamps g (stamp ∷ stamps) = (tt, still_bare stamp.made (stamp_acts g stamps) (still_stamps g stamps))

still_commit : (answer : CreateReply) (g : ℕ) (vs : List Move) → AllByRecursion KeepsWritten vs → AllStill (commit_acts answer g vs)
still_commit Created g vs all = line_does KeepsWritten written_line StillAt still_acts g vs all
still_commit (FaultOn device) g vs all = both_acts KeepsWritten written_line StillAt still_acts (does g vs) (Closes g ∷ []) (line_does KeepsWritten written_line StillAt still_acts g vs all) (tt, tt)

still_create : (c : Codec) (h : Host) (name : List ℕ) (blocks : ℕ) (tops : List (List (List ℕ))) (acts : List Act) (reply : Reply)
    → RowCreate c h name blocks tops acts reply → AllStill acts
still_create c h name blocks tops acts reply (inl row) = subst AllStill (sym row.2) tt
still_create c h name blocks tops acts reply (inr (inl row)) = subst AllStill (sym row.all) (tt, still_stamps row.pool.0 row.stamps)
still_create c h name blocks tops acts reply (inr (inr row)) =
    let behind = Bears (new_birth name row.pool blocks h.table tops) ∷ commit_acts row.answer row.pool.0 row.moves in
    subst AllStill (sym row.all) (
      tt,
      both_acts KeepsWritten written_line StillAt still_acts (stamp_acts row.pool.0 row.stamps) behind (still_stamps row.pool.0 row.stamps) (
        tt,
        still_commit row.answer row.pool.0 row.moves
            (all_found KeepsWritten written_kind (λ cells board. tt) c (size_in h.table) (new_state (size_in h.table) name row.pool blocks (tops_of h.table tops)) row.moves row.row.whole row.row.row),
      ),
    )

-- A leaf that is put in, and one that is taken out.
abbrev AllWritten : List Move → Type 0
AllWritten vs = AllByRecursion KeepsWritten vs

written_calls : (made : List Noted) → AllWritten (as_moves made)
written_calls made = all_calls KeepsWritten written_kind made

written_widens : (s : PoolSeen) (vs : List Move) → AreWidens s vs → AllWritten vs
written_widens s [] are = tt
written_widens s (Widen m low high ∷ vs) are = (tt, written_widens (step (Widen m low high) s) vs are.2)
written_widens s (v ∷ vs) are = absurd are

written_ends : (outcome : Option Fault) (graft : Graft) (s : PoolState) (name : List ℕ) (leaf : LeafSeen) (new : List ℕ) (d : ℕ) (made : List Noted)
    (vs : List Move) (reply : GraftReply) → GraftEnds outcome graft s name leaf new d made vs reply → AllWritten vs
written_ends (Some fault) graft s name leaf new d made vs reply row = subst AllWritten (sym row.0) (tt, written_calls made)
written_ends None graft s name leaf new d made vs reply row = subst AllWritten (sym row.0.moves)
    (more KeepsWritten (graft_moves graft s name leaf new d made) row.0.widens (
      tt,
      more KeepsWritten (as_moves made ++ comes_in graft s name leaf new d) (starts_scan (steps (graft_first graft s name leaf new d made) s) ∷ [])
          (more KeepsWritten (as_moves made) (comes_in graft s name leaf new d) (written_calls made) (tt, (tt, (tt, tt)))) (tt, tt),
    )
    (written_widens (steps (graft_moves graft s name leaf new d made) s).core row.0.widens row.0.are))

written_graft : (size : ℕ → ℕ) (graft : Graft) (s : PoolState) (name new : List ℕ) (d : ℕ) (vs : List Move) (reply : GraftReply)
    → RowGraft size graft s name new d vs reply → AllWritten vs
written_graft size graft s name new d vs reply row = for (graft_refusal graft s name (leaf_named name s.core.leaves)) row
  where
    on : (small : Bool) (leaf : LeafSeen) → GraftOn small size graft s name leaf new d vs reply → AllWritten vs
    on true leaf row = subst AllWritten (sym row.0) tt
    on false leaf row = written_ends row.outcome graft s name leaf new d row.made vs reply row.ends

    at : (found : Option LeafSeen) → GraftAt found size graft s name new d vs reply → AllWritten vs
    at None row = absurd row
    at (Some leaf) row = on (nat_lt (size d) (s.core.room leaf.top + 256)) leaf row

    for : (refusal : Option TreeRefusal) → GraftFor refusal size graft s name new d vs reply → AllWritten vs
    for (Some refusal) row = subst AllWritten (sym row.0) tt
    for None row = at (leaf_named name s.core.leaves) row

still_does : (g : ℕ) (vs : List Move) → AllWritten vs → AllStill (does g vs)
still_does g vs all = line_does KeepsWritten written_line StillAt still_acts g vs all

still_graft_acts : (g d : ℕ) (vs : List Move) → AllWritten vs → AllStill (graft_acts g d vs)
still_graft_acts g d [] all = tt
still_graft_acts g d (v ∷ vs) all = (tt, still_does g (v ∷ vs) all)

still_graft : (found : Option PoolState) (h : Host) (graft : Graft) (leaf new : List ℕ) (acts : List Act) (reply : Reply)
    → OnPool found (GraftLine h graft leaf new) acts reply → AllStill acts
still_graft None h graft leaf new acts reply row = subst AllStill (sym row.0) tt
still_graft (Some s) h graft leaf new acts reply row = refused (graft_refusal graft s leaf (leaf_named leaf s.core.leaves)) row
  where
    unless : (d : ℕ) (found : Option PoolState) → GraftUnless found h s graft leaf new d acts reply → AllStill acts
    unless d (Some u) row = subst AllStill (sym row.0) tt
    unless d None row = subst AllStill (sym row.2.are) (still_graft_acts s.core.pool.0 d row.2.moves
        (written_graft (size_in h.table) graft s leaf new d row.2.moves row.0 row.2.row))

    onto : (number : Option ℕ) → GraftOnto number h s graft leaf new acts reply → AllStill acts
    onto None row = subst AllStill (sym row.0) tt
    onto (Some d) row = unless d (holder new d h.pools) row

    refused : (refusal : Option TreeRefusal) → GraftIf refusal h s graft leaf new acts reply → AllStill acts
    refused (Some refusal) row = subst AllStill (sym row.0) tt
    refused None row = onto (number_in new h.table) row

written_cleaned : (there : Bool) (dev : Option ℕ) (spare : Bool) (size : ℕ → ℕ) (vs : List Move) → IsCleaned there dev spare size vs → AllWritten vs
written_cleaned true (Some d) spare size vs row = subst AllWritten (sym row.3) (tt, written_calls row.0)
written_cleaned true None spare size vs row = subst AllWritten (sym row) tt
written_cleaned false dev spare size vs row = subst AllWritten (sym row) tt

written_behind : (turn : TurnReply) (size : ℕ → ℕ) (s : PoolState) (name : List ℕ) (leaf : LeafSeen) (seat : Seat) (vs : List Move) (reply : DetachReply)
    → DetachBehind turn size s name leaf seat vs reply → AllWritten vs
written_behind (Committed number) size s name leaf seat vs reply row = written_cleaned (is_there leaf.own.mode) leaf.dev (is_spare s leaf) size vs row.0
written_behind (Suspended group top faults) size s name leaf seat vs reply row = subst AllWritten (sym row.0) (tt, (tt, tt))
written_behind Idle size s name leaf seat vs reply row = absurd row
written_behind Write size s name leaf seat vs reply row = absurd row
written_behind Flush size s name leaf seat vs reply row = absurd row
written_behind (Round number) size s name leaf seat vs reply row = absurd row

written_detach : (found : Option LeafSeen) (c : Codec) (size : ℕ → ℕ) (s : PoolState) (name : List ℕ) (seat : Seat) (vs : List Move) (reply : DetachReply)
    → DetachBy found c size s name seat vs reply → AllWritten vs
written_detach None c size s name seat vs reply row = subst AllWritten (sym row.0) tt
written_detach (Some leaf) c size s name seat vs reply row = by s.core.group.frozen row
  where
    for : (refusal : Option FreezeRefusal) → DetachFor refusal c size s name leaf seat vs reply → AllWritten vs
    for (Some refusal) row = subst AllWritten (sym row.0) tt
    for None row = subst AllWritten (sym row.moves) (
      tt,
      (
        tt,
        more KeepsWritten row.part row.rest
            (all_commits KeepsWritten written_kind (λ cells board. tt) c size (steps (goes_out s name leaf) s) row.part row.turn (λ bad. tt) row.commit)
            (written_behind row.turn size s name leaf seat row.rest reply row.behind),
      ),
    )

    by : (frozen : Bool) → DetachLeaf frozen c size s name leaf seat vs reply → AllWritten vs
    by true row = subst AllWritten (sym row.0) tt
    by false (inl row) = subst AllWritten (sym row.2) tt
    by false (inr row) = for row.1.0 row.1.2

still_detach : (found : Option PoolState) (c : Codec) (h : Host) (leaf : List ℕ) (acts : List Act) (reply : Reply)
    → OnPool found (DetachLine c h leaf) acts reply → AllStill acts
still_detach None c h leaf acts reply row = subst AllStill (sym row.0) tt
still_detach (Some s) c h leaf acts reply row = subst AllStill (sym row.2.are) (still_does s.core.pool.0 row.2.moves
    (written_detach (leaf_named leaf s.core.leaves) c (size_in h.table) s leaf row.2.seat row.2.moves row.0 row.2.row))

-- A write.
puts_one : (short : Bool) (need free a : ℕ) (block : List ℕ) (vs : List Move) (reply : WriteReply) → WriteFits short need free a block vs reply
    → ((vs ≡ Puts a block ∷ []) × (reply ≡ Taken)) ⊎ (vs ≡ [])
puts_one true need free a block vs reply row = inr row.0
puts_one false need free a block vs reply row = inl row

puts_by : (full : Bool) (s : PoolState) (a : ℕ) (block : List ℕ) (vs : List Move) (reply : WriteReply) → WriteBy full s a block vs reply
    → ((vs ≡ Puts a block ∷ []) × (reply ≡ Taken)) ⊎ (vs ≡ [])
puts_by true s a block vs reply row = inr row.0
puts_by false s a block vs reply row = puts_one _ _ row.0 a block vs reply row.2

puts_or : (s : PoolState) (a : ℕ) (block : List ℕ) (vs : List Move) (reply : WriteReply) → RowWrite s a block vs reply
    → ((vs ≡ Puts a block ∷ []) × (reply ≡ Taken)) ⊎ (vs ≡ [])
puts_or s a block vs reply (inl row) = inr row.1
puts_or s a block vs reply (inr row) = puts_by _ s a block vs reply row.1

taken_reply : (r : WriteReply) → To_write r ≡ To_write Taken → r ≡ Taken
taken_reply r e = cc

taken_moves : (s : PoolState) (a : ℕ) (block : List ℕ) (vs : List Move) → RowWrite s a block vs Taken → vs ≡ Puts a block ∷ []
taken_moves s a block vs (inl row) = absurd (let no : Taken ≡ BadAddress s.own.blocks = row.2 in cc)
taken_moves s a block vs (inr row) = full _ row.1
  where
    fits : (short : Bool) (need free : ℕ) → WriteFits short need free a block vs Taken → vs ≡ Puts a block ∷ []
    fits true need free row = absurd (let no : Taken ≡ NoSpace need free = row.1 in cc)
    fits false need free row = row.0

    full : (t : Bool) → WriteBy t s a block vs Taken → vs ≡ Puts a block ∷ []
    full true row = absurd (let no : Taken ≡ Full = row.1 in cc)
    full false row = fits _ _ row.0 row.2

put_written : (g a : ℕ) (block : List ℕ) (p : Pool) → p.pool.0 ≡ g → (x : ℕ)
    → (pool_along (does g (Puts a block ∷ [])) p).written x ≡ cond (a == x) block (p.written x)
put_written g a block p is x = ap (λ vs. (pool_after vs p).written x) (own_events g (Puts a block) p is)

write_puts : (c : Codec) (h : Host) (p : Pool) (e : Entry) (a : ℕ) (block : List ℕ) → HostRow c h e → IsTakenWrite h p e a block → (x : ℕ)
    → (pool_along e.acts p).written x ≡ cond (a == x) block (p.written x)
write_puts c h p e a block (inr out) w x = absurd (let no : To_write Taken ≡ No_memory = sym w.reply ∙ out.says in cc)
write_puts c h p e a block (inl row) w x =
    let line : WriteLine h a block w.s e.acts e.reply = subst (λ found. OnPool found (WriteLine h a block) e.acts e.reply) w.at.named (subst (λ asked. RowOf c h asked e.acts e.reply) w.asked row.0) in
    let done : RowWrite w.s a block line.2.moves Taken = subst (RowWrite w.s a block line.2.moves) (taken_reply line.0 (sym line.1 ∙ w.reply)) line.2.row in
    let acts : e.acts ≡ does w.s.core.pool.0 (Puts a block ∷ []) = line.2.are ∙ ap (does w.s.core.pool.0) (taken_moves w.s a block line.2.moves done) in
    ap (λ acts. (pool_along acts p).written x) acts ∙ put_written w.s.core.pool.0 a block p (sym w.at.ours) x

-- what each line leaves
abbrev Leaves : Codec → Host → Pool → Entry → Type 0
Leaves c h p e = (((a : ℕ) × (block : List ℕ) × IsTakenWrite h p e a block) ⊎ IsImport c p (pool_along e.acts p) e)
    ⊎ ((x : ℕ) → (pool_along e.acts p).written x ≡ p.written x)

leaves_still : (c : Codec) (h : Host) (p : Pool) (e : Entry) → AllStill e.acts → Leaves c h p e
leaves_still c h p e all = inr (λ x. ap (λ f. f x) (acts_still e.acts p all))

other_put : (g a : ℕ) (block : List ℕ) (p : Pool) → (p.pool.0 == g) ≡ false → (pool_along (does g (Puts a block ∷ [])) p).written ≡ p.written
other_put g a block p off = ap (λ t. (pool_after (cond t (events_of (Puts a block) p) []) p).written) off

write_leaves : (c : Codec) (h : Host) (p : Pool) (e : Entry) (name : List ℕ) (a : ℕ) (block : List ℕ) (found : Option PoolState) → named name h.pools ≡ found
    → e.asked ≡ Asks_write name a block
    → OnPool found (WriteLine h a block) e.acts e.reply → Leaves c h p e
write_leaves c h p e name a block None at asked row = leaves_still c h p e (subst AllStill (sym row.0) tt)
write_leaves c h p e name a block (Some s) at asked line = ⊎_elim
    (λ put. let acts : e.acts ≡ does s.core.pool.0 (Puts a block ∷ []) = line.2.are ∙ ap (does s.core.pool.0) put.0 in by_bool (p.pool.0 == s.core.pool.0)
    (λ ours. inl (inl (
      a,
      block,
      record {
        name = name;
        s = s;
        asked = asked;
        at = record { named = at; ours = sym (number_of_test p.pool.0 s.core.pool.0 ours) };
        reply = line.1 ∙ ap To_write put.1;
      },
    )))
    (λ off. inr (λ x. ap (λ acts. (pool_along acts p).written x) acts ∙ ap (λ f. f x) (other_put s.core.pool.0 a block p off))))
    (λ none. leaves_still c h p e (subst AllStill (sym (line.2.are ∙ ap (does s.core.pool.0) none)) tt))
    (puts_or s a block line.2.moves line.0 line.2.row)

-- An import: it reads one record, and leaves what this one has.
still_shown : (g : ℕ) (known : Known) (devs : List (Option ℕ)) (rest : List Act) → AllStill rest → AllStill (all_shown g known devs ++ rest)
still_shown g known [] rest all = all
still_shown g known (None ∷ devs) rest all = still_shown g known devs rest all
still_shown g known (Some e ∷ devs) rest all = (tt, still_shown g known devs rest all)

still_opens : (turn : TurnReply) (g : ℕ) (s : PoolState) (vs : List Move) (acts : List Act) (reply : Reply) → AllWritten vs
    → OpensBy turn g s vs acts reply → AllStill acts
still_opens (Committed number) g s vs acts reply all by = subst AllStill (sym by.0) (tt, still_does g vs all)
still_opens (Suspended group top faults) g s vs acts reply all by = subst AllStill (sym by.0)
    (tt, both_acts KeepsWritten written_line StillAt still_acts (does g vs) (Closes g ∷ []) (still_does g vs all) (tt, tt))
still_opens Idle g s vs acts reply all by = absurd by
still_opens Write g s vs acts reply all by = absurd by
still_opens Flush g s vs acts reply all by = absurd by
still_opens (Round number) g s vs acts reply all by = absurd by

still_follows : (outcome : OpenReply) (c : Codec) (size : ℕ → ℕ) (g : ℕ) (acts : List Act) (reply : Reply) → FollowsMap outcome c size g acts reply
    → AllStill acts
still_follows (NoPage page shown) c size g acts reply row = subst AllStill (sym row.0) tt
still_follows (Opens_state s) c size g acts reply row = still_opens row.1 g s row.0 acts reply
    (line_resume KeepsWritten written_line (lacking_of s.core.leaves s.core.leaves) c size s row.0 row.1 row.2) row.3

still_map : (g : ℕ) (bytes : Key → Option (List ℕ)) (turns : List PageTurn) (last : List Noted) (rest : List Act) → AllStill rest
    → AllStill (map_acts g bytes turns last rest)
still_map g bytes [] last rest all = still_bare last (Marks g (Reads_pages bytes) ∷ rest) (tt, all)
still_map g bytes (turn ∷ turns) last rest all =
    still_bare turn.reads (Marks g (Reads_pages (up_to (page_of turn) bytes)) ∷ (bare turn.rewrites ++ map_acts g bytes turns last rest))
    (tt, still_bare turn.rewrites (map_acts g bytes turns last rest) (still_map g bytes turns last rest all))

-- Only calls and looks come before the record that is read, which is the live one that was found where the opening is fair; and nothing behind it changes
-- what was written.
abbrev IsLiveAs : Codec → Pool → Opening → Type 0
IsLiveAs c p opening = p.name ≡ opening.name → Premises c.head_of p opening.known → IsLiveOne p opening.found (read_by opening p)

abbrev ReadsOnce : Codec → (name : List ℕ) → Pool → List Act → Type 0
ReadsOnce c name p [] = Unit {0}
ReadsOnce c name p (Bare noted ∷ acts) = ReadsOnce c name (after (Calls noted) p) acts
ReadsOnce c name p (Looked other known ∷ acts) = ReadsOnce c name p acts
ReadsOnce c name p (Reads_as opening ∷ acts) = (opening.name ≡ name) × AllStill acts × IsLiveAs c p opening
ReadsOnce c name p (act ∷ acts) = ⊥

once_front : (c : Codec) (name : List ℕ) (p : Pool) (first second : List Act) → ReadsOnce c name p (first ++ second) → ReadsOnce c name p first
once_front c name p [] second once = tt
once_front c name p (Bare noted ∷ first) second once = once_front c name (after (Calls noted) p) first second once
once_front c name p (Looked other known ∷ first) second once = once_front c name p first second once
once_front c name p (Reads_as opening ∷ first) second once = (once.0, still_front first second once.1, once.2)
once_front c name p (act ∷ first) second once = absurd once

once_bare : (c : Codec) (name : List ℕ) (p : Pool) (made : List Noted) (rest : List Act) → ReadsOnce c name (pool_after (as_events made) p) rest
    → ReadsOnce c name p (bare made ++ rest)
once_bare c name p [] rest once = once
once_bare c name p (noted ∷ made) rest once = once_bare c name (after (Calls noted) p) made rest once

once_by : (seek : SeekReply) (c : Codec) (h : Host) (p : Pool) (name : List ℕ) (known : Known) (acts : List Act) (reply : Reply)
    → ((found : Found) → seek ≡ TakesRecord found → p.name ≡ name → Premises c.head_of p known → (r : Rec) × IsLiveOne p found r)
    → ImportBy seek c h name known acts reply → ReadsOnce c name p acts
once_by NoRecord c h p name known acts reply live row = subst (ReadsOnce c name p) (sym row.0) tt
once_by (NumbersEnd limit count) c h p name known acts reply live row = subst (ReadsOnce c name p) (sym row.0) tt
once_by (TakesRecord found) c h p name known acts reply live row = subst (ReadsOnce c name p) (sym row.are) (
  refl,
  still_bare row.row.ids (all_shown found.pool.0 (read_in row.row.ids) row.row.devs ++ (mark ∷ turned))
      (still_shown found.pool.0 (read_in row.row.ids) row.row.devs (mark ∷ turned) (
        tt,
        still_map found.pool.0 row.row.bytes row.row.turns row.row.last row.rest
            (still_follows row.outcome c (size_in h.table) found.pool.0 row.rest reply row.follows),
      )),
  λ same premises. let one = live found refl same premises in record_live p found one.0 one.1,
)
  where
    mark : Act
    mark = Marks found.pool.0 (Seeks_by row.row.ids row.row.devs)

    turned : List Act
    turned = map_acts found.pool.0 row.row.bytes row.row.turns row.row.last row.rest

once_for : (full : Bool) (c : Codec) (h : Host) (p : Pool) (name : List ℕ) (acts : List Act) (reply : Reply) → Knows c h p → AreMade h (calls_along acts)
    → ImportFor full c h name acts reply → ReadsOnce c name p acts
once_for true c h p name acts reply knows made row = subst (ReadsOnce c name p) (sym row.0) tt
once_for false c h p name acts reply knows made row = subst (ReadsOnce c name p) (sym row.are)
    (once_bare c name p row.made (Looked name _ ∷ row.rest)
    (once_by row.seek c (host_behind row.made h) (pool_after (as_events row.made) p) name _ row.rest reply
    (import_live c h p name acts reply knows made row) row.follows))

once_import : (found : Option PoolState) (c : Codec) (h : Host) (p : Pool) (name : List ℕ) (acts : List Act) (reply : Reply) → Knows c h p
    → AreMade h (calls_along acts) → ImportUnless found c h name acts reply → ReadsOnce c name p acts
once_import (Some s) c h p name acts reply knows made row = subst (ReadsOnce c name p) (sym row.0) tt
once_import None c h p name acts reply knows made row = once_for (nat_le 16 (length h.pools)) c h p name acts reply knows made row

-- acts that read a record of the pool's number
record ReadsOurs (c : Codec) (name : List ℕ) (acts : List Act) (p : Pool) : Type 0 where
  opening : Opening
  reads : HasOpening opening acts
  number : opening.found.pool.0 ≡ p.pool.0
  blocks : (pool_along acts p).written ≡ block_at (read_by opening p)
  ours : AreFair c p acts → p.name ≡ name
  live : AreFair c p acts → IsLiveOne p opening.found (read_by opening p)

-- a call leaves the records
called_live : (noted : Noted) (p : Pool) (found : Found) (r : Rec) → IsLiveOne (after (Calls noted) p) found r → IsLiveOne p found r
called_live noted p found r is = record {
  is_live = is.is_live;
  config_is = is.config_is;
  number_is = is.number_is;
  pool_is = is.pool_is;
  some = is.some;
}

acts_read : (c : Codec) (name : List ℕ) (acts : List Act) (p : Pool) → ReadsOnce c name p acts
    → ReadsOurs c name acts p ⊎ ((pool_along acts p).written ≡ p.written)
acts_read c name [] p once = inr refl
acts_read c name (Bare noted ∷ acts) p once = ⊎_elim (λ later. inl (record {
  opening = later.opening;
  reads = inr later.reads;
  number = later.number;
  blocks = later.blocks;
  ours = λ fair. later.ours fair.1;
  live = λ fair. called_live noted p later.opening.found (read_by later.opening p) (later.live fair.1);
})) inr (acts_read c name acts (after (Calls noted) p) once)
acts_read c name (Looked other known ∷ acts) p once = let same = looks_along (bytes_eq p.name other) known p in ⊎_elim (λ later. inl (record {
  opening = later.opening;
  reads = inr later.reads;
  number = later.number;
  blocks = ap (λ q. (pool_along acts q).written) same ∙ later.blocks;
  ours = λ fair. later.ours (subst (λ q. AreFair c q acts) same fair.1);
  live = λ fair. later.live (subst (λ q. AreFair c q acts) same fair.1);
})) (λ rest. inr (ap (λ q. (pool_along acts q).written) same ∙ rest)) (acts_read c name acts p once)
acts_read c name (Reads_as opening ∷ acts) p once = by_bool (p.pool.0 == opening.found.pool.0)
    (λ same. let number : p.pool.0 ≡ opening.found.pool.0 = number_of_test p.pool.0 opening.found.pool.0 same in inl (record {
      opening = opening;
      reads = inl refl;
      number = sym number;
      blocks = acts_still acts (pool_by (Reads_as opening) p) once.1
          ∙ ap (λ t. (pool_after (cond t (Opens (read_by opening p) ∷ []) []) p).written) same;
      ours = λ fair. (fair.0 number).0 ∙ once.0;
      live = λ fair. once.2 (fair.0 number).0 (fair.0 number).1;
    }))
    (λ off. inr (acts_still acts (pool_by (Reads_as opening) p) once.1
    ∙ ap (λ t. (pool_after (cond t (Opens (read_by opening p) ∷ []) []) p).written) off))
acts_read c name (act ∷ acts) p once = absurd once

import_leaves : (c : Codec) (h : Host) (p : Pool) (e : Entry) (name : List ℕ) → e.asked ≡ Asks_import name → ReadsOnce c name p e.acts → Leaves c h p e
import_leaves c h p e name is once = ⊎_elim
    (λ ours. inl (inr (record {
      name = name;
      asked = is;
      opening = ours.opening;
      reads = ours.reads;
      number = ours.number;
      blocks = λ x. ap (λ f. f x) ours.blocks;
      ours = ours.ours;
      live = ours.live;
    })))
    (λ same. inr (λ x. ap (λ f. f x) same)) (acts_read c name e.acts p once)

row_leaves : (c : Codec) (h : Host) (p : Pool) (e : Entry) (asked : Asked) → Knows c h p → AreMade h (calls_along e.acts) → e.asked ≡ asked
    → RowOf c h asked e.acts e.reply → Leaves c h p e
row_leaves c h p e (Asks_write name a block) knows made is row = write_leaves c h p e name a block (named name h.pools) refl is row
row_leaves c h p e (Asks_import name) knows made is row =
    import_leaves c h p e name is (once_import (named name h.pools) c h p name e.acts e.reply knows made row)
row_leaves c h p e (Asks_create name blocks tops) knows made is row = leaves_still c h p e (still_create c h name blocks tops e.acts e.reply row)
row_leaves c h p e (Asks_graft graft name leaf new) knows made is row =
    leaves_still c h p e (still_graft (named name h.pools) h graft leaf new e.acts e.reply row)
row_leaves c h p e (Asks_detach name leaf) knows made is row = leaves_still c h p e (still_detach (named name h.pools) c h leaf e.acts e.reply row)
row_leaves c h p e asked knows made is row = leaves_still c h p e (plain_line KeepsWritten written_line StillAt still_acts c h asked e.acts e.reply tt row)

-- Where there was no memory.
abbrev NoReading : Act → Type 0
NoReading (Reads_as opening) = ⊥
NoReading act = Unit {0}

moves_none : (g : ℕ) (vs : List Move) → AllByRecursion NoReading (does g vs)
moves_none g [] = tt
moves_none g (v ∷ vs) = (tt, moves_none g vs)

none_front : (first second : List Act) → AllByRecursion NoReading (first ++ second) → AllByRecursion NoReading first
none_front [] second all = tt
none_front (act ∷ first) second all = (all.0, none_front first second all.1)

none_still : (act : Act) → ChangesNone act → NoReading act → StillAt act
none_still (Does g (Makes noted)) none off = tt
none_still (Does g v) none off = absurd none
none_still (Reads_as opening) none off = absurd off
none_still act none off = tt

all_still : (acts : List Act) → AllByRecursion ChangesNone acts → AllByRecursion NoReading acts → AllStill acts
all_still [] none off = tt
all_still (act ∷ acts) none off = (none_still act none.0 off.0, all_still acts none.1 off.1)

write_none : (h : Host) (a : ℕ) (block : List ℕ) (found : Option PoolState) (acts : List Act) (reply : Reply)
    → OnPool found (WriteLine h a block) acts reply → AllByRecursion NoReading acts
write_none h a block None acts reply row = subst (AllByRecursion NoReading) (sym row.0) tt
write_none h a block (Some s) acts reply row = subst (AllByRecursion NoReading) (sym row.2.are) (moves_none s.core.pool.0 row.2.moves)

short_leaves : (c : Codec) (h : Host) (p : Pool) (e : Entry) (rest : List Act) (reply : Reply) (asked : Asked) → Knows c h p
    → AreMade h (calls_along (e.acts ++ rest)) → e.asked ≡ asked
    → RowOf c h asked (e.acts ++ rest) reply
    → (AllByRecursion ChangesNone e.acts × AreReads (calls_along e.acts)) ⊎ MayRewrite asked e.acts → Leaves c h p e
short_leaves c h p e rest reply (Asks_write name a block) knows made is row (inl early) =
    leaves_still c h p e (all_still e.acts early.0 (none_front e.acts rest (write_none h a block (named name h.pools) (e.acts ++ rest) reply row)))
short_leaves c h p e rest reply (Asks_write name a block) knows made is row (inr none) = absurd none
short_leaves c h p e rest reply (Asks_import name) knows made is row early =
    import_leaves c h p e name is (once_front c name p e.acts rest (once_import (named name h.pools) c h p name (e.acts ++ rest) reply knows made row))
short_leaves c h p e rest reply (Asks_create name blocks tops) knows made is row early =
    leaves_still c h p e (still_front e.acts rest (still_create c h name blocks tops (e.acts ++ rest) reply row))
short_leaves c h p e rest reply (Asks_graft graft name leaf new) knows made is row early =
    leaves_still c h p e (still_front e.acts rest (still_graft (named name h.pools) h graft leaf new (e.acts ++ rest) reply row))
short_leaves c h p e rest reply (Asks_detach name leaf) knows made is row early =
    leaves_still c h p e (still_front e.acts rest (still_detach (named name h.pools) c h leaf (e.acts ++ rest) reply row))
short_leaves c h p e rest reply asked knows made is row early = leaves_still c h p e (still_front e.acts rest
    (plain_line KeepsWritten written_line StillAt still_acts c h asked (e.acts ++ rest) reply tt row))

entry_leaves : (c : Codec) (h : Host) (p : Pool) (e : Entry) → Knows c h p → HostRow c h e → Leaves c h p e
entry_leaves c h p e knows (inl row) = row_leaves c h p e e.asked knows row.1 refl row.0
entry_leaves c h p e knows (inr out) = ⊎_elim (λ none. leaves_still c h p e (subst AllStill (sym none) tt))
    (λ b. short_leaves c h p e b.rest b.reply e.asked knows b.made refl b.goes_on out.early) out.begun

pub entry_writes : (c : Codec) (h : Host) (p : Pool) (e : Entry) → Knows c h p → HostRow c h e → KeepsWrites c h p (pool_along e.acts p) e
entry_writes c h p e knows row = record { puts = λ a block w x. write_puts c h p e a block row w x; leaves = entry_leaves c h p e knows row }
