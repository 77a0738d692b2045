-- An import may be made.
use Rattle.std.proofs.Common.{◌≡◌, ◌≢◌, ◌⊎◌, inl, inr, ⊎_elim, ℕ, ◌≤◌, ◌==◌, ◌&&◌, nat_le, Bool, true, false, not, cond, List, [], ◌∷◌, ◌++◌, length, Option, Some, None, refl, sym, ap, ◌∙◌, subst, append_assoc, arith}
use Rattle.std.specs.List.{AllByRecursion, filter}
use Rattle.std.specs.Str.{bytes_eq}
use Rattle.std.proofs.lemmas.Bool.{and_parts}
use Rattle.std.proofs.lemmas.Slice.Eq.{bytes_eq-Decides}
use Rattle.mp_base.specs.declared.number.Group.{Group}
use Rattle.mp_base.specs.declared.place.Key.{Key}
use Rattle.bank_core.specs.Calls.{device_of}
use Rattle.bank_core.specs.Disk.{Noted, AllAnswer, run}
use Rattle.label_store.proofs.Reading.{look_reads}
use Rattle.label_store.specs.declared.found.Found.{Found}
use Rattle.label_store.specs.Rounds.{config_of}
use Rattle.txg_history.specs.Events.{Known, Calls, Looks, Opens, as_events}
use Rattle.txg_history.specs.Looks.{known_by}
use Rattle.txg_history.specs.Moves.{Mays}
use Rattle.txg_history.specs.Pages.{Codec, ClashesAt}
use Rattle.txg_history.specs.Pools.{Pool, after, pool_after}
use Rattle.txg_history.specs.Premises.{Premises, HasNoTwin}
use Rattle.txg_history.specs.Records.{Rec, IsIn, number_of}
use Rattle.txg_history.proofs.LookedParts.{answer_first, answer_second}
use Rattle.txg_history.proofs.LooksFound.{known_of}
use Rattle.txg_history.proofs.LooksShow.{looks_true}
use Rattle.txg_history.proofs.Folding.{calls_after, events_more, pool_more}
use Rattle.txg_history.proofs.Logging.{by_bool, true_not_false}
use Rattle.txg_history.proofs.Moving.{event_survives}
use Rattle.pool_moves.specs.CommitRows.{IsOpened}
use Rattle.pool_moves.specs.Keeping.{Kept, Walks}
use Rattle.pool_moves.specs.LineRows.{TurnReply, Committed, Suspended}
use Rattle.pool_moves.specs.Moves.{Move, after_moves}
use Rattle.pool_moves.specs.Opened.{opened_leaves, opened_seats, claims_of}
use Rattle.pool_moves.specs.OpeningRow.{IsLiveOne, SeeksLive, SeekReply, TakesRecord, taken_by, last_numbers, RowSeek, OpenReply, Opens_state, NoPage, RowOpen, page_calls, IsLostPage, RowResume}
use Rattle.pool_moves.specs.PageReads.{LeafShown, answers_in}
use Rattle.pool_moves.specs.States.{PoolState, Side}
use Rattle.pool_moves.specs.Walking.{as_moves}
use Rattle.pool_moves.proofs.CommitWalks.{opened_kept}
use Rattle.pool_moves.proofs.Keeping.{walk_keeps}
use Rattle.pool_moves.proofs.OpeningWalks.{opening_opens, opening_turns, opening_loses}
use Rattle.pool_moves.proofs.ResilverWalks.{resume_walks}
use Rattle.pool_moves.proofs.Seeking.{reads_may, sought_reads, seeks_live, row_no_twin}
use Rattle.pool_runs.specs.Acts.{Act, Opening, Seeks_by, Marks, Looked, Reads_as, Closes, does, bare, calls_along, is_record_of, record_of, read_by, events_for, pool_by, pool_along}
use Rattle.pool_runs.specs.Devices.{size_in, handed}
use Rattle.pool_runs.specs.Fairness.{IsFairMark, AreFair}
use Rattle.pool_runs.specs.HostRows.{AreMade}
use Rattle.pool_runs.specs.Hosts.{Host, free_in, IsOpen, named, is_of, host_by, host_along}
use Rattle.pool_runs.specs.Importing.{read_in, all_shown, map_acts, OpensBy, FollowsMap, OpensFound, ImportBy, host_behind, Imports, ImportFor, ImportUnless, RowImport}
use Rattle.pool_runs.specs.Knowing.{HasSeats, IsTrueLook, AreOwnActs}
use Rattle.pool_runs.proofs.Known.{Knows, MayActs}
use Rattle.pool_runs.specs.Lines.{Reply}
use Rattle.pool_runs.proofs.Acting.{same_number, number_of_test, calls_number}
use Rattle.pool_runs.proofs.Answering.{all_answer}
use Rattle.pool_runs.proofs.Knowing.{may_more, looked_acted, call_known, pools_known, open_kept, roster_by_events, other_may, walk_may}
use Rattle.pool_runs.proofs.OpeningActs.{own_second, own_first, bare_then, bare_own, bare_calls, bare_fair, shown_calls, shown_then, shown_pools, shown_table, shown_fair, turned_pools, turned_table, host_turned, map_calls_along, map_fair, map_own, map_split, map_then}
use Rattle.pool_runs.proofs.ReadsBehind.{whole_before, claimed_member}
use Rattle.pool_moves.proofs.GraftWalks.{calls_state}

-- Lists.
all_first : {A : Type 0} (P : A → Type 0) (xs ys : List A) → AllByRecursion P (xs ++ ys) → AllByRecursion P xs
all_first P [] ys all = tt
all_first P (x ∷ xs) ys all = (all.0, all_first P xs ys all.1)

all_second : {A : Type 0} (P : A → Type 0) (xs ys : List A) → AllByRecursion P (xs ++ ys) → AllByRecursion P ys
all_second P [] ys all = all
all_second P (x ∷ xs) ys all = all_second P xs ys all.1

-- Calls as moves of a pool's state.
pub calls_side : (made : List Noted) (t : Side) → after_moves (as_moves made) t ≡ record { pool = pool_after (as_events made) t.pool; seats = t.seats }
calls_side [] t = refl
calls_side (noted ∷ made) t = calls_side made (record { pool = after (Calls noted) t.pool; seats = t.seats })

-- The record that is read.
record_found : (found : Found) (live : List Rec) (other r : Rec) → IsIn r live → is_record_of found r ≡ true → IsIn (record_of found live other) live × (is_record_of found (record_of found live other) ≡ true)
record_found found [] other r is same = absurd is
record_found found (q ∷ live) other r is same = by_bool (is_record_of found q)
    (λ here. let e : record_of found (q ∷ live) other ≡ q = ap (λ t. cond t q (record_of found live other)) here in
    (inl e, ap (is_record_of found) e ∙ here))
    (λ off. let e : record_of found (q ∷ live) other ≡ record_of found live other = ap (λ t. cond t q (record_of found live other)) off in
    let more = record_found found live other r (later off is) same in
    (inr (subst (λ x. IsIn x live) (sym e) more.0), ap (is_record_of found) e ∙ more.1))
  where
    later : is_record_of found q ≡ false → (r ≡ q) ⊎ IsIn r live → IsIn r live
    later off (inl e) = true_not_false (is_record_of found q) (sym (ap (is_record_of found) e) ∙ same) off
    later off (inr more) = more

pub record_live : (p : Pool) (found : Found) (r : Rec) → IsLiveOne p found r → IsLiveOne p found (record_of found p.live p.reads)
record_live p found r is =
    let config : bytes_eq found.blob.items (config_of r.commit) ≡ true = (bytes_eq-Decides found.blob.items (config_of r.commit)).1 is.config_is in
    let number = same_number found.number.0 (number_of r) (ap (λ n. n.0) is.number_is) in
    let same : is_record_of found r ≡ true = ap (λ t. t && (found.number.0 == number_of r)) config ∙ number in
    let has = record_found found p.live p.reads r is.is_live same in
    let parts = and_parts (bytes_eq found.blob.items (config_of (record_of found p.live p.reads).commit)) (found.number.0 == number_of (record_of found p.live p.reads)) has.1 in
    let number_is : found.number.0 ≡ number_of (record_of found p.live p.reads) = number_of_test found.number.0 (number_of (record_of found p.live p.reads)) parts.1 in record {
      is_live = has.0;
      config_is = (bytes_eq-Decides found.blob.items (config_of (record_of found p.live p.reads).commit)).0 parts.0;
      number_is = let at : ℕ → Group = λ n. record { 0 = n } in ap at number_is;
      pool_is = is.pool_is;
      some = subst (λ n. 1 ≤ n) (sym (ap (λ n. n.0) is.number_is) ∙ number_is) is.some;
    }

-- No pool of the name is open.
none_named : (name : List ℕ) (s : PoolState) (pools : List PoolState) → named name pools ≡ None → IsOpen s pools → s.core.name ≡ name → ⊥
none_named name s [] none is same = is
none_named name s (u ∷ pools) none is same = by_bool (bytes_eq u.core.name name)
    (λ here. let no : Some u ≡ None = sym (ap (λ t. cond t (Some u) (named name pools)) here) ∙ none in absurd (cc))
    (λ off. none_named name s pools (sym (ap (λ t. cond t (Some u) (named name pools)) off) ∙ none) (later off is) same)
  where
    later : bytes_eq u.core.name name ≡ false → (s ≡ u) ⊎ IsOpen s pools → IsOpen s pools
    later off (inl e) = true_not_false (bytes_eq u.core.name name) ((bytes_eq-Decides u.core.name name).1 (sym (ap (λ x. x.core.name) e) ∙ same)) off
    later off (inr more) = more

none_open : (c : Codec) (h : Host) (p : Pool) (name : List ℕ) → Knows c h p → p.name ≡ name → named name h.pools ≡ None → (s : PoolState) → IsOpen s h.pools → s.core.pool.0 ≡ p.pool.0 → ⊥
none_open c h p name knows same none s is number = none_named name s h.pools none is (ap (λ core. core.name) (knows.stands s is number).1.core ∙ same)

opens_known : (c : Codec) (h : Host) (p : Pool) (r : Rec) → Knows c h p → IsIn r p.live → ((s : PoolState) → IsOpen s h.pools → s.core.pool.0 ≡ p.pool.0 → ⊥) → Knows c h (after (Opens r) p)
opens_known c h p r knows live none = record {
  survives = event_survives c p (Opens r) knows.survives live;
  roster = roster_by_events (Opens r ∷ []) p knows.roster;
  stands = λ s is number. absurd (none s is number);
  once = λ s u is at one other. absurd (none s is one);
  apart = knows.apart;
  sizes = knows.sizes;
  disk = knows.disk;
}

-- a state that is what a pool's history says comes to be open
enters_known : (c : Codec) (h : Host) (p : Pool) (s : PoolState) → Knows c h p → HasSeats c s p → s.core.pool.0 ≡ p.pool.0 → ((s : PoolState) → IsOpen s h.pools → s.core.pool.0 ≡ p.pool.0 → ⊥)
    → Knows c (record h { pools = s ∷ h.pools }) p
enters_known c h p s knows has mine none = record {
  survives = knows.survives;
  roster = knows.roster;
  stands = λ x is number. ⊎_elim (λ e. subst (λ y. HasSeats c y p) (sym e) has) (λ more. absurd (none x more number)) is;
  once = λ x y is at one other. only x is one ∙ sym (only y at other);
  apart = knows.apart;
  sizes = knows.sizes;
  disk = knows.disk;
}
  where
    only : (x : PoolState) → IsOpen x (s ∷ h.pools) → x.core.pool.0 ≡ p.pool.0 → x ≡ s
    only x (inl e) number = e
    only x (inr more) number = absurd (none x more number)

pub closes_may : (c : Codec) (h : Host) (p : Pool) (g : ℕ) → Knows c h p → MayActs c h p (Closes g ∷ [])
closes_may c h p g knows = λ fair. (tt, pools_known c h p (filter (λ s. not (is_of g s)) h.pools) (λ s is number. open_kept (λ s. not (is_of g s)) s h.pools is) knows, tt)

-- The commit.
commit_may : (turn : TurnReply) (c : Codec) (h : Host) (t : Side) (s : PoolState) (g : ℕ) (vs : List Move) (acts : List Act) (reply : Reply) → Knows c h t.pool → t.pool.pool.0 ≡ g → Kept c s t
    → ((s : PoolState) → IsOpen s h.pools → s.core.pool.0 ≡ t.pool.pool.0 → ⊥) → RowResume c (size_in h.table) s vs turn → AreOwnActs g h acts → OpensBy turn g s vs acts reply → MayActs c h t.pool acts
commit_may (Committed number) c h t s g vs acts reply knows is kept none row own by =
    let number_is : s.core.pool.0 ≡ t.pool.pool.0 = ap (λ core. core.pool.0) kept.core in
    let behind = enters_known c h t.pool s knows (t.seats, kept) number_is none in
    subst (MayActs c h t.pool) (sym by.0) (λ fair. (
      tt,
      behind,
      walk_may c (record h { pools = s ∷ h.pools }) s t g vs behind (inl refl) is kept
          (resume_walks c (size_in h.table) s t vs (Committed number) kept knows.sizes row) (subst (AreOwnActs g h) by.0 own).1,
    ))
commit_may (Suspended group top faults) c h t s g vs acts reply knows is kept none row own by =
    let number_is : s.core.pool.0 ≡ t.pool.pool.0 = ap (λ core. core.pool.0) kept.core in
    let behind = enters_known c h t.pool s knows (t.seats, kept) number_is none in
    let rest = (subst (AreOwnActs g h) by.0 own).1 in
    subst (MayActs c h t.pool) (sym by.0) (λ fair. (
      tt,
      behind,
      may_more c (record h { pools = s ∷ h.pools }) t.pool (does g vs) (Closes g ∷ [])
          (walk_may c (record h { pools = s ∷ h.pools }) s t g vs behind (inl refl) is kept (resume_walks c (size_in h.table) s t vs (Suspended group top faults) kept knows.sizes row)
          (own_first g (record h { pools = s ∷ h.pools }) (does g vs) (Closes g ∷ []) rest))
          (λ fair known. closes_may c (host_along (does g vs) (record h { pools = s ∷ h.pools })) (pool_along (does g vs) t.pool) g known) behind,
    ))
commit_may turn c h t s g vs acts reply knows is kept none row own by = absurd by

-- What an opening may do of a pool of the number that it found.
record Own (c : Codec) (h : Host) (p : Pool) (name : List ℕ) (known : Known) (found : Found) : Type 0 where
  knows : Knows c h p
  number : p.pool.0 ≡ found.pool.0
  free : named name h.pools ≡ None
  live : p.name ≡ name → Premises c.head_of p known → (r : Rec) × IsLiveOne p found r

-- the calls of an opening answer by the pool's history
opening_answers : (h : Host) (p : Pool) (made more : List Noted) → AreMade h (made ++ more) → ((d s : ℕ) → 1 ≤ size_in h.table d → p.sectors d s ≡ h.disk d s) → AllAnswer p.sectors made
opening_answers h p made more are same = all_answer h.table made h.disk p.sectors (all_first (λ noted. 1 ≤ size_in h.table (device_of noted.call)) made more are.here)
    (λ d s one. sym (same d s one)) (answer_first made more h.disk are.answer)

follows_may : (outcome : OpenReply) (c : Codec) (h : Host) (p : Pool) (name : List ℕ) (found : Found) (r : Rec) (made : List Noted) (row : RowOpen c (size_in h.table) (free_in h) name found made outcome)
    (h2 : Host) (rest : List Act) (reply : Reply) → h2.table ≡ h.table
    → ((s : PoolState) → outcome ≡ Opens_state s → HasSeats c s (pool_after (as_events made) (after (Opens r) p)))
    → Knows c h2 (pool_after (as_events made) (after (Opens r) p)) → (pool_after (as_events made) (after (Opens r) p)).pool.0 ≡ found.pool.0
    → ((s : PoolState) → IsOpen s h2.pools → s.core.pool.0 ≡ (pool_after (as_events made) (after (Opens r) p)).pool.0 → ⊥)
    → AreOwnActs found.pool.0 h2 rest → FollowsMap outcome c (size_in h.table) found.pool.0 rest reply → MayActs c h2 (pool_after (as_events made) (after (Opens r) p)) rest
follows_may (NoPage page shown) c h p name found r made row h2 rest reply table has knows number none own follows = subst (MayActs c h2 (pool_after (as_events made) (after (Opens r) p))) (sym follows.0) tt
follows_may (Opens_state s) c h p name found r made row h2 rest reply table has knows number none own follows =
    let seats = has s refl in
    commit_may follows.1 c h2 (record { pool = pool_after (as_events made) (after (Opens r) p); seats = seats.0 }) s found.pool.0 follows.0 rest reply knows number seats.1 none
    (subst (λ t. RowResume c (size_in t) s follows.0 follows.1) (sym table) follows.2) own follows.3

-- the state that an opening comes to is what the pool's history has then
opens_seats : (c : Codec) (h : Host) (p : Pool) (name : List ℕ) (found : Found) (r : Rec) (made : List Noted) (outcome : OpenReply)
    → (row : RowOpen c (size_in h.table) (free_in h) name found made outcome)
    → Knows c h p → p.name ≡ name → IsLiveOne p found r → AllAnswer p.sectors made → HasNoTwin p r (claims_of (c.leaves found.blob.items) row.devs) → (ClashesAt r.cells row.bytes → ⊥)
    → (s : PoolState) → outcome ≡ Opens_state s → HasSeats c s (pool_after (as_events made) (after (Opens r) p))
opens_seats c h p name found r made (Opens_state x) row knows same is answers twin pages s out = subst (λ y. HasSeats c y (pool_after (as_events made) (after (Opens r) p))) (one x s out) (of opened)
  where
    one : (a b : PoolState) → Opens_state a ≡ Opens_state b → a ≡ b
    one a b e = cc

    t : Side
    t = record { pool = after (Opens r) p; seats = opened_seats p knows.roster.0 (c.leaves found.blob.items) row.devs }

    opened : (IsOpened c x t × Walks c t (as_moves made)) ⊎ ClashesAt r.cells row.bytes
    opened = opening_opens c (size_in h.table) (free_in h) name p r knows.roster.0 found made x knows.survives same is knows.roster.1 row answers twin

    of : (IsOpened c x t × Walks c t (as_moves made)) ⊎ ClashesAt r.cells row.bytes → HasSeats c x (pool_after (as_events made) (after (Opens r) p))
    of (inl both) = (
      t.seats,
      subst (Kept c x) (calls_side made t) (subst (λ y. Kept c y (after_moves (as_moves made) t)) (calls_state made x)
          (walk_keeps c (as_moves made) x t both.1 (opened_kept c x t both.0))),
    )
    of (inr clash) = absurd (pages clash)
opens_seats c h p name found r made (NoPage page shown) row knows same is answers twin pages s out = absurd (cc)

-- a page that was lost has no good leaf
opens_lost : (c : Codec) (h : Host) (p : Pool) (name : List ℕ) (found : Found) (r : Rec) (made : List Noted) (outcome : OpenReply) → (row : RowOpen c (size_in h.table) (free_in h) name found made outcome)
    → Knows c h p → p.name ≡ name → IsLiveOne p found r → AllAnswer p.sectors made → HasNoTwin p r (claims_of (c.leaves found.blob.items) row.devs)
    → (page : Key) (shown : List LeafShown) → outcome ≡ NoPage page shown
    → IsLostPage (pool_after (as_events made) (after (Opens r) p)) r page (answers_in (opened_leaves (c.leaves found.blob.items) row.devs) (page_calls row)) ⊎ ClashesAt r.cells row.bytes
opens_lost c h p name found r made (Opens_state x) row knows same is answers twin page shown out = absurd (cc)
opens_lost c h p name found r made (NoPage k ks) row knows same is answers twin page shown out = subst
    (λ page. IsLostPage (pool_after (as_events made) (after (Opens r) p)) r page (answers_in (opened_leaves (c.leaves found.blob.items) row.devs) (page_calls row)) ⊎ ClashesAt r.cells row.bytes)
    (one k page ks shown out) (opening_loses c (size_in h.table) (free_in h) name p r found made k ks knows.survives same is row answers twin)
  where
    one : (a b : Key) (xs ys : List LeafShown) → NoPage a xs ≡ NoPage b ys → a ≡ b
    one a b xs ys e = cc

-- what an opening reads
abbrev pub opening_of : (c : Codec) (h : Host) (name : List ℕ) (known : Known) (found : Found) (acts : List Act) (reply : Reply) → OpensFound c h name known found acts reply → Opening
opening_of c h name known found acts reply opens = record { name = name; known = known; found = found; devs = opens.row.devs }

-- a search that is fair shows that there is no twin
opens_twin : (c : Codec) (h : Host) (p : Pool) (name : List ℕ) (found : Found) (r : Rec) (made : List Noted) (outcome : OpenReply)
    → (row : RowOpen c (size_in h.table) (free_in h) name found made outcome) → Knows c h p → IsLiveOne p found r
    → IsFairMark (pool_after (as_events row.ids) (after (Opens r) p)) (Seeks_by row.ids row.devs) → HasNoTwin p r (claims_of (c.leaves found.blob.items) row.devs)
opens_twin c h p name found r made outcome row knows is fair = let q = after (Opens r) p in
    let reads = sought_reads found.pool (size_in h.table) (c.room found.blob.items) (free_in h)
    (c.leaves found.blob.items) row.ids row.devs row.sought in
    row_no_twin c (size_in h.table) (free_in h) name p r found made outcome knows.survives knows.sizes is row
    (whole_before row.ids row.ids q reads fair.0)
    (λ d m claim. ap (λ x. x.member d) (sym (calls_after row.ids q)) ∙ claimed_member (pool_after (as_events row.ids) q) (c.leaves found.blob.items) row.devs d m fair.1 claim)

-- What is fair of an opening, and what follows from it.
pub record FairOpening (c : Codec) (h : Host) (p : Pool) (name : List ℕ) (known : Known) (found : Found) (acts : List Act) (reply : Reply) (opens : OpensFound c h name known found acts reply) : Type 0 where
  pub named : p.name ≡ name
  pub twin : HasNoTwin p (read_by (opening_of c h name known found acts reply opens) p) (claims_of (c.leaves found.blob.items) opens.row.devs)
  pub pages : ClashesAt (read_by (opening_of c h name known found acts reply opens) p).cells opens.row.bytes → ⊥

pub record OpeningFacts (c : Codec) (h : Host) (p : Pool) (name : List ℕ) (known : Known) (found : Found) (acts : List Act) (reply : Reply) (opens : OpensFound c h name known found acts reply) : Type 0 where
  pub is : IsLiveOne p found (read_by (opening_of c h name known found acts reply opens) p)
  pub seats : (s : PoolState) → opens.outcome ≡ Opens_state s → HasSeats c s (pool_after (as_events opens.made) (after (Opens (read_by (opening_of c h name known found acts reply opens) p)) p))
  pub pages : (page : Key) (shown : List LeafShown) → opens.outcome ≡ NoPage page shown
      → IsLostPage (pool_after (as_events opens.made) (after (Opens (read_by (opening_of c h name known found acts reply opens) p)) p)) (read_by (opening_of c h name known found acts reply opens) p)
      page (answers_in (opened_leaves (c.leaves found.blob.items) opens.row.devs) (page_calls opens.row))

-- what an opening does before its commit
pub opening_front : (c : Codec) (h : Host) (name : List ℕ) (known : Known) (found : Found) (acts : List Act) (reply : Reply) → (opens : OpensFound c h name known found acts reply)
    → (front : List Act) × (acts ≡ front ++ opens.rest)
opening_front c h name known found acts reply opens = (
  Reads_as opening ∷ (bare opens.row.ids ++ (shown ++ pages)),
  opens.are ∙ ap (λ l. Reads_as opening ∷ l)
      (ap (λ l. bare opens.row.ids ++ (shown ++ (mark ∷ l))) (map_split found.pool.0 opens.row.bytes opens.row.turns opens.row.last opens.rest)
      ∙ (ap (λ l. bare opens.row.ids ++ l) (sym (append_assoc shown pages opens.rest)) ∙ sym (append_assoc (bare opens.row.ids) (shown ++ pages) opens.rest))),
)
  where
    opening : Opening
    opening = opening_of c h name known found acts reply opens

    shown : List Act
    shown = all_shown found.pool.0 (read_in opens.row.ids) opens.row.devs

    mark : Act
    mark = Marks found.pool.0 (Seeks_by opens.row.ids opens.row.devs)

    pages : List Act
    pages = mark ∷ map_acts found.pool.0 opens.row.bytes opens.row.turns opens.row.last []

pub opening_calls : (c : Codec) (h : Host) (name : List ℕ) (known : Known) (found : Found) (acts : List Act) (reply : Reply) → (opens : OpensFound c h name known found acts reply) → calls_along acts ≡ opens.made ++ calls_along opens.rest
opening_calls c h name known found acts reply opens = let g : ℕ = found.pool.0 in
    let more : List Act = Marks g (Seeks_by opens.row.ids opens.row.devs) ∷ map_acts g opens.row.bytes opens.row.turns
    opens.row.last opens.rest in
    ap calls_along opens.are ∙ (bare_calls opens.row.ids (all_shown g (read_in opens.row.ids) opens.row.devs ++ more)
    ∙ (ap (λ l. opens.row.ids ++ l) (shown_calls g (read_in opens.row.ids) opens.row.devs more
    ∙ map_calls_along g opens.row.bytes opens.row.turns opens.row.last opens.rest)
    ∙ (sym (append_assoc opens.row.ids (page_calls opens.row) (calls_along opens.rest)) ∙ ap (λ l. l ++ calls_along opens.rest) (sym opens.row.calls))))

pub opening_facts : (c : Codec) (h : Host) (p : Pool) (name : List ℕ) (known : Known) (found : Found) (acts : List Act) (reply : Reply) (one : Rec) → (opens : OpensFound c h name known found acts reply) → Knows c h p → IsLiveOne p found one
    → AreMade h (calls_along acts) → FairOpening c h p name known found acts reply opens → OpeningFacts c h p name known found acts reply opens
opening_facts c h p name known found acts reply one opens knows found_one made fair =
    let r = read_by (opening_of c h name known found acts reply opens) p in
    let is = record_live p found one found_one in
    let answers = opening_answers h p opens.made (calls_along opens.rest)
    (subst (AreMade h) (opening_calls c h name known found acts reply opens) made) knows.disk in
    record {
      is = is;
      seats = opens_seats c h p name found r opens.made opens.outcome opens.row knows fair.named is answers fair.twin
          fair.pages;
      pages = λ page shown out. ⊎_elim (λ lost. lost) (λ clash. absurd (fair.pages clash))
          (opens_lost c h p name found r opens.made opens.outcome opens.row knows fair.named is answers fair.twin page
          shown out);
    }

-- what was fair of an opening's acts
pub opening_fair : (c : Codec) (h : Host) (p : Pool) (name : List ℕ) (known : Known) (found : Found) (acts : List Act) (reply : Reply) (one : Rec) → (opens : OpensFound c h name known found acts reply) → Knows c h p → IsLiveOne p found one
    → p.pool.0 ≡ found.pool.0 → AreFair c p acts → FairOpening c h p name known found acts reply opens
opening_fair c h p name known found acts reply one opens knows found_one number fair = record {
  named = (fair1.0 number).0;
  twin = opens_twin c h p name found r opens.made opens.outcome opens.row knows (record_live p found one found_one) (fair3.0 number3);
  pages = map_fair c g opens.row.bytes opens.row.turns opens.row.last opens.rest (pool_after (as_events ids) q) r number3 (ap (λ x. x.reads) (calls_after ids q)) fair3.1;
}
  where
    opening : Opening
    opening = opening_of c h name known found acts reply opens

    g : ℕ
    g = found.pool.0

    ids : List Noted
    ids = opens.row.ids

    r : Rec
    r = read_by opening p

    q : Pool
    q = after (Opens r) p

    behind : List Act
    behind = Marks g (Seeks_by ids opens.row.devs) ∷ map_acts g opens.row.bytes opens.row.turns opens.row.last opens.rest

    fair1 : AreFair c p (Reads_as opening ∷ (bare ids ++ (all_shown g (read_in ids) opens.row.devs ++ behind)))
    fair1 = subst (AreFair c p) opens.are fair

    fair2 : AreFair c q (bare ids ++ (all_shown g (read_in ids) opens.row.devs ++ behind))
    fair2 = subst (λ vs. AreFair c (pool_after vs p) (bare ids ++ (all_shown g (read_in ids) opens.row.devs ++ behind)))
        (ap (λ t. cond t (Opens r ∷ []) []) (same_number p.pool.0 found.pool.0 number)) fair1.1

    fair3 : AreFair c (pool_after (as_events ids) q) behind
    fair3 = shown_fair c g (read_in ids) opens.row.devs behind (pool_after (as_events ids) q)
        (bare_fair c ids (all_shown g (read_in ids) opens.row.devs ++ behind) q fair2)

    number3 : (pool_after (as_events ids) q).pool.0 ≡ g
    number3 = ap (λ n. n.0) (calls_number ids q) ∙ number

-- the calls of an opening, and what follows
opens_more : (c : Codec) (h : Host) (p : Pool) (name : List ℕ) (known : Known) (found : Found) (acts : List Act) (reply : Reply) (one : Rec) → (opens : OpensFound c h name known found acts reply) → Own c h p name known found
    → p.name ≡ name → IsLiveOne p found one → AreMade h (calls_along acts)
    → Knows c h (after (Opens (read_by (opening_of c h name known found acts reply opens) p)) p) → AreOwnActs found.pool.0 h acts
    → MayActs c h (after (Opens (read_by (opening_of c h name known found acts reply opens) p)) p)
    (bare opens.row.ids ++ (all_shown found.pool.0 (read_in opens.row.ids) opens.row.devs
    ++ (Marks found.pool.0 (Seeks_by opens.row.ids opens.row.devs) ∷ map_acts found.pool.0 opens.row.bytes opens.row.turns opens.row.last opens.rest)))
opens_more c h p name known found acts reply one opens o titled found_one made knows own =
    bare_then c ids (shown ++ behind) h q (reads_may c q ids
    (sought_reads found.pool (size_in h.table) (c.room found.blob.items) (free_in h) (c.leaves found.blob.items) ids opens.row.devs opens.row.sought)) knows
    (λ before known1. shown_then c g (read_in ids) opens.row.devs behind h1 q1 number1 known1
    (λ known2. λ fair. let twin = opens_twin c h p name found r opens.made opens.outcome opens.row o.knows is (fair number1) in (
      tt,
      known2,
      map_then c g opens.row.bytes opens.row.turns opens.row.last opens.rest h2 q1 r number1 (ap (λ x. x.reads) (calls_after ids q))
          (opening_turns c (size_in h.table) (free_in h) name p r found opens.made opens.outcome o.knows.survives titled is opens.row answers twin) known2
          (λ known3 none. subst (λ x. MayActs c h3 x opens.rest) (sym end_is) (rest_may twin none (subst (Knows c h3) end_is known3))),
    )))
  where
    g : ℕ
    g = found.pool.0

    ids : List Noted
    ids = opens.row.ids

    shown : List Act
    shown = all_shown g (read_in ids) opens.row.devs

    behind : List Act
    behind = Marks g (Seeks_by ids opens.row.devs) ∷ map_acts g opens.row.bytes opens.row.turns opens.row.last opens.rest

    r : Rec
    r = read_by (opening_of c h name known found acts reply opens) p

    is : IsLiveOne p found (read_by (opening_of c h name known found acts reply opens) p)
    is = record_live p found one found_one

    q : Pool
    q = after (Opens r) p

    q1 : Pool
    q1 = pool_after (as_events ids) q

    q3 : Pool
    q3 = pool_after (as_events opens.made) q

    h1 : Host
    h1 = host_behind ids h

    h2 : Host
    h2 = host_along shown h1

    h3 : Host
    h3 = host_behind opens.row.last (host_turned opens.row.turns h2)

    answers : AllAnswer p.sectors opens.made
    answers = opening_answers h p opens.made (calls_along opens.rest) (subst (AreMade h) (opening_calls c h name known found acts reply opens) made) o.knows.disk

    end_is : pool_after (as_events (page_calls opens.row)) q1 ≡ q3
    end_is = sym (ap (λ vs. pool_after vs q) (ap as_events opens.row.calls ∙ events_more ids (page_calls opens.row))
        ∙ pool_more (as_events ids) (as_events (page_calls opens.row)) q)

    table_is : h3.table ≡ h.table
    table_is = turned_table opens.row.turns h2 ∙ shown_table g (read_in ids) opens.row.devs h1

    pools_are : h3.pools ≡ h.pools
    pools_are = turned_pools opens.row.turns h2 ∙ shown_pools g (read_in ids) opens.row.devs h1

    number1 : q1.pool.0 ≡ g
    number1 = ap (λ n. n.0) (calls_number ids q) ∙ o.number

    number3 : q3.pool.0 ≡ g
    number3 = ap (λ n. n.0) (calls_number opens.made q) ∙ o.number

    own3 : AreOwnActs g h3 opens.rest
    own3 = map_own g h2 opens.row.bytes opens.row.turns opens.row.last opens.rest
        (own_second g h1 shown behind (bare_own g h ids (shown ++ behind) (subst (AreOwnActs g h) opens.are own).1)).1

    none_here : (s : PoolState) → IsOpen s h3.pools → s.core.pool.0 ≡ q3.pool.0 → ⊥
    none_here s is at = none_open c h p name o.knows titled o.free s (subst (IsOpen s) pools_are is) (at ∙ ap (λ n. n.0) (calls_number opens.made q))

    rest_may : HasNoTwin p r (claims_of (c.leaves found.blob.items) opens.row.devs) → (ClashesAt r.cells opens.row.bytes → ⊥) → Knows c h3 q3 → MayActs c h3 q3 opens.rest
    rest_may twin none known = follows_may opens.outcome c h p name found r opens.made opens.row h3 opens.rest reply table_is
        (opens_seats c h p name found r opens.made opens.outcome opens.row o.knows titled is answers twin none) known number3 none_here own3 opens.follows

own_opens : (c : Codec) (h : Host) (p : Pool) (name : List ℕ) (known : Known) (found : Found) (acts : List Act) (reply : Reply) → Own c h p name known found → AreMade h (calls_along acts) → OpensFound c h name known found acts reply
    → MayActs c h p acts
own_opens c h p name known found acts reply o made opens = subst (MayActs c h p) (sym opens.are) (λ fair. of (fair o.number))
  where
    opening : Opening
    opening = opening_of c h name known found acts reply opens

    more : List Act
    more = bare opens.row.ids ++ (all_shown found.pool.0 (read_in opens.row.ids) opens.row.devs
        ++ (Marks found.pool.0 (Seeks_by opens.row.ids opens.row.devs) ∷ map_acts found.pool.0 opens.row.bytes opens.row.turns opens.row.last opens.rest))

    of : (p.name ≡ name) × Premises c.head_of p known → Mays c p (events_for (Reads_as opening) p) × Knows c (host_by (Reads_as opening) h) (pool_by (Reads_as opening) p)
        × MayActs c (host_by (Reads_as opening) h) (pool_by (Reads_as opening) p) more
    of (titled, premises) =
        let one = o.live titled premises in
        let is = record_live p found one.0 one.1 in
        let r = read_by opening p in
        let events : events_for (Reads_as opening) p ≡ Opens r ∷ [] = ap (λ t. cond t (Opens r ∷ []) []) (same_number p.pool.0 found.pool.0 o.number) in
        let behind = opens_known c h p r o.knows is.is_live (none_open c h p name o.knows titled o.free) in (
          subst (Mays c p) (sym events) (is.is_live, tt),
          subst (λ vs. Knows c h (pool_after vs p)) (sym events) behind,
          subst (λ vs. MayActs c h (pool_after vs p) more) (sym events) (opens_more c h p name known found acts reply one.0 opens o titled one.1 made behind opens.own),
        )

-- The looks of an opening, whichever pool is asked for.
true_look : (c : Codec) (h : Host) (name : List ℕ) (made : List Noted) (seek : SeekReply) → (row : RowSeek c (size_in h.table) (handed h.table) name made seek) → AllAnswer h.disk made
    → IsTrueLook (host_behind made h) (known_by (size_in h.table) (handed h.table) row.looks)
true_look c h name made seek row answers = record {
  here = λ d s bytes is. let at = known_of (size_in h.table) (handed h.table) row.looks d s bytes is in
      let big = row.room at.i d at.dev_is in omega (arith, big);
  reads = looks_true (size_in h.table) (handed h.table) row.looks made h.disk row.look answers;
}

-- by what the looks found
found_may : (seek : SeekReply) (c : Codec) (h : Host) (p : Pool) (name : List ℕ) (known : Known) (acts : List Act) (reply : Reply) → Knows c h p → named name h.pools ≡ None
    → ((found : Found) → seek ≡ TakesRecord found → p.name ≡ name → Premises c.head_of p known → (r : Rec) × IsLiveOne p found r) → AreMade h (calls_along acts)
    → ImportBy seek c h name known acts reply → MayActs c h p acts
found_may (TakesRecord found) c h p name known acts reply knows free live made row = by_bool (p.pool.0 == found.pool.0)
    (λ mine. own_opens c h p name known found acts reply (record { knows = knows; number = number_of_test p.pool.0 found.pool.0 mine; free = free; live = live found refl }) made row)
    (λ off. other_may c h p found.pool.0 acts knows (λ e. other p.pool.0 found.pool.0 off (sym e)) row.own)
  where
    other : (m n : ℕ) → (m == n) ≡ false → m ≢ n
    other m n off is = let yes : (m == n) ≡ true = same_number m n is in true_not_false (m == n) yes off
found_may seek c h p name known acts reply knows free live made row = subst (MayActs c h p) (sym row.0) tt

taken_same : (ended : Bool) (a b : Found) → TakesRecord a ≡ taken_by ended b → a ≡ b
taken_same true a b e = absurd (cc)
taken_same false a b e = cc

pub looks_along : (t : Bool) (known : Known) (p : Pool) → pool_after (cond t (Looks known ∷ []) []) p ≡ p
looks_along true known p = refl
looks_along false known p = refl

-- what the looks of an opening come to
pub record LookFacts (c : Codec) (h : Host) (p : Pool) (name : List ℕ) (acts : List Act) (reply : Reply) (row : Imports c h name acts reply) : Type 0 where
  pub knows : Knows c (host_behind row.made h) (pool_after (as_events row.made) p)
  pub looked : IsTrueLook (host_behind row.made h) (known_by (size_in h.table) (handed h.table) row.row.looks)
  pub made : AreMade (host_behind row.made h) (calls_along row.rest)
  pub seeks : p.name ≡ name → Premises c.head_of (pool_after (as_events row.made) p) (known_by (size_in h.table) (handed h.table) row.row.looks)
      → SeeksLive c p row.made (known_by (size_in h.table) (handed h.table) row.row.looks) row.seek

calls_known : (c : Codec) (made : List Noted) (h : Host) (p : Pool) → Mays c p (as_events made) → Knows c h p → Knows c (host_behind made h) (pool_after (as_events made) p)
calls_known c [] h p may knows = knows
calls_known c (noted ∷ made) h p may knows = calls_known c made (record h { disk = run (noted ∷ []) h.disk }) (after (Calls noted) p) may.1 (call_known c h p noted (may.0, tt) knows)

pub look_facts : (c : Codec) (h : Host) (p : Pool) (name : List ℕ) (acts : List Act) (reply : Reply) → Knows c h p → AreMade h (calls_along acts) → (row : Imports c h name acts reply) → LookFacts c h p name acts reply row
look_facts c h p name acts reply knows made row =
    let all : AreMade h (row.made ++ calls_along row.rest) = subst (AreMade h) (ap calls_along row.are
    ∙ bare_calls row.made (Looked name (known_by (size_in h.table) (handed h.table) row.row.looks) ∷ row.rest))
    made in
    record {
      knows = calls_known c row.made h p
          (reads_may c p row.made (look_reads (size_in h.table) (handed h.table) row.row.looks row.made row.row.look))
          knows;
      looked = true_look c h name row.made row.seek row.row
          (answer_first row.made (calls_along row.rest) h.disk all.answer);
      made = record {
        here = all_second (λ noted. 1 ≤ size_in h.table (device_of noted.call)) row.made (calls_along row.rest)
            all.here;
        answer = answer_second row.made (calls_along row.rest) h.disk all.answer;
      };
      seeks = λ same premises. seeks_live c (size_in h.table) (handed h.table) name row.made p row.seek knows.survives
          knows.sizes same (opening_answers h p row.made (calls_along row.rest) all knows.disk) row.row premises;
    }

pub taken_live : (c : Codec) (p : Pool) (made : List Noted) (known : Known) (seek : SeekReply) (found : Found) → SeeksLive c p made known seek → seek ≡ TakesRecord found
    → (r : Rec) × IsLiveOne (pool_after (as_events made) p) found r × (number_of p.acked ≤ number_of r)
taken_live c p made known seek found seeks is =
    let one = taken_same (nat_le last_numbers seeks.found.number.0) found seeks.found (sym is ∙ seeks.says) in
    (seeks.r, subst (λ f. IsLiveOne (pool_after (as_events made) p) f seeks.r) (sym one) seeks.is, seeks.not_below)

-- so the record that they found is a live one, where it was asked for by the pool's name and has the premises
pub import_live : (c : Codec) (h : Host) (p : Pool) (name : List ℕ) (acts : List Act) (reply : Reply) → Knows c h p → AreMade h (calls_along acts)
    → (row : Imports c h name acts reply) (found : Found) → row.seek ≡ TakesRecord found → (pool_after (as_events row.made) p).name ≡ name
    → Premises c.head_of (pool_after (as_events row.made) p) (known_by (size_in h.table) (handed h.table) row.row.looks)
    → (r : Rec) × IsLiveOne (pool_after (as_events row.made) p) found r
import_live c h p name acts reply knows made row found is same premises =
    let taken = taken_live c p row.made (known_by (size_in h.table) (handed h.table) row.row.looks) row.seek found
    ((look_facts c h p name acts reply knows made row).seeks (sym (ap (λ x. x.name) (calls_after row.made p)) ∙ same) premises) is in
    (taken.0, taken.1)

imports_may : (c : Codec) (h : Host) (p : Pool) (name : List ℕ) (acts : List Act) (reply : Reply) → Knows c h p → AreMade h (calls_along acts) → Imports c h name acts reply → MayActs c h p acts
imports_may c h p name acts reply knows made row = subst (MayActs c h p) (sym row.are)
    (bare_then c row.made (Looked name known ∷ row.rest) h p (reads_may c p row.made (look_reads (size_in h.table) (handed h.table) row.row.looks row.made row.row.look)) knows
    (λ before known1. λ fair. let looked = looked_acted c h1 p1 known (bytes_eq p1.name name) facts.looked known1 in (
      looked.0,
      looked.1,
      subst (λ x. MayActs c h1 x row.rest) (sym (looks_along (bytes_eq p1.name name) known p1))
          (found_may row.seek c h1 p1 name known row.rest reply known1 row.free (import_live c h p name acts reply knows made row) facts.made row.follows),
    )))
  where
    known : Known
    known = known_by (size_in h.table) (handed h.table) row.row.looks

    h1 : Host
    h1 = host_behind row.made h

    p1 : Pool
    p1 = pool_after (as_events row.made) p

    facts : LookFacts c h p name acts reply row
    facts = look_facts c h p name acts reply knows made row

import_for : (full : Bool) (c : Codec) (h : Host) (p : Pool) (name : List ℕ) (acts : List Act) (reply : Reply) → Knows c h p → AreMade h (calls_along acts) → ImportFor full c h name acts reply → MayActs c h p acts
import_for true c h p name acts reply knows made row = subst (MayActs c h p) (sym row.0) tt
import_for false c h p name acts reply knows made row = imports_may c h p name acts reply knows made row

import_unless : (found : Option PoolState) (c : Codec) (h : Host) (p : Pool) (name : List ℕ) (acts : List Act) (reply : Reply) → Knows c h p → AreMade h (calls_along acts) → ImportUnless found c h name acts reply → MayActs c h p acts
import_unless (Some s) c h p name acts reply knows made row = subst (MayActs c h p) (sym row.0) tt
import_unless None c h p name acts reply knows made row = import_for (nat_le 16 (length h.pools)) c h p name acts reply knows made row

pub import_may : (c : Codec) (h : Host) (p : Pool) (name : List ℕ) (acts : List Act) (reply : Reply) → Knows c h p → AreMade h (calls_along acts) → RowImport c h name acts reply → MayActs c h p acts
import_may c h p name acts reply knows made row = import_unless (named name h.pools) c h p name acts reply knows made row
