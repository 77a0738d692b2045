-- Which lines leave a pool's members.
use Rattle.std.proofs.Common.{◌≡◌, ◌⊎◌, inl, inr, ⊎_elim, ℕ, suc, ◌+◌, ◌==◌, nat_le, Bool, true, false, cond, List, [], ◌∷◌, ◌++◌, length, Option, Some, None, refl, sym, ap, ◌∙◌, subst}
use Rattle.std.specs.List.{AllByRecursion}
use Rattle.std.specs.Str.{bytes_eq}
use Rattle.mp_base.specs.declared.number.Guid.{Guid}
use Rattle.bank_core.specs.Asks.{Writes, ask_of, IsPart}
use Rattle.bank_core.specs.declared.bank.Fault.{Fault}
use Rattle.bank_core.specs.Disk.{Call, Write as WriteCall, Noted}
use Rattle.label_store.specs.Layout.{ring_offset}
use Rattle.label_store.specs.Plans.{zero_ring, stamp_plan}
use Rattle.mp_base.specs.declared.place.Key.{Key}
use Rattle.txg_history.specs.Events.{Known, Calls, Looks, Opens, Loses, as_events}
use Rattle.txg_history.specs.Pages.{Codec}
use Rattle.txg_history.specs.Pools.{Pool, other_than, after, pool_after}
use Rattle.txg_history.specs.Survival.{IsAmong}
use Rattle.txg_history.proofs.Logging.{by_bool, same_device}
use Rattle.pool_moves.specs.AwayRows.{WriteReply, WriteFits, WriteBy, RowWrite}
use Rattle.pool_moves.specs.LineRows.{TurnReply, Committed, Suspended}
use Rattle.pool_moves.specs.Moves.{Move, Makes, Lose, Comes, events_of}
use Rattle.pool_moves.specs.OpeningRow.{SeekReply, TakesRecord, OpenReply, Opens_state, NoPage, lacking_of}
use Rattle.pool_moves.specs.ReadRow.{made_in}
use Rattle.pool_moves.specs.StampRow.{NewLeaf, top_leaves, leaves_from, Stamp, AreStamps, new_state, CreateReply, Created, FaultOn}
use Rattle.pool_moves.specs.PageReads.{PageTurn, page_of, up_to}
use Rattle.pool_moves.specs.States.{PoolState}
use Rattle.pool_runs.specs.Acts.{Act, Bare, Does, Looked, Reads_as, Takes, Bears, Closes, Seeks_by, Reads_pages, Marks, does, bare, calls_of_act, calls_along, read_by, pool_by, pool_along}
use Rattle.pool_runs.specs.Creating.{dev_or_none, members_of, tops_of, leaves_of, new_birth, or_else, all_names, unknown_by, unknown, create_refusal, stamp_acts, commit_acts, RowCreate}
use Rattle.pool_runs.specs.Devices.{Device, number_in, size_in}
use Rattle.pool_runs.specs.HostRows.{WriteLine, OnPool, RowOf, ChangesNone, MayRewrite}
use Rattle.pool_runs.specs.Hosts.{Host, named}
use Rattle.pool_runs.specs.Importing.{read_in, all_shown, map_acts, OpensBy, FollowsMap, ImportBy, host_behind, ImportFor, ImportUnless}
use Rattle.pool_runs.specs.Lines.{Asked, Asks_write, Asks_graft, Asks_detach, Asks_import, Asks_create, Reply, To_create, Entry}
use Rattle.pool_runs.specs.Taking.{IsWriteTo, HasWriteTo, IsCreatedOn}
use Rattle.pool_runs.proofs.Acting.{calls_number}
use Rattle.pool_runs.proofs.LineMoves.{IsLineKind, IsActKind, line_resume, line_does, plain_line}
use Rattle.pool_runs.proofs.GroupMoves.{IsKind, more, all_found}
use Rattle.pool_runs.proofs.Creating.{or_first, or_second, none_refused}

-- Moves that leave the members.
abbrev pub KeepsMembers : Move → Type 0
KeepsMembers (Lose d) = ⊥
KeepsMembers (Comes i d m top own) = ⊥
KeepsMembers v = Unit {0}

move_members : (v : Move) (p : Pool) → KeepsMembers v → (pool_after (events_of v p) p).member ≡ p.member
move_members (Makes noted) p keeps = refl
move_members (Lose d) p keeps = absurd keeps
move_members (Comes i d m top own) p keeps = absurd keeps
move_members v p keeps = refl

calls_members : (made : List Noted) (p : Pool) → (pool_after (as_events made) p).member ≡ p.member
calls_members [] p = refl
calls_members (noted ∷ made) p = calls_members made (after (Calls noted) p)

-- A member that a pool has: the pool's number, the device, and its member number there.
pub record Held : Type 0 where
  pub pool : ℕ
  pub d : ℕ
  pub guid : Guid

pub record IsHeld (x : Held) (p : Pool) : Type 0 where
  pub number : p.pool.0 ≡ x.pool
  pub member : p.member x.d ≡ true
  pub guid_is : p.guid x.d ≡ x.guid

-- a move of its own pool that keeps it
abbrev pub KeepsIt : Held → Move → Type 0
KeepsIt x (Lose e) = (e == x.d) ≡ false
KeepsIt x (Comes i e m top own) = ((e == x.d) ≡ false) × ((x.guid.0 == m.0) ≡ false)
KeepsIt x v = Unit {0}

-- acts that take it from no pool
abbrev pub KeepsAt : Held → Act → Type 0
KeepsAt x (Does g v) = (x.pool == g) ≡ true → KeepsIt x v
KeepsAt x (Takes g e) = (e == x.d) ≡ false
KeepsAt x act = Unit {0}

calls_guids : (made : List Noted) (p : Pool) → (pool_after (as_events made) p).guid ≡ p.guid
calls_guids [] p = refl
calls_guids (noted ∷ made) p = calls_guids made (after (Calls noted) p)

calls_held : (x : Held) (made : List Noted) (p : Pool) → IsHeld x p → IsHeld x (pool_after (as_events made) p)
calls_held x made p is = record {
  number = ap (λ n. n.0) (calls_number made p) ∙ is.number;
  member = ap (λ f. f x.d) (calls_members made p) ∙ is.member;
  guid_is = ap (λ f. f x.d) (calls_guids made p) ∙ is.guid_is;
}

same_held : (x : Held) (p q : Pool) → q.pool ≡ p.pool → q.member ≡ p.member → q.guid ≡ p.guid → IsHeld x p → IsHeld x q
same_held x p q number member guid is = record {
  number = ap (λ n. n.0) number ∙ is.number;
  member = ap (λ f. f x.d) member ∙ is.member;
  guid_is = ap (λ f. f x.d) guid ∙ is.guid_is;
}

move_held : (x : Held) (v : Move) (p : Pool) → KeepsIt x v → IsHeld x p → IsHeld x (pool_after (events_of v p) p)
move_held x (Makes noted) p keeps is = calls_held x (noted ∷ []) p is
move_held x (Lose e) p keeps is = record { number = is.number; member = ap (λ t. cond t false (p.member x.d)) keeps ∙ is.member; guid_is = is.guid_is }
move_held x (Comes i e m top own) p keeps is = record {
  number = is.number;
  member = ap (λ t. cond t true (other_than m p.guid p.member x.d)) keeps.0 ∙ (ap (λ n. cond (n.0 == m.0) false (p.member x.d)) is.guid_is ∙ (ap (λ t. cond t false (p.member x.d)) keeps.1 ∙ is.member));
  guid_is = ap (λ t. cond t m (p.guid x.d)) keeps.0 ∙ is.guid_is;
}
move_held x v p keeps is = record { number = is.number; member = is.member; guid_is = is.guid_is }

act_held : (x : Held) (act : Act) (p : Pool) → KeepsAt x act → IsHeld x p → IsHeld x (pool_by act p)
act_held x (Bare noted) p keeps is = calls_held x (noted ∷ []) p is
act_held x (Does g v) p keeps is = by (p.pool.0 == g) refl
  where
    by : (t : Bool) → (p.pool.0 == g) ≡ t → IsHeld x (pool_after (cond t (events_of v p) (as_events (made_in (v ∷ [])))) p)
    by true mine = move_held x v p (keeps (subst (λ n. (n == g) ≡ true) is.number mine)) is
    by false off = calls_held x (made_in (v ∷ [])) p is
act_held x (Looked name known) p keeps is = by (bytes_eq p.name name)
  where
    by : (t : Bool) → IsHeld x (pool_after (cond t (Looks known ∷ []) []) p)
    by true = same_held x p (after (Looks known) p) refl refl refl is
    by false = is
act_held x (Reads_as opening) p keeps is = by (p.pool.0 == opening.found.pool.0)
  where
    by : (t : Bool) → IsHeld x (pool_after (cond t (Opens (read_by opening p) ∷ []) []) p)
    by true = record { number = is.number; member = is.member; guid_is = is.guid_is }
    by false = is
act_held x (Takes g e) p keeps is = by (p.pool.0 == g)
  where
    by : (t : Bool) → IsHeld x (pool_after (cond t [] (Loses e ∷ [])) p)
    by true = is
    by false = record { number = is.number; member = ap (λ t. cond t false (p.member x.d)) keeps ∙ is.member; guid_is = is.guid_is }
act_held x act p keeps is = is

pub acts_held : (x : Held) (acts : List Act) (p : Pool) → AllByRecursion (KeepsAt x) acts → IsHeld x p → IsHeld x (pool_along acts p)
acts_held x [] p keeps is = is
acts_held x (act ∷ acts) p keeps is = acts_held x acts (pool_by act p) keeps.1 (act_held x act p keeps.0 is)

-- a move that leaves the members keeps it
pub it_keeps : (x : Held) (v : Move) → KeepsMembers v → KeepsIt x v
it_keeps x (Lose e) keeps = absurd keeps
it_keeps x (Comes i e m top own) keeps = absurd keeps
it_keeps x v keeps = tt

-- Lists of moves.
abbrev pub AllKeep : List Move → Type 0
AllKeep vs = AllByRecursion KeepsMembers vs

pub kept_kind : IsKind KeepsMembers
kept_kind = record {
  calls = λ noted. tt;
  leave = λ d. tt;
  set = λ m own. tt;
  wrote = λ k. tt;
  flushed = tt;
  draw = tt;
  widen = λ m low high. tt;
  starts = λ draft. tt;
  copies = λ draft d. tt;
  copied = λ draft d. tt;
  commits = λ draft. tt;
}

kept_line : IsLineKind KeepsMembers
kept_line = record {
  kind = kept_kind;
  freezes = λ cells board. tt;
  burns = tt;
  drops = λ d. tt;
  clears = λ d. tt;
  passes = λ key birth marks. tt;
  scans = λ hi eligible. tt;
  scrubs = tt;
  rests = tt;
  finds = λ m d. tt;
}

kept_acts : (d : Held) → IsActKind KeepsMembers (KeepsAt d)
kept_acts d = record { does = λ g v is mine. it_keeps d v is; marks = λ g mark. tt; shows = λ g e known. tt }

keep_fits : (short : Bool) (need free a : ℕ) (block : List ℕ) (vs : List Move) (reply : WriteReply) → WriteFits short need free a block vs reply → AllKeep vs
keep_fits true need free a block vs reply row = subst AllKeep (sym row.0) tt
keep_fits false need free a block vs reply row = subst AllKeep (sym row.0) (tt, tt)

keep_write_by : (full : Bool) (s : PoolState) (a : ℕ) (block : List ℕ) (vs : List Move) (reply : WriteReply) → WriteBy full s a block vs reply → AllKeep vs
keep_write_by true s a block vs reply row = subst AllKeep (sym row.0) tt
keep_write_by false s a block vs reply row = keep_fits _ _ row.0 a block vs reply row.2

keep_write : (s : PoolState) (a : ℕ) (block : List ℕ) (vs : List Move) (reply : WriteReply) → RowWrite s a block vs reply → AllKeep vs
keep_write s a block vs reply (inl row) = subst AllKeep (sym row.1) tt
keep_write s a block vs reply (inr row) = keep_write_by _ s a block vs reply row.1

-- Acts.
keep_does : (d : Held) (g : ℕ) (vs : List Move) → AllKeep vs → AllByRecursion (KeepsAt d) (does g vs)
keep_does d g vs all = line_does KeepsMembers kept_line (KeepsAt d) (kept_acts d) g vs all

abbrev pub Keep : Held → List Act → Type 0
Keep d acts = AllByRecursion (KeepsAt d) acts

keep_acts : (d : Held) (first second : List Act) → Keep d first → Keep d second → Keep d (first ++ second)
keep_acts d [] second a b = b
keep_acts d (act ∷ first) second a b = (a.0, keep_acts d first second a.1 b)

-- Creates.
keep_front : (d : Held) (first second : List Act) → Keep d (first ++ second) → Keep d first
keep_front d [] second all = tt
keep_front d (act ∷ first) second all = (all.0, keep_front d first second all.1)

keep_bare : (d : Held) (made : List Noted) (rest : List Act) → Keep d rest → Keep d (bare made ++ rest)
keep_bare d [] rest all = all
keep_bare d (noted ∷ made) rest all = (tt, keep_bare d made rest all)

-- A stamp writes to its device.
pub write_asked : (d at : ℕ) (bytes : List ℕ) (call : Call) → ask_of call ≡ Writes d at bytes → IsWriteTo d call
write_asked d at bytes (WriteCall dev x written fault) is = cc
write_asked d at bytes call is = absurd (cc)

pub stamp_wrote : (d size : ℕ) (pool member : Guid) (made : List Noted) (outcome : Option Fault) → IsPart (stamp_plan d size pool member) made outcome
    → HasWriteTo d made
stamp_wrote d size pool member [] outcome part = absurd part
stamp_wrote d size pool member (noted ∷ made) outcome part = inl (write_asked d (0 + ring_offset) zero_ring noted.call part.0)

wrote_bare : (d : ℕ) (made : List Noted) (rest : List Act) → HasWriteTo d made → HasWriteTo d (calls_along (bare made ++ rest))
wrote_bare d [] rest wrote = absurd wrote
wrote_bare d (noted ∷ made) rest (inl here) = inl here
wrote_bare d (noted ∷ made) rest (inr more) = inr (wrote_bare d made rest more)

wrote_behind : (d : ℕ) (made : List Noted) (rest : List Act) → HasWriteTo d (calls_along rest) → HasWriteTo d (calls_along (bare made ++ rest))
wrote_behind d [] rest wrote = wrote
wrote_behind d (noted ∷ made) rest wrote = inr (wrote_behind d made rest wrote)

wrote_then : (d : ℕ) (xs ys zs : List Noted) → (HasWriteTo d ys → HasWriteTo d zs) → HasWriteTo d (xs ++ ys) → HasWriteTo d (xs ++ zs)
wrote_then d [] ys zs then wrote = then wrote
wrote_then d (x ∷ xs) ys zs then (inl here) = inl here
wrote_then d (x ∷ xs) ys zs then (inr more) = inr (wrote_then d xs ys zs then more)

wrote_first : (d : ℕ) (first second : List Act) → HasWriteTo d (calls_along first) → HasWriteTo d (calls_along (first ++ second))
wrote_first d [] second wrote = absurd wrote
wrote_first d (act ∷ first) second wrote = wrote_then d (calls_of_act act) (calls_along first) (calls_along (first ++ second)) (wrote_first d first second) wrote

-- Stamps keep a device, or one of them is on it.
record IsStampedOn (P : NewLeaf → Type 0) (d : ℕ) (acts : List Act) : Type 0 where
  leaf : NewLeaf
  has : P leaf
  dev : leaf.dev ≡ d
  wrote : HasWriteTo d (calls_along acts)

first_stamp : (P : NewLeaf → Type 0) (d : Held) (size : ℕ) (pool : Guid) (leaf : NewLeaf) (stamp : Stamp) (stamps : List Stamp) (outcome : Option Fault)
    → stamp.dev ≡ leaf.dev → P leaf
    → IsPart (stamp_plan leaf.dev size pool leaf.guid) stamp.made outcome → Keep d (stamp_acts pool.0 stamps) ⊎ IsStampedOn P d.d (stamp_acts pool.0 stamps)
    → Keep d (stamp_acts pool.0 (stamp ∷ stamps)) ⊎ IsStampedOn P d.d (stamp_acts pool.0 (stamp ∷ stamps))
first_stamp P d size pool leaf stamp stamps outcome dev has part rest = by_bool (stamp.dev == d.d)
    (λ here. let same : leaf.dev ≡ d.d = sym dev ∙ same_device stamp.dev d.d here in inr (record {
      leaf = leaf;
      has = has;
      dev = same;
      wrote = wrote_bare d.d stamp.made (stamp_acts pool.0 stamps) (subst (λ e. HasWriteTo e stamp.made) same (stamp_wrote leaf.dev size pool leaf.guid stamp.made outcome part));
    })) (λ away. ⊎_elim (λ keeps. inl (away, keep_bare d stamp.made (stamp_acts pool.0 stamps) keeps))
    (λ on. inr (record { leaf = on.leaf; has = on.has; dev = on.dev; wrote = wrote_behind d.d stamp.made (stamp_acts pool.0 stamps) on.wrote })) rest)

keep_stamps : (P : NewLeaf → Type 0) (d : Held) (pool : Guid) (size : ℕ → ℕ) (leaves : List NewLeaf) (stamps : List Stamp) (failed : Option NewLeaf)
    → AreStamps size pool leaves stamps failed
    → AllByRecursion P leaves → Keep d (stamp_acts pool.0 stamps) ⊎ IsStampedOn P d.d (stamp_acts pool.0 stamps)
keep_stamps P d pool size [] [] failed are all = inl tt
keep_stamps P d pool size [] (stamp ∷ stamps) failed are all = absurd are
keep_stamps P d pool size (leaf ∷ leaves) [] failed are all = absurd are
keep_stamps P d pool size (leaf ∷ leaves) (stamp ∷ stamps) failed (dev, inl whole) all =
    first_stamp P d (size leaf.dev) pool leaf stamp stamps None dev all.0 whole.0 (keep_stamps P d pool size leaves stamps failed whole.1 all.1)
keep_stamps P d pool size (leaf ∷ leaves) (stamp ∷ stamps) failed (dev, inr stop) all =
    first_stamp P d (size leaf.dev) pool leaf stamp stamps (Some stop.0) dev all.0 stop.1 (inl (subst (λ l. Keep d (stamp_acts pool.0 l)) (sym stop.2) tt))

keep_commit : (answer : CreateReply) (d : Held) (g : ℕ) (vs : List Move) → AllKeep vs → Keep d (commit_acts answer g vs)
keep_commit Created d g vs all = keep_does d g vs all
keep_commit (FaultOn device) d g vs all = keep_acts d (does g vs) (Closes g ∷ []) (keep_does d g vs all) (tt, tt)

-- A leaf's device has one of the names.
abbrev pub HasName : List Device → (names : List (List ℕ)) → NewLeaf → Type 0
HasName table names leaf = IsAmong leaf.name names × (number_in leaf.name table ≡ Some leaf.dev)

among_left : (name : List ℕ) (xs ys : List (List ℕ)) → IsAmong name xs → IsAmong name (xs ++ ys)
among_left name [] ys is = absurd is
among_left name (x ∷ xs) ys (inl e) = inl e
among_left name (x ∷ xs) ys (inr more) = inr (among_left name xs ys more)

among_right : (name : List ℕ) (xs ys : List (List ℕ)) → IsAmong name ys → IsAmong name (xs ++ ys)
among_right name [] ys is = is
among_right name (x ∷ xs) ys is = inr (among_right name xs ys is)

known_number : (number : Option ℕ) (name : List ℕ) → unknown_by number name ≡ None → number ≡ Some (dev_or_none number)
known_number None name is = absurd (cc)
known_number (Some x) name is = refl

unknown_left : (table : List Device) (xs ys : List (List ℕ)) → unknown table (xs ++ ys) ≡ None → unknown table xs ≡ None
unknown_left table [] ys is = refl
unknown_left table (x ∷ xs) ys is = ap (λ o. or_else o (unknown table xs)) (or_first (unknown_by (number_in x table) x) (unknown table (xs ++ ys)) is)
    ∙ unknown_left table xs ys (or_second (unknown_by (number_in x table) x) (unknown table (xs ++ ys)) is)

unknown_right : (table : List Device) (xs ys : List (List ℕ)) → unknown table (xs ++ ys) ≡ None → unknown table ys ≡ None
unknown_right table [] ys is = is
unknown_right table (x ∷ xs) ys is = unknown_right table xs ys (or_second (unknown_by (number_in x table) x) (unknown table (xs ++ ys)) is)

all_up : (P Q : NewLeaf → Type 0) → ((leaf : NewLeaf) → P leaf → Q leaf) → (leaves : List NewLeaf) → AllByRecursion P leaves → AllByRecursion Q leaves
all_up P Q one [] all = tt
all_up P Q one (leaf ∷ leaves) all = (one leaf all.0, all_up P Q one leaves all.1)

all_both : (P : NewLeaf → Type 0) (xs ys : List NewLeaf) → AllByRecursion P xs → AllByRecursion P ys → AllByRecursion P (xs ++ ys)
all_both P [] ys a b = b
all_both P (x ∷ xs) ys a b = (a.0, all_both P xs ys a.1 b)

top_named : (table : List Device) (names : List (List ℕ)) (next top : ℕ) → unknown table names ≡ None → AllByRecursion (HasName table names) (top_leaves next top (members_of table names))
top_named table [] next top known = tt
top_named table (name ∷ names) next top known = (
  (inl refl, known_number (number_in name table) name (or_first (unknown_by (number_in name table) name) (unknown table names) known)),
  all_up (HasName table names) (HasName table (name ∷ names)) (λ leaf has. (inr has.0, has.1)) (top_leaves (suc next) top (members_of table names))
      (top_named table names (suc next) top (or_second (unknown_by (number_in name table) name) (unknown table names) known)),
)

all_named : (table : List Device) (tops : List (List (List ℕ))) (next top : ℕ) → unknown table (all_names tops) ≡ None
    → AllByRecursion (HasName table (all_names tops)) (leaves_from next top (tops_of table tops))
all_named table [] next top known = tt
all_named table (names ∷ tops) next top known =
    all_both (HasName table (names ++ all_names tops)) (top_leaves (suc next) top (members_of table names)) (leaves_from (suc next + length (members_of table names)) (suc top) (tops_of table tops))
    (all_up (HasName table names) (HasName table (names ++ all_names tops)) (λ leaf has. (among_left leaf.name names (all_names tops) has.0, has.1))
    (top_leaves (suc next) top (members_of table names)) (top_named table names (suc next) top (unknown_left table names (all_names tops) known)))
    (all_up (HasName table (all_names tops)) (HasName table (names ++ all_names tops)) (λ leaf has. (among_right leaf.name names (all_names tops) has.0, has.1))
    (leaves_from (suc next + length (members_of table names)) (suc top) (tops_of table tops))
    (all_named table tops (suc next + length (members_of table names)) (suc top) (unknown_right table names (all_names tops) known)))

-- the device of a stamp was taken by its create
taken_by : (h : Host) (e : Entry) (d : ℕ) (name : List ℕ) (blocks : ℕ) (tops : List (List (List ℕ))) (answer : CreateReply)
    → e.asked ≡ Asks_create name blocks tops
    → IsStampedOn (HasName h.table (all_names tops)) d e.acts → e.reply ≡ To_create answer → IsCreatedOn h e d
taken_by h e d name blocks tops answer asked on reply = record {
  name = name;
  blocks = blocks;
  tops = tops;
  asked = asked;
  device = on.leaf.name;
  is_named = on.has.0;
  number = on.has.1 ∙ ap Some on.dev;
  answer = answer;
  reply = reply;
  wrote = on.wrote;
}

pub all_have : (h : Host) (name : List ℕ) (blocks : ℕ) (tops : List (List (List ℕ))) → create_refusal h name blocks tops ≡ None
    → AllByRecursion (HasName h.table (all_names tops)) (leaves_of h.table tops)
all_have h name blocks tops none = all_named h.table tops 1 1 (none_refused h name blocks tops none).1.1.1.1.1.1.1.0

pub create_keeps : (c : Codec) (h : Host) (e : Entry) (d : Held) (name : List ℕ) (blocks : ℕ) (tops : List (List (List ℕ))) → e.asked ≡ Asks_create name blocks tops → RowCreate c h name blocks tops e.acts e.reply
    → Keep d e.acts ⊎ IsCreatedOn h e d.d
create_keeps c h e d name blocks tops asked (inl row) = inl (subst (Keep d) (sym row.2) tt)
create_keeps c h e d name blocks tops asked (inr (inl row)) = ⊎_elim (λ keeps. inl (subst (Keep d) (sym row.all) (tt, keeps)))
    (λ on. inr (taken_by h e d.d name blocks tops (FaultOn row.leaf.name) asked
    (record { leaf = on.leaf; has = on.has; dev = on.dev; wrote = subst (λ acts. HasWriteTo d.d (calls_along acts)) (sym row.all) on.wrote }) row.says))
    (keep_stamps (HasName h.table (all_names tops)) d row.pool (size_in h.table) (leaves_of h.table tops) row.stamps (Some row.leaf) row.are (all_have h name blocks tops row.may.none))
create_keeps c h e d name blocks tops asked (inr (inr row)) =
    let behind = Bears (new_birth name row.pool blocks h.table tops) ∷ commit_acts row.answer row.pool.0 row.moves in
    ⊎_elim (λ keeps. inl (subst (Keep d) (sym row.all) (
      tt,
      keep_acts d (stamp_acts row.pool.0 row.stamps) behind keeps (
        tt,
        keep_commit row.answer d row.pool.0 row.moves
            (all_found KeepsMembers kept_kind (λ cells board. tt) c (size_in h.table) (new_state (size_in h.table) name row.pool blocks (tops_of h.table tops)) row.moves row.row.whole row.row.row),
      ),
    ))) (λ on. inr (taken_by h e d.d name blocks tops row.answer asked
    (record {
      leaf = on.leaf;
      has = on.has;
      dev = on.dev;
      wrote = subst (λ acts. HasWriteTo d.d (calls_along acts)) (sym row.all)
          (wrote_first d.d (stamp_acts row.pool.0 row.stamps) behind on.wrote);
    }) row.says))
    (keep_stamps (HasName h.table (all_names tops)) d row.pool (size_in h.table) (leaves_of h.table tops) row.stamps None row.are (all_have h name blocks tops row.may.none))

-- Imports.
keep_shown : (d : Held) (g : ℕ) (known : Known) (devs : List (Option ℕ)) (rest : List Act) → Keep d rest → Keep d (all_shown g known devs ++ rest)
keep_shown d g known [] rest all = all
keep_shown d g known (None ∷ devs) rest all = keep_shown d g known devs rest all
keep_shown d g known (Some e ∷ devs) rest all = (tt, keep_shown d g known devs rest all)

keep_map : (d : Held) (g : ℕ) (bytes : Key → Option (List ℕ)) (turns : List PageTurn) (last : List Noted) (rest : List Act) → Keep d rest
    → Keep d (map_acts g bytes turns last rest)
keep_map d g bytes [] last rest all = keep_bare d last (Marks g (Reads_pages bytes) ∷ rest) (tt, all)
keep_map d g bytes (turn ∷ turns) last rest all =
    keep_bare d turn.reads (Marks g (Reads_pages (up_to (page_of turn) bytes)) ∷ (bare turn.rewrites ++ map_acts g bytes turns last rest))
    (tt, keep_bare d turn.rewrites (map_acts g bytes turns last rest) (keep_map d g bytes turns last rest all))

keep_opens : (turn : TurnReply) (d : Held) (g : ℕ) (s : PoolState) (vs : List Move) (acts : List Act) (reply : Reply) → AllKeep vs → OpensBy turn g s vs acts reply → Keep d acts
keep_opens (Committed number) d g s vs acts reply all by = subst (Keep d) (sym by.0) (tt, keep_does d g vs all)
keep_opens (Suspended group top faults) d g s vs acts reply all by = subst (Keep d) (sym by.0) (tt, keep_acts d (does g vs) (Closes g ∷ []) (keep_does d g vs all) (tt, tt))
keep_opens turn d g s vs acts reply all by = absurd by

keep_follows : (outcome : OpenReply) (c : Codec) (size : ℕ → ℕ) (d : Held) (g : ℕ) (acts : List Act) (reply : Reply) → FollowsMap outcome c size g acts reply → Keep d acts
keep_follows (NoPage page shown) c size d g acts reply row = subst (Keep d) (sym row.0) tt
keep_follows (Opens_state s) c size d g acts reply row = keep_opens row.1 d g s row.0 acts reply (line_resume KeepsMembers kept_line (lacking_of s.core.leaves s.core.leaves) c size s row.0 row.1 row.2) row.3

keep_import_by : (seek : SeekReply) (c : Codec) (h : Host) (name : List ℕ) (known : Known) (acts : List Act) (reply : Reply) (d : Held) → ImportBy seek c h name known acts reply → Keep d acts
keep_import_by (TakesRecord found) c h name known acts reply d row =
    let mark : Act = Marks found.pool.0 (Seeks_by row.row.ids row.row.devs) in
    let turned = map_acts found.pool.0 row.row.bytes row.row.turns row.row.last row.rest in
    subst (Keep d) (sym row.are) (
      tt,
      keep_bare d row.row.ids (all_shown found.pool.0 (read_in row.row.ids) row.row.devs ++ (mark ∷ turned))
          (keep_shown d found.pool.0 (read_in row.row.ids) row.row.devs (mark ∷ turned) (
            tt,
            keep_map d found.pool.0 row.row.bytes row.row.turns row.row.last row.rest
                (keep_follows row.outcome c (size_in h.table) d found.pool.0 row.rest reply row.follows),
          )),
    )
keep_import_by seek c h name known acts reply d row = subst (Keep d) (sym row.0) tt

keep_for : (full : Bool) (c : Codec) (h : Host) (name : List ℕ) (acts : List Act) (reply : Reply) (d : Held) → ImportFor full c h name acts reply → Keep d acts
keep_for true c h name acts reply d row = subst (Keep d) (sym row.0) tt
keep_for false c h name acts reply d row = subst (Keep d) (sym row.are) (keep_bare d row.made (Looked name _ ∷ row.rest) (tt, keep_import_by row.seek c (host_behind row.made h) name _ row.rest reply d row.follows))

keep_unless : (found : Option PoolState) (c : Codec) (h : Host) (name : List ℕ) (acts : List Act) (reply : Reply) (d : Held) → ImportUnless found c h name acts reply → Keep d acts
keep_unless (Some s) c h name acts reply d row = subst (Keep d) (sym row.0) tt
keep_unless None c h name acts reply d row = keep_for (nat_le 16 (length h.pools)) c h name acts reply d row

-- a row's acts keep the device, but those of a create that takes it
keep_written : (d : Held) (h : Host) (a : ℕ) (block : List ℕ) (found : Option PoolState) (acts : List Act) (reply : Reply)
    → OnPool found (WriteLine h a block) acts reply → Keep d acts
keep_written d h a block None acts reply row = subst (Keep d) (sym row.0) tt
keep_written d h a block (Some s) acts reply row = subst (Keep d) (sym row.2.are) (keep_does d s.core.pool.0 row.2.moves (keep_write s a block row.2.moves row.0 row.2.row))

-- but for a line that may take a device
abbrev pub TakesNone : Asked → Type 0
TakesNone (Asks_create name blocks tops) = ⊥
TakesNone (Asks_graft graft name leaf new) = ⊥
TakesNone (Asks_detach name leaf) = ⊥
TakesNone asked = Unit {0}

pub row_keeps : (c : Codec) (h : Host) (asked : Asked) (acts : List Act) (reply : Reply) (d : Held) → TakesNone asked
    → RowOf c h asked acts reply → Keep d acts
row_keeps c h (Asks_write name a block) acts reply d other row = keep_written d h a block (named name h.pools) acts reply row
row_keeps c h (Asks_import name) acts reply d other row = keep_unless (named name h.pools) c h name acts reply d row
row_keeps c h (Asks_create name blocks tops) acts reply d other row = absurd other
row_keeps c h (Asks_graft graft name leaf new) acts reply d other row = absurd other
row_keeps c h (Asks_detach name leaf) acts reply d other row = absurd other
row_keeps c h asked acts reply d other row = plain_line KeepsMembers kept_line (KeepsAt d) (kept_acts d) c h asked acts reply tt row

pub none_keeps : (d : Held) (acts : List Act) → AllByRecursion ChangesNone acts → Keep d acts
none_keeps d [] all = tt
none_keeps d (act ∷ acts) all = (one act all.0, none_keeps d acts all.1)
  where
    moves : (g : ℕ) (v : Move) → ChangesNone (Does g v) → KeepsMembers v
    moves g (Makes noted) is = tt
    moves g v is = absurd is

    one : (act : Act) → ChangesNone act → KeepsAt d act
    one (Does g v) is = λ mine. it_keeps d v (moves g v is)
    one (Takes g e) is = absurd is
    one act is = tt

pub rewrite_front : (c : Codec) (h : Host) (asked : Asked) (acts rest : List Act) (reply : Reply) (d : Held) → MayRewrite asked acts → RowOf c h asked (acts ++ rest) reply → Keep d acts
rewrite_front c h (Asks_import name) acts rest reply d is row = none_keeps d acts is
rewrite_front c h asked acts rest reply d is row = absurd is
