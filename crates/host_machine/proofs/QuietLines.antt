-- Lines that write to no device: reads, quiet lines and accepted writes follow each pool.
use Rattle.std.proofs.Common.{◌≡◌, ℕ, ◌+◌, ◌==◌, Bool, true, false, cond, List, [], ◌∷◌, ◌++◌, Option, Some, None, Result, Ok, Err, refl, sym, ap, ◌∙◌, subst, inl, inr}
use Rattle.std.specs.Prelude.{if◌then◌else◌, nat_lt}
use Rattle.std.specs.Str.{bytes_eq}
use Rattle.mp_base.specs.declared.refusal.Refusal.{Refusal}
use Rattle.mp_base.specs.declared.refusal.Refusal.TheVariants as refusals
use Rattle.bank_core.specs.Asks.{Ask, asks_of}
use Rattle.bank_core.specs.Disk.{Noted}
use Rattle.label_store.specs.declared.member.Member.{Member}
use Rattle.label_store.proofs.Reading.{AreReadAsks, are_reads}
use Rattle.pool_wire.specs.declared.reply.Reply.{Reply}
use Rattle.pool_history.specs.Events.{Accepts}
use Rattle.pool_history.specs.Pools.{Pool, after, drawn}
use Rattle.pool_history.specs.Records.{IsIn}
use Rattle.pool_core.specs.Outside.{Trouble}
use Rattle.pool_core.specs.Reading.{Source, Memory, Hole, Copies, source_of, source_at, block_from, asks_to, asks_from, tries}
use Rattle.pool_core.specs.State.{LeafState, Known, PoolState, leaves, written, data_start}
use Rattle.host_machine.specs.Machine.{HostState, named_pool, with_pool, refused, Quietly, write_answer, read_line_asks, read_line_answer}
use Rattle.host_machine.specs.Tracking.{Cost, IsOpenAs, StandsIn, Tracks, Follows}
use Rattle.host_machine.proofs.Creating.{quiet_follows}
use Rattle.host_machine.proofs.Following.{kept_last, reads_follow}
use Rattle.host_machine.proofs.Standings.{tracks_move}
use Rattle.host_machine.proofs.Whose.{is_this, this_open, not_this}

-- The calls of a read line.

copies_read : (at : ℕ) (ms : List Member) (outside : List (Option Trouble)) → AreReadAsks (asks_to at ms outside)
copies_read at [] outside = tt
copies_read at (m ∷ ms) [] = (tt, tt)
copies_read at (m ∷ ms) (None ∷ outside) = (tt, tt)
copies_read at (m ∷ ms) (Some trouble ∷ outside) = (tt, copies_read at ms outside)

source_reads : (source : Source) (leaves : List LeafState) (outside : List (Option Trouble)) → AreReadAsks (asks_from source leaves outside)
source_reads (Memory block) leaves outside = tt
source_reads Hole leaves outside = tt
source_reads (Copies version) leaves outside = copies_read (data_start + version.sector) (tries version.birth leaves) outside

reads_if : (b : Bool) (asks : List Ask) → AreReadAsks asks → AreReadAsks (if b then asks else [])
reads_if true asks are = are
reads_if false asks are = tt

line_reads : (pool : Option PoolState) (a : ℕ) (outside : List (Option Trouble)) → AreReadAsks (read_line_asks pool a outside)
line_reads None a outside = tt
line_reads (Some s) a outside = reads_if (nat_lt a s.blocks) (asks_from (source_at s a) (leaves s) outside) (source_reads (source_at s a) (leaves s) outside)

pub answer_host : (h : HostState) (pool : Option PoolState) (a : ℕ) (outside : List (Option Trouble)) (given : List ℕ) → (read_line_answer h pool a outside given).0 ≡ h
answer_host h None a outside given = refl
answer_host h (Some s) a outside given = refl

pub read_follows : (T : Cost → Type 0) (p : Pool) (h next : HostState) (pool : Option PoolState) (a : ℕ) (outside : List (Option Trouble)) (given : List ℕ) (made : List Noted) (reply : Reply)
    → asks_of made ≡ read_line_asks pool a outside → (next, reply) ≡ read_line_answer h pool a outside given → Follows p h T made next
read_follows T p h next pool a outside given made reply asks is =
    reads_follow T p h made next (are_reads made (subst AreReadAsks (sym asks) (line_reads pool a outside))) (ap (λ x. x.0) is ∙ answer_host h pool a outside given)

-- A pool by its name.

pub named_is : (name : List ℕ) (pool : Option PoolState) (s : PoolState) → named_pool name pool ≡ Some s → pool ≡ Some s
named_is name None s e = e
named_is name (Some t) s e = by (bytes_eq t.name name) e
  where
    by : (b : Bool) → (if b then Some t else None) ≡ Some s → Some t ≡ Some s
    by true e = e
    by false e = absurd (let no : None ≡ Some s = e in cc)

-- the host with a pool in its place
pub tracks_with : (p behind : Pool) (h : HostState) (t : PoolState) (tr : Tracks p h) → behind.name ≡ p.name → behind.member ≡ p.member → behind.guid ≡ p.guid → behind.size ≡ p.size
    → behind.live ≡ p.live → behind.given ≡ p.given → StandsIn behind tr.first tr.second h.table (Some t) → Tracks behind (with_pool h t)
tracks_with p behind h t tr name member guid size live given stands =
    tracks_move p behind h (with_pool h t) tr name member guid size refl refl
    (λ r is some. tr.known r (subst (IsIn r) same is) some) (λ r c is drawn_of. tr.own r c (subst (IsIn r) same is) drawn_of) stands
  where
    same : drawn behind ≡ drawn p
    same = ap (λ l. l ++ behind.given) live ∙ ap (λ l. p.live ++ l) given

-- Writes.

written_wanted : (b : Bool) (s : PoolState) (x : ℕ) (block was : List ℕ) → block_from (source_of (s.writes x) (s.committed x)) ≡ Known was
    → block_from (source_of (cond b (Some block) (s.writes x)) (s.committed x)) ≡ Known (cond b block was)
written_wanted true s x block was is = refl
written_wanted false s x block was is = is

accepts_open : (p : Pool) (s : PoolState) (a : ℕ) (block : List ℕ) → IsOpenAs p s → IsOpenAs (after (Accepts a block) p) (written s a block)
accepts_open p s a block is = record {
  name = is.name;
  pool = is.pool;
  idle = is.idle;
  number = is.number;
  acked = is.acked;
  committed = is.committed;
  written = λ x. written_wanted (a == x) s x block (p.written x) (is.written x);
  grown = is.grown;
}

accept_follows : (T : Cost → Type 0) (p : Pool) (h : HostState) (s : PoolState) (a : ℕ) (block : List ℕ) (this : Bool) → is_this p s ≡ this → h.pool ≡ Some s → Follows p h T [] (with_pool h (written s a block))
accept_follows T p h s a block true this is = record {
  vs = Accepts a block ∷ [];
  calls = refl;
  one_run = tt;
  devices = (refl, refl);
  looked = tt;
  asked = inl tt;
  keeps = λ d is. inl is;
  safe = λ tr twins sv good.
      let opened = this_open p tr.first tr.second h.table s this (subst (StandsIn p tr.first tr.second h.table) is tr.stands) in
      ((tt, tt), tracks_with p (after (Accepts a block) p) h (written s a block) tr refl refl refl refl refl refl (inl (opened.0, opened.1, accepts_open p s a block opened.2)));
  last = λ tr twins sv good. kept_last T p (after (Accepts a block) p) refl;
}
accept_follows T p h s a block false off is = record {
  vs = [];
  calls = refl;
  one_run = tt;
  devices = (refl, refl);
  looked = tt;
  asked = inl tt;
  keeps = λ d is. inl is;
  safe = λ tr twins sv good.
      let other = not_this p h s tr off (subst (StandsIn p tr.first tr.second h.table) is tr.stands) in (
        tt,
        tracks_with p p h (written s a block) tr refl refl refl refl refl refl
            (inr (record { seated = other.seated; first = other.first; second = other.second; alone_first = other.alone_first; alone_second = other.alone_second })),
      );
  last = λ tr twins sv good. kept_last T p p refl;
}

same_host : (h : HostState) (s : PoolState) → h.pool ≡ Some s → with_pool h s ≡ h
same_host h s is = ap (λ pool. record h { pool = pool }) (sym is)

-- the answer of a write, by whether its address is within the volume
abbrev pub put_if : Bool → PoolState → ℕ → List ℕ → Refusal → PoolState × Result (Unit {0}) Refusal
put_if b s a block fault = if b then (written s a block, Ok tt) else (s, Err fault)

put_follows : (T : Cost → Type 0) (p : Pool) (h : HostState) (s : PoolState) (a : ℕ) (block : List ℕ) (b : Bool) (fault : Refusal) → h.pool ≡ Some s → Follows p h T [] (with_pool h (put_if b s a block fault).0)
put_follows T p h s a block true fault is = accept_follows T p h s a block (is_this p s) refl is
put_follows T p h s a block false fault is = reads_follow T p h [] (with_pool h s) tt (same_host h s is)

write_by : (T : Cost → Type 0) (p : Pool) (h next : HostState) (pool : Option PoolState) (a : ℕ) (block : List ℕ) (made : List Noted) (reply : Reply)
    → ((s : PoolState) → pool ≡ Some s → h.pool ≡ Some s) → Quietly made (write_answer h pool a block) next reply → Follows p h T made next
write_by T p h next None a block made reply named quiet = quiet_follows T p h made next reply (refused h refusals.NoPool).1 quiet
write_by T p h next (Some s) a block made reply named quiet =
    subst (λ calls. Follows p h T calls next) (sym quiet.0) (subst (Follows p h T []) (sym (ap (λ x. x.0) quiet.1))
    (put_follows T p h s a block (nat_lt a s.blocks) (refusals.BadAddress s.blocks) (named s refl)))

pub write_follows : (T : Cost → Type 0) (p : Pool) (h next : HostState) (name : List ℕ) (a : ℕ) (block : List ℕ) (made : List Noted) (reply : Reply)
    → Quietly made (write_answer h (named_pool name h.pool) a block) next reply → Follows p h T made next
write_follows T p h next name a block made reply quiet = write_by T p h next (named_pool name h.pool) a block made reply (λ s e. named_is name h.pool s e) quiet
