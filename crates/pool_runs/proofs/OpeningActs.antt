-- The acts of an opening, one after another: its calls, what they show, and its pages.
use Rattle.std.proofs.Common.{◌≡◌, ℕ, ◌==◌, cond, List, [], ◌∷◌, ◌++◌, Option, Some, None, refl, sym, ap, ◌∙◌, subst, append_assoc}
use Rattle.mp_base.specs.declared.place.Key.{Key}
use Rattle.bank_core.specs.Disk.{Noted, run}
use Rattle.txg_history.specs.Events.{Known, Calls, as_events}
use Rattle.txg_history.specs.Groups.{at_device}
use Rattle.txg_history.specs.Moves.{Mays}
use Rattle.txg_history.specs.Pages.{Codec, ClashesAt}
use Rattle.txg_history.specs.Pools.{Pool, after, pool_after}
use Rattle.txg_history.specs.Records.{Rec}
use Rattle.txg_history.proofs.Folding.{calls_after, events_more, pool_more}
use Rattle.txg_history.proofs.Logging.{by_bool}
use Rattle.pool_moves.specs.OpeningRow.{MayTurns}
use Rattle.pool_moves.specs.PageReads.{PageTurn, page_of, calls_of_turns, up_to}
use Rattle.pool_runs.specs.Acts.{Act, Reads_pages, Marks, bare, calls_along, pool_along}
use Rattle.pool_runs.specs.Fairness.{AreFair}
use Rattle.pool_runs.specs.Hosts.{Host, host_by, host_along}
use Rattle.pool_runs.specs.Importing.{all_shown, page_acts, map_acts, host_behind}
use Rattle.pool_runs.specs.Knowing.{AreOwnActs}
use Rattle.pool_runs.proofs.Acting.{calls_number}
use Rattle.pool_runs.proofs.Known.{Knows, MayActs}
use Rattle.pool_runs.proofs.Knowing.{call_known}
use Rattle.pool_moves.proofs.Tests.{some_same}

pub own_second : (g : ℕ) (h : Host) (first second : List Act) → AreOwnActs g h (first ++ second) → AreOwnActs g (host_along first h) second
own_second g h [] second own = own
own_second g h (act ∷ first) second own = own_second g (host_by act h) first second own.1

pub own_first : (g : ℕ) (h : Host) (first second : List Act) → AreOwnActs g h (first ++ second) → AreOwnActs g h first
own_first g h [] second own = tt
own_first g h (act ∷ first) second own = (own.0, own_first g (host_by act h) first second own.1)

-- Bare calls, and then more.
pub bare_then : (c : Codec) (made : List Noted) (more : List Act) (h : Host) (p : Pool) → Mays c p (as_events made) → Knows c h p
    → (AreFair c p (bare made) → Knows c (host_behind made h) (pool_after (as_events made) p) → MayActs c (host_behind made h) (pool_after (as_events made) p) more) → MayActs c h p (bare made ++ more)
bare_then c [] more h p may knows then = then tt knows
bare_then c (noted ∷ made) more h p may knows then = λ fair. let behind = call_known c h p noted (may.0, tt) knows in
    ((may.0, tt), behind, bare_then c made more (record h { disk = run (noted ∷ []) h.disk }) (after (Calls noted) p) may.1 behind (λ rest known. then (fair, rest) known))

pub bare_along : (made : List Noted) (more : List Act) (h : Host) → host_along (bare made ++ more) h ≡ host_along more (host_behind made h)
bare_along [] more h = refl
bare_along (noted ∷ made) more h = bare_along made more (record h { disk = run (noted ∷ []) h.disk })

pub bare_own : (g : ℕ) (h : Host) (made : List Noted) (more : List Act) → AreOwnActs g h (bare made ++ more) → AreOwnActs g (host_behind made h) more
bare_own g h [] more own = own
bare_own g h (noted ∷ made) more own = bare_own g (record h { disk = run (noted ∷ []) h.disk }) made more own.1

pub bare_calls : (made : List Noted) (more : List Act) → calls_along (bare made ++ more) ≡ made ++ calls_along more
bare_calls [] more = refl
bare_calls (noted ∷ made) more = ap (λ rest. noted ∷ rest) (bare_calls made more)

pub shown_calls : (g : ℕ) (known : Known) (devs : List (Option ℕ)) (more : List Act) → calls_along (all_shown g known devs ++ more) ≡ calls_along more
shown_calls g known [] more = refl
shown_calls g known (None ∷ devs) more = shown_calls g known devs more
shown_calls g known (Some d ∷ devs) more = shown_calls g known devs more

-- a device that shows the pool's own identity
pub own_shown : (c : Codec) (h : Host) (p : Pool) (g d : ℕ) → p.pool.0 ≡ g → Knows c h p → Knows c (record h { owner = at_device d (Some g) h.owner }) p
own_shown c h p g d number knows = record {
  survives = knows.survives;
  roster = knows.roster;
  stands = knows.stands;
  once = knows.once;
  apart = λ e k is off. by_bool (d == e)
      (λ same. absurd (off (some_same k g (sym is ∙ ap (λ t. cond t (Some g) (h.owner e)) same) ∙ sym number)))
      (λ away. knows.apart e k (sym (ap (λ t. cond t (Some g) (h.owner e)) away) ∙ is) off);
  sizes = knows.sizes;
  disk = knows.disk;
}

pub shown_then : (c : Codec) (g : ℕ) (known : Known) (devs : List (Option ℕ)) (more : List Act) (h : Host) (p : Pool) → p.pool.0 ≡ g → Knows c h p
    → (Knows c (host_along (all_shown g known devs) h) p → MayActs c (host_along (all_shown g known devs) h) p more) → MayActs c h p (all_shown g known devs ++ more)
shown_then c g known [] more h p number knows then = then knows
shown_then c g known (None ∷ devs) more h p number knows then = shown_then c g known devs more h p number knows then
shown_then c g known (Some d ∷ devs) more h p number knows then = λ fair. let behind = own_shown c h p g d number knows in
    (tt, behind, shown_then c g known devs more (record h { owner = at_device d (Some g) h.owner }) p number behind then)

pub shown_pools : (g : ℕ) (known : Known) (devs : List (Option ℕ)) (h : Host) → (host_along (all_shown g known devs) h).pools ≡ h.pools
shown_pools g known [] h = refl
shown_pools g known (None ∷ devs) h = shown_pools g known devs h
shown_pools g known (Some d ∷ devs) h = shown_pools g known devs (record h { owner = at_device d (Some g) h.owner })

pub shown_table : (g : ℕ) (known : Known) (devs : List (Option ℕ)) (h : Host) → (host_along (all_shown g known devs) h).table ≡ h.table
shown_table g known [] h = refl
shown_table g known (None ∷ devs) h = shown_table g known devs h
shown_table g known (Some d ∷ devs) h = shown_table g known devs (record h { owner = at_device d (Some g) h.owner })

-- Pools behind acts of an opening.
pub bare_more : (made : List Noted) (more : List Act) (p : Pool) → pool_along (bare made ++ more) p ≡ pool_along more (pool_after (as_events made) p)
bare_more [] more p = refl
bare_more (noted ∷ made) more p = bare_more made more (after (Calls noted) p)

pub shown_more : (g : ℕ) (known : Known) (devs : List (Option ℕ)) (more : List Act) (p : Pool) → pool_along (all_shown g known devs ++ more) p ≡ pool_along more p
shown_more g known [] more p = refl
shown_more g known (None ∷ devs) more p = shown_more g known devs more p
shown_more g known (Some d ∷ devs) more p = shown_more g known devs more p

pub bare_fair : (c : Codec) (made : List Noted) (more : List Act) (p : Pool) → AreFair c p (bare made ++ more) → AreFair c (pool_after (as_events made) p) more
bare_fair c [] more p fair = fair
bare_fair c (noted ∷ made) more p fair = bare_fair c made more (after (Calls noted) p) fair.1

pub bare_pool : (made : List Noted) (p : Pool) → pool_along (bare made) p ≡ pool_after (as_events made) p
bare_pool [] p = refl
bare_pool (noted ∷ made) p = bare_pool made (after (Calls noted) p)

pub shown_fair : (c : Codec) (g : ℕ) (known : Known) (devs : List (Option ℕ)) (more : List Act) (p : Pool) → AreFair c p (all_shown g known devs ++ more) → AreFair c p more
shown_fair c g known [] more p fair = fair
shown_fair c g known (None ∷ devs) more p fair = shown_fair c g known devs more p fair
shown_fair c g known (Some d ∷ devs) more p fair = shown_fair c g known devs more p fair.1

-- Pages, one after another.
abbrev pub pool_turned : List PageTurn → Pool → Pool
pool_turned [] p = p
pool_turned (turn ∷ turns) p = pool_turned turns (pool_after (as_events turn.rewrites) (pool_after (as_events turn.reads) p))

abbrev pub host_turned : List PageTurn → Host → Host
host_turned [] h = h
host_turned (turn ∷ turns) h = host_turned turns (host_behind turn.rewrites (host_behind turn.reads h))

pub turned_is : (turns : List PageTurn) (p : Pool) → pool_turned turns p ≡ pool_after (as_events (calls_of_turns turns)) p
turned_is [] p = refl
turned_is (turn ∷ turns) p = turned_is turns (pool_after (as_events turn.rewrites) (pool_after (as_events turn.reads) p))
    ∙ (ap (λ q. pool_after (as_events (calls_of_turns turns)) q) (sym (pool_more (as_events turn.reads) (as_events turn.rewrites) p
    ) ∙ ap (λ vs. pool_after vs p) (sym (events_more turn.reads turn.rewrites)))
    ∙ (sym (pool_more (as_events (turn.reads ++ turn.rewrites)) (as_events (calls_of_turns turns)) p)
    ∙ ap (λ vs. pool_after vs p) (sym (events_more (turn.reads ++ turn.rewrites) (calls_of_turns turns)))))

pub turned_pools : (turns : List PageTurn) (h : Host) → (host_turned turns h).pools ≡ h.pools
turned_pools [] h = refl
turned_pools (turn ∷ turns) h = turned_pools turns (host_behind turn.rewrites (host_behind turn.reads h))

pub turned_table : (turns : List PageTurn) (h : Host) → (host_turned turns h).table ≡ h.table
turned_table [] h = refl
turned_table (turn ∷ turns) h = turned_table turns (host_behind turn.rewrites (host_behind turn.reads h))

pub map_end : (turns : List PageTurn) (last : List Noted) (p : Pool)
    → pool_after (as_events last) (pool_turned turns p) ≡ pool_after (as_events (calls_of_turns turns ++ last)) p
map_end turns last p = ap (pool_after (as_events last)) (turned_is turns p)
    ∙ (sym (pool_more (as_events (calls_of_turns turns)) (as_events last) p) ∙ ap (λ vs. pool_after vs p) (sym (events_more (calls_of_turns turns) last)))

page_calls_along : (g : ℕ) (bytes : Key → Option (List ℕ)) (turns : List PageTurn) (more : List Act)
    → calls_along (page_acts g bytes turns more) ≡ calls_of_turns turns ++ calls_along more
page_calls_along g bytes [] more = refl
page_calls_along g bytes (turn ∷ turns) more =
    bare_calls turn.reads (Marks g (Reads_pages (up_to (page_of turn) bytes)) ∷ (bare turn.rewrites ++ page_acts g bytes turns more))
    ∙ (ap (λ l. turn.reads ++ l) (bare_calls turn.rewrites (page_acts g bytes turns more)
    ∙ ap (λ l. turn.rewrites ++ l) (page_calls_along g bytes turns more))
    ∙ (sym (append_assoc turn.reads turn.rewrites (calls_of_turns turns ++ calls_along more))
    ∙ sym (append_assoc (turn.reads ++ turn.rewrites) (calls_of_turns turns) (calls_along more))))

pub map_calls_along : (g : ℕ) (bytes : Key → Option (List ℕ)) (turns : List PageTurn) (last : List Noted) (more : List Act)
    → calls_along (map_acts g bytes turns last more) ≡ (calls_of_turns turns ++ last) ++ calls_along more
map_calls_along g bytes turns last more = page_calls_along g bytes turns (bare last ++ (Marks g (Reads_pages bytes) ∷ more))
    ∙ (ap (λ l. calls_of_turns turns ++ l) (bare_calls last (Marks g (Reads_pages bytes) ∷ more)) ∙ sym (append_assoc (calls_of_turns turns) last (calls_along more)))

page_more : (g : ℕ) (bytes : Key → Option (List ℕ)) (turns : List PageTurn) (more : List Act) (p : Pool)
    → pool_along (page_acts g bytes turns more) p ≡ pool_along more (pool_turned turns p)
page_more g bytes [] more p = refl
page_more g bytes (turn ∷ turns) more p =
    bare_more turn.reads (Marks g (Reads_pages (up_to (page_of turn) bytes)) ∷ (bare turn.rewrites ++ page_acts g bytes turns more)) p
    ∙ (bare_more turn.rewrites (page_acts g bytes turns more) (pool_after (as_events turn.reads) p)
    ∙ page_more g bytes turns more (pool_after (as_events turn.rewrites) (pool_after (as_events turn.reads) p)))

pub map_more : (g : ℕ) (bytes : Key → Option (List ℕ)) (turns : List PageTurn) (last : List Noted) (more : List Act) (p : Pool)
    → pool_along (map_acts g bytes turns last more) p ≡ pool_along more (pool_after (as_events (calls_of_turns turns ++ last)) p)
map_more g bytes turns last more p = page_more g bytes turns (bare last ++ (Marks g (Reads_pages bytes) ∷ more)) p
    ∙ (bare_more last (Marks g (Reads_pages bytes) ∷ more) (pool_turned turns p) ∙ ap (pool_along more) (map_end turns last p))

page_fair : (c : Codec) (g : ℕ) (bytes : Key → Option (List ℕ)) (turns : List PageTurn) (more : List Act) (p : Pool)
    → AreFair c p (page_acts g bytes turns more) → AreFair c (pool_turned turns p) more
page_fair c g bytes [] more p fair = fair
page_fair c g bytes (turn ∷ turns) more p fair =
    page_fair c g bytes turns more (pool_after (as_events turn.rewrites) (pool_after (as_events turn.reads) p))
    (bare_fair c turn.rewrites (page_acts g bytes turns more) (pool_after (as_events turn.reads) p)
    (bare_fair c turn.reads (Marks g (Reads_pages (up_to (page_of turn) bytes)) ∷ (bare turn.rewrites ++ page_acts g bytes turns more)) p fair).1)

-- what was found of a map that is fair
pub map_fair : (c : Codec) (g : ℕ) (bytes : Key → Option (List ℕ)) (turns : List PageTurn) (last : List Noted) (more : List Act) (p : Pool) (r : Rec)
    → p.pool.0 ≡ g → p.reads ≡ r → AreFair c p (map_acts g bytes turns last more) → ClashesAt r.cells bytes → ⊥
map_fair c g bytes turns last more p r number reads fair clash =
    let end = pool_after (as_events last) (pool_turned turns p) in
    let end_number : end.pool ≡ p.pool = ap (λ q. q.pool) (map_end turns last p)
    ∙ calls_number (calls_of_turns turns ++ last) p in
    let end_reads : end.reads
    ≡ p.reads = ap (λ q. q.reads) (map_end turns last p ∙ calls_after (calls_of_turns turns ++ last) p) in
    (bare_fair c last (Marks g (Reads_pages bytes) ∷ more) (pool_turned turns p)
    (page_fair c g bytes turns (bare last ++ (Marks g (Reads_pages bytes) ∷ more)) p fair)).0
    (ap (λ n. n.0) (end_number) ∙ number) (subst (λ q. ClashesAt q.cells bytes) (sym (end_reads ∙ reads)) clash)

page_own : (g : ℕ) (h : Host) (bytes : Key → Option (List ℕ)) (turns : List PageTurn) (more : List Act)
    → AreOwnActs g h (page_acts g bytes turns more) → AreOwnActs g (host_turned turns h) more
page_own g h bytes [] more own = own
page_own g h bytes (turn ∷ turns) more own =
    page_own g (host_behind turn.rewrites (host_behind turn.reads h)) bytes turns more
    (bare_own g (host_behind turn.reads h) turn.rewrites (page_acts g bytes turns more)
    (bare_own g h turn.reads (Marks g (Reads_pages (up_to (page_of turn) bytes)) ∷ (bare turn.rewrites ++ page_acts g bytes turns more)) own).1)

pub map_own : (g : ℕ) (h : Host) (bytes : Key → Option (List ℕ)) (turns : List PageTurn) (last : List Noted) (more : List Act)
    → AreOwnActs g h (map_acts g bytes turns last more) → AreOwnActs g (host_behind last (host_turned turns h)) more
map_own g h bytes turns last more own = (bare_own g (host_turned turns h) last (Marks g (Reads_pages bytes) ∷ more)
    (page_own g h bytes turns (bare last ++ (Marks g (Reads_pages bytes) ∷ more)) own)).1

pub map_split : (g : ℕ) (bytes : Key → Option (List ℕ)) (turns : List PageTurn) (last : List Noted) (more : List Act)
    → map_acts g bytes turns last more ≡ map_acts g bytes turns last [] ++ more
map_split g bytes [] last more = sym (append_assoc (bare last) (Marks g (Reads_pages bytes) ∷ []) more)
map_split g bytes (turn ∷ turns) last more = let mark : Act = Marks g (Reads_pages (up_to (page_of turn) bytes)) in
    ap (λ l. bare turn.reads ++ (mark ∷ (bare turn.rewrites ++ l))) (map_split g bytes turns last more)
    ∙ (ap (λ l. bare turn.reads ++ (mark ∷ l)) (sym (append_assoc (bare turn.rewrites) (map_acts g bytes turns last []) more))
    ∙ sym (append_assoc (bare turn.reads) (mark ∷ (bare turn.rewrites ++ map_acts g bytes turns last [])) more))

-- Pages may be read back, each rewritten where its bytes are fair.
page_then : (c : Codec) (g : ℕ) (bytes : Key → Option (List ℕ)) (turns : List PageTurn) (last : List Noted) (more : List Act) (h : Host) (p : Pool) (r : Rec)
    → p.pool.0 ≡ g → p.reads ≡ r → MayTurns c p r.cells bytes turns last → Knows c h p
    → (Knows c (host_turned turns h) (pool_turned turns p) → Mays c (pool_turned turns p) (as_events last)
    → MayActs c (host_turned turns h) (pool_turned turns p) more) → MayActs c h p (page_acts g bytes turns more)
page_then c g bytes [] last more h p r number reads may knows then = then knows may
page_then c g bytes (turn ∷ turns) last more h p r number reads may knows then =
    let p1 = pool_after (as_events turn.reads) p in
    let p2 = pool_after (as_events turn.rewrites) p1 in
    let number1 : p1.pool.0 ≡ g = ap (λ n. n.0) (calls_number turn.reads p) ∙ number in
    let reads1 : p1.reads ≡ r = ap (λ q. q.reads) (calls_after turn.reads p) ∙ reads in
    bare_then c turn.reads (Marks g (Reads_pages (up_to (page_of turn) bytes)) ∷ (bare turn.rewrites ++ page_acts g bytes turns more)) h p may.0 knows
    (λ before known. λ fair. let next = may.1 (λ clash. fair number1 (subst (λ q. ClashesAt q.cells (up_to (page_of turn) bytes)) (sym reads1) clash)) in (
      tt,
      known,
      bare_then c turn.rewrites (page_acts g bytes turns more) (host_behind turn.reads h) p1 next.0 known
          (λ before known2. page_then c g bytes turns last more (host_behind turn.rewrites (host_behind turn.reads h)) p2 r
          (ap (λ n. n.0) (calls_number turn.rewrites p1) ∙ number1) (ap (λ q. q.reads) (calls_after turn.rewrites p1) ∙ reads1) next.1 known2 then),
    ))

pub map_then : (c : Codec) (g : ℕ) (bytes : Key → Option (List ℕ)) (turns : List PageTurn) (last : List Noted) (more : List Act) (h : Host) (p : Pool) (r : Rec)
    → p.pool.0 ≡ g → p.reads ≡ r → MayTurns c p r.cells bytes turns last → Knows c h p
    → (Knows c (host_behind last (host_turned turns h)) (pool_after (as_events (calls_of_turns turns ++ last)) p) → (ClashesAt r.cells bytes → ⊥)
    → MayActs c (host_behind last (host_turned turns h)) (pool_after (as_events (calls_of_turns turns ++ last)) p) more)
    → MayActs c h p (map_acts g bytes turns last more)
map_then c g bytes turns last more h p r number reads may knows then =
    let end_is = map_end turns last p in
    page_then c g bytes turns last (bare last ++ (Marks g (Reads_pages bytes) ∷ more)) h p r number reads may knows
    (λ known may_last. bare_then c last (Marks g (Reads_pages bytes) ∷ more) (host_turned turns h) (pool_turned turns p) may_last known
    (λ before known2. λ fair. (
      tt,
      known2,
      subst (λ q. MayActs c (host_behind last (host_turned turns h)) q more) (sym end_is)
          (then (subst (Knows c (host_behind last (host_turned turns h))) end_is known2)
          (λ clash. fair (ap (λ q. q.pool.0) end_is ∙ (ap (λ n. n.0) (calls_number (calls_of_turns turns ++ last) p) ∙ number))
          (subst (λ q. ClashesAt q.cells bytes) (sym (ap (λ q. q.reads) (end_is ∙ calls_after (calls_of_turns turns ++ last) p) ∙ reads)) clash))),
    )))
