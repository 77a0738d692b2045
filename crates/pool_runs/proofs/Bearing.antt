-- Behind the stamps of a create its pool is known, and its commit may be made.
use Rattle.std.proofs.Common.{◌≡◌, ◌≢◌, inl, inr, ℕ, ◌^◌, ◌<◌, ◌==◌, Bool, true, false, cond, List, [], ◌∷◌, ◌++◌, Some, None, refl, sym, ap, ◌∙◌, subst}
use Rattle.std.specs.List.{AllByRecursion}
use Rattle.mp_base.specs.declared.number.Guid.{Guid}
use Rattle.bank_core.specs.Disk.{Noted, Sectors, run}
use Rattle.txg_history.specs.Pages.{Codec}
use Rattle.txg_history.specs.Stamps.{AreStamped}
use Rattle.txg_history.proofs.Logging.{not_true}
use Rattle.pool_moves.specs.Keeping.{Kept, Walks}
use Rattle.pool_moves.specs.Making.{IsMade}
use Rattle.pool_moves.specs.Moves.{Move}
use Rattle.pool_moves.specs.Rosters.{devices_of}
use Rattle.pool_moves.specs.StampRow.{NewLeaf, leaf_at, is_leaf_at, Stamp, AreStamps, new_state, new_side, CreateReply, Created, FaultOn}
use Rattle.pool_moves.specs.States.{PoolState, Side}
use Rattle.pool_moves.proofs.CommitWalks.{found_walks}
use Rattle.pool_moves.proofs.Making.{made_kept}
use Rattle.pool_moves.proofs.Rosters.{made_roster}
use Rattle.pool_moves.proofs.StampWalks.{all_of, leaf_found, leaf_of, stamps_make}
use Rattle.pool_runs.specs.Acts.{Act, Bare, Takes, Bears, Closes, does, born, calls_of_act, calls_along, pool_along}
use Rattle.pool_runs.specs.Creating.{tops_of, leaves_of, new_birth, stamp_acts, MayCreate, commit_acts, Creates, host_stamped, IsNew}
use Rattle.pool_runs.specs.Devices.{number_in, size_in}
use Rattle.pool_runs.specs.Headline.{Headline}
use Rattle.pool_runs.specs.HostRows.{IsRun}
use Rattle.pool_runs.specs.Hosts.{Host, IsOpen, host_by, host_along}
use Rattle.pool_runs.specs.Knowing.{AreOwnActs}
use Rattle.pool_runs.proofs.Known.{Knows, MayActs}
use Rattle.pool_runs.specs.Lines.{Reply, Entry}
use Rattle.pool_runs.specs.Pasts.{Born}
use Rattle.pool_runs.proofs.Creating.{within}
use Rattle.pool_runs.proofs.Stamps.{stamp_calls}
use Rattle.pool_runs.proofs.Heading.{headline_from}
use Rattle.pool_runs.proofs.Knowing.{may_more, walk_may}
use Rattle.pool_runs.proofs.Moments.{host_more, bare_host, acts_table}
use Rattle.pool_runs.proofs.Numbers.{number_fits}
use Rattle.pool_moves.proofs.Tests.{here, some_same}
use Rattle.pool_runs.proofs.OpeningActs.{own_second}
use Rattle.pool_runs.proofs.Importing.{closes_may}

-- The disk of a host goes on by the calls of its acts.
run_more : (first second : List Noted) (sectors : Sectors) → run (first ++ second) sectors ≡ run second (run first sectors)
run_more [] second sectors = refl
run_more (noted ∷ first) second sectors = run_more first second (run (noted ∷ []) sectors)

act_disk : (act : Act) (h : Host) → (host_by act h).disk ≡ run (calls_of_act act) h.disk
act_disk (Bare noted) h = refl
act_disk act h = refl

pub acts_disk : (acts : List Act) (h : Host) → (host_along acts h).disk ≡ run (calls_along acts) h.disk
acts_disk [] h = refl
acts_disk (act ∷ acts) h = acts_disk acts (host_by act h) ∙ (ap (run (calls_along acts)) (act_disk act h) ∙ sym (run_more (calls_of_act act) (calls_along acts) h.disk))

-- Stamps, one after another: whose the devices are behind them, and that no pool came or went.
stamps_pools : (g : ℕ) (stamps : List Stamp) (h : Host) → (host_stamped h g stamps).pools ≡ h.pools
stamps_pools g [] h = refl
stamps_pools g (stamp ∷ stamps) h = ap (λ x. x.pools) (bare_host stamp.made (stamp_acts g stamps) (host_by (Takes g stamp.dev) h))
    ∙ stamps_pools g stamps (record (host_by (Takes g stamp.dev) h) { disk = run stamp.made h.disk })

still_owned : (g : ℕ) (stamps : List Stamp) (h : Host) (d : ℕ) → h.owner d ≡ Some g → (host_stamped h g stamps).owner d ≡ Some g
still_owned g [] h d is = is
still_owned g (stamp ∷ stamps) h d is = ap (λ x. x.owner d) (bare_host stamp.made (stamp_acts g stamps) (host_by (Takes g stamp.dev) h))
    ∙ still_owned g stamps (record (host_by (Takes g stamp.dev) h) { disk = run stamp.made h.disk }) d (by (stamp.dev == d))
  where
    by : (t : Bool) → cond t (Some g) (h.owner d) ≡ Some g
    by true = refl
    by false = is

just_taken : (g : ℕ) (stamp : Stamp) (stamps : List Stamp) (h : Host) → (host_stamped h g (stamp ∷ stamps)).owner stamp.dev ≡ Some g
just_taken g stamp stamps h = ap (λ x. x.owner stamp.dev) (bare_host stamp.made (stamp_acts g stamps) (host_by (Takes g stamp.dev) h))
    ∙ still_owned g stamps (record (host_by (Takes g stamp.dev) h) { disk = run stamp.made h.disk }) stamp.dev
    (ap (λ t. cond t (Some g) (h.owner stamp.dev)) (here stamp.dev))

all_owned : (pool : Guid) (size : ℕ → ℕ) (leaves : List NewLeaf) (stamps : List Stamp) (h : Host) → AreStamps size pool leaves stamps None
    → AllByRecursion (λ leaf. (host_stamped h pool.0 stamps).owner leaf.dev ≡ Some pool.0) leaves
all_owned pool size [] stamps h are = tt
all_owned pool size (leaf ∷ leaves) [] h are = absurd are
all_owned pool size (leaf ∷ leaves) (stamp ∷ stamps) h (dev, inr stop) = absurd (let no : None ≡ Some leaf = stop.3 in cc)
all_owned pool size (leaf ∷ leaves) (stamp ∷ stamps) h (dev, inl whole) = (
  subst (λ d. (host_stamped h pool.0 (stamp ∷ stamps)).owner d ≡ Some pool.0) dev (just_taken pool.0 stamp stamps h),
  subst (λ x. AllByRecursion (λ l. x.owner l.dev ≡ Some pool.0) leaves) (sym (bare_host stamp.made (stamp_acts pool.0 stamps) (host_by (Takes pool.0 stamp.dev) h)))
      (all_owned pool size leaves stamps (record (host_by (Takes pool.0 stamp.dev) h) { disk = run stamp.made h.disk }) whole.1),
)

-- The pool behind the stamps.
abbrev pub side_behind : Host → (name : List ℕ) → (pool : Guid) → (tops : List (List (List ℕ))) → List Stamp → Side
side_behind h name pool tops stamps = new_side (size_in h.table) name pool (tops_of h.table tops) (host_stamped h pool.0 stamps).disk

is_made : (h : Host) (name : List ℕ) (blocks : ℕ) (tops : List (List (List ℕ))) (pool : Guid) (stamps : List Stamp) → MayCreate h name blocks tops pool
    → AreStamps (size_in h.table) pool (leaves_of h.table tops) stamps None
    → IsMade (new_state (size_in h.table) name pool blocks (tops_of h.table tops)) (side_behind h name pool tops stamps)
is_made h name blocks tops pool stamps may are =
    subst (λ sectors. IsMade (new_state (size_in h.table) name pool blocks (tops_of h.table tops)) (new_side (size_in h.table) name pool (tops_of h.table tops) sectors))
    (ap (λ made. run made h.disk) (sym (stamp_calls pool.0 stamps)) ∙ sym (acts_disk (stamp_acts pool.0 stamps) h))
    (stamps_make (size_in h.table) name pool blocks (tops_of h.table tops) stamps h.disk (within h name blocks tops pool may)
    (subst (λ g. g.0 < 2 ^ 64) (sym may.number) (number_fits name h.second)) are)

is_stamped : (h : Host) (name : List ℕ) (blocks : ℕ) (tops : List (List (List ℕ))) (pool : Guid) (stamps : List Stamp) → (may : MayCreate h name blocks tops pool)
    → AreStamps (size_in h.table) pool (leaves_of h.table tops) stamps None → (let p = (side_behind h name pool tops stamps).pool in AreStamped p.pool p.member p.guid p.size p.room p.home p.sectors)
is_stamped h name blocks tops pool stamps may are = let made = is_made h name blocks tops pool stamps may are in
    subst (λ q. AreStamped q.pool q.member q.guid q.size q.room q.home q.sectors) (sym made.is) made.stamps

-- The pool that begins is known.
new_pools : (g : ℕ) (s : PoolState) (pools : List PoolState) → ((s : PoolState) → IsOpen s pools → s.core.pool.0 ≢ g) → (x : PoolState) → IsOpen x (s ∷ pools) → x.core.pool.0 ≡ g → x ≡ s
new_pools g s pools none x (inl is) number = is
new_pools g s pools none x (inr more) number = absurd (none x more number)

pub bears_known : (c : Codec) (h : Host) (name : List ℕ) (blocks : ℕ) (tops : List (List (List ℕ))) (pool : Guid) (stamps : List Stamp) → MayCreate h name blocks tops pool
    → AreStamps (size_in h.table) pool (leaves_of h.table tops) stamps None → IsNew h pool.0
    → Knows c (host_by (Bears (new_birth name pool blocks h.table tops)) (host_stamped h pool.0 stamps)) (born (new_birth name pool blocks h.table tops) (host_stamped h pool.0 stamps).disk)
    × Kept c (new_state (size_in h.table) name pool blocks (tops_of h.table tops)) (side_behind h name pool tops stamps)
bears_known c h name blocks tops pool stamps may are new =
    let leaves = leaves_of h.table tops in
    let s = new_state (size_in h.table) name pool blocks (tops_of h.table tops) in
    let t = side_behind h name pool tops stamps in
    let made = is_made h name blocks tops pool stamps may are in
    let kept = made_kept c s t made in
    let none : (x : PoolState) → IsOpen x (host_stamped h pool.0 stamps).pools → x.core.pool.0 ≢ pool.0 = λ x is. new.number x (subst (IsOpen x) (stamps_pools pool.0 stamps h) is) in
    let only = new_pools pool.0 s (host_stamped h pool.0 stamps).pools none in (
      record {
        survives = kept.survives;
        roster = (devices_of t.seats, made_roster s t made);
        stands = λ x is number. (t.seats, subst (λ x. Kept c x t) (sym (only x is number)) kept);
        once = λ x u is at one other. only x is one ∙ sym (only u at other);
        apart = λ d k is off. not_true (is_leaf_at (leaf_at d leaves)) (λ member. let at = leaf_of d leaves member in
            let found = leaf_found d leaves at.0 at.1 in
            let owned : (host_stamped h pool.0 stamps).owner d ≡ Some pool.0 = subst (λ x. (host_stamped h pool.0 stamps).owner x ≡ Some pool.0) found.1
            (all_of (λ leaf. (host_stamped h pool.0 stamps).owner leaf.dev ≡ Some pool.0) leaves at.0 (all_owned pool (size_in h.table) leaves stamps h are) found.0) in
            off (some_same k pool.0 (sym is ∙ owned)));
        sizes = λ d one. ap (λ table. size_in table d) (sym (acts_table (stamp_acts pool.0 stamps) h));
        disk = λ d s one. refl;
      },
      kept,
    )

-- The commit, and the end of a create that failed in it.
commit_may : (answer : CreateReply) (c : Codec) (h : Host) (t : Side) (s : PoolState) (g : ℕ) (vs : List Move) → Knows c h t.pool → IsOpen s h.pools
    → t.pool.pool.0 ≡ g → Kept c s t → Walks c t vs → AreOwnActs g h (commit_acts answer g vs) → MayActs c h t.pool (commit_acts answer g vs)
commit_may Created c h t s g vs knows is number kept walks own = walk_may c h s t g vs knows is number kept walks own
commit_may (FaultOn device) c h t s g vs knows is number kept walks own =
    may_more c h t.pool (does g vs) (Closes g ∷ []) (walk_may c h s t g vs knows is number kept walks (own_front g h (does g vs) (Closes g ∷ []) own))
    (λ fair known. closes_may c (host_along (does g vs) h) (pool_along (does g vs) t.pool) g known) knows
  where
    own_front : (g : ℕ) (h : Host) (first second : List Act) → AreOwnActs g h (first ++ second) → AreOwnActs g h first
    own_front g h [] second own = tt
    own_front g h (act ∷ first) second own = (own.0, own_front g (host_by act h) first second own.1)

bears_may : (c : Codec) (h : Host) (name : List ℕ) (blocks : ℕ) (tops : List (List (List ℕ))) (acts : List Act) (reply : Reply) → (k : Creates c h name blocks tops acts reply) → IsNew h k.pool.0
    → MayActs c (host_by (Bears (new_birth name k.pool blocks h.table tops)) (host_stamped h k.pool.0 k.stamps))
    (born (new_birth name k.pool blocks h.table tops) (host_stamped h k.pool.0 k.stamps).disk) (commit_acts k.answer k.pool.0 k.moves)
bears_may c h name blocks tops acts reply k new =
    let known = bears_known c h name blocks tops k.pool k.stamps k.may k.are new in
    let t = side_behind h name k.pool tops k.stamps in
    let s = new_state (size_in h.table) name k.pool blocks (tops_of h.table tops) in
    let b = new_birth name k.pool blocks h.table tops in
    let rest = commit_acts k.answer k.pool.0 k.moves in
    let own : AreOwnActs k.pool.0 h (stamp_acts k.pool.0 k.stamps ++ (Bears b ∷ rest)) = (subst (AreOwnActs k.pool.0 h) k.all k.own).1 in
    commit_may k.answer c (host_by (Bears b) (host_stamped h k.pool.0 k.stamps)) t s k.pool.0 k.moves known.0 (inl refl) refl known.1
    (found_walks c (size_in h.table) s t k.moves k.row.whole known.1 (λ d one. refl) k.row.row)
    (own_second k.pool.0 h (stamp_acts k.pool.0 k.stamps) (Bears b ∷ rest) own).1

pub born_headline : (c : Codec) (h : Host) (name : List ℕ) (blocks : ℕ) (tops : List (List (List ℕ))) (acts : List Act) (reply : Reply) (entries : List Entry) → (k : Creates c h name blocks tops acts reply)
    → IsNew h k.pool.0 → IsRun c (host_along acts h) entries
    → Headline c (Born (new_birth name k.pool blocks h.table tops) (host_stamped h k.pool.0 k.stamps).disk)
    (host_by (Bears (new_birth name k.pool blocks h.table tops)) (host_stamped h k.pool.0 k.stamps)) (commit_acts k.answer k.pool.0 k.moves) entries
born_headline c h name blocks tops acts reply entries k new run =
    let known = bears_known c h name blocks tops k.pool k.stamps k.may k.are new in
    let table_is = acts_table (stamp_acts k.pool.0 k.stamps) h in
    let b = new_birth name k.pool blocks h.table tops in
    let rest = commit_acts k.answer k.pool.0 k.moves in
    headline_from c (Born b (host_stamped h k.pool.0 k.stamps).disk) (host_by (Bears b) (host_stamped h k.pool.0 k.stamps)) rest entries (record {
      left = record {
        allowed = (is_stamped h name blocks tops k.pool k.stamps k.may k.are, known.0.roster);
        names = λ n d is. new.names n d (sym (ap (λ table. number_in n table) table_is) ∙ is);
        sizes = λ d one. ap (λ table. size_in table d) (sym table_is);
        disk = λ d s one. refl;
        stands = λ s is number. known.0.stands s is number;
      };
      knows = known.0;
      may = bears_may c h name blocks tops acts reply k new;
      run = subst (λ x. IsRun c x entries) (ap (λ a. host_along a h) k.all ∙ host_more (stamp_acts k.pool.0 k.stamps) (Bears b ∷ rest) h) run;
      at_rest = refl;
    })
