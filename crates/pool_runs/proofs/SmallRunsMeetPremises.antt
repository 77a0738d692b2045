-- Behind the small run's stop the premises of an opening hold.
use Rattle.std.proofs.Common.{◌≡◌, ◌≢◌, ◌⊎◌, inl, inr, ℕ, ◌-◌, ◌==◌, ◌&&◌, ◌||◌, Bool, true, false, cond, List, []}
use Rattle.std.proofs.Common.{◌∷◌, ◌++◌, map, take, length, append-nil, append_assoc, Some, None, refl, sym, ap, ◌∙◌}
use Rattle.std.proofs.Common.{subst, arith}
use Rattle.std.specs.List.{AllByRecursion}
use Rattle.std.proofs.lemmas.List.{take-append-drop}
use Rattle.bank_core.specs.Asks.{Ask, Writes, ask_of}
use Rattle.bank_core.specs.Disk.{Pending, Nothing, Written, Failing, Sector, Sectors, Noted, IsClean, covers}
use Rattle.bank_core.specs.Disk.{sectors_in, sector_of, hurt, after_write, after_flush, after_call, replay, run}
use Rattle.label_store.specs.declared.rule.Head.{Head}
use Rattle.label_store.specs.Records.{place_at}
use Rattle.label_store.specs.Rounds.{config_of}
use Rattle.txg_history.specs.Events.{Event, Known, Acks}
use Rattle.txg_history.specs.Moves.{ReadsTrue}
use Rattle.txg_history.specs.Openings.{IsReadWhole}
use Rattle.txg_history.specs.Pools.{Pool, drawn}
use Rattle.txg_history.specs.Premises.{AreOwnConfigs, Premises}
use Rattle.txg_history.specs.Records.{Rec, IsIn, number_of, takes_part}
use Rattle.txg_history.proofs.Logging.{by_bool, true_not_false, same_device}
use Rattle.pool_moves.specs.Moves.{Draft, Move, Puts, Commits, rec_of, steps, after_moves}
use Rattle.pool_moves.specs.StampRow.{NewLeaf, is_leaf_at}
use Rattle.pool_moves.specs.States.{Side}
use Rattle.pool_runs.specs.Acts.{Act, Does, Hears, Bears, does, calls_along, events_for, pool_by, pool_along, history}
use Rattle.pool_runs.specs.Creating.{stamp_acts, host_stamped}
use Rattle.pool_runs.specs.Devices.{name_in, size_in}
use Rattle.pool_runs.specs.Hosts.{Host, host_by}
use Rattle.pool_runs.specs.HostRows.{acts_in}
use Rattle.pool_runs.specs.Pasts.{Past, Then, pool_of, then_all, in_size}
use Rattle.pool_runs.specs.PlainPremises.{KeepsUp}
use Rattle.pool_runs.specs.SmallRuns.{small_table, small_host, small_pool, small_device, small_member, small_head}
use Rattle.pool_runs.specs.SmallRuns.{small_head_of, small_codec, small_draft, small_founding, small_written}
use Rattle.pool_runs.specs.SmallRuns.{small_flushed, small_sync, small_stamp, small_birth, small_later, small_born}
use Rattle.pool_runs.specs.SmallRuns.{small_rest, small_past, small_next, small_again, answered}
use Rattle.pool_runs.proofs.Acting.{own_events, acts_more, history_pool}
use Rattle.pool_runs.proofs.Bearing.{acts_disk}
use Rattle.pool_runs.proofs.Committing.{does_pool}
use Rattle.pool_runs.proofs.Knowing.{acts_number}
use Rattle.pool_runs.proofs.LabelsKeepUp.{labels_keep_up}
use Rattle.pool_runs.proofs.Pasting.{then_pool, is_in_size}
use Rattle.pool_runs.proofs.SmallRuns.{small_left, small_stops}

abbrev g : ℕ
g = small_pool.0

-- The pool as the moves of its creation, its write and its sync leave it.
abbrev side_of : Pool → Side
side_of p = record { pool = p; seats = [] }

abbrev founded_pool : Pool
founded_pool = (after_moves small_founding (side_of (pool_of small_born))).pool

abbrev later_moves : (block : List ℕ) → List Move
later_moves block = Puts 0 block ∷ small_sync block

abbrev synced : (block : List ℕ) → Pool
synced block = (after_moves (later_moves block) (side_of founded_pool)).pool

past_pool : (block : List ℕ) → pool_of (small_past block) ≡ synced block
past_pool block = then_pool small_born (history (small_rest block) (pool_of small_born))
    ∙ (sym (history_pool (small_rest block) (pool_of small_born))
    ∙ (acts_more (does g small_founding) (acts_in (small_later block)) (pool_of small_born)
    ∙ (ap (pool_along (acts_in (small_later block))) (does_pool g small_founding (side_of (pool_of small_born)) refl)
    ∙ (ap (λ acts. pool_along acts (pool_by (Does g (Puts 0 block)) founded_pool)) (append-nil (does g (small_sync block)))
    ∙ does_pool g (later_moves block) (side_of founded_pool) refl))))

-- A record that was drawn is the first one, without a number, or its configuration is its number alone.
abbrev IsSmall : Rec → Type 0
IsSmall r = (number_of r ≡ 0) ⊎ (config_of r.commit ≡ number_of r ∷ [])

in_all : (P : Rec → Type 0) (rs : List Rec) (r : Rec) → AllByRecursion P rs → IsIn r rs → P r
in_all P [] r all is = absurd is
in_all P (q ∷ rs) r all (inl same) = subst P (sym same) all.0
in_all P (q ∷ rs) r all (inr more) = in_all P rs r all.1 more

-- What stands in it but for its sectors.
record IsSmallPool (p : Pool) : Type 0 where
  is : p.member 0 ≡ true
  only : (d : ℕ) → p.member d ≡ true → d ≡ 0
  size : p.size 0 ≡ 320
  guid : p.guid 0 ≡ small_member.guid
  missed : p.missed ≡ []
  records : AllByRecursion IsSmall (drawn p)

abbrev small_leaf : NewLeaf
small_leaf = record { name = small_device; dev = 0; guid = small_member.guid; top = 1 }

synced_is : (block : List ℕ) → IsSmallPool (synced block)
synced_is block = record {
  is = refl;
  only = λ d is. by_bool (0 == d) (λ here. sym (same_device 0 d here))
      (λ away. absurd (let no : false ≡ true = sym (ap (λ t. is_leaf_at (cond t (Some small_leaf) None)) away) ∙ is in cc));
  size = refl;
  guid = refl;
  missed = refl;
  records = (inr refl, (inr refl, (inl refl, tt)));
}

small_is : (block : List ℕ) → IsSmallPool (pool_of (small_past block))
small_is block = subst IsSmallPool (sym (past_pool block)) (synced_is block)

-- Nothing was damaged: each call was answered, and none came with damage.
answered_unhurt : (ask : Ask) (d s : ℕ) (x : Sector) → x.damaged ≡ false → (after_call (answered ask) d s x).damaged ≡ false
answered_unhurt (Writes dev at bytes) d s x sound = by ((dev == d) && covers at (sectors_in bytes) s)
  where
    by : (t : Bool)
        → (cond t (record { stable = x.stable; pending = after_write None (sector_of (s - at) bytes); damaged = x.damaged }) (hurt false x)).damaged ≡ false
    by true = sound
    by false = sound
answered_unhurt ask d s x sound = by (0 == d)
  where
    flushed : (w : Pending) → (after_flush w (hurt false x)).damaged ≡ false
    flushed Nothing = sound
    flushed (Written bytes) = refl
    flushed (Failing bytes) = sound

    by : (t : Bool) → (cond (t && true) (after_flush x.pending (hurt false x)) (hurt false x)).damaged ≡ false
    by true = flushed x.pending
    by false = sound

all_unhurt : (asks : List Ask) (d s : ℕ) (x : Sector) → x.damaged ≡ false → (replay (map answered asks) d s x).damaged ≡ false
all_unhurt [] d s x sound = sound
all_unhurt (ask ∷ asks) d s x sound = all_unhurt asks d s (after_call (answered ask) d s x) (answered_unhurt ask d s x sound)

run_unhurt : (made : List Noted) (sectors : Sectors) → made ≡ map answered (map (λ noted. ask_of noted.call) made)
    → ((d s : ℕ) → (sectors d s).damaged ≡ false) → (d s : ℕ) → (run made sectors d s).damaged ≡ false
run_unhurt made sectors are sound d s = subst (λ calls. (replay calls d s (sectors d s)).damaged ≡ false) (sym are)
    (all_unhurt (map (λ noted. ask_of noted.call) made) d s (sectors d s) (sound d s))

small_unhurt : (block : List ℕ) → length block ≡ 4096 → (s : ℕ) → ((pool_of (small_past block)).sectors 0 s).damaged ≡ false
small_unhurt block long s = ap (λ x. x.damaged) ((small_left block long).disk 0 s (omega arith))
    ∙ (ap (λ disk. (disk 0 s).damaged) (acts_disk (small_rest block) stamped)
    ∙ run_unhurt (calls_along (small_rest block)) stamped.disk refl
    (λ d s. ap (λ disk. (disk d s).damaged) (acts_disk (stamp_acts g (small_stamp ∷ [])) (host_by (Hears 1) small_host))
    ∙ run_unhurt (calls_along (stamp_acts g (small_stamp ∷ []))) small_host.disk refl (λ d s. refl) d s) 0 s)
  where
    stamped : Host
    stamped = host_by (Bears small_birth) (host_stamped (host_by (Hears 1) small_host) g (small_stamp ∷ []))

-- The last event is the acknowledgement of the sync's round, in which the device takes part.
then_last : (past : Past) (vs : List Event) (v : Event) → then_all past (vs ++ (v ∷ [])) ≡ Then (then_all past vs) v
then_last past [] v = refl
then_last past (w ∷ vs) v = then_last (Then past w) vs v

history_more : (first second : List Act) (p : Pool) → history (first ++ second) p ≡ history first p ++ history second (pool_along first p)
history_more [] second p = refl
history_more (act ∷ first) second p = ap (λ vs. events_for act p ++ vs) (history_more first second (pool_by act p))
    ∙ sym (append_assoc (events_for act p) (history first (pool_by act p)) (history second (pool_along first (pool_by act p))))

abbrev last_draft : (block : List ℕ) → Draft
last_draft block = small_draft 2 (steps (small_flushed block) (small_written block))

-- all acts but the last
abbrev early : (block : List ℕ) → List Act
early block = take 47 (small_rest block)

abbrev early_pool : (block : List ℕ) → Pool
early_pool block = pool_along (early block) (pool_of small_born)

abbrev early_past : (block : List ℕ) → Past
early_past block = then_all small_born (history (early block) (pool_of small_born))

ends_acked : (block : List ℕ) → small_past block ≡ Then (early_past block) (Acks (rec_of (early_pool block) (last_draft block)))
ends_acked block = ap (λ acts. then_all small_born (history acts (pool_of small_born))) acts
    ∙ (ap (then_all small_born) (history_more (early block) (Does g (Commits (last_draft block)) ∷ []) (pool_of small_born))
    ∙ (ap (λ vs. then_all small_born (history (early block) (pool_of small_born) ++ (vs ++ [])))
    (own_events g (Commits (last_draft block)) (early_pool block) number)
    ∙ then_last small_born (history (early block) (pool_of small_born)) (Acks (rec_of (early_pool block) (last_draft block)))))
  where
    acts : small_rest block ≡ early block ++ (Does g (Commits (last_draft block)) ∷ [])
    acts = sym (take-append-drop 47 (small_rest block))

    number : (early_pool block).pool.0 ≡ g
    number = ap (λ n. n.0) (acts_number (early block) (pool_of small_born))

past_keeps_up : (block : List ℕ) → KeepsUp (small_past block) 0
past_keeps_up block = subst (λ past. KeepsUp past 0) (sym (ends_acked block))
    (subst (λ m. takes_part (rec_of (early_pool block) (last_draft block)) m ≡ true) (sym guid) refl)
  where
    guid : (pool_of (early_past block)).guid 0 ≡ small_member.guid
    guid = sym (ap (λ past. (pool_of past).guid 0) (ends_acked block)) ∙ (small_is block).guid

-- In the next run the device has its number.
abbrev now : (block : List ℕ) → (other : ℕ) → ℕ → ℕ
now block other = in_size (small_past block) (λ d. d) other (small_next block)

now_zero : (block : List ℕ) (other : ℕ) → now block other 0 ≡ 0
now_zero block other = ap (λ n. cond ((size_in small_table 0 == 0) || (n == size_in small_table 0)) 0 other) (small_is block).size

pub small_keeps_up : (block : List ℕ) (other : ℕ) → KeepsUp (small_again block other) 0
small_keeps_up block other = subst (KeepsUp (small_past block)) (sym (now_zero block other)) (past_keeps_up block)

-- A configuration is told by its number.
number_alone : (config : List ℕ) (number : ℕ) (head : Head) → small_head_of config ≡ Some head → head.number.0 ≡ number → config ≡ number ∷ []
number_alone [] number head reads is = absurd (cc)
number_alone (n ∷ []) number head reads is = ap (λ k. k ∷ []) (ap (λ h. h.number.0) (same (small_head n) head reads) ∙ is)
  where
    same : (a b : Head) → Some a ≡ Some b → a ≡ b
    same a b e = cc
number_alone (a ∷ (b ∷ config)) number head reads is = absurd (cc)

module _ (block : List ℕ) (other : ℕ) (known : Known) (long : length block ≡ 4096) (none : (pool_of (small_past block)).member other ≡ false) where
  abbrev p : Pool
  p = pool_of (small_again block other)

  zero_is : p.member 0 ≡ true
  zero_is = ap (pool_of (small_past block)).member (now_zero block other) ∙ (small_is block).is

  zero_only : (d : ℕ) → p.member d ≡ true → d ≡ 0
  zero_only d is = (small_is block).only d (subst (λ n. (pool_of (small_past block)).member n ≡ true)
      (is_in_size (small_past block) (λ d. d) (name_in small_table) (small_next block) other none d is).0 is)

  size_is : p.size 0 ≡ 320
  size_is = ap (λ n. cond ((pool_of (small_past block)).member n) ((pool_of (small_past block)).size n) (size_in small_table 0)) (now_zero block other)
      ∙ (ap (λ t. cond t ((pool_of (small_past block)).size 0) (size_in small_table 0)) (small_is block).is ∙ (small_is block).size)

  zero_clean : (s : ℕ) → IsClean (p.sectors 0 s)
  zero_clean s = record { still = refl; sound = small_unhurt block long s }

  own_configs : AreOwnConfigs (small_codec block).head_of p known
  own_configs r d u config drawn_one member is verified same = of (in_all IsSmall (drawn (pool_of (small_past block))) r (small_is block).records drawn_one)
    where
      number : u.number.0 ≡ number_of r
      number = ap (λ u. u.number.0) is

      of : IsSmall r → config ≡ config_of r.commit
      of (inl first) = absurd (let some = verified.verified.is_record.some in omega (arith, some, number, first))
      of (inr own) = let headed = verified.verified.is_record.headed in
          number_alone config (number_of r) headed.head headed.reads (ap (λ n. n.0) headed.number_is ∙ number) ∙ sym own

  -- another device is no member
  others_off : (d : ℕ) → p.member d ≡ false → d ≢ 0
  others_off d off same = true_not_false (p.member d) (subst (λ e. p.member e ≡ true) (sym same) zero_is) off

  pub premises_by : ReadsTrue p.sectors known → IsReadWhole 320 (known 0) → ((d s : ℕ) → d ≢ 0 → known d s ≡ None)
      → Premises (small_codec block).head_of p known
  premises_by reads whole alone = record {
    no_clash = record {
      sums = own_configs;
      rings = λ d place bytes u member inside is correct. inl (reads d (place_at (p.size d) place) bytes is
          (subst (λ e. IsClean (p.sectors e (place_at (p.size d) place))) (sym (zero_only d member)) (zero_clean (place_at (p.size d) place))));
    };
    no_stray = record {
      others = λ d u config off verified. absurd (let no = sym (alone d _ (others_off d off)) ∙ verified.verified.uberblock in cc);
      passed = λ d u config r verified is given missed. absurd (subst (IsIn r) (small_is block).missed missed);
    };
    good = 0;
    sound_labels = labels_keep_up (small_codec block) (small_again block other) known 0 (small_stops block other long none).left.allowed zero_is
        (small_keeps_up block other) (λ label s lt low. small_unhurt block long _) (subst (λ n. IsReadWhole n (known 0)) (sym size_is) whole);
  }

pub small_premises : (block : List ℕ) (other : ℕ) (known : Known) → length block ≡ 4096 → (pool_of (small_past block)).member other ≡ false
    → ReadsTrue (pool_of (small_again block other)).sectors known → IsReadWhole 320 (known 0) → ((d s : ℕ) → d ≢ 0 → known d s ≡ None)
    → Premises (small_codec block).head_of (pool_of (small_again block other)) known
small_premises block other known long none reads whole alone = premises_by block other known long none reads whole alone
