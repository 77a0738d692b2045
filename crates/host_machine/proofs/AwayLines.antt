-- Lines by which leaves go away and come back: each follows each pool.
use Rattle.std.proofs.Common.{◌≡◌, ◌≢◌, ◌⊎◌, ⊎_elim, ℕ, ◌+◌, nat_le, Bool, true, false, List, [], ◌∷◌, Option, Some, None, Result, refl, sym, ap, ◌∙◌, subst, inl, inr}
use Rattle.std.specs.Prelude.{if◌then◌else◌}
use Rattle.std.specs.Str.{bytes_eq}
use Rattle.std.proofs.lemmas.Slice.Eq.{bytes_eq-Decides}
use Rattle.mp_base.specs.declared.refusal.Refusal.{Refusal}
use Rattle.mp_base.specs.declared.refusal.Refusal.TheVariants as refusals
use Rattle.bank_core.specs.Disk.{Noted}
use Rattle.label_store.specs.Newest.{AreReads}
use Rattle.vdev_tree.specs.declared.vdev.State.{State}
use Rattle.pool_wire.specs.declared.reply.Reply.{Reply}
use Rattle.pool_wire.specs.declared.reply.Reply.TheVariants as replies
use Rattle.pool_history.specs.Pools.{Pool}
use Rattle.pool_core.specs.Away.{leaf_named, with_leaf, taken_offline, OfflinesLeaf, is_away, brought, marked, OnlinesLeaf}
use Rattle.pool_core.specs.State.{LeafState, PoolState, leaves}
use Rattle.host_machine.specs.declared.device.HostDevice.{HostDevice}
use Rattle.host_machine.specs.Devices.{number_in}
use Rattle.host_machine.specs.Fitness.{IsFitPool, PoolIsFit, IsFit}
use Rattle.host_machine.specs.Machine.{HostState, named_pool, with_pool, refused, Quietly, OfflinesIn, OnlinesOn, OnlinesNamed, OnlinesIn, logs_answer}
use Rattle.host_machine.specs.Tracking.{Cost, Device, Brought, Follows}
use Rattle.host_machine.proofs.Away.{search_reads}
use Rattle.host_machine.proofs.Creating.{quiet_follows}
use Rattle.host_machine.proofs.Following.{Among}
use Rattle.host_machine.proofs.LeafChanges.{IsSameLeaf, same_leaf, IsSamePool, same_pool, leaves_change}
use Rattle.host_machine.proofs.LeafLines.{leaf_is_one, first_changed, second_changed, takes_left, OnlineLeft, onlines_left}
use Rattle.host_machine.proofs.QuietLines.{named_is}
use Rattle.host_machine.proofs.Settling.{same_some, none_some}

-- a change of one leaf is one of the pool
leaf_changed : (table : List HostDevice) (ds : List ℕ) (s : PoolState) (leaf : LeafState) (change : LeafState → LeafState) → s.first.member.0 ≢ s.second.member.0 → (s.first ≡ leaf) ⊎ (s.second ≡ leaf)
    → IsSameLeaf table ds leaf (change leaf) → IsSamePool table ds s (with_leaf leaf.member change s)
leaf_changed table ds s leaf change differ (inl one) same =
    subst (λ l. IsSamePool table ds s (with_leaf l.member change s)) one
    (subst (IsSamePool table ds s) (sym (first_changed s change differ)) (record {
      name = refl;
      pool = refl;
      number = refl;
      committed = refl;
      writes = refl;
      first = subst (λ l. IsSameLeaf table ds l (change l)) (sym one) same;
      second = same_leaf table ds s.second;
    }))
leaf_changed table ds s leaf change differ (inr other) same =
    subst (λ l. IsSamePool table ds s (with_leaf l.member change s)) other
    (subst (IsSamePool table ds s) (sym (second_changed s change differ)) (record {
      name = refl;
      pool = refl;
      number = refl;
      committed = refl;
      writes = refl;
      first = same_leaf table ds s.first;
      second = subst (λ l. IsSameLeaf table ds l (change l)) (sym other) same;
    }))

-- a line that brings no device
none_comes : (T : Cost → Type 0) (p : Pool) (h : HostState) (s left : PoolState) (made : List Noted) → h.pool ≡ Some s → AreReads made → IsSamePool h.table [] s left → Follows p h T made (with_pool h left)
none_comes T p h s left made is reads same = leaves_change T p h s left [] made is reads same (λ d at. absurd at) (λ differ d at. absurd at) (λ d at. absurd at)

-- `offline`

offline_same : (table : List HostDevice) (s : PoolState) (temporary : Bool) (found : Option LeafState) (left : PoolState) (result : Result (Unit {0}) Refusal) → s.first.member.0 ≢ s.second.member.0
    → ((leaf : LeafState) → found ≡ Some leaf → (s.first ≡ leaf) ⊎ (s.second ≡ leaf)) → OfflinesLeaf s temporary found left result → IsSamePool table [] s left
offline_same table s temporary None left result differ one is = subst (IsSamePool table [] s) (sym is.0) (same_pool table [] s)
offline_same table s temporary (Some leaf) left result differ one is = ⊎_elim
    (λ same. subst (IsSamePool table [] s) (sym same) (same_pool table [] s))
    (λ taken. subst (IsSamePool table [] s) (sym taken) (leaf_changed table [] s leaf (taken_offline temporary) differ (one leaf refl)
    (record { member = refl; name = refl; owes = refl; dev = λ d e. inl e; kept = λ has. has })))
    (takes_left s temporary leaf left result is)

offline_named : (T : Cost → Type 0) (p : Pool) (h next : HostState) (pool : Option PoolState) (name : List ℕ) (temporary : Bool) (made : List Noted) (reply : Reply) → IsFit h
    → ((s : PoolState) → pool ≡ Some s → h.pool ≡ Some s) → OfflinesIn h pool name temporary made next reply → Follows p h T made next
offline_named T p h next None name temporary made reply fit named quiet = quiet_follows T p h made next reply (refused h refusals.NoPool).1 quiet
offline_named T p h next (Some s) name temporary made reply fit named (left, result, offlines, quiet) =
    let is : IsFitPool h.size s = subst (PoolIsFit h.size) (named s refl) fit.pool in
    subst (Follows p h T made) (sym (ap (λ x. x.0) quiet.1)) (none_comes T p h s left made (named s refl) (subst AreReads (sym quiet.0) tt)
    (offline_same h.table s temporary (leaf_named name (leaves s)) left result is.valid.two_members (leaf_is_one s name) offlines))

pub offline_follows : (T : Cost → Type 0) (p : Pool) (h next : HostState) (name device : List ℕ) (temporary : Bool) (made : List Noted) (reply : Reply) → IsFit h
    → OfflinesIn h (named_pool name h.pool) device temporary made next reply → Follows p h T made next
offline_follows T p h next name device temporary made reply fit is =
    offline_named T p h next (named_pool name h.pool) device temporary made reply fit (λ s e. named_is name h.pool s e) is

-- `online`

-- the calls look for an identity alone
onlines_reads : (size : ℕ → ℕ) (s : PoolState) (leaf : LeafState) (dev : ℕ) (made : List Noted) (left : PoolState) (result : Result State Refusal)
    → OnlinesLeaf size s leaf dev made left result → AreReads made
onlines_reads size s leaf dev made left result is = by (is_away leaf.state) (nat_le (s.sectors + 256) (size dev)) refl refl
  where
    by : (away has_room : Bool) → is_away leaf.state ≡ away → nat_le (s.sectors + 256) (size dev) ≡ has_room → AreReads made
    by false has_room e f = let h = rw e at is in subst AreReads (sym h.0) tt
    by true false e f = let h = rw f at (rw e at is) in subst AreReads (sym h.0) tt
    by true true e f = let h = rw f at (rw e at is) in search_reads s.pool leaf.member dev (size dev) made h.0 h.1

-- the name of the leaf of a name
pub leaf_name : (s : PoolState) (name : List ℕ) (leaf : LeafState) → leaf_named name (leaves s) ≡ Some leaf → leaf.name ≡ name
leaf_name s name leaf e = by (bytes_eq s.first.name name) (bytes_eq s.second.name name) refl refl e
  where
    is : (one : LeafState) → bytes_eq one.name name ≡ true → Some one ≡ Some leaf → leaf.name ≡ name
    is one t e = ap (λ (l : LeafState). l.name) (sym (same_some one leaf e)) ∙ (bytes_eq-Decides one.name name).0 t

    by : (a b : Bool) → bytes_eq s.first.name name ≡ a → bytes_eq s.second.name name ≡ b → (if a then Some s.first else (if b then Some s.second else None)) ≡ Some leaf → leaf.name ≡ name
    by true b t u e = is s.first t e
    by false true t u e = is s.second u e
    by false false t u e = absurd (none_some leaf e)

module _ (T : Cost → Type 0) (p : Pool) (h : HostState) (s : PoolState) (leaf : LeafState) (dev : ℕ) (made : List Noted) (open_now : h.pool ≡ Some s) (reads : AreReads made)
    (differ : s.first.member.0 ≢ s.second.member.0) (one : (s.first ≡ leaf) ⊎ (s.second ≡ leaf)) (numbered : number_in leaf.name h.table ≡ Some dev)
    (takes : s.name ≢ p.name → T (Device dev)) (brings : T (Brought dev)) where
  came_same : IsSamePool h.table (dev ∷ []) s (with_leaf leaf.member (brought dev) s)
  came_same = leaf_changed h.table (dev ∷ []) s leaf (brought dev) differ one (record {
    member = refl;
    name = refl;
    owes = refl;
    dev = λ d e. inr (inl (sym (same_some dev d e)), numbered ∙ e);
    kept = λ has. refl;
  })

  each : (P : ℕ → Type 0) → P dev → (d : ℕ) → Among d (dev ∷ []) → P d
  each P has d (inl same) = subst P (sym same) has
  each P has d (inr none) = absurd none

  on_leaf : (number_in s.first.name h.table ≡ Some dev) ⊎ (number_in s.second.name h.table ≡ Some dev)
  on_leaf = ⊎_elim (λ is. inl (ap (λ (l : LeafState). number_in l.name h.table) is ∙ numbered)) (λ is. inr (ap (λ (l : LeafState). number_in l.name h.table) is ∙ numbered)) one

  came_follows : Follows p h T made (with_pool h (with_leaf leaf.member (brought dev) s))
  came_follows =
      leaves_change T p h s (with_leaf leaf.member (brought dev) s) (dev ∷ []) made open_now reads came_same
      (each (λ d. (number_in s.first.name h.table ≡ Some d) ⊎ (number_in s.second.name h.table ≡ Some d)) on_leaf) (λ other. each (λ d. T (Device d)) (takes other)) (each (λ d. T (Brought d)) brings)

  pub left_follows : (left : PoolState) → OnlineLeft h.size s leaf dev left → Follows p h T made (with_pool h left)
  left_follows left (inl same) = subst (λ l. Follows p h T made (with_pool h l)) (sym same) (none_comes T p h s s made open_now reads (same_pool h.table [] s))
  left_follows left (inr (inl same)) =
      subst (λ l. Follows p h T made (with_pool h l)) (sym same) (none_comes T p h s (with_leaf leaf.member marked s) made open_now reads
      (leaf_changed h.table [] s leaf marked differ one (record { member = refl; name = refl; owes = refl; dev = λ d e. inl e; kept = λ has. has })))
  left_follows left (inr (inr (room, came))) = subst (λ l. Follows p h T made (with_pool h l)) (sym came) came_follows

on_follows : (T : Cost → Type 0) (p : Pool) (h next : HostState) (s : PoolState) (leaf : LeafState) (number : Option ℕ) (made : List Noted) (reply : Reply) → h.pool ≡ Some s
    → s.first.member.0 ≢ s.second.member.0 → (s.first ≡ leaf) ⊎ (s.second ≡ leaf) → number_in leaf.name h.table ≡ number
    → ((d : ℕ) → number_in leaf.name h.table ≡ Some d → s.name ≢ p.name → T (Device d)) → ((d : ℕ) → number_in leaf.name h.table ≡ Some d → T (Brought d))
    → OnlinesOn h s leaf number made next reply → Follows p h T made next
on_follows T p h next s leaf None made reply is differ one e takes brings quiet = quiet_follows T p h made next reply (replies.NoDevice leaf.name) quiet
on_follows T p h next s leaf (Some dev) made reply is differ one e takes brings (left, result, onlines, next_is, said) =
    subst (Follows p h T made) (sym next_is)
    (left_follows T p h s leaf dev made is (onlines_reads h.size s leaf dev made left result onlines) differ one e (takes dev e) (brings dev e) left
    (onlines_left h.size s leaf dev made left result onlines))

online_leaf : (T : Cost → Type 0) (p : Pool) (h next : HostState) (s : PoolState) (device : List ℕ) (found : Option LeafState) (made : List Noted) (reply : Reply) → h.pool ≡ Some s
    → s.first.member.0 ≢ s.second.member.0 → leaf_named device (leaves s) ≡ found
    → ((d : ℕ) → number_in device h.table ≡ Some d → s.name ≢ p.name → T (Device d)) → ((d : ℕ) → number_in device h.table ≡ Some d → T (Brought d))
    → OnlinesNamed h s found made next reply → Follows p h T made next
online_leaf T p h next s device None made reply is differ e takes brings quiet = quiet_follows T p h made next reply (refused h refusals.NoVdev).1 quiet
online_leaf T p h next s device (Some leaf) made reply is differ e takes brings onlines =
    on_follows T p h next s leaf (number_in leaf.name h.table) made reply is differ (leaf_is_one s device leaf e) refl
    (λ d n. takes d (subst (λ m. number_is m d) (leaf_name s device leaf e) n)) (λ d n. brings d (subst (λ m. number_is m d) (leaf_name s device leaf e) n)) onlines
  where
    number_is : List ℕ → ℕ → Type 0
    number_is name d = number_in name h.table ≡ Some d

online_named : (T : Cost → Type 0) (p : Pool) (h next : HostState) (pool : Option PoolState) (device : List ℕ) (made : List Noted) (reply : Reply) → IsFit h
    → ((s : PoolState) → pool ≡ Some s → h.pool ≡ Some s) → ((s : PoolState) → pool ≡ Some s → (d : ℕ) → number_in device h.table ≡ Some d → s.name ≢ p.name → T (Device d))
    → ((d : ℕ) → number_in device h.table ≡ Some d → T (Brought d)) → OnlinesIn h pool device made next reply → Follows p h T made next
online_named T p h next None device made reply fit named takes brings quiet = quiet_follows T p h made next reply (refused h refusals.NoPool).1 quiet
online_named T p h next (Some s) device made reply fit named takes brings onlines =
    let is : IsFitPool h.size s = subst (PoolIsFit h.size) (named s refl) fit.pool in
    online_leaf T p h next s device (leaf_named device (leaves s)) made reply (named s refl) is.valid.two_members refl (takes s refl) brings onlines

-- the open pool of a name has it
pool_name : (name : List ℕ) (pool : Option PoolState) (s : PoolState) → named_pool name pool ≡ Some s → s.name ≡ name
pool_name name None s e = absurd (none_some s e)
pool_name name (Some t) s e = by (bytes_eq t.name name) refl e
  where
    by : (b : Bool) → bytes_eq t.name name ≡ b → (if b then Some t else None) ≡ Some s → s.name ≡ name
    by true is e = ap (λ (x : PoolState). x.name) (sym (same_some t s e)) ∙ (bytes_eq-Decides t.name name).0 is
    by false is e = absurd (none_some s e)

pub online_follows : (T : Cost → Type 0) (p : Pool) (h next : HostState) (name device : List ℕ) (made : List Noted) (reply : Reply) → IsFit h
    → ((d : ℕ) → (name ≢ p.name) × (number_in device h.table ≡ Some d) → T (Device d)) → ((d : ℕ) → number_in device h.table ≡ Some d → T (Brought d))
    → OnlinesIn h (named_pool name h.pool) device made next reply → Follows p h T made next
online_follows T p h next name device made reply fit takes brings is =
    online_named T p h next (named_pool name h.pool) device made reply fit (λ s e. named_is name h.pool s e)
    (λ s e d n other. takes d ((λ same. other (pool_name name h.pool s e ∙ same)), n)) brings is

-- `logs`

pub logs_follows : (T : Cost → Type 0) (p : Pool) (h next : HostState) (pool : Option PoolState) (made : List Noted) (reply : Reply) → Quietly made (logs_answer h pool) next reply → Follows p h T made next
logs_follows T p h next None made reply quiet = quiet_follows T p h made next reply (refused h refusals.NoPool).1 quiet
logs_follows T p h next (Some s) made reply quiet = quiet_follows T p h made next reply (logs_answer h (Some s)).1 quiet
