-- A line that makes reads alone and changes the leaves of the open pool: their states, and the device that one is on.
use Rattle.std.proofs.Common.{◌≡◌, ◌≢◌, ◌⊎◌, ⊎_elim, ℕ, Bool, true, false, ◌||◌, List, [], Some, refl, sym, ap, ◌∙◌, subst, inl, inr}
use Rattle.std.specs.Prelude.{is_some}
use Rattle.std.specs.Str.{bytes_eq}
use Rattle.std.proofs.lemmas.Slice.Eq.{bytes_eq-Decides}
use Rattle.mp_base.specs.declared.number.Guid.{Guid}
use Rattle.bank_core.specs.Disk.{Noted}
use Rattle.label_store.specs.Newest.{AreReads}
use Rattle.pool_history.specs.Pools.{Pool}
use Rattle.pool_core.specs.Reading.{source_of, block_from}
use Rattle.pool_core.specs.State.{LeafState, PoolState}
use Rattle.host_machine.specs.declared.device.HostDevice.{HostDevice}
use Rattle.host_machine.specs.Devices.{number_in}
use Rattle.host_machine.specs.Machine.{HostState, with_pool}
use Rattle.host_machine.specs.Records.{owed_by}
use Rattle.host_machine.specs.Tracking.{Cost, Device, Brought, Place, IsAt, IsOpenAs, is_member, IsAlone, IsElsewhere, LosesLast, StandsIn, Tracks, Follows}
use Rattle.host_machine.proofs.Away.{reads_away, not_both}
use Rattle.host_machine.proofs.Following.{kept_last, Among, without, fewer, still_gone, among_lost, stays_or, losing_follow, none_member}
use Rattle.host_machine.proofs.Whose.{is_this, this_open, not_this, off_first, off_second}

-- A leaf as it was, but that it may have another state, and a device of these that has its name.
pub record IsSameLeaf (table : List HostDevice) (ds : List ℕ) (leaf next : LeafState) : Type 0 where
  pub member : next.member ≡ leaf.member
  pub name : next.name ≡ leaf.name
  pub owes : next.owes ≡ leaf.owes
  pub dev : (d : ℕ) → next.dev ≡ Some d → (leaf.dev ≡ Some d) ⊎ (Among d ds × (number_in leaf.name table ≡ Some d))
  pub kept : is_some leaf.dev ≡ true → is_some next.dev ≡ true

pub same_leaf : (table : List HostDevice) (ds : List ℕ) (leaf : LeafState) → IsSameLeaf table ds leaf leaf
same_leaf table ds leaf = record { member = refl; name = refl; owes = refl; dev = λ d e. inl e; kept = λ has. has }

-- a pool whose leaves are such
pub record IsSamePool (table : List HostDevice) (ds : List ℕ) (s left : PoolState) : Type 0 where
  pub name : left.name ≡ s.name
  pub pool : left.pool ≡ s.pool
  pub number : left.number ≡ s.number
  pub committed : left.committed ≡ s.committed
  pub writes : left.writes ≡ s.writes
  pub first : IsSameLeaf table ds s.first left.first
  pub second : IsSameLeaf table ds s.second left.second

pub same_pool : (table : List HostDevice) (ds : List ℕ) (s : PoolState) → IsSamePool table ds s s
same_pool table ds s = record { name = refl; pool = refl; number = refl; committed = refl; writes = refl; first = same_leaf table ds s.first; second = same_leaf table ds s.second }

-- The leaf is at its place still.
same_at : (table : List HostDevice) (ds : List ℕ) (leaf next : LeafState) (place : Place) → IsSameLeaf table ds leaf next → ((d : ℕ) → number_in place.name table ≡ Some d → d ≡ place.dev)
    → IsAt leaf place → IsAt next place
same_at table ds leaf next place same number at = (
  same.member ∙ at.0,
  same.name ∙ at.1,
  λ d e. ⊎_elim (λ was. at.2 d was) (λ (came : Among d ds × (number_in leaf.name table ≡ Some d)). number d (subst (λ n. number_of n d) at.1 came.1)) (same.dev d e),
)
  where
    number_of : List ℕ → ℕ → Type 0
    number_of name d = number_in name table ≡ Some d

owed_as : (s : PoolState) (m one other : Guid) (a b : ℕ → Bool) (g : ℕ) → one ≡ s.first.member → other ≡ s.second.member → a ≡ s.first.owes → b ≡ s.second.owes
    → owed_by (record s { first = record s.first { member = one; owes = a }; second = record s.second { member = other; owes = b } }) m g ≡ owed_by s m g
owed_as s m one other a b g e f first second =
    ap (λ n. owed_by (record s { first = record s.first { member = n; owes = a }; second = record s.second { member = other; owes = b } }) m g) e
    ∙ ap (λ n. owed_by (record s { first = record s.first { owes = a }; second = record s.second { member = n; owes = b } }) m g) f
    ∙ ap (λ l. owed_by (record s { first = record s.first { owes = l }; second = record s.second { owes = b } }) m g) first
    ∙ ap (λ l. owed_by (record s { second = record s.second { owes = l } }) m g) second

same_owed : (table : List HostDevice) (ds : List ℕ) (s left : PoolState) (m : Guid) (g : ℕ) → IsSamePool table ds s left → owed_by left m g ≡ owed_by s m g
same_owed table ds s left m g same =
    owed_as s m left.first.member left.second.member left.first.owes left.second.owes g same.first.member same.second.member same.first.owes same.second.owes

-- The pool is open as this state still.
same_open : (table : List HostDevice) (ds : List ℕ) (p : Pool) (s left : PoolState) → IsSamePool table ds s left → IsOpenAs p s → IsOpenAs p left
same_open table ds p s left same is = record {
  name = same.name ∙ is.name;
  pool = same.pool ∙ is.pool;
  idle = is.idle;
  number = same.number ∙ is.number;
  acked = same.number ∙ is.acked;
  committed = λ a. ap (λ f. f a) same.committed ∙ is.committed a;
  written = λ a. ap (λ f. block_from (source_of (f a) (left.committed a))) same.writes ∙ ap (λ f. block_from (source_of (s.writes a) (f a))) same.committed ∙ is.written a;
  grown = λ d g member owed. is.grown d g member (sym (same_owed table ds s left (p.guid d) g same) ∙ owed);
}

has_some : (a b c d : Bool) → (a ≡ true → c ≡ true) → (b ≡ true → d ≡ true) → (a || b) ≡ true → (c || d) ≡ true
has_some true b c d one other e = ap (λ x. x || d) (one refl)
has_some false true true d one other e = refl
has_some false true false d one other e = other refl
has_some false false c d one other e = absurd (let no : false ≡ true = e in cc)

module _ (T : Cost → Type 0) (p : Pool) (h : HostState) (s left : PoolState) (ds : List ℕ) (made : List Noted) (open_now : h.pool ≡ Some s) (reads : AreReads made)
    (same : IsSamePool h.table ds s left) (named : (d : ℕ) → Among d ds → (number_in s.first.name h.table ≡ Some d) ⊎ (number_in s.second.name h.table ≡ Some d))
    (takes : s.name ≢ p.name → (d : ℕ) → Among d ds → T (Device d)) (brings : (d : ℕ) → Among d ds → T (Brought d)) where
  -- It is this pool: it stays open.
  stays_open : is_this p s ≡ true → Follows p h T made (with_pool h left)
  stays_open this =
      losing_follow T p h [] made (with_pool h left) (λ d is at. absurd at) (reads_away p.member made reads) refl refl (λ r i. i) (λ tr.
      let at = this_open p tr.first tr.second h.table s this (subst (StandsIn p tr.first tr.second h.table) open_now tr.stands) in
      inl (
        same_at h.table ds s.first left.first tr.first same.first tr.first_number at.0,
        same_at h.table ds s.second left.second tr.second same.second tr.second_number at.1,
        same_open h.table ds p s left same at.2,
      )) (λ tr. kept_last T p p refl)

  -- It is another one: it takes the devices that come back into it.

  gone : (leaf next : LeafState) → IsSameLeaf h.table ds leaf next → ((d : ℕ) → leaf.dev ≡ Some d → p.member d ≡ false) → is_member (without ds p) next.dev ≡ false
  gone leaf next is off =
      none_member ds p next.dev (λ d e. ⊎_elim (λ was. still_gone ds p d (off d was)) (λ (came : Among d ds × (number_in leaf.name h.table ≡ Some d)). among_lost ds p d came.0) (is.dev d e))

  alone : (d : ℕ) → IsAlone p d → IsAlone (without ds p) d
  alone d only e member = only e ((fewer ds p).member e member)

  alone_left : (leaf next : LeafState) → IsSameLeaf h.table ds leaf next → ((d : ℕ) → number_in leaf.name h.table ≡ Some d → p.member d ≡ true → IsAlone p d)
      → (d : ℕ) → number_in next.name h.table ≡ Some d → (without ds p).member d ≡ true → IsAlone (without ds p) d
  alone_left leaf next is only d e member = alone d (only d (subst (λ n. number_of n d) is.name e) ((fewer ds p).member d member))
    where
      number_of : List ℕ → ℕ → Type 0
      number_of name d = number_in name h.table ≡ Some d

  elsewhere_left : is_this p s ≡ false → IsElsewhere p h.table s → IsElsewhere (without ds p) h.table left
  elsewhere_left off other = record {
    seated = λ e. has_some (is_some s.first.dev) (is_some s.second.dev) (is_some left.first.dev) (is_some left.second.dev) same.first.kept same.second.kept (other.seated (own_name e));
    first = gone s.first left.first same.first (off_first p s off);
    second = gone s.second left.second same.second (off_second p s off);
    alone_first = λ e. alone_left s.first left.first same.first (other.alone_first (own_name e));
    alone_second = λ e. alone_left s.second left.second same.second (other.alone_second (own_name e));
  }
    where
      own_name : left.name ≡ (without ds p).name → s.name ≡ p.name
      own_name e = sym same.name ∙ e ∙ (fewer ds p).name

  cost : (d : ℕ) → Among d ds → T (Device d) ⊎ T (Brought d)
  cost d at = by (bytes_eq s.name p.name) refl
    where
      by : (t : Bool) → bytes_eq s.name p.name ≡ t → T (Device d) ⊎ T (Brought d)
      by true e = inr (brings d at)
      by false e = inl (takes (λ is. not_both (bytes_eq s.name p.name) e ((bytes_eq-Decides s.name p.name).1 is)) d at)

  only_last : is_this p s ≡ false → Tracks p h → LosesLast p (without ds p) T
  only_last off tr d e is other_is lost =
      ⊎_elim {A = (without ds p).member d ≡ true} {B = Among d ds} (λ still. absurd (not_both ((without ds p).member d) lost still)) (λ at. by at (bytes_eq s.name p.name) refl) (stays_or ds p d is)
    where
      other : IsElsewhere p h.table s
      other = not_this p h s tr off (subst (StandsIn p tr.first tr.second h.table) open_now tr.stands)

      by : Among d ds → (t : Bool) → bytes_eq s.name p.name ≡ t → (e ≡ d) ⊎ (T (Device d) ⊎ T (Device e))
      by at true n =
          let own = (bytes_eq-Decides s.name p.name).0 n in
          inl (⊎_elim (λ one. other.alone_first own d one is e other_is) (λ two. other.alone_second own d two is e other_is) (named d at))
      by at false n = inr (inl (takes (λ is. not_both (bytes_eq s.name p.name) n ((bytes_eq-Decides s.name p.name).1 is)) d at))

  leaves_it : is_this p s ≡ false → Follows p h T made (with_pool h left)
  leaves_it off =
      losing_follow T p h ds made (with_pool h left) (λ d is at. cost d at) (reads_away (without ds p).member made reads) refl refl (λ r i. i)
      (λ tr. inr (elsewhere_left off (not_this p h s tr off (subst (StandsIn p tr.first tr.second h.table) open_now tr.stands)))) (only_last off)

  pub leaves_change : Follows p h T made (with_pool h left)
  leaves_change = by (is_this p s) refl
    where
      by : (this : Bool) → is_this p s ≡ this → Follows p h T made (with_pool h left)
      by true this = stays_open this
      by false off = leaves_it off
