-- The states behind an `offline` or an `online`: one leaf changes, and they stay fit.
use Rattle.std.proofs.Common.{◌≡◌, ◌≢◌, ◌⊎◌, ℕ, ◌+◌, ◌≤◌, ◌==◌, Bool, true, false, List, Option, Some, None, Result, Ok, Err, refl, sym, ap, ◌∙◌, subst, inl, inr}
use Rattle.std.specs.Prelude.{nat_le, is_some, if◌then◌else◌}
use Rattle.std.specs.Str.{bytes_eq}
use Rattle.std.proofs.lemmas.Bool.{leb-true, ne_eqb}
use Rattle.mp_base.specs.declared.refusal.Refusal.{Refusal}
use Rattle.bank_core.specs.declared.bank.Fault.{Fault}
use Rattle.bank_core.specs.Disk.{Noted}
use Rattle.vdev_tree.specs.declared.vdev.State.{State}
use Rattle.config_codec.specs.Validity.{IsValid}
use Rattle.config_codec.proofs.Changes.{valid_kept}
use Rattle.pool_history.proofs.LooksFound.{alike}
use Rattle.pool_core.specs.Away.{leaf_named, changed_if, with_leaf, is_offline, taken_offline, TakesOffline, OfflinesLeaf, IsOffline, is_away, brought, marked, online_answer, OnlinesLeaf}
use Rattle.pool_core.specs.Recorded.{fields_in}
use Rattle.pool_core.specs.State.{LeafState, PoolState, leaves, is_readable}
use Rattle.host_machine.specs.declared.device.HostDevice.{HostDevice}
use Rattle.host_machine.specs.Devices.{AreApart, number_in}
use Rattle.host_machine.specs.Fitness.{IsFitLeaf, IsFitPool, IsNamed, PoolIsNamed}
use Rattle.host_machine.proofs.Settling.{same_some, none_some}

-- The leaf of a name.

leaf_if : (t : Bool) (leaf found : LeafState) (more : Option LeafState) → (if t then Some leaf else more) ≡ Some found → (leaf ≡ found) ⊎ (more ≡ Some found)
leaf_if true leaf found more e = inl (same_some leaf found e)
leaf_if false leaf found more e = inr e

-- it is the first leaf or the second
pub leaf_is_one : (s : PoolState) (name : List ℕ) (leaf : LeafState) → leaf_named name (leaves s) ≡ Some leaf → (s.first ≡ leaf) ⊎ (s.second ≡ leaf)
leaf_is_one s name leaf e = elim (leaf_if (bytes_eq s.first.name name) s.first leaf _ e) [
  | inl first ↦ inl first
  | inr more ↦ elim (leaf_if (bytes_eq s.second.name name) s.second leaf None more) [
    | inl second ↦ inr second
    | inr none ↦ absurd (none_some leaf none)
  ]
]

-- The state with the first leaf changed, or the second.
abbrev pub with_first : (LeafState → LeafState) → PoolState → PoolState
with_first change s = record s { first = change s.first }

abbrev pub with_second : (LeafState → LeafState) → PoolState → PoolState
with_second change s = record s { second = change s.second }

abbrev changed_by : (one other : Bool) → (LeafState → LeafState) → PoolState → PoolState
changed_by one other change s = record s { first = changed_if one change s.first; second = changed_if other change s.second }

pub first_changed : (s : PoolState) (change : LeafState → LeafState) → s.first.member.0 ≢ s.second.member.0 → with_leaf s.first.member change s ≡ with_first change s
first_changed s change differ =
    ap (λ one. changed_by one (s.second.member.0 == s.first.member.0) change s) (alike s.first.member.0)
    ∙ ap (λ other. changed_by true other change s) (ne_eqb s.second.member.0 s.first.member.0 (λ e. differ (sym e)))

pub second_changed : (s : PoolState) (change : LeafState → LeafState) → s.first.member.0 ≢ s.second.member.0 → with_leaf s.second.member change s ≡ with_second change s
second_changed s change differ =
    ap (λ one. changed_by one (s.second.member.0 == s.second.member.0) change s) (ne_eqb s.first.member.0 s.second.member.0 differ)
    ∙ ap (λ other. changed_by false other change s) (alike s.second.member.0)

-- A leaf's device, its state and its marks change, and what a record says of it otherwise stays.
abbrev changed_to : (dev : Option ℕ) (state : State) (temporary marked : Bool) → LeafState → LeafState
changed_to dev state temporary marked leaf = record leaf { dev = dev; state = state; temporary = temporary; marked = marked }

-- A change of a leaf of this name, on a host of these devices: its device is the one of its name, and has room.
pub record Reseats (table : List HostDevice) (size : ℕ → ℕ) (sectors : ℕ) (old new : LeafState) : Type 0 where
  pub is : new ≡ changed_to new.dev new.state new.temporary new.marked old
  pub seated : is_readable new ≡ true → is_some new.dev ≡ true
  pub room : (d : ℕ) → new.dev ≡ Some d → sectors + 256 ≤ size d
  pub named : (d : ℕ) → new.dev ≡ Some d → number_in old.name table ≡ Some d

-- The pool is fit in a host of these devices.
abbrev pub FitIn : List HostDevice → (ℕ → ℕ) → PoolState → Type 0
FitIn table size s = IsFitPool size s × PoolIsNamed table (Some s)

changed_leaf : (size : ℕ → ℕ) (sectors number : ℕ) (leaf : LeafState) (dev : Option ℕ) (state : State) (temporary marked : Bool) → IsFitLeaf size sectors number leaf
    → (is_readable (changed_to dev state temporary marked leaf) ≡ true → is_some dev ≡ true) → ((d : ℕ) → dev ≡ Some d → sectors + 256 ≤ size d)
    → IsFitLeaf size sectors number (changed_to dev state temporary marked leaf)
changed_leaf size sectors number leaf dev state temporary marked fit seated room = record { seated = seated; room = room; logged = fit.logged }

first_valid : (s : PoolState) (dev : Option ℕ) (state : State) (temporary marked : Bool) → IsValid (fields_in s) → IsValid (fields_in (with_first (changed_to dev state temporary marked) s))
first_valid s dev state temporary marked v = valid_kept (fields_in s) (fields_in (with_first (changed_to dev state temporary marked) s)).first (fields_in s).second v (refl, refl) (refl, refl) refl refl

second_valid : (s : PoolState) (dev : Option ℕ) (state : State) (temporary marked : Bool) → IsValid (fields_in s) → IsValid (fields_in (with_second (changed_to dev state temporary marked) s))
second_valid s dev state temporary marked v = valid_kept (fields_in s) (fields_in s).first (fields_in (with_second (changed_to dev state temporary marked) s)).second v (refl, refl) (refl, refl) refl refl

-- names with one device are one, and the leaves have two
two_apart : (table : List HostDevice) (s : PoolState) (d : ℕ) → AreApart table → IsValid (fields_in s) → number_in s.first.name table ≡ Some d → number_in s.second.name table ≡ Some d → ⊥
two_apart table s d apart v one two = v.two_devices (apart.by s.first.name s.second.name d one two)

-- What a leaf's `offline` leaves of the pool.
pub takes_left : (s : PoolState) (temporary : Bool) (leaf : LeafState) (left : PoolState) (result : Result (Unit {0}) Refusal)
    → TakesOffline s temporary leaf left result → (left ≡ s) ⊎ (left ≡ with_leaf leaf.member (taken_offline temporary) s)
takes_left s temporary leaf left result is = by (is_offline leaf.state) refl
  where
    by : (t : Bool) → is_offline leaf.state ≡ t → (left ≡ s) ⊎ (left ≡ with_leaf leaf.member (taken_offline temporary) s)
    by true e = let h = rw e at is in inr h.0
    by false e = let h = rw e at is in elim h [
      | inl kept ↦ inl kept.2
      | inr taken ↦ inr taken.1
    ]

-- What a leaf's `online` leaves of the pool: it as it was, or with the leaf marked, or with the leaf on a device with room.
abbrev pub OnlineLeft : (size : ℕ → ℕ) → PoolState → LeafState → (dev : ℕ) → PoolState → Type 0
OnlineLeft size s leaf dev left = (left ≡ s) ⊎ ((left ≡ with_leaf leaf.member marked s) ⊎ ((s.sectors + 256 ≤ size dev) × (left ≡ with_leaf leaf.member (brought dev) s)))

answer_left : (s : PoolState) (leaf : LeafState) (dev : ℕ) (left : PoolState) (result : Result State Refusal) (r : Result Bool Fault) → (left, result) ≡ online_answer s leaf dev r
    → (left ≡ s) ⊎ (left ≡ with_leaf leaf.member (brought dev) s)
answer_left s leaf dev left result (Ok true) e = inr (ap (λ x. x.0) e)
answer_left s leaf dev left result (Ok false) e = inl (ap (λ x. x.0) e)
answer_left s leaf dev left result (Err fault) e = inl (ap (λ x. x.0) e)

pub onlines_left : (size : ℕ → ℕ) (s : PoolState) (leaf : LeafState) (dev : ℕ) (made : List Noted) (left : PoolState) (result : Result State Refusal)
    → OnlinesLeaf size s leaf dev made left result → OnlineLeft size s leaf dev left
onlines_left size s leaf dev made left result is = by (is_away leaf.state) (nat_le (s.sectors + 256) (size dev)) refl refl
  where
    by : (away has_room : Bool) → is_away leaf.state ≡ away → nat_le (s.sectors + 256) (size dev) ≡ has_room → OnlineLeft size s leaf dev left
    by false has_room e f = let h = rw e at is in inr (inl h.1)
    by true false e f = let h = rw f at (rw e at is) in inl h.1
    by true true e f =
        let h = rw f at (rw e at is) in
        elim (answer_left s leaf dev left result h.0 h.2) [
          | inl same ↦ inl same
          | inr came ↦ inr (inr (leb-true (s.sectors + 256) (size dev) f, came))
        ]

module _ (table : List HostDevice) (size : ℕ → ℕ) (s : PoolState) (apart : AreApart table) (fit : FitIn table size s) where
  first_to : (new : LeafState) → Reseats table size s.sectors s.first new → FitIn table size (with_first (changed_to new.dev new.state new.temporary new.marked) s)
  first_to new r = (
    record {
      valid = first_valid s new.dev new.state new.temporary new.marked fit.0.valid;
      first = changed_leaf size s.sectors s.number s.first new.dev new.state new.temporary new.marked fit.0.first r.seated r.room;
      second = fit.0.second;
      apart = λ d one two. two_apart table s d apart fit.0.valid (r.named d one) (fit.1.1 d two);
      inside = fit.0.inside;
      whole = fit.0.whole;
      beyond = fit.0.beyond;
      known_whole = fit.0.known_whole;
    },
    (r.named, fit.1.1),
  )

  second_to : (new : LeafState) → Reseats table size s.sectors s.second new → FitIn table size (with_second (changed_to new.dev new.state new.temporary new.marked) s)
  second_to new r = (
    record {
      valid = second_valid s new.dev new.state new.temporary new.marked fit.0.valid;
      first = fit.0.first;
      second = changed_leaf size s.sectors s.number s.second new.dev new.state new.temporary new.marked fit.0.second r.seated r.room;
      apart = λ d one two. two_apart table s d apart fit.0.valid (fit.1.0 d one) (r.named d two);
      inside = fit.0.inside;
      whole = fit.0.whole;
      beyond = fit.0.beyond;
      known_whole = fit.0.known_whole;
    },
    (fit.1.0, r.named),
  )

  -- With one of its leaves changed the pool stays fit.
  pub changed_fit : (leaf : LeafState) (change : LeafState → LeafState) → (s.first ≡ leaf) ⊎ (s.second ≡ leaf) → Reseats table size s.sectors leaf (change leaf)
      → FitIn table size (with_leaf leaf.member change s)
  changed_fit leaf change (inl same) r =
      subst (λ l. FitIn table size (with_leaf l.member change s)) same
      (let mine : Reseats table size s.sectors s.first (change s.first) = subst (λ l. Reseats table size s.sectors l (change l)) (sym same) r in
      subst (FitIn table size) (sym (first_changed s change fit.0.valid.two_members ∙ ap (λ l. record s { first = l }) mine.is)) (first_to (change s.first) mine))
  changed_fit leaf change (inr same) r =
      subst (λ l. FitIn table size (with_leaf l.member change s)) same
      (let mine : Reseats table size s.sectors s.second (change s.second) = subst (λ l. Reseats table size s.sectors l (change l)) (sym same) r in
      subst (FitIn table size) (sym (second_changed s change fit.0.valid.two_members ∙ ap (λ l. record s { second = l }) mine.is)) (second_to (change s.second) mine))

  leaf_fits : (leaf : LeafState) → (s.first ≡ leaf) ⊎ (s.second ≡ leaf) → IsFitLeaf size s.sectors s.number leaf × IsNamed table leaf
  leaf_fits leaf (inl same) = subst (λ l. IsFitLeaf size s.sectors s.number l × IsNamed table l) same (fit.0.first, fit.1.0)
  leaf_fits leaf (inr same) = subst (λ l. IsFitLeaf size s.sectors s.number l × IsNamed table l) same (fit.0.second, fit.1.1)

  -- `offline`

  offline_fit : (temporary : Bool) (leaf : LeafState) → (s.first ≡ leaf) ⊎ (s.second ≡ leaf) → FitIn table size (with_leaf leaf.member (taken_offline temporary) s)
  offline_fit temporary leaf one =
      let is = leaf_fits leaf one in
      changed_fit leaf (taken_offline temporary) one (record { is = refl; seated = λ up. absurd (cc); room = is.0.room; named = is.1 })

  pub is_offline_fit : (name : List ℕ) (temporary : Bool) (left : PoolState) (result : Result (Unit {0}) Refusal) → IsOffline s name temporary left result → FitIn table size left
  is_offline_fit name temporary left result is = by (leaf_named name (leaves s)) refl is
    where
      by : (found : Option LeafState) → leaf_named name (leaves s) ≡ found → OfflinesLeaf s temporary found left result → FitIn table size left
      by None e is = subst (FitIn table size) (sym is.0) fit
      by (Some leaf) e is = elim (takes_left s temporary leaf left result is) [
        | inl same ↦ subst (FitIn table size) (sym same) fit
        | inr taken ↦ subst (FitIn table size) (sym taken) (offline_fit temporary leaf (leaf_is_one s name leaf e))
      ]

  -- `online`

  pub onlines_fit : (name : List ℕ) (leaf : LeafState) (dev : ℕ) (made : List Noted) (left : PoolState) (result : Result State Refusal) → leaf_named name (leaves s) ≡ Some leaf
      → number_in leaf.name table ≡ Some dev → OnlinesLeaf size s leaf dev made left result → FitIn table size left
  onlines_fit name leaf dev made left result e numbered is =
      let one = leaf_is_one s name leaf e in
      let was = leaf_fits leaf one in
      elim (onlines_left size s leaf dev made left result is) [
        | inl same ↦ subst (FitIn table size) (sym same) fit
        | inr (inl same) ↦ subst (FitIn table size) (sym same) (changed_fit leaf marked one (record { is = refl; seated = was.0.seated; room = was.0.room; named = was.1 }))
        | inr (inr (room, came)) ↦ subst (FitIn table size) (sym came) (changed_fit leaf (brought dev) one (record {
          is = refl;
          seated = λ up. refl;
          room = λ d same. subst (λ x. s.sectors + 256 ≤ size x) (same_some dev d same) room;
          named = λ d same. numbered ∙ same;
        }))
      ]
