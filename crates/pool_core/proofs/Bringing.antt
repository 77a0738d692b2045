-- What `online` came to, and what it leaves of a pool.
use Rattle.std.proofs.Common.{◌≡◌, ◌≢◌, ℕ, ◌+◌, ◌<◌, ◌≤◌, ◌==◌, ◌⊎◌, inl, inr, Bool, true, false, List, [], Option, Some, None, Result, Ok, Err, refl, sym, ◌∙◌, ap, eq-eqb, nat_le}
use Rattle.std.proofs.lemmas.Option.{same_Some}
use Rattle.std.specs.Option.{option_map}
use Rattle.std.proofs.lemmas.Bool.{ne_eqb, lt-leb, le-leb}
use Rattle.bank_core.specs.declared.bank.Fault.{Fault}
use Rattle.bank_core.specs.BankView.{BankView}
use Rattle.bank_core.specs.Story.{Story}
use Rattle.bank_core.proofs.Composing.{made_none}
use Rattle.label_store.specs.Identities.{IsSearch, Searches}
use Rattle.mp_base.specs.declared.number.Guid.{Guid}
use Rattle.mp_base.specs.declared.refusal.Refusal.{Refusal}
use Rattle.mp_base.specs.declared.refusal.Refusal.TheVariants as refusals
use Rattle.vdev_tree.specs.declared.vdev.LeafVdev.{LeafVdev}
use Rattle.vdev_tree.specs.declared.vdev.State.{State}
use Rattle.pool_core.specs.declared.pool.Pool.{Pool}
use Rattle.pool_core.specs.Away.{changed_if, with_leaf, leaf_named, brought, marked, is_away, online_answer, IsOwnDevice}
use Rattle.pool_core.specs.Done.{Onlines}
use Rattle.pool_core.specs.Keeping.{Stands, Represents, HasRoom}
use Rattle.pool_core.specs.Pairs.{PairState, AreApart}
use Rattle.pool_core.specs.State.{LeafState, PoolState, leaves}
use Rattle.pool_core.proofs.Changing.{IsNamed}
use Rattle.pool_core.proofs.Standing.{leaf_at, state_at, stands_at}
use Rattle.pool_core.proofs.Validating.{pool_valid}

-- no leaf has the name
nobody : (found : Option LeafState) → None ≡ option_map (λ leaf. leaf.member) found → found ≡ None
nobody None e = refl
nobody (Some leaf) e = absurd cc

pub online_nobody : {size : ℕ → ℕ} {s : PoolState} {dev : ℕ} {told : Option Story} {faults : ℕ → ℕ} (pool : Pool) (name : List ℕ) → Represents pool s
    → None ≡ option_map (λ leaf. leaf.member) (leaf_named name (leaves s))
    → Onlines size s (leaf_named name (leaves s)) dev told told faults faults pool (Err refusals.NoVdev)
online_nobody {size} {s} {dev} {told} {faults} pool name r e = rw (nobody (leaf_named name (leaves s)) e) (record {
  made = [];
  next = s;
  calls = made_none told faults;
  onlines = (refl, refl, refl);
  represents = r;
})

-- a leaf that isn't away is marked
pub online_marked : {size : ℕ → ℕ} {s : PoolState} {name : List ℕ} {dev : ℕ} {told : Option Story} {faults : ℕ → ℕ} (pool : Pool) (at : Guid) (state : State)
    (n : IsNamed name s at) → is_away state ≡ false → state ≡ n.leaf.state → Represents pool (with_leaf at marked s)
    → Onlines size s (leaf_named name (leaves s)) dev told told faults faults pool (Ok state)
online_marked {size} {s} {name} {dev} {told} {faults} pool at state n here is r =
    let stays : is_away n.leaf.state ≡ false = rw is at here in
    rw n.is (record {
      made = [];
      next = with_leaf at marked s;
      calls = made_none told faults;
      onlines = rw stays (refl, ap (λ member. with_leaf member marked s) n.member, ap Ok is);
      represents = r;
    })

-- its device is too small
pub online_small : {size : ℕ → ℕ} {s : PoolState} {name : List ℕ} {dev : ℕ} {told : Option Story} {faults : ℕ → ℕ} (pool : Pool) (at : Guid) (state : State) (need has : ℕ)
    (n : IsNamed name s at) → is_away state ≡ true → state ≡ n.leaf.state → need ≡ s.sectors + 256 → has ≡ size dev → has < need → Represents pool s
    → Onlines size s (leaf_named name (leaves s)) dev told told faults faults pool (Err (refusals.TooSmall need has))
online_small {size} {s} {name} {dev} {told} {faults} pool at state need has n away is need_is has_is less r =
    let goes : is_away n.leaf.state ≡ true = rw is at away in
    let small : nat_le (s.sectors + 256) (size dev) ≡ false = lt-leb (s.sectors + 256) (size dev) (rw (← need_is, ← has_is) less) in
    rw n.is (record {
      made = [];
      next = s;
      calls = made_none told faults;
      onlines = rw (goes, small) (refl, refl, rw (need_is, has_is) refl);
      represents = r;
    })

-- its identity was looked for
pub online_searched : {size : ℕ → ℕ} {s : PoolState} {name : List ℕ} {dev : ℕ} {old new : BankView} (was pool : Pool) (at : Guid) (state : State) (need has : ℕ)
    (found : Result Bool Fault) (next : PoolState) (answer : Result State Refusal) (n : IsNamed name s at) → is_away state ≡ true → state ≡ n.leaf.state
    → need ≡ s.sectors + 256 → has ≡ size dev → need ≤ has → Represents was s → Searches was.pool at dev (size dev) old new found
    → (next, answer) ≡ online_answer s n.leaf dev found → Represents pool next
    → Onlines size s (leaf_named name (leaves s)) dev old.told new.told old.faults new.faults pool answer
online_searched {size} {s} {name} {dev} {old} {new} was pool at state need has found next answer n away is need_is has_is enough r search answer_is r' =
    let goes : is_away n.leaf.state ≡ true = rw is at away in
    let room : nat_le (s.sectors + 256) (size dev) ≡ true = le-leb (s.sectors + 256) (size dev) (rw (← need_is, ← has_is) enough) in
    let look : IsSearch s.pool n.leaf.member dev (size dev) search.made found = rw (r.pool_is, ← n.member) search.search in
    rw n.is (record {
      made = search.made;
      next = next;
      calls = search.calls.calls;
      onlines = rw (goes, room) (found, look, answer_is);
      represents = r';
    })

-- Room on the device of a leaf that came back.

brought_room : (size : ℕ → ℕ) (sectors sectors' dev : ℕ) (old new : LeafVdev) (t : Bool) → sectors' ≡ sectors → (changed_if t (brought dev) (leaf_at old)).dev ≡ new.dev
    → sectors + 256 ≤ size dev → HasRoom size sectors old → HasRoom size sectors' new
brought_room size sectors sectors' dev old new true same e enough room d is =
    rw (same, ← same_Some dev d (e ∙ is)) enough
brought_room size sectors sectors' dev old new false same e enough room d is = rw same (room d (e ∙ is))

pub seated_brought : (size : ℕ → ℕ) (old new : PairState) (at : Guid) (dev : ℕ) → ((s : PoolState) → Stands old s → Stands new (with_leaf at (brought dev) s))
    → old.sectors + 256 ≤ size dev → HasRoom size old.sectors old.first × HasRoom size old.sectors old.second
    → HasRoom size new.sectors new.first × HasRoom size new.sectors new.second
seated_brought size old new at dev changes enough seated =
    let stands = changes (state_at old) (stands_at old) in (
      brought_room size old.sectors new.sectors dev old.first new.first (old.first.guid.0 == at.0) (sym stands.sectors) stands.first.dev enough seated.0,
      brought_room size old.sectors new.sectors dev old.second new.second (old.second.guid.0 == at.0) (sym stands.sectors) stands.second.dev enough seated.1,
    )

-- The leaves are on two devices still.

brought_dev : (t : Bool) (dev : ℕ) (leaf : LeafState) → t ≡ true → (changed_if t (brought dev) leaf).dev ≡ Some dev
brought_dev true dev leaf e = refl
brought_dev false dev leaf e = absurd cc

left_dev : (t : Bool) (change : LeafState → LeafState) (leaf : LeafState) → t ≡ false → (changed_if t change leaf).dev ≡ leaf.dev
left_dev true change leaf e = absurd cc
left_dev false change leaf e = refl

apart_by : (name : List ℕ) (dev : ℕ) (one other : LeafVdev) (new new' : Option ℕ) → one.name ≢ other.name → one.name ≡ name → (other.dev ≡ Some dev → other.name ≡ name)
    → new ≡ Some dev → new' ≡ other.dev → (d : ℕ) → new ≡ Some d → new' ≡ Some d → ⊥
apart_by name dev one other new new' differ named own new_is other_is d e f =
    differ (named ∙ sym (own (sym other_is ∙ f ∙ sym e ∙ new_is)))

pub apart_brought : (name : List ℕ) (pool : Pool) (new : PairState) (at : Guid) (dev : ℕ) → IsNamed name (state_at pool.pair) at → IsOwnDevice (state_at pool.pair) name dev
    → ((s : PoolState) → Stands pool.pair s → Stands new (with_leaf at (brought dev) s)) → AreApart new
apart_brought name pool new at dev n own changes = go n.which
  where
    go : (n.leaf ≡ leaf_at pool.pair.first) ⊎ (n.leaf ≡ leaf_at pool.pair.second) → AreApart new
    go (inl e) =
        let v = pool_valid pool in
        let stands = changes (state_at pool.pair) (stands_at pool.pair) in
        let at_is : pool.pair.first.guid ≡ at = sym (n.member ∙ ap (λ leaf. leaf.member) e) in
        let here : (pool.pair.first.guid.0 == at.0) ≡ true = eq-eqb pool.pair.first.guid.0 at.0 (ap (λ guid. guid.0) at_is) in
        let there : (pool.pair.second.guid.0 == at.0) ≡ false =
        ne_eqb pool.pair.second.guid.0 at.0 (λ same. v.two_members (ap (λ guid. guid.0) at_is ∙ sym same)) in
        apart_by name dev pool.pair.first pool.pair.second new.first.dev new.second.dev v.two_devices (sym (ap (λ leaf. leaf.name) e) ∙ n.named) own.second
        (sym stands.first.dev ∙ brought_dev (pool.pair.first.guid.0 == at.0) dev (leaf_at pool.pair.first) here)
        (sym stands.second.dev ∙ left_dev (pool.pair.second.guid.0 == at.0) (brought dev) (leaf_at pool.pair.second) there)
    go (inr e) =
        let v = pool_valid pool in
        let stands = changes (state_at pool.pair) (stands_at pool.pair) in
        let at_is : pool.pair.second.guid ≡ at = sym (n.member ∙ ap (λ leaf. leaf.member) e) in
        let here : (pool.pair.second.guid.0 == at.0) ≡ true = eq-eqb pool.pair.second.guid.0 at.0 (ap (λ guid. guid.0) at_is) in
        let there : (pool.pair.first.guid.0 == at.0) ≡ false =
        ne_eqb pool.pair.first.guid.0 at.0 (λ same. v.two_members (same ∙ sym (ap (λ guid. guid.0) at_is))) in
        let apart = apart_by name dev pool.pair.second pool.pair.first new.second.dev new.first.dev (λ same. v.two_devices (sym same))
        (sym (ap (λ leaf. leaf.name) e) ∙ n.named) own.first
        (sym stands.second.dev ∙ brought_dev (pool.pair.second.guid.0 == at.0) dev (leaf_at pool.pair.second) here)
        (sym stands.first.dev ∙ left_dev (pool.pair.first.guid.0 == at.0) (brought dev) (leaf_at pool.pair.first) there) in
        λ d first second. apart d second first
