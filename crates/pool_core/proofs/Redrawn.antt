-- A pair behind the draw of the next number, against the pair before it.
use Rattle.std.proofs.Common.{◌≡◌, ℕ, ◌+◌, ◌^◌, ◌≤◌, Bool, true, length, refl, ap, sym, ◌∙◌, arith, subst}
use Rattle.std.proofs.Math.Path.{fun_ext}
use Rattle.std.specs.Prelude.{IsTrue}
use Rattle.mp_base.specs.declared.number.Group.{Group}
use Rattle.group_set.specs.Groups.{holds}
use Rattle.group_set.specs.Ranges.{ranges_upto}
use Rattle.group_set.proofs.Upto.{upto_rises}
use Rattle.config_codec.specs.Validity.{is_valid}
use Rattle.config_codec.proofs.Testing.{valid_from, valid_test}
use Rattle.vdev_tree.specs.declared.vdev.LeafVdev.{LeafVdev}
use Rattle.pool_core.specs.declared.pool.Pool.{Pool}
use Rattle.pool_core.specs.Drafts.{DrawsTo}
use Rattle.pool_core.specs.Keeping.{IsLeaf, Stands, Represents, IsSeated, HasRoom}
use Rattle.pool_core.specs.Logs.{drawn, with_log, count_upto}
use Rattle.pool_core.specs.Pairs.{PairState, AreApart, IsLoggedTo, fields_from, has_device}
use Rattle.pool_core.specs.State.{LeafState, PoolState}
use Rattle.pool_core.proofs.Boards.{leaf_state, state_of, stands_here, pair_board}
use Rattle.pool_core.proofs.Drawing.{drawn_relogs, drawn_within}
use Rattle.pool_core.proofs.Validating.{pointer_later}
use Rattle.pool_core.proofs.Widening.{AreFew, fitted_few}

-- the leaves are the same but for their logs, sets and counts
pub record SameLeafBut (old new : LeafVdev) : Type 0 where
  pub guid : new.guid ≡ old.guid
  pub name : new.name ≡ old.name
  pub dev : new.dev ≡ old.dev
  pub state : new.state ≡ old.state
  pub temporary : new.temporary ≡ old.temporary
  pub marked : new.marked ≡ old.marked

-- The pair may be one behind the draw of this number.
pub record IsRedrawn (number : ℕ) (old new : PairState) : Type 0 where
  pub mirror : new.mirror ≡ old.mirror
  pub sectors : new.sectors ≡ old.sectors
  pub first : SameLeafBut old.first new.first
  pub second : SameLeafBut old.second new.second
  pub first_log : IsLoggedTo number new.first
  pub second_log : IsLoggedTo number new.second
  pub few : length (ranges_upto (holds new.first.log) number) + length (ranges_upto (holds new.second.log) number) ≤ 4096

same_leaf : (old new : LeafVdev) (log : ℕ → Bool) → IsLeaf new (with_log log (leaf_state old)) → SameLeafBut old new
same_leaf old new log is = record {
  guid = sym is.member;
  name = sym is.name;
  dev = sym is.dev;
  state = sym is.state;
  temporary = sym is.temporary;
  marked = sym is.marked;
}

logged_to : (n : ℕ) (v : LeafVdev) (leaf : LeafState) → IsLeaf v leaf → ((g : ℕ) → leaf.owes g ≡ true → (1 ≤ g) × (g ≤ n)) → IsLoggedTo n v
logged_to n v leaf is within g e = within g (is.owes g ∙ e)

few_of : (n : ℕ) (v w : LeafVdev) (s : PoolState) → IsLeaf v s.first → IsLeaf w s.second → s.number ≡ n → AreFew s
    → length (ranges_upto (holds v.log) n) + length (ranges_upto (holds w.log) n) ≤ 4096
few_of n v w s first second is few =
    let P : (ℕ → Bool) → (ℕ → Bool) → ℕ → Type 0 = λ a b k. count_upto a k + count_upto b k ≤ 4096 in
    let at_n = subst (λ k. P s.first.owes s.second.owes k) is few in
    let one = subst (λ a. P a s.second.owes n) (fun_ext first.owes) at_n in
    subst (λ b. P (holds v.log) b n) (fun_ext second.owes) one

redrawn_from : (n : ℕ) (old new : PairState) (t : PoolState) (a b : ℕ → Bool)
    → t ≡ record (state_of old n) { number = n + 1; first = with_log a (leaf_state old.first); second = with_log b (leaf_state old.second) }
    → Stands new t → ((g : ℕ) → t.first.owes g ≡ true → (1 ≤ g) × (g ≤ n + 1)) → ((g : ℕ) → t.second.owes g ≡ true → (1 ≤ g) × (g ≤ n + 1)) → AreFew t
    → IsRedrawn (n + 1) old new
redrawn_from n old new t a b is stands first second few = record {
  mirror = sym stands.mirror ∙ ap (λ s. s.mirror) is;
  sectors = sym stands.sectors ∙ ap (λ s. s.sectors) is;
  first = same_leaf old.first new.first a (subst (λ s. IsLeaf new.first s.first) is stands.first);
  second = same_leaf old.second new.second b (subst (λ s. IsLeaf new.second s.second) is stands.second);
  first_log = logged_to (n + 1) new.first t.first stands.first first;
  second_log = logged_to (n + 1) new.second t.second stands.second second;
  few = few_of (n + 1) new.first new.second t stands.first stands.second (ap (λ s. s.number) is) few;
}

pub draws_to : (pool : Pool) (pair : PairState) → DrawsTo pool pair → IsRedrawn (pool.number.0 + 1) pool.pair pair
draws_to pool pair draws =
    let s = state_of pool.pair pool.number.0 in
    let relogs = drawn_relogs s in
    let within = drawn_within s (pool.first_log, pool.second_log) in
    redrawn_from pool.number.0 pool.pair pair (drawn s) relogs.first_log relogs.second_log relogs.is
    (draws.stands s (stands_here pool.pair pool.number.0) refl) within.0 within.1 (fitted_few _)

-- the board stays
pub same_board : (number : ℕ) (old new : PairState) → IsRedrawn number old new → pair_board new ≡ pair_board old
same_board number old new is = rw (is.first.state, is.first.dev, is.first.guid, is.second.state, is.second.dev, is.second.guid) refl

-- and so do the facts of devices
pub still_apart : (number : ℕ) (old new : PairState) → IsRedrawn number old new → AreApart old → AreApart new
still_apart number old new is apart d one two = apart d (sym is.first.dev ∙ one) (sym is.second.dev ∙ two)

still_device : (old new : LeafVdev) → SameLeafBut old new → has_device old ≡ true → has_device new ≡ true
still_device old new is e = rw (is.state, is.dev) e

pub first_device : (number : ℕ) (old new : PairState) → IsRedrawn number old new → has_device old.first ≡ true → has_device new.first ≡ true
first_device number old new is = still_device old.first new.first is.first

pub second_device : (number : ℕ) (old new : PairState) → IsRedrawn number old new → has_device old.second ≡ true → has_device new.second ≡ true
second_device number old new is = still_device old.second new.second is.second

still_room : (size : ℕ → ℕ) (sectors sectors' : ℕ) (old new : LeafVdev) → sectors' ≡ sectors → SameLeafBut old new → HasRoom size sectors old → HasRoom size sectors' new
still_room size sectors sectors' old new same is room d e = rw same (room d (sym is.dev ∙ e))

pub still_seated : (size : ℕ → ℕ) (number : ℕ) (old new : Pool) → IsRedrawn number old.pair new.pair → IsSeated size old → IsSeated size new
still_seated size number old new is seated = (
  still_room size old.pair.sectors new.pair.sectors old.pair.first new.pair.first is.sectors is.first seated.0,
  still_room size old.pair.sectors new.pair.sectors old.pair.second new.pair.second is.sectors is.second seated.1,
)

-- the configuration of the next number is valid
pub valid_drawn : (pool : Pool) (pair : PairState) (number : Group) → IsRedrawn number.0 pool.pair pair → pool.number.0 ≤ number.0 → number.0 ≤ 2 ^ 62
    → IsTrue (is_valid (fields_from pool.pool pool.name pool.blocks number pool.next_member pool.pointers.items pair))
valid_drawn pool pair number is le most =
    let v = valid_from (fields_from pool.pool pool.name pool.blocks pool.number pool.next_member pool.pointers.items pool.pair) pool.valid in
    valid_test (fields_from pool.pool pool.name pool.blocks number pool.next_member pool.pointers.items pair) (record {
      pool = v.pool;
      name = v.name;
      blocks = v.blocks;
      number = (omega (arith, v.number.0), most);
      next_member = v.next_member;
      counted = v.counted;
      pointers = λ a p e. pointer_later pool.number number a p le (v.pointers a p e);
      sectors = rw is.sectors v.sectors;
      mirror = rw is.mirror v.mirror;
      first = rw is.first.guid v.first;
      second = rw is.second.guid v.second;
      not_first = rw (is.mirror, is.first.guid) v.not_first;
      not_second = rw (is.mirror, is.second.guid) v.not_second;
      two_members = rw (is.first.guid, is.second.guid) v.two_members;
      first_name = rw is.first.name v.first_name;
      second_name = rw is.second.name v.second_name;
      two_devices = rw (is.first.name, is.second.name) v.two_devices;
      first_log = upto_rises (holds pair.first.log) number.0;
      second_log = upto_rises (holds pair.second.log) number.0;
      few_ranges = is.few;
    })

-- The pool is the old one but for its number, the next, and its pair.
pub record IsLater (old new : Pool) : Type 0 where
  pub name : new.name ≡ old.name
  pub pool_is : new.pool ≡ old.pool
  pub blocks : new.blocks ≡ old.blocks
  pub number : new.number.0 ≡ old.number.0 + 1
  pub next_member : new.next_member ≡ old.next_member
  pub pointers : new.pointers.items ≡ old.pointers.items
  pub writes : new.writes.items ≡ old.writes.items

-- it stands for the state behind the draw
pub drawn_represents : (old new : Pool) (s : PoolState) → IsLater old new → DrawsTo old new.pair → Represents old s → Represents new (drawn s)
drawn_represents old new s later draws r =
    let relogs = drawn_relogs s in
    subst (Represents new) (sym relogs.is) (record {
      name = r.name ∙ sym later.name;
      pool_is = r.pool_is ∙ sym later.pool_is;
      blocks = r.blocks ∙ sym later.blocks;
      next_member = r.next_member ∙ sym later.next_member;
      pair = subst (Stands new.pair) relogs.is (draws.stands s r.pair r.number);
      number = ap (λ n. n + 1) r.number ∙ sym later.number;
      committed = λ a inside. rw later.pointers (r.committed a inside);
      writes = λ a block e. r.writes a block (rw later.writes at e);
      beyond = r.beyond;
      whole = r.whole;
      known_whole = r.known_whole;
    })
