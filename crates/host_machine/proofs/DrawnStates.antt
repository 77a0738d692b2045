-- The state behind the draw of a number, as an opening commits it again: it stays fit.
use Rattle.std.proofs.Common.{◌≡◌, ℕ, ◌+◌, Bool, false, List, Some, None, sym, subst, arith, refl}
use Rattle.config_codec.specs.Fields.{Fields}
use Rattle.config_codec.specs.Validity.{IsValid}
use Rattle.config_codec.proofs.Changes.{valid_changed}
use Rattle.pool_core.specs.Logs.{with_log, drawn}
use Rattle.pool_core.specs.Recorded.{fields_in}
use Rattle.pool_core.specs.State.{LeafState, PoolState, is_spent}
use Rattle.pool_core.specs.Syncing.{next_version, synced}
use Rattle.group_set.proofs.Upto.{upto_rises}
use Rattle.pool_core.proofs.Drawing.{IsWithin, AreWithin, relogged, drawn_relogs, drawn_within}
use Rattle.pool_core.proofs.Widening.{AreFew, fitted_few}
use Rattle.host_machine.specs.declared.device.HostDevice.{HostDevice}
use Rattle.host_machine.specs.Fitness.{IsFitLeaf, IsFitPool, PoolIsNamed}
use Rattle.host_machine.proofs.NextStates.{below_spent, later_pointer, next_pointer, pointers_by, synced_beyond, synced_whole}
use Rattle.host_machine.proofs.Settling.{none_some, pointers_long}

-- the next number, with these logs
abbrev pub redrawn : (a b : ℕ → Bool) → PoolState → PoolState
redrawn a b s = relogged a b (record s { number = s.number + 1 })

redrawn_valid : (a b : ℕ → Bool) (s : PoolState) → IsValid (fields_in s) → is_spent s.number ≡ false → AreFew (redrawn a b s) → IsValid (fields_in (redrawn a b s))
redrawn_valid a b s v open_numbers few =
    let now = fields_in (redrawn a b s) in
    valid_changed (fields_in s) now.number now.pointers now.first now.second v (refl, refl) (refl, refl) (record {
      number = (omega arith, let below = below_spent s.number open_numbers in omega (arith, below));
      counted = v.counted;
      pointers = λ x p e. later_pointer s.number x p (v.pointers x p e);
      first_log = upto_rises a (s.number + 1);
      second_log = upto_rises b (s.number + 1);
      few_ranges = few;
    })

relogged_leaf : (size : ℕ → ℕ) (sectors n m : ℕ) (log : ℕ → Bool) (leaf : LeafState) → IsFitLeaf size sectors n leaf → IsWithin m log
    → IsFitLeaf size sectors m (with_log log leaf)
relogged_leaf size sectors n m log leaf fit within = record { seated = fit.seated; room = fit.room; logged = within }

redrawn_fit : (size : ℕ → ℕ) (a b : ℕ → Bool) (s : PoolState) → IsFitPool size s → is_spent s.number ≡ false
    → AreWithin (s.number + 1) (redrawn a b s) → AreFew (redrawn a b s) → IsFitPool size (redrawn a b s)
redrawn_fit size a b s fit open_numbers within few = record {
  valid = redrawn_valid a b s fit.valid open_numbers few;
  first = relogged_leaf size s.sectors s.number (s.number + 1) a s.first fit.first within.0;
  second = relogged_leaf size s.sectors s.number (s.number + 1) b s.second fit.second within.1;
  apart = fit.apart;
  inside = fit.inside;
  whole = fit.whole;
  beyond = fit.beyond;
  known_whole = fit.known_whole;
}

-- Behind the draw.
pub drawn_fit : (size : ℕ → ℕ) (s : PoolState) → IsFitPool size s → is_spent s.number ≡ false → IsFitPool size (drawn s)
drawn_fit size s fit open_numbers =
    let relogs = drawn_relogs s in
    let within = subst (AreWithin (s.number + 1)) relogs.is (drawn_within s (fit.first.logged, fit.second.logged)) in
    let few = subst AreFew relogs.is (fitted_few _) in
    subst (IsFitPool size) (sym relogs.is) (redrawn_fit size relogs.first_log relogs.second_log s fit open_numbers within few)

-- Behind a sync.

abbrev redrawn_synced : (a b : ℕ → Bool) → PoolState → PoolState
redrawn_synced a b s = record (redrawn a b s) { committed = λ x. next_version (s.number + 1) x (s.committed x) (s.writes x); writes = λ x. None }

synced_at : (size : ℕ → ℕ) (a b : ℕ → Bool) (s : PoolState) → IsFitPool size s → is_spent s.number ≡ false → IsFitPool size (redrawn a b s) → IsFitPool size (redrawn_synced a b s)
synced_at size a b s fit open_numbers drawn = record {
  valid = valid_changed (fields_in (redrawn a b s)) now.number now.pointers now.first now.second v (refl, refl) (refl, refl) (record {
    number = v.number;
    counted = pointers_long (redrawn_synced a b s).committed s.blocks;
    pointers = pointers_by (redrawn_synced a b s).committed s.blocks (record { 0 = s.number + 1 }) (λ x version e. next_pointer size s x version fit e);
    first_log = v.first_log;
    second_log = v.second_log;
    few_ranges = v.few_ranges;
  });
  first = drawn.first;
  second = drawn.second;
  apart = drawn.apart;
  inside = λ x block e. absurd (none_some block e);
  whole = λ x block e. absurd (none_some block e);
  beyond = λ x above. synced_beyond size s x fit above;
  known_whole = λ x version block e known. synced_whole size s x version block fit e known;
}
  where
    now : Fields
    now = fields_in (redrawn_synced a b s)

    v : IsValid (fields_in (redrawn a b s))
    v = drawn.valid

pub synced_fit : (size : ℕ → ℕ) (s : PoolState) → IsFitPool size s → is_spent s.number ≡ false → IsFitPool size (synced s)
synced_fit size s fit open_numbers =
    let relogs = drawn_relogs s in
    let was = drawn_fit size s fit open_numbers in
    let at = synced_at size relogs.first_log relogs.second_log s fit open_numbers (subst (IsFitPool size) relogs.is was) in
    subst (λ t. IsFitPool size (record t { committed = λ x. next_version (s.number + 1) x (s.committed x) (s.writes x); writes = λ x. None })) (sym relogs.is) at

-- A draw moves no leaf to another device.
pub drawn_named : (table : List HostDevice) (s : PoolState) → PoolIsNamed table (Some s) → PoolIsNamed table (Some (drawn s))
drawn_named table s named = subst (λ t. PoolIsNamed table (Some t)) (sym (drawn_relogs s).is) (named.0, named.1)

pub synced_named : (table : List HostDevice) (s : PoolState) → PoolIsNamed table (Some s) → PoolIsNamed table (Some (synced s))
synced_named table s named = drawn_named table s named
