-- Reading fields one behind the other.
use Rattle.std.proofs.Common.{◌≡◌, ℕ, zero, suc, ◌-◌, ◌<◌, ◌≤◌, min, Bool, false, ◌&&◌, List, [], ◌∷◌, ◌++◌, length}
use Rattle.std.proofs.Common.{take, drop, replicate, refl, sym, ap, ◌∙◌, arith, append_assoc, Result, Ok, Err}
use Rattle.std.specs.Prelude.{IsErrAnd, IsErrOf, nat_le}
use Rattle.std.specs.List.{list_all}
use Rattle.std.proofs.lemmas.List.{drop-drop, drop-replicate, take_min, append-nil}
use Rattle.std.proofs.lemmas.List.Folds.{list_all-append}
use Rattle.std.proofs.lemmas.Bool.{and_left, and_right, lt-leb}
use Rattle.mp_base.specs.Block.{zeros}
use Rattle.mp_base.specs.declared.range.GroupRange.{GroupRange}
use Rattle.mp_base.specs.declared.name.NameFault.{NameFault}
use Rattle.mp_base.specs.declared.name.NameFault.TheVariants as names
use Rattle.pool_config.specs.declared.unread.Unread.{Unread}
use Rattle.pool_config.specs.declared.unread.Unread.TheVariants.{NoConfig}
use Rattle.pool_config.specs.Faults.{unread_of}
use Rattle.pool_config.specs.Reading.{Read, front, count_in, number_in, pointer_in, before, many_in, range_in, log_in}
use Rattle.pool_config.proofs.Suffixes.{pointer_with, same_pointer, range_with, same_range}

-- what there is, and zeros behind it
pub front_put : (s piece : List ℕ) (n m : ℕ) → piece ≡ take m s → m ≡ min n (length s)
    → piece ++ drop m (replicate n 0) ≡ front n s
unfolding front zeros
front_put s piece n m is count =
    let left : n - m ≡ n - length s = omega (arith, count) in
    let there : piece ≡ take n s = is ∙ ap (λ k. take k s) count ∙ take_min n s in
    ap (λ z. piece ++ z) (drop-replicate m n 0 ∙ ap (λ k. replicate k 0) left)
    ∙ ap (λ p. p ++ replicate (n - length s) 0) there

-- Only a bad name ends a reading as no configuration.
pub bad_name : {X : Type 0} (fault : NameFault) (r : Result X Unread) → IsErrAnd r (λ e. e ≡ unread_of fault)
    → IsErrOf r NoConfig → fault ≡ names.Bad
bad_name names.Bad r is none = refl
bad_name names.Memory (Ok x) is none = absurd is
bad_name names.Memory (Err e) is none = absurd cc

-- what an error says, it says of the error that it became
pub handed_on : {Y : Type 0} (fault e : Unread) (r : Result Y Unread) → IsErrAnd r (λ f. f ≡ fault) → IsErrOf r e
    → fault ≡ e
handed_on fault e (Ok y) is of = absurd is
handed_on fault e (Err f) is of =
    let same : f ≡ e = cc in
    sym is ∙ same

-- a pointer: its birth, its top, its sector, its sum
pub pointer_read : (s birth top sector : List ℕ) (b t n : ℕ) (sum : List ℕ) → b ≡ number_in s → birth ≡ drop 8 s
    → t ≡ count_in birth → top ≡ drop 4 birth
    → n ≡ number_in top → sector ≡ drop 8 top → sum ≡ front 32 sector → pointer_with b t n sum ≡ pointer_in s
unfolding pointer_in
pointer_read s birth top sector b t n sum e1 e2 e3 e4 e5 e6 e7 =
    let at_sector : top ≡ drop 12 s = e4 ∙ ap (drop 4) e2 ∙ drop-drop 4 8 s in
    let at_sum : sector ≡ drop 20 s = e6 ∙ ap (drop 8) at_sector ∙ drop-drop 8 12 s in
    same_pointer _ _ _ _ _ _ _ _ e1 (e3 ∙ ap count_in e2) (e5 ∙ ap number_in at_sector) (e7 ∙ ap (front 32) at_sum)

pub pointer_behind : (s birth top sector end : List ℕ) → birth ≡ drop 8 s → top ≡ drop 4 birth → sector ≡ drop 8 top
    → end ≡ drop 32 sector → end ≡ drop 52 s
pointer_behind s birth top sector end e1 e2 e3 e4 =
    e4 ∙ ap (drop 32) (e3 ∙ ap (drop 8) (e2 ∙ ap (drop 4) e1 ∙ drop-drop 4 8 s) ∙ drop-drop 8 12 s) ∙ drop-drop 32 20 s

pub range_read : (s behind : List ℕ) (low high : ℕ) → low ≡ number_in s → behind ≡ drop 8 s → high ≡ number_in behind
    → range_with low high ≡ (range_in s).value
unfolding range_in
range_read s behind low high e1 e2 e3 = same_range _ _ _ _ e1 (e3 ∙ ap number_in e2)

pub range_behind : (s behind end : List ℕ) → behind ≡ drop 8 s → end ≡ drop 8 behind → end ≡ (range_in s).rest
unfolding range_in
range_behind s behind end e1 e2 = e2 ∙ ap (drop 8) e1 ∙ drop-drop 8 8 s

-- ---- one thing behind the other

-- What was read so far, before what is still left, is what stands there.
pub record AreRead {A : Type 0} (one_in : List ℕ → Read A) (left total : ℕ) (read : List A) (rest start : List ℕ) : Type
    0 where
  pub value : read ++ (many_in one_in left rest).value ≡ (many_in one_in total start).value
  pub behind : (many_in one_in left rest).rest ≡ (many_in one_in total start).rest

pub none_read : {A : Type 0} (one_in : List ℕ → Read A) (left total : ℕ) (start : List ℕ) → left ≡ total
    → AreRead one_in left total [] start start
none_read one_in left total start all = record {
  value = ap (λ n. (many_in one_in n start).value) all;
  behind = ap (λ n. (many_in one_in n start).rest) all;
}

many_step : {A : Type 0} (one_in : List ℕ → Read A) (left less : ℕ) (rest : List ℕ) → left ≡ suc less
    → many_in one_in left rest ≡ before (one_in rest).value (many_in one_in less (one_in rest).rest)
unfolding many_in
many_step one_in left less rest is = ap (λ n. many_in one_in n rest) is

pub one_read : {A : Type 0} (one_in : List ℕ → Read A) (left less total : ℕ) (read : List A) (rest next start : List ℕ)
    (item : A) → left ≡ suc less
    → item ≡ (one_in rest).value → next ≡ (one_in rest).rest → AreRead one_in left total read rest start
    → AreRead one_in less total (read ++ item ∷ []) next start
one_read one_in left less total read rest next start item is value behind so_far =
    let step = many_step one_in left less rest is in
    record {
      value = append_assoc read (item ∷ []) (many_in one_in less next).value
          ∙ ap (λ x. read ++ (x ∷ (many_in one_in less next).value)) value
          ∙ ap (λ s. read ++ ((one_in rest).value ∷ (many_in one_in less s).value)) behind
          ∙ ap (λ r. read ++ r.value) (sym step) ∙ so_far.value;
      behind = ap (λ s. (many_in one_in less s).rest) behind ∙ ap (λ r. r.rest) (sym step) ∙ so_far.behind;
    }

pub all_read : {A : Type 0} (one_in : List ℕ → Read A) (left total : ℕ) (read : List A) (rest start : List ℕ) → left ≡ 0
    → AreRead one_in left total read rest start
    → (read ≡ (many_in one_in total start).value) × (rest ≡ (many_in one_in total start).rest)
unfolding many_in
all_read one_in left total read rest start is so_far =
    let none : many_in one_in left rest ≡ record { value = []; rest = rest } = ap (λ n. many_in one_in n rest) is in (
      sym (append-nil read) ∙ ap (λ r. read ++ r.value) (sym none) ∙ so_far.value,
      ap (λ r. r.rest) (sym none)
          ∙ so_far.behind,
    )

-- A thing that fails a test makes all fail it.
pub bad_item : {A : Type 0} (one_in : List ℕ → Read A) (p : A → Bool) (left less total : ℕ) (read : List A)
    (rest start : List ℕ) → left ≡ suc less
    → AreRead one_in left total read rest start → p (one_in rest).value ≡ false
    → list_all p (many_in one_in total start).value ≡ false
bad_item one_in p left less total read rest start is so_far bad =
    ap (list_all p) (sym so_far.value ∙ ap (λ r. read ++ r.value) (many_step one_in left less rest is))
    ∙ list_all-append p read ((one_in rest).value ∷ (many_in one_in less (one_in rest).rest).value)
    ∙ and_right (list_all p read) _ (and_left (p (one_in rest).value) _ bad)

pub length-many : {A : Type 0} (one_in : List ℕ → Read A) (n : ℕ) (s : List ℕ) → length (many_in one_in n s).value ≡ n
unfolding many_in
length-many one_in zero s = refl
length-many one_in (suc n) s = ap suc (length-many one_in n (one_in s).rest)

-- ---- logs

-- a log: the number of its ranges, and the ranges
pub log_read : (s after rest : List ℕ) (count : ℕ) (log : List GroupRange) → count ≡ count_in s → after ≡ drop 4 s
    → log ≡ (many_in range_in count after).value
    → log ≡ (log_in s).value
unfolding log_in
log_read s after rest count log e1 e2 e3 =
    e3 ∙ ap (λ t. (many_in range_in count t).value) e2 ∙ ap (λ n. (many_in range_in n (drop 4 s)).value) e1

pub log_behind : (s after rest : List ℕ) (count : ℕ) → count ≡ count_in s → after ≡ drop 4 s
    → rest ≡ (many_in range_in count after).rest → rest ≡ (log_in s).rest
unfolding log_in
log_behind s after rest count e1 e2 e3 =
    e3 ∙ ap (λ t. (many_in range_in count t).rest) e2 ∙ ap (λ n. (many_in range_in n (drop 4 s)).rest) e1

pub log_too_long : (s : List ℕ) (count : ℕ) (b : Bool) → count ≡ count_in s → 4096 < count
    → (nat_le (length (log_in s).value) 4096 && b) ≡ false
unfolding log_in
log_too_long s count b e over =
    and_left (nat_le (length (many_in range_in (count_in s) (drop 4 s)).value) 4096) b
    (lt-leb _ _ (omega (arith, e, over, length-many range_in (count_in s) (drop 4 s))))

pub log_few : (after : List ℕ) (count : ℕ) (log : List GroupRange) → count ≤ 4096
    → log ≡ (many_in range_in count after).value → length log ≤ 4096
log_few after count log few is = omega (arith, ap length is, length-many range_in count after)
