-- Reading fields one behind the other.
use Rattle.std.proofs.Common.{◌≡◌, ℕ, zero, suc, ◌+◌, ◌*◌, ◌-◌, ◌<◌, ◌≤◌, min, Bool, true, false, not, cond, List, [], ◌∷◌, ◌++◌, length, take, drop, replicate, refl, sym, ap, ◌∙◌, arith, append_assoc, subst, Option, Some, None, Result, Ok, Err}
use Rattle.std.specs.Prelude.{IsErrAnd, IsErrOf, ◌==◌}
use Rattle.std.specs.Bool.{then_some}
use Rattle.std.proofs.lemmas.List.{drop-drop, drop-replicate, take_min, append-nil}
use Rattle.std.proofs.lemmas.Bool.{and_left, and_right, lt-leb}
use Rattle.mp_base.specs.Block.{zeros}
use Rattle.mp_base.specs.Name.{is_name}
use Rattle.mp_base.specs.declared.range.GroupRange.{GroupRange}
use Rattle.mp_base.specs.declared.name.NameFault.{NameFault}
use Rattle.mp_base.specs.declared.name.NameFault.TheVariants as names
use Rattle.config_codec.specs.declared.config.KeptState.{KeptState}
use Rattle.config_codec.specs.declared.config.Pointer.{Pointer}
use Rattle.config_codec.specs.declared.unread.Unread.{Unread}
use Rattle.config_codec.specs.declared.unread.Unread.TheVariants.{NoConfig}
use Rattle.config_codec.specs.Faults.{unread_of}
use Rattle.config_codec.specs.Flags.{kept_in, marked_in}
use Rattle.config_codec.specs.Validity.{may_stand}
use Rattle.config_codec.specs.Reading.{front, byte_in, count_in, number_in, text_in, pointer_in, pointers_in, range_in, ranges_in, log_in, behind_log, from_device, from_flags, from_log, leaf_in, behind_leaf}
use Rattle.config_codec.proofs.Suffixes.{leaf_with, same_leaf, pointer_with, same_pointer, range_with, same_range}

-- what there is, and zeros behind it
pub front_put : (s piece : List ℕ) (n m : ℕ) → piece ≡ take m s → m ≡ min n (length s) → piece ++ drop m (replicate n 0) ≡ front n s
unfolding front zeros
front_put s piece n m is count =
    let left : n - m ≡ n - length s = omega (arith, count) in
    let there : piece ≡ take n s = is ∙ ap (λ k. take k s) count ∙ take_min n s in
    ap (λ z. piece ++ z) (drop-replicate m n 0 ∙ ap (λ k. replicate k 0) left) ∙ ap (λ p. p ++ replicate (n - length s) 0) there

-- a leaf: its member number, its name, its flags, its log
pub leaf_read : (s rest text name : List ℕ) (m flags : ℕ) (kept : KeptState) (marked : Bool) (log : List GroupRange)
    → m ≡ number_in (drop 1 s) → text ≡ text_in (from_device s) → flags ≡ byte_in (from_flags s) → rest ≡ from_log s
    → name ≡ text → kept ≡ kept_in flags → marked ≡ marked_in flags → log ≡ log_in rest → leaf_with m name kept marked log ≡ leaf_in s
unfolding leaf_in
leaf_read s rest text name m flags kept marked log e1 e2 e3 e4 e5 e6 e7 e8 =
    same_leaf _ _ _ _ _ _ _ _ _ _ e1 (e5 ∙ e2) (e6 ∙ ap kept_in e3) (e7 ∙ ap marked_in e3) (e8 ∙ ap log_in e4)

pub leaf_behind : (s rest end : List ℕ) → rest ≡ from_log s → end ≡ behind_log rest → end ≡ behind_leaf s
unfolding behind_leaf
leaf_behind s rest end e f = f ∙ ap behind_log e

-- Where the name is none, or the log too long, no valid configuration has the leaf.

pub leaf_unnamed : (s text : List ℕ) → text ≡ text_in (from_device s) → is_name text ≡ false → may_stand (leaf_in s) ≡ false
unfolding leaf_in
leaf_unnamed s text e bad = and_left (is_name (leaf_in s).name) _ (ap is_name (sym e) ∙ bad)

pub leaf_too_long : (s rest : List ℕ) → rest ≡ from_log s → 4096 < length (log_in rest) → may_stand (leaf_in s) ≡ false
unfolding leaf_in
leaf_too_long s rest e over =
    let long : 4096 < length (leaf_in s).log = subst (λ t. 4096 < length (log_in t)) e over in
    and_right (is_name (leaf_in s).name) _ (lt-leb _ _ long)

-- Only a bad name ends a reading as no configuration.
pub bad_name : {X : Type 0} (fault : NameFault) (r : Result X Unread) → IsErrAnd r (λ e. e ≡ unread_of fault) → IsErrOf r NoConfig → fault ≡ names.Bad
bad_name names.Bad r is none = refl
bad_name names.Memory (Ok x) is none = absurd is
bad_name names.Memory (Err e) is none = absurd cc

turned : {X : Type 0} (b : Bool) (x : X) → then_some (not b) x ≡ cond b None (Some x)
turned true x = refl
turned false x = refl

-- a pointer: its birth, its top, its sector, its sum
pub pointer_read : (s birth top sector : List ℕ) (b n : ℕ) (sum : List ℕ) (r : Option Pointer) → b ≡ number_in s → birth ≡ drop 8 s → top ≡ drop 4 birth
    → n ≡ number_in top → sector ≡ drop 8 top → sum ≡ front 32 sector → r ≡ then_some (not (b == 0)) (pointer_with b n sum) → r ≡ pointer_in s
unfolding pointer_in
pointer_read s birth top sector b n sum r e1 e2 e3 e4 e5 e6 e7 =
    let at_sector : top ≡ drop 12 s = e3 ∙ ap (drop 4) e2 ∙ drop-drop 4 8 s in
    let at_sum : sector ≡ drop 20 s = e5 ∙ ap (drop 8) at_sector ∙ drop-drop 8 12 s in
    e7 ∙ turned (b == 0) (pointer_with b n sum)
    ∙ ap (λ k. cond (k == 0) None (Some (pointer_with b n sum))) e1
    ∙ ap (λ p. cond (number_in s == 0) None (Some p)) (same_pointer _ _ _ _ _ _ e1 (e4 ∙ ap number_in at_sector) (e6 ∙ ap (front 32) at_sum))

-- ---- one item behind the other

-- items of so many bytes each
pub record Follow {A : Type 0} (all_in : ℕ → List ℕ → List A) (one_in : List ℕ → A) (width : ℕ) : Type 0 where
  pub none : (s : List ℕ) → all_in 0 s ≡ []
  pub more : (n : ℕ) (s : List ℕ) → all_in (suc n) s ≡ one_in s ∷ all_in n (drop width s)

pub pointers_follow : Follow pointers_in pointer_in 52
unfolding pointers_in
pointers_follow = record { none = λ s. refl; more = λ n s. refl }

pub ranges_follow : Follow ranges_in range_in 16
unfolding ranges_in
ranges_follow = record { none = λ s. refl; more = λ n s. refl }

-- the items read so far, and those that are still to be read
pub one_more : {A : Type 0} {all_in : ℕ → List ℕ → List A} {one_in : List ℕ → A} {width : ℕ} → Follow all_in one_in width
    → (read : List A) (item : A) (rest next : List ℕ) (count i : ℕ) (all : List A) → i < count
    → item ≡ one_in rest → next ≡ drop width rest → read ++ all_in (count - i) rest ≡ all → (read ++ item ∷ []) ++ all_in (count - (i + 1)) next ≡ all
one_more {A} {all_in} {one_in} {width} f read item rest next count i all lt e g so_far =
    let k : count - i ≡ suc (count - (i + 1)) = omega arith in
    let left : all_in (count - i) rest ≡ item ∷ all_in (count - (i + 1)) next =
    ap (λ n. all_in n rest) k ∙ f.more (count - (i + 1)) rest
    ∙ both (one_in rest) item (all_in (count - (i + 1)) (drop width rest)) (all_in (count - (i + 1)) next) (sym e) (ap (all_in (count - (i + 1))) (sym g)) in
    append_assoc read (item ∷ []) (all_in (count - (i + 1)) next) ∙ ap (λ p. read ++ p) (sym left) ∙ so_far
  where
    both : {A : Type 0} (x y : A) (xs ys : List A) → x ≡ y → xs ≡ ys → x ∷ xs ≡ y ∷ ys
    both x y xs ys e f = cc

pub all_read : {A : Type 0} {all_in : ℕ → List ℕ → List A} {one_in : List ℕ → A} {width : ℕ} → Follow all_in one_in width
    → (read : List A) (rest : List ℕ) (count i : ℕ) (all : List A) → count ≤ i → read ++ all_in (count - i) rest ≡ all → read ≡ all
all_read {A} {all_in} {one_in} {width} f read rest count i all le so_far =
    let k : count - i ≡ 0 = omega arith in
    sym (append-nil read) ∙ ap (λ p. read ++ p) (sym (ap (λ n. all_in n rest) k ∙ f.none rest)) ∙ so_far

pub behind_more : (width : ℕ) (start rest next : List ℕ) (i : ℕ) → rest ≡ drop (width * i) start → next ≡ drop width rest → next ≡ drop (width * (i + 1)) start
behind_more width start rest next i e f =
    let n : width * i + width ≡ width * (i + 1) = grind arith in
    f ∙ ap (drop width) e ∙ drop-drop width (width * i) start ∙ ap (λ k. drop k start) n

-- ---- logs

pub range_read : (s behind : List ℕ) (low high : ℕ) → low ≡ number_in s → behind ≡ drop 8 s → high ≡ number_in behind → range_with low high ≡ range_in s
unfolding range_in
range_read s behind low high e1 e2 e3 = same_range _ _ _ _ e1 (e3 ∙ ap number_in e2)

-- a log: the number of its ranges, and the ranges
pub log_read : (s after : List ℕ) (count : ℕ) (log : List GroupRange) → count ≡ count_in s → after ≡ drop 4 s → log ≡ ranges_in count after → log ≡ log_in s
unfolding log_in
log_read s after count log e1 e2 e3 = e3 ∙ ap (ranges_in count) e2 ∙ ap (λ n. ranges_in n (drop 4 s)) e1

pub log_behind : (s after end : List ℕ) (count : ℕ) → count ≡ count_in s → after ≡ drop 4 s → end ≡ drop (16 * count) after → end ≡ behind_log s
unfolding behind_log
log_behind s after end count e1 e2 e3 = e3 ∙ ap (drop (16 * count)) e2 ∙ ap (λ n. drop (16 * n) (drop 4 s)) e1

length-ranges_in : (n : ℕ) (s : List ℕ) → length (ranges_in n s) ≡ n
unfolding ranges_in
length-ranges_in zero s = refl
length-ranges_in (suc n) s = ap suc (length-ranges_in n (drop 16 s))

pub log_too_long : (s : List ℕ) (count : ℕ) → count ≡ count_in s → 4096 < count → 4096 < length (log_in s)
unfolding log_in
log_too_long s count e over = omega (arith, e, length-ranges_in (count_in s) (drop 4 s))
