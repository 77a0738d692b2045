-- The record of a state: when its configuration and its blocks may be committed.
use Rattle.std.proofs.Common.{◌≡◌, ◌≢◌, ◌⊎◌, ℕ, ◌+◌, ◌/◌, ◌%◌, ◌^◌, ◌<◌, ◌≤◌, ◌==◌, ◌&&◌, zero, suc, cond, Bool, true, false, List, [], ◌∷◌, ◌++◌, length, Option, Some, None, refl, sym, ap, ◌∙◌, subst, arith, inl, inr, ⊎_elim}
use Rattle.std.specs.Prelude.{slice_get}
use Rattle.std.specs.Option.{option_map}
use Rattle.std.specs.List.{list_all}
use Rattle.std.proofs.lemmas.Bool.{cases_lt, and_parts, and_from, ne_eqb}
use Rattle.std.proofs.lemmas.List.{length-map, length-append}
use Rattle.std.proofs.lemmas.List.Folds.{list_all-append}
use Rattle.std.proofs.lemmas.Option.{slice_get-map}
use Rattle.std.proofs.Math.Seq.{take-append_seam}
use Rattle.sha2.proofs.Facts256.{length-sha256}
use Rattle.mp_base.specs.declared.number.Guid.{Guid}
use Rattle.bank_core.specs.Disk.{sector_size, sectors_in}
use Rattle.label_store.specs.Records.{IsRecord}
use Rattle.label_store.specs.Rounds.{config_of, uberblock_of}
use Rattle.config_codec.specs.Reading.{config_in}
use Rattle.config_codec.specs.Spelling.{config_bytes}
use Rattle.config_codec.specs.Validity.{IsValid}
use Rattle.config_codec.proofs.Deciding.{back, fits_part}
use Rattle.config_codec.proofs.Placing.{length-zeros}
use Rattle.pool_history.specs.Records.{Cell}
use Rattle.pool_history.proofs.LooksFound.{alike}
use Rattle.pool_core.specs.Heads.{head_from, head_of}
use Rattle.pool_core.specs.Recorded.{addresses, pointer_of, pointers_of, fields_in, padding, sealed, commit_of}
use Rattle.pool_core.specs.State.{Content, Known, Summed, Version, PoolState}
use Rattle.host_machine.specs.Records.{version_of, cell_with, cell_of, is_known_content, is_known_version, is_known, owed_by, record_of, IsDrawn}
use Rattle.pool_core.proofs.Drawing.{IsWithin}
use Rattle.host_machine.proofs.Logs.{log_ranges}

-- The state's configuration is valid, its logs have groups up to its number, and its blocks are whole and within the
-- volume.
pub record IsSettled (t : PoolState) : Type 0 where
  pub valid : IsValid (fields_in t)
  pub first_logged : IsWithin t.number t.first.owes
  pub second_logged : IsWithin t.number t.second.owes
  pub beyond : (a : ℕ) → t.blocks ≤ a → t.committed a ≡ None
  pub whole : (a : ℕ) (cell : Cell) → cell_of (t.committed a) ≡ Some cell → length cell.block ≡ 4096

-- each of its blocks is known
abbrev pub AllKnown : PoolState → Type 0
AllKnown t = (a : ℕ) → is_known_version (t.committed a) ≡ true

pub same_some : {A : Type 0} (x y : A) → Some x ≡ Some y → x ≡ y
same_some x y e = cc

pub none_some : {A : Type 0} (x : A) → None ≡ Some x → ⊥
none_some x e = cc

get_left : {A : Type 0} (xs ys : List A) (i : ℕ) → i < length xs → slice_get (xs ++ ys) i ≡ slice_get xs i
get_left [] ys i below = absurd (omega arith)
get_left (x ∷ xs) ys zero below = refl
get_left (x ∷ xs) ys (suc i) below = get_left xs ys i (omega arith)

get_last : {A : Type 0} (xs : List A) (x : A) (i : ℕ) → i ≡ length xs → slice_get (xs ++ x ∷ []) i ≡ Some x
get_last [] x zero e = refl
get_last [] x (suc i) e = absurd (omega arith)
get_last (y ∷ xs) x zero e = absurd (omega arith)
get_last (y ∷ xs) x (suc i) e = get_last xs x i (omega arith)

-- the addresses, by index
pub addresses_long : (n : ℕ) → length (addresses n) ≡ n
addresses_long zero = refl
addresses_long (suc n) = length-append (addresses n) (n ∷ []) ∙ (let long = addresses_long n in omega arith)

pub addresses_at : (n a : ℕ) → a < n → slice_get (addresses n) a ≡ Some a
addresses_at zero a below = absurd (omega arith)
addresses_at (suc n) a below =
    ⊎_elim
    (λ less. get_left (addresses n) (n ∷ []) a (let long = addresses_long n in omega (arith, less)) ∙ addresses_at n a less)
    (λ last. get_last (addresses n) n a (let long = addresses_long n in omega (arith, below, last)) ∙ ap Some (let same : n ≡ a = omega (arith, below, last) in same))
    (cases_lt a n)

-- the pointers, by address
pub pointers_long : (committed : ℕ → Option Version) (n : ℕ) → length (pointers_of committed n) ≡ n
pointers_long committed n = length-map (addresses n) (λ a. option_map pointer_of (committed a)) ∙ addresses_long n

pub pointers_at : (committed : ℕ → Option Version) (n a : ℕ) → a < n → slice_get (pointers_of committed n) a ≡ Some (option_map pointer_of (committed a))
pointers_at committed n a below =
    slice_get-map (λ a. option_map pointer_of (committed a)) (addresses n) a
    ∙ ap (option_map (λ a. option_map pointer_of (committed a))) (addresses_at n a below)

-- a cell is its version, whose block is known
pub cell_is : (v : Option Version) (cell : Cell) → cell_of v ≡ Some cell → v ≡ Some (version_of cell)
cell_is None cell e = absurd (none_some cell e)
cell_is (Some version) cell e = by version.content e
  where
    by : (content : Content) → cell_with version.birth version.sector content ≡ Some cell → Some (record { birth = version.birth; sector = version.sector; content = content }) ≡ Some (version_of cell)
    by (Known block) e = ap (λ c. Some (version_of c)) (same_some (record { birth = version.birth; sector = version.sector; block = block }) cell e)
    by (Summed sum) e = absurd (none_some cell e)

-- and a version whose block is known is its cell's
pub known_is : (v : Option Version) → is_known_version v ≡ true → v ≡ option_map version_of (cell_of v)
known_is None e = refl
known_is (Some version) e = by version.content e
  where
    by : (content : Content) → is_known_content content ≡ true
        → Some (record { birth = version.birth; sector = version.sector; content = content }) ≡ option_map version_of (cell_with version.birth version.sector content)
    by (Known block) e = refl
    by (Summed sum) e = absurd (let no : false ≡ true = e in cc)

pub map_twice : (c : Option Cell) → option_map pointer_of (option_map version_of c) ≡ option_map (λ cell. pointer_of (version_of cell)) c
map_twice None = refl
map_twice (Some cell) = refl

-- each address of the volume passes a test, or some test of it fails
all_pass : (test : ℕ → Bool) (n : ℕ) → ((a : ℕ) → a < n → test a ≡ true) → list_all test (addresses n) ≡ true
all_pass test zero each = refl
all_pass test (suc n) each =
    list_all-append test (addresses n) (n ∷ [])
    ∙ and_from (list_all test (addresses n)) _ (all_pass test n (λ a below. each a (omega arith))) (and_from (test n) true (each n (omega arith)) refl)

each_passes : (test : ℕ → Bool) (n : ℕ) → list_all test (addresses n) ≡ true → (a : ℕ) → a < n → test a ≡ true
each_passes test zero all a below = absurd (omega arith)
each_passes test (suc n) all a below =
    let parts = and_parts (list_all test (addresses n)) (test n && true) (sym (list_all-append test (addresses n) (n ∷ [])) ∙ all) in
    ⊎_elim
    (λ less. each_passes test n parts.0 a less)
    (λ last. subst (λ b. test b ≡ true) (let same : n ≡ a = omega (arith, below, last) in same) (and_parts (test n) true parts.1).0)
    (cases_lt a n)

pub known_all : (t : PoolState) → AllKnown t → is_known t ≡ true
known_all t known = all_pass (λ a. is_known_version (t.committed a)) t.blocks (λ a below. known a)

pub known_each : (t : PoolState) → IsSettled t → is_known t ≡ true → AllKnown t
known_each t settled all a = by (cases_lt a t.blocks)
  where
    by : (a < t.blocks) ⊎ (t.blocks ≤ a) → is_known_version (t.committed a) ≡ true
    by (inl below) = each_passes (λ b. is_known_version (t.committed b)) t.blocks all a below
    by (inr above) = ap is_known_version (settled.beyond a above)

-- the configuration in the sectors that a round writes

padded_whole : (n : ℕ) → (n + padding n) % 4096 ≡ 0
padded_whole n = omega arith

padded_few : (n : ℕ) → n ≤ 114688 → (n + padding n) / 4096 ≤ 28
padded_few n few = omega arith

pub sealed_long : (config : List ℕ) → length (sealed config) ≡ length config + padding (length config)
sealed_long config = length-append config _ ∙ ap (λ n. length config + n) (length-zeros (padding (length config)))

sealed_whole : (config : List ℕ) → length (sealed config) % sector_size ≡ 0
unfolding sector_size
sealed_whole config = ap (λ n. n % 4096) (sealed_long config) ∙ padded_whole (length config)

sealed_few : (config : List ℕ) → length config ≤ 114688 → sectors_in (sealed config) ≤ 28
unfolding sector_size
sealed_few config few = subst (λ n. n / 4096 ≤ 28) (sym (sealed_long config)) (padded_few (length config) few)

pub config_is : (t : PoolState) → config_of (commit_of t) ≡ config_bytes (fields_in t)
config_is t = take-append_seam (config_bytes (fields_in t)) _

pub config_reads : (t : PoolState) → IsValid (fields_in t) → config_in (config_of (commit_of t)) ≡ Some (fields_in t)
config_reads t valid = ap config_in (config_is t) ∙ back (fields_in t) valid

-- The logs of a record.

pub first_owed : (t : PoolState) (g : ℕ) → owed_by t t.first.member g ≡ t.first.owes g
first_owed t g = ap (λ b. cond b (t.first.owes g) (cond (t.second.member.0 == t.first.member.0) (t.second.owes g) false)) (alike t.first.member.0)

pub second_owed : (t : PoolState) (g : ℕ) → t.first.member.0 ≢ t.second.member.0 → owed_by t t.second.member g ≡ t.second.owes g
second_owed t g differ =
    ap (λ b. cond b (t.first.owes g) (cond (t.second.member.0 == t.second.member.0) (t.second.owes g) false)) (ne_eqb t.first.member.0 t.second.member.0 differ)
    ∙ ap (λ b. cond b (t.second.owes g) false) (alike t.second.member.0)

-- A settled state whose blocks are known has a record that may be drawn up.
pub settled_drawn : (t : PoolState) → IsSettled t → AllKnown t → IsDrawn (record_of t) (fields_in t)
settled_drawn t settled known = record {
  config = config_reads t settled.valid;
  length_is = ap length (sym (config_is t));
  blob = ap sealed (sym (config_is t));
  pool = refl;
  number = refl;
  pointers = λ a below. pointers_at t.committed t.blocks a below
      ∙ ap (λ v. Some (option_map pointer_of v)) (known_is (t.committed a) (known a)) ∙ ap Some (map_twice (cell_of (t.committed a)));
  beyond = λ a above. ap cell_of (settled.beyond a above);
  first_log = λ g. first_owed t g ∙ log_ranges t.first.owes t.number settled.first_logged g;
  second_log = λ g. second_owed t g settled.valid.two_members ∙ log_ranges t.second.owes t.number settled.second_logged g;
  whole = settled.whole;
}

-- its configuration with a member's uberblock
pub settled_record : (t : PoolState) (dev : ℕ) (guid : Guid) → IsSettled t → guid.0 < 2 ^ 64
    → IsRecord head_of (uberblock_of (commit_of t) (record { dev = dev; guid = guid })) (commit_of t).blob (config_of (commit_of t))
settled_record t dev guid settled small = record {
  in_range = record {
    pool = let most = settled.valid.pool.1 in omega arith;
    member = small;
    number = settled.valid.number.1;
    config = let few = fits_part (fields_in t) settled.valid in omega arith;
    sum = length-sha256 (config_of (commit_of t));
    no_config = λ none. absurd (let some = settled.valid.number.0 in omega (arith, none));
    no_sum = λ none. absurd (let some = settled.valid.number.0 in omega (arith, none));
  };
  some = settled.valid.number.0;
  whole = sealed_whole (config_bytes (fields_in t));
  most = sealed_few (config_bytes (fields_in t)) (fits_part (fields_in t) settled.valid);
  within = let long = sealed_long (config_bytes (fields_in t)) in omega (arith, long);
  config_is = refl;
  sum = refl;
  headed = record { head = head_from (fields_in t); reads = ap (option_map head_from) (config_reads t settled.valid); pool_is = refl; number_is = refl };
}

-- a committed block is within the volume, and its sector is one of its address
pub cell_pointer : (t : PoolState) (a : ℕ) (cell : Cell) → IsSettled t → cell_of (t.committed a) ≡ Some cell
    → (a < t.blocks) × (cell.sector / 2 ≡ a)
cell_pointer t a cell settled e = by (cases_lt a t.blocks)
  where
    is : t.committed a ≡ Some (version_of cell)
    is = cell_is (t.committed a) cell e

    by : (a < t.blocks) ⊎ (t.blocks ≤ a) → (a < t.blocks) × (cell.sector / 2 ≡ a)
    by (inl below) = (below, (settled.valid.pointers a (pointer_of (version_of cell)) (pointers_at t.committed t.blocks a below ∙ ap (λ v. Some (option_map pointer_of v)) is)).sector)
    by (inr above) = absurd (none_some (version_of cell) (sym (settled.beyond a above) ∙ is))
