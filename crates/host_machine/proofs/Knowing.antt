-- What the machine takes for the blocks of a record that an opening found: those of a record that the history
-- drew up, where it drew up one of this configuration. All such have the same blocks.
use Rattle.std.proofs.Common.{◌≡◌, ◌⊎◌, ℕ, ◌<◌, ◌≤◌, Bool, true, false, cond, List, [], ◌∷◌, Option, Some, None, refl, sym, ap, ◌∙◌, inl, inr, ⊎_elim}
use Rattle.std.specs.List.{list_all}
use Rattle.std.specs.Option.{option_map}
use Rattle.std.specs.Str.{bytes_eq}
use Rattle.std.proofs.lemmas.Bool.{cases_lt, and_from}
use Rattle.std.proofs.lemmas.Slice.Eq.{bytes_eq-Decides}
use Rattle.sha2.specs.Sha256.{sha256}
use Rattle.label_store.specs.Rounds.{config_of}
use Rattle.config_codec.specs.Fields.{Fields}
use Rattle.pool_history.specs.Records.{Rec, Cell, IsIn}
use Rattle.pool_core.specs.Recorded.{addresses, pointer_of}
use Rattle.pool_core.specs.State.{Version, PoolState}
use Rattle.host_machine.specs.Records.{version_of, versions_of, cell_of, is_known_version, is_known, committed_in, IsDrawn}
use Rattle.host_machine.specs.Tracking.{HasNoTwins}
use Rattle.host_machine.proofs.Settling.{same_some, none_some}

-- the test of two byte strings
same_bytes : (xs ys : List ℕ) → bytes_eq xs ys ≡ true → xs ≡ ys
same_bytes xs ys e = (bytes_eq-Decides xs ys).0 e

pub bytes_same : (xs ys : List ℕ) → xs ≡ ys → bytes_eq xs ys ≡ true
bytes_same xs ys e = (bytes_eq-Decides xs ys).1 e

-- A record that the machine takes for this configuration.
pub record IsTaken (records : List Rec) (config : List ℕ) (c : Fields) : Type 0 where
  pub taken : Rec
  pub is_in : IsIn taken records
  pub config_is : config_of taken.commit ≡ config
  pub committed : (a : ℕ) → committed_in records config c a ≡ versions_of taken a

pub taken_of : (records : List Rec) (config : List ℕ) (c : Fields) (r : Rec) → IsIn r records → config_of r.commit ≡ config → IsTaken records config c
taken_of [] config c r i e = absurd i
taken_of (x ∷ records) config c r i e = by_test (bytes_eq (config_of x.commit) config) refl i (λ i. taken_of records config c r i e)
  where
    by_test : (t : Bool) → bytes_eq (config_of x.commit) config ≡ t → (r ≡ x) ⊎ IsIn r records → (IsIn r records → IsTaken records config c) → IsTaken (x ∷ records) config c
    by_test true t i more = record {
      taken = x;
      is_in = inl refl;
      config_is = same_bytes (config_of x.commit) config t;
      committed = λ a. ap (λ b. cond b (versions_of x) (committed_in records config c) a) t;
    }
    by_test false t (inl same) more = absurd (let hit : bytes_eq (config_of x.commit) config ≡ true = bytes_same (config_of x.commit) config (ap (λ q. config_of q.commit) (sym same) ∙ e) in cc)
    by_test false t (inr i) more = record {
      taken = (more i).taken;
      is_in = inr (more i).is_in;
      config_is = (more i).config_is;
      committed = λ a. ap (λ b. cond b (versions_of x) (committed_in records config c) a) t ∙ (more i).committed a;
    }

same_cell : (x y : Cell) → x.birth ≡ y.birth → x.sector ≡ y.sector → x.block ≡ y.block → x ≡ y
same_cell x y birth sector block =
    ap (λ b. record { birth = b; sector = x.sector; block = x.block }) birth
    ∙ ap (λ s. record { birth = y.birth; sector = s; block = x.block }) sector
    ∙ ap (λ k. record { birth = y.birth; sector = y.sector; block = k }) block

-- cells of the same pointer, where no two blocks have one sum
same_cells : (x y : Option Cell) → option_map (λ cell. pointer_of (version_of cell)) x ≡ option_map (λ cell. pointer_of (version_of cell)) y
    → ((cell other : Cell) → x ≡ Some cell → y ≡ Some other → sha256 cell.block ≡ sha256 other.block → cell.block ≡ other.block) → x ≡ y
same_cells None None e twins = refl
same_cells None (Some cell) e twins = absurd (none_some _ e)
same_cells (Some cell) None e twins = absurd (none_some _ (sym e))
same_cells (Some cell) (Some other) e twins =
    let same : pointer_of (version_of cell) ≡ pointer_of (version_of other) = same_some _ _ e in
    ap Some (same_cell cell other (ap (λ p. p.birth.0) same) (ap (λ p. p.sector) same) (twins cell other refl refl (ap (λ p. p.sum) same)))

-- Two records of one configuration have the same blocks, where no two blocks have one sum.
pub cells_same : (r q : Rec) (c : Fields) → IsDrawn r c → IsDrawn q c
    → ((a : ℕ) (cell other : Cell) → r.cells a ≡ Some cell → q.cells a ≡ Some other → sha256 cell.block ≡ sha256 other.block → cell.block ≡ other.block)
    → (a : ℕ) → r.cells a ≡ q.cells a
cells_same r q c one other twins a =
    ⊎_elim {A = a < c.blocks} {B = c.blocks ≤ a}
    (λ lt. same_cells (r.cells a) (q.cells a) (same_some _ _ (sym (one.pointers a lt) ∙ other.pointers a lt)) (twins a))
    (λ le. one.beyond a le ∙ sym (other.beyond a le)) (cases_lt a c.blocks)

-- The blocks of a record, as the machine knows them, give its cells back.
pub cells_back : (x : Option Cell) → cell_of (option_map version_of x) ≡ x
cells_back None = refl
cells_back (Some cell) = refl

pub known_back : (x : Option Cell) → is_known_version (option_map version_of x) ≡ true
known_back None = refl
known_back (Some cell) = refl

all_known : (committed : ℕ → Option Version) (places : List ℕ) → ((a : ℕ) → is_known_version (committed a) ≡ true) → list_all (λ a. is_known_version (committed a)) places ≡ true
all_known committed [] k = refl
all_known committed (a ∷ places) k = and_from _ _ (k a) (all_known committed places k)

-- a state whose blocks are a record's is known
pub known_state : (s : PoolState) (r : Rec) → ((a : ℕ) → s.committed a ≡ versions_of r a) → is_known s ≡ true
known_state s r same = all_known s.committed (addresses s.blocks) (λ a. ap is_known_version (same a) ∙ known_back (r.cells a))

-- fewer records have no twins either
pub twins_before : (old new : List Rec) → ((r : Rec) → IsIn r old → IsIn r new) → HasNoTwins new → HasNoTwins old
twins_before old new kept twins = record { by = λ r q a b cell other i j x y sums. twins.by r q a b cell other (kept r i) (kept q j) x y sums }
