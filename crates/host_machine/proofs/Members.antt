-- What holds of each leaf of a pool, and so of its members that are read and written.
use Rattle.std.proofs.Common.{◌≡◌, ℕ, zero, suc, Bool, true, false, cond, List, [], ◌∷◌, ◌++◌, Option, Some, None, refl, subst}
use Rattle.std.specs.Prelude.{not, slice_get}
use Rattle.std.specs.List.{cons_option, filter, filter_map}
use Rattle.label_store.specs.declared.member.Member.{Member}
use Rattle.pool_history.proofs.LookedParts.{same_some}
use Rattle.pool_core.specs.Reading.{tries}
use Rattle.pool_core.specs.State.{PoolState, leaves, having, owing, seat_of}

-- what holds of each of these
abbrev pub AllOf : {X : Type 0} → (X → Type 0) → List X → Type 0
AllOf P [] = Unit {0}
AllOf P (x ∷ xs) = P x × AllOf P xs

pub all_more : {X : Type 0} (P : X → Type 0) (first second : List X) → AllOf P first → AllOf P second → AllOf P (first ++ second)
all_more P [] second a b = b
all_more P (x ∷ first) second a b = (a.0, all_more P first second a.1 b)

pub all_to : {X : Type 0} (P Q : X → Type 0) (xs : List X) → ((x : X) → P x → Q x) → AllOf P xs → AllOf Q xs
all_to P Q [] to a = tt
all_to P Q (x ∷ xs) to a = (to x a.0, all_to P Q xs to a.1)

pub all_at : {X : Type 0} (P : X → Type 0) (xs : List X) (i : ℕ) (x : X) → AllOf P xs → slice_get xs i ≡ Some x → P x
all_at P [] i x a e = absurd (cc)
all_at P (y ∷ xs) zero x a e = subst P (same_some y x e) a.0
all_at P (y ∷ xs) (suc i) x a e = all_at P xs i x a.1 e

pub all_filtered : {X : Type 0} (P : X → Type 0) (test : X → Bool) (xs : List X) → AllOf (λ x. test x ≡ true → P x) xs → AllOf P (filter test xs)
all_filtered P test [] a = tt
all_filtered P test (x ∷ xs) a = by (test x) refl (all_filtered P test xs a.1)
  where
    by : (t : Bool) → test x ≡ t → AllOf P (filter test xs) → AllOf P (cond t (x ∷ filter test xs) (filter test xs))
    by true e more = (a.0 e, more)
    by false e more = more

pub all_mapped : {X Y : Type 0} (P : Y → Type 0) (f : X → Option Y) (xs : List X) → AllOf (λ x. (y : Y) → f x ≡ Some y → P y) xs → AllOf P (filter_map f xs)
all_mapped P f [] a = tt
all_mapped P f (x ∷ xs) a = by (f x) refl (all_mapped P f xs a.1)
  where
    by : (y : Option _) → f x ≡ y → AllOf P (filter_map f xs) → AllOf P (cons_option y (filter_map f xs))
    by None e more = more
    by (Some y) e more = (a.0 y e, more)

-- what holds of each leaf's member holds of each copy that is tried
pub tries_all : (P : Member → Type 0) (birth : ℕ) (s : PoolState) → ((m : Member) → seat_of s.first ≡ Some m → P m) → ((m : Member) → seat_of s.second ≡ Some m → P m)
    → AllOf P (tries birth (leaves s))
tries_all P birth s one other =
    all_more P (filter_map seat_of (having birth (leaves s))) (filter_map seat_of (owing birth (leaves s)))
    (all_mapped P seat_of (having birth (leaves s)) (all_filtered (λ leaf. (m : Member) → seat_of leaf ≡ Some m → P m) (λ leaf. not (leaf.owes birth)) (leaves s) (λ t. one, (λ t. other, tt))))
    (all_mapped P seat_of (owing birth (leaves s)) (all_filtered (λ leaf. (m : Member) → seat_of leaf ≡ Some m → P m) (λ leaf. leaf.owes birth) (leaves s) (λ t. one, (λ t. other, tt))))
