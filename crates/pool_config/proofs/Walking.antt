-- The runs of a set, one by one from the first, are its groups as rising ranges.
use Rattle.std.proofs.Common.{◌≡◌, ℕ, zero, suc, ◌+◌, ◌-◌, ◌*◌, ◌^◌, ◌<◌, ◌≤◌, Bool, true, false, cond, ◌&&◌, ◌||◌}
use Rattle.std.proofs.Common.{◌==◌, not, inl, inr, List, [], ◌∷◌, ◌++◌, length, refl, ap, sym, ◌∙◌, arith, Option, Some}
use Rattle.std.proofs.Common.{None}
use Rattle.std.proofs.lemmas.Bool.Decides.{nat_tests}
use Rattle.std.proofs.lemmas.Bool.{cases_lt, false≢true}
use Rattle.std.specs.Prelude.{IfSome, IfNone}
use Rattle.mp_base.specs.declared.number.Group.{Group}
use Rattle.std.proofs.lemmas.List.Folds.{list_any-append}
use Rattle.mp_base.specs.declared.range.GroupRange.{GroupRange}
use Rattle.mp_base.specs.Ranges.{Rises}
use Rattle.group_set.specs.Groups.{Groups, holds, begins}
use Rattle.group_set.specs.Ranges.{in_range, in_ranges, range_of_one, range_up_to, extended, ranges_upto}
use Rattle.group_set.specs.Runs.{between}
use Rattle.group_set.proofs.Upto.{upto_back, upto_rises, upto_has, upto_same, upto_further}
use Rattle.std.specs.List.{flat_map}
use Rattle.std.proofs.lemmas.List.{append-nil}
use Rattle.std.proofs.lemmas.List.Concat.{flat_map-append}
use Rattle.pool_config.specs.Seen.{ranges_of}
use Rattle.pool_config.specs.Spelling.{range_bytes}
use Rattle.pool_config.specs.Pieces.{Puts}
use Rattle.pool_config.proofs.Placing.{puts_none, puts_same, puts_next}

abbrev pub range : (low high : ℕ) → GroupRange
range low high = record { low = record { 0 = low }; high = record { 0 = high } }

none_begins : (here before : Bool) → before ≡ false → (here && not before) ≡ false → here ≡ false
none_begins true true gap none = gap
none_begins true false gap none = none
none_begins false before gap none = refl

-- a set that has no run from a group on, and not the group before it, has no group there
pub quiet : (set : Groups) (from low : ℕ) → 1 ≤ from → holds set (from - 1) ≡ false
    → ((g : ℕ) → from ≤ g → g < low → begins set g ≡ false)
    → (g : ℕ) → from ≤ g + 1 → g < low → holds set g ≡ false
quiet set from low some gap none zero late lt = ap (holds set) (let e : 0 ≡ from - 1 = omega arith in e) ∙ gap
quiet set from low some gap none (suc g) late lt =
    let earlier : from ≤ g + 1 → holds set g ≡ false = λ l. quiet set from low some gap none g l (omega arith) in
    elim (cases_lt (suc g) from) [
      | inl before ↦ ap (holds set) (let e : suc g ≡ from - 1 = omega arith in e) ∙ gap
      | inr at ↦ none_begins (holds set (suc g)) (holds set (suc g - 1))
          (ap (holds set) (let e : suc g - 1 ≡ g = omega arith in e) ∙ earlier (omega arith)) (none (suc g) at lt)
    ]

rises_push : (least from low high : ℕ) (ranges : List GroupRange) → Rises least (from - 2) ranges → 1 ≤ least
    → least ≤ low → from ≤ low → low ≤ high
    → Rises least high (ranges ++ range low high ∷ [])
rises_push least from low high [] rises some a b c = (a, c, omega arith, tt)
rises_push least from low high (r ∷ ranges) rises some a b c = (
  rises.0,
  rises.1,
  omega (arith, rises.0, rises.1, rises.2),
  rises_push (r.high.0 + 2) from low high ranges rises.3 (omega arith) (omega (arith, rises.0, rises.1, rises.2)) b c,
)

here_below : (n low high g : ℕ) (b : Bool) → 1 ≤ g → g ≤ n → n < low
    → ((between 1 n g && b) || (in_range (range low high) g || false)) ≡ b
here_below n low high g b some at below = grind (arith, nat_tests)

here_between : (n low high g : ℕ) (b : Bool) → n < g → g < low
    → ((between 1 n g && b) || (in_range (range low high) g || false)) ≡ false
here_between n low high g b above below = grind (arith, nat_tests)

here_inside : (n low high g : ℕ) (b : Bool) → n < g → low ≤ g → g ≤ high
    → ((between 1 n g && b) || (in_range (range low high) g || false)) ≡ true
here_inside n low high g b above at within = grind (arith, nat_tests)

-- one run more
pub run_more : (set : Groups) (from low high : ℕ) → 1 ≤ from → holds set (from - 1) ≡ false → from ≤ low → low ≤ high
    → ((g : ℕ) → from ≤ g → g < low → begins set g ≡ false) → ((g : ℕ) → low ≤ g → g ≤ high → holds set g ≡ true)
    → ranges_upto (holds set) (from - 2) ++ range low high ∷ [] ≡ ranges_upto (holds set) (high + 2 - 2)
run_more set from low high some gap late order none inside =
    let n = from - 2 in
    let before = ranges_upto (holds set) n in
    let all = before ++ range low high ∷ [] in
    let rises : Rises 1 high all =
    rises_push 1 from low high before (upto_rises (holds set) n) (omega arith) (omega arith) late order in
    let parts : (g : ℕ) → in_ranges all g ≡ ((between 1 n g && holds set g) || (in_range (range low high) g || false)) =
    λ g. list_any-append (λ r. in_range r g) before (range low high ∷ [])
    ∙ ap (λ b. b || (in_range (range low high) g || false)) (upto_has (holds set) n g) in
    let same : (g : ℕ) → 1 ≤ g → g ≤ high → in_ranges all g ≡ holds set g =
    λ g first last. parts g ∙ elim (cases_lt n g) [
      | inr at ↦ here_below n low high g (holds set g) first at (omega arith)
      | inl above ↦ elim (cases_lt g low) [
        | inl below ↦ here_between n low high g (holds set g) above below
            ∙ sym (quiet set from low some gap none g (omega arith) below)
        | inr there ↦ here_inside n low high g (holds set g) above there last ∙ sym (inside g there last)
      ]
    ] in
    let end : high + 2 - 2 ≡ high = omega arith in
    sym (upto_back high all rises) ∙ upto_same (in_ranges all) (holds set) high same
    ∙ ap (ranges_upto (holds set)) (sym end)

-- behind the last run
pub runs_all : (set : Groups) (from : ℕ) → 1 ≤ from → from ≤ 2 ^ 62 + 2 → holds set (from - 1) ≡ false
    → ((g : ℕ) → from ≤ g → begins set g ≡ false)
    → ranges_upto (holds set) (from - 2) ≡ ranges_of set
unfolding ranges_of
runs_all set from some last gap none =
    let n = from - 2 in
    let all : n + (2 ^ 62 - n) ≡ 2 ^ 62 = omega arith in
    sym (ap (ranges_upto (holds set)) (sym all)
    ∙ upto_further (holds set) n (2 ^ 62 - n)
    (λ g past. quiet set from (g + 1) some gap (λ h at lt. none h at) g (omega arith) (omega arith)))

longer_if : (b : Bool) (g : ℕ) (r : GroupRange) (xs ys : List GroupRange) → length xs ≡ 1 → length ys ≡ 2
    → 1 ≤ length (cond b xs ys)
longer_if true g r xs ys one two = omega arith
longer_if false g r xs ys one two = omega arith

extended_longer : (g : ℕ) (ranges : List GroupRange) → length ranges ≤ length (extended g ranges)
extended_longer g [] = omega arith
extended_longer g (r ∷ []) =
    longer_if (r.high.0 + 1 == g) g r (range_up_to r g ∷ []) (r ∷ range_of_one g ∷ []) refl refl
extended_longer g (r ∷ (s ∷ ranges)) = omega (arith, extended_longer g (s ∷ ranges))

step_longer : (b : Bool) (g : ℕ) (ranges : List GroupRange) → length ranges ≤ length (cond b (extended g ranges) ranges)
step_longer true g ranges = extended_longer g ranges
step_longer false g ranges = omega arith

upto_step : (set : ℕ → Bool) (n : ℕ) → length (ranges_upto set n) ≤ length (ranges_upto set (suc n))
unfolding ranges_upto
upto_step set n = step_longer (set (suc n)) (suc n) (ranges_upto set n)

upto_longer : (set : ℕ → Bool) (n k : ℕ) → length (ranges_upto set n) ≤ length (ranges_upto set (n + k))
upto_longer set n zero = omega (arith, ap (λ m. length (ranges_upto set m)) (let e : n + 0 ≡ n = omega arith in e))
upto_longer set n (suc k) =
    omega (
      arith,
      upto_longer set n k,
      upto_step set (n + k),
      ap (λ m. length (ranges_upto set m)) (let e : n + suc k ≡ suc (n + k) = omega arith in e),
    )

-- There is room for the run, since it is one of the set's.
pub run_within : (set : Groups) (from low high : ℕ) → high ≤ 2 ^ 62
    → ranges_upto (holds set) (from - 2) ++ range low high ∷ [] ≡ ranges_upto (holds set) (high + 2 - 2)
    → length (ranges_upto (holds set) (from - 2)) + 1 ≤ length (ranges_of set)
unfolding ranges_of
run_within set from low high last more =
    omega (
      arith,
      ap length more,
      length_push (ranges_upto (holds set) (from - 2)) (range low high),
      upto_longer (holds set) (high + 2 - 2) (2 ^ 62 - high),
      ap (λ m. length (ranges_upto (holds set) m)) (let e : high + 2 - 2 + (2 ^ 62 - high) ≡ 2 ^ 62 = omega arith in e),
    )
  where
    length_push : (xs : List GroupRange) (x : GroupRange) → length (xs ++ x ∷ []) ≡ length xs + 1
    length_push [] x = refl
    length_push (y ∷ xs) x = omega (arith, length_push xs x)

-- What is put of a set's ranges while its runs are walked through from the first: those below the group from which
-- it goes on, and the group before it is in none.
pub record ArePut (set : Groups) (old : List ℕ) (at : ℕ) (new : List ℕ) (end from : ℕ) : Type 0 where
  pub piece : Puts old at (flat_map range_bytes (ranges_upto (holds set) (from - 2))) new end
  pub stop : end ≡ at + 16 * length (ranges_upto (holds set) (from - 2))
  pub some : 1 ≤ from
  pub last : from ≤ 2 ^ 62 + 2
  pub gap : holds set (from - 1) ≡ false

no_zero : (b : Bool) → (b ≡ true → (1 ≤ 0) × (0 ≤ 2 ^ 62)) → b ≡ false
no_zero true within = absurd (omega (arith, (within refl).0))
no_zero false within = refl

pub none_put : (set : Groups) (old : List ℕ) (at : ℕ) → ((g : ℕ) → holds set g ≡ true → (1 ≤ g) × (g ≤ 2 ^ 62))
    → ArePut set old at old at 1
unfolding ranges_upto
none_put set old at within = record {
  piece = puts_none old at;
  stop = omega arith;
  some = omega arith;
  last = omega arith;
  gap = no_zero (holds set 0) (within 0);
}

-- a maximal run of the set, the first from a group on
pub record IsNextRun (set : Groups) (from low high : ℕ) : Type 0 where
  pub late : from ≤ low
  pub order : low ≤ high
  pub last : high ≤ 2 ^ 62
  pub first : (g : ℕ) → from ≤ g → g < low → begins set g ≡ false
  pub inside : (g : ℕ) → low ≤ g → g ≤ high → holds set g ≡ true
  pub behind : holds set (high + 1) ≡ false

pub run_put : (set : Groups) (old mid new : List ℕ) (at m e from low high : ℕ) → ArePut set old at mid m from
    → IsNextRun set from low high
    → Puts mid m (range_bytes (range low high)) new e → e ≡ m + 16 → ArePut set old at new e (high + 2)
run_put set old mid new at m e from low high put run one end =
    let more = run_more set from low high put.some put.gap run.late run.order run.first run.inside in
    let bytes : flat_map range_bytes (ranges_upto (holds set) (from - 2)) ++ range_bytes (range low high)
    ≡ flat_map range_bytes (ranges_upto (holds set) (high + 2 - 2)) =
    sym (ap (flat_map range_bytes) (sym more)
    ∙ flat_map-append range_bytes (ranges_upto (holds set) (from - 2)) (range low high ∷ [])
    ∙ ap (λ s. flat_map range_bytes (ranges_upto (holds set) (from - 2)) ++ s)
    (append-nil (range_bytes (range low high)))) in
    record {
      piece = puts_same bytes (puts_next put.piece one);
      stop = omega (
        arith,
        put.stop,
        end,
        ap length more,
        length_push (ranges_upto (holds set) (from - 2)) (range low high),
      );
      some = omega arith;
      last = omega (arith, run.last);
      gap = ap (holds set) (let e : high + 2 - 1 ≡ high + 1 = omega arith in e) ∙ run.behind;
    }
  where
    length_push : (xs : List GroupRange) (x : GroupRange) → length (xs ++ x ∷ []) ≡ length xs + 1
    length_push [] x = refl
    length_push (y ∷ xs) x = omega (arith, length_push xs x)

pub run_fits : (set : Groups) (old mid : List ℕ) (at m from low high room : ℕ) → ArePut set old at mid m from
    → IsNextRun set from low high
    → at + 16 * length (ranges_of set) ≤ room → m + 16 ≤ room
run_fits set old mid at m from low high room put run fits =
    omega (
      arith,
      put.stop,
      run_within set from low high run.last (run_more set from low high put.some put.gap run.late
          run.order run.first run.inside),
      fits,
    )

pub all_put : (set : Groups) (old new : List ℕ) (at e from : ℕ) → ArePut set old at new e from
    → ((g : ℕ) → from ≤ g → begins set g ≡ false)
    → Puts old at (flat_map range_bytes (ranges_of set)) new e × (e ≡ at + 16 * length (ranges_of set))
all_put set old new at e from put none =
    let all = runs_all set from put.some put.last put.gap none in
    (puts_same (ap (flat_map range_bytes) all) put.piece, put.stop ∙ ap (λ ranges. at + 16 * length ranges) all)

-- ---- which groups a set may have

zero_is_none : (set : Groups) (found : Option Group) → IfSome found (λ g. (h : ℕ) → h < g.0 → holds set h ≡ false)
    → IfSome found (λ g. (1 ≤ g.0) × (g.0 ≤ 2 ^ 62))
    → IfNone found ((h : ℕ) → holds set h ≡ false) → holds set 0 ≡ false
zero_is_none set None least within none = none 0
zero_is_none set (Some g) least within none = least 0 (omega (arith, within.0))

none_past : (set : Groups) (from : ℕ) (found : Option Group) → 2 ^ 62 < from → IfSome found (λ g. from ≤ g.0)
    → IfSome found (λ g. (1 ≤ g.0) × (g.0 ≤ 2 ^ 62))
    → IfNone found ((h : ℕ) → from ≤ h → holds set h ≡ false) → (h : ℕ) → from ≤ h → holds set h ≡ false
none_past set from None past late within none h above = none h above
none_past set from (Some g) past late within none h above = absurd (omega (arith, past, late, within.1))

-- by the least group, and by none behind the last number
pub lie_within : (set : Groups) (from : ℕ) (first behind : Option Group) → from ≡ 2 ^ 62 + 1
    → IfSome first (λ g. (h : ℕ) → h < g.0 → holds set h ≡ false) → IfSome first (λ g. (1 ≤ g.0) × (g.0 ≤ 2 ^ 62))
    → IfNone first ((h : ℕ) → holds set h ≡ false)
    → IfSome behind (λ g. from ≤ g.0) → IfSome behind (λ g. (1 ≤ g.0) × (g.0 ≤ 2 ^ 62))
    → IfNone behind ((h : ℕ) → from ≤ h → holds set h ≡ false)
    → (g : ℕ) → holds set g ≡ true → (1 ≤ g) × (g ≤ 2 ^ 62)
lie_within set from first behind is least one none late two past g has = (
  elim (cases_lt 0 g) [
    | inl some ↦ some
    | inr low ↦ absurd (false≢true (sym (zero_is_none set first least one none)
        ∙ ap (holds set) (let e : 0 ≡ g = omega arith in e) ∙ has))
  ],
  elim (cases_lt g from) [
    | inl below ↦ omega (arith, is)
    | inr above ↦ absurd (false≢true (sym (none_past set from behind (omega (arith, is)) late two past g above) ∙ has))
  ],
)
