-- The making of a pool: its state in memory, its stamps and its round.
use Rattle.std.proofs.Common.{◌≡◌, ◌≢◌, ℕ, ◌^◌, ◌<◌, ◌≤◌, Bool, true, false, List, [], ◌∷◌, ◌++◌, Option, Some, None, Result, Ok, Err, refl, sym, ◌∙◌, ap, subst, append-nil, arith, replicate, length, get_or}
use Rattle.std.proofs.Math.Path.{fun_ext}
use Rattle.std.specs.Prelude.{is_err, IsTrue}
use Rattle.std.proofs.lemmas.List.{length-replicate}
use Rattle.mp_base.specs.Name.{is_name}
use Rattle.mp_base.specs.declared.number.Guid.{Guid}
use Rattle.bank_core.specs.declared.bank.Fault.{Fault}
use Rattle.bank_core.specs.Asks.{IsPart}
use Rattle.bank_core.specs.Disk.{Noted}
use Rattle.bank_core.specs.Parts.{MakesPart}
use Rattle.bank_core.specs.Story.{Story, fault_in}
use Rattle.bank_core.proofs.Composing.{made_more}
use Rattle.label_store.specs.Plans.{stamp_plan}
use Rattle.config_codec.specs.declared.config.KeptState.TheVariants as kept
use Rattle.config_codec.specs.declared.config.LeafConfig.{LeafConfig}
use Rattle.config_codec.specs.declared.config.Pointer.{Pointer}
use Rattle.config_codec.specs.Fields.{Fields}
use Rattle.config_codec.specs.Validity.{IsValid}
use Rattle.pool_core.specs.Commits.{IsStampedFirst, FirstRound, first_failed}
use Rattle.pool_core.specs.Making.{Creates}
use Rattle.pool_core.specs.Opening.{IsCommitted}
use Rattle.pool_core.specs.State.{LeafState, PoolState, Version, leaves}
use Rattle.pool_core.specs.Steps.{MakesOwnRound}
use Rattle.pool_core.proofs.Lists.{replicate_get, replicate_at}

-- the record of a pool that has just been made
abbrev pub new_leaf_config : (member : ℕ) → (name : List ℕ) → LeafConfig
new_leaf_config member name = record { member = record { 0 = member }; name = name; kept = kept.Online; marked = false; log = [] }

abbrev pub new_config : (name : List ℕ) → (pool : Guid) → (blocks : ℕ) → List (Option Pointer) → (sectors : ℕ) → (first second : List ℕ) → Fields
new_config name pool blocks pointers sectors first second = record {
  pool = pool;
  name = name;
  blocks = blocks;
  number = record { 0 = 1 };
  next_member = 4;
  pointers = pointers;
  sectors = sectors;
  mirror = record { 0 = 1 };
  first = new_leaf_config 2 first;
  second = new_leaf_config 3 second;
}

no_pointer : (p : Pointer) → Some p ≡ None → ⊥
no_pointer p e = cc

no_version : (version : Version) → None ≡ Some version → ⊥
no_version version e = cc

pub new_valid : (name : List ℕ) (pool : Guid) (blocks : ℕ) (pointers : List (Option Pointer)) (sectors : ℕ) (first second : List ℕ)
    → 1 ≤ pool.0 → pool.0 < 2 ^ 64 → 0 < blocks → blocks ≤ 32 → pointers ≡ replicate blocks None → 64 ≤ sectors → sectors ≤ 1048320
    → IsTrue (is_name name) → IsTrue (is_name first) → IsTrue (is_name second) → first ≢ second → IsValid (new_config name pool blocks pointers sectors first second)
new_valid name pool blocks pointers sectors first second some fits few few' none least most named first_named second_named two = record {
  pool = (some, omega arith);
  name = named;
  blocks = (few, few');
  number = (omega arith, omega arith);
  next_member = omega arith;
  counted = ap length none ∙ length-replicate blocks None;
  pointers = λ a p e. absurd (no_pointer p (replicate_get blocks a None (Some p) (rw none at e)));
  sectors = (least, most);
  mirror = (omega arith, omega arith);
  first = (omega arith, omega arith);
  second = (omega arith, omega arith);
  not_first = λ e. absurd (omega arith);
  not_second = λ e. absurd (omega arith);
  two_members = λ e. absurd (omega arith);
  first_name = first_named;
  second_name = second_named;
  two_devices = two;
  first_log = tt;
  second_log = tt;
  few_ranges = omega arith;
}

-- nothing is committed by it
pub none_committed : (c : Fields) → c.pointers ≡ replicate c.blocks None → IsCommitted c (λ a. None)
none_committed c is = record {
  pointers = λ a below. rw is (replicate_at c.blocks a None below);
  whole = λ a version block e content. absurd (no_version version e);
}

-- a result that is an error, or not
failed_with : (r : Result (Unit {0}) Fault) → is_err r ≡ true → (fault : Fault) × (fault_in r ≡ Some fault)
failed_with (Ok done) e = absurd cc
failed_with (Err fault) e = (fault, refl)

passed_with : (r : Result (Unit {0}) Fault) → is_err r ≡ false → fault_in r ≡ None
passed_with (Ok done) e = refl
passed_with (Err fault) e = absurd cc

-- A leaf was stamped on a device of a bank of these sizes.
pub record Stamps (size : ℕ → ℕ) (s : PoolState) (leaf : LeafState) (dev : ℕ) (old new : Option Story) (f g : ℕ → ℕ) (outcome : Option Fault) : Type 0 where
  pub part : MakesPart (stamp_plan dev (size dev) s.pool leaf.member) old new f g outcome

pub stamps : {old new : Option Story} {f g : ℕ → ℕ} {outcome : Option Fault} (size : ℕ → ℕ) (s : PoolState) (leaf : LeafState) (dev sectors : ℕ)
    → sectors ≡ size dev → MakesPart (stamp_plan dev sectors s.pool leaf.member) old new f g outcome → Stamps size s leaf dev old new f g outcome
stamps {old} {new} {f} {g} {outcome} size s leaf dev sectors same part =
    record { part = subst (λ n. MakesPart (stamp_plan dev n s.pool leaf.member) old new f g outcome) same part }

-- its stamp failed, or further calls came behind it
stamp_failed : {old new : Option Story} {f g : ℕ → ℕ} (size : ℕ → ℕ) (s : PoolState) (leaf : LeafState) (dev : ℕ) (r : Result (Unit {0}) Fault) (Then : List Noted → Type 0)
    → is_err r ≡ true → (st : Stamps size s leaf dev old new f g (fault_in r)) → IsStampedFirst size s leaf dev st.part.made (Some leaf) Then
stamp_failed size s leaf dev r Then e st =
    let fault = failed_with r e in
    let part = subst (IsPart (stamp_plan dev (size dev) s.pool leaf.member) st.part.made) fault.1 st.part.part in
    (st.part.made, [], Some fault.0, sym (append-nil st.part.made), part, (refl, refl))

stamp_passed : {old new : Option Story} {f g : ℕ → ℕ} (size : ℕ → ℕ) (s : PoolState) (leaf : LeafState) (dev : ℕ) (r : Result (Unit {0}) Fault) (rest : List Noted)
    (failed : Option LeafState) (Then : List Noted → Type 0)
    → is_err r ≡ false → (st : Stamps size s leaf dev old new f g (fault_in r)) → Then rest → IsStampedFirst size s leaf dev (st.part.made ++ rest) failed Then
stamp_passed size s leaf dev r rest failed Then e st more =
    let part = subst (IsPart (stamp_plan dev (size dev) s.pool leaf.member) st.part.made) (passed_with r e) st.part.part in
    (st.part.made, rest, None, refl, part, more)

pub first_fails : {old new : Option Story} {f g : ℕ → ℕ} (size : ℕ → ℕ) (s : PoolState) (seats : ℕ × ℕ) (r : Result (Unit {0}) Fault) → is_err r ≡ true
    → Stamps size s s.first seats.0 old new f g (fault_in r) → Creates size s seats old new f g (Some s.first)
first_fails size s seats r e st = record {
  made = st.part.made;
  calls = st.part.calls;
  are_made = stamp_failed size s s.first seats.0 r _ e st;
}

pub second_fails : {old mid new : Option Story} {f g h : ℕ → ℕ} (size : ℕ → ℕ) (s : PoolState) (seats : ℕ × ℕ) (r r' : Result (Unit {0}) Fault)
    → is_err r ≡ false → is_err r' ≡ true → Stamps size s s.first seats.0 old mid f g (fault_in r) → Stamps size s s.second seats.1 mid new g h (fault_in r')
    → Creates size s seats old new f h (Some s.second)
second_fails {old} {mid} {new} {f} {g} {h} size s seats r r' e e' st st' = record {
  made = st.part.made ++ st'.part.made;
  calls = made_more old mid new f g h st.part.made st'.part.made st.part.calls st'.part.calls;
  are_made = stamp_passed size s s.first seats.0 r st'.part.made (Some s.second) _ e st (stamp_failed size s s.second seats.1 r' _ e' st');
}

pub after_round : {old mid later new : Option Story} {f g h k : ℕ → ℕ} (size size' : ℕ → ℕ) (s : PoolState) (seats : ℕ × ℕ) (r r' : Result (Unit {0}) Fault)
    (results : List Bool) (failed : Option LeafState) → ((d : ℕ) → size' d ≡ size d) → is_err r ≡ false → is_err r' ≡ false
    → Stamps size s s.first seats.0 old mid f g (fault_in r) → Stamps size s s.second seats.1 mid later g h (fault_in r')
    → MakesOwnRound size' s results later new h k → failed ≡ first_failed (leaves s) results → Creates size s seats old new f k failed
after_round {old} {mid} {later} {new} {f} {g} {h} {k} size size' s seats r r' results failed same e e' st st' m is =
    let round = subst (λ n. FirstRound n s m.made failed) (fun_ext same) (results, m.round, is) in
    record {
      made = st.part.made ++ (st'.part.made ++ m.made);
      calls = made_more old mid new f g k st.part.made (st'.part.made ++ m.made) st.part.calls
          (made_more mid later new g h k st'.part.made m.made st'.part.calls m.calls);
      are_made = stamp_passed size s s.first seats.0 r (st'.part.made ++ m.made) failed _ e st (stamp_passed size s s.second seats.1 r' m.made failed _ e' st' round);
    }

-- which leaf left the round first
pub left_first : (s : PoolState) (results : List Bool) (d : Bool) → length results ≡ 2 → get_or results 0 d ≡ false → Some s.first ≡ first_failed (leaves s) results
left_first s [] d two e = absurd (omega arith)
left_first s (true ∷ more) d two e = absurd cc
left_first s (false ∷ more) d two e = refl

pub left_second : (s : PoolState) (results : List Bool) (d : Bool) → length results ≡ 2 → get_or results 0 d ≡ true → get_or results 1 d ≡ false
    → Some s.second ≡ first_failed (leaves s) results
left_second s [] d two e e' = absurd (omega arith)
left_second s (false ∷ more) d two e e' = absurd cc
left_second s (true ∷ []) d two e e' = absurd (omega arith)
left_second s (true ∷ (true ∷ more)) d two e e' = absurd cc
left_second s (true ∷ (false ∷ more)) d two e e' = refl

pub left_none : (s : PoolState) (results : List Bool) (d : Bool) → length results ≡ 2 → get_or results 0 d ≡ true → get_or results 1 d ≡ true
    → None ≡ first_failed (leaves s) results
left_none s [] d two e e' = absurd (omega arith)
left_none s (false ∷ more) d two e e' = absurd cc
left_none s (true ∷ []) d two e e' = absurd (omega arith)
left_none s (true ∷ (false ∷ more)) d two e e' = absurd cc
left_none s (true ∷ (true ∷ [])) d two e e' = refl
left_none s (true ∷ (true ∷ (x ∷ more))) d two e e' = absurd (omega arith)
