-- The configuration that a pool keeps is that of the state that it stands for, and its round writes it.
use Rattle.std.proofs.Common.{◌≡◌, ℕ, ◌+◌, ◌-◌, ◌*◌, ◌<◌, ◌≤◌, Bool, List, ◌++◌, Option, length, take, refl, arith, sym, ◌∙◌, ap, length-append, subst}
use Rattle.std.proofs.Math.Path.{fun_ext}
use Rattle.std.proofs.Math.Seq.{take-append_seam, take-append-add, drop-append_seam}
use Rattle.std.proofs.lemmas.List.{take-replicate}
use Rattle.std.specs.Int.{div_ceil}
use Rattle.std.specs.Option.{option_map}
use Rattle.mp_base.specs.Block.{zeros}
use Rattle.mp_base.specs.declared.number.Group.{Group}
use Rattle.mp_base.specs.declared.number.Guid.{Guid}
use Rattle.bank_core.specs.Disk.{sector_size}
use Rattle.bank_core.specs.BankView.{BankView}
use Rattle.bank_core.specs.Story.{Story}
use Rattle.label_store.specs.declared.member.Member.{Member}
use Rattle.label_store.specs.Committing.{IsSealed, Commits}
use Rattle.label_store.specs.Records.{IsHeaded}
use Rattle.label_store.specs.Rounds.{Commit, IsRound}
use Rattle.config_codec.specs.Fields.{Fields}
use Rattle.config_codec.specs.Spelling.{config_bytes}
use Rattle.config_codec.specs.Validity.{IsValid}
use Rattle.config_codec.proofs.Deciding.{back, fits_part, some}
use Rattle.config_codec.proofs.Placing.{length-zeros}
use Rattle.config_codec.proofs.Returning.{same_fields}
use Rattle.vdev_tree.specs.declared.vdev.LeafVdev.{LeafVdev}
use Rattle.pool_core.specs.declared.pool.Pool.{Pool}
use Rattle.pool_core.specs.Heads.{head_of, head_from}
use Rattle.pool_core.specs.Keeping.{Represents, IsLeaf}
use Rattle.pool_core.specs.Pairs.{leaf_fields}
use Rattle.pool_core.specs.Recorded.{pointer_of, pointers_of, leaf_config, fields_in, padding, sealed, commit_for}
use Rattle.pool_core.specs.State.{LeafState, PoolState, board}
use Rattle.pool_core.specs.Steps.{MakesRoundOf, MakesOwnRound}
use Rattle.pool_core.proofs.Lists.{all_addresses}
use Rattle.pool_core.proofs.Validating.{pool_fields, pool_valid}

pointers_are : (pool : Pool) (s : PoolState) → Represents pool s → pointers_of s.committed s.blocks ≡ pool.pointers.items
pointers_are pool s r =
    all_addresses pool.pointers.items (λ a. option_map pointer_of (s.committed a)) s.blocks ((pool_valid pool).counted ∙ sym r.blocks) r.committed

leaf_is : (n : ℕ) (v : LeafVdev) (leaf : LeafState) → IsLeaf v leaf → leaf_config n leaf ≡ leaf_fields n v
leaf_is n v leaf is = rw (is.member, is.name, is.state, is.temporary, is.marked, fun_ext is.owes) refl

pub fields_are : (pool : Pool) (s : PoolState) → Represents pool s → fields_in s ≡ pool_fields pool
fields_are pool s r = same_fields _ _ _ _ _ _ _ _ _ _ _ _ _ _ _ _ _ _ _ _
    (ap (λ g. g.0) r.pool_is) r.name r.blocks r.number r.next_member (pointers_are pool s r) r.pair.sectors (ap (λ g. g.0) r.pair.mirror)
    (leaf_is s.number pool.pair.first s.first r.pair.first ∙ ap (λ n. leaf_fields n pool.pair.first) r.number)
    (leaf_is s.number pool.pair.second s.second r.pair.second ∙ ap (λ n. leaf_fields n pool.pair.second) r.number)

-- whole sectors that begin with these bytes
length-sealed : (bytes : List ℕ) → length (sealed bytes) ≡ length bytes + padding (length bytes)
length-sealed bytes = length-append bytes (zeros (padding (length bytes))) ∙ ap (λ n. length bytes + n) (length-zeros (padding (length bytes)))

sealed_whole : (bytes : List ℕ) → 0 < length bytes → length bytes ≤ 114688 → IsSealed (sealed bytes) (length bytes)
unfolding sector_size
sealed_whole bytes some fits =
    let long = length-sealed bytes in
    record {
      whole = omega (arith, long);
      most = omega (arith, long);
      some = some;
      within = omega (arith, long);
      last = omega (arith, long);
      rest = drop-append_seam bytes (zeros (padding (length bytes))) ∙ ap zeros (omega (arith, long));
    }

-- the sectors that such bytes reach into, of a part that zeros fill
cut_sealed : (bytes : List ℕ) (n : ℕ) → length bytes ≤ 114688 → n ≡ div_ceil (length bytes) 4096
    → take (n * 4096) (bytes ++ zeros (114688 - length bytes)) ≡ sealed bytes
unfolding zeros
cut_sealed bytes n fits is =
    let whole : n * 4096 ≡ length bytes + padding (length bytes) = omega arith in
    let less : padding (length bytes) ≤ 114688 - length bytes = omega arith in
    ap (λ m. take m (bytes ++ zeros (114688 - length bytes))) whole
    ∙ take-append-add bytes (zeros (114688 - length bytes)) (padding (length bytes))
    ∙ ap (λ tail. bytes ++ tail) (take-replicate (padding (length bytes)) (114688 - length bytes) 0 less)

-- What was encoded of these fields, cut to whole sectors.
pub record IsCut (c : Fields) (out : List ℕ) (n : ℕ) : Type 0 where
  pub out_is : out ≡ sealed (config_bytes c)
  pub n_is : n ≡ length (config_bytes c)

pub is_cut : (c : Fields) (part : List ℕ) (n sectors : ℕ) → IsValid c → part ≡ config_bytes c ++ zeros (114688 - length (config_bytes c))
    → n ≡ length (config_bytes c) → sectors ≡ div_ceil n 4096 → IsCut c (take (sectors * 4096) part) n
is_cut c part n sectors v bytes stop are = record {
  out_is = ap (take (sectors * 4096)) bytes ∙ cut_sealed (config_bytes c) sectors (fits_part c v) (are ∙ ap (λ m. div_ceil m 4096) stop);
  n_is = stop;
}

pub cut_sealed_is : (c : Fields) (out : List ℕ) (n : ℕ) → IsValid c → IsCut c out n → IsSealed out n
cut_sealed_is c out n v cut = rw (cut.out_is, cut.n_is) (sealed_whole (config_bytes c) (some c v) (fits_part c v))

headed_is : (c : Fields) → IsValid c → IsHeaded head_of c.pool c.number (take (length (config_bytes c)) (sealed (config_bytes c)))
headed_is c v = record {
  head = head_from c;
  reads = ap head_of (take-append_seam (config_bytes c) (zeros (padding (length (config_bytes c))))) ∙ ap (option_map head_from) (back c v);
  pool_is = refl;
  number_is = refl;
}

pub cut_headed : (c : Fields) (out : List ℕ) (n : ℕ) → IsValid c → IsCut c out n → IsHeaded head_of c.pool c.number (take n out)
cut_headed c out n v cut = rw (cut.out_is, cut.n_is) (headed_is c v)

abbrev commit_with : Guid → Group → List ℕ → ℕ → Commit
commit_with pool number blob length = record { pool = pool; number = number; blob = blob; length = length }

-- a round of what was encoded is one of the configuration's record
pub cut_round : {old new : BankView} {results : List Bool} {members : List Member} (size : ℕ → ℕ) (c : Fields) (out : List ℕ) (n : ℕ)
    → IsCut c out n → Commits head_of size (record { pool = c.pool; number = c.number; blob = out; length = n }) members results old new
    → MakesRoundOf size c members results old.told new.told old.faults new.faults
cut_round {old} {new} {results} {members} size c out n cut commits =
    let is = ap (λ b. commit_with c.pool c.number b n) cut.out_is ∙ ap (commit_with c.pool c.number (sealed (config_bytes c))) cut.n_is in
    record { made = commits.made; calls = commits.calls.calls; round = subst (λ k. IsRound size k members results commits.made) is commits.round }

-- a round of the pool's configuration is one of the record of the state that it stands for
pub own_round : {old new : Option Story} {before after : ℕ → ℕ} {results : List Bool} (size : ℕ → ℕ) (pool : Pool) (s : PoolState) (f : Fields) (members : List Member)
    → Represents pool s → f ≡ pool_fields pool → members ≡ board s → MakesRoundOf size f members results old new before after
    → MakesOwnRound size s results old new before after
own_round {old} {new} {before} {after} {results} size pool s f members r same are m = record {
  made = m.made;
  calls = m.calls;
  round = subst (λ c. IsRound size (commit_for c) (board s) results m.made) (same ∙ sym (fields_are pool s r))
      (subst (λ some. IsRound size (commit_for f) some results m.made) are m.round);
}

pub parts_valid : (pool : Pool) (f : Fields) → f ≡ pool_fields pool → IsValid f
parts_valid pool f is = rw is (pool_valid pool)
