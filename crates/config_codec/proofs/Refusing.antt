-- The fields that were read, and bytes that are no configuration.
use Rattle.std.proofs.Common.{◌≡◌, ℕ, ◌*◌, ◌<◌, true, false, ◌&&◌, List, length, drop, sym, ap, ◌∙◌, arith, Option, Result, Ok, Err}
use Rattle.std.specs.Prelude.{IsErrAnd, IsErrOf}
use Rattle.std.proofs.lemmas.Bool.{and_left, and_from, le-leb, true≢false, false_from_ne_true}
use Rattle.mp_base.specs.Name.{is_name}
use Rattle.config_codec.specs.declared.config.LeafConfig.{LeafConfig}
use Rattle.config_codec.specs.declared.config.Pointer.{Pointer}
use Rattle.config_codec.specs.declared.unread.Unread.{Unread}
use Rattle.config_codec.specs.Fields.{Fields}
use Rattle.config_codec.specs.Validity.{is_valid, are_names, may_stand}
use Rattle.config_codec.specs.Reading.{number_in, text_in, pointers_in, leaf_in, from_pool, from_name, from_blocks, from_number, from_next_member, from_pointers, from_tops, from_sectors, from_mirror, from_first, from_second, fields_of}
use Rattle.config_codec.proofs.Returning.{fields_with, same_fields}
use Rattle.config_codec.proofs.Testing.{valid_from}

pub tops_read : (bytes after tops : List ℕ) (blocks : ℕ) → blocks ≡ number_in (from_blocks bytes) → after ≡ from_pointers bytes → tops ≡ drop (52 * blocks) after → tops ≡ from_tops bytes
tops_read bytes after tops blocks e f g = g ∙ ap (drop (52 * blocks)) f ∙ ap (λ n. drop (52 * n) (from_pointers bytes)) e

pub fields_read : (bytes after tops : List ℕ) (pool : ℕ) (name : List ℕ) (blocks number next_member : ℕ) (pointers : List (Option Pointer)) (sectors mirror : ℕ) (first second : LeafConfig)
    → pool ≡ number_in (from_pool bytes) → name ≡ text_in (from_name bytes) → blocks ≡ number_in (from_blocks bytes) → number ≡ number_in (from_number bytes)
    → next_member ≡ number_in (from_next_member bytes) → after ≡ from_pointers bytes → pointers ≡ pointers_in blocks after → tops ≡ from_tops bytes
    → sectors ≡ number_in (from_sectors tops) → mirror ≡ number_in (from_mirror tops) → first ≡ leaf_in (from_first tops) → second ≡ leaf_in (from_second tops)
    → fields_with pool name blocks number next_member pointers sectors mirror first second ≡ fields_of bytes
unfolding fields_of
fields_read bytes after tops pool name blocks number next_member pointers sectors mirror first second e1 e2 e3 e4 e5 e6 e7 e8 e9 e10 e11 e12 =
    same_fields _ _ _ _ _ _ _ _ _ _ _ _ _ _ _ _ _ _ _ _ e1 e2 e3 e4 e5
    (e7 ∙ ap (pointers_in blocks) e6 ∙ ap (λ n. pointers_in n (from_pointers bytes)) e3)
    (e9 ∙ ap (λ s. number_in (from_sectors s)) e8) (e10 ∙ ap (λ s. number_in (from_mirror s)) e8)
    (e11 ∙ ap (λ s. leaf_in (from_first s)) e8) (e12 ∙ ap (λ s. leaf_in (from_second s)) e8)

pub too_many : (bytes : List ℕ) (blocks : ℕ) → blocks ≡ number_in (from_blocks bytes) → 32 < blocks → is_valid (fields_of bytes) ≡ false
unfolding fields_of
too_many bytes blocks e over =
    false_from_ne_true (is_valid (fields_of bytes)) (λ t. omega (arith, (valid_from (fields_of bytes) t).blocks.1))

pub pool_unnamed : (bytes name : List ℕ) → name ≡ text_in (from_name bytes) → is_name name ≡ false → is_valid (fields_of bytes) ≡ false
unfolding is_valid fields_of
pool_unnamed bytes name e bad =
    let no : is_name (fields_of bytes).name ≡ false = ap is_name (sym e) ∙ bad in
    and_left (are_names (fields_of bytes)) _ (and_left (is_name (fields_of bytes).name) _ no)

-- the leaves of what is valid
leaves_stand : (c : Fields) → is_valid c ≡ true → (may_stand c.first && may_stand c.second) ≡ true
leaves_stand c t =
    let v = valid_from c t in
    and_from (may_stand c.first) _
    (and_from (is_name c.first.name) _ v.first_name (le-leb (length c.first.log) 4096 (omega (arith, v.few_ranges))))
    (and_from (is_name c.second.name) _ v.second_name (le-leb (length c.second.log) 4096 (omega (arith, v.few_ranges))))

pub no_leaves : (bytes tops : List ℕ) → tops ≡ from_tops bytes → (may_stand (leaf_in (from_first tops)) && may_stand (leaf_in (from_second tops))) ≡ false
    → is_valid (fields_of bytes) ≡ false
unfolding fields_of
no_leaves bytes tops e bad =
    let no : (may_stand (leaf_in (from_first (from_tops bytes))) && may_stand (leaf_in (from_second (from_tops bytes)))) ≡ false =
    ap (λ s. may_stand (leaf_in (from_first s)) && may_stand (leaf_in (from_second s))) (sym e) ∙ bad in
    false_from_ne_true (is_valid (fields_of bytes)) (λ t. true≢false (sym (leaves_stand (fields_of bytes) t) ∙ no))

-- what an error says, it says of the error that it became
pub handed_on : {Y : Type 0} (fault e : Unread) (r : Result Y Unread) → IsErrAnd r (λ f. f ≡ fault) → IsErrOf r e → fault ≡ e
handed_on fault e (Ok y) is of = absurd is
handed_on fault e (Err f) is of =
    let same : f ≡ e = cc in
    sym is ∙ same
