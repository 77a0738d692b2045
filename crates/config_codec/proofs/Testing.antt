-- The test of validity tells what is valid.
use Rattle.std.proofs.Common.{◌≡◌, ◌≢◌, ℕ, zero, suc, ◌+◌, ◌-◌, ◌^◌, true, not, List, [], ◌∷◌, length, refl, sym, ap, ◌∙◌, arith, Option, Some, None, subst}
use Rattle.std.specs.Prelude.{nat_le, nat_lt, ◌==◌, ◌/◌, slice_get}
use Rattle.std.specs.List.{list_all, enumerate_from}
use Rattle.std.specs.Str.{bytes_eq}
use Rattle.std.proofs.lemmas.Bool.{leb-true, ltb-true, eqb-true, le-leb, lt-ltb, eq-eqb, and_parts, and_from, not-true, eqb-false, ne_eqb, not_from_false, true≢false, false_from_ne_true}
use Rattle.std.proofs.lemmas.Slice.Eq.{bytes_eq-Decides}
use Rattle.mp_base.specs.Name.{is_name}
use Rattle.mp_base.specs.declared.number.Group.{Group}
use Rattle.mp_base.specs.declared.range.GroupRange.{GroupRange}
use Rattle.config_codec.specs.declared.config.Pointer.{Pointer}
use Rattle.config_codec.specs.Fields.{Fields}
use Rattle.mp_base.specs.Ranges.{Rises}
use Rattle.config_codec.specs.Ranges.{rises}
use Rattle.config_codec.specs.Validity.{IsIn, IsPointer, IsDrawn, IsValid, is_in, is_pointer, is_slot, are_slots, is_drawn, are_in_range, are_drawn, are_distinct, are_names, are_two_devices, are_pointers, are_logs, is_valid}

in_from : (least most n : ℕ) → is_in least most n ≡ true → IsIn least most n
in_from least most n t =
    let p = and_parts (nat_le least n) (nat_le n most) t in
    (leb-true least n p.0, leb-true n most p.1)

in_test : (least most n : ℕ) → IsIn least most n → is_in least most n ≡ true
in_test least most n i = and_from (nat_le least n) (nat_le n most) (le-leb least n i.0) (le-leb n most i.1)

drawn_from : (next m : ℕ) → is_drawn next m ≡ true → IsDrawn next m
drawn_from next m t =
    let p = and_parts (nat_le 1 m) (nat_lt m next) t in
    (leb-true 1 m p.0, ltb-true m next p.1)

drawn_test : (next m : ℕ) → IsDrawn next m → is_drawn next m ≡ true
drawn_test next m i = and_from (nat_le 1 m) (nat_lt m next) (le-leb 1 m i.0) (lt-ltb m next i.1)

pointer_from : (number : Group) (a : ℕ) (p : Pointer) → is_pointer number a p ≡ true → IsPointer number a p
pointer_from number a p t =
    let birth = and_parts (is_in 1 number.0 p.birth.0) _ t in
    let rest = and_parts (p.sector / 2 == a) (length p.sum == 32) birth.1 in
    record { birth = in_from 1 number.0 p.birth.0 birth.0; sector = eqb-true _ _ rest.0; sum = eqb-true _ _ rest.1 }

pointer_test : (number : Group) (a : ℕ) (p : Pointer) → IsPointer number a p → is_pointer number a p ≡ true
pointer_test number a p i =
    and_from (is_in 1 number.0 p.birth.0) _ (in_test 1 number.0 p.birth.0 i.birth)
    (and_from (p.sector / 2 == a) (length p.sum == 32) (eq-eqb _ _ i.sector) (eq-eqb _ _ i.sum))

-- each pointer fits its address, counted from `from`
abbrev FitFrom : Group → ℕ → List (Option Pointer) → Type 0
FitFrom number from slots = (k : ℕ) (p : Pointer) → slice_get slots k ≡ Some (Some p) → IsPointer number (from + k) p

slot_from : (number : Group) (a : ℕ) (slot : Option Pointer) (p : Pointer) → is_slot number a slot ≡ true → slot ≡ Some p → IsPointer number a p
slot_from number a None p t e = absurd cc
slot_from number a (Some q) p t e =
    let same : q ≡ p = cc in
    pointer_from number a p (ap (is_pointer number a) (sym same) ∙ t)

slot_test : (number : Group) (a : ℕ) (slot : Option Pointer) → ((p : Pointer) → slot ≡ Some p → IsPointer number a p) → is_slot number a slot ≡ true
slot_test number a None fit = refl
slot_test number a (Some p) fit = pointer_test number a p (fit p refl)

fit_from : (number : Group) (from : ℕ) (slots : List (Option Pointer)) → list_all (λ slot. is_slot number slot.0 slot.1) (enumerate_from from slots) ≡ true
    → FitFrom number from slots
fit_from number from [] t k p e = absurd cc
fit_from number from (slot ∷ slots) t zero p e =
    let both = and_parts (is_slot number from slot) _ t in
    let here : from ≡ from + 0 = omega arith in
    let is : slot ≡ Some p = cc in
    subst (λ a. IsPointer number a p) here (slot_from number from slot p both.0 is)
fit_from number from (slot ∷ slots) t (suc k) p e =
    let both = and_parts (is_slot number from slot) _ t in
    let there : from + 1 + k ≡ from + suc k = omega arith in
    subst (λ a. IsPointer number a p) there (fit_from number (from + 1) slots both.1 k p e)

fit_test : (number : Group) (from : ℕ) (slots : List (Option Pointer)) → FitFrom number from slots
    → list_all (λ slot. is_slot number slot.0 slot.1) (enumerate_from from slots) ≡ true
fit_test number from [] fit = refl
fit_test number from (slot ∷ slots) fit =
    let here : from + 0 ≡ from = omega arith in
    let first : is_slot number from slot ≡ true = slot_test number from slot (λ p e. subst (λ a. IsPointer number a p) here (fit zero p (ap Some e))) in
    let rest : FitFrom number (from + 1) slots = λ k p e. later number from k p (fit (suc k) p e) in
    and_from (is_slot number from slot) _ first (fit_test number (from + 1) slots rest)
  where
    later : (number : Group) (from k : ℕ) (p : Pointer) → IsPointer number (from + suc k) p → IsPointer number (from + 1 + k) p
    later number from k p i =
        let there : from + suc k ≡ from + 1 + k = omega arith in
        subst (λ a. IsPointer number a p) there i

slots_from : (number : Group) (slots : List (Option Pointer)) → are_slots number slots ≡ true → (a : ℕ) (p : Pointer) → slice_get slots a ≡ Some (Some p) → IsPointer number a p
slots_from number slots t a p e =
    let here : 0 + a ≡ a = omega arith in
    subst (λ k. IsPointer number k p) here (fit_from number 0 slots t a p e)

slots_test : (number : Group) (slots : List (Option Pointer)) → ((a : ℕ) (p : Pointer) → slice_get slots a ≡ Some (Some p) → IsPointer number a p) → are_slots number slots ≡ true
slots_test number slots fit = fit_test number 0 slots (λ k p e. shifted number k p (fit k p e))
  where
    shifted : (number : Group) (k : ℕ) (p : Pointer) → IsPointer number k p → IsPointer number (0 + k) p
    shifted number k p i =
        let here : k ≡ 0 + k = omega arith in
        subst (λ a. IsPointer number a p) here i

differ_from : (a b : ℕ) → not (a == b) ≡ true → a ≢ b
differ_from a b t = eqb-false a b (not-true (a == b) t)

differ_test : (a b : ℕ) → a ≢ b → not (a == b) ≡ true
differ_test a b ne = not_from_false (a == b) (ne_eqb a b ne)

others_from : (a b : List ℕ) → not (bytes_eq a b) ≡ true → a ≢ b
others_from a b t e = true≢false (sym ((bytes_eq-Decides a b).1 e) ∙ not-true (bytes_eq a b) t)

others_test : (a b : List ℕ) → a ≢ b → not (bytes_eq a b) ≡ true
others_test a b ne = not_from_false (bytes_eq a b) (false_from_ne_true (bytes_eq a b) (λ t. ne ((bytes_eq-Decides a b).0 t)))

pub rises_from : (least most : ℕ) (ranges : List GroupRange) → rises least most ranges ≡ true → Rises least most ranges
rises_from least most [] t = tt
rises_from least most (r ∷ ranges) t =
    let low = and_parts (nat_le least r.low.0) _ t in
    let some = and_parts (nat_le r.low.0 r.high.0) _ low.1 in
    let high = and_parts (nat_le r.high.0 most) _ some.1 in
    (leb-true _ _ low.0, leb-true _ _ some.0, leb-true _ _ high.0, rises_from (r.high.0 + 2) most ranges high.1)

pub rises_test : (least most : ℕ) (ranges : List GroupRange) → Rises least most ranges → rises least most ranges ≡ true
rises_test least most [] rise = refl
rises_test least most (r ∷ ranges) rise =
    and_from (nat_le least r.low.0) _ (le-leb _ _ rise.0)
    (and_from (nat_le r.low.0 r.high.0) _ (le-leb _ _ rise.1)
    (and_from (nat_le r.high.0 most) _ (le-leb _ _ rise.2) (rises_test (r.high.0 + 2) most ranges rise.3)))

pub valid_from : (c : Fields) → is_valid c ≡ true → IsValid c
unfolding is_valid
valid_from c t =
    let names = and_parts (are_names c) _ t in
    let name = and_parts (is_name c.name) _ names.0 in
    let leaves = and_parts (is_name c.first.name) _ name.1 in
    let ranges = and_parts (are_in_range c) _ names.1 in
    let pool = and_parts (is_in 1 (2 ^ 64 - 1) c.pool.0) _ ranges.0 in
    let blocks = and_parts (is_in 1 32 c.blocks) _ pool.1 in
    let number = and_parts (is_in 1 (2 ^ 62) c.number.0) _ blocks.1 in
    let next = and_parts (nat_le c.next_member (2 ^ 62)) _ number.1 in
    let drawn = and_parts (are_drawn c) _ ranges.1 in
    let mirror = and_parts (is_drawn c.next_member c.mirror.0) _ drawn.0 in
    let members = and_parts (is_drawn c.next_member c.first.member.0) _ mirror.1 in
    let distinct = and_parts (are_distinct c) _ drawn.1 in
    let not_first = and_parts (not (c.mirror.0 == c.first.member.0)) _ distinct.0 in
    let not_second = and_parts (not (c.mirror.0 == c.second.member.0)) _ not_first.1 in
    let devices = and_parts (are_two_devices c) _ distinct.1 in
    let slots = and_parts (are_pointers c) _ devices.1 in
    let pointers = and_parts (length c.pointers == c.blocks) _ slots.0 in
    let few = and_parts (nat_le (length c.first.log + length c.second.log) 4096) _ slots.1 in
    let logs = and_parts (rises 1 c.number.0 c.first.log) _ few.1 in
    record {
      pool = in_from 1 (2 ^ 64 - 1) c.pool.0 pool.0;
      name = name.0;
      blocks = in_from 1 32 c.blocks blocks.0;
      number = in_from 1 (2 ^ 62) c.number.0 number.0;
      next_member = leb-true _ _ next.0;
      counted = eqb-true _ _ pointers.0;
      pointers = slots_from c.number c.pointers pointers.1;
      sectors = in_from 64 1048320 c.sectors next.1;
      mirror = drawn_from c.next_member c.mirror.0 mirror.0;
      first = drawn_from c.next_member c.first.member.0 members.0;
      second = drawn_from c.next_member c.second.member.0 members.1;
      not_first = differ_from _ _ not_first.0;
      not_second = differ_from _ _ not_second.0;
      two_members = differ_from _ _ not_second.1;
      first_name = leaves.0;
      second_name = leaves.1;
      two_devices = others_from _ _ devices.0;
      first_log = rises_from 1 c.number.0 c.first.log logs.0;
      second_log = rises_from 1 c.number.0 c.second.log logs.1;
      few_ranges = leb-true _ _ few.0;
    }

pub valid_test : (c : Fields) → IsValid c → is_valid c ≡ true
unfolding is_valid
valid_test c v =
    let names : are_names c ≡ true = and_from (is_name c.name) _ v.name (and_from (is_name c.first.name) _ v.first_name v.second_name) in
    let ranges : are_in_range c ≡ true =
    and_from (is_in 1 (2 ^ 64 - 1) c.pool.0) _ (in_test 1 (2 ^ 64 - 1) c.pool.0 v.pool)
    (and_from (is_in 1 32 c.blocks) _ (in_test 1 32 c.blocks v.blocks)
    (and_from (is_in 1 (2 ^ 62) c.number.0) _ (in_test 1 (2 ^ 62) c.number.0 v.number)
    (and_from (nat_le c.next_member (2 ^ 62)) _ (le-leb _ _ v.next_member) (in_test 64 1048320 c.sectors v.sectors)))) in
    let drawn : are_drawn c ≡ true =
    and_from (is_drawn c.next_member c.mirror.0) _ (drawn_test c.next_member c.mirror.0 v.mirror)
    (and_from (is_drawn c.next_member c.first.member.0) _ (drawn_test c.next_member c.first.member.0 v.first)
    (drawn_test c.next_member c.second.member.0 v.second)) in
    let distinct : are_distinct c ≡ true =
    and_from (not (c.mirror.0 == c.first.member.0)) _ (differ_test _ _ v.not_first)
    (and_from (not (c.mirror.0 == c.second.member.0)) _ (differ_test _ _ v.not_second) (differ_test _ _ v.two_members)) in
    let devices : are_two_devices c ≡ true = others_test _ _ v.two_devices in
    let pointers : are_pointers c ≡ true = and_from (length c.pointers == c.blocks) _ (eq-eqb _ _ v.counted) (slots_test c.number c.pointers v.pointers) in
    let logs : are_logs c ≡ true =
    and_from (nat_le (length c.first.log + length c.second.log) 4096) _ (le-leb _ _ v.few_ranges)
    (and_from (rises 1 c.number.0 c.first.log) _ (rises_test 1 c.number.0 c.first.log v.first_log) (rises_test 1 c.number.0 c.second.log v.second_log)) in
    and_from (are_names c) _ names (and_from (are_in_range c) _ ranges (and_from (are_drawn c) _ drawn
    (and_from (are_distinct c) _ distinct (and_from (are_two_devices c) _ devices (and_from (are_pointers c) _ pointers logs)))))
