-- Laws of lines: what is read is in the grammar, and what is in the grammar is read.
use Rattle.std.proofs.Common.{◌≡◌, ℕ, Bool, true, false, inl, inr, List, [], ◌∷◌, ◌++◌, length, Some, None, Result, Ok, Err, refl, sym, ap, ◌∙◌, arith}
use Rattle.std.specs.Prelude.{◌==◌, codes, IfOk, IsErrOf, IsTrue}
use Rattle.std.specs.Str.{bytes_eq}
use Rattle.std.proofs.lemmas.Bool.{cases_Bool, eqb-true, ne_eqb}
use Rattle.std.proofs.lemmas.Option.{same_Some}
use Rattle.mp_base.specs.Name.{is_name}
use Rattle.pool_wire.specs.declared.request.Request.{Request}
use Rattle.pool_wire.specs.declared.request.Request.TheVariants.{Nothing, Create, Import, Write, Read, Sync, Offline, Online, Logs}
use Rattle.pool_wire.specs.declared.request.LineFault.{LineFault}
use Rattle.pool_wire.specs.declared.request.LineFault.TheVariants.{Bad, Memory}
use Rattle.pool_wire.specs.Grammar.{Asks}
use Rattle.pool_wire.specs.Reading.{Gives, after_word, away_of, create_of, cut_word, data_of, import_of, leaf_in, leaf_verb_of, logs_of, name_of, number_of, offline_of, online_of, read_of, request_of, sync_of, verb_of, write_of}
use Rattle.pool_wire.specs.Words.{IsData, IsNumber}
use Rattle.pool_wire.proofs.Cuts.{after_found, bind_some, chosen, cut_again, cut_found, is_plain, mirror_again, name_again, name_found, name_plain, same_bytes}
use Rattle.pool_wire.proofs.Numbers.{number_again, number_found, number_plain}
use Rattle.pool_wire.proofs.Pairs.{data_again, data_found}

-- ---- what is read is in the grammar

-- a text that was cut behind a name
named : (text name : List ℕ) (cut : List ℕ × List ℕ) → cut_word text ≡ Some cut → name_of cut.0 ≡ Some name
    → IsTrue (is_name name) × (text ≡ name ++ (32 ∷ cut.1))
named text name cut e read =
    let n = name_found cut.0 name read in
    (n.0, cut_found text cut e ∙ ap (λ w. w ++ (32 ∷ cut.1)) n.1)

sync_found : (text : List ℕ) (r : Request) → sync_of text ≡ Some r → Asks (codes "sync " ++ text) r
unfolding sync_of
sync_found text r e =
    let name = bind_some (name_of text) _ r e in
    let n = name_found text name.0 name.1 in
    rw (← same_Some _ _ name.2) (n.0, ap (λ t. codes "sync " ++ t) n.1)

import_found : (text : List ℕ) (r : Request) → import_of text ≡ Some r → Asks (codes "import " ++ text) r
unfolding import_of
import_found text r e =
    let name = bind_some (name_of text) _ r e in
    let n = name_found text name.0 name.1 in
    rw (← same_Some _ _ name.2) (n.0, ap (λ t. codes "import " ++ t) n.1)

read_found : (text : List ℕ) (r : Request) → read_of text ≡ Some r → Asks (codes "read " ++ text) r
unfolding read_of
read_found text r e =
    let cut = bind_some (cut_word text) _ r e in
    let name = bind_some (name_of cut.0.0) _ r cut.2 in
    let number = bind_some (number_of cut.0.1) _ r name.2 in
    let n = named text name.0 cut.0 cut.1 name.1 in
    rw (← same_Some _ _ number.2) (
      cut.0.1,
      n.0,
      number_found cut.0.1 number.0 number.1,
      ap (λ t. codes "read " ++ t) n.1,
    )

write_found : (text : List ℕ) (r : Request) → write_of text ≡ Some r → Asks (codes "write " ++ text) r
unfolding write_of
write_found text r e =
    let cut = bind_some (cut_word text) _ r e in
    let behind = bind_some (cut_word cut.0.1) _ r cut.2 in
    let name = bind_some (name_of cut.0.0) _ r behind.2 in
    let number = bind_some (number_of behind.0.0) _ r name.2 in
    let block = bind_some (data_of behind.0.1) _ r number.2 in
    let n = named text name.0 cut.0 cut.1 name.1 in
    let rest = cut_found cut.0.1 behind.0 behind.1 in
    rw (← same_Some _ _ block.2) (
      behind.0.0,
      behind.0.1,
      n.0,
      number_found behind.0.0 number.0 number.1,
      data_found behind.0.1 block.0 block.1,
      ap (λ t. codes "write " ++ t) (n.1 ∙ ap (λ t. name.0 ++ (32 ∷ t)) rest),
    )

create_found : (text : List ℕ) (r : Request) → create_of text ≡ Some r → Asks (codes "create " ++ text) r
unfolding create_of
create_found text r e =
    let cut = bind_some (cut_word text) _ r e in
    let behind = bind_some (cut_word cut.0.1) _ r cut.2 in
    let devices = bind_some (after_word (codes "mirror") behind.0.1) _ r behind.2 in
    let pair = bind_some (cut_word devices.0) _ r devices.2 in
    let name = bind_some (name_of cut.0.0) _ r pair.2 in
    let number = bind_some (number_of behind.0.0) _ r name.2 in
    let first = bind_some (name_of pair.0.0) _ r number.2 in
    let second = bind_some (name_of pair.0.1) _ r first.2 in
    let n = named text name.0 cut.0 cut.1 name.1 in
    let rest = cut_found cut.0.1 behind.0 behind.1 in
    let mirror = after_found (codes "mirror") behind.0.1 devices.0 devices.1 in
    let one = named devices.0 first.0 pair.0 pair.1 first.1 in
    let two = name_found pair.0.1 second.0 second.1 in
    let names : devices.0 ≡ first.0 ++ (32 ∷ second.0) = one.1 ∙ ap (λ t. first.0 ++ (32 ∷ t)) two.1 in
    rw (← same_Some _ _ second.2) (
      behind.0.0,
      n.0,
      number_found behind.0.0 number.0 number.1,
      one.0,
      two.0,
      ap (λ t. codes "create " ++ t) (n.1 ∙ ap (λ t. name.0 ++ (32 ∷ t)) (rest
          ∙ ap (λ t. behind.0.0 ++ (32 ∷ t)) (mirror ∙ ap (λ t. codes "mirror " ++ t) names))),
    )

leaf_found : (text : List ℕ) (leaf : List ℕ × List ℕ) → leaf_in text ≡ Some leaf
    → IsTrue (is_name leaf.0) × IsTrue (is_name leaf.1) × (text ≡ leaf.0 ++ (32 ∷ leaf.1))
unfolding leaf_in
leaf_found text leaf e =
    let cut = bind_some (cut_word text) _ leaf e in
    let pool = bind_some (name_of cut.0.0) _ leaf cut.2 in
    let device = bind_some (name_of cut.0.1) _ leaf pool.2 in
    let n = named text pool.0 cut.0 cut.1 pool.1 in
    let d = name_found cut.0.1 device.0 device.1 in
    rw (← same_Some _ _ device.2) (n.0, d.0, n.1 ∙ ap (λ t. pool.0 ++ (32 ∷ t)) d.1)

away_found : (temporary : Bool) (text : List ℕ) (r : Request) → away_of temporary text ≡ Some r
    → (leaf : List ℕ × List ℕ) × IsTrue (is_name leaf.0) × IsTrue (is_name leaf.1) × (text ≡ leaf.0 ++ (32 ∷ leaf.1))
    × (Offline leaf.0 leaf.1 temporary ≡ r)
unfolding away_of
away_found temporary text r e =
    let leaf = bind_some (leaf_in text) _ r e in
    let l = leaf_found text leaf.0 leaf.1 in
    (leaf.0, l.0, l.1, l.2, same_Some _ _ leaf.2)

offline_found : (text : List ℕ) (r : Request) → offline_of text ≡ Some r → Asks (codes "offline " ++ text) r
unfolding offline_of
offline_found text r e =
    let cut = bind_some (cut_word text) _ r e in
    elim (chosen (bytes_eq cut.0.0 (codes "-t")) (away_of true cut.0.1) (away_of false text) _ cut.2) [
      | inl flag ↦
          let a = away_found true cut.0.1 r flag.1 in
          let behind = cut_found text cut.0 cut.1 ∙ ap (λ w. w ++ (32 ∷ cut.0.1)) (same_bytes cut.0.0 (codes "-t") flag.0) in
          rw (← a.4) (a.1, a.2, ap (λ t. codes "offline " ++ t) (behind ∙ ap (λ t. codes "-t " ++ t) a.3))
      | inr none ↦
          let a = away_found false text r none.1 in
          rw (← a.4) (a.1, a.2, ap (λ t. codes "offline " ++ t) a.3)
    ]

online_found : (text : List ℕ) (r : Request) → online_of text ≡ Some r → Asks (codes "online " ++ text) r
unfolding online_of
online_found text r e =
    let leaf = bind_some (leaf_in text) _ r e in
    let l = leaf_found text leaf.0 leaf.1 in
    rw (← same_Some _ _ leaf.2) (l.0, l.1, ap (λ t. codes "online " ++ t) l.2)

logs_found : (text : List ℕ) (r : Request) → logs_of text ≡ Some r → Asks (codes "logs " ++ text) r
unfolding logs_of
logs_found text r e =
    let name = bind_some (name_of text) _ r e in
    let n = name_found text name.0 name.1 in
    rw (← same_Some _ _ name.2) (n.0, ap (λ t. codes "logs " ++ t) n.1)

leaf_verb_found : (verb text : List ℕ) (r : Request) → leaf_verb_of verb text ≡ Some r → Asks (verb ++ 32 ∷ text) r
unfolding leaf_verb_of
leaf_verb_found verb text r e =
    elim (chosen (bytes_eq verb (codes "offline")) (offline_of text) _ _ e) [
      | inl f ↦ rw (same_bytes verb (codes "offline") f.0) (offline_found text r f.1)
      | inr n1 ↦ elim (chosen (bytes_eq verb (codes "online")) (online_of text) _ _ n1.1) [
        | inl o ↦ rw (same_bytes verb (codes "online") o.0) (online_found text r o.1)
        | inr n2 ↦ elim (chosen (bytes_eq verb (codes "logs")) (logs_of text) None _ n2.1) [
          | inl l ↦ rw (same_bytes verb (codes "logs") l.0) (logs_found text r l.1)
          | inr n3 ↦ cc n3.1
        ]
      ]
    ]

verb_found : (verb text : List ℕ) (r : Request) → verb_of verb text ≡ Some r → Asks (verb ++ 32 ∷ text) r
unfolding verb_of
verb_found verb text r e =
    elim (chosen (bytes_eq verb (codes "create")) (create_of text) _ _ e) [
      | inl c ↦ rw (same_bytes verb (codes "create") c.0) (create_found text r c.1)
      | inr n1 ↦ elim (chosen (bytes_eq verb (codes "import")) (import_of text) _ _ n1.1) [
        | inl i ↦ rw (same_bytes verb (codes "import") i.0) (import_found text r i.1)
        | inr n2 ↦ elim (chosen (bytes_eq verb (codes "write")) (write_of text) _ _ n2.1) [
          | inl w ↦ rw (same_bytes verb (codes "write") w.0) (write_found text r w.1)
          | inr n3 ↦ elim (chosen (bytes_eq verb (codes "read")) (read_of text) _ _ n3.1) [
            | inl d ↦ rw (same_bytes verb (codes "read") d.0) (read_found text r d.1)
            | inr n4 ↦ elim (chosen (bytes_eq verb (codes "sync")) (sync_of text) _ _ n4.1) [
              | inl s ↦ rw (same_bytes verb (codes "sync") s.0) (sync_found text r s.1)
              | inr n5 ↦ leaf_verb_found verb text r n5.1
            ]
          ]
        ]
      ]
    ]

-- a line with a byte is not empty
some_byte : (b : ℕ) (bs : List ℕ) → (length (b ∷ bs) == 0) ≡ false
some_byte b bs = ne_eqb _ _ (λ h. absurd (omega arith))

pub request_found : (line : List ℕ) (r : Request) → request_of line ≡ Some r → Asks line r
unfolding request_of
request_found [] r e = rw (← same_Some _ _ e) (inl refl)
request_found (b ∷ bs) r e =
    elim (chosen (b == 35) (Some Nothing) _ _ (rw (some_byte b bs) at e)) [
      | inl remark ↦ rw (← same_Some _ _ remark.1) (inr (bs, ap (λ c. c ∷ bs) (eqb-true b 35 remark.0)))
      | inr other ↦
          let cut = bind_some (cut_word (b ∷ bs)) _ r other.1 in
          rw (cut_found (b ∷ bs) cut.0 cut.1) (verb_found cut.0.0 cut.0.1 r cut.2)
    ]

-- ---- what is in the grammar is read

sync_again : (pool : List ℕ) → IsTrue (is_name pool) → sync_of pool ≡ Some (Sync pool)
unfolding sync_of
sync_again pool is = rw (name_again pool is) refl

import_again : (pool : List ℕ) → IsTrue (is_name pool) → import_of pool ≡ Some (Import pool)
unfolding import_of
import_again pool is = rw (name_again pool is) refl

read_again : (pool number : List ℕ) (address : ℕ) → IsTrue (is_name pool) → IsNumber number address
    → read_of (pool ++ (32 ∷ number)) ≡ Some (Read pool address)
unfolding read_of
read_again pool number address is of =
    rw (cut_again pool number (name_plain pool is), name_again pool is, number_again number address of) refl

write_again : (pool number text block : List ℕ) (address : ℕ) → IsTrue (is_name pool) → IsNumber number address → IsData text block
    → write_of (pool ++ (32 ∷ (number ++ (32 ∷ text)))) ≡ Some (Write pool address block)
unfolding write_of
write_again pool number text block address is of data_is =
    rw (
      cut_again pool (number ++ (32 ∷ text)) (name_plain pool is),
      cut_again number text (number_plain number address of),
      name_again pool is,
      number_again number address of,
      data_again text block data_is,
    ) refl

create_again : (pool number first second : List ℕ) (blocks : ℕ) → IsTrue (is_name pool) → IsNumber number blocks
    → IsTrue (is_name first) → IsTrue (is_name second)
    → create_of (pool ++ (32 ∷ (number ++ (32 ∷ (codes "mirror " ++ (first ++ (32 ∷ second))))))) ≡ Some (Create pool blocks first second)
unfolding create_of
create_again pool number first second blocks is of one two =
    rw (
      cut_again pool (number ++ (32 ∷ (codes "mirror " ++ (first ++ (32 ∷ second))))) (name_plain pool is),
      cut_again number (codes "mirror " ++ (first ++ (32 ∷ second))) (number_plain number blocks of),
      mirror_again (first ++ (32 ∷ second)),
      cut_again first second (name_plain first one),
      name_again pool is,
      number_again number blocks of,
      name_again first one,
      name_again second two,
    ) refl

leaf_again : (pool device : List ℕ) → IsTrue (is_name pool) → IsTrue (is_name device)
    → leaf_in (pool ++ (32 ∷ device)) ≡ Some (pool, device)
unfolding leaf_in
leaf_again pool device is one =
    rw (cut_again pool device (name_plain pool is), name_again pool is, name_again device one) refl

away_again : (temporary : Bool) (pool device : List ℕ) → IsTrue (is_name pool) → IsTrue (is_name device)
    → away_of temporary (pool ++ (32 ∷ device)) ≡ Some (Offline pool device temporary)
unfolding away_of
away_again temporary pool device is one = rw (leaf_again pool device is one) refl

temporary_again : (pool device : List ℕ) → IsTrue (is_name pool) → IsTrue (is_name device)
    → offline_of (codes "-t " ++ (pool ++ (32 ∷ device))) ≡ Some (Offline pool device true)
unfolding offline_of
temporary_again pool device is one =
    rw (cut_again (codes "-t") (pool ++ (32 ∷ device)) refl) (away_again true pool device is one)

-- the word `-t` is no name
name_no_flag : (name : List ℕ) → IsTrue (is_name name) → bytes_eq name (codes "-t") ≡ false
name_no_flag name is =
    elim (cases_Bool (bytes_eq name (codes "-t"))) [
      | inl flag ↦ cc (rw (same_bytes name (codes "-t") flag) at is)
      | inr other ↦ other
    ]

lasting_again : (pool device : List ℕ) → IsTrue (is_name pool) → IsTrue (is_name device)
    → offline_of (pool ++ (32 ∷ device)) ≡ Some (Offline pool device false)
unfolding offline_of
lasting_again pool device is one =
    rw (cut_again pool device (name_plain pool is), name_no_flag pool is) (away_again false pool device is one)

online_again : (pool device : List ℕ) → IsTrue (is_name pool) → IsTrue (is_name device)
    → online_of (pool ++ (32 ∷ device)) ≡ Some (Online pool device)
unfolding online_of
online_again pool device is one = rw (leaf_again pool device is one) refl

logs_again : (pool : List ℕ) → IsTrue (is_name pool) → logs_of pool ≡ Some (Logs pool)
unfolding logs_of
logs_again pool is = rw (name_again pool is) refl

-- a line of a verb is read as what stands behind it
pub line_again : (b : ℕ) (bs line text : List ℕ) (r : Request) → (b == 35) ≡ false → is_plain (b ∷ bs) ≡ true
    → line ≡ (b ∷ bs) ++ 32 ∷ text → verb_of (b ∷ bs) text ≡ Some r → request_of line ≡ Some r
unfolding request_of
line_again b bs line text r mark plain line_is read =
    rw (line_is, some_byte b (bs ++ 32 ∷ text), mark, cut_again (b ∷ bs) text plain) read

pub request_again : (line : List ℕ) (r : Request) → Asks line r → request_of line ≡ Some r
unfolding request_of verb_of leaf_verb_of
request_again line Nothing (inl empty) = rw empty refl
request_again line Nothing (inr remark) = rw (remark.1, some_byte 35 remark.0) refl
request_again line (Create pool blocks first second) a =
    line_again 99 (codes "reate") line _ _ refl refl a.5 (create_again pool a.0 first second blocks a.1 a.2 a.3 a.4)
request_again line (Import pool) a =
    line_again 105 (codes "mport") line _ _ refl refl a.1 (import_again pool a.0)
request_again line (Write pool address block) a =
    line_again 119 (codes "rite") line _ _ refl refl a.5 (write_again pool a.0 a.1 block address a.2 a.3 a.4)
request_again line (Read pool address) a =
    line_again 114 (codes "ead") line _ _ refl refl a.3 (read_again pool a.0 address a.1 a.2)
request_again line (Sync pool) a =
    line_again 115 (codes "ync") line _ _ refl refl a.1 (sync_again pool a.0)
request_again line (Offline pool device false) a =
    line_again 111 (codes "ffline") line _ _ refl refl a.2 (lasting_again pool device a.0 a.1)
request_again line (Offline pool device true) a =
    line_again 111 (codes "ffline") line _ _ refl refl a.2 (temporary_again pool device a.0 a.1)
request_again line (Online pool device) a =
    line_again 111 (codes "nline") line _ _ refl refl a.2 (online_again pool device a.0 a.1)
request_again line (Logs pool) a =
    line_again 108 (codes "ogs") line _ _ refl refl a.1 (logs_again pool a.0)

-- a line asks one thing at most
pub one_request : (line : List ℕ) (a b : Request) → Asks line a → Asks line b → a ≡ b
one_request line a b h i = same_Some _ _ (sym (request_again line a h) ∙ request_again line b i)

-- ---- what a reader returned

pub line_found : (line : List ℕ) (result : Result Request LineFault) → Gives (λ r. r) result (request_of line) → IfOk result (Asks line)
line_found line (Ok r) gives = request_found line r gives
line_found line (Err e) gives = tt

pub line_only : (line : List ℕ) (result : Result Request LineFault) → Gives (λ r. r) result (request_of line)
    → (request : Request) → Asks line request → Gives (λ r. r) result (Some request)
line_only line result gives request asks = rw (← request_again line request asks) gives

pub line_bad : (line : List ℕ) (result : Result Request LineFault) → Gives (λ r. r) result (request_of line)
    → IsErrOf result Bad → (request : Request) → ¬ (Asks line request)
line_bad line result gives bad request asks = bad_gives result request bad (line_only line result gives request asks)
  where
    bad_gives : (result : Result Request LineFault) (request : Request) → IsErrOf result Bad → Gives (λ r. r) result (Some request) → ⊥
    bad_gives (Ok r) request bad gives = cc bad
    bad_gives (Err Bad) request bad gives = cc gives
    bad_gives (Err Memory) request bad gives = cc bad
