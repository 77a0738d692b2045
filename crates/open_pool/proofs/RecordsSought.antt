-- What a look at all labels found is what an opening takes.
use Rattle.std.proofs.Common.{◌≡◌, ℕ, ◌+◌, ◌≤◌, ◌<◌, nat_le, true, false, List, Option, Some, Ok, Err, None, sym, ap, subst, refl, ◌∙◌, arith}
use Rattle.std.proofs.lemmas.Bool.Decides.{nat_tests}
use Rattle.std.proofs.lemmas.Option.{none-some, same_Some}
use Rattle.std.specs.Option.{option_map}
use Rattle.bank_core.specs.BankView.{BankView}
use Rattle.label_store.specs.declared.found.Found.{Found}
use Rattle.label_store.specs.declared.rule.Head.{Head}
use Rattle.label_store.specs.Newest.{FindsNewest, IsBest, IsTop, Parts}
use Rattle.pool_config.specs.Reading.{config_in}
use Rattle.pool_config.specs.Seen.{ConfigSeen}
use Rattle.pool_codec.specs.Codecs.{pool_codec, head_of_seen}
use Rattle.pool_moves.specs.OpeningRow.{last_numbers, taken_by, seek_reply}
use Rattle.txg_history.specs.Looks.{AreDistinct, HaveRoom}
use Rattle.open_pool.specs.declared.seeking.SeekFault.TheVariants as fault
use Rattle.open_pool.specs.Seeking.{seek_says, Seeks, HasConfig}

module _ (devs name : List ℕ) (old new : BankView) (distinct : AreDistinct devs) (room : HaveRoom old.size devs) (best : Option Found)
    (finds : FindsNewest pool_codec.head_of old.size devs name old new best) where
  sought : Seeks devs name (seek_says (seek_reply best)) old new
  sought = record {
    made = finds.made;
    calls = finds.calls;
    reply = seek_reply best;
    row = record { distinct = distinct; room = room; looks = finds.looks; look = finds.look; best = best; is_best = finds.is_best; replies = refl };
    says_so = refl;
  }

  pub takes_none : (found : Found) → best ≡ Some found → last_numbers ≤ found.number.0
      → Seeks devs name (Err (fault.NumbersEnd last_numbers (found.number.0 + 1))) old new
  takes_none found is last = subst (λ a. Seeks devs name a old new)
      (ap (λ b. seek_says (seek_reply b)) is ∙ ap (λ t. seek_says (taken_by t found)) (at_end found.number.0 last)) sought
    where
      at_end : (n : ℕ) → last_numbers ≤ n → nat_le last_numbers n ≡ true
      at_end n le = grind (arith, nat_tests)

  pub takes_it : (found : Found) → best ≡ Some found → found.number.0 < last_numbers → Seeks devs name (Ok found) old new
  takes_it found is before = subst (λ a. Seeks devs name a old new)
      (ap (λ b. seek_says (seek_reply b)) is ∙ ap (λ t. seek_says (taken_by t found)) (not_end found.number.0 before)) sought
    where
      not_end : (n : ℕ) → n < last_numbers → nat_le last_numbers n ≡ false
      not_end n lt = grind (arith, nat_tests)

-- what is verified of a record has its configuration
read_as : (config : Option ConfigSeen) (head : Head) → option_map head_of_seen config ≡ Some head → (c : ConfigSeen) × (config ≡ Some c) × (head_of_seen c ≡ head)
read_as None head is = absurd (none-some head is)
read_as (Some c) head is = (c, refl, same_Some (head_of_seen c) head is)

pub has_config : (looks : List Parts) (name : List ℕ) (n : ℕ) (best : Option Found) (found : Found) → IsBest pool_codec.head_of looks name n best
    → best ≡ Some found → HasConfig name found
has_config looks name n best found is_best is =
    let top : IsTop pool_codec.head_of looks name n found = subst (IsBest pool_codec.head_of looks name n) is is_best in
    let verified = top.candidate.verified in
    let c = read_as (config_in found.blob.items) verified.head verified.reads in
    record {
      config = c.0;
      reads = c.1;
      name_is = ap (λ (h : Head). h.name) c.2 ∙ verified.name_is;
      pool_is = ap (λ (h : Head). h.pool) c.2 ∙ verified.pool_is ∙ sym top.pool_is;
      number_is = ap (λ (h : Head). h.number) c.2 ∙ verified.number_is ∙ sym top.number_is;
    }
