use Rattle.std.proofs.Common.{arith, sym, ◌∙◌, ap, ltb}
use Rattle.block_map.specs.Bits.{holds_some}
use Rattle.block_map.proofs.Counted.{count_none}
use Rattle.block_map.proofs.number_set.NumberSet.new.Goals as goal

pub invariant_of-result : goal.invariant_of-result
unfolding holds_some
invariant_of-result c = record {
  some = λ w. c.in_ok-words.ensures.none w ∙ sym (ap (λ n. ltb 0 n) (c.in_ok-members.ensures.words w));
  none_below = λ w _. c.in_ok-words.ensures.none w;
  counted = sym (count_none _ _ (λ i _. c.in_ok-members.ensures.none i));
  room = omega (arith, c.in_ok-members.ensures.size, c.in_ok-words.ensures.size);
  small = omega (arith, c.in_ok-members.ensures.size);
  small_words = omega (arith, c.in_ok-words.ensures.size);
}
