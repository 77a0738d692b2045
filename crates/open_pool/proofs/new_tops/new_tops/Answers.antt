use Rattle.std.proofs.Common.{◌≡◌, ◌+◌, ◌*◌, ◌≤◌, ◌++◌, ◌∷◌, [], ℕ, suc, List, length, take, sym, ap, ◌∙◌, subst, arith}
use Rattle.std.specs.Global.{Vec}
use Rattle.std.specs.Vec.{vec_len}
use Rattle.std.proofs.lemmas.List.{get_or_default, length-map, map_more}
use Rattle.pool_moves.specs.StampRow.{next_from}
use Rattle.open_pool.specs.Creating.{AreNewTops, IsNewTop, member_of, members_in, members_of}
use Rattle.open_pool.specs.declared.new_tops.NewLeaf.{NewLeaf}
use Rattle.open_pool.proofs.NewTopsBuilt.{next_more, tops_more}
use Rattle.open_pool.proofs.new_tops.new_tops.Goals as goal

next_one : (next n k was is : ℕ) → n ≡ k → next ≡ was → is ≡ suc was + k → next + (1 + n) ≡ is
next_one next n k was is many so_far counts = omega (arith, many, so_far, counts)

low_one : (next n i : ℕ) → n ≤ 8 → next ≤ 1 + 9 * i → next + (1 + n) ≤ 1 + 9 * (i + 1)
low_one next n i most low = omega (arith, most, low)

pub loop-i-preserved : goal.loop-i-preserved
loop-i-preserved g c =
    let tops = c.args.tops.now in
    let i = c.loop-i.i in
    let size = (g.B.Bank.view c.args.bank.now).size in
    let leaves = c.index-tops-i.result in
    let more = map_more (λ (ls : Vec NewLeaf). members_in ls.items) tops i leaves c.loop-i-test.true
    ∙ ap (λ (ls : Vec NewLeaf). members_of (take i tops) ++ members_in ls.items ∷ []) (sym c.index-tops-i.is) in
    let one = subst (λ (ls : List NewLeaf). IsNewTop size c.loop-i.next (members_in ls) c.in_ok-new_top.field-0) c.deref.ensures.value c.in_ok-new_top.ensures in
    let long = length-map leaves.items member_of in
    let again = c.index-tops-i-in-loop-i.result in
    let same : again ≡ leaves = c.index-tops-i-in-loop-i.is ∙ get_or_default tops i again leaves c.loop-i-test.true ∙ sym c.index-tops-i.is in
    let many : c.len.result ≡ length leaves.items =
    c.len.ensures ∙ ap (λ (ls : Vec NewLeaf). vec_len ls) same ∙ sym c.deref.ensures.len ∙ ap length c.deref.ensures.value in
    let here = ap (λ (ls : Vec NewLeaf). length ls.items) c.index-tops-i.is in
    let few = c.requires.members i leaves c.loop-i-test.true in
    let most = few.1 in
    let counts = ap (next_from 1) more ∙ next_more 1 (members_of (take i tops)) (members_in leaves.items) in
    let so_far = c.loop-i.invariant.next in
    let low = c.loop-i.invariant.low in
    record {
      tops = subst (λ ms. AreNewTops size 1 ms c.push.new.self.items) (sym more)
          (subst (AreNewTops size 1 (members_of (take i tops) ++ members_in leaves.items ∷ [])) (sym c.in_ok-push.ensures.items)
          (tops_more size 1 (members_of (take i tops)) c.loop-i.new.items c.loop-i.next (members_in leaves.items) c.in_ok-new_top.field-0
          c.loop-i.invariant.tops c.loop-i.invariant.next one));
      next = next_one c.loop-i.next c.len.result (length (members_in leaves.items)) (next_from 1 (members_of (take i tops)))
          (next_from 1 (members_of (take (i + 1) tops))) (many ∙ sym long) so_far counts;
      low = low_one c.loop-i.next c.len.result i (omega (arith, many, here, most)) low;
    }
