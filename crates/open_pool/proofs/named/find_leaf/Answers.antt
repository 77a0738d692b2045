use Rattle.std.proofs.Common.{◌≡◌, ◌+◌, suc, Some, sym, ap, ◌∙◌, refl, arith}
use Rattle.std.proofs.lemmas.Option.{slice_get-get_or}
use Rattle.std.specs.Prelude.{is_some}
use Rattle.vdev_tree.specs.Tree.{is_named, leaves}
use Rattle.open_pool.specs.State.{leaf_of}
use Rattle.open_pool.proofs.NamesFound.{found_among, has_named, named_at, none_in_few, none_more, none_named}
use Rattle.open_pool.proofs.named.find_leaf.Goals as goal

pub returns-in-Some-clause-some : goal.returns-in-Some-clause-some
returns-in-Some-clause-some c =
    let name = c.args.name.now in
    let top = c.index-tops-place.result in
    let at = slice_get-get_or c.args.tops.now c.loop-place.place top c.loop-place-test.true ∙ ap (λ t. Some t) (sym c.index-tops-place.is) in
    let one_more : 1 + c.loop-place.place ≡ suc c.loop-place.place = omega arith in
    record {
      under = top;
      at = at;
      leaf = c.in-Some.leaf.now;
      among = found_among (is_named name) (leaves top.mirror) c.in-Some.leaf.now (sym c.in-Some.ensures);
      guid_is = refl;
      dev_is = refl;
      state_is = refl;
      named = λ seats. named_at name seats 1 c.loop-place.place c.args.tops.now top c.in-Some.leaf.now c.loop-place.invariant at (sym c.in-Some.ensures)
          ∙ ap (λ i. Some (leaf_of seats i c.in-Some.leaf.now)) one_more;
    }

pub loop-place-preserved : goal.loop-place-preserved
loop-place-preserved c =
    none_more (has_named c.args.name.now) c.loop-place.place c.args.tops.now c.index-tops-place.result c.loop-place.invariant
    (slice_get-get_or c.args.tops.now c.loop-place.place c.index-tops-place.result c.loop-place-test.true ∙ ap (λ t. Some t) (sym c.index-tops-place.is))
    (ap is_some (sym c.in_default.ensures))

pub returns-clause-none : goal.returns-clause-none
returns-clause-none c = λ seats.
    none_named c.args.name.now seats 1 c.args.tops.now
    (none_in_few (has_named c.args.name.now) c.loop-place.place c.args.tops.now c.loop-place.invariant (omega arith))
