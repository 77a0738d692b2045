use Rattle.std.proofs.Common.{◌≡◌, take, Result, Ok, Err, refl, sym, ap, ◌∙◌, arith}
use Rattle.std.specs.Option.{option_map}
use Rattle.std.specs.Result.{IsErrAnd}
use Rattle.std.proofs.lemmas.List.{length-take-le}
use Rattle.mp_base.specs.declared.place.Pointer.{Pointer}
use Rattle.pool_config.specs.Seen.{parts_seen}
use Rattle.pool_config.specs.Spelling.{config_bytes, whole_sectors}
use Rattle.pool_config.proofs.Deciding.{back, short}
use Rattle.pool_codec.specs.Codecs.{head_of, head_of_seen}
use Rattle.txg_engine.specs.declared.seat.Numbers.{Numbers}
use Rattle.txg_engine.specs.declared.seat.Suspended.{Suspended}
use Rattle.open_pool.specs.declared.turn.TurnDone.{TurnDone}
use Rattle.open_pool.specs.Turning.{closed_as}
use Rattle.open_pool.proofs.RecordSealed.{is_cut}
use Rattle.open_pool.proofs.turn.close_next.Goals as goal

err_is : (r : Result TurnDone Suspended) (e : Suspended) → IsErrAnd r (λ x. x ≡ e) → r ≡ Err e
err_is (Ok x) e is = absurd is
err_is (Err x) e is = ap Err is

pub next_multiple_of-requires-clause-fits : goal.next_multiple_of-requires-clause-fits
next_multiple_of-requires-clause-fits g c =
    let stop = c.encode_into-length.ensures.stop in
    let low = short (parts_seen c.args.title.now.pool c.args.title.now.name.now c.args.title.now.blocks c.numbers.result.last c.args.title.now.next c.root-root.result c.args.tops.now c.args.title.now.spares.now)
    (rw (c.numbers.ensures, c.root-root.ensures) (c.requires.valid)) in
    omega (arith, low, stop)

pub slice_bounds-blob-end : goal.slice_bounds-blob-end
slice_bounds-blob-end g c =
    let stop = c.encode_into-length.ensures.stop in
    let low = short (parts_seen c.args.title.now.pool c.args.title.now.name.now c.args.title.now.blocks c.numbers.result.last c.args.title.now.next c.root-root.result c.args.tops.now c.args.title.now.spares.now)
    (rw (c.numbers.ensures, c.root-root.ensures) (c.requires.valid)) in
    let upper = c.next_multiple_of.ensures.upper_bound in
    let auto = c.encode_into-length.auto.out in
    let part = c.requires.part in
    omega (arith, low, stop, upper, auto, part)

pub slice_bounds-blob-end-2 : goal.slice_bounds-blob-end-2
slice_bounds-blob-end-2 g c =
    let stop = c.encode_into-length.ensures.stop in
    let low = short (parts_seen c.args.title.now.pool c.args.title.now.name.now c.args.title.now.blocks c.numbers.result.last c.args.title.now.next c.root-root.result c.args.tops.now c.args.title.now.spares.now)
    (rw (c.numbers.ensures, c.root-root.ensures) (c.requires.valid)) in
    let upper = c.next_multiple_of.ensures.upper_bound in
    let auto = c.encode_into-length.auto.out in
    let part = c.requires.part in
    sym (length-take-le c.next_multiple_of.result c.encode_into-length.new.out (omega (arith, low, stop, upper, auto, part)))

pub close_turn-requires-clause-sealed : goal.close_turn-requires-clause-sealed
close_turn-requires-clause-sealed g c =
    (is_cut (parts_seen c.args.title.now.pool c.args.title.now.name.now c.args.title.now.blocks c.numbers.result.last c.args.title.now.next c.root-root.result c.args.tops.now c.args.title.now.spares.now)
    c.args.config.now (take c.next_multiple_of.result c.encode_into-length.new.out) c.encode_into-length.result
    (rw (c.numbers.ensures, c.root-root.ensures) (c.requires.valid)) c.encode_into-length.ensures.stop
    (ap (λ n. take n c.encode_into-length.new.out) c.next_multiple_of.ensures.value
    ∙ ap (take (whole_sectors c.encode_into-length.result)) c.encode_into-length.ensures.bytes)).sealed

pub close_turn-requires-clause-headed : goal.close_turn-requires-clause-headed
close_turn-requires-clause-headed g c =
    let cut = is_cut (parts_seen c.args.title.now.pool c.args.title.now.name.now c.args.title.now.blocks c.numbers.result.last c.args.title.now.next c.root-root.result c.args.tops.now c.args.title.now.spares.now)
    c.args.config.now (take c.next_multiple_of.result c.encode_into-length.new.out) c.encode_into-length.result
    (rw (c.numbers.ensures, c.root-root.ensures) (c.requires.valid)) c.encode_into-length.ensures.stop
    (ap (λ n. take n c.encode_into-length.new.out) c.next_multiple_of.ensures.value
    ∙ ap (take (whole_sectors c.encode_into-length.result)) c.encode_into-length.ensures.bytes) in
    record {
      head = head_of_seen (parts_seen c.args.title.now.pool c.args.title.now.name.now c.args.title.now.blocks c.numbers.result.last c.args.title.now.next c.root-root.result c.args.tops.now c.args.title.now.spares.now);
      reads = ap head_of cut.bytes ∙ ap (option_map head_of_seen) (back (parts_seen c.args.title.now.pool c.args.title.now.name.now c.args.title.now.blocks c.numbers.result.last c.args.title.now.next c.root-root.result c.args.tops.now c.args.title.now.spares.now) (rw (c.numbers.ensures, c.root-root.ensures) (c.requires.valid)));
      pool_is = refl;
      number_is = ap (λ (n : Numbers). n.last) c.numbers.ensures;
    }

pub returns-in_err-number-clause-turn : goal.returns-in_err-number-clause-turn
returns-in_err-number-clause-turn g c =
    let cut = is_cut (parts_seen c.args.title.now.pool c.args.title.now.name.now c.args.title.now.blocks c.numbers.result.last c.args.title.now.next c.root-root.result c.args.tops.now c.args.title.now.spares.now)
    c.args.config.now (take c.next_multiple_of.result c.encode_into-length.new.out) c.encode_into-length.result
    (rw (c.numbers.ensures, c.root-root.ensures) (c.requires.valid)) c.encode_into-length.ensures.stop
    (ap (λ n. take n c.encode_into-length.new.out) c.next_multiple_of.ensures.value
    ∙ ap (take (whole_sectors c.encode_into-length.result)) c.encode_into-length.ensures.bytes) in
    let same = ap (λ (n : Numbers). parts_seen c.args.title.now.pool c.args.title.now.name.now c.args.title.now.blocks n.last c.args.title.now.next c.root-root.result c.args.tops.now c.args.title.now.spares.now) c.numbers.ensures
    ∙ ap (λ (r : Pointer). parts_seen c.args.title.now.pool c.args.title.now.name.now c.args.title.now.blocks c.args.frozen.now.numbers.last c.args.title.now.next r c.args.tops.now c.args.title.now.spares.now) c.root-root.ensures in
    record {
      commit = record { pool = c.args.title.now.pool; number = c.args.frozen.now.numbers.last; blob = take c.next_multiple_of.result c.encode_into-length.new.out; length = c.encode_into-length.result };
      draws = record { pool = refl; number = refl; bytes = cut.bytes ∙ ap config_bytes same; sealed = cut.sealed; valid = c.requires.valid };
      outcome = c.close_turn.result;
      turn = c.close_turn.ensures.turn;
      says = err_is c.from_residual.result c.in_err-number.field-0.0 c.from_residual.ensures.1 ∙ ap closed_as (sym c.in_err-number.was);
    }

pub returns-in-Committed-clause-turn : goal.returns-in-Committed-clause-turn
returns-in-Committed-clause-turn g c =
    let cut = is_cut (parts_seen c.args.title.now.pool c.args.title.now.name.now c.args.title.now.blocks c.numbers.result.last c.args.title.now.next c.root-root.result c.args.tops.now c.args.title.now.spares.now)
    c.args.config.now (take c.next_multiple_of.result c.encode_into-length.new.out) c.encode_into-length.result
    (rw (c.numbers.ensures, c.root-root.ensures) (c.requires.valid)) c.encode_into-length.ensures.stop
    (ap (λ n. take n c.encode_into-length.new.out) c.next_multiple_of.ensures.value
    ∙ ap (take (whole_sectors c.encode_into-length.result)) c.encode_into-length.ensures.bytes) in
    let same = ap (λ (n : Numbers). parts_seen c.args.title.now.pool c.args.title.now.name.now c.args.title.now.blocks n.last c.args.title.now.next c.root-root.result c.args.tops.now c.args.title.now.spares.now) c.numbers.ensures
    ∙ ap (λ (r : Pointer). parts_seen c.args.title.now.pool c.args.title.now.name.now c.args.title.now.blocks c.args.frozen.now.numbers.last c.args.title.now.next r c.args.tops.now c.args.title.now.spares.now) c.root-root.ensures in
    record {
      commit = record { pool = c.args.title.now.pool; number = c.args.frozen.now.numbers.last; blob = take c.next_multiple_of.result c.encode_into-length.new.out; length = c.encode_into-length.result };
      draws = record { pool = refl; number = refl; bytes = cut.bytes ∙ ap config_bytes same; sealed = cut.sealed; valid = c.requires.valid };
      outcome = c.close_turn.result;
      turn = c.close_turn.ensures.turn;
      says = ap closed_as (sym (c.in_ok-number.was ∙ ap Ok c.in-Committed.is));
    }

pub returns-in-Round-clause-turn : goal.returns-in-Round-clause-turn
returns-in-Round-clause-turn g c =
    let cut = is_cut (parts_seen c.args.title.now.pool c.args.title.now.name.now c.args.title.now.blocks c.numbers.result.last c.args.title.now.next c.root-root.result c.args.tops.now c.args.title.now.spares.now)
    c.args.config.now (take c.next_multiple_of.result c.encode_into-length.new.out) c.encode_into-length.result
    (rw (c.numbers.ensures, c.root-root.ensures) (c.requires.valid)) c.encode_into-length.ensures.stop
    (ap (λ n. take n c.encode_into-length.new.out) c.next_multiple_of.ensures.value
    ∙ ap (take (whole_sectors c.encode_into-length.result)) c.encode_into-length.ensures.bytes) in
    let same = ap (λ (n : Numbers). parts_seen c.args.title.now.pool c.args.title.now.name.now c.args.title.now.blocks n.last c.args.title.now.next c.root-root.result c.args.tops.now c.args.title.now.spares.now) c.numbers.ensures
    ∙ ap (λ (r : Pointer). parts_seen c.args.title.now.pool c.args.title.now.name.now c.args.title.now.blocks c.args.frozen.now.numbers.last c.args.title.now.next r c.args.tops.now c.args.title.now.spares.now) c.root-root.ensures in
    record {
      commit = record { pool = c.args.title.now.pool; number = c.args.frozen.now.numbers.last; blob = take c.next_multiple_of.result c.encode_into-length.new.out; length = c.encode_into-length.result };
      draws = record { pool = refl; number = refl; bytes = cut.bytes ∙ ap config_bytes same; sealed = cut.sealed; valid = c.requires.valid };
      outcome = c.close_turn.result;
      turn = c.close_turn.ensures.turn;
      says = ap closed_as (sym (c.in_ok-number.was ∙ ap Ok c.in-Round.is));
    }
