use Rattle.std.proofs.Common.{ap, ◌∙◌}
use Rattle.std.specs.Prelude.{slice_index}
use Rattle.bank_files.specs.Asked.{place_in}
use Rattle.bank_files.proofs.Places.{one_number, number_stays, other_place}
use Rattle.bank_files.proofs.bank.FileBankBank.find.Goals as goal

pub returns-in_err-place-clause-apart : goal.returns-in_err-place-clause-apart
returns-in_err-place-clause-apart g c = one_number c.seat.new.self.asked.items c.seat.new.self.sizes

pub returns-in_default-clause-apart : goal.returns-in_default-clause-apart
returns-in_default-clause-apart g c = one_number c.seat.new.self.asked.items c.seat.new.self.sizes

pub returns-then-self-place-gt0-clause-apart : goal.returns-then-self-place-gt0-clause-apart
returns-then-self-place-gt0-clause-apart g c = one_number c.seat.new.self.asked.items c.seat.new.self.sizes

pub returns-in-Ok-Some-clause-apart : goal.returns-in-Ok-Some-clause-apart
returns-in-Ok-Some-clause-apart g c = one_number c.keep.new.self.asked.items c.keep.new.self.sizes

pub returns-in-Ok-clause-apart : goal.returns-in-Ok-clause-apart
returns-in-Ok-clause-apart g c = one_number c.seat.new.self.asked.items c.seat.new.self.sizes

pub returns-in-Err-clause-apart : goal.returns-in-Err-clause-apart
returns-in-Err-clause-apart g c = one_number c.count_lookup.new.self.asked.items c.count_lookup.new.self.sizes

pub returns-then-self-place-gt0-clause-keeps : goal.returns-then-self-place-gt0-clause-keeps
returns-then-self-place-gt0-clause-keeps g c =
    number_stays c.args.self.now.asked.items c.seat.new.self.asked.items c.args.self.now.sizes c.seat.new.self.sizes
    c.seat.ensures.stays (λ d some. ap (λ sizes. slice_index sizes d) c.seat.ensures.sizes)

pub returns-in-Ok-Some-clause-keeps : goal.returns-in-Ok-Some-clause-keeps
returns-in-Ok-Some-clause-keeps g c =
    number_stays c.args.self.now.asked.items c.keep.new.self.asked.items c.args.self.now.sizes c.keep.new.self.sizes
    (λ other place e. ap (λ asked. place_in asked.items other) c.keep.ensures.asked ∙ c.seat.ensures.stays other place e)
    (λ d some. c.keep.ensures.others d (other_place c.args.self.now.sizes c.seat.new.self.sizes d c.in-Some.place c.seat.ensures.sizes some c.if-self-place-gt0.false)
    ∙ ap (λ sizes. slice_index sizes d) c.seat.ensures.sizes)

pub returns-in-Ok-clause-keeps : goal.returns-in-Ok-clause-keeps
returns-in-Ok-clause-keeps g c =
    number_stays c.args.self.now.asked.items c.seat.new.self.asked.items c.args.self.now.sizes c.seat.new.self.sizes
    c.seat.ensures.stays (λ d some. ap (λ sizes. slice_index sizes d) c.seat.ensures.sizes)

pub returns-in-Err-clause-keeps : goal.returns-in-Err-clause-keeps
returns-in-Err-clause-keeps g c =
    number_stays c.args.self.now.asked.items c.count_lookup.new.self.asked.items c.args.self.now.sizes c.count_lookup.new.self.sizes
    (λ other place e. ap (λ asked. place_in asked.items other) c.count_lookup.ensures.asked ∙ c.seat.ensures.stays other place e)
    (λ d some. ap (λ sizes. slice_index sizes d) c.count_lookup.ensures.sizes ∙ ap (λ sizes. slice_index sizes d) c.seat.ensures.sizes)
