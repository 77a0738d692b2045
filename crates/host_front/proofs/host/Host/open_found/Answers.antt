use Rattle.std.proofs.Common.{refl, sym, ◌∙◌}
use Rattle.config_codec.specs.Fields.{config_fields}
use Rattle.host_front.proofs.Opened.{found_quiet, found_beside, found_there, none_is, some_is, spent_is, fresh_is, rooms_found, label_room}
use Rattle.host_front.proofs.Seating.{seated_on, stands_on_still}
use Rattle.host_front.proofs.host.Host.open_found.Goals as goal

pub returns-then-number-ge-LAST_NUMBER-clause-opens : goal.returns-then-number-ge-LAST_NUMBER-clause-opens
returns-then-number-ge-LAST_NUMBER-clause-opens g c = λ h bytes stands is.
    found_quiet h bytes (config_fields c.args.config) stands.keeps (rw (spent_is c.args.config.number.0 c.if-number-ge-LAST_NUMBER.true) (refl, refl))

pub returns-then-is_some-clause-opens : goal.returns-then-is_some-clause-opens
returns-then-is_some-clause-opens g c = λ h bytes stands is.
    let found = some_is _ (sym c.is_some.ensures ∙ c.if-is_some.true) in
    found_beside h bytes (config_fields c.args.config) found.0 (fresh_is c.args.config.number.0 c.if-number-ge-LAST_NUMBER.false) found.1 stands.keeps

pub find_members-found-requires-clause-first_room : goal.find_members-found-requires-clause-first_room
find_members-found-requires-clause-first_room g c = λ d is. label_room _ _ c.requires.valid.sectors.0 ((c.open_seats-seats.ensures.two _ c.requires.seated).first_room d is)

pub find_members-found-requires-clause-second_room : goal.find_members-found-requires-clause-second_room
find_members-found-requires-clause-second_room g c = λ d is. label_room _ _ c.requires.valid.sectors.0 ((c.open_seats-seats.ensures.two _ c.requires.seated).second_room d is)

pub open_on-requires-clause-seated : goal.open_on-requires-clause-seated
open_on-requires-clause-seated g c = seated_on _ _ c.find_members-found.ensures.size c.requires.seated

pub open_on-requires-clause-two : goal.open_on-requires-clause-two
open_on-requires-clause-two g c =
    rooms_found _ _ _ _ _ c.find_members-found.ensures.size c.find_members-found.ensures.first c.find_members-found.ensures.second (c.open_seats-seats.ensures.two _ c.requires.seated)

pub returns-clause-numbers : goal.returns-clause-numbers
returns-clause-numbers g c = λ name. c.open_on.ensures.numbers name ∙ c.find_members-found.ensures.numbers name

pub returns-clause-opens : goal.returns-clause-opens
returns-clause-opens g c = λ h bytes stands is.
    found_there (g.B.Bank.view c.args.bank.now).size h bytes (config_fields c.args.config) c.open_seats-seats.result c.find_members-found.result
    (fresh_is c.args.config.number.0 c.if-number-ge-LAST_NUMBER.false) (none_is _ (sym c.is_some.ensures ∙ c.if-is_some.false)) (c.open_seats-seats.ensures.is h _ stands.keeps) stands.keeps
    c.find_members-found.ensures.identifies (c.open_on.ensures.opens h bytes (stands_on_still _ _ c.find_members-found.ensures.size stands) is)
