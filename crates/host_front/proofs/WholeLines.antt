-- What a line asks to write is a whole block.
use Rattle.std.proofs.Common.{◌≡◌, ℕ, ◌-◌, ◌+◌, ◌≤◌, List, Option, Some, None, length, replicate, refl, arith, inl, inr, ◌∙◌, ap, length-append, [], ◌∷◌, map, subst}
use Rattle.std.proofs.lemmas.List.{length-replicate}
use Rattle.mp_base.specs.Block.{padded, zeros, zero_block, block_bytes}
use Rattle.pool_wire.specs.declared.request.Request.{Request}
use Rattle.pool_wire.specs.declared.request.Request.TheVariants as requests
use Rattle.pool_wire.specs.Reading.{request_of}
use Rattle.pool_wire.specs.Grammar.{Asks}
use Rattle.pool_wire.specs.Words.{IsData}
use Rattle.pool_wire.proofs.Forms.{request_found}
use Rattle.host_machine.specs.Fitness.{IsWhole, AreWhole}
use Rattle.host_machine.specs.Machine.{Entry}

zero_whole : length zero_block ≡ 4096
unfolding zero_block zeros block_bytes
zero_whole = length-replicate {A = ℕ} 4096 0

padded_whole : (bytes : List ℕ) → length bytes ≤ 4096 → length (padded bytes) ≡ 4096
unfolding padded zeros block_bytes
padded_whole bytes short =
    let rest : length (replicate (4096 - length bytes) 0) ≡ 4096 - length bytes = length-replicate {A = ℕ} (4096 - length bytes) 0 in
    let all : length bytes + length (replicate (4096 - length bytes) 0) ≡ 4096 = omega arith in
    length-append bytes (replicate (4096 - length bytes) 0) ∙ all

data_whole : (text block : List ℕ) → IsData text block → length block ≡ 4096
data_whole text block (inl dash) = ap length dash.1 ∙ zero_whole
data_whole text block (inr pairs) = ap length pairs.5 ∙ padded_whole pairs.0 pairs.2

asks_whole : (line : List ℕ) (request : Request) → Asks line request → IsWhole (Some request)
asks_whole line requests.Nothing asks = tt
asks_whole line (requests.Create pool blocks first second) asks = (asks.1, asks.3, asks.4)
asks_whole line (requests.Import pool) asks = tt
asks_whole line (requests.Write pool a block) asks = data_whole asks.1 block asks.4
asks_whole line (requests.Read pool a) asks = tt
asks_whole line (requests.Sync pool) asks = tt
asks_whole line (requests.Offline pool device temporary) asks = tt
asks_whole line (requests.Online pool device) asks = tt
asks_whole line (requests.Logs pool) asks = tt

line_whole_by : (line : List ℕ) (asked : Option Request) → request_of line ≡ asked → IsWhole asked
line_whole_by line None e = tt
line_whole_by line (Some request) e = asks_whole line request (request_found line request e)

pub line_whole : (line : List ℕ) → IsWhole (request_of line)
line_whole line = line_whole_by line (request_of line) refl

pub lines_whole : (entries : List Entry) (lines : List (List ℕ)) → map (λ entry. entry.asked) entries ≡ map request_of lines → AreWhole entries
lines_whole [] lines e = tt
lines_whole (entry ∷ entries) [] e = absurd (cc)
lines_whole (entry ∷ entries) (line ∷ lines) e =
    let first : request_of line ≡ entry.asked = cc in
    let rest : map (λ (entry : Entry). entry.asked) entries ≡ map request_of lines = cc in
    (subst IsWhole first (line_whole line), lines_whole entries lines rest)
