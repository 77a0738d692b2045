-- A line, as an entry of a run, and the reply line to it.
use Rattle.std.specs.Prelude.{◌≡◌, ◌⊎◌, ℕ, List, [], ◌∷◌, ◌++◌, Option, Some, None}
use Rattle.std.specs.List.{flat_map}
use Rattle.pool_lines.specs.Grammar.{Asks}
use Rattle.pool_lines.specs.Text.{text_of}
use Rattle.pool_lines.specs.declared.refusal.Refusal.TheVariants as refusals
use Rattle.pool_lines.specs.declared.reply.Reply.{Reply}
use Rattle.pool_lines.specs.declared.request.Request.{Request}
use Rattle.pool_runs.specs.Acts.{Hears}
use Rattle.pool_runs.specs.HostRows.{acts_of}
use Rattle.pool_runs.specs.Hosts.{Host, host_by, host_along}
use Rattle.pool_runs.specs.Lines.{Asked, Asks_nothing, To_nothing, Entry}
use Rattle.script_front.specs.Asking.{asked_of}
use Rattle.script_front.specs.Telling.{Tells, refused}

-- The entry asks nothing, and its reply line is this.
pub record AsksNothing (e : Entry) (told is : Reply) : Type 0 where
  pub asks : e.asked ≡ Asks_nothing
  pub answers : e.reply ≡ To_nothing
  pub told_is : told ≡ is

-- It asks this, and is told as it is answered.
pub record AsksThis (asked : Asked) (h : Host) (e : Entry) (told : Reply) : Type 0 where
  pub asks : e.asked ≡ asked
  pub tells : Tells h asked e.reply told

-- by what is asked, where that is built
abbrev pub AsksAs : Option Asked → Host → Entry → Reply → Type 0
AsksAs None h e told = AsksNothing e told (refused refusals.NotBuilt)
AsksAs (Some asked) h e told = AsksThis asked h e told

-- The line is in the grammar, and the entry asks what it asks.
pub record IsAsked (line : List ℕ) (h : Host) (e : Entry) (told : Reply) : Type 0 where
  pub request : Request
  pub asks : Asks line request
  pub entry : AsksAs (asked_of request) h e told

-- The line is outside of the grammar.
pub record IsBad (line : List ℕ) (e : Entry) (told : Reply) : Type 0 where
  pub asks : (request : Request) → ¬ (Asks line request)
  pub entry : AsksNothing e told (refused refusals.NotBuilt)

-- The line was asked of this host as this entry, and this is its reply line; or there was no memory to read the line.
abbrev pub IsTold : (line : List ℕ) → Host → Entry → (told : Reply) → Type 0
IsTold line h e told = IsAsked line h e told ⊎ (IsBad line e told ⊎ AsksNothing e told (refused refusals.Memory))

-- Line by line the entries are those of the lines, each told of the host behind those before it, at its second.
abbrev pub AreTold : (lines : List (List ℕ)) → Host → List Entry → List Reply → Type 0
AreTold [] h [] [] = Unit {0}
AreTold [] h [] (told ∷ more) = ⊥
AreTold [] h (e ∷ entries) replies = ⊥
AreTold (line ∷ lines) h [] replies = ⊥
AreTold (line ∷ lines) h (e ∷ entries) [] = ⊥
AreTold (line ∷ lines) h (e ∷ entries) (told ∷ more) =
    IsTold line (host_by (Hears e.second) h) e told × AreTold lines (host_along (acts_of e) h) entries more

-- reply lines, each with the byte 10 that ends it
abbrev pub texts : List Reply → List ℕ
texts replies = flat_map (λ told. text_of told ++ 10 ∷ []) replies
