-- The texts of replies, without the byte 10 that ends each.
use Rattle.std.specs.Prelude.{ℕ, List, ◌∷◌, [], ◌==◌, ◌++◌, map, decimal, codes, if◌then◌else◌}
use Rattle.std.specs.List.{flat_map}
use Rattle.mp_base.specs.declared.range.GroupRange.{GroupRange}
use Rattle.mp_base.specs.declared.refusal.PlaceRule.{PlaceRule}
use Rattle.mp_base.specs.declared.refusal.PlaceRule.TheVariants as rules
use Rattle.mp_base.specs.declared.refusal.Seen.{Seen}
use Rattle.mp_base.specs.declared.refusal.Seen.TheVariants.{Unreadable, Failed, Mismatch}
use Rattle.vdev_tree.specs.declared.vdev.State.{State}
use Rattle.vdev_tree.specs.declared.vdev.State.TheVariants as states
use Rattle.pool_lines.specs.Words.{block_text, with_commas}
use Rattle.pool_lines.specs.declared.leaves.LeafLog.{LeafLog}
use Rattle.pool_lines.specs.declared.leaves.NamedLeaf.{NamedLeaf}
use Rattle.pool_lines.specs.declared.refusal.Holder.{Holder}
use Rattle.pool_lines.specs.declared.refusal.Holder.TheVariants as holders
use Rattle.pool_lines.specs.declared.refusal.Refusal.{Refusal}
use Rattle.pool_lines.specs.declared.refusal.Refusal.TheVariants as refusals
use Rattle.pool_lines.specs.declared.reply.Reply.{Reply}
use Rattle.pool_lines.specs.declared.reply.Reply.TheVariants as replies
use Rattle.pool_lines.specs.declared.reply.Turned.{Turned}
use Rattle.pool_lines.specs.declared.reply.Turned.TheVariants as turns

-- the state of a device
abbrev pub state_text : State → List ℕ
state_text states.Online = codes "ONLINE"
state_text states.Degraded = codes "DEGRADED"
state_text states.Faulted = codes "FAULTED"
state_text states.Offline = codes "OFFLINE"
state_text states.Removed = codes "REMOVED"
state_text states.Unavail = codes "UNAVAIL"

-- `LOW-HIGH`, or the group where the range has one
abbrev pub range_text : GroupRange → List ℕ
range_text range =
    if range.low.0 == range.high.0 then decimal range.low.0
    else decimal range.low.0 ++ (codes "-" ++ decimal range.high.0)

-- the ranges of a log, `-` where it has none
abbrev pub log_text : List GroupRange → List ℕ
log_text [] = codes "-"
log_text (range ∷ ranges) = with_commas (map range_text (range ∷ ranges))

-- ` NAME=LOG`
abbrev pub leaf_log_text : LeafLog → List ℕ
leaf_log_text leaf = 32 ∷ (leaf.name ++ (codes "=" ++ log_text leaf.log))

-- what a turn did
abbrev pub turned_text : Turned → List ℕ
turned_text turns.Idle = codes "ok idle"
turned_text turns.Write = codes "ok write"
turned_text turns.Flush = codes "ok flush"
turned_text (turns.Round group) = codes "ok round " ++ decimal group.0
turned_text (turns.Committed group) = codes "ok committed " ++ decimal group.0

-- which rule on places forbids it
abbrev pub rule_text : PlaceRule → List ℕ
rule_text rules.Role = codes "role"
rule_text rules.Spare = codes "spare"
rule_text rules.Twice = codes "twice"
rule_text rules.NotSpare = codes "notspare"

-- what a device in use serves
abbrev pub holder_text : Holder → List ℕ
holder_text holders.SpareDevice = codes "spare"
holder_text (holders.Pool name) = name

abbrev pub seen_text : Seen → List ℕ
seen_text Unreadable = codes "unreadable"
seen_text Failed = codes "failed"
seen_text Mismatch = codes "mismatch"

-- `NAME=SEEN`
abbrev pub named_leaf_text : NamedLeaf → List ℕ
named_leaf_text leaf = leaf.name ++ (codes "=" ++ seen_text leaf.seen)

-- two numbers, and three
abbrev pub two_numbers : ℕ → ℕ → List ℕ
two_numbers one two = decimal one ++ (32 ∷ decimal two)

abbrev pub three_numbers : ℕ → ℕ → ℕ → List ℕ
three_numbers one two three = decimal one ++ (32 ∷ (decimal two ++ (32 ∷ decimal three)))

-- `LEVEL INDEX LEAVES`
abbrev pub exhausted_text : ℕ → ℕ → List NamedLeaf → List ℕ
exhausted_text level index leaves = two_numbers level index ++ (32 ∷ with_commas (map named_leaf_text leaves))

-- `no`, and the number, the word and the fields of the refusal
abbrev pub refusal_text : Refusal → List ℕ
refusal_text refusals.NoPool = codes "no 2 pool"
refusal_text (refusals.BadAddress limit) = codes "no 3 address " ++ decimal limit
refusal_text (refusals.NoSpace need free) = codes "no 4 space " ++ two_numbers need free
refusal_text refusals.GroupFull = codes "no 5 full"
refusal_text refusals.NoVdev = codes "no 6 vdev"
refusal_text (refusals.WrongPlace rule) = codes "no 7 place " ++ rule_text rule
refusal_text (refusals.Required group) = codes "no 8 required " ++ decimal group.0
refusal_text (refusals.DeviceInUse holder) = codes "no 9 inuse " ++ holder_text holder
refusal_text (refusals.TooSmall need has) = codes "no 10 small " ++ two_numbers need has
refusal_text (refusals.Exhausted level index leaves) = codes "no 15 exhausted " ++ exhausted_text level index leaves
refusal_text (refusals.Suspended group top faults) = codes "no 16 suspended " ++ three_numbers group.0 top.0 faults
refusal_text (refusals.DeviceFault device) = codes "no 17 fault " ++ device
refusal_text (refusals.WrongLabel device) = codes "no 18 label " ++ device
refusal_text refusals.Memory = codes "no 19 memory"
refusal_text (refusals.GroupInFlight group) = codes "no 20 inflight " ++ decimal group.0
refusal_text refusals.NoRecord = codes "no 21 norecord"
refusal_text (refusals.TreeFull limit count) = codes "no 22 limit " ++ two_numbers limit count
refusal_text refusals.NameTaken = codes "no 25 taken"
refusal_text (refusals.NoDevice device) = codes "no 26 nodevice " ++ device
refusal_text refusals.NotBuilt = codes "no 40 notbuilt"

abbrev pub text_of : Reply → List ℕ
text_of replies.Done = codes "ok"
text_of (replies.Numbered group) = codes "ok " ++ decimal group.0
text_of (replies.Data block) = codes "ok " ++ block_text block
text_of (replies.State state) = codes "ok " ++ state_text state
text_of (replies.Logs leaves) = codes "ok" ++ flat_map leaf_log_text leaves
text_of (replies.Turned turned) = turned_text turned
text_of (replies.Refused refusal) = refusal_text refusal
