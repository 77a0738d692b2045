-- The texts of replies, without the byte 10 that ends each.
use Rattle.std.specs.Prelude.{ℕ, List, ◌∷◌, [], ◌==◌, ◌++◌, map, decimal, codes, if◌then◌else◌}
use Rattle.std.specs.List.{flat_map}
use Rattle.mp_base.specs.declared.range.GroupRange.{GroupRange}
use Rattle.mp_base.specs.declared.refusal.Refusal.{Refusal}
use Rattle.mp_base.specs.declared.refusal.Refusal.TheVariants as refusals
use Rattle.mp_base.specs.declared.refusal.PlaceRule.{PlaceRule}
use Rattle.mp_base.specs.declared.refusal.PlaceRule.TheVariants as rules
use Rattle.mp_base.specs.declared.refusal.LeafSeen.{LeafSeen}
use Rattle.mp_base.specs.declared.refusal.Seen.{Seen}
use Rattle.mp_base.specs.declared.refusal.Seen.TheVariants.{Unreadable, Failed, Mismatch}
use Rattle.vdev_tree.specs.declared.vdev.State.{State}
use Rattle.vdev_tree.specs.declared.vdev.State.TheVariants as states
use Rattle.pool_wire.specs.Words.{block_text, with_commas}
use Rattle.pool_wire.specs.declared.reply.LeafLog.{LeafLog}
use Rattle.pool_wire.specs.declared.reply.NamedLeaf.{NamedLeaf}
use Rattle.pool_wire.specs.declared.reply.Reply.{Reply}
use Rattle.pool_wire.specs.declared.reply.Reply.TheVariants as replies

abbrev pub seen_text : Seen → List ℕ
seen_text Unreadable = codes "unreadable"
seen_text Failed = codes "failed"
seen_text Mismatch = codes "mismatch"

-- `NAME=SEEN`
abbrev pub named_leaf_text : NamedLeaf → List ℕ
named_leaf_text leaf = leaf.name ++ (codes "=" ++ seen_text leaf.seen)

-- the same where the leaf's name isn't known: its member number
abbrev pub leaf_text : LeafSeen → List ℕ
leaf_text leaf = decimal leaf.member.0 ++ (codes "=" ++ seen_text leaf.seen)

-- the state of a device
abbrev pub state_text : State → List ℕ
state_text states.Online = codes "ONLINE"
state_text states.Degraded = codes "DEGRADED"
state_text states.Faulted = codes "FAULTED"
state_text states.Offline = codes "OFFLINE"
state_text states.Removed = codes "REMOVED"
state_text states.Unavail = codes "UNAVAIL"

-- `LOW-HIGH`, or the group where the range has one
abbrev pub range_text : GroupRange → List ℕ
range_text range =
    if range.low.0 == range.high.0 then decimal range.low.0
    else decimal range.low.0 ++ (codes "-" ++ decimal range.high.0)

-- the ranges of a log, `-` where it has none
abbrev pub log_text : List GroupRange → List ℕ
log_text [] = codes "-"
log_text (range ∷ ranges) = with_commas (map range_text (range ∷ ranges))

-- ` NAME=LOG`
abbrev pub leaf_log_text : LeafLog → List ℕ
leaf_log_text leaf = 32 ∷ (leaf.name ++ (codes "=" ++ log_text leaf.log))

-- `no 10 small NEED HAS`
abbrev pub small_text : ℕ → ℕ → List ℕ
small_text need has = codes "no 10 small " ++ (decimal need ++ (32 ∷ decimal has))

-- `no 15 exhausted LEVEL INDEX LEAVES`
abbrev pub exhausted_text : ℕ → ℕ → List ℕ → List ℕ
exhausted_text level index leaves =
    codes "no 15 exhausted " ++ (decimal level ++ (32 ∷ (decimal index ++ (32 ∷ leaves))))

-- `no 16 suspended GROUP TOP FAULTS`
abbrev pub suspended_text : ℕ → ℕ → ℕ → List ℕ
suspended_text group top faults =
    codes "no 16 suspended " ++ (decimal group ++ (32 ∷ (decimal top ++ (32 ∷ decimal faults))))

-- `no 17 fault DEV`, or the member's number where its device's name isn't known
abbrev pub fault_text : List ℕ → List ℕ
fault_text name = codes "no 17 fault " ++ name

-- `no 18 label DEV`, or the member's number where its device's name isn't known
abbrev pub label_text : List ℕ → List ℕ
label_text name = codes "no 18 label " ++ name

-- `no 22 limit LIMIT COUNT`
abbrev pub limit_text : ℕ → ℕ → List ℕ
limit_text limit count = codes "no 22 limit " ++ (decimal limit ++ (32 ∷ decimal count))

-- `no 26 nodevice DEV`
abbrev pub no_device_text : List ℕ → List ℕ
no_device_text name = codes "no 26 nodevice " ++ name

-- `no 7 place RULE`
abbrev pub place_text : PlaceRule → List ℕ
place_text rules.Role = codes "no 7 place role"
place_text rules.Spare = codes "no 7 place spare"
place_text rules.Twice = codes "no 7 place twice"
place_text rules.NotSpare = codes "no 7 place notspare"

abbrev pub refusal_text : Refusal → List ℕ
refusal_text refusals.NoPool = codes "no 2 pool"
refusal_text (refusals.BadAddress limit) = codes "no 3 address " ++ decimal limit
refusal_text refusals.NoVdev = codes "no 6 vdev"
refusal_text (refusals.WrongPlace rule) = place_text rule
refusal_text (refusals.Required group) = codes "no 8 required " ++ decimal group.0
refusal_text (refusals.TooSmall need has) = small_text need has
refusal_text (refusals.Exhausted level index leaves) = exhausted_text level index (with_commas (map leaf_text leaves))
refusal_text (refusals.Suspended group top faults) = suspended_text group.0 top.0 faults
refusal_text (refusals.DeviceFault member) = fault_text (decimal member.0)
refusal_text (refusals.WrongLabel member) = label_text (decimal member.0)
refusal_text refusals.Memory = codes "no 19 memory"
refusal_text refusals.NoRecord = codes "no 21 norecord"
refusal_text (refusals.TreeFull limit count) = limit_text limit count
refusal_text refusals.NotBuilt = codes "no 40 notbuilt"

abbrev pub text_of : Reply → List ℕ
text_of replies.Done = codes "ok"
text_of (replies.Committed group) = codes "ok " ++ decimal group.0
text_of (replies.Data block) = codes "ok " ++ block_text block
text_of (replies.State state) = codes "ok " ++ state_text state
text_of (replies.Logs leaves) = codes "ok" ++ flat_map leaf_log_text leaves
text_of (replies.Refused refusal) = refusal_text refusal
text_of (replies.Exhausted level index leaves) = exhausted_text level index (with_commas (map named_leaf_text leaves))
text_of (replies.DeviceFault name) = fault_text name
text_of (replies.WrongLabel name) = label_text name
text_of (replies.NoDevice name) = no_device_text name
