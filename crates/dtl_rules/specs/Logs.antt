-- Extents, and the three logs of a vdev.
use Rattle.std.specs.Prelude.{ℕ, Bool, true}
use Rattle.group_set.specs.Groups.{holds}
use Rattle.vdev_tree.specs.declared.vdev.Vdev.{Vdev}
use Rattle.dtl_rules.specs.declared.logs.Extent.{Extent}
use Rattle.dtl_rules.specs.declared.logs.Extent.TheVariants.{All, Set}
use Rattle.dtl_rules.specs.declared.logs.LogKind.{LogKind}
use Rattle.dtl_rules.specs.declared.logs.LogKind.TheVariants.{Missing, Partial, Outage}
use Rattle.dtl_rules.specs.Rules.{outage, partial_log, missing_log}

-- the extent has this group
abbrev pub in_extent : Extent → ℕ → Bool
in_extent All g = true
in_extent (Set set) g = holds set g

-- the log of a vdev of this kind
abbrev pub log_of : LogKind → Vdev → ℕ → Bool
log_of Missing vdev g = missing_log vdev g
log_of Partial vdev g = partial_log vdev g
log_of Outage vdev g = outage vdev g
