-- Why bytes gave no configuration.
use Rattle.mp_base.specs.declared.name.NameFault.{NameFault}
use Rattle.mp_base.specs.declared.name.NameFault.TheVariants as names
use Rattle.pool_config.specs.declared.unread.Unread.{Unread}
use Rattle.pool_config.specs.declared.unread.Unread.TheVariants.{NoConfig, Memory}

-- what ends a reading where this ended the reading of a name
abbrev pub unread_of : NameFault → Unread
unread_of names.Bad = NoConfig
unread_of names.Memory = Memory
